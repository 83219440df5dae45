-- A volume's space has as many devices as its layout.
use Rattle.std.proofs.Common.{◌≡◌, ℕ, zero, suc, ◌+◌, Bool, true, false, cond, Option, Some, List, [], ◌∷◌, length, map, refl, ap, ◌∙◌, arith}
use Rattle.std.specs.Prelude.{◌/◌, ◌%◌, ◌==◌, drop, take}
use Rattle.std.specs.List.{fold}
use Rattle.std.proofs.lemmas.List.{length-append, length-map}
use Rattle.bucket_pool.specs.Opening.{as_live, blank, blank_device, first_bucket, holds_node, space_of, with_key, with_place, with_value}
use Rattle.bucket_pool.specs.Places.{changed}
use Rattle.bucket_pool.specs.Space.{Space}
use Rattle.vol_types.specs.Limits.{bucket_blocks}
use Rattle.vol_types.specs.declared.keys.Key.{Key}
use Rattle.vol_types.specs.declared.layout.Layout.{Layout}
use Rattle.vol_types.specs.declared.pointers.Place.{Place}
use Rattle.vol_types.specs.declared.positions.Pos.{Pos}
use Rattle.vol_types.specs.declared.values.Value.{Value}
use Rattle.vol_types.specs.declared.values.Value.TheVariants as values

length-changed : {X : Type 0} (f : X → X) (at : ℕ) (xs : List X) → length (changed f at xs) ≡ length xs
length-changed f at [] = refl
length-changed f zero (x ∷ xs) = refl
length-changed f (suc at) (x ∷ xs) = ap suc (length-changed f at xs)

-- A change of a device, or none.
length-cond : (b : Bool) (one other : Space) → length one ≡ length other → length (cond b one other) ≡ length other
length-cond true one other is = is
length-cond false one other is = refl

length-with_value : (pos : Pos) (value : Option Value) (space : Space) → length (with_value pos value space) ≡ length space
length-with_value pos (Some (values.Live live)) space = length-cond (pos.snapshot == 0) (changed (changed (as_live live) pos.offset) pos.inode space) space (length-changed (changed (as_live live) pos.offset) pos.inode space)
length-with_value pos other space = refl

length-with_place : (space : Space) (place : Place) → length (with_place space place) ≡ length space
length-with_place space place =
    length-cond (place.block % bucket_blocks == 0) (changed (changed holds_node (place.block / bucket_blocks)) place.dev space) space (length-changed (changed holds_node (place.block / bucket_blocks)) place.dev space)

length-fold : {X : Type 0} (step : Space → X → Space) → ((space : Space) (x : X) → length (step space x) ≡ length space) → (xs : List X) (space : Space) → length (fold step space xs) ≡ length space
length-fold step same [] space = refl
length-fold step same (x ∷ xs) space = length-fold step same xs (step space x) ∙ same space x

both_parts : {X : Type 0} (n : ℕ) (xs : List X) → length (take n xs) + length (drop n xs) ≡ length xs
both_parts zero xs = omega arith
both_parts (suc n) [] = refl
both_parts (suc n) (x ∷ xs) = let parts = both_parts n xs in omega (arith, parts)

length-blank : (layout : Layout) → length (blank layout) ≡ length layout.blocks
length-blank layout =
    length-append (map (blank_device (first_bucket layout.journal)) (take layout.metadata_replicas layout.blocks)) (map (blank_device 1) (drop layout.metadata_replicas layout.blocks))
    ∙ ap (λ (n : ℕ). n + length (map (blank_device 1) (drop layout.metadata_replicas layout.blocks))) (length-map (take layout.metadata_replicas layout.blocks) (blank_device (first_bucket layout.journal)))
    ∙ ap (λ (n : ℕ). length (take layout.metadata_replicas layout.blocks) + n) (length-map (drop layout.metadata_replicas layout.blocks) (blank_device 1))
    ∙ both_parts layout.metadata_replicas layout.blocks

pub length-space_of : (layout : Layout) (live : List Key) (nodes : List Place) → length (space_of layout live nodes) ≡ length layout.blocks
length-space_of layout live nodes =
    length-fold with_place length-with_place nodes (fold with_key (blank layout) live)
    ∙ length-fold with_key (λ space key. length-with_value key.pos key.value space) live (blank layout)
    ∙ length-blank layout
