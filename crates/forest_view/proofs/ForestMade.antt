-- The forest that is made of all keys is the one that they mean, where a forest can hold its counters.
use Rattle.std.proofs.Common.{◌≡◌, ℕ, ◌≤◌, List, ap, ◌∙◌, map, arith}
use Rattle.std.specs.Prelude.{min}
use Rattle.std.specs.List.{range_with_len}
use Rattle.std.proofs.lemmas.List.FromFn.{fill_by_all, get_or-map-range_with_len, length-map-range_with_len}
use Rattle.forest_ops.specs.Parts.{bare_forest}
use Rattle.key_meaning.specs.Forest.{forest_in, next_in}
use Rattle.plain_forest.specs.Forest.{Forest}
use Rattle.plain_forest.specs.Steps.{numbers_per_client}
use Rattle.vol_types.specs.KeyMaps.{IsKeyMap, KeyMap}
use Rattle.forest_view.specs.Meant.{IsMeant, no_blocks}
use Rattle.forest_view.specs.Subvolumes.{with_subvolumes}
use Rattle.forest_view.proofs.SubvolumesMade.{counts_stay, subvolumes_made}

-- what a counter stands at, or the number of a client's inode numbers where it stands higher
abbrev held : KeyMap → ℕ → ℕ
held keys client = min (next_in keys client) numbers_per_client

-- the counters are held as they stand
held_whole : (keys : KeyMap) → IsMeant keys → map (held keys) (range_with_len 0 16) ≡ map (next_in keys) (range_with_len 0 16)
held_whole keys meant =
    fill_by_all (next_in keys) (map (held keys) (range_with_len 0 16)) 16 0 (length-map-range_with_len (held keys) 0 16)
    (λ client lt. get_or-map-range_with_len (held keys) 0 16 client client 0 lt (omega arith) ∙ whole (next_in keys client) (meant.clients client lt))
  where
    whole : (n : ℕ) → n ≤ numbers_per_client → min n numbers_per_client ≡ n
    whole n le = omega (arith, le)

pub forest_made : (keys : KeyMap) → IsKeyMap keys → IsMeant keys → (next : List ℕ) (ids : ℕ) (bare made : Forest) → next ≡ map (held keys) (range_with_len 0 16) → ids ≡ next_in keys 16
    → bare ≡ bare_forest next ids → made ≡ with_subvolumes keys keys.subvols bare → made ≡ forest_in keys no_blocks
forest_made keys is meant next ids bare made next_is ids_are bare_is made_is = made_is ∙ (λ i. record { subvolumes = subvolumes i; next = counters i; ids_left = left i })
  where
    whole : Forest
    whole = with_subvolumes keys keys.subvols bare

    subvolumes : (with_subvolumes keys keys.subvols bare).subvolumes ≡ (forest_in keys no_blocks).subvolumes
    subvolumes = subvolumes_made keys is bare (ap (λ (f : Forest). f.subvolumes) bare_is)

    counters : (with_subvolumes keys keys.subvols bare).next ≡ map (next_in keys) (range_with_len 0 16)
    counters = ap (λ (p : List ℕ × ℕ). p.0) (counts_stay keys keys.subvols bare) ∙ ap (λ (f : Forest). f.next) bare_is ∙ next_is ∙ held_whole keys meant

    left : (with_subvolumes keys keys.subvols bare).ids_left ≡ next_in keys 16
    left = ap (λ (p : List ℕ × ℕ). p.1) (counts_stay keys keys.subvols bare) ∙ ap (λ (f : Forest). f.ids_left) bare_is ∙ ids_are
