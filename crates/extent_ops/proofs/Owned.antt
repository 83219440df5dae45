-- The updates of changes are of one id, and their positions rise.
use Rattle.std.proofs.Common.{◌≡◌, ℕ, Option, List, [], ◌∷◌, map, refl, sym, ap, ◌∙◌}
use Rattle.std.specs.Prelude.{All}
use Rattle.std.specs.List.{AllByRecursion}
use Rattle.std.specs.List.Sorted.{IsStrictlySortedBy}
use Rattle.std.specs.Map.{keys_of}
use Rattle.std.specs.Ordering.{nat_cmp, ordering_then}
use Rattle.std.specs.declared.cmp.Ordering.TheVariants.{Less, Equal}
use Rattle.std.specs.Cmp.{nat_cmp_is}
use Rattle.std.proofs.lemmas.List.Elements.{All-cons, All-nil}
use Rattle.vol_types.specs.Maps.{IsMap}
use Rattle.vol_types.specs.Positions.{pos_cmp}
use Rattle.vol_types.specs.declared.keys.Update.{Update}
use Rattle.vol_types.specs.declared.positions.Btree.TheVariants.{Extents}
use Rattle.vol_types.specs.declared.positions.Pos.{Pos}
use Rattle.vol_types.specs.declared.values.Value.{Value}
use Rattle.extent_ops.specs.Content.{AreOfContent}
use Rattle.extent_ops.specs.Cutting.{collected, update_at, updates_of}
use Rattle.extent_ops.specs.declared.cutting.Change.{Change}
use Rattle.extent_ops.proofs.Keyed.{IsMap-collected}

module _ (file id : ℕ) where
  each_own : (entries : List (ℕ × Option Value)) → All (λ (update : Update). (update.btree ≡ Extents) × (update.level ≡ 0) × (update.pos.snapshot ≡ id)) (map (update_at file id) entries)
  each_own [] = All-nil (λ (update : Update). (update.btree ≡ Extents) × (update.level ≡ 0) × (update.pos.snapshot ≡ id))
  each_own (e ∷ es) = All-cons (λ (update : Update). (update.btree ≡ Extents) × (update.level ≡ 0) × (update.pos.snapshot ≡ id)) (update_at file id e) (map (update_at file id) es) (refl, refl, refl) (each_own es)

  -- positions of the file in the id are in the order of their offsets
  same_order : (a b : ℕ) → nat_cmp a b ≡ Less → pos_cmp (record { inode = file; offset = a; snapshot = id }) (record { inode = file; offset = b; snapshot = id }) ≡ Less
  same_order a b less = ap (λ r. ordering_then r (ordering_then (nat_cmp a b) (nat_cmp id id))) (sym (nat_cmp_is file file Equal refl)) ∙ ap (λ r. ordering_then r (nat_cmp id id)) less

  each_later : (a : ℕ) (entries : List (ℕ × Option Value)) → AllByRecursion (λ y. nat_cmp a y ≡ Less) (keys_of entries)
      → AllByRecursion (λ (y : Pos). pos_cmp (record { inode = file; offset = a; snapshot = id }) y ≡ Less) (map (λ (update : Update). update.pos) (map (update_at file id) entries))
  each_later a [] all = tt
  each_later a (e ∷ es) all = (same_order a e.0 all.0, each_later a es all.1)

  positions_rise : (entries : List (ℕ × Option Value)) → IsMap nat_cmp entries → IsStrictlySortedBy pos_cmp (map (λ (update : Update). update.pos) (map (update_at file id) entries))
  unfolding IsStrictlySortedBy
  positions_rise [] rises = tt
  positions_rise (e ∷ es) rises = (each_later e.0 es rises.0, positions_rise es rises.1)

  -- The updates of changes are such ones.
  pub own_updates : (changes : List Change) → AreOfContent id (updates_of file id changes)
  unfolding IsStrictlySortedBy
  own_updates changes = record { each = each_own (collected [] changes); rise = positions_rise (collected [] changes) (IsMap-collected changes [] tt) }

pub own_none : (id : ℕ) → AreOfContent id []
unfolding IsStrictlySortedBy
own_none id = record { each = All-nil (λ (update : Update). (update.btree ≡ Extents) × (update.level ≡ 0) × (update.pos.snapshot ≡ id)); rise = tt }
