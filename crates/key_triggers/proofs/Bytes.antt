-- How many bytes expanded updates take: those of the given ones, and some for each pointer that comes or goes.
use Rattle.std.proofs.Common.{◌≡◌, ℕ, ◌+◌, ◌*◌, ◌/◌, ◌≤◌, Bool, true, false, cond, Option, Some, None, List, [], ◌∷◌, ◌++◌, length, map, refl, sym, ap, ◌∙◌, subst, arith, All}
use Rattle.std.specs.Prelude.{IfSome, option_map}
use Rattle.std.specs.Ordering.{match_ordering}
use Rattle.std.specs.BTreeMap.{is_at}
use Rattle.std.specs.declared.cmp.Ordering.{Ordering}
use Rattle.std.specs.declared.cmp.Ordering.TheVariants.{Less, Equal, Greater}
use Rattle.std.proofs.lemmas.Bool.{true≢false}
use Rattle.std.proofs.lemmas.List.{length-map}
use Rattle.std.proofs.lemmas.List.Elements.{All-head, All-tail}
use Rattle.std.proofs.lemmas.List.Sums.{sum_by-append, sum_by-cons}
use Rattle.std.proofs.lemmas.Map.Entries.{All-lookup}
use Rattle.vol_types.specs.KeyMaps.{KeyMap, is_update_of, value_in}
use Rattle.vol_types.specs.Lengths.{key_length_of}
use Rattle.vol_types.specs.Maps.{with_value}
use Rattle.vol_types.specs.Positions.{pos_cmp}
use Rattle.vol_types.specs.Ranges.{IsKeyValue, IsValue}
use Rattle.vol_types.specs.Standing.{IsUpdate, Stands}
use Rattle.vol_types.specs.declared.keys.Update.{Update}
use Rattle.vol_types.specs.declared.pointers.Pointer.{Pointer}
use Rattle.vol_types.specs.declared.positions.Btree.{Btree}
use Rattle.vol_types.specs.declared.positions.Btree.TheVariants.{Extents}
use Rattle.vol_types.specs.declared.positions.Pos.{Pos}
use Rattle.vol_types.specs.declared.values.Value.{Value}
use Rattle.vol_types.specs.declared.values.Value.TheVariants as values
use Rattle.key_triggers.specs.Bounds.{bytes_in, extents_changed, pointers_changed, pointers_in_all, update_bytes}
use Rattle.key_triggers.specs.Changes.{Values, noted, pointers_in, values_after, values_before}
use Rattle.key_triggers.specs.Expanding.{expanded, owners_of, tallies_of}
use Rattle.key_triggers.specs.Owners.{Owners, owner_update}
use Rattle.key_triggers.specs.Stamps.{stamped, stamped_pointer, stamped_value}
use Rattle.key_triggers.specs.Tallies.{Tallies, live_update}
use Rattle.key_triggers.proofs.Few.{owners_few, tallies_few}

-- A value in range has at most three pointers.
three_copies : (value : Option Value) → IsKeyValue value → length (pointers_in value) ≤ 3
three_copies None is = omega arith
three_copies (Some (values.Extent extent)) is = omega (arith, is.copies.1)
three_copies (Some (values.Inode inode)) is = omega arith
three_copies (Some (values.Names links)) is = omega arith
three_copies (Some (values.Hole blocks)) is = omega arith
three_copies (Some values.White) is = omega arith
three_copies (Some (values.Subs subs)) is = omega arith
three_copies (Some (values.Snap snap)) is = omega arith
three_copies (Some (values.Live live)) is = omega arith
three_copies (Some (values.Back extent)) is = omega arith
three_copies (Some values.Gone) is = omega arith
three_copies (Some (values.Counter next)) is = omega arith
three_copies (Some (values.Node node)) is = omega arith

pointers_with : (key : Pos) (value : Option Value) (entries : Values) → pointers_in_all (with_value pos_cmp key value entries) ≤ length (pointers_in value) + pointers_in_all entries
pointers_with key value [] = omega arith
pointers_with key value (e ∷ es) = by (pos_cmp key e.0) (pointers_with key value es)
  where
    by : (r : Ordering) → pointers_in_all (with_value pos_cmp key value es) ≤ length (pointers_in value) + pointers_in_all es
        → pointers_in_all (match_ordering r ((key, value) ∷ e ∷ es) ((e.0, value) ∷ es) (e ∷ with_value pos_cmp key value es)) ≤ length (pointers_in value) + pointers_in_all (e ∷ es)
    by Less later = omega arith
    by Equal later = omega arith
    by Greater later = omega (arith, later)

noted_few : (update : Update) (value : Option Value) (entries : Values) → length (pointers_in value) ≤ 3 → pointers_in_all (noted update value entries) ≤ pointers_in_all entries + 3 * cond (is_update_of Extents update) 1 0
noted_few update value entries three = by (is_update_of Extents update)
  where
    by : (b : Bool) → pointers_in_all (cond b (with_value pos_cmp update.pos value entries) entries) ≤ pointers_in_all entries + 3 * cond b 1 0
    by true = omega (arith, pointers_with update.pos value entries, three)
    by false = omega arith

after_few : (updates : List Update) (entries : Values) → All IsUpdate updates → pointers_in_all (values_after updates entries) ≤ pointers_in_all entries + 3 * extents_changed updates
after_few [] entries all = omega arith
after_few (update ∷ updates) entries all =
    omega (arith, after_few updates (noted update update.value entries) (All-tail IsUpdate update updates all), noted_few update update.value entries (three_copies update.value (All-head IsUpdate update updates all).in_range))

module _ (keys : KeyMap) where
  value_fits : All (λ (entry : Pos × Value). IsValue entry.1) keys.extents → (pos : Pos) → IsKeyValue (value_in keys Extents pos)
  value_fits fit pos = by (value_in keys Extents pos) (All-lookup IsValue (is_at (pos_cmp pos)) keys.extents fit)
    where
      by : (value : Option Value) → IfSome value IsValue → IsKeyValue value
      by None is = tt
      by (Some value) is = is

  before_few : (updates : List Update) (entries : Values) → All (λ (entry : Pos × Value). IsValue entry.1) keys.extents → pointers_in_all (values_before keys updates entries) ≤ pointers_in_all entries + 3 * extents_changed updates
  before_few [] entries fit = omega arith
  before_few (update ∷ updates) entries fit =
      omega (arith, before_few updates (noted update (value_in keys Extents update.pos) entries) fit, noted_few update (value_in keys Extents update.pos) entries (three_copies (value_in keys Extents update.pos) (value_fits fit update.pos)))

  -- So updates in range take and give at most six pointers each.
  pub pointers_few : (updates : List Update) → All IsUpdate updates → All (λ (entry : Pos × Value). IsValue entry.1) keys.extents → pointers_changed keys updates ≤ 6 * extents_changed updates
  pointers_few updates all fit = omega (arith, before_few updates [] fit, after_few updates [] all)

  -- Present generations take no more bytes,
  stamped_bytes : (value : Option Value) → key_length_of (option_map (stamped_value keys) value) ≡ key_length_of value
  stamped_bytes None = refl
  stamped_bytes (Some (values.Extent extent)) = ap (λ n. 21 + (2 + 9 * n + 8 * length extent.digests)) (length-map {B = Pointer} extent.pointers (stamped_pointer keys))
  stamped_bytes (Some (values.Inode inode)) = refl
  stamped_bytes (Some (values.Names links)) = refl
  stamped_bytes (Some (values.Hole blocks)) = refl
  stamped_bytes (Some values.White) = refl
  stamped_bytes (Some (values.Subs subs)) = refl
  stamped_bytes (Some (values.Snap snap)) = refl
  stamped_bytes (Some (values.Live live)) = refl
  stamped_bytes (Some (values.Back extent)) = refl
  stamped_bytes (Some values.Gone) = refl
  stamped_bytes (Some (values.Counter next)) = refl
  stamped_bytes (Some (values.Node node)) = refl

  all_stamped : (updates : List Update) → bytes_in (map (stamped keys) updates) ≡ bytes_in updates
  all_stamped [] = refl
  all_stamped (update ∷ updates) = sum_by-cons update_bytes (stamped keys update) (map (stamped keys) updates) ∙ (λ i. (2 + stamped_bytes update.value i) + all_stamped updates i) ∙ sym (sum_by-cons update_bytes update updates)

  -- a bucket's key takes 28,
  lives_bytes : (tallies : Tallies) → bytes_in (map (live_update keys) tallies) ≡ 28 * length tallies
  lives_bytes [] = refl
  lives_bytes (tally ∷ tallies) = let later = lives_bytes tallies in omega (arith, later, sum_by-cons update_bytes (live_update keys tally) (map (live_update keys) tallies))

-- and a block's key at most 43.
owner_bytes : (owner : Option Pos) → key_length_of (option_map values.Back owner) ≤ 41
owner_bytes None = omega arith
owner_bytes (Some owner) = omega arith

owners_bytes : (owners : Owners) → bytes_in (map owner_update owners) ≤ 43 * length owners
owners_bytes [] = omega arith
owners_bytes (owner ∷ owners) = let later = owners_bytes owners in omega (arith, later, owner_bytes owner.1, sum_by-cons update_bytes (owner_update owner) (map owner_update owners))

pub expanded_bytes : (keys : KeyMap) (updates : List Update) → bytes_in (expanded keys updates) ≤ bytes_in updates + 71 * pointers_changed keys updates
expanded_bytes keys updates = omega (
  arith,
  tallies_few keys updates,
  owners_few keys updates,
  all_stamped keys updates,
  lives_bytes keys (tallies_of keys updates),
  owners_bytes (owners_of keys updates),
  sum_by-append update_bytes (map (stamped keys) updates ++ map (live_update keys) (tallies_of keys updates)) (map owner_update (owners_of keys updates)),
  sum_by-append update_bytes (map (stamped keys) updates) (map (live_update keys) (tallies_of keys updates)),
)

-- An update of an extent or a hole takes at most 180 bytes.
value_bytes : (value : Option Value) → Stands Extents 0 value → IsKeyValue value → 2 + key_length_of value ≤ 180
value_bytes None may is = omega arith
value_bytes (Some (values.Extent extent)) may is = omega (arith, is.blocks.1, is.copies.1)
value_bytes (Some (values.Hole blocks)) may is = omega arith
value_bytes (Some (values.Inode inode)) may is = absurd (true≢false (sym (may.in_leaf refl)))
value_bytes (Some (values.Names links)) may is = absurd (true≢false (sym (may.in_leaf refl)))
value_bytes (Some values.White) may is = omega arith
value_bytes (Some (values.Subs subs)) may is = absurd (true≢false (sym (may.in_leaf refl)))
value_bytes (Some (values.Snap snap)) may is = omega arith
value_bytes (Some (values.Live live)) may is = omega arith
value_bytes (Some (values.Back extent)) may is = omega arith
value_bytes (Some values.Gone) may is = omega arith
value_bytes (Some (values.Counter next)) may is = omega arith
value_bytes (Some (values.Node node)) may is = absurd (true≢false (sym (may.in_leaf refl)))

pub content_bytes : (updates : List Update) → All IsUpdate updates → All (λ (update : Update). (update.btree ≡ Extents) × (update.level ≡ 0)) updates → bytes_in updates ≤ 180 * length updates
content_bytes [] all are = omega arith
content_bytes (update ∷ updates) all are =
    let may = All-head IsUpdate update updates all in
    let of = All-head (λ (update : Update). (update.btree ≡ Extents) × (update.level ≡ 0)) update updates are in
    let here = value_bytes update.value (subst (λ (l : ℕ). Stands Extents l update.value) of.1 (subst (λ (b : Btree). Stands b update.level update.value) of.0 may.stands)) may.in_range in
    let later = content_bytes updates (All-tail IsUpdate update updates all) (All-tail (λ (update : Update). (update.btree ≡ Extents) × (update.level ≡ 0)) update updates are) in
    omega (arith, here, later, sum_by-cons update_bytes update updates)

-- So they take one entry of the journal, where they are few.
pub one_entry : (keys : KeyMap) (updates : List Update) → All IsUpdate updates → All (λ (entry : Pos × Value). IsValue entry.1) keys.extents → bytes_in updates + 426 * extents_changed updates ≤ 253000 → (mirrors : ℕ) → mirrors ≤ 3
    → (36 + 9 * (10 + 5 * mirrors) + bytes_in (expanded keys updates) + 3967) / 3968 ≤ 64
one_entry keys updates all fit few mirrors le = omega (arith, expanded_bytes keys updates, pointers_few keys updates all fit, few, le)
