-- Updates by which blocks are taken over may be made: what they put is in range.
use Rattle.std.proofs.Common.{◌≡◌, ⊎_elim, inl, inr, ℕ, ◌+◌, ◌-◌, ◌<◌, ◌≤◌, Option, Some, None, List, [], ◌∷◌, ◌++◌, drop, length, map, min, take, refl, sym, ap, ◌∙◌, subst, arith}
use Rattle.std.specs.Prelude.{All}
use Rattle.std.specs.List.Sorted.{IsStrictlySortedBy}
use Rattle.std.specs.Ordering.{nat_cmp}
use Rattle.std.proofs.lemmas.Cmp.{nat_cmp_total}
use Rattle.std.proofs.lemmas.List.{length-map}
use Rattle.std.proofs.lemmas.List.Elements.{All-cons, All-head, All-nil, All-tail}
use Rattle.std.proofs.lemmas.Option.{none-some as none_some, same_Some}
use Rattle.snap_tree.specs.Snaps.{Snaps}
use Rattle.vol_types.specs.Maps.{IsMap, value_at}
use Rattle.vol_types.specs.Ranges.{IsDevice, IsExtent, Rise}
use Rattle.vol_types.specs.Standing.{IsUpdate}
use Rattle.vol_types.specs.declared.keys.Key.{Key}
use Rattle.vol_types.specs.declared.keys.Update.{Update}
use Rattle.vol_types.specs.declared.pointers.Pointer.{Pointer}
use Rattle.vol_types.specs.declared.values.Extent.{Extent}
use Rattle.vol_types.specs.declared.values.Value.{Value}
use Rattle.vol_types.specs.declared.values.Value.TheVariants as values
use Rattle.key_meaning.specs.Blocks.{blocks_of}
use Rattle.extent_ops.specs.Above.{blocks_maybe, hole_of, holes_to_hide, swept}
use Rattle.extent_ops.specs.Content.{IsContent}
use Rattle.extent_ops.specs.Cutting.{change_of, collected, cut_all, cut_value, part_of, pointer_behind, put_part, update_at, updates_of}
use Rattle.extent_ops.specs.Stretches.{RiseFrom, outside}
use Rattle.extent_ops.specs.declared.cutting.Change.{Change}
use Rattle.extent_ops.specs.declared.stretches.Stretch.{Stretch}
use Rattle.extent_ops.proofs.Cuts.{cut-from}
use Rattle.extent_ops.proofs.Fresh.{all-member}
use Rattle.extent_ops.proofs.Gaps.{IsGap}
use Rattle.extent_ops.proofs.Hiding.{met_by, parts_above}
use Rattle.extent_ops.proofs.Keyed.{IsMap-collected, Look, changed, kept, look, member_at}
use Rattle.extent_ops.proofs.Members.{Has, has-append, has-map}
use Rattle.extent_ops.proofs.Pieces.{blocks_of-part_of}
use Rattle.extent_ops.proofs.Taken.{cut_all-has}

-- What is true of each member holds of all.
pub all-of : {X : Type 0} (P : X → Type 0) (xs : List X) → ((x : X) → Has x xs → P x) → All P xs
all-of P [] each = All-nil P
all-of P (x ∷ xs) each = All-cons P x xs (each x (inl refl)) (all-of P xs (λ y has. each y (inr has)))

collected_is : (changes : List Change) → IsMap nat_cmp (collected [] changes)
unfolding IsStrictlySortedBy
collected_is changes = IsMap-collected changes [] tt

-- What is collected comes from a change.
pub collected-has : (changes : List Change) (entry : ℕ × Option Value) → Has entry (collected [] changes) → (change : Change) × (Has change changes × (entry ≡ (change.end, change.value)))
collected-has changes entry has = by (look entry.0 changes [])
  where
    at : value_at nat_cmp entry.0 (collected [] changes) ≡ Some entry.1
    at = member_at nat_cmp nat_cmp_total entry (collected [] changes) (collected_is changes) has

    by : Look entry.0 changes None (value_at nat_cmp entry.0 (collected [] changes)) → (change : Change) × (Has change changes × (entry ≡ (change.end, change.value)))
    by (changed change there same is) = (change, (there, λ i. (sym same i, same_Some entry.1 change.value (sym at ∙ is) i)))
    by (kept none is) = absurd (none_some entry.1 (sym is ∙ at))

-- What holds of the update of each change holds of all updates.
pub updates-all : (P : Update → Type 0) (file id : ℕ) (changes : List Change) → ((change : Change) → Has change changes → P (update_at file id (change.end, change.value))) → All P (updates_of file id changes)
updates-all P file id changes each = all-of P (updates_of file id changes) (λ update has.
    let from = has-map (update_at file id) update (collected [] changes) has in
    let it = collected-has changes from.0 from.1.0 in
    subst P (sym (from.1.1 ∙ ap (update_at file id) it.1.1)) (each it.0 it.1.0))

module _ (skip : ℕ) where
  devices-behind : (pointers : List Pointer) → map (λ (p : Pointer). p.place.dev) (map (pointer_behind skip) pointers) ≡ map (λ (p : Pointer). p.place.dev) pointers
  devices-behind [] = refl
  devices-behind (pointer ∷ pointers) = ap (λ ds. pointer.place.dev ∷ ds) (devices-behind pointers)

  each_device : (pointers : List Pointer) → All (λ pointer. IsDevice pointer.place.dev) pointers → All (λ pointer. IsDevice pointer.place.dev) (map (pointer_behind skip) pointers)
  each_device [] all = All-nil (λ pointer. IsDevice pointer.place.dev)
  each_device (pointer ∷ pointers) all =
      All-cons (λ pointer. IsDevice pointer.place.dev) (pointer_behind skip pointer) (map (pointer_behind skip) pointers) (All-head (λ pointer. IsDevice pointer.place.dev) pointer pointers all)
      (each_device pointers (All-tail (λ pointer. IsDevice pointer.place.dev) pointer pointers all))

  extent-behind : (count : ℕ) (extent : Extent) → 0 < count → skip + count ≤ length extent.digests → IsExtent extent → IsExtent (record { pointers = map (pointer_behind skip) extent.pointers; digests = take count (drop skip extent.digests) })
  extent-behind count extent some le is =
      let long = blocks_of-part_of skip count (values.Extent extent) le in
      let copies : length (map (pointer_behind skip) extent.pointers) ≡ length extent.pointers = length-map {B = Pointer} extent.pointers (pointer_behind skip) in
      record {
        blocks = (omega (arith, long, some), omega (arith, long, le, is.blocks.1));
        copies = (omega (arith, is.copies.0, copies), omega (arith, is.copies.1, copies));
        each = each_device extent.pointers is.each;
        rise = subst (Rise nat_cmp) (sym (devices-behind extent.pointers)) is.rise;
      }

-- A part of a value that is in range is so too.
part-fits : (skip count : ℕ) (value : Value) → 0 < count → skip + count ≤ blocks_of value → IsContent (Some value) → IsContent (Some (part_of skip count value))
part-fits skip count (values.Extent extent) some le is = record { stands = record { in_leaf = λ leaf. refl; above = λ above. absurd (omega (arith, above)) }; in_range = extent-behind skip count extent some le is.in_range }
part-fits skip count (values.Hole blocks) some le is = record { stands = record { in_leaf = λ leaf. refl; above = λ above. absurd (omega (arith, above)) }; in_range = (omega (arith, some, le), omega (arith, is.in_range.1)) }
part-fits skip count (values.Inode x) some le is = is
part-fits skip count (values.Names x) some le is = is
part-fits skip count values.White some le is = is
part-fits skip count (values.Subs x) some le is = is
part-fits skip count (values.Snap x) some le is = is
part-fits skip count (values.Live x) some le is = is
part-fits skip count (values.Back x) some le is = is
part-fits skip count values.Gone some le is = is
part-fits skip count (values.Counter x) some le is = is
part-fits skip count (values.Node x) some le is = is

hole-fits : (blocks : ℕ) → 0 < blocks → blocks ≤ 4096 → IsContent (Some (values.Hole blocks))
hole-fits blocks some few = record { stands = record { in_leaf = λ leaf. refl; above = λ above. absurd (omega (arith, above)) }; in_range = (omega (arith, some), few) }

-- No extent or hole in range has more blocks.
pub blocks-few : (value : Option Value) → IsContent value → blocks_maybe value ≤ 4096
blocks-few None is = omega arith
blocks-few (Some (values.Extent extent)) is = let few = is.in_range.blocks.1 in omega (arith, few)
blocks-few (Some (values.Hole blocks)) is = is.in_range.1
blocks-few (Some (values.Inode x)) is = omega arith
blocks-few (Some (values.Names x)) is = omega arith
blocks-few (Some values.White) is = omega arith
blocks-few (Some (values.Subs x)) is = omega arith
blocks-few (Some (values.Snap x)) is = omega arith
blocks-few (Some (values.Live x)) is = omega arith
blocks-few (Some (values.Back x)) is = omega arith
blocks-few (Some values.Gone) is = omega arith
blocks-few (Some (values.Counter x)) is = omega arith
blocks-few (Some (values.Node x)) is = omega arith

-- What is left of a value in range is in range.
cut_value-fits : (stretches : List Stretch) (from : ℕ) (end : ℕ) (value : Value) (change : Change) → RiseFrom from stretches → IsContent (Some value) → Has change (cut_value stretches end (Some value)) → IsContent change.value
cut_value-fits stretches from end value change rise is has = ⊎_elim
    (λ (left : (part : Stretch) × (Has part (outside (end - blocks_of value) end stretches) × IsGap (end - blocks_of value) end stretches part × (change ≡ put_part (end - blocks_of value) value part))).
    let gap = left.1.1 in
    subst (λ (c : Change). IsContent c.value) (sym left.1.2) (part-fits (left.0.first - (end - blocks_of value)) (left.0.end - left.0.first) value (omega (arith, gap.some)) (omega (arith, gap.low, gap.some, gap.high)) is))
    (λ (gone : change ≡ record { end = end; value = None }). subst (λ (c : Change). IsContent c.value) (sym gone) (record { stands = tt; in_range = tt }))
    (cut-from stretches from rise end value change has)

-- So is what is left of keys,
pub cut-fits : (id : ℕ) (stretches : List Stretch) (from : ℕ) (keys : List Key) (change : Change) → RiseFrom from stretches → All (λ (key : Key). IsContent key.value) keys → Has change (cut_all id stretches keys) → IsContent change.value
cut-fits id stretches from keys change rise fit has =
    let it = cut_all-has id stretches keys change has in let own = it.1.1.0 in
    cut_value-fits stretches from it.0 it.1.0 change rise (subst IsContent own.is (all-member (λ (key : Key). IsContent key.value) own.key keys fit own.has)) it.1.1.1

-- what is given by keys,
pub given-fits : (fresh : List Key) (change : Change) → All (λ (key : Key). IsContent key.value) fresh → Has change (map change_of fresh) → IsContent change.value
given-fits fresh change fit has = let from = has-map change_of change fresh has in
    subst (λ (c : Change). IsContent c.value) (sym from.1.1) (all-member (λ (key : Key). IsContent key.value) from.0 fresh fit from.1.0)

-- and a hole over a part of an extent.
pub holes-fit : (tree : Snaps) (parent : Option ℕ) (w : Stretch) (keys : List Key) (change : Change) → w.first ≤ w.end → All (λ (key : Key). IsContent key.value) keys → Has change (holes_to_hide tree parent w keys) → IsContent change.value
holes-fit tree None w keys change forward fit has = elim has [ ]
holes-fit tree (Some parent) w keys change forward fit has =
    let from = has-map hole_of change (swept tree parent w keys) has in
    let it = met_by tree parent w forward keys from.0 from.1.0 in
    let some = (parts_above tree parent w forward keys from.0 from.1.0).1 in
    let few = blocks-few it.0.value (all-member (λ (key : Key). IsContent key.value) it.0 keys fit it.1.0) in
    subst (λ (c : Change). IsContent c.value) (sym from.1.1) (hole-fits (min (from.0.end - from.0.first) 4294967295) (omega (arith, some)) (omega (arith, it.1.2, few)))

-- Updates that make changes in range may be made.
pub updates-fit : (file id : ℕ) (first second : List Change) → ((change : Change) → Has change first → IsContent change.value) → ((change : Change) → Has change second → IsContent change.value) → All IsUpdate (updates_of file id (first ++ second))
updates-fit file id first second one other = updates-all IsUpdate file id (first ++ second) (λ change has.
    let is = ⊎_elim (one change) (other change) (has-append change first second has) in
    record { stands = is.stands; in_range = is.in_range })
