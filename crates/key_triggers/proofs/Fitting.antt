-- Updates that may be made stay so when they are expanded.
use Rattle.std.proofs.Common.{◌≡◌, List, [], ◌∷◌, ◌++◌, length, map, Option, Some, None, refl, sym, ap, subst, arith, All}
use Rattle.std.specs.Prelude.{option_map}
use Rattle.std.specs.Ordering.{nat_cmp}
use Rattle.std.proofs.lemmas.List.{length-map}
use Rattle.std.proofs.lemmas.List.Elements.{All-append, All-cons, All-head, All-nil, All-tail}
use Rattle.key_triggers.specs.Expanding.{expanded, owners_of, tallies_of}
use Rattle.key_triggers.specs.Owners.{Owners, owner_update}
use Rattle.key_triggers.specs.Stamps.{stamped, stamped_pointer, stamped_value}
use Rattle.key_triggers.specs.Tallies.{Tallies, live_update}
use Rattle.vol_types.specs.KeyMaps.{KeyMap}
use Rattle.vol_types.specs.Ranges.{IsDevice, IsExtent, Rise}
use Rattle.vol_types.specs.Standing.{IsUpdate}
use Rattle.vol_types.specs.declared.keys.Update.{Update}
use Rattle.vol_types.specs.declared.pointers.Pointer.{Pointer}
use Rattle.vol_types.specs.declared.positions.Pos.{Pos}
use Rattle.vol_types.specs.declared.values.Extent.{Extent}
use Rattle.vol_types.specs.declared.values.Value.{Value}
use Rattle.vol_types.specs.declared.values.Value.TheVariants as values

module _ (keys : KeyMap) where
  devices-stamped : (pointers : List Pointer) → map (λ (p : Pointer). p.place.dev) (map (stamped_pointer keys) pointers) ≡ map (λ (p : Pointer). p.place.dev) pointers
  devices-stamped [] = refl
  devices-stamped (pointer ∷ pointers) = ap (λ ds. pointer.place.dev ∷ ds) (devices-stamped pointers)

  each_device : (pointers : List Pointer) → All (λ pointer. IsDevice pointer.place.dev) pointers → All (λ pointer. IsDevice pointer.place.dev) (map (stamped_pointer keys) pointers)
  each_device [] all = All-nil (λ pointer. IsDevice pointer.place.dev)
  each_device (pointer ∷ pointers) all =
      All-cons (λ pointer. IsDevice pointer.place.dev) (stamped_pointer keys pointer) (map (stamped_pointer keys) pointers) (All-head (λ pointer. IsDevice pointer.place.dev) pointer pointers all)
      (each_device pointers (All-tail (λ pointer. IsDevice pointer.place.dev) pointer pointers all))

  extent-stamped : (extent : Extent) → IsExtent extent → IsExtent (record { pointers = map (stamped_pointer keys) extent.pointers; digests = extent.digests })
  extent-stamped extent is =
      let count : length (map (stamped_pointer keys) extent.pointers) ≡ length extent.pointers = length-map {B = Pointer} extent.pointers (stamped_pointer keys) in
      record {
        blocks = is.blocks;
        copies = (omega (arith, is.copies.0, count), omega (arith, is.copies.1, count));
        each = each_device extent.pointers is.each;
        rise = subst (Rise nat_cmp) (sym (devices-stamped extent.pointers)) is.rise;
      }

  -- A stamped update may be made where the update may.
  update-stamped : (update : Update) → IsUpdate update → IsUpdate (stamped keys update)
  update-stamped update is = by update.value is
    where
      by : (value : Option Value) → IsUpdate (record { btree = update.btree; level = update.level; pos = update.pos; value = value })
          → IsUpdate (record { btree = update.btree; level = update.level; pos = update.pos; value = option_map (stamped_value keys) value })
      by None is = is
      by (Some (values.Extent extent)) is = record { stands = record { in_leaf = is.stands.in_leaf; above = is.stands.above }; in_range = extent-stamped extent is.in_range }
      by (Some (values.Inode inode)) is = is
      by (Some (values.Names links)) is = is
      by (Some (values.Hole blocks)) is = is
      by (Some values.White) is = is
      by (Some (values.Subs subs)) is = is
      by (Some (values.Snap snap)) is = is
      by (Some (values.Live live)) is = is
      by (Some (values.Back extent)) is = is
      by (Some values.Gone) is = is
      by (Some (values.Counter next)) is = is
      by (Some (values.Node node)) is = is

  stamps_fit : (updates : List Update) → All IsUpdate updates → All IsUpdate (map (stamped keys) updates)
  stamps_fit [] all = All-nil IsUpdate
  stamps_fit (update ∷ updates) all = All-cons IsUpdate (stamped keys update) (map (stamped keys) updates) (update-stamped update (All-head IsUpdate update updates all)) (stamps_fit updates (All-tail IsUpdate update updates all))

  lives_fit : (tallies : Tallies) → All IsUpdate (map (live_update keys) tallies)
  lives_fit [] = All-nil IsUpdate
  lives_fit (entry ∷ tallies) = All-cons IsUpdate (live_update keys entry) (map (live_update keys) tallies)
      (record { stands = record { in_leaf = λ leaf. refl; above = λ above. absurd (omega (arith, above)) }; in_range = omega arith }) (lives_fit tallies)

owner_fits : (block : Pos) (owner : Option Pos) → IsUpdate (owner_update (block, owner))
owner_fits block None = record { stands = tt; in_range = tt }
owner_fits block (Some extent) = record { stands = record { in_leaf = λ leaf. refl; above = λ above. absurd (omega (arith, above)) }; in_range = tt }

owners_fit : (owners : Owners) → All IsUpdate (map owner_update owners)
owners_fit [] = All-nil IsUpdate
owners_fit (entry ∷ owners) = All-cons IsUpdate (owner_update entry) (map owner_update owners) (owner_fits entry.0 entry.1) (owners_fit owners)

-- Updates that may be made stay so.
pub expanded_fit : (keys : KeyMap) (updates : List Update) → All IsUpdate updates → All IsUpdate (expanded keys updates)
expanded_fit keys updates all =
    All-append IsUpdate (map (stamped keys) updates ++ map (live_update keys) (tallies_of keys updates)) (map owner_update (owners_of keys updates))
    (All-append IsUpdate (map (stamped keys) updates) (map (live_update keys) (tallies_of keys updates)) (stamps_fit keys updates all) (lives_fit keys (tallies_of keys updates)))
    (owners_fit (owners_of keys updates))
