-- What taking blocks over promises of each update, by what it calls.
use Rattle.std.proofs.Common.{◌≡◌, inl, inr, ℕ, ◌+◌, ◌≤◌, Option, Some, None, List, [], ◌∷◌, ◌++◌, map, slice_get, refl, sym, ap, ◌∙◌, subst, arith}
use Rattle.std.specs.Prelude.{All, IfOk, Result, option_map}
use Rattle.std.specs.List.{filter}
use Rattle.std.proofs.lemmas.List.Elements.{All-head}
use Rattle.std.proofs.lemmas.Option.{none-some as none_some, same_Some}
use Rattle.snap_tree.specs.Snaps.{Snaps, parent_of}
use Rattle.vol_types.specs.KeyMaps.{KeyMap, key_of}
use Rattle.vol_types.specs.Standing.{IsUpdate}
use Rattle.vol_types.specs.declared.keys.Key.{Key}
use Rattle.vol_types.specs.declared.keys.Update.{Update}
use Rattle.vol_types.specs.declared.positions.Btree.TheVariants.{Extents}
use Rattle.vol_types.specs.declared.positions.Pos.{Pos}
use Rattle.vol_types.specs.declared.values.Value.{Value}
use Rattle.key_meaning.specs.Blocks.{blocks_of}
use Rattle.key_meaning.specs.Tidy.{IsKeyOf}
use Rattle.extent_ops.specs.Above.{holes_to_hide}
use Rattle.extent_ops.specs.Content.{AreFreshWithin, AreLookedAt, IsContent, IsNear}
use Rattle.extent_ops.specs.Cutting.{change_of, cut_all, stretch_at, stretch_of, updates_of}
use Rattle.extent_ops.specs.Looking.{AreExtentsUpTo, IsUpTo}
use Rattle.extent_ops.specs.Stretches.{RiseFrom}
use Rattle.extent_ops.specs.declared.cutting.Change.{Change}
use Rattle.extent_ops.specs.declared.stretches.Stretch.{Stretch}
use Rattle.extent_ops.proofs.Fitting.{all-of, cut-fits, given-fits, holes-fit, updates-fit}
use Rattle.extent_ops.proofs.Fresh.{all-member, fresh-file, fresh_rise, ok_later, ok_then, rise_from}
use Rattle.extent_ops.proofs.Lying.{cut-lies, fresh-lies, holes-lie, updates-near}
use Rattle.extent_ops.proofs.Keyed.{filter-has}
use Rattle.extent_ops.proofs.Members.{Has, has-map}

-- the updates that put fresh keys over the stretches that they cover
abbrev pub updates_for : ℕ → ℕ → List Key → List Key → List Update
updates_for file id keys fresh = updates_of file id (cut_all id (map stretch_of fresh) keys ++ map change_of fresh)

-- They are made where the keys are fresh ones.
abbrev pub Makes : ℕ → List Key → List Key → List Update → Type 0
Makes id keys fresh updates = (file first last : ℕ) → AreFreshWithin file id first last fresh → updates ≡ updates_for file id keys fresh

-- Taking fresh keys over makes these updates.
pub fresh_updates : {E : Type 0} (id : ℕ) (keys fresh looked : List Key) (stretches : List Stretch) (given : List Change) (number : ℕ) (result : Result (List Update) E)
    → option_map (λ (key : Key). key.pos.inode) (slice_get fresh 0) ≡ Some number → looked ≡ keys → stretches ≡ map stretch_of fresh → given ≡ map change_of fresh
    → (RiseFrom 0 stretches → IfOk result (λ updates. updates ≡ updates_of number id (cut_all id stretches looked ++ given)))
    → IfOk result (Makes id keys fresh)
fresh_updates id keys fresh looked stretches given number result of_file same_keys same_stretches same_given are = ok_later
    (λ (updates : List Update). updates ≡ updates_of number id (cut_all id stretches looked ++ given))
    (Makes id keys fresh) result are
    (λ updates is file first last within.
    is (subst (RiseFrom 0) (sym same_stretches) (rise_from 0 first (map stretch_of fresh) (omega arith) (fresh_rise file id first fresh within.fresh)))
    ∙ (λ i. updates_of (fresh-file file id first fresh number within.fresh of_file i) id (cut_all id (same_stretches i) (same_keys i) ++ same_given i)))

-- They may be made, and lie near the blocks.
pub fresh_fit : (file id first last : ℕ) (keys fresh : List Key) (updates : List Update) → updates ≡ updates_for file id keys fresh → AreFreshWithin file id first last fresh → All (λ (key : Key). IsContent key.value) keys → All (λ (key : Key). IsContent key.value) fresh
    → All IsUpdate updates
fresh_fit file id first last keys fresh updates is are fit fit' = subst (All IsUpdate) (sym is)
    (updates-fit file id (cut_all id (map stretch_of fresh) keys) (map change_of fresh)
    (λ change has. cut-fits id (map stretch_of fresh) first keys change (fresh_rise file id first fresh are.fresh) fit has)
    (λ change has. given-fits fresh change fit' has))

pub fresh_near : (file id first last longest : ℕ) (keys fresh : List Key) (updates : List Update) → updates ≡ updates_for file id keys fresh → AreFreshWithin file id first last fresh → All (λ (key : Key). IsUpTo longest key.value) keys → All (IsNear file first last longest) updates
fresh_near file id first last longest keys fresh updates is are few = subst (All (IsNear file first last longest)) (sym is)
    (updates-near file id first last longest (cut_all id (map stretch_of fresh) keys) (map change_of fresh)
    (λ change has. cut-lies first last (map stretch_of fresh) (fresh_rise file id first fresh are.fresh) ended longest id keys change few has)
    (λ change has. fresh-lies file id first last longest fresh change are has))
  where
    high : (key : Key) → (stretch_of key).end ≡ key.pos.offset
    high key = by key.value
      where
        by : (value : Option Value) → (stretch_at key.pos.offset value).end ≡ key.pos.offset
        by None = refl
        by (Some value) = refl

    ended : (s : Stretch) → Has s (map stretch_of fresh) → s.end ≤ last + 1
    ended s has = let from = has-map stretch_of s fresh has in let end : s.end ≡ (stretch_of from.0).end = ap (λ (x : Stretch). x.end) from.1.1 in
        omega (arith, end, high from.0, all-member (λ (key : Key). key.pos.offset ≤ last + 1) from.0 fresh are.within from.1.0)

-- the updates that put holes over a stretch
abbrev pub holes_for : Snaps → ℕ → ℕ → Stretch → List Key → List Update
holes_for tree file id w keys = updates_of file id (cut_all id (w ∷ []) keys ++ holes_to_hide tree (parent_of tree id) w keys)

-- Punching makes these updates.
pub holes_updates : {E : Type 0} (tree : Snaps) (id number : ℕ) (w : Stretch) (keys looked : List Key) (stretches : List Stretch) (given : List Change) (result : Result (List Update) E)
    → w.first ≤ w.end → looked ≡ keys → stretches ≡ w ∷ [] → given ≡ holes_to_hide tree (parent_of tree id) w keys
    → (RiseFrom 0 stretches → IfOk result (λ updates. updates ≡ updates_of number id (cut_all id stretches looked ++ given)))
    → IfOk result (λ updates. updates ≡ holes_for tree number id w keys)
holes_updates tree id number w keys looked stretches given result forward same_keys same_stretches same_given are = ok_then
    (λ (updates : List Update). updates ≡ updates_of number id (cut_all id stretches looked ++ given)) (λ (updates : List Update). updates ≡ holes_for tree number id w keys)
    result (are (subst (RiseFrom 0) (sym same_stretches) (omega arith, forward, tt)))
    (λ updates is. is ∙ (λ i. updates_of number id (cut_all id (same_stretches i) (same_keys i) ++ same_given i)))

-- They may be made, and lie near the blocks.
pub holes_fit : (tree : Snaps) (file id : ℕ) (w : Stretch) (keys : List Key) (updates : List Update) → updates ≡ holes_for tree file id w keys → w.first ≤ w.end → All (λ (key : Key). IsContent key.value) keys → All IsUpdate updates
holes_fit tree file id w keys updates is forward fit = subst (All IsUpdate) (sym is)
    (updates-fit file id (cut_all id (w ∷ []) keys) (holes_to_hide tree (parent_of tree id) w keys)
    (λ change has. cut-fits id (w ∷ []) w.first keys change (omega arith, forward, tt) fit has)
    (λ change has. holes-fit tree (parent_of tree id) w keys change forward fit has))

pub holes_near : (tree : Snaps) (file id last longest : ℕ) (w : Stretch) (keys : List Key) (updates : List Update) → updates ≡ holes_for tree file id w keys → w.first ≤ w.end → w.end ≤ last + 1 → All (λ (key : Key). IsUpTo longest key.value) keys → All (IsNear file w.first last longest) updates
holes_near tree file id last longest w keys updates is forward within few = subst (All (IsNear file w.first last longest)) (sym is)
    (updates-near file id w.first last longest (cut_all id (w ∷ []) keys) (holes_to_hide tree (parent_of tree id) w keys)
    (λ change has. cut-lies w.first last (w ∷ []) (omega arith, forward, tt) ended longest id keys change few has)
    (λ change has. holes-lie tree (parent_of tree id) w last longest keys change forward within has))
  where
    ended : (s : Stretch) → Has s (w ∷ []) → s.end ≤ last + 1
    ended s (inl same) = let end : s.end ≡ w.end = ap (λ (x : Stretch). x.end) same in omega (arith, end, within)
    ended s (inr none) = elim none [ ]

-- The file of the first key is that of all.
pub first_file : (file number : ℕ) (keys : List Key) → option_map (λ (key : Key). key.pos.inode) (slice_get keys 0) ≡ Some number → All (λ (key : Key). key.pos.inode ≡ file) keys → number ≡ file
first_file file number [] at all = absurd (none_some number at)
first_file file number (key ∷ keys) at all = sym (same_Some key.pos.inode number at) ∙ All-head (λ (key : Key). key.pos.inode ≡ file) key keys all

-- What holds of each entry of the file holds of the keys that were looked at.
looked_each : (P : Key → Type 0) (keys_map : KeyMap) (file first last : ℕ) (keys : List Key) → AreLookedAt keys_map file first last keys → ((entry : Pos × Value) → Has entry keys_map.extents → entry.0.inode ≡ file → P (key_of entry)) → All P keys
looked_each P keys_map file first last keys looked each = all-of P keys (λ key has.
    let from = has-map key_of key (filter looked.looked_at keys_map.extents) (subst (Has key) looked.are has) in
    let member = filter-has looked.looked_at from.0 keys_map.extents from.1.0 in
    subst P (sym from.1.1) (each from.0 member.0 (looked.of_file from.0 member.1)))

-- They are of the file,
pub looked_of_file : (keys_map : KeyMap) (file first last : ℕ) (keys : List Key) → AreLookedAt keys_map file first last keys → All (λ (key : Key). key.pos.inode ≡ file) keys
looked_of_file keys_map file first last keys looked = looked_each (λ (key : Key). key.pos.inode ≡ file) keys_map file first last keys looked (λ entry has same. same)

-- and in range, where the keys of the map are.
pub looked_content : (keys_map : KeyMap) (file first last : ℕ) (keys : List Key) → All (IsKeyOf keys_map Extents) keys_map.extents → AreLookedAt keys_map file first last keys → All (λ (key : Key). IsContent key.value) keys
looked_content keys_map file first last keys are looked = looked_each (λ (key : Key). IsContent key.value) keys_map file first last keys looked
    (λ entry has same. let is = all-member (IsKeyOf keys_map Extents) entry keys_map.extents are has in record { stands = is.stands; in_range = is.in_range })

-- They have no more blocks than the extents and holes of the map.
pub looked_up_to : (keys_map : KeyMap) (file first last longest : ℕ) (keys : List Key) → AreExtentsUpTo longest keys_map → AreLookedAt keys_map file first last keys → All (λ (key : Key). IsUpTo longest key.value) keys
looked_up_to keys_map file first last longest keys few looked = looked_each (λ (key : Key). IsUpTo longest key.value) keys_map file first last keys looked
    (λ entry has same. all-member (λ (e : Pos × Value). blocks_of e.1 ≤ longest) entry keys_map.extents few.each has)
