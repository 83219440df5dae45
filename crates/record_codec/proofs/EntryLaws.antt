-- Entries are exact, and how long they are.
use Rattle.std.proofs.Common.{◌≡◌, ℕ, ◌+◌, ◌*◌, ◌^◌, ◌<◌, true, List, [], ◌∷◌, ◌++◌, length, All, Option, None, leb, refl, length-append, arith}
use Rattle.std.specs.Prelude.{⊤}
use Rattle.std.specs.List.{flat_map}
use Rattle.std.proofs.lemmas.Bool.{leb-true, le-leb}
use Rattle.vol_types.specs.declared.keys.Update.{Update}
use Rattle.vol_types.specs.declared.pointers.NodePtr.{NodePtr}
use Rattle.vol_types.specs.declared.positions.Btree.{Btree}
use Rattle.vol_types.specs.declared.positions.Pos.{Pos}
use Rattle.vol_types.specs.declared.values.Value.{Value}
use Rattle.vol_types.specs.Btrees.{btree_code}
use Rattle.vol_types.specs.Lengths.{key_length_of}
use Rattle.vol_types.specs.Widths.{PosFits}
use Rattle.key_codec.specs.Exact.{IsExactBut}
use Rattle.key_codec.specs.Formats.{u8_byte, u32_le, u64_le, checked, followed, both, items}
use Rattle.key_codec.specs.Keys.{encoding, key_format}
use Rattle.key_codec.specs.Kinds as kinds
use Rattle.key_codec.specs.Combined.{mapped-exact, checked-exact, followed-exact, both-exact, EncodesAlike, encodings_meet}
use Rattle.key_codec.specs.LengthLaws.{length-members, length-node, length-encoding}
use Rattle.key_codec.specs.ListLaws.{each-exact}
use Rattle.record_codec.specs.declared.entries.EntryRecord.{EntryRecord}
use Rattle.record_codec.specs.declared.fault.RecordFault.TheVariants.{Short, Field}
use Rattle.vol_types.specs.Standing.{IsUpdate}
use Rattle.record_codec.specs.Entries.{UpdateFits, IsEntry, root_item, roots, update_item, entry_format, entry_length_of}
use Rattle.record_codec.specs.Fields.{byte, u32_field, u64_field, position, root, btree, value_in, listing}
use Rattle.record_codec.proofs.FieldLaws.{IsByte, IsU64, byte-exact, u64_field-exact, position-exact, btree-exact, IsRoot, root-exact, IsValueIn, value_in-exact, listing-exact}

-- The update has its widths and is in range.
abbrev IsAnUpdate : Update → Type 0
IsAnUpdate update = UpdateFits update × IsUpdate update

update_item-exact : (before : Option Update) → IsExactBut Short IsAnUpdate (update_item before)
unfolding update_item
update_item-exact before = mapped-exact (λ (p : (Btree × ℕ) × (Pos × Option Value)). (⊤ × IsByte p.0.1) × (PosFits p.1.0 × IsValueIn p.0.0 p.0.1 p.1.1)) IsAnUpdate
    (followed (both btree byte) (λ place. both position (value_in place.0 place.1))) (λ x. record { btree = x.0.0; level = x.0.1; pos = x.1.0; value = x.1.1 }) (λ u. ((u.btree, u.level), (u.pos, u.value)))
    (λ p fits. ((record { level = fits.0.1; pos = fits.1.0; value = fits.1.1.0.0 }, record { stands = fits.1.1.1; in_range = fits.1.1.0.1 }), refl))
    (λ u is. (((tt, is.0.level), (is.0.pos, ((is.0.value, is.1.in_range), is.1.stands))), refl))
    (followed-exact (λ (place : Btree × ℕ). ⊤ × IsByte place.1) (λ place (p : Pos × Option Value). PosFits p.0 × IsValueIn place.0 place.1 p.1) (both btree byte) (λ place. both position (value_in place.0 place.1))
    (both-exact (λ tree. ⊤) IsByte btree byte btree-exact byte-exact)
    (λ place. both-exact PosFits (IsValueIn place.0 place.1) position (value_in place.0 place.1) position-exact (value_in-exact place.0 place.1)))

update_item-alike : EncodesAlike update_item
unfolding update_item
update_item-alike before update = refl

updates-exact : IsExactBut Short (λ updates. All IsAnUpdate updates × (length updates < 2 ^ 32)) (listing update_item)
updates-exact = listing-exact (All IsAnUpdate) update_item (each-exact IsAnUpdate update_item update_item-alike update_item-exact)

roots-exact : IsExactBut Short (λ xs. All IsRoot xs × (length xs ≡ 9)) roots
unfolding roots
roots-exact = each-exact IsRoot root_item (λ before x. refl) (λ before. root-exact) 9

-- the roots and the updates
abbrev Lists : Type 0
Lists = List NodePtr × List Update

abbrev AreLists : Lists → Type 0
AreLists p = (All IsRoot p.0 × (length p.0 ≡ 9)) × (All IsAnUpdate p.1 × (length p.1 < 2 ^ 32))

-- Entries are exact.
pub entry-exact : IsExactBut Short IsEntry entry_format
unfolding entry_format
entry-exact = mapped-exact (λ (p : ℕ × (ℕ × (ℕ × (ℕ × Lists)))). IsU64 p.0 × ((IsU64 p.1.0 × (leb p.1.0 p.0 ≡ true)) × (IsU64 p.1.1.0 × (IsU64 p.1.1.1.0 × AreLists p.1.1.1.1)))) IsEntry
    (followed u64_field (λ sequence. both (checked u64_field (λ oldest. leb oldest sequence) Field) (both u64_field (both u64_field (both roots (listing update_item))))))
    (λ x. record { sequence = x.0; oldest = x.1.0; session = x.1.1.0; commits = x.1.1.1.0; roots = x.1.1.1.1.0; updates = x.1.1.1.1.1 })
    (λ e. (e.sequence, (e.oldest, (e.session, (e.commits, (e.roots, e.updates))))))
    (λ p fits.
    let lists = fits.1.1.1.1 in (
      record {
        fits = record { sequence = fits.0; session = fits.1.1.0; commits = fits.1.1.1.0; roots = λ k d lt. (lists.0.0 k d lt).0; updates = λ k d lt. (lists.1.0 k d lt).0 };
        in_range = record { oldest = leb-true p.1.0 p.0 fits.1.0.1; all_roots = lists.0.1; roots = λ k d lt. (lists.0.0 k d lt).1; few = lists.1.1; updates = λ k d lt. (lists.1.0 k d lt).1 };
      },
      refl,
    ))
    (λ e is. (
      (
        is.fits.sequence,
        (
          (omega (arith, is.fits.sequence, is.in_range.oldest), le-leb e.oldest e.sequence is.in_range.oldest),
          (is.fits.session, (is.fits.commits, (((λ k d lt. (is.fits.roots k d lt, is.in_range.roots k d lt)), is.in_range.all_roots), ((λ k d lt. (is.fits.updates k d lt, is.in_range.updates k d lt)), is.in_range.few)))),
        ),
      ),
      refl,
    ))
    (followed-exact IsU64 (λ sequence (p : ℕ × (ℕ × (ℕ × Lists))). (IsU64 p.0 × (leb p.0 sequence ≡ true)) × (IsU64 p.1.0 × (IsU64 p.1.1.0 × AreLists p.1.1.1))) u64_field
    (λ sequence. both (checked u64_field (λ oldest. leb oldest sequence) Field) (both u64_field (both u64_field (both roots (listing update_item))))) u64_field-exact
    (λ sequence. both-exact (λ oldest. IsU64 oldest × (leb oldest sequence ≡ true)) (λ (p : ℕ × (ℕ × Lists)). IsU64 p.0 × (IsU64 p.1.0 × AreLists p.1.1)) (checked u64_field (λ oldest. leb oldest sequence) Field) (both u64_field (both u64_field (both roots (listing update_item))))
    (checked-exact IsU64 u64_field (λ oldest. leb oldest sequence) Field u64_field-exact)
    (both-exact IsU64 (λ (p : ℕ × Lists). IsU64 p.0 × AreLists p.1) u64_field (both u64_field (both roots (listing update_item))) u64_field-exact
    (both-exact IsU64 AreLists u64_field (both roots (listing update_item)) u64_field-exact
    (both-exact (λ xs. All IsRoot xs × (length xs ≡ 9)) (λ updates. All IsAnUpdate updates × (length updates < 2 ^ 32)) roots (listing update_item) roots-exact updates-exact)))))

-- An entry is encoded as its numbers, its roots, the number of its updates, and each update.
pub entry_encoded : (entry : EntryRecord) → u64_le.encode entry.sequence ++ (u64_le.encode entry.oldest ++ (u64_le.encode entry.session ++ (u64_le.encode entry.commits ++ (flat_map kinds.node_fields.encode entry.roots ++ (u32_le.encode (length entry.updates) ++ flat_map (λ update. (btree_code update.btree ∷ update.level ∷ []) ++ encoding update.pos update.value) entry.updates))))) ≡ entry_format.encode entry
unfolding entry_format u64_field roots listing items u32_field root update_item btree value_in position byte u8_byte key_format
entry_encoded entry = refl

-- Two encodings of entries at the start of the same bytes are one.
pub entries_meet : (entry other : EntryRecord) (rest other_rest : List ℕ) → IsEntry entry → IsEntry other → entry_format.encode entry ++ rest ≡ entry_format.encode other ++ other_rest → (entry ≡ other) × (rest ≡ other_rest)
entries_meet entry other rest other_rest is other_is e = encodings_meet IsEntry entry_format entry-exact entry other rest other_rest is other_is e

-- ---- lengths

length-update : (update : Update) → length ((update_item None).encode update) ≡ 2 + key_length_of update.value
unfolding update_item btree position value_in byte u8_byte key_format
length-update update = omega (arith, length-encoding update.pos update.value)

length-root : (node : NodePtr) → length ((root_item None).encode node) ≡ 10 + 5 * length node.places
unfolding root
length-root node = length-node node

-- An entry is as long as its roots and updates say.
pub length-entry : (entry : EntryRecord) → length (entry_format.encode entry) ≡ entry_length_of entry.roots entry.updates
unfolding entry_format u64_field roots listing items u32_field u32_le u64_le
length-entry entry =
    let of_roots = flat_map (root_item None).encode entry.roots in
    let of_updates = flat_map (update_item None).encode entry.updates in
    omega (arith, length-append of_roots (u32_le.encode (length entry.updates) ++ of_updates), length-append (u32_le.encode (length entry.updates)) of_updates, length-members (root_item None).encode (λ node. 10 + 5 * length node.places) entry.roots length-root, length-members (update_item None).encode (λ update. 2 + key_length_of update.value) entry.updates length-update)
