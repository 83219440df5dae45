-- Sets are exact, and as long as their keys say.
use Rattle.std.proofs.Common.{◌≡◌, ◌≢◌, ℕ, ◌^◌, ◌<◌, true, List, ◌++◌, length, Option, None, option_map, refl, length-append, arith}
use Rattle.std.specs.Prelude.{⊤, ◌&&◌}
use Rattle.std.specs.List.{flat_map}
use Rattle.std.specs.Ordering.{is_le}
use Rattle.std.specs.declared.cmp.Ordering.{Ordering}
use Rattle.std.specs.declared.cmp.Ordering.TheVariants.{Less, Equal, Greater}
use Rattle.vol_types.specs.declared.keys.Key.{Key}
use Rattle.vol_types.specs.declared.positions.Btree.{Btree}
use Rattle.vol_types.specs.declared.positions.Pos.{Pos}
use Rattle.vol_types.specs.declared.values.Value.{Value}
use Rattle.vol_types.specs.Lengths.{key_length_of}
use Rattle.vol_types.specs.Positions.{pos_cmp, IsWithin}
use Rattle.vol_types.specs.Ranges.{IsAbove, IsKeyValue}
use Rattle.vol_types.specs.Sets.{set_length_of}
use Rattle.vol_types.specs.Widths.{PosFits}
use Rattle.key_codec.specs.Exact.{IsExactBut}
use Rattle.key_codec.specs.Formats.{u8_byte, u32_le, u64_le, checked, followed, both, items, is_above}
use Rattle.key_codec.specs.Keys.{encoding, key_format}
use Rattle.key_codec.specs.Kinds as kinds
use Rattle.key_codec.specs.Combined.{mapped-exact, checked-exact, followed-exact, both-exact, EncodesAlike, encodings_meet}
use Rattle.key_codec.specs.LengthLaws.{length-members, length-position, length-encoding}
use Rattle.key_codec.specs.ListLaws.{above_from_test, test_from_above, RisesBy, AreRising, rising-exact}
use Rattle.record_codec.specs.declared.fault.RecordFault.TheVariants.{Short, Order}
use Rattle.record_codec.specs.declared.sets.SetHead.{SetHead}
use Rattle.record_codec.specs.declared.sets.SetRecord.{SetRecord}
use Rattle.record_codec.specs.Fields.{byte, u32_field, u64_field, position, zeros, btree, value_in, listing}
use Rattle.record_codec.specs.Sets.{KeyFits, HeadFits, IsSet, set_head, is_next, key_item, head_of, set_format}
use Rattle.vol_types.specs.Standing.{Stands}
use Rattle.record_codec.proofs.FieldLaws.{both_true, true_both, IsByte, IsU64, byte-exact, u64_field-exact, position-exact, zeros-exact, btree-exact, IsValueIn, value_in-exact, listing-exact}

not_greater : (order : Ordering) → is_le order ≡ true → order ≢ Greater
not_greater Less e = λ same. absurd cc
not_greater Equal e = λ same. absurd cc
not_greater Greater e = absurd cc

le_from : (order : Ordering) → order ≢ Greater → is_le order ≡ true
le_from Less other = refl
le_from Equal other = refl
le_from Greater other = absurd (other refl)

-- ---- the keys of a set

-- The key has its widths, is covered, may stand there, and has a value in range.
abbrev pub IsKeyOf : SetHead → Key → Type 0
IsKeyOf head key = KeyFits key × (IsWithin head.least head.greatest key.pos × (Stands head.btree head.level key.value × IsKeyValue key.value))

next_is : (head : SetHead) (before : Option Key) (pos : Pos) → is_next head before pos ≡ true → IsAbove pos_cmp (option_map (λ key. key.pos) before) pos × IsWithin head.least head.greatest pos
next_is head before pos e =
    let parts = both_true (is_above pos_cmp (option_map (λ key. key.pos) before) pos) (is_le (pos_cmp head.least pos) && is_le (pos_cmp pos head.greatest)) e in
    let ends = both_true (is_le (pos_cmp head.least pos)) (is_le (pos_cmp pos head.greatest)) parts.1 in
    (above_from_test pos_cmp (option_map (λ key. key.pos) before) pos parts.0, (not_greater (pos_cmp head.least pos) ends.0, not_greater (pos_cmp pos head.greatest) ends.1))

is_next_from : (head : SetHead) (before : Option Key) (pos : Pos) → IsAbove pos_cmp (option_map (λ key. key.pos) before) pos → IsWithin head.least head.greatest pos → is_next head before pos ≡ true
is_next_from head before pos above within =
    true_both (is_above pos_cmp (option_map (λ key. key.pos) before) pos) (is_le (pos_cmp head.least pos) && is_le (pos_cmp pos head.greatest))
    (test_from_above pos_cmp (option_map (λ key. key.pos) before) pos above) (true_both (is_le (pos_cmp head.least pos)) (is_le (pos_cmp pos head.greatest)) (le_from (pos_cmp head.least pos) within.0) (le_from (pos_cmp pos head.greatest) within.1))

key_item-exact : (head : SetHead) (before : Option Key) → IsExactBut Short (RisesBy (IsKeyOf head) pos_cmp (λ key. key.pos) before) (key_item head before)
unfolding key_item
key_item-exact head before = mapped-exact (λ (p : Pos × Option Value). (PosFits p.0 × (is_next head before p.0 ≡ true)) × IsValueIn head.btree head.level p.1) (RisesBy (IsKeyOf head) pos_cmp (λ key. key.pos) before)
    (both (checked position (is_next head before) Order) (value_in head.btree head.level)) (λ p. record { pos = p.0; value = p.1 }) (λ key. (key.pos, key.value))
    (λ p fits.
    let next = next_is head before p.0 fits.0.1 in
    (((record { pos = fits.0.0; value = fits.1.0.0 }, (next.1, (fits.1.1, fits.1.0.1))), next.0), refl))
    (λ key is. (((is.0.0.pos, is_next_from head before key.pos is.1 is.0.1.0), ((is.0.0.value, is.0.1.1.1), is.0.1.1.0)), refl))
    (both-exact (λ pos. PosFits pos × (is_next head before pos ≡ true)) (IsValueIn head.btree head.level) (checked position (is_next head before) Order) (value_in head.btree head.level)
    (checked-exact PosFits position (is_next head before) Order position-exact) (value_in-exact head.btree head.level))

key_item-alike : (head : SetHead) → EncodesAlike (key_item head)
unfolding key_item
key_item-alike head before key = refl

-- The keys rise, and each is one of the set's.
abbrev AreKeysOf : SetHead → List Key → Type 0
AreKeysOf head keys = AreRising (IsKeyOf head) pos_cmp (λ key. key.pos) keys

keys-exact : (head : SetHead) → IsExactBut Short (λ keys. AreKeysOf head keys × (length keys < 2 ^ 32)) (listing (key_item head))
keys-exact head = listing-exact (AreKeysOf head) (key_item head) (rising-exact (IsKeyOf head) pos_cmp (λ key. key.pos) (key_item head) (key_item-alike head) (key_item-exact head))

-- ---- sets

set_head-exact : IsExactBut Short HeadFits set_head
unfolding set_head
set_head-exact = mapped-exact (λ (p : ℕ × (Btree × (ℕ × (⊤ × (Pos × Pos))))). IsU64 p.0 × (⊤ × (IsByte p.1.1.0 × (⊤ × (PosFits p.1.1.1.1.0 × PosFits p.1.1.1.1.1))))) HeadFits
    (both u64_field (both btree (both byte (both zeros (both position position)))))
    (λ x. record { birth = x.0; btree = x.1.0; level = x.1.1.0; least = x.1.1.1.1.0; greatest = x.1.1.1.1.1 }) (λ h. (h.birth, (h.btree, (h.level, (tt, (h.least, h.greatest))))))
    (λ p fits. (record { birth = fits.0; level = fits.1.1.0; least = fits.1.1.1.1.0; greatest = fits.1.1.1.1.1 }, refl))
    (λ h fits. ((fits.birth, (tt, (fits.level, (tt, (fits.least, fits.greatest))))), refl))
    (both-exact IsU64 (λ (p : Btree × (ℕ × (⊤ × (Pos × Pos)))). ⊤ × (IsByte p.1.0 × (⊤ × (PosFits p.1.1.1.0 × PosFits p.1.1.1.1)))) u64_field (both btree (both byte (both zeros (both position position)))) u64_field-exact
    (both-exact (λ tree. ⊤) (λ (p : ℕ × (⊤ × (Pos × Pos))). IsByte p.0 × (⊤ × (PosFits p.1.1.0 × PosFits p.1.1.1))) btree (both byte (both zeros (both position position))) btree-exact
    (both-exact IsByte (λ (p : ⊤ × (Pos × Pos)). ⊤ × (PosFits p.1.0 × PosFits p.1.1)) byte (both zeros (both position position)) byte-exact
    (both-exact (λ x. ⊤) (λ (p : Pos × Pos). PosFits p.0 × PosFits p.1) zeros (both position position) zeros-exact
    (both-exact PosFits PosFits position position position-exact position-exact)))))

-- Sets are exact.
pub set-exact : IsExactBut Short IsSet set_format
unfolding set_format
set-exact = mapped-exact (λ (p : SetHead × List Key). HeadFits p.0 × (AreKeysOf p.0 p.1 × (length p.1 < 2 ^ 32))) IsSet (followed set_head (λ head. listing (key_item head)))
    (λ x. record { birth = x.0.birth; btree = x.0.btree; level = x.0.level; least = x.0.least; greatest = x.0.greatest; keys = x.1 }) (λ set. (head_of set, set.keys))
    (λ p fits.
    let each = fits.1.0.0 in (
      record {
        fits = record { head = fits.0; keys = λ k d lt. (each k d lt).0 };
        in_range = record { few = fits.1.1; rise = fits.1.0.1; covered = λ k d lt. (each k d lt).1.0; stand = λ k d lt. (each k d lt).1.1.0; in_range = λ k d lt. (each k d lt).1.1.1 };
      },
      refl,
    ))
    (λ set is. (
      (is.fits.head, (((λ k d lt. (is.fits.keys k d lt, (is.in_range.covered k d lt, (is.in_range.stand k d lt, is.in_range.in_range k d lt)))), is.in_range.rise), is.in_range.few)),
      refl,
    ))
    (followed-exact HeadFits (λ head keys. AreKeysOf head keys × (length keys < 2 ^ 32)) set_head (λ head. listing (key_item head)) set_head-exact keys-exact)

-- A set is encoded as its head, the number of its keys, and each key.
pub set_encoded : (set : SetRecord) → set_head.encode (head_of set) ++ (u32_le.encode (length set.keys) ++ flat_map (λ key. encoding key.pos key.value) set.keys) ≡ set_format.encode set
unfolding set_format listing items u32_field key_item value_in position byte key_format
set_encoded set = refl

-- Two encodings of sets at the start of the same bytes are one.
pub sets_meet : (set other : SetRecord) (rest other_rest : List ℕ) → IsSet set → IsSet other → set_format.encode set ++ rest ≡ set_format.encode other ++ other_rest → (set ≡ other) × (rest ≡ other_rest)
sets_meet set other rest other_rest is other_is e = encodings_meet IsSet set_format set-exact set other rest other_rest is other_is e

-- ---- lengths

length-key : (head : SetHead) (key : Key) → length ((key_item head None).encode key) ≡ key_length_of key.value
unfolding key_item position value_in byte key_format
length-key head key = length-encoding key.pos key.value

-- A set is as long as its keys say.
pub length-set : (set : SetRecord) → length (set_format.encode set) ≡ set_length_of set.keys
unfolding set_format set_head u64_field btree byte zeros position listing items u32_field u8_byte u32_le u64_le
length-set set =
    let keys = flat_map (key_item (head_of set) None).encode set.keys in
    let least = kinds.position.encode set.least in
    let greatest = kinds.position.encode set.greatest in
    omega (arith, length-append least greatest, length-append (least ++ greatest) (u32_le.encode (length set.keys) ++ keys), length-position set.least, length-position set.greatest, length-members (key_item (head_of set) None).encode (λ key. key_length_of key.value) set.keys (length-key (head_of set)))
