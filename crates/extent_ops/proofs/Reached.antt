-- The keys of a file within reach of some blocks are all that cover one of them.
use Rattle.std.proofs.Common.{◌≡◌, ℕ, ◌+◌, ◌-◌, ◌≤◌, ◌^◌, true, List, min, refl, sym, ap, ◌∙◌, arith}
use Rattle.std.specs.Prelude.{◌&&◌, All}
use Rattle.std.specs.Cmp.{nat_cmp_is}
use Rattle.std.specs.Ordering.{is_le, nat_cmp, ordering_then}
use Rattle.std.specs.declared.cmp.Ordering.{Ordering}
use Rattle.std.specs.declared.cmp.Ordering.TheVariants.{Less, Equal, Greater}
use Rattle.std.proofs.lemmas.Bool.{and_parts, true≢false}
use Rattle.std.proofs.lemmas.Cmp.{ranked}
use Rattle.vol_types.specs.KeyMaps.{KeyMap, answer_of}
use Rattle.vol_types.specs.Positions.{is_within, pos_cmp}
use Rattle.vol_types.specs.declared.keys.Key.{Key}
use Rattle.vol_types.specs.declared.positions.Pos.{Pos}
use Rattle.vol_types.specs.declared.values.Value.{Value}
use Rattle.key_meaning.specs.Blocks.{blocks_of}
use Rattle.extent_ops.specs.Content.{AreLookedAt, IsInRange}
use Rattle.extent_ops.specs.Looking.{AreExtentsUpTo, reach}
use Rattle.extent_ops.proofs.Fresh.{all-member}
use Rattle.extent_ops.proofs.Keyed.{at_member}
use Rattle.extent_ops.proofs.Pieces.{covers-range}

-- A position at most another one is of no greater file.
inodes_rise : (a b : Pos) → is_le (pos_cmp a b) ≡ true → a.inode ≤ b.inode
inodes_rise a b le = by (nat_cmp a.inode b.inode) refl le
  where
    by : (r : Ordering) → nat_cmp a.inode b.inode ≡ r → is_le (ordering_then r (ordering_then (nat_cmp a.offset b.offset) (nat_cmp a.snapshot b.snapshot))) ≡ true → a.inode ≤ b.inode
    by Less is le = omega (arith, ranked a.inode b.inode Less (sym is))
    by Equal is le = omega (arith, ranked a.inode b.inode Equal (sym is))
    by Greater is le = absurd (true≢false (sym le))

-- In one file positions are in the order of their offsets, and then of their ids.
at_most : (a b : Pos) → a.inode ≡ b.inode → a.offset ≤ b.offset → (a.offset ≡ b.offset → a.snapshot ≤ b.snapshot) → is_le (pos_cmp a b) ≡ true
at_most a b same le ids = ap (λ r. is_le (ordering_then r (ordering_then (nat_cmp a.offset b.offset) (nat_cmp a.snapshot b.snapshot)))) (sym (nat_cmp_is a.inode b.inode Equal same)) ∙ by (nat_cmp a.offset b.offset) refl (nat_cmp a.snapshot b.snapshot) refl
  where
    by : (r : Ordering) → nat_cmp a.offset b.offset ≡ r → (q : Ordering) → nat_cmp a.snapshot b.snapshot ≡ q → is_le (ordering_then (nat_cmp a.offset b.offset) (nat_cmp a.snapshot b.snapshot)) ≡ true
    by Less is q is' = ap (λ r. is_le (ordering_then r (nat_cmp a.snapshot b.snapshot))) is
    by Equal is Less is' = (λ i. is_le (ordering_then (is i) (is' i)))
    by Equal is Equal is' = (λ i. is_le (ordering_then (is i) (is' i)))
    by Equal is Greater is' = absurd (omega (arith, ranked a.snapshot b.snapshot Greater (sym is'), ids (ranked a.offset b.offset Equal (sym is))))
    by Greater is q is' = absurd (omega (arith, ranked a.offset b.offset Greater (sym is), le))

-- the first and the last position of those that are asked for
abbrev low_of : ℕ → ℕ → Pos
low_of file first = record { inode = file; offset = min (first + 1) (2 ^ 64 - 1); snapshot = 0 }

abbrev high_of : ℕ → ℕ → ℕ → Pos
high_of file last longest = record { inode = file; offset = min (last + longest) (2 ^ 64 - 1); snapshot = 2 ^ 32 - 1 }

-- The answer has them all.
pub looked_at_reach : (map : KeyMap) (file first last longest : ℕ) (keys : List Key) → All IsInRange map.extents → AreExtentsUpTo longest map → keys ≡ answer_of (reach file first last longest) map → AreLookedAt map file first last keys
looked_at_reach keys_map file first last longest keys fit up_to are = record {
  looked_at = λ entry. is_within (low_of file first) (high_of file last longest) entry.0;
  are = are;
  of_file = λ entry within. let tests = and_parts (is_le (pos_cmp (low_of file first) entry.0)) (is_le (pos_cmp entry.0 (high_of file last longest))) within in
      let up = inodes_rise (low_of file first) entry.0 tests.0 in let down = inodes_rise entry.0 (high_of file last longest) tests.1 in omega (arith, up, down);
  whole = λ entry block at of_file from to over.
      let range = all-member IsInRange entry keys_map.extents fit (at_member entry.0 entry.1 keys_map.extents at) in
      let covered = covers-range entry.0.offset entry.1 block over in
      let few = all-member (λ (e : Pos × Value). blocks_of e.1 ≤ longest) entry keys_map.extents up_to.each (at_member entry.0 entry.1 keys_map.extents at) in let offset = range.fits.offset in let id = range.fits.snapshot in
      (λ i. at_most (low_of file first) entry.0 (sym of_file) (omega (arith, covered.1, from)) (λ same. omega arith) i
      && at_most entry.0 (high_of file last longest) of_file (omega (arith, covered.0, to, few, offset)) (λ same. omega (arith, id)) i);
}
