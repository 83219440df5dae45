-- The order of positions is total, tells any two positions apart, and is that of their numbers.
use Rattle.std.proofs.Common.{◌≡◌, ℕ, ◌+◌, ◌-◌, ◌*◌, ◌^◌, ◌<◌, ◌≤◌, Bool, true, false, cond, Some, None, refl, sym, ap, ◌∙◌, arith}
use Rattle.std.specs.Prelude.{◌≢◌, ◌↔◌, ◌&&◌, MatchOption, nat_lt}
use Rattle.std.specs.Cmp.{IsTotalOrder, nat_cmp_is}
use Rattle.std.specs.Ordering.{nat_cmp, ordering_then, is_le, is_lt, is_eq}
use Rattle.std.specs.declared.cmp.Ordering.{Ordering}
use Rattle.std.specs.declared.cmp.Ordering.TheVariants.{Less, Equal, Greater}
use Rattle.std.proofs.lemmas.Bool.{and_parts, ltb-false, ltb-true, true≢false}
use Rattle.std.proofs.lemmas.Cmp.{on_total, then_total, nat_cmp_total, ranked}
use Rattle.std.proofs.lemmas.Nat.{row_fits}
use Rattle.std.proofs.lemmas.Map.Lookups.{CmpEqualImpliesEq, exact_pairs, exact_unsigned}
use Rattle.vol_types.specs.declared.positions.Pos.{Pos}
use Rattle.vol_types.specs.Positions.{pos_cmp, greatest_pos, next_pos, pos_number, is_within, IsWithin, IsNext}
use Rattle.vol_types.specs.Widths.{PosFits}

-- Positions that compare alike are one.
pub pos_exact : CmpEqualImpliesEq pos_cmp
pos_exact p q alike =
    ap (λ (t : ℕ × (ℕ × ℕ)). record { inode = t.0; offset = t.1.0; snapshot = t.1.1 })
    (exact_pairs nat_cmp (λ (x y : ℕ × ℕ). ordering_then (nat_cmp x.0 y.0) (nat_cmp x.1 y.1)) exact_unsigned (exact_pairs nat_cmp nat_cmp exact_unsigned exact_unsigned)
    (p.inode, (p.offset, p.snapshot)) (q.inode, (q.offset, q.snapshot)) alike)

-- Positions are in a total order.
pub pos_total : IsTotalOrder pos_cmp
pos_total = then_total (on_total (λ p. p.inode) nat_cmp_total) (then_total (on_total (λ p. p.offset) nat_cmp_total) (on_total (λ p. p.snapshot) nat_cmp_total))

-- products in the order of their first factors, with what is below the second factor added to each
below_product : (low high width x y : ℕ) → low + width ≤ high → x < width → low + x < high + y
below_product low high width x y le fits = omega (arith, le, fits)

-- numbers of two digits, the lower one below the width, are in the order of their digits
joined_number : (width a b x y : ℕ) → x < width → y < width → ordering_then (nat_cmp a b) (nat_cmp x y) ≡ nat_cmp (a * width + x) (b * width + y)
joined_number width a b x y x_fits y_fits = by (nat_cmp a b) refl
  where
    by : (r : Ordering) → r ≡ nat_cmp a b → ordering_then r (nat_cmp x y) ≡ nat_cmp (a * width + x) (b * width + y)
    by Less is = nat_cmp_is (a * width + x) (b * width + y) Less (below_product (a * width) (b * width) width x y (row_fits a width b width (ranked a b Less is) (omega arith)) x_fits)
    by Equal is = same (nat_cmp x y) refl (ap (λ n. n * width) (ranked a b Equal is))
      where
        same : (r : Ordering) → r ≡ nat_cmp x y → a * width ≡ b * width → r ≡ nat_cmp (a * width + x) (b * width + y)
        same Less it eq = nat_cmp_is (a * width + x) (b * width + y) Less (less (a * width) (b * width) eq (ranked x y Less it))
          where
            less : (low high : ℕ) → low ≡ high → x < y → low + x < high + y
            less low high eq lt = omega (arith, eq, lt)
        same Equal it eq = nat_cmp_is (a * width + x) (b * width + y) Equal (both (a * width) (b * width) eq (ranked x y Equal it))
          where
            both : (low high : ℕ) → low ≡ high → x ≡ y → low + x ≡ high + y
            both low high eq is = omega (arith, eq, is)
        same Greater it eq = nat_cmp_is (a * width + x) (b * width + y) Greater (more (a * width) (b * width) eq (ranked x y Greater it))
          where
            more : (low high : ℕ) → low ≡ high → y < x → high + y < low + x
            more low high eq lt = omega (arith, eq, lt)
    by Greater is = nat_cmp_is (a * width + x) (b * width + y) Greater (below_product (b * width) (a * width) width y x (row_fits b width a width (ranked a b Greater is) (omega arith)) y_fits)

-- Positions are in the order of their numbers.
pub pos_cmp-number : (p q : Pos) → PosFits p → PosFits q → pos_cmp p q ≡ nat_cmp (pos_number p) (pos_number q)
pos_cmp-number p q p_fits q_fits =
    ap (ordering_then (nat_cmp p.inode q.inode)) (joined_number (2 ^ 32) p.offset q.offset p.snapshot q.snapshot p_fits.snapshot q_fits.snapshot)
    ∙ joined_number (2 ^ 96) p.inode q.inode (p.offset * 2 ^ 32 + p.snapshot) (q.offset * 2 ^ 32 + q.snapshot) (omega (arith, p_fits.offset, p_fits.snapshot)) (omega (arith, q_fits.offset, q_fits.snapshot))

-- The numbers of positions have 160 bits.
pub pos_number-fits : (p : Pos) → PosFits p → pos_number p < 2 ^ 160
pos_number-fits p fits = omega (arith, fits.inode, fits.offset, fits.snapshot)

module _ (p : Pos) (fits : PosFits p) where
  -- at the end of the offsets
  next_inode : (b : Bool) → nat_lt p.inode (2 ^ 64 - 1) ≡ b → p.snapshot ≡ 2 ^ 32 - 1 → p.offset ≡ 2 ^ 64 - 1
      → MatchOption (cond b (Some (record { inode = p.inode + 1; offset = 0; snapshot = 0 })) None) (p ≡ greatest_pos) (IsNext p)
  next_inode true is snapshot offset = (record { inode = omega (arith, ltb-true p.inode (2 ^ 64 - 1) is); offset = omega arith; snapshot = omega arith }, omega (arith, snapshot, offset))
  next_inode false is snapshot offset =
      let inode : p.inode ≡ 2 ^ 64 - 1 = omega (arith, fits.inode, ltb-false p.inode (2 ^ 64 - 1) is) in
      λ i. record { inode = inode i; offset = offset i; snapshot = snapshot i }

  -- at the end of the snapshots
  next_offset : (b : Bool) → nat_lt p.offset (2 ^ 64 - 1) ≡ b → p.snapshot ≡ 2 ^ 32 - 1
      → MatchOption (cond b (Some (record { inode = p.inode; offset = p.offset + 1; snapshot = 0 })) (cond (nat_lt p.inode (2 ^ 64 - 1)) (Some (record { inode = p.inode + 1; offset = 0; snapshot = 0 })) None)) (p ≡ greatest_pos) (IsNext p)
  next_offset true is snapshot = (record { inode = fits.inode; offset = omega (arith, ltb-true p.offset (2 ^ 64 - 1) is); snapshot = omega arith }, omega (arith, snapshot))
  next_offset false is snapshot = next_inode (nat_lt p.inode (2 ^ 64 - 1)) refl snapshot (omega (arith, fits.offset, ltb-false p.offset (2 ^ 64 - 1) is))

  next_snapshot : (b : Bool) → nat_lt p.snapshot (2 ^ 32 - 1) ≡ b
      → MatchOption (cond b (Some (record { inode = p.inode; offset = p.offset; snapshot = p.snapshot + 1 })) (cond (nat_lt p.offset (2 ^ 64 - 1)) (Some (record { inode = p.inode; offset = p.offset + 1; snapshot = 0 })) (cond (nat_lt p.inode (2 ^ 64 - 1)) (Some (record { inode = p.inode + 1; offset = 0; snapshot = 0 })) None))) (p ≡ greatest_pos) (IsNext p)
  next_snapshot true is = (record { inode = fits.inode; offset = fits.offset; snapshot = omega (arith, ltb-true p.snapshot (2 ^ 32 - 1) is) }, omega arith)
  next_snapshot false is = next_offset (nat_lt p.offset (2 ^ 64 - 1)) refl (omega (arith, fits.snapshot, ltb-false p.snapshot (2 ^ 32 - 1) is))

  -- The position that follows has the next number, and where there is none it is the greatest.
  pub next_pos-number : MatchOption (next_pos p) (p ≡ greatest_pos) (IsNext p)
  next_pos-number = next_snapshot (nat_lt p.snapshot (2 ^ 32 - 1)) refl

not_greater : (r : Ordering) → is_le r ≡ true → r ≢ Greater
not_greater Less is = λ same. true≢false (ap is_lt same)
not_greater Equal is = λ same. true≢false (ap is_eq same)
not_greater Greater is = absurd (true≢false (sym is))

at_most : (r : Ordering) → r ≢ Greater → is_le r ≡ true
at_most Less isnt = refl
at_most Equal isnt = refl
at_most Greater isnt = absurd (isnt refl)

-- The test of a range passes exactly the positions in it.
pub is_within-iff : (first last p : Pos) → (is_within first last p ≡ true) ↔ IsWithin first last p
is_within-iff first last p = (
  λ is. let parts = and_parts (is_le (pos_cmp first p)) (is_le (pos_cmp p last)) is in (not_greater (pos_cmp first p) parts.0, not_greater (pos_cmp p last) parts.1),
  λ within. rw (at_most (pos_cmp first p) within.0) (at_most (pos_cmp p last) within.1),
)
