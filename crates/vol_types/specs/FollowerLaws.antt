-- The position that follows another, among positions that have their widths, and what is before it and from it on.
use Rattle.std.proofs.Common.{◌≡◌, ◌≢◌, ℕ, ◌+◌, ◌<◌, true, false, Option, Some, None, refl, sym, ap, ◌∙◌, subst, arith}
use Rattle.std.specs.Prelude.{MatchOption, unwrap_or}
use Rattle.std.specs.Cmp.{nat_cmp_is}
use Rattle.std.specs.Ordering.{is_le, is_lt, is_gt, nat_cmp}
use Rattle.std.specs.declared.cmp.Ordering.{Ordering}
use Rattle.std.specs.declared.cmp.Ordering.TheVariants.{Less, Equal, Greater}
use Rattle.std.proofs.lemmas.Cmp.{ranked}
use Rattle.vol_types.specs.Positions.{pos_cmp, IsBefore, IsNext, greatest_pos, least_pos, next_pos, pos_number}
use Rattle.vol_types.specs.PositionLaws.{pos_cmp-number, pos_number-fits, next_pos-number}
use Rattle.vol_types.specs.Widths.{PosFits}
use Rattle.vol_types.specs.declared.positions.Pos.{Pos}

-- a number is below the next one exactly where it is at most this one
gt_next : (n m : ℕ) → is_gt (nat_cmp (n + 1) m) ≡ is_le (nat_cmp m n)
gt_next n m = by (nat_cmp m n) refl
  where
    by : (r : Ordering) → r ≡ nat_cmp m n → is_gt (nat_cmp (n + 1) m) ≡ is_le r
    by Less is = ap is_gt (sym (nat_cmp_is (n + 1) m Greater (omega (arith, ranked m n Less is))))
    by Equal is = ap is_gt (sym (nat_cmp_is (n + 1) m Greater (omega (arith, ranked m n Equal is))))
    by Greater is = above (nat_cmp (n + 1) m) refl (ranked m n Greater is)
      where
        above : (r : Ordering) → r ≡ nat_cmp (n + 1) m → n < m → is_gt r ≡ false
        above Less it lt = refl
        above Equal it lt = refl
        above Greater it lt = absurd (omega (arith, ranked (n + 1) m Greater it))

-- and the next one is at most another exactly where this one is below that
le_next : (n m : ℕ) → is_le (nat_cmp (n + 1) m) ≡ is_lt (nat_cmp n m)
le_next n m = by (nat_cmp n m) refl
  where
    by : (r : Ordering) → r ≡ nat_cmp n m → is_le (nat_cmp (n + 1) m) ≡ is_lt r
    by Less is = below (nat_cmp (n + 1) m) refl (ranked n m Less is)
      where
        below : (r : Ordering) → r ≡ nat_cmp (n + 1) m → n < m → is_le r ≡ true
        below Less it lt = refl
        below Equal it lt = refl
        below Greater it lt = absurd (omega (arith, ranked (n + 1) m Greater it))
    by Equal is = ap is_le (sym (nat_cmp_is (n + 1) m Greater (omega (arith, ranked n m Equal is))))
    by Greater is = ap is_le (sym (nat_cmp_is (n + 1) m Greater (omega (arith, ranked n m Greater is))))

-- A position before another isn't the greatest one.
pub not_greatest : (p q : Pos) → PosFits p → PosFits q → IsBefore p q → p ≢ greatest_pos
not_greatest p q fits others before is =
    omega
    (arith, pos_number-fits q others, ap pos_number is, ranked (pos_number p) (pos_number q) Less (sym before ∙ pos_cmp-number p q fits others))

-- A position that isn't the greatest one has one that follows.
pub has_follower : (p : Pos) → PosFits p → p ≢ greatest_pos → next_pos p ≢ None
has_follower p fits ends none = ends (subst (λ o. MatchOption o (p ≡ greatest_pos) (IsNext p)) none (next_pos-number p fits))

-- The position that follows another is at most a third exactly where that other is before the third.
pub follows-test : (p x : Pos) → PosFits p → PosFits x → p ≢ greatest_pos → is_le (pos_cmp (unwrap_or (next_pos p) greatest_pos) x) ≡ is_lt (pos_cmp p x)
follows-test p x fits others ends = by (next_pos p) (next_pos-number p fits)
  where
    by : (o : Option Pos) → MatchOption o (p ≡ greatest_pos) (IsNext p) → is_le (pos_cmp (unwrap_or o greatest_pos) x) ≡ is_lt (pos_cmp p x)
    by None is = absurd (ends is)
    by (Some q) is =
        ap is_le (pos_cmp-number q x is.0 others ∙ ap (λ n. nat_cmp n (pos_number x)) is.1) ∙ le_next (pos_number p) (pos_number x) ∙ ap is_lt (sym (pos_cmp-number p x fits others))

-- No position is before the least one.
pub least-first : (x : Pos) → PosFits x → is_le (pos_cmp least_pos x) ≡ true
least-first x fits = ap is_le (pos_cmp-number least_pos x (record { inode = omega arith; offset = omega arith; snapshot = omega arith }) fits) ∙ zero_first (pos_number x)
  where
    zero_first : (n : ℕ) → is_le (nat_cmp 0 n) ≡ true
    zero_first n = by (nat_cmp 0 n) refl
      where
        by : (r : Ordering) → r ≡ nat_cmp 0 n → is_le r ≡ true
        by Less is = refl
        by Equal is = refl
        by Greater is = absurd (omega (arith, ranked 0 n Greater is))

-- No position is after the greatest one.
pub greatest-last : (x : Pos) → PosFits x → is_le (pos_cmp x greatest_pos) ≡ true
greatest-last x fits = ap is_le (pos_cmp-number x greatest_pos fits (record { inode = omega arith; offset = omega arith; snapshot = omega arith })) ∙ by (nat_cmp (pos_number x) (pos_number greatest_pos)) refl
  where
    by : (r : Ordering) → r ≡ nat_cmp (pos_number x) (pos_number greatest_pos) → is_le r ≡ true
    by Less is = refl
    by Equal is = refl
    by Greater is = absurd (omega (arith, ranked (pos_number x) (pos_number greatest_pos) Greater is, pos_number-fits x fits))

module _ (at next : Pos) (fits : PosFits at) (follows : next_pos at ≡ Some next) where
  -- It follows.
  pub is_next : IsNext at next
  is_next = subst (λ o. MatchOption o (at ≡ greatest_pos) (IsNext at)) follows (next_pos-number at fits)

  -- A position is before the next one exactly where it is at most this one.
  pub up_to_test : (p : Pos) → PosFits p → is_gt (pos_cmp next p) ≡ is_le (pos_cmp p at)
  up_to_test p wide = ap is_gt (pos_cmp-number next p is_next.0 wide ∙ ap (λ n. nat_cmp n (pos_number p)) is_next.1) ∙ gt_next (pos_number at) (pos_number p) ∙ ap is_le (sym (pos_cmp-number p at wide fits))

  -- And it is the next one or after that exactly where it is after this one.
  pub after_test : (p : Pos) → PosFits p → is_le (pos_cmp next p) ≡ is_lt (pos_cmp at p)
  after_test p wide = ap is_le (pos_cmp-number next p is_next.0 wide ∙ ap (λ n. nat_cmp n (pos_number p)) is_next.1) ∙ le_next (pos_number at) (pos_number p) ∙ ap is_lt (sym (pos_cmp-number at p fits wide))
