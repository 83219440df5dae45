-- The position that follows another is after it, and at most each one after it that has its widths, whether or not the other has its own.
use Rattle.std.proofs.Common.{◌≡◌, ℕ, ◌+◌, ◌-◌, ◌^◌, ◌<◌, ◌≤◌, ◌⊎◌, inl, inr, ⊎_elim, Bool, true, false, cond, Some, None, refl, sym, ap, ◌∙◌, arith}
use Rattle.std.specs.Cmp.{nat_cmp_is}
use Rattle.std.specs.Ordering.{is_le, nat_cmp, ordering_then}
use Rattle.std.specs.Prelude.{nat_lt, unwrap_or}
use Rattle.std.specs.declared.cmp.Ordering.{Ordering}
use Rattle.std.specs.declared.cmp.Ordering.TheVariants.{Less, Equal, Greater}
use Rattle.std.proofs.lemmas.Bool.{cases_lt, ltb-false}
use Rattle.std.proofs.lemmas.Cmp.{ranked}
use Rattle.vol_types.specs.Positions.{IsBefore, greatest_pos, next_pos, pos_cmp}
use Rattle.vol_types.specs.Widths.{PosFits}
use Rattle.vol_types.specs.declared.positions.Pos.{Pos}

-- ---- three numbers, the first of which counts most

-- The first three are below the others.
abbrev IsBelow : ℕ → ℕ → ℕ → ℕ → ℕ → ℕ → Type 0
IsBelow a b c x y z = (a < x) ⊎ ((a ≡ x) × ((b < y) ⊎ ((b ≡ y) × (c < z))))

-- The first three are at most the others.
abbrev IsAtMost : ℕ → ℕ → ℕ → ℕ → ℕ → ℕ → Type 0
IsAtMost a b c x y z = (a < x) ⊎ ((a ≡ x) × ((b < y) ⊎ ((b ≡ y) × (c ≤ z))))

-- the order of three numbers
abbrev three_cmp : ℕ → ℕ → ℕ → ℕ → ℕ → ℕ → Ordering
three_cmp a b c x y z = ordering_then (nat_cmp a x) (ordering_then (nat_cmp b y) (nat_cmp c z))

less_of : (one other : Ordering) → ordering_then one other ≡ Less → (one ≡ Less) ⊎ ((one ≡ Equal) × (other ≡ Less))
less_of Less other is = inl refl
less_of Equal other is = inr (refl, is)
less_of Greater other is = absurd cc

below_of : (a b c x y z : ℕ) → three_cmp a b c x y z ≡ Less → IsBelow a b c x y z
below_of a b c x y z is = ⊎_elim
    (λ (less : nat_cmp a x ≡ Less). inl (ranked a x Less (sym less)))
    (λ (same : (nat_cmp a x ≡ Equal) × (ordering_then (nat_cmp b y) (nat_cmp c z) ≡ Less)).
    inr (
      ranked a x Equal (sym same.0),
      ⊎_elim
          (λ (less : nat_cmp b y ≡ Less). inl (ranked b y Less (sym less)))
          (λ (also : (nat_cmp b y ≡ Equal) × (nat_cmp c z ≡ Less)). inr (ranked b y Equal (sym also.0), ranked c z Less (sym also.1)))
          (less_of (nat_cmp b y) (nat_cmp c z) same.1),
    ))
    (less_of (nat_cmp a x) (ordering_then (nat_cmp b y) (nat_cmp c z)) is)

-- the order of three numbers, of which one pair is known
first_less : (a b c x y z : ℕ) → a < x → three_cmp a b c x y z ≡ Less
first_less a b c x y z less = ap (λ r. ordering_then r (ordering_then (nat_cmp b y) (nat_cmp c z))) (sym (nat_cmp_is a x Less less))

second_less : (a b c x y z : ℕ) → a ≡ x → b < y → three_cmp a b c x y z ≡ Less
second_less a b c x y z same less =
    ap (λ r. ordering_then r (ordering_then (nat_cmp b y) (nat_cmp c z))) (sym (nat_cmp_is a x Equal same))
    ∙ ap (λ r. ordering_then r (nat_cmp c z)) (sym (nat_cmp_is b y Less less))

third_only : (a b c x y z : ℕ) → a ≡ x → b ≡ y → three_cmp a b c x y z ≡ nat_cmp c z
third_only a b c x y z same also =
    ap (λ r. ordering_then r (ordering_then (nat_cmp b y) (nat_cmp c z))) (sym (nat_cmp_is a x Equal same))
    ∙ ap (λ r. ordering_then r (nat_cmp c z)) (sym (nat_cmp_is b y Equal also))

le_of : (c z : ℕ) → c ≤ z → is_le (nat_cmp c z) ≡ true
le_of c z le = by (nat_cmp c z) refl
  where
    by : (r : Ordering) → r ≡ nat_cmp c z → is_le r ≡ true
    by Less is = refl
    by Equal is = refl
    by Greater is = absurd (omega (arith, le, ranked c z Greater is))

at_most-le : (a b c x y z : ℕ) → IsAtMost a b c x y z → is_le (three_cmp a b c x y z) ≡ true
at_most-le a b c x y z (inl less) = ap is_le (first_less a b c x y z less)
at_most-le a b c x y z (inr (same, inl less)) = ap is_le (second_less a b c x y z same less)
at_most-le a b c x y z (inr (same, inr (also, le))) = ap is_le (third_only a b c x y z same also) ∙ le_of c z le

-- what is below three numbers, one step up

third_up : (a b c x y z : ℕ) → IsBelow a b c x y z → IsAtMost a b (c + 1) x y z
third_up a b c x y z (inl less) = inl less
third_up a b c x y z (inr (same, inl less)) = inr (same, inl less)
third_up a b c x y z (inr (same, inr (also, less))) = inr (same, inr (also, omega (arith, less)))

second_up : (a b c x y z : ℕ) → z < 2 ^ 32 → 2 ^ 32 - 1 ≤ c → IsBelow a b c x y z → IsAtMost a (b + 1) 0 x y z
second_up a b c x y z fits ends (inl less) = inl less
second_up a b c x y z fits ends (inr (same, inl less)) = inr (
  same,
  ⊎_elim
      (λ (under : b + 1 < y). inl under)
      (λ (not_under : y ≤ b + 1). let here : b + 1 ≡ y = omega (arith, less, not_under) in inr (here, omega arith))
      (cases_lt (b + 1) y),
)
second_up a b c x y z fits ends (inr (same, inr (also, less))) = absurd (omega (arith, fits, ends, less))

first_up : (a b c x y z : ℕ) → z < 2 ^ 32 → y < 2 ^ 64 → 2 ^ 32 - 1 ≤ c → 2 ^ 64 - 1 ≤ b → IsBelow a b c x y z → IsAtMost (a + 1) 0 0 x y z
first_up a b c x y z fits wide ends end (inl less) = ⊎_elim
    (λ (under : a + 1 < x). inl under)
    (λ (not_under : x ≤ a + 1).
    let here : a + 1 ≡ x = omega (arith, less, not_under) in
    inr (
      here,
      ⊎_elim
          (λ (under : 0 < y). inl under)
          (λ (not_under : y ≤ 0). let none : 0 ≡ y = omega (arith, not_under) in inr (none, omega arith))
          (cases_lt 0 y),
    ))
    (cases_lt (a + 1) x)
first_up a b c x y z fits wide ends end (inr (same, inl less)) = absurd (omega (arith, wide, end, less))
first_up a b c x y z fits wide ends end (inr (same, inr (also, less))) = absurd (omega (arith, fits, ends, less))

none_up : (a b c x y z : ℕ) → z < 2 ^ 32 → y < 2 ^ 64 → x < 2 ^ 64 → 2 ^ 32 - 1 ≤ c → 2 ^ 64 - 1 ≤ b → 2 ^ 64 - 1 ≤ a → IsBelow a b c x y z → ⊥
none_up a b c x y z fits wide broad ends end last (inl less) = omega (arith, broad, last, less)
none_up a b c x y z fits wide broad ends end last (inr (same, inl less)) = omega (arith, wide, end, less)
none_up a b c x y z fits wide broad ends end last (inr (same, inr (also, less))) = omega (arith, fits, ends, less)

-- ---- positions

module _ (p q : Pos) (fits : PosFits q) (before : IsBefore p q) where
  below : IsBelow p.inode p.offset p.snapshot q.inode q.offset q.snapshot
  below = below_of p.inode p.offset p.snapshot q.inode q.offset q.snapshot before

  -- The position that follows one is at most each position after that one.
  pub next_first : is_le (pos_cmp (unwrap_or (next_pos p) greatest_pos) q) ≡ true
  next_first = by_snapshot (nat_lt p.snapshot (2 ^ 32 - 1)) refl
    where
      by_inode : (b : Bool) → nat_lt p.inode (2 ^ 64 - 1) ≡ b → 2 ^ 32 - 1 ≤ p.snapshot → 2 ^ 64 - 1 ≤ p.offset
          → is_le (pos_cmp (unwrap_or (cond b (Some (record { inode = p.inode + 1; offset = 0; snapshot = 0 })) None) greatest_pos) q) ≡ true
      by_inode true is ends end = at_most-le (p.inode + 1) 0 0 q.inode q.offset q.snapshot (first_up p.inode p.offset p.snapshot q.inode q.offset q.snapshot fits.snapshot fits.offset ends end below)
      by_inode false is ends end = absurd (none_up p.inode p.offset p.snapshot q.inode q.offset q.snapshot fits.snapshot fits.offset fits.inode ends end (ltb-false p.inode (2 ^ 64 - 1) is) below)

      by_offset : (b : Bool) → nat_lt p.offset (2 ^ 64 - 1) ≡ b → 2 ^ 32 - 1 ≤ p.snapshot
          → is_le (pos_cmp (unwrap_or (cond b (Some (record { inode = p.inode; offset = p.offset + 1; snapshot = 0 })) (cond (nat_lt p.inode (2 ^ 64 - 1)) (Some (record { inode = p.inode + 1; offset = 0; snapshot = 0 })) None)) greatest_pos) q) ≡ true
      by_offset true is ends = at_most-le p.inode (p.offset + 1) 0 q.inode q.offset q.snapshot (second_up p.inode p.offset p.snapshot q.inode q.offset q.snapshot fits.snapshot ends below)
      by_offset false is ends = by_inode (nat_lt p.inode (2 ^ 64 - 1)) refl ends (ltb-false p.offset (2 ^ 64 - 1) is)

      by_snapshot : (b : Bool) → nat_lt p.snapshot (2 ^ 32 - 1) ≡ b
          → is_le (pos_cmp (unwrap_or (cond b (Some (record { inode = p.inode; offset = p.offset; snapshot = p.snapshot + 1 })) (cond (nat_lt p.offset (2 ^ 64 - 1)) (Some (record { inode = p.inode; offset = p.offset + 1; snapshot = 0 })) (cond (nat_lt p.inode (2 ^ 64 - 1)) (Some (record { inode = p.inode + 1; offset = 0; snapshot = 0 })) None))) greatest_pos) q) ≡ true
      by_snapshot true is = at_most-le p.inode p.offset (p.snapshot + 1) q.inode q.offset q.snapshot (third_up p.inode p.offset p.snapshot q.inode q.offset q.snapshot below)
      by_snapshot false is = by_offset (nat_lt p.offset (2 ^ 64 - 1)) refl (ltb-false p.snapshot (2 ^ 32 - 1) is)

-- The position that follows one before the greatest is after it.
pub next_after : (p : Pos) → IsBefore p greatest_pos → IsBefore p (unwrap_or (next_pos p) greatest_pos)
next_after p before = by_snapshot (nat_lt p.snapshot (2 ^ 32 - 1)) refl
  where
    by_inode : (b : Bool) → nat_lt p.inode (2 ^ 64 - 1) ≡ b → IsBefore p (unwrap_or (cond b (Some (record { inode = p.inode + 1; offset = 0; snapshot = 0 })) None) greatest_pos)
    by_inode true is = first_less p.inode p.offset p.snapshot (p.inode + 1) 0 0 (omega arith)
    by_inode false is = before

    by_offset : (b : Bool) → nat_lt p.offset (2 ^ 64 - 1) ≡ b
        → IsBefore p (unwrap_or (cond b (Some (record { inode = p.inode; offset = p.offset + 1; snapshot = 0 })) (cond (nat_lt p.inode (2 ^ 64 - 1)) (Some (record { inode = p.inode + 1; offset = 0; snapshot = 0 })) None)) greatest_pos)
    by_offset true is = second_less p.inode p.offset p.snapshot p.inode (p.offset + 1) 0 refl (omega arith)
    by_offset false is = by_inode (nat_lt p.inode (2 ^ 64 - 1)) refl

    by_snapshot : (b : Bool) → nat_lt p.snapshot (2 ^ 32 - 1) ≡ b
        → IsBefore p (unwrap_or (cond b (Some (record { inode = p.inode; offset = p.offset; snapshot = p.snapshot + 1 })) (cond (nat_lt p.offset (2 ^ 64 - 1)) (Some (record { inode = p.inode; offset = p.offset + 1; snapshot = 0 })) (cond (nat_lt p.inode (2 ^ 64 - 1)) (Some (record { inode = p.inode + 1; offset = 0; snapshot = 0 })) None))) greatest_pos)
    by_snapshot true is =
        third_only p.inode p.offset p.snapshot p.inode p.offset (p.snapshot + 1) refl refl
        ∙ sym (nat_cmp_is p.snapshot (p.snapshot + 1) Less (omega arith))
    by_snapshot false is = by_offset (nat_lt p.offset (2 ^ 64 - 1)) refl
