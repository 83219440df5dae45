-- When two pairs are one, and which pairs lie in a range of those of one named id.
use Rattle.std.proofs.Common.{◌≡◌, ℕ, ◌<◌, ◌≤◌, Bool, true, false, cond, Option, refl, sym, ap, ◌∙◌, arith, inl, inr}
use Rattle.std.specs.Prelude.{◌⊎◌, ◌&&◌, ◌||◌, ◌==◌, not}
use Rattle.std.specs.BTreeMap.{is_at}
use Rattle.std.specs.Ordering.{nat_cmp, is_gt, is_lt, is_eq, ordering_then}
use Rattle.std.specs.declared.cmp.Ordering.{Ordering}
use Rattle.std.specs.declared.cmp.Ordering.TheVariants.{Less, Equal, Greater}
use Rattle.std.proofs.lemmas.Bool.Decides.{nat_tests}
use Rattle.std.proofs.lemmas.Bool.{eqb-true, eq-eqb, ne_eqb}
use Rattle.std.proofs.lemmas.Cmp.{ranked}
use Rattle.snap_tree.specs.Names.{Pairs, pair_cmp, has_pair, names}
use Rattle.vol_types.specs.declared.values.Snap.{Snap}
use Rattle.snap_tree.specs.ChainLaws.{same_test}

-- two pairs are one where both of their numbers are
pub same_pair : (q n a b : ℕ) → is_at (pair_cmp (q, n)) (a, b) ≡ ((a == q) && (b == n))
same_pair q n a b = here (nat_cmp q a) refl
  where
    here : (o : Ordering) → nat_cmp q a ≡ o → is_eq (ordering_then o (nat_cmp n b)) ≡ ((a == q) && (b == n))
    here Less is = sym (ap (λ t. t && (b == n)) (ne_eqb a q (let lt : q < a = ranked q a Less (sym is) in λ same. omega (arith, lt, same))))
    here Greater is = sym (ap (λ t. t && (b == n)) (ne_eqb a q (let lt : a < q = ranked q a Greater (sym is) in λ same. omega (arith, lt, same))))
    here Equal is = same_test n b ∙ sym (ap (λ t. t && (b == n)) (eq-eqb a q (let e : q ≡ a = ranked q a Equal (sym is) in sym e)))

-- a pair between two of one named id is of this id
pub in_range : (q bound a b : ℕ) → is_gt (pair_cmp (q, 0) (a, b)) ≡ false → is_gt (pair_cmp (a, b) (q, bound)) ≡ false → (a ≡ q) × (b ≤ bound)
in_range q bound a b low high = here (nat_cmp q a) refl (nat_cmp a q) refl low high
  where
    here : (o : Ordering) → nat_cmp q a ≡ o → (p : Ordering) → nat_cmp a q ≡ p → is_gt (ordering_then o (nat_cmp 0 b)) ≡ false → is_gt (ordering_then p (nat_cmp b bound)) ≡ false → (a ≡ q) × (b ≤ bound)
    here Greater is p back low high = absurd (cc)
    here Less is Greater back low high = absurd (cc)
    here Less is Less back low high = let lt : q < a = ranked q a Less (sym is) in let gt : a < q = ranked a q Less (sym back) in absurd (omega (arith, lt, gt))
    here Less is Equal back low high = let lt : q < a = ranked q a Less (sym is) in let e : a ≡ q = ranked a q Equal (sym back) in absurd (omega (arith, lt, e))
    here Equal is Less back low high = let e : q ≡ a = ranked q a Equal (sym is) in let gt : a < q = ranked a q Less (sym back) in absurd (omega (arith, e, gt))
    here Equal is Greater back low high = absurd (cc)
    here Equal is Equal back low high = (ranked a q Equal (sym back), grind (arith, nat_tests, high))

-- the same, where the ends of the range are told
pub in_range_of : (from to : ℕ × ℕ) (q bound a b : ℕ) → from ≡ (q, 0) → to ≡ (q, bound) → is_gt (pair_cmp from (a, b)) ≡ false → is_gt (pair_cmp (a, b) to) ≡ false → (a ≡ q) × (b ≤ bound)
in_range_of from to q bound a b first last low high = in_range q bound a b (ap (λ p. is_gt (pair_cmp p (a, b))) (sym first) ∙ low) (ap (λ p. is_gt (pair_cmp (a, b) p)) (sym last) ∙ high)

refl_cmp : (q : ℕ) → nat_cmp q q ≡ Equal
refl_cmp q = grind (arith, nat_tests)

-- and those of this id up to the bound are
pub into_range : (q bound n : ℕ) → n ≤ bound → (is_gt (pair_cmp (q, 0) (q, n)) ≡ false) × (is_gt (pair_cmp (q, n) (q, bound)) ≡ false)
into_range q bound n le =
    (ap (λ o. is_gt (ordering_then o (nat_cmp 0 n))) (refl_cmp q) ∙ low, ap (λ o. is_gt (ordering_then o (nat_cmp n bound))) (refl_cmp q) ∙ high)
  where
    low : is_gt (nat_cmp 0 n) ≡ false
    low = grind (arith, nat_tests)

    high : is_gt (nat_cmp n bound) ≡ false
    high = grind (arith, nat_tests, le)

pub into_range_of : (from to : ℕ × ℕ) (q bound n : ℕ) → from ≡ (q, 0) → to ≡ (q, bound) → n ≤ bound → (is_gt (pair_cmp from (q, n)) ≡ false) × (is_gt (pair_cmp (q, n) to) ≡ false)
into_range_of from to q bound n first last le =
    let within = into_range q bound n le in (ap (λ p. is_gt (pair_cmp p (q, n))) first ∙ within.0, ap (λ p. is_gt (pair_cmp (q, n) p)) last ∙ within.1)

-- of two pairs of one id the greater one has the greater second number
pub not_below : (q a b n : ℕ) → a ≡ q → is_lt (pair_cmp (a, b) (q, n)) ≡ false → n ≤ b
not_below q a b n same low = let e : is_lt (nat_cmp b n) ≡ false = sym (ap (λ x. is_lt (pair_cmp (x, b) (q, n))) same ∙ ap (λ o. is_lt (ordering_then o (nat_cmp b n))) (refl_cmp q)) ∙ low in grind (arith, nat_tests, e)

-- three pairs that are dropped one after another are those of a record
pub three : (o m z y a b c : Bool) → (((o && not (m && z && a && y)) && not (m && z && b && y)) && not (m && z && c && y)) ≡ (o && not (m && (z && (a || b || c)) && y))
three false m z y a b c = refl
three true false z y a b c = refl
three true true false y a b c = refl
three true true true true true true true = refl
three true true true true true true false = refl
three true true true true true false true = refl
three true true true true true false false = refl
three true true true true false true true = refl
three true true true true false true false = refl
three true true true true false false true = refl
three true true true true false false false = refl
three true true true false true true true = refl
three true true true false true true false = refl
three true true true false true false true = refl
three true true true false true false false = refl
three true true true false false true true = refl
three true true true false false true false = refl
three true true true false false false true = refl
three true true true false false false false = refl

module _ (old new : Pairs) (q n : ℕ) where
  -- what is found after a pair was put
  pub put_kept : ((k : ℕ × ℕ) → has_pair new k.0 k.1 ≡ cond (is_at (pair_cmp (q, n)) k) true (has_pair old k.0 k.1)) → (a b : ℕ) → has_pair old a b ≡ true → has_pair new a b ≡ true
  put_kept is a b was = is (a, b) ∙ ap (cond (is_at (pair_cmp (q, n)) (a, b)) true) was ∙ same (is_at (pair_cmp (q, n)) (a, b))
    where
      same : (t : Bool) → cond t true true ≡ true
      same true = refl
      same false = refl

  pub put_only : ((k : ℕ × ℕ) → has_pair new k.0 k.1 ≡ cond (is_at (pair_cmp (q, n)) k) true (has_pair old k.0 k.1)) → (a b : ℕ) → has_pair new a b ≡ true → (has_pair old a b ≡ true) ⊎ ((b ≡ n) × (a ≡ q))
  put_only is a b now = here (a == q) refl (b == n) refl (sym (is (a, b) ∙ ap (λ t. cond t true (has_pair old a b)) (same_pair q n a b)) ∙ now)
    where
      here : (s : Bool) → (a == q) ≡ s → (t : Bool) → (b == n) ≡ t → cond (s && t) true (has_pair old a b) ≡ true → (has_pair old a b ≡ true) ⊎ ((b ≡ n) × (a ≡ q))
      here true first true second found = inr (eqb-true b n second, eqb-true a q first)
      here true first false second found = inl found
      here false first t second found = inl found

  -- what is found after a pair was taken out that no record needs
  pub out_one : ((k : ℕ × ℕ) → has_pair new k.0 k.1 ≡ cond (is_at (pair_cmp (q, n)) k) false (has_pair old k.0 k.1)) → (stays : Option Snap) → (q ≡ 0 → ⊥) → names q stays ≡ false → (a b : ℕ) → has_pair new a b ≡ (has_pair old a b && not (b == n && not (a == 0) && q == a && not (names a stays)))
  out_one is stays some none a b = is (a, b) ∙ ap (λ t. cond t false (has_pair old a b)) (same_pair q n a b) ∙ here (a == q) refl (b == n) (has_pair old a b)
    where
      here : (s : Bool) → (a == q) ≡ s → (t o : Bool) → cond (s && t) false o ≡ (o && not (t && not (a == 0) && q == a && not (names a stays)))
      here true at t o =
          let e : a ≡ q = eqb-true a q at in
          ends t o ∙ sym (ap (λ z. o && not (t && not z && q == a && not (names a stays))) (ne_eqb a 0 (λ nil. some (sym e ∙ nil))) ∙ ap (λ z. o && not (t && true && z && not (names a stays))) (eq-eqb q a (sym e)) ∙ ap (λ x. o && not (t && true && true && not (names x stays))) e ∙ ap (λ z. o && not (t && true && true && not z)) none)
        where
          ends : (t o : Bool) → cond t false o ≡ (o && not (t && true && true && true))
          ends true true = refl
          ends true false = refl
          ends false true = refl
          ends false false = refl
      here false at t o = ends t o (not (a == 0)) ∙ sym (ap (λ z. o && not (t && not (a == 0) && z && not (names a stays))) (ne_eqb q a (λ e. absurd (cc (at, eq-eqb a q (sym e))))))
        where
          ends : (t o z : Bool) → o ≡ (o && not (t && z && false && not (names a stays)))
          ends t false z = refl
          ends false true z = refl
          ends true true false = refl
          ends true true true = refl
