-- Which of several positions is before which, by the tests that say so.
use Rattle.std.proofs.Common.{◌≡◌, ◌≤◌, true, false, refl, sym, ap, ◌∙◌, arith}
use Rattle.std.specs.BTreeMap.{is_at}
use Rattle.std.specs.Ordering.{is_eq, is_le, nat_cmp, ordering_reverse}
use Rattle.std.specs.declared.cmp.Ordering.{Ordering}
use Rattle.std.specs.declared.cmp.Ordering.TheVariants.{Less, Equal, Greater}
use Rattle.std.proofs.lemmas.Bool.{false≢true}
use Rattle.std.proofs.lemmas.Cmp.{alike_right, ranked, tied_itself}
use Rattle.vol_types.specs.PositionLaws.{pos_cmp-number, pos_exact, pos_number-fits, pos_total}
use Rattle.vol_types.specs.Positions.{greatest_pos, least_pos, pos_cmp, pos_number}
use Rattle.vol_types.specs.Widths.{PosFits}
use Rattle.vol_types.specs.declared.positions.Pos.{Pos}

equal_from : (o : Ordering) → is_eq o ≡ true → o ≡ Equal
equal_from Less is = absurd (false≢true is)
equal_from Equal is = refl
equal_from Greater is = absurd (false≢true is)

-- A position that is found at another is that one.
pub same_from_at : (p q : Pos) → is_at (pos_cmp p) q ≡ true → p ≡ q
same_from_at p q is = pos_exact p q (equal_from (pos_cmp p q) is)

-- Each position is at itself.
pub at_itself : (p : Pos) → is_at (pos_cmp p) p ≡ true
at_itself p = ap is_eq (tied_itself pos_total p)

-- Each position is at most itself.
pub le_itself : (p : Pos) → is_le (pos_cmp p p) ≡ true
le_itself p = ap is_le (tied_itself pos_total p)

-- Whether two positions are one doesn't depend on which is asked for.
pub at_turned : (p q : Pos) → is_at (pos_cmp p) q ≡ is_at (pos_cmp q) p
at_turned p q = ap is_eq (pos_total.antisymm p q) ∙ turned (pos_cmp q p)
  where
    turned : (o : Ordering) → is_eq (ordering_reverse o) ≡ is_eq o
    turned Less = refl
    turned Equal = refl
    turned Greater = refl

-- What a position isn't at most is before it.
pub before_from_not_le : (p q : Pos) → is_le (pos_cmp p q) ≡ false → pos_cmp q p ≡ Less
before_from_not_le p q isnt = pos_total.antisymm q p ∙ by (pos_cmp p q) isnt
  where
    by : (o : Ordering) → is_le o ≡ false → ordering_reverse o ≡ Less
    by Less isnt = absurd (false≢true (sym isnt))
    by Equal isnt = absurd (false≢true (sym isnt))
    by Greater isnt = refl

-- What is before a position isn't one that the position is at most.
pub not_le_from_before : (p q : Pos) → pos_cmp p q ≡ Less → is_le (pos_cmp q p) ≡ false
not_le_from_before p q before = ap is_le (pos_total.antisymm q p ∙ ap ordering_reverse before)

-- What is before a position isn't at it.
pub not_at_from_before : (p q : Pos) → pos_cmp p q ≡ Less → is_at (pos_cmp p) q ≡ false
not_at_from_before p q before = ap is_eq before

-- And the position isn't at what is before it.
pub not_at_from_after : (p q : Pos) → pos_cmp p q ≡ Less → is_at (pos_cmp q) p ≡ false
not_at_from_after p q before = at_turned q p ∙ ap is_eq before

-- A position that is at most one before a third is before that.
pub before_from_le_before : (p q r : Pos) → is_le (pos_cmp p q) ≡ true → pos_cmp q r ≡ Less → pos_cmp p r ≡ Less
before_from_le_before p q r le before = by (pos_cmp p q) refl le
  where
    by : (o : Ordering) → pos_cmp p q ≡ o → is_le o ≡ true → pos_cmp p r ≡ Less
    by Less is le = pos_total.trans p q r is before
    by Equal is le = pos_total.congr p q r is ∙ before
    by Greater is le = absurd (false≢true le)

-- A position before one that is at most a third is before that.
pub before_from_before_le : (p q r : Pos) → pos_cmp p q ≡ Less → is_le (pos_cmp q r) ≡ true → pos_cmp p r ≡ Less
before_from_before_le p q r before le = by (pos_cmp q r) refl le
  where
    by : (o : Ordering) → pos_cmp q r ≡ o → is_le o ≡ true → pos_cmp p r ≡ Less
    by Less is le = pos_total.trans p q r before is
    by Equal is le = sym (alike_right pos_total q r p is) ∙ before
    by Greater is le = absurd (false≢true le)

-- A position that is at most one at most a third is at most that.
pub le_from_le_le : (p q r : Pos) → is_le (pos_cmp p q) ≡ true → is_le (pos_cmp q r) ≡ true → is_le (pos_cmp p r) ≡ true
le_from_le_le p q r le upto = by (pos_cmp p q) refl le
  where
    by : (o : Ordering) → pos_cmp p q ≡ o → is_le o ≡ true → is_le (pos_cmp p r) ≡ true
    by Less is le = ap is_le (before_from_before_le p q r is upto)
    by Equal is le = ap is_le (pos_total.congr p q r is) ∙ upto
    by Greater is le = absurd (false≢true le)

le_number : (p q : Pos) → PosFits p → PosFits q → pos_number p ≤ pos_number q → is_le (pos_cmp p q) ≡ true
le_number p q p_fits q_fits le = ap is_le (pos_cmp-number p q p_fits q_fits) ∙ by (nat_cmp (pos_number p) (pos_number q)) refl
  where
    by : (o : Ordering) → o ≡ nat_cmp (pos_number p) (pos_number q) → is_le o ≡ true
    by Less is = refl
    by Equal is = refl
    by Greater is = absurd (omega (arith, le, ranked (pos_number p) (pos_number q) Greater is))

-- The greatest position has the widths of its parts.
pub greatest-fits : PosFits greatest_pos
greatest-fits = record { inode = omega arith; offset = omega arith; snapshot = omega arith }

-- Each position is at most the greatest one.
pub le_greatest : (p : Pos) → PosFits p → is_le (pos_cmp p greatest_pos) ≡ true
le_greatest p fits = le_number p greatest_pos fits greatest-fits (omega (arith, pos_number-fits p fits))

-- The least position is at most each one.
pub least_le : (p : Pos) → PosFits p → is_le (pos_cmp least_pos p) ≡ true
least_le p fits = le_number least_pos p (record { inode = omega arith; offset = omega arith; snapshot = omega arith }) fits (omega arith)
