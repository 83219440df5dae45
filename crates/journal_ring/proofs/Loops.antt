-- The loops and choices of the reader, one step after the other, as the definitions go.
use Rattle.std.proofs.Common.{◌≡◌, ℕ, zero, suc, ◌%◌, ◌<◌, ◌≤◌, ⊎_elim, cond, List, ◌++◌, Option, Some, None, refl, ap, ◌∙◌, sym, subst, arith}
use Rattle.std.proofs.lemmas.Bool.{cases_lt, eq-eqb}
use Rattle.std.specs.Prelude.{option_and_then, ◌==◌}
use Rattle.sealed_block.specs.declared.heads.Head.{Head}
use Rattle.sealed_block.specs.Opening.{opened}
use Rattle.vol_types.specs.declared.layout.Layout.{Layout}
use Rattle.journal_ring.specs.declared.found.FoundEntry.{FoundEntry}
use Rattle.journal_ring.specs.Parts.{Area, first_of_two, first_on, joined, part_of, with_next}
use Rattle.journal_ring.specs.Entries.{begun_by, entry_on}
use Rattle.journal_ring.specs.Counting.{entry_at}

-- The first device of so many that has something: here it is,
pub first_found : {A : Type 0} (on : ℕ → Option A) (dev count : ℕ) (x : A) → dev < count → first_on on dev ≡ None → on dev ≡ Some x → first_on on count ≡ Some x
first_found on dev zero x within none is = absurd (omega (arith, within))
first_found on dev (suc count) x within none is = ⊎_elim
    (λ (lower : dev < count). ap (λ o. first_of_two o (on count)) (first_found on dev count x lower none is))
    (λ (past : count ≤ dev).
    let same : dev ≡ count = omega (arith, within, past) in
    ap (λ o. first_of_two o (on count)) (subst (λ n. first_on on n ≡ None) same none) ∙ subst (λ n. on n ≡ Some x) same is)
    (cases_lt dev count)

-- and here it isn't.
pub none_found : {A : Type 0} (on : ℕ → Option A) (dev : ℕ) → first_on on dev ≡ None → on dev ≡ None → first_on on (suc dev) ≡ None
none_found on dev none is = ap (λ o. first_of_two o (on dev)) none ∙ is

-- One part more is joined, or it is missing, and then no more are joined.
module _ (layout : Layout) (area : Area) (dev : ℕ) (first : Head) where
  pub joined_more : (p : ℕ) (bytes payload : List ℕ) → joined layout area dev first p ≡ Some bytes → part_of layout area dev first p ≡ Some payload → joined layout area dev first (suc p) ≡ Some (bytes ++ payload)
  joined_more p bytes payload before is = ap (λ o. with_next o (part_of layout area dev first p)) before ∙ ap (with_next (Some bytes)) is

  lacks : (bytes next : Option (List ℕ)) → next ≡ None → with_next bytes next ≡ None
  lacks None next none = refl
  lacks (Some bytes) next none = ap (with_next (Some bytes)) none

  lacks_from : (p count : ℕ) → p < count → part_of layout area dev first p ≡ None → joined layout area dev first count ≡ None
  lacks_from p zero within none = absurd (omega (arith, within))
  lacks_from p (suc count) within none = ⊎_elim
      (λ (lower : p < count). ap (λ o. with_next o (part_of layout area dev first count)) (lacks_from p count lower none))
      (λ (past : count ≤ p).
      let same : p ≡ count = omega (arith, within, past) in
      lacks (joined layout area dev first count) (part_of layout area dev first count) (subst (λ n. part_of layout area dev first n ≡ None) same none))
      (cases_lt p count)

  pub joined_none : (p : ℕ) (bytes : List ℕ) → p < first.parts → None ≡ part_of layout area dev first p → joined layout area dev first p ≡ Some bytes → None ≡ joined layout area dev first first.parts
  joined_none p bytes within none before = sym (lacks_from p first.parts within (sym none))

-- The entry at a place is the one that the head of the block there begins, where the place is that of its number.
pub begun_there : (layout : Layout) (area : Area) (dev place : ℕ) (block : List ℕ) (head : Head) → area dev place ≡ Some block → opened block ≡ Some head → head.number % layout.journal ≡ place → begun_by layout area dev head.number head ≡ entry_at layout area dev place
unfolding entry_on
begun_there layout area dev place block head stands opens same = sym (
    ap (λ o. option_and_then (λ (h : Head). cond {A = Option FoundEntry} (h.number % layout.journal == place) (entry_on layout area dev h.number) None) (option_and_then opened o)) stands
    ∙ ap (option_and_then (λ (h : Head). cond {A = Option FoundEntry} (h.number % layout.journal == place) (entry_on layout area dev h.number) None)) opens
    ∙ ap (λ b. cond {A = Option FoundEntry} b (entry_on layout area dev head.number) None) (eq-eqb (head.number % layout.journal) place same)
    ∙ ap (λ p. option_and_then (begun_by layout area dev head.number) (option_and_then opened (area dev p))) same
    ∙ ap (λ o. option_and_then (begun_by layout area dev head.number) (option_and_then opened o)) stands
    ∙ ap (option_and_then (begun_by layout area dev head.number)) opens)
