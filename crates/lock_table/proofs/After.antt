-- The sequence of a node once an actor has let go of it.
use Rattle.std.proofs.Common.{◌≡◌, ℕ, ◌+◌, ◌^◌, ◌<◌, ◌≤◌, ◌⊎◌, Bool, true, false, Option, Some, None, IsSome, refl, sym, subst, inl, inr, ⊎_elim, ◌∙◌, ap, arith}
use Rattle.std.proofs.lemmas.Bool.{cases_eq}
use Rattle.std.proofs.lemmas.Bool.Decides.{nat_tests}
use Rattle.std.proofs.lemmas.Option.{same_Some, none-some as none_some}
use Rattle.six_lock.specs.Modes.Mode.{Exclusive}
use Rattle.six_lock.specs.Locks.{next_sequence}
use Rattle.lock_table.specs.Tables.{HoldsOf, sequence_of}
use Rattle.lock_table.specs.Nodes.{IsSequenceAfter}
use Rattle.lock_table.specs.declared.node.Node.{Node}

-- the next sequence is no less, and greater where one more fits
pub next_no_less : (s : ℕ) → s ≤ next_sequence s
next_no_less s = grind (arith, nat_tests)

pub next_greater : (s : ℕ) → s + 1 < 2 ^ 64 → s < next_sequence s
next_greater s fits = grind (arith, nat_tests)

-- an actor holds exclusive of a node, or doesn't
pub exclusive_or_not : (node : Option Node) (actor : ℕ) → HoldsOf node actor Exclusive ⊎ (HoldsOf node actor Exclusive → ⊥)
exclusive_or_not None actor = inr (λ h. h)
exclusive_or_not (Some node) actor = decide node.lock.intent node.lock.exclusive
  where
    decide : (intent : Option ℕ) (exclusive : Bool) → ((intent ≡ Some actor) × (exclusive ≡ true)) ⊎ (((intent ≡ Some actor) × (exclusive ≡ true)) → ⊥)
    decide None exclusive = inr (λ h. none_some actor h.0)
    decide (Some holder) false = inr (λ h. let e : false ≡ true = h.1 in cc)
    decide (Some holder) true = ⊎_elim (λ same. inl (ap Some same, refl)) (λ other. inr (λ h. other (same_Some holder actor h.0))) (cases_eq holder actor)

-- a node's sequence once an actor has let go of it is no less, and there is one
pub after_no_less : (before : ℕ) (node : Option Node) (actor s : ℕ) → IsSequenceAfter before node actor s → sequence_of before node ≤ s
after_no_less before node actor s after =
    ⊎_elim (λ holds. subst (λ (n : ℕ). sequence_of before node ≤ n) (sym (after.ended holds)) (next_no_less (sequence_of before node)))
    (λ free. let le : sequence_of before node ≤ s = let same = after.same free in omega arith in le)
    (exclusive_or_not node actor)

-- there is no other such sequence
pub after_one : (before : ℕ) (node : Option Node) (actor s t : ℕ) → IsSequenceAfter before node actor s → IsSequenceAfter before node actor t → s ≡ t
after_one before node actor s t first second =
    ⊎_elim (λ holds. first.ended holds ∙ sym (second.ended holds)) (λ free. first.same free ∙ sym (second.same free)) (exclusive_or_not node actor)

-- the sequence of a node that is held is its own
pub sequence_own : (s t : ℕ) (node : Option Node) → IsSome node → sequence_of s node ≡ sequence_of t node
sequence_own s t None some = let e : false ≡ true = some in cc
sequence_own s t (Some node) some = refl

pub after_some : (before : ℕ) (node : Option Node) (actor : ℕ) → (s : ℕ) × IsSequenceAfter before node actor s
after_some before node actor =
    ⊎_elim (λ holds. (next_sequence (sequence_of before node), record { ended = λ h. refl; same = λ free. absurd (free holds) }))
    (λ free. (sequence_of before node, record { ended = λ h. absurd (free h); same = λ h. refl }))
    (exclusive_or_not node actor)
