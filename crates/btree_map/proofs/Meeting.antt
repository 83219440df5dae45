-- Whether leaves end where nodes do, and values may stand in them, looked at in turn.
use Rattle.std.proofs.Common.{◌≡◌, ◌↔◌, Bor, Option, None, Some, List, [], ◌∷◌, sym, ap, ◌∙◌, refl, subst}
use Rattle.std.specs.Prelude.{All, IsTrue, is_none, is_some, option_copied, slice_get}
use Rattle.std.specs.Map.{keys_of, values_of}
use Rattle.std.specs.Map.Iter.{TakesFirst, deref}
use Rattle.std.proofs.lemmas.Bool.{false≢true}
use Rattle.std.proofs.lemmas.List.Elements.{All-cons, All-head, All-nil, All-tail}
use Rattle.std.proofs.lemmas.Option.{same_Some}
use Rattle.tree_nodes.specs.Levels.{Level}
use Rattle.vol_types.specs.KeyMaps.{Entries}
use Rattle.vol_types.specs.Standing.{MayStand}
use Rattle.vol_types.specs.declared.pointers.NodePtr.{NodePtr}
use Rattle.vol_types.specs.declared.positions.Btree.{Btree}
use Rattle.vol_types.specs.declared.positions.Pos.{Pos}
use Rattle.vol_types.specs.declared.values.Value.{Value}

-- All leaves end where nodes do exactly where those that are left do.
pub record IsMeeting (ends left : List Pos) (nodes rest : Level) : Type 0 where
  pub same : (left ≡ keys_of rest) ↔ (ends ≡ keys_of nodes)

-- before the first
pub meeting_none : (ends left : List Pos) (nodes rest : Level) → left ≡ ends → rest ≡ nodes → IsMeeting ends left nodes rest
meeting_none ends left nodes rest one other = record { same = (λ is. sym one ∙ is ∙ ap keys_of other, λ is. one ∙ is ∙ sym (ap keys_of other)) }

later_of : List Pos → List Pos
later_of [] = []
later_of (x ∷ xs) = xs

nil_cons : (x : Pos) (xs : List Pos) → [] ≡ x ∷ xs → ⊥
nil_cons x xs same = false≢true (ap (λ (ys : List Pos). is_some (slice_get ys 0)) same)

module _ (ends left later : List Pos) (nodes rest : Level) (meeting : IsMeeting ends left nodes rest) where
  module _ (others : Level) (greatest : Pos) (node : NodePtr) (next : rest ≡ (greatest, node) ∷ others) where
    abbrev here : List Pos
    here = greatest ∷ keys_of others

    next_is : keys_of rest ≡ here
    next_is = ap keys_of next

    -- one that ends there
    pub meeting_more : (taken : Option (Bor Pos)) → TakesFirst (deref {X = Pos}) left taken later → option_copied taken ≡ Some greatest → IsMeeting ends later nodes others
    unfolding later_of
    meeting_more None step same = absurd (false≢true (ap is_some same))
    meeting_more (Some x) step same = record {
      same = (
        λ is. meeting.same.0 (step ∙ (λ i. same_Some x.now greatest same i ∷ is i) ∙ sym next_is),
        λ whole. ap later_of (sym step ∙ meeting.same.1 whole ∙ next_is),
      );
    }

    -- and one that doesn't
    pub meeting_ends : (taken : Option (Bor Pos)) → TakesFirst (deref {X = Pos}) left taken later → (option_copied taken ≡ Some greatest → ⊥) → ends ≡ keys_of nodes → ⊥
    meeting_ends None step other whole = nil_cons greatest (keys_of others) (sym step.0 ∙ meeting.same.1 whole ∙ next_is)
    meeting_ends (Some x) step other whole = other (ap (λ (ys : List Pos). slice_get ys 0) (sym step ∙ meeting.same.1 whole ∙ next_is))

  -- with no node left there is no leaf left
  pub meeting_all : rest ≡ [] → (taken : Option (Bor Pos)) → TakesFirst (deref {X = Pos}) left taken later → IsTrue (is_none taken) ↔ (ends ≡ keys_of nodes)
  meeting_all none None step = (λ yes. meeting.same.0 (step.0 ∙ sym (ap keys_of none)), λ whole. refl)
  meeting_all none (Some x) step = (λ yes. absurd (false≢true yes), λ whole. absurd (nil_cons x.now later (sym (meeting.same.1 whole ∙ ap keys_of none) ∙ step)))

-- All values may stand exactly where those that are left may.
pub record AreTried (btree : Btree) (all rest : Entries) : Type 0 where
  pub same : All (MayStand btree 0) (values_of rest) ↔ All (MayStand btree 0) (values_of all)

-- before the first
pub tried_none : (btree : Btree) (all rest : Entries) → rest ≡ all → AreTried btree all rest
tried_none btree all rest same = subst (AreTried btree all) (sym same) (record { same = (λ a. a, λ a. a) })

module _ (btree : Btree) (all rest later : Entries) (pos : Pos) (value : Value) (tried : AreTried btree all rest) (next : rest ≡ (pos, value) ∷ later) where
  -- one that may
  pub tried_more : MayStand btree 0 value → AreTried btree all later
  tried_more good = record {
    same = (
      λ left. tried.same.0 (subst (λ (es : Entries). All (MayStand btree 0) (values_of es)) (sym next) (All-cons (MayStand btree 0) value (values_of later) good left)),
      λ whole. All-tail (MayStand btree 0) value (values_of later) (subst (λ (es : Entries). All (MayStand btree 0) (values_of es)) next (tried.same.1 whole)),
    );
  }

  -- and one that may not
  pub tried_ends : (MayStand btree 0 value → ⊥) → All (MayStand btree 0) (values_of all) → ⊥
  tried_ends bad whole = bad (All-head (MayStand btree 0) value (values_of later) (subst (λ (es : Entries). All (MayStand btree 0) (values_of es)) next (tried.same.1 whole)))

-- with none left all may
pub tried_all : (btree : Btree) (all rest : Entries) → AreTried btree all rest → rest ≡ [] → All (MayStand btree 0) (values_of all)
tried_all btree all rest tried none = tried.same.0 (subst (λ (es : Entries). All (MayStand btree 0) (values_of es)) (sym none) (All-nil (MayStand btree 0)))
