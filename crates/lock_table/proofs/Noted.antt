-- What is kept of an actor stays so, where what it holds changes or doesn't.
use Rattle.std.proofs.Common.{◌≡◌, ℕ, zero, suc, ◌⊎◌, Bool, true, false, cond, IsTrue, List, [], ◌∷◌, ◌++◌, slice_get, Option, Some, None, refl, sym, subst, inl, inr, ⊎_elim, ◌∙◌, ap}
use Rattle.std.specs.Prelude.{not}
use Rattle.std.specs.Option.{unwrap_or}
use Rattle.std.specs.Ordering.{is_le, is_lt, ordering_reverse}
use Rattle.std.specs.declared.cmp.Ordering.{Ordering}
use Rattle.std.specs.declared.cmp.Ordering.TheVariants.{Less, Equal, Greater}
use Rattle.std.specs.BTreeMap.Comparable.{le_lt_trans}
use Rattle.std.proofs.lemmas.Bool.{cases_eq}
use Rattle.std.proofs.lemmas.Cmp.{tied_itself}
use Rattle.std.proofs.lemmas.Option.{same_Some, none-some as none_some}
use Rattle.six_lock.specs.Modes.{Mode}
use Rattle.lock_table.specs.Names.{name_cmp, IsBelow}
use Rattle.lock_table.specs.Tables.{node_at, HoldsOf}
use Rattle.lock_table.specs.Nodes.{IsSameBut, NodeGains, name_of}
use Rattle.lock_table.specs.Holdings.{IsListed, IsUpTo, IsHolding, highest_with}
use Rattle.lock_table.specs.declared.name.NodeName.{NodeName}
use Rattle.lock_table.specs.declared.node.Node.{Node}
use Rattle.lock_table.specs.declared.holding.Holding.{Holding}
use Rattle.lock_table.proofs.Order.{name_total}

up_to_itself : (n : NodeName) → IsTrue (is_le (name_cmp n n))
up_to_itself n = ap is_le (tied_itself name_total n)

up_to_next : (n top m : NodeName) → IsTrue (is_le (name_cmp n top)) → IsBelow top m → IsTrue (is_le (name_cmp n m))
up_to_next n top m up_to below = ap is_le (le_lt_trans name_total n top m up_to below)

turned : (o : Ordering) → is_lt o ≡ false → IsTrue (is_le (ordering_reverse o))
turned Less not_less = let e : true ≡ false = not_less in cc
turned Equal not_less = refl
turned Greater not_less = refl

up_to_back : (top n : NodeName) → is_lt (name_cmp top n) ≡ false → IsTrue (is_le (name_cmp n top))
up_to_back top n not_less = subst (λ o. IsTrue (is_le o)) (sym (name_total.antisymm n top)) (turned (name_cmp top n) not_less)

less : (o : Ordering) → is_lt o ≡ true → o ≡ Less
less Less is = refl
less Equal is = let e : false ≡ true = is in cc
less Greater is = let e : false ≡ true = is in cc

-- what was up to the highest is up to the highest with one more
highest_up_to : (highest : Option NodeName) (more n : NodeName) → IsUpTo n highest → IsUpTo n (highest_with highest more)
highest_up_to None more n up_to = absurd up_to
highest_up_to (Some top) more n up_to = choose (is_lt (name_cmp top more)) (less (name_cmp top more))
  where
    choose : (test : Bool) → (test ≡ true → name_cmp top more ≡ Less) → IsUpTo n (cond test (Some more) (Some top))
    choose true means = up_to_next n top more up_to (means refl)
    choose false means = up_to

-- so is the one more
highest_self : (highest : Option NodeName) (more : NodeName) → IsUpTo more (highest_with highest more)
highest_self None more = up_to_itself more
highest_self (Some top) more = choose (is_lt (name_cmp top more)) (up_to_back top more)
  where
    choose : (test : Bool) → (test ≡ false → IsTrue (is_le (name_cmp more top))) → IsUpTo more (cond test (Some more) (Some top))
    choose true means = up_to_itself more
    choose false means = means refl

-- the highest is the one before, or the one more
highest_is : (highest : Option NodeName) (more top : NodeName) → highest_with highest more ≡ Some top → (highest ≡ Some top) ⊎ (more ≡ top)
highest_is None more top is = inr (same_Some more top is)
highest_is (Some before) more top is = choose (is_lt (name_cmp before more)) is
  where
    choose : (test : Bool) → cond test (Some more) (Some before) ≡ Some top → (let o : Option NodeName = Some before in o ≡ Some top) ⊎ (more ≡ top)
    choose true same = inr (same_Some more top same)
    choose false same = inl same

-- The actor holds of each node as much or as little as it did, and each goes by its name.
pub record KeepsFor (actor : ℕ) (old new : List (ℕ × Node)) : Type 0 where
  pub no_more : (b : ℕ) (m : Mode) → HoldsOf (node_at new b) actor m → (k : Mode) × HoldsOf (node_at old b) actor k
  pub no_less : (b : ℕ) (m : Mode) → HoldsOf (node_at old b) actor m → (k : Mode) × HoldsOf (node_at new b) actor k
  pub names : (b : ℕ) (m : Mode) → HoldsOf (node_at old b) actor m → name_of (node_at new b) ≡ name_of (node_at old b)

pub holding_kept : (actor : ℕ) (old new : List (ℕ × Node)) (holding : Holding) → KeepsFor actor old new → IsHolding old actor holding → IsHolding new actor holding
holding_kept actor old new holding keeps is = record {
  listed = λ b m holds. let before = keeps.no_more b m holds in is.listed b before.0 before.1;
  up_to = λ b m name holds named. let before = keeps.no_more b m holds in is.up_to b before.0 name before.1 (sym (keeps.names b before.0 before.1) ∙ named);
  reached = λ top highest.
      let at = is.reached top highest in
      let now = keeps.no_less at.0 at.1.0 at.1.1 in
      (at.0, (now.0, now.1, keeps.names at.0 at.1.0 at.1.1 ∙ at.1.2));
}

-- the same list and the same highest name
pub holding_same : (actor : ℕ) (old new : List (ℕ × Node)) (before after : Holding) → new ≡ old → after.births.items ≡ before.births.items → after.highest ≡ before.highest → IsHolding old actor before → IsHolding new actor after
holding_same actor old new before after nodes births highest is = record {
  listed = λ b m holds. subst (λ bs. IsListed bs b) (sym births) (is.listed b m (subst (λ ns. HoldsOf (node_at ns b) actor m) nodes holds));
  up_to = λ b m name holds named. subst (IsUpTo name) (sym highest) (is.up_to b m name (subst (λ ns. HoldsOf (node_at ns b) actor m) nodes holds) (ap (λ ns. name_of (node_at ns b)) (sym nodes) ∙ named));
  reached = λ top is_top.
      let at = is.reached top (sym highest ∙ is_top) in
      (at.0, (at.1.0, subst (λ ns. HoldsOf (node_at ns at.0) actor at.1.0) (sym nodes) at.1.1, ap (λ ns. name_of (node_at ns at.0)) nodes ∙ at.1.2));
}

listed_before_from : (births : List ℕ) (more b place : ℕ) → slice_get births place ≡ Some b → IsListed (births ++ more ∷ []) b
listed_before_from [] more b place is = absurd (none_some b is)
listed_before_from (x ∷ xs) more b zero is = (zero, is)
listed_before_from (x ∷ xs) more b (suc place) is = let later = listed_before_from xs more b place is in (suc later.0, later.1)

listed_last : (births : List ℕ) (more : ℕ) → IsListed (births ++ more ∷ []) more
listed_last [] more = (zero, refl)
listed_last (x ∷ xs) more = let later = listed_last xs more in (suc later.0, later.1)

-- what was listed still is, after a birth was noted unless it was held
noted_before : (held : Bool) (births : List ℕ) (birth b : ℕ) → IsListed births b → IsListed (cond (not held) (births ++ birth ∷ []) births) b
noted_before true births birth b at = at
noted_before false births birth b at = listed_before_from births birth b at.0 at.1

-- so is the one that was noted
noted_last : (held : Bool) (births : List ℕ) (birth : ℕ) → (IsTrue held → IsListed births birth) → IsListed (cond (not held) (births ++ birth ∷ []) births) birth
noted_last true births birth at = at refl
noted_last false births birth at = listed_last births birth

-- after the actor has gained a mode of a node, and it was noted
pub holding_gains : (sequence : ℕ) (old new : List (ℕ × Node)) (actor : ℕ) (name : NodeName) (mode : Mode) (before after : Holding) (births : List ℕ) (called : NodeName) (held : Bool)
    → IsSameBut name.birth old new → NodeGains sequence (node_at old name.birth) actor name mode (node_at new name.birth) → called ≡ unwrap_or (name_of (node_at old name.birth)) name
    → (IsTrue held → (m : Mode) × HoldsOf (node_at old name.birth) actor m) → births ≡ before.births.items → after.births.items ≡ cond (not held) (births ++ name.birth ∷ []) births
    → after.highest ≡ highest_with before.highest called → IsHolding old actor before → IsHolding new actor after
holding_gains sequence old new actor name mode before after births called held same gains called_is was_held births_is after_births after_highest is = record {
  listed = λ b m holds.
      subst (λ bs. IsListed bs b) (sym after_births) (⊎_elim
      (λ here. subst (IsListed (cond (not held) (births ++ name.birth ∷ []) births)) (sym here) (noted_last held births name.birth (λ yes_held. let at = was_held yes_held in listed_old name.birth at.0 at.1)))
      (λ other. noted_before held births name.birth b (listed_old b m (subst (λ (o : Option Node). HoldsOf o actor m) (same b other) holds)))
      (cases_eq b name.birth));
  up_to = λ b m n holds named.
      subst (IsUpTo n) (sym after_highest) (⊎_elim
      (λ here. subst (λ k. IsUpTo k (highest_with before.highest called)) (called_is ∙ same_Some _ n (sym gains.called ∙ subst (λ k. name_of (node_at new k) ≡ Some n) here named)) (highest_self before.highest called))
      (λ other. highest_up_to before.highest called n (is.up_to b m n (subst (λ (o : Option Node). HoldsOf o actor m) (same b other) holds) (ap name_of (sym (same b other)) ∙ named)))
      (cases_eq b name.birth));
  reached = λ top is_top.
      ⊎_elim (λ old_top. reached_old top (is.reached top old_top))
      (λ called_top. (name.birth, (mode, (gains.holds actor mode).1 (inr (refl, refl)), gains.called ∙ ap Some (sym called_is ∙ called_top))))
      (highest_is before.highest called top (sym after_highest ∙ is_top));
}
  where
    listed_old : (b : ℕ) (m : Mode) → HoldsOf (node_at old b) actor m → IsListed births b
    listed_old b m holds = subst (λ bs. IsListed bs b) (sym births_is) (is.listed b m holds)

    reached_old : (top : NodeName) → (b : ℕ) × ((m : Mode) × HoldsOf (node_at old b) actor m × (name_of (node_at old b) ≡ Some top))
        → (b : ℕ) × ((m : Mode) × HoldsOf (node_at new b) actor m × (name_of (node_at new b) ≡ Some top))
    reached_old top at = ⊎_elim
        (λ here. (
          name.birth,
          (
            at.1.0,
            (gains.holds actor at.1.0).1 (inl (subst (λ k. HoldsOf (node_at old k) actor at.1.0) here at.1.1)),
            gains.called ∙ ap (λ o. Some (unwrap_or o name)) (subst (λ k. name_of (node_at old k) ≡ Some top) here at.1.2),
          ),
        ))
        (λ other. (at.0, (at.1.0, subst (λ (o : Option Node). HoldsOf o actor at.1.0) (sym (same at.0 other)) at.1.1, ap name_of (same at.0 other) ∙ at.1.2)))
        (cases_eq at.0 name.birth)
