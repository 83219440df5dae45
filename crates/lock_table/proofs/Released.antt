-- How nodes are let go one after another.
use Rattle.std.proofs.Common.{◌≡◌, ◌≢◌, ℕ, ◌+◌, ◌≤◌, ◌<◌, ◌⊎◌, max, false, true, IsSome, IfSome, List, [], ◌∷◌, length, slice_get, zero, suc, Option, Some, None, refl, sym, subst, inl, inr, ⊎_elim, ◌∙◌, ap, arith}
use Rattle.std.proofs.lemmas.Bool.{cases_eq}
use Rattle.std.proofs.lemmas.Option.{same_Some, none-some as none_some}
use Rattle.six_lock.specs.Modes.{Mode}
use Rattle.six_lock.specs.Modes.Mode.{Exclusive}
use Rattle.lock_table.specs.Tables.{node_at, sequence_of, HoldsOf}
use Rattle.lock_table.specs.Nodes.{IsSequenceAfter, ReleasesNode, ReleasesAll, name_of}
use Rattle.lock_table.specs.Holdings.{IsListed, raised_by}
use Rattle.lock_table.specs.declared.node.Node.{Node}
use Rattle.lock_table.proofs.After.{after_one, sequence_own}

-- The node is as it was; or it is let go, with a sequence that says so.
abbrev IsLetGo : ℕ → List (ℕ × Node) → ℕ → ℕ → List (ℕ × Node) → ℕ → Type 0
IsLetGo before old actor after new b =
    (node_at new b ≡ node_at old b)
    ⊎ ((node_at new b ≡ None) × ((s : ℕ) → IsSequenceAfter before (node_at old b) actor s → s ≤ after))
    ⊎ (IsSome (node_at new b) × ((m : Mode) → HoldsOf (node_at new b) actor m → ⊥) × IsSequenceAfter before (node_at old b) actor (sequence_of after (node_at new b)))

-- the actor has let go of the births up to a place, and each node that it still holds is among those from there on
pub record ReleasesTo (before : ℕ) (old : List (ℕ × Node)) (actor : ℕ) (births : List ℕ) (place after : ℕ) (new : List (ℕ × Node)) : Type 0 where
  pub before_that : (b a : ℕ) (m : Mode) → HoldsOf (node_at new b) a m → HoldsOf (node_at old b) a m
  pub others : (b a : ℕ) (m : Mode) → a ≢ actor → HoldsOf (node_at old b) a m → HoldsOf (node_at new b) a m
  pub left : (b : ℕ) (m : Mode) → HoldsOf (node_at new b) actor m → (k : ℕ) × (place ≤ k) × (slice_get births k ≡ Some b)
  pub names : (b : ℕ) → (node_at new b ≡ None) ⊎ (name_of (node_at new b) ≡ name_of (node_at old b))
  pub no_less : before ≤ after
  pub let_go : (b : ℕ) → IsLetGo before old actor after new b
  pub reached : (after ≡ before) ⊎ ((b : ℕ) × (IsSome (node_at old b) × (node_at new b ≡ None) × IsSequenceAfter before (node_at old b) actor after))

pub releases_none : (before : ℕ) (old : List (ℕ × Node)) (actor : ℕ) (births : List ℕ) → ((b : ℕ) (m : Mode) → HoldsOf (node_at old b) actor m → IsListed births b) → ReleasesTo before old actor births 0 before old
releases_none before old actor births listed = record {
  before_that = λ b a m h. h;
  others = λ b a m other h. h;
  left = λ b m h. let at = listed b m h in (at.0, (let le : 0 ≤ at.0 = omega arith in le), at.1);
  names = λ b. inr refl;
  no_less = let le : before ≤ before = omega arith in le;
  let_go = λ b. inl refl;
  reached = inl refl;
}

≤_or_< : (m n : ℕ) → (m ≤ n) ⊎ (n < m)
≤_or_< m n = grind arith

raised_no_less : (sequence : ℕ) (gone : Option ℕ) → sequence ≤ raised_by sequence gone
raised_no_less sequence None = omega arith
raised_no_less sequence (Some last) = omega arith

none_of : (node : Option Node) → name_of node ≡ None → node ≡ None
none_of None is_none = refl
none_of (Some node) is_none = absurd (none_some node.name (sym is_none))

some_of : (node other : Option Node) → name_of node ≡ name_of other → IsSome node → IsSome other
some_of None other same some = let e : false ≡ true = some in cc
some_of (Some node) None same some = absurd (none_some node.name (sym same))
some_of (Some node) (Some other) same some = refl

none_or_some : (node : Option Node) → (node ≡ None) ⊎ IsSome node
none_or_some None = inl refl
none_or_some (Some node) = inr refl

not_both : (node : Option Node) → node ≡ None → IsSome node → ⊥
not_both None none some = let e : false ≡ true = some in cc
not_both (Some node) none some = none_some node (sym none)

-- one node is let go
module _ (before between : ℕ) (old mid new : List (ℕ × Node)) (actor birth : ℕ) (gone : Option ℕ) (step : ReleasesNode mid birth actor gone new) where
  -- it has no name any more, or the one that it had
  step_name : (node_at new birth ≡ None) ⊎ (name_of (node_at new birth) ≡ name_of (node_at mid birth))
  step_name = choose gone refl
    where
      choose : (g : Option ℕ) → gone ≡ g → (node_at new birth ≡ None) ⊎ (name_of (node_at new birth) ≡ name_of (node_at mid birth))
      choose None is = inr (step.named is)
      choose (Some last) is = inl (step.goes last is)

  -- what was gone stays so
  gone_stays : (b : ℕ) → node_at mid b ≡ None → node_at new b ≡ None
  gone_stays b none = ⊎_elim
      (λ here. subst (λ k. node_at new k ≡ None) (sym here) (⊎_elim (λ is. is) (λ named. none_of (node_at new birth) (named ∙ ap name_of (subst (λ k. node_at mid k ≡ None) here none))) step_name))
      (λ other. step.same b other ∙ none)
      (cases_eq b birth)

  -- the actor holds nothing of it any more
  freed : (m : Mode) → HoldsOf (node_at new birth) actor m → ⊥
  freed m h = ((step.holds actor m).0 h).1 refl

  -- where it still is there
  let_go_stays : gone ≡ None → IsLetGo before old actor between mid birth → IsLetGo before old actor between new birth
  let_go_stays is was = ⊎_elim
      (λ same. ⊎_elim
      (λ none. inl (none ∙ sym (none_of (node_at old birth) (ap name_of (sym same) ∙ sym (step.named is) ∙ ap name_of none))))
      (λ some. inr (inr (
        some,
        freed,
        subst (λ o. IsSequenceAfter before o actor (sequence_of between (node_at new birth))) same
            (subst (IsSequenceAfter before (node_at mid birth) actor) (sequence_own before between (node_at new birth) some) (step.stays is before)),
      )))
      (none_or_some (node_at new birth)))
      (λ later. ⊎_elim
      (λ left. inr (inl (gone_stays birth left.0, left.1)))
      (λ kept. inr (inr (
        some_of (node_at mid birth) (node_at new birth) (sym (step.named is)) kept.0,
        freed,
        subst (IsSequenceAfter before (node_at old birth) actor) (sym ((step.stays is between).same (kept.1 Exclusive))) kept.2,
      )))
      later)
      was

  -- the sequence with which it is gone, where it is
  last_is : (last : ℕ) → gone ≡ Some last → IsSome (node_at mid birth) → IsLetGo before old actor between mid birth → IsSequenceAfter before (node_at old birth) actor last
  last_is last is some was = ⊎_elim
      (λ same. subst (λ o. IsSequenceAfter before o actor last) same (step.leaves last is before))
      (λ later. ⊎_elim
      (λ left. absurd (not_both (node_at mid birth) left.0 some))
      (λ kept. subst (IsSequenceAfter before (node_at old birth) actor) (sym ((step.leaves last is between).same (kept.1 Exclusive))) kept.2)
      later)
      was

  let_go_here : IsSome (node_at mid birth) ⊎ (gone ≡ None) → IsLetGo before old actor between mid birth → IsLetGo before old actor (raised_by between gone) new birth
  let_go_here held was = choose gone refl held
    where
      choose : (g : Option ℕ) → gone ≡ g → IsSome (node_at mid birth) ⊎ (gone ≡ None) → IsLetGo before old actor (raised_by between g) new birth
      choose None is held = let_go_stays is was
      choose (Some last) is held = inr (inl (
        step.goes last is,
        λ s after.
            ⊎_elim (λ some. let same = after_one before (node_at old birth) actor s last after (last_is last is some was) in let le : s ≤ max last between = omega arith in le) (λ none. absurd (none_some last (sym none ∙ is))) held,
      ))

  -- another is as it was
  let_go_other : (b : ℕ) → b ≢ birth → IsLetGo before old actor between mid b → IsLetGo before old actor (raised_by between gone) new b
  let_go_other b other was = ⊎_elim
      (λ same. inl (step.same b other ∙ same))
      (λ later. ⊎_elim
      (λ left. inr (inl (step.same b other ∙ left.0, λ s after. let le = left.1 s after in let more = raised_no_less between gone in let all : s ≤ raised_by between gone = omega arith in all)))
      (λ kept. inr (inr (
        subst IsSome (sym (step.same b other)) kept.0,
        (λ m h. kept.1 m (subst (λ o. HoldsOf o actor m) (step.same b other) h)),
        subst (IsSequenceAfter before (node_at old b) actor) (sequence_own between (raised_by between gone) (node_at mid b) kept.0 ∙ ap (sequence_of (raised_by between gone)) (sym (step.same b other))) kept.2,
      )))
      later)
      was

  abbrev Reached : ℕ → List (ℕ × Node) → Type 0
  Reached after nodes = (after ≡ before) ⊎ ((b : ℕ) × (IsSome (node_at old b) × (node_at nodes b ≡ None) × IsSequenceAfter before (node_at old b) actor after))

  still_reached : Reached between mid → Reached between new
  still_reached was = ⊎_elim (λ same. inl same) (λ at. inr (at.0, (at.1.0, gone_stays at.0 at.1.1, at.1.2))) was

  reached_more : (IsSome (node_at mid birth) ⊎ (gone ≡ None)) → (node_at mid birth ≡ None) ⊎ (name_of (node_at mid birth) ≡ name_of (node_at old birth)) → IsLetGo before old actor between mid birth → Reached between mid → Reached (raised_by between gone) new
  reached_more held named was reached = choose gone refl held
    where
      came : (last : ℕ) → gone ≡ Some last → IsSome (node_at mid birth) → Reached last new
      came last is some = inr (birth, (⊎_elim (λ none. absurd (not_both (node_at mid birth) none some)) (λ same. some_of (node_at mid birth) (node_at old birth) same some) named, step.goes last is, last_is last is some was))

      choose : (g : Option ℕ) → gone ≡ g → IsSome (node_at mid birth) ⊎ (gone ≡ None) → Reached (raised_by between g) new
      choose None is held = still_reached reached
      choose (Some last) is held = ⊎_elim
          (λ some. ⊎_elim (λ less. subst (λ (n : ℕ). Reached n new) (let e : between ≡ max last between = omega arith in e) (still_reached reached))
          (λ greater. subst (λ (n : ℕ). Reached n new) (let e : last ≡ max last between = omega arith in e) (came last is some)) (≤_or_< last between))
          (λ none. absurd (none_some last (sym none ∙ is)))
          held

-- the births are a place more
pub releases_more : (before between : ℕ) (old mid new : List (ℕ × Node)) (actor : ℕ) (births : List ℕ) (place birth : ℕ) (gone : Option ℕ) → ReleasesTo before old actor births place between mid → slice_get births place ≡ Some birth
    → ReleasesNode mid birth actor gone new → IfSome gone (λ _. IsSome (node_at mid birth)) → ReleasesTo before old actor births (place + 1) (raised_by between gone) new
releases_more before between old mid new actor births place birth gone so_far is step was_held = record {
  before_that = λ b a m h. so_far.before_that b a m (back b a m h);
  others = λ b a m other h.
      let was = so_far.others b a m other h in
      ⊎_elim (λ here. subst (λ k. HoldsOf (node_at new k) a m) (sym here) ((step.holds a m).1 (subst (λ k. HoldsOf (node_at mid k) a m) here was, other)))
      (λ elsewhere. subst (λ (o : Option Node). HoldsOf o a m) (sym (step.same b elsewhere)) was)
      (cases_eq b birth);
  left = λ b m h.
      ⊎_elim (λ here. absurd (((step.holds actor m).0 (subst (λ k. HoldsOf (node_at new k) actor m) here h)).1 refl))
      (λ elsewhere. let at = so_far.left b m (subst (λ (o : Option Node). HoldsOf o actor m) (step.same b elsewhere) h) in (at.0, (later at.0 b elsewhere at.1 at.2), at.2))
      (cases_eq b birth);
  names = λ b.
      ⊎_elim (λ here. subst (λ k. (node_at new k ≡ None) ⊎ (name_of (node_at new k) ≡ name_of (node_at old k))) (sym here)
      (⊎_elim (λ none. inl none) (λ same_name. ⊎_elim (λ was_gone. inl (none_of (node_at new birth) (same_name ∙ ap name_of was_gone))) (λ named. inr (same_name ∙ named)) (so_far.names birth)) (step_name before between old mid new actor birth gone step)))
      (λ elsewhere. ⊎_elim (λ none. inl (step.same b elsewhere ∙ none)) (λ named. inr (ap name_of (step.same b elsewhere) ∙ named)) (so_far.names b))
      (cases_eq b birth);
  no_less = let le = so_far.no_less in let more = raised_no_less between gone in let all : before ≤ raised_by between gone = omega arith in all;
  let_go = λ b. ⊎_elim
      (λ here. subst (IsLetGo before old actor (raised_by between gone) new) (sym here) (let_go_here before between old mid new actor birth gone step held (so_far.let_go birth)))
      (λ other. let_go_other before between old mid new actor birth gone step b other (so_far.let_go b))
      (cases_eq b birth);
  reached = reached_more before between old mid new actor birth gone step held (so_far.names birth) (so_far.let_go birth) so_far.reached;
}
  where
    held : IsSome (node_at mid birth) ⊎ (gone ≡ None)
    held = choose gone was_held
      where
        choose : (g : Option ℕ) → IfSome g (λ _. IsSome (node_at mid birth)) → IsSome (node_at mid birth) ⊎ (g ≡ None)
        choose None some = inr refl
        choose (Some last) some = inl some

    back : (b a : ℕ) (m : Mode) → HoldsOf (node_at new b) a m → HoldsOf (node_at mid b) a m
    back b a m h = ⊎_elim
        (λ here. subst (λ k. HoldsOf (node_at mid k) a m) (sym here) (((step.holds a m).0 (subst (λ k. HoldsOf (node_at new k) a m) here h)).0))
        (λ elsewhere. subst (λ (o : Option Node). HoldsOf o a m) (step.same b elsewhere) h)
        (cases_eq b birth)

    later : (k b : ℕ) → b ≢ birth → place ≤ k → slice_get births k ≡ Some b → place + 1 ≤ k
    later k b elsewhere le at = ⊎_elim
        (λ (same : k ≡ place). absurd (elsewhere (same_Some b birth (sym at ∙ ap (slice_get births) same ∙ is))))
        (λ (differs : k ≢ place). let more : place + 1 ≤ k = omega arith in more)
        (cases_eq k place)

past_end : (births : List ℕ) (place b : ℕ) → length births ≤ place → slice_get births place ≡ Some b → ⊥
past_end [] place b le is = none_some b is
past_end (x ∷ xs) zero b le is = absurd (omega (arith, le))
past_end (x ∷ xs) (suc place) b le is = past_end xs place b (omega (arith, le)) is

pub releases_all : (before after : ℕ) (old new : List (ℕ × Node)) (actor : ℕ) (births : List ℕ) (place : ℕ) → length births ≤ place → ReleasesTo before old actor births place after new → ReleasesAll before old actor after new
releases_all before after old new actor births place le all = record {
  holds = λ b a m. (
    (λ h. (all.before_that b a m h, λ e. free b m (subst (λ k. HoldsOf (node_at new b) k m) e h))),
    (λ h. all.others b a m h.1 h.0),
  );
  names = all.names;
  no_less = all.no_less;
  stays = λ b some. ⊎_elim
      (λ same. record {
        ended = λ exclusive. absurd (free b Exclusive (subst (λ o. HoldsOf o actor Exclusive) (sym same) exclusive));
        same = λ none. sequence_own after before (node_at new b) some ∙ ap (sequence_of before) same;
      })
      (λ later. ⊎_elim (λ left. absurd (not_both (node_at new b) left.0 some)) (λ kept. kept.2) later)
      (all.let_go b);
  leaves = λ b s some none ends. ⊎_elim
      (λ same. absurd (not_both (node_at old b) (sym same ∙ none) some))
      (λ later. ⊎_elim (λ left. left.1 s ends) (λ kept. absurd (not_both (node_at new b) none kept.0)) later)
      (all.let_go b);
  reached = all.reached;
}
  where
    free : (b : ℕ) (m : Mode) → HoldsOf (node_at new b) actor m → ⊥
    free b m h = let at = all.left b m h in past_end births at.0 b (let long : length births ≤ at.0 = omega (arith, le, at.1) in long) at.2
