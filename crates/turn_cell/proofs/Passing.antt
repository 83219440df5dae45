-- Making a cell, giving a pass, joining one and closing keep the rule of the cell, and what they tell follows from it.
use Rattle.std.proofs.Common.{◌≡◌, ◌≢◌, ◌⊎◌, ℕ, zero, suc, ◌-◌, ◌<◌, ◌≤◌, List, [], ◌∷◌, ◌++◌, length, set, sym, refl, ap, ◌∙◌, subst, inl, inr, ⊎_elim, arith, Option, Some, None, IfSome, IsSome, length-set}
use Rattle.std.specs.Prelude.{option_map}
use mathlib.Core.Option as maybe
use mathlib.Core.Option.{some, none, some-injective, some-ne-none}
use mathlib.Core.Logic.{dite}
use native.Mathlib.Decide.{ℕ_discrete}
use lib.ListN.{get_elem?, length-replicate}
use base.Growing.{prefix_refl}
use Rattle.atomic_table.specs.Table.{State, Splits, Joins, opening, Final, Seen}
use Rattle.atomic_table.proofs.Lists.{at_set, set_here, set_else, at_longer}
use Rattle.turn_cell.specs.declared.view.View.{View}
use Rattle.turn_cell.specs.declared.view.Ledger.{Ledger}
use Rattle.turn_cell.specs.declared.view.Standing.{Standing}
use Rattle.turn_cell.specs.declared.view.Standing.TheVariants.{Unused, InUse, Joined}
use Rattle.turn_cell.specs.Passes.{standing_in, with_standing, first_ledger, first_view, gave, given, joined, ledger_joined, standing_joined, Stands, AllStand, MayGive, IsAlone, Closes}
use Rattle.turn_cell.specs.Rule.{slot_of, spent}
use Rattle.turn_cell.proofs.Views.{at_below, at_end, one_at, Back, apart_back, back_set, apart_push}
use Rattle.turn_cell.proofs.Prefixes.{longer_prefix, longer_first, longer_second}
use Rattle.turn_cell.proofs.Standings.{unused_in_use, in_ledger, standing_here, standing_else, stand_with, stand_first}
use Rattle.turn_cell.proofs.Turns.{some_of, some_some, none_some, Rule, Known}

module _ {M E N : Type 0} (actors : ℕ) (trace_of : M → List E) (mine_of : M → ℕ → N) where
  abbrev V : Type 0
  V = View M E N

  abbrev L : Type 0
  L = Ledger M N

  -- a view with this seat alone
  only_view : (v u : V) (j : ℕ) → get_elem? (v ∷ []) j ≡ some u → (j ≡ 0) × (v ≡ u)
  only_view v u zero e = (refl, some-injective v u e)
  only_view v u (suc j) e = absurd (some-ne-none u (sym e))

  -- the first pass's view is true of the machine
  first_known : (m : M) (passes : ℕ) → 0 < actors → Known actors trace_of mine_of m None (first_ledger m passes) 0 (first_view trace_of mine_of m passes) (mine_of m 0)
  first_known m passes some_actor = record {
    prefix = prefix_refl (trace_of m);
    mine = refl;
    below = some_actor;
    in_use = refl;
    turn = λ y e. absurd (none_some y None refl e);
    first = λ l e. (refl, some_some l (first_ledger m passes) (Some (first_ledger m passes)) e refl);
  }

  pub starts : (m : M) (passes n : ℕ) (slots : List (Option M)) → 1 ≤ passes → passes ≤ actors → n ≡ length (trace_of m) → slots ≡ Some m ∷ [] → Rule actors trace_of mine_of (opening (0 ∷ n ∷ []) slots (first_view trace_of mine_of m passes))
  starts m passes n slots some_pass fit count is =
      let v = first_view trace_of mine_of m passes in record {
        machine = m;
        holder = None;
        ledger = first_ledger m passes;
        few = let unused : Standing N = Unused in let e = length-replicate (passes - 1) unused in omega arith;
        words = ap (λ (z : ℕ). 0 ∷ z ∷ []) count;
        homes = ap (λ (z : List (Option M)). Rattle.std.proofs.Common.map some z) is;
        turn = λ seat e. absurd (none_some seat None refl e);
        whole = (0, (v, mine_of m 0, refl, refl, refl));
        each = λ j u z e is_z. let p = only_view v u j e in
            subst (λ (q : ℕ × V × N). Known actors trace_of mine_of m None (first_ledger m passes) q.0 q.1 q.2)
            (λ i. (sym p.0 i, p.1 i, some_some (mine_of m 0) z u.mine (ap (λ (q : V). q.mine) (sym p.1)) is_z i)) (first_known m passes (omega arith));
        apart = λ i j a b x y at_a at_b _ _ _. (only_view v a i at_a).0 ∙ sym (only_view v b j at_b).0;
        standing = stand_first mine_of m passes;
      }

  -- what stays true of a view when another actor's standing changes
  others_stay : (m : M) (holder : Option ℕ) (l : L) (actor : ℕ) (standing : Standing N) (j : ℕ) (u : V) (z : N) → u.actor ≢ actor → j ≢ 0 → Known actors trace_of mine_of m holder l j u z → Known actors trace_of mine_of m holder (with_standing actor standing l) j u z
  others_stay m holder l actor standing j u z other apart k = record {
    prefix = k.prefix;
    mine = k.mine;
    below = k.below;
    in_use = standing_else l actor u.actor standing other ∙ k.in_use;
    turn = k.turn;
    first = λ b e. absurd (apart (k.first b e).0);
  }

  module _ (s : State (Option M) V) (k : Rule actors trace_of mine_of s) (id : ℕ) (v : V) (x : N) (at : get_elem? s.views id ≡ some v) (is : v.mine ≡ Some x) (rest_turn : v.turn ≡ None) where
    -- who has the turn is another
    not_here : (seat : ℕ) (u : V) (m : M) → get_elem? s.views seat ≡ some u → u.turn ≡ Some m → seat ≢ id
    not_here seat u m at_u turn e = none_some m v.turn rest_turn (ap (λ (z : V). z.turn) (one_at s.views id v u at (ap (get_elem? s.views) (sym e) ∙ at_u)) ∙ turn)

  -- giving a pass for an actor that no pass has had
  pub splits : (id actor : ℕ) (v : V) (x : N) → v.mine ≡ Some x → v.turn ≡ None → MayGive v actor → Splits (Rule actors trace_of mine_of) id v (gave actor v) (given mine_of actor v)
  splits id actor v x is rest_turn may s k at =
      let known = k.each id v x at is in
      let first : (id ≡ 0) × (may.ledger ≡ k.ledger) = known.first may.ledger may.is in
      let below : actor < length k.ledger.standings = subst (λ (l : L). actor < length l.standings) first.1 may.below in
      let unused : standing_in k.ledger actor ≡ Unused = subst (λ (l : L). standing_in l actor ≡ Unused) first.1 may.unused in
      let l : L = with_standing actor InUse k.ledger in
      let left : V = gave actor v in let right : V = given mine_of actor v in
      let left_ledger : left.ledger ≡ Some l = ap (option_map (with_standing actor InUse)) (may.is ∙ ap Some first.1) in
      let right_mine : right.mine ≡ Some (mine_of k.ledger.opening actor) = ap (option_map (λ (b : L). mine_of b.opening actor)) (may.is ∙ ap Some first.1) in
      let new : (j : ℕ) (u : V) (z : N) → get_elem? s.views j ≡ some u → u.mine ≡ Some z → u.actor ≢ actor = λ j u z e is_z a. unused_in_use (standing_in k.ledger actor) unused (ap (standing_in k.ledger) (sym a) ∙ (k.each j u z e is_z).in_use) in
      let set_views : List V = set s.views id left in
      let here : get_elem? set_views id ≡ some left = set_here s.views id left (at_below s.views id v at) in
      let back : Back s.views set_views = back_set s.views id v left x at is refl in
      let stays : (j : ℕ) (u : V) → j ≢ id → get_elem? s.views j ≡ some u → get_elem? (set_views ++ right ∷ []) j ≡ some u = λ j u ne e. at_longer set_views (right ∷ []) j u (set_else s.views id j left ne ∙ e) in
      record {
        machine = k.machine;
        holder = k.holder;
        ledger = l;
        few = subst (λ (z : ℕ). z ≤ actors) (sym (length-set k.ledger.standings actor InUse)) k.few;
        words = k.words;
        homes = k.homes;
        turn = λ seat e. let t = k.turn seat e in (t.0, t.1, stays seat t.0 (not_here s k id v x at is rest_turn seat t.0 k.machine t.2 t.4) t.2, t.3, t.4);
        whole = let t = k.whole in dite (ℕ_discrete t.0 id)
            (λ e. (id, (left, x, at_longer set_views (right ∷ []) id left here, is, ap (λ (z : V). z.prefix) (one_at s.views id v t.1.0 at (ap (get_elem? s.views) (sym e) ∙ t.1.2)) ∙ t.1.4)))
            (λ ne. (t.0, (t.1.0, t.1.1, stays t.0 t.1.0 ne t.1.2, t.1.3, t.1.4)));
        each = λ j u z e is_z. ⊎_elim
            (λ (p : get_elem? set_views j ≡ some u). ⊎_elim
            (λ (q : (j ≡ id) × (left ≡ u)). subst (λ (c : ℕ × V × N). Known actors trace_of mine_of k.machine k.holder l c.0 c.1 c.2) (λ i. (sym q.0 i, q.1 i, some_some x z u.mine (ap (λ (c : V). c.mine) (sym q.1) ∙ is) is_z i))
            record {
              prefix = known.prefix;
              mine = known.mine;
              below = known.below;
              in_use = standing_else k.ledger actor v.actor InUse (new id v x at is) ∙ known.in_use;
              turn = λ m t. absurd (none_some m v.turn rest_turn t);
              first = λ b t. (first.0, some_some b l left.ledger t left_ledger);
            })
            (λ (q : (j ≢ id) × (get_elem? s.views j ≡ some u)). others_stay k.machine k.holder k.ledger actor InUse j u z (new j u z q.1 is_z) (λ t. q.0 (t ∙ sym first.0)) (k.each j u z q.1 is_z))
            (at_set s.views id j left u p))
            (λ (p : (j ≡ length set_views) × (right ≡ u)). subst (λ (c : V × N). Known actors trace_of mine_of k.machine k.holder l j c.0 c.1)
            (λ i. (p.1 i, some_some (mine_of k.ledger.opening actor) z u.mine (ap (λ (c : V). c.mine) (sym p.1) ∙ right_mine) is_z i))
            record {
              prefix = known.prefix;
              mine = sym (subst (Stands mine_of k.ledger.opening k.machine actor) unused (k.standing actor));
              below = let few = k.few in omega arith;
              in_use = standing_here k.ledger actor InUse below;
              turn = λ m t. absurd (none_some m None refl t);
              first = λ b t. absurd (none_some b None refl t);
            })
            (at_end set_views right j u e);
        apart = apart_push set_views right (apart_back s.views set_views k.apart back)
            (λ j u z e is_z same. let p = back j u z e is_z in new j p.0 p.1 p.2 p.3 (p.4 ∙ same));
        standing = stand_with mine_of k.ledger k.machine actor InUse below tt k.standing;
      }

  -- joining another pass
  pub joins : (id other : ℕ) (v w : V) (x y : N) → v.mine ≡ Some x → w.mine ≡ Some y → v.turn ≡ None → w.turn ≡ None → (l : L) → v.ledger ≡ Some l → Joins (Rule actors trace_of mine_of) id v other w (joined v w) spent
  joins id other v w x y is is_w rest_v rest_w was has s k at ne at_w =
      let m = k.machine in
      let both : V = joined v w in
      let known = k.each id v x at is in
      let first : (id ≡ 0) × (was ≡ k.ledger) = known.first was has in
      let at_other : get_elem? s.views other ≡ some w = sym (set_else s.views id other both ne) ∙ at_w in
      let known_w = k.each other w y at_other is_w in
      let below : w.actor < length k.ledger.standings = in_ledger k.ledger w.actor known_w.in_use in
      let l : L = with_standing w.actor (Joined y) k.ledger in
      let both_ledger : both.ledger ≡ Some l = ap (option_map (ledger_joined w)) (has ∙ ap Some first.1) ∙ ap (λ (o : Option N). Some (with_standing w.actor (standing_joined o) k.ledger)) is_w in
      let new : (j : ℕ) (u : V) (z : N) → get_elem? s.views j ≡ some u → u.mine ≡ Some z → j ≢ other → u.actor ≢ w.actor = λ j u z e is_z far a. far (k.apart j other u w z y e at_other is_z is_w a) in
      let one : List V = set s.views id both in
      let views : List V = set one other spent in
      let stays : (j : ℕ) (u : V) → j ≢ id → j ≢ other → get_elem? s.views j ≡ some u → get_elem? views j ≡ some u = λ j u a b e. set_else one other j spent b ∙ (set_else s.views id j both a ∙ e) in
      let here : get_elem? views id ≡ some both = set_else one other id spent (λ e. ne (sym e)) ∙ set_here s.views id both (at_below s.views id v at) in
      let found : (j : ℕ) (u : V) (z : N) → get_elem? views j ≡ some u → u.mine ≡ Some z → ((j ≡ id) × (both ≡ u)) ⊎ ((j ≢ id) × (j ≢ other) × (get_elem? s.views j ≡ some u)) = λ j u z e is_z.
      ⊎_elim
      (λ (p : (j ≡ other) × (spent ≡ u)). absurd (none_some z u.mine (ap (λ (c : V). c.mine) (sym p.1)) is_z))
      (λ (p : (j ≢ other) × (get_elem? one j ≡ some u)). ⊎_elim
      (λ (q : (j ≡ id) × (both ≡ u)). inl q)
      (λ (q : (j ≢ id) × (get_elem? s.views j ≡ some u)). inr (q.0, p.0, q.1))
      (at_set s.views id j both u p.1))
      (at_set one other j spent u e) in
      let back : Back s.views views = λ j u z e is_z. ⊎_elim
      (λ (p : (j ≡ id) × (both ≡ u)). (v, x, ap (get_elem? s.views) p.0 ∙ at, is, ap (λ (c : V). c.actor) p.1))
      (λ (p : (j ≢ id) × (j ≢ other) × (get_elem? s.views j ≡ some u)). (u, z, p.2, is_z, refl))
      (found j u z e is_z) in
      record {
        machine = m;
        holder = k.holder;
        ledger = l;
        few = subst (λ (z : ℕ). z ≤ actors) (sym (length-set k.ledger.standings w.actor (Joined y))) k.few;
        words = k.words;
        homes = k.homes;
        turn = λ seat e. let t = k.turn seat e in
            (t.0, t.1, stays seat t.0 (not_here s k id v x at is rest_v seat t.0 m t.2 t.4) (not_here s k other w y at_other is_w rest_w seat t.0 m t.2 t.4) t.2, t.3, t.4);
        whole = let t = k.whole in dite (ℕ_discrete t.0 id)
            (λ e. (id, (both, x, here, is, longer_first v.prefix w.prefix (trace_of m) (ap (λ (z : V). z.prefix) (one_at s.views id v t.1.0 at (ap (get_elem? s.views) (sym e) ∙ t.1.2)) ∙ t.1.4) known_w.prefix)))
            (λ far. dite (ℕ_discrete t.0 other)
            (λ e. (id, (both, x, here, is, longer_second v.prefix w.prefix (trace_of m) (ap (λ (z : V). z.prefix) (one_at s.views other w t.1.0 at_other (ap (get_elem? s.views) (sym e) ∙ t.1.2)) ∙ t.1.4) known.prefix)))
            (λ gone. (t.0, (t.1.0, t.1.1, stays t.0 t.1.0 far gone t.1.2, t.1.3, t.1.4))));
        each = λ j u z e is_z. ⊎_elim
            (λ (p : (j ≡ id) × (both ≡ u)). subst (λ (c : ℕ × V × N). Known actors trace_of mine_of m k.holder l c.0 c.1 c.2) (λ i. (sym p.0 i, p.1 i, some_some x z u.mine (ap (λ (c : V). c.mine) (sym p.1) ∙ is) is_z i))
            record {
              prefix = longer_prefix v.prefix w.prefix (trace_of m) known.prefix known_w.prefix;
              mine = known.mine;
              below = known.below;
              in_use = standing_else k.ledger w.actor v.actor (Joined y) (new id v x at is (λ e. ne (sym e))) ∙ known.in_use;
              turn = λ c t. absurd (none_some c v.turn rest_v t);
              first = λ b t. (first.0, some_some b l both.ledger t both_ledger);
            })
            (λ (p : (j ≢ id) × (j ≢ other) × (get_elem? s.views j ≡ some u)). others_stay m k.holder k.ledger w.actor (Joined y) j u z (new j u z p.2 is_z p.1) (λ t. p.0 (t ∙ sym first.0)) (k.each j u z p.2 is_z))
            (found j u z e is_z);
        apart = apart_back s.views views k.apart back;
        standing = stand_with mine_of k.ledger m w.actor (Joined y) below (sym known_w.mine) k.standing;
      }

  module _ (s : State (Option M) V) (k : Rule actors trace_of mine_of s) (id : ℕ) (v : V) (x : N) (at : get_elem? s.views id ≡ some v) (is : v.mine ≡ Some x) (alone : IsAlone v) where
    -- no other view is left
    no_other : (seat : ℕ) (u : V) (z : N) → get_elem? s.views seat ≡ some u → u.mine ≡ Some z → v ≡ u
    no_other seat u z at_u is_z =
        let same : alone.ledger ≡ k.ledger = ((k.each id v x at is).first alone.ledger alone.is).1 in
        let in_use : standing_in alone.ledger u.actor ≡ InUse = ap (λ (l : L). standing_in l u.actor) same ∙ (k.each seat u z at_u is_z).in_use in
        let here : seat ≡ id = k.apart seat id u v z x at_u at is_z is (alone.alone u.actor in_use) in
        one_at s.views id v u at (ap (get_elem? s.views) (sym here) ∙ at_u)

    is_free : v.turn ≡ None → (holder : Option ℕ) → k.holder ≡ holder → holder ≡ None
    is_free rest_turn None e = refl
    is_free rest_turn (Some seat) e = let t = k.turn seat e in absurd (none_some k.machine v.turn rest_turn (ap (λ (c : V). c.turn) (no_other seat t.0 t.1 t.2 t.3) ∙ t.4))

  -- what closing tells: the slot has the machine
  pub closes : (id : ℕ) (v : V) (x : N) (words : List ℕ) (items : List (Option M)) → v.mine ≡ Some x → v.turn ≡ None → IsAlone v → Final (Seen (Rule actors trace_of mine_of) id v) words items
      → (m : M) × (get_elem? items 0 ≡ some (Some m)) × Closes trace_of mine_of v m
  closes id v x words items is rest_turn alone final =
      let s = final.0 in let k = final.1.0 in let at = final.1.1 in let m = k.machine in
      let known = k.each id v x at is in
      let free : k.holder ≡ None = is_free s k id v x at is alone rest_turn k.holder refl in
      let t = k.whole in (
        m,
        final.4 0 (Some m) (ap (λ (hs : List (maybe.Option (Option M))). get_elem? hs 0) (k.homes ∙ ap (λ (h : Option ℕ). slot_of h m ∷ []) free)),
        record {
          trace = sym (ap (λ (c : V). c.prefix) (no_other s k id v x at is alone t.0 t.1.0 t.1.1 t.1.2 t.1.3) ∙ t.1.4);
          own = is ∙ ap Some known.mine;
          standing = subst (λ (o : Option L). IfSome o (AllStand mine_of m)) (sym alone.is) (subst (AllStand mine_of m) (sym (known.first alone.ledger alone.is).1) k.standing);
        },
      )

  -- the same, of the value that was in the slot
  pub closes_with : (id : ℕ) (v : V) (words : List ℕ) (items : List (Option M)) (slot : Option M) → IsSome v.mine → v.turn ≡ None → IsAlone v → Final (Seen (Rule actors trace_of mine_of) id v) words items → get_elem? items 0 ≡ some slot
      → (m : M) × (slot ≡ Some m) × Closes trace_of mine_of v m
  closes_with id v words items slot live rest_turn alone final at =
      let mine = some_of v.mine live in
      let told = closes id v mine.0 words items mine.1 rest_turn alone final in
      (told.0, some-injective slot (Some told.0) (sym at ∙ told.1), told.2)

  pub closes_machine : (v : V) (m : M) (slot : Option M) → (n : M) × (slot ≡ Some n) × Closes trace_of mine_of v n → slot ≡ Some m → Closes trace_of mine_of v m
  closes_machine v m slot told is = subst (Closes trace_of mine_of v) (some_some told.0 m slot told.1 is) told.2
