-- Each step of a pass that has or takes the turn keeps the rule of the cell.
use Rattle.std.proofs.Common.{◌≡◌, ◌≢◌, ◌⊎◌, ℕ, List, [], ◌∷◌, length, set, get_or, ◌==◌, sym, refl, ap, ◌∙◌, subst, inl, inr, ⊎_elim, arith, Option, Some, None, IfSome, IsSome}
use mathlib.Core.Option as maybe
use mathlib.Core.Option.{some, none, some-injective}
use mathlib.Core.List.{IsPrefix}
use mathlib.Core.Logic.{dite}
use native.Mathlib.Decide.{ℕ_discrete}
use lib.ListN.{get_elem?}
use prog.Atomic.{either}
use base.Growing.{prefix_refl, prefix_trans}
use Rattle.atomic_table.specs.Table.{State, Me, step, Act, keeps, takes, gives, stepped, carried_after, rest, Allows, Valid}
use Rattle.atomic_table.proofs.Lists.{at_set, set_here, set_again}
use Rattle.turn_cell.specs.declared.view.View.{View}
use Rattle.turn_cell.specs.declared.view.Ledger.{Ledger}
use Rattle.turn_cell.specs.declared.view.Standing.{Standing}
use Rattle.turn_cell.specs.declared.view.Standing.TheVariants.{Unused, InUse, Joined}
use Rattle.turn_cell.specs.Passes.{standing_in, Stands, AllStand}
use Rattle.turn_cell.specs.Rule as rule
use Rattle.turn_cell.specs.Rule.{turn_word, slot_of, with_turn, counted, Knows, HasView, IsKept, Takes, counts, frees}
use Rattle.turn_cell.proofs.Views.{at_below, Back, apart_back, back_set}

pub some_some : {A : Type 0} (a b : A) (o : Option A) → o ≡ Some a → o ≡ Some b → a ≡ b
some_some a b o p q = cc

pub none_some : {A : Type 0} (a : A) (o : Option A) → o ≡ None → o ≡ Some a → ⊥
none_some a o p q = cc

abbrev value_or : {M : Type 0} → M → Option M → M
value_or d (Some m) = m
value_or d None = d

abbrev first_value : {M : Type 0} → M → List (ℕ × Option M) → M
first_value d [] = d
first_value d (x ∷ xs) = value_or d x.1

held_slot : {M : Type 0} (m y : M) (xs : List (ℕ × Option M)) → xs ≡ (0, Some m) ∷ [] → xs ≡ (0, Some y) ∷ [] → m ≡ y
held_slot m y xs p q = ap (first_value m) (sym p ∙ q)

-- what lies in the slot that was taken
pub in_hand : {M : Type 0} (y : M) (xs c : List (ℕ × Option M)) → xs ≡ (0, Some y) ∷ c → (old : Option M) × (xs ≡ (0, old) ∷ rest xs)
in_hand {M = M} y xs c is = (Some y, is ∙ ap (λ (z : List (ℕ × Option M)). (0, Some y) ∷ rest z) (sym is))

pub found_machine : {M : Type 0} (m y : M) (xs c d : List (ℕ × Option M)) → xs ≡ (0, Some m) ∷ c → xs ≡ (0, Some y) ∷ d → m ≡ y
found_machine m y xs c d p q = ap (first_value m) (sym p ∙ q)

pub some_of : {A : Type 0} (o : Option A) → IsSome o → (x : A) × (o ≡ Some x)
some_of (Some x) h = (x, refl)
some_of None h = absurd cc

pub of_some : {A : Type 0} (P : A → Type 0) (o : Option A) (x : A) → o ≡ Some x → IfSome o P → P x
of_some {A = A} P o x e h = subst (λ (p : Option A). IfSome p P) e h

module _ {M N : Type 0} (mine_of : M → ℕ → N) where
  -- a standing stays true where the machine keeps the same of the actor
  stands_on : (opening m m' : M) (actor : ℕ) (standing : Standing N) → mine_of m' actor ≡ mine_of m actor → Stands mine_of opening m actor standing → Stands mine_of opening m' actor standing
  stands_on opening m m' actor Unused same h = same ∙ h
  stands_on opening m m' actor InUse same h = tt
  stands_on opening m m' actor (Joined kept) same h = same ∙ h

module _ {M E N : Type 0} (actors : ℕ) (trace_of : M → List E) (mine_of : M → ℕ → N) where
  abbrev pub Rule : State (Option M) (View M E N) → Type 0
  Rule = IsKept actors trace_of mine_of

  abbrev pub Known : M → Option ℕ → Ledger M N → ℕ → View M E N → N → Type 0
  Known = Knows actors trace_of mine_of

  -- A step of one seat, whose new view has its old actor and has seen the whole trace.
  pub moves : (s : State (Option M) (View M E N)) (k : Rule s) (id : ℕ) (v w : View M E N) (x y : N) (m : M) (holder : Option ℕ) (words : List ℕ) (homes : List (maybe.Option (Option M)))
      → get_elem? s.views id ≡ some v → v.mine ≡ Some x → w.mine ≡ Some y → w.actor ≡ v.actor → w.prefix ≡ trace_of m
      → words ≡ turn_word holder ∷ length (trace_of m) ∷ [] → homes ≡ slot_of holder m ∷ []
      → ((seat : ℕ) → holder ≡ Some seat → (seat ≡ id) × (w.turn ≡ Some m))
      → Known m holder k.ledger id w y
      → ((j : ℕ) (u : View M E N) (z : N) → j ≢ id → u.actor ≢ v.actor → Known k.machine k.holder k.ledger j u z → Known m holder k.ledger j u z)
      → AllStand mine_of m k.ledger
      → Rule record { words = words; homes = homes; views = set s.views id w }
  moves s k id v w x y m holder words homes at is_x is_y same whole word_is home_is turns own others stands =
      let back : Back s.views (set s.views id w) = back_set s.views id v w x at is_x same in
      let here : get_elem? (set s.views id w) id ≡ some w = set_here s.views id w (at_below s.views id v at) in
      record {
        machine = m;
        holder = holder;
        ledger = k.ledger;
        few = k.few;
        words = word_is;
        homes = home_is;
        turn = λ seat e. (w, y, subst (λ (j : ℕ). get_elem? (set s.views id w) j ≡ some w) (sym (turns seat e).0) here, is_y, (turns seat e).1);
        whole = (id, (w, y, here, is_y, whole));
        each = λ j u z e is_z. ⊎_elim
            (λ (t : (j ≡ id) × (w ≡ u)). subst (λ (p : ℕ × View M E N × N). Known m holder k.ledger p.0 p.1 p.2) (λ i. (sym t.0 i, t.1 i, some_some y z u.mine (ap (λ (q : View M E N). q.mine) (sym t.1) ∙ is_y) is_z i)) own)
            (λ (t : (j ≢ id) × (get_elem? s.views j ≡ some u)). others j u z t.0 (λ a. t.0 (k.apart j id u v z x t.1 at is_z is_x a)) (k.each j u z t.1 is_z))
            (at_set s.views id j w u e);
        apart = apart_back s.views (set s.views id w) k.apart back;
        standing = stands;
      }

  -- The other views stay true of a machine that keeps the same of their actors, where only this seat has the turn.
  pub stays : (m m' : M) (held holder : Option ℕ) (ledger : Ledger M N) (id j : ℕ) (u : View M E N) (z : N)
      → IsPrefix (trace_of m) (trace_of m') → mine_of m' u.actor ≡ mine_of m u.actor → j ≢ id → (held ≡ None) ⊎ (held ≡ Some id)
      → Known m held ledger j u z → Known m' holder ledger j u z
  stays m m' held holder ledger id j u z grows same other whose k = record {
    prefix = prefix_trans u.prefix (trace_of m) (trace_of m') k.prefix grows;
    mine = k.mine ∙ sym same;
    below = k.below;
    in_use = k.in_use;
    turn = λ x e. let h = (k.turn x e).0 in absurd (⊎_elim (λ (p : held ≡ None). none_some j held p h) (λ (p : held ≡ Some id). other (some_some j id held h p)) whose);
    first = k.first;
  }

  module _ (s : State (Option M) (View M E N)) (k : Rule s) (id : ℕ) (v : View M E N) (x : N) (at : get_elem? s.views id ≡ some v) (is : v.mine ≡ Some x) (slots : ℕ) (c : List (ℕ × Option M)) where
    -- what taking the turn asks, over the two words and the slot
    abbrev TakesHere : List ℕ → List (maybe.Option (Option M)) → Type 0
    TakesHere words homes = (w : View M E N) × (a : Act (Option M)) × Valid homes c a
        × Rule (stepped record { words = words; homes = homes; views = s.views } 0 (either (get_or words 0 0 == 0) 1 (get_or words 0 0)) id c w a)
        × rule.takes actors trace_of mine_of (step slots 0 0 1 none) (v, c) (get_or words 0 0) (w, carried_after c a)

    takes_by : (holder : Option ℕ) → k.holder ≡ holder → TakesHere (turn_word holder ∷ length (trace_of k.machine) ∷ []) (slot_of holder k.machine ∷ [])
    takes_by None free =
        let m = k.machine in let w = with_turn trace_of mine_of m v in let known = k.each id v x at is in (
          w,
          takes 0 (Some m),
          refl,
          moves s k id v w x x m (Some id) (1 ∷ length (trace_of m) ∷ []) (none ∷ []) at is is refl refl refl refl
              (λ seat e. (some_some seat id (Some id) e refl, refl))
              record { prefix = prefix_refl (trace_of m); mine = known.mine; below = known.below; in_use = known.in_use; turn = λ y e. (refl, some_some y m (Some m) e refl); first = known.first }
              (λ j u z other _ q. stays m m k.holder (Some id) k.ledger id j u z (prefix_refl (trace_of m)) refl other (inl free) q)
              k.standing,
          ((λ _. record { machine = m; below = known.below; prefix = known.prefix; mine = subst (λ (o : Option N). IfSome o (λ kept. kept ≡ mine_of m v.actor)) (sym is) known.mine; view = refl; slot = refl }), λ ne. absurd (ne refl)),
        )
    takes_by (Some seat) held = (
      v,
      keeps,
      tt,
      subst (λ (z : List ℕ × List (maybe.Option (Option M)) × List (View M E N)). Rule record { words = z.0; homes = z.1; views = z.2 })
          (λ i. ((k.words ∙ ap (λ (h : Option ℕ). turn_word h ∷ length (trace_of k.machine) ∷ []) held) i, (k.homes ∙ ap (λ (h : Option ℕ). slot_of h k.machine ∷ []) held) i, sym (set_again s.views id v at) i)) k,
      ((λ z. absurd (omega arith)), λ _. refl),
    )

  -- taking the turn
  pub takes_turn : (slots id : ℕ) (v : View M E N) (c : List (ℕ × Option M)) (x : N) → v.mine ≡ Some x → Allows Rule slots id (v, c) 0 (λ n. either (n == 0) 1 n) (rule.takes actors trace_of mine_of (step slots 0 0 1 none) (v, c))
  takes_turn slots id v c x is s k deep at bound =
      subst (λ (z : List ℕ × List (maybe.Option (Option M))). TakesHere s k id v x at is slots c z.0 z.1) (λ i. (sym k.words i, sym k.homes i)) (takes_by s k id v x at is slots c k.holder refl)

  -- what a seat is after the machine was put into its slot
  pub put_back : (m : M) (v : View M E N) (old : List (ℕ × Option M)) (me : Me (Option M) (View M E N)) → old ≡ (0, None) ∷ [] → me ≡ (v, (0, Some m) ∷ rest old) → me ≡ (v, (0, Some m) ∷ [])
  put_back m v old me was is = is ∙ ap (λ (c : List (ℕ × Option M)). (v, (0, Some m) ∷ rest c)) was

  -- storing the count, after the event
  counts_here : (slots id : ℕ) (v : View M E N) (m' : M) (n : ℕ) → IsSome v.mine → IsSome v.turn → n ≡ length (trace_of m')
      → IfSome v.turn (λ m. IsPrefix (trace_of m) (trace_of m') × ((other : ℕ) → other ≢ v.actor → mine_of m' other ≡ mine_of m other))
      → Allows Rule slots id (v, (0, Some m') ∷ []) 1 (λ _. n) (λ _. counts trace_of mine_of (step slots 1 n 0 none) (v, (0, Some m') ∷ []) n)
  counts_here slots id v m' n live held_turn count after s k deep at bound =
      let some_mine = some_of v.mine live in let some_turn = some_of v.turn held_turn in
      let x = some_mine.0 in let is = some_mine.1 in let m = some_turn.0 in let turn = some_turn.1 in
      let step_is = of_some (λ (m : M). IsPrefix (trace_of m) (trace_of m') × ((other : ℕ) → other ≢ v.actor → mine_of m' other ≡ mine_of m other)) v.turn m turn after in
      let grows = step_is.0 in let others = step_is.1 in
      let known = k.each id v x at is in
      let held : k.holder ≡ Some id = (known.turn m turn).0 in
      let same : m ≡ k.machine = (known.turn m turn).1 in
      let w = counted trace_of mine_of m' v in (
        w,
        keeps,
        tt,
        moves s k id v w x (mine_of m' v.actor) m' (Some id) (set s.words 1 n) s.homes at is refl refl refl
            (ap (λ (ws : List ℕ). set ws 1 n) (k.words ∙ ap (λ (h : Option ℕ). turn_word h ∷ length (trace_of k.machine) ∷ []) held) ∙ ap (λ (z : ℕ). 1 ∷ z ∷ []) count)
            (k.homes ∙ ap (λ (h : Option ℕ). slot_of h k.machine ∷ []) held)
            (λ seat e. (some_some seat id (Some id) e refl, refl))
            record { prefix = prefix_refl (trace_of m'); mine = refl; below = known.below; in_use = known.in_use; turn = λ y e. (refl, some_some y m' (Some m') e refl); first = known.first }
            (λ j u z other apart q. stays k.machine m' k.holder (Some id) k.ledger id j u z (subst (λ (c : M). IsPrefix (trace_of c) (trace_of m')) same grows)
            (others u.actor apart ∙ ap (λ (c : M). mine_of c u.actor) same) other (inr held) q)
            (λ a. dite (ℕ_discrete a v.actor)
            (λ e. subst (Stands mine_of k.ledger.opening m' a) (sym (ap (standing_in k.ledger) e ∙ known.in_use)) tt)
            (λ ne. stands_on mine_of k.ledger.opening k.machine m' a (standing_in k.ledger a) (others a ne ∙ ap (λ (c : M). mine_of c a) same) (k.standing a))),
        λ y e. ap (λ (z : M). (counted trace_of mine_of z v, (0, Some m') ∷ [])) (held_slot m' y _ refl e),
      )

  -- freeing the turn
  frees_here : (slots id : ℕ) (v : View M E N) (x : N) (m : M) → v.mine ≡ Some x → v.turn ≡ Some m → v.prefix ≡ trace_of m
      → Allows Rule slots id (v, (0, Some m) ∷ []) 0 (λ _. 0) (λ _. frees (step slots 0 0 0 none) (v, (0, Some m) ∷ []) 0)
  frees_here slots id v x m is turn whole s k deep at bound =
      let known = k.each id v x at is in
      let held : k.holder ≡ Some id = (known.turn m turn).0 in
      let same : m ≡ k.machine = (known.turn m turn).1 in
      let w : View M E N = record v { turn = None } in (
        w,
        gives,
        tt,
        moves s k id v w x x m None (set s.words 0 0) (set s.homes 0 (some (Some m))) at is is refl whole
            (ap (λ (ws : List ℕ). set ws 0 0) k.words ∙ ap (λ (c : M). 0 ∷ length (trace_of c) ∷ []) (sym same))
            (ap (λ (hs : List (maybe.Option (Option M))). set hs 0 (some (Some m))) k.homes)
            (λ seat e. absurd (none_some seat None refl e))
            record {
              prefix = subst (λ (t : List E). IsPrefix t (trace_of m)) (sym whole) (prefix_refl (trace_of m));
              mine = known.mine ∙ ap (λ (c : M). mine_of c v.actor) (sym same);
              below = known.below;
              in_use = known.in_use;
              turn = λ y e. absurd (none_some y None refl e);
              first = known.first;
            }
            (λ j u z other _ q. stays k.machine m k.holder None k.ledger id j u z (subst (λ (c : M). IsPrefix (trace_of k.machine) (trace_of c)) (sym same) (prefix_refl (trace_of k.machine)))
            (ap (λ (c : M). mine_of c u.actor) same) other (inr held) q)
            (subst (λ (c : M). AllStand mine_of c k.ledger) (sym same) k.standing),
        refl,
      )

  -- the same, of the seat after the exchange
  pub counts_trace : (slots id : ℕ) (v : View M E N) (old : List (ℕ × Option M)) (m : M) (n : ℕ) (me : Me (Option M) (View M E N)) → old ≡ (0, None) ∷ [] → me ≡ (v, (0, Some m) ∷ rest old)
      → IsSome v.mine → IsSome v.turn → n ≡ length (trace_of m)
      → IfSome v.turn (λ was. IsPrefix (trace_of was) (trace_of m) × ((other : ℕ) → other ≢ v.actor → mine_of m other ≡ mine_of was other))
      → Allows Rule slots id me 1 (λ _. n) (λ _. counts trace_of mine_of (step slots 1 n 0 none) me n)
  counts_trace slots id v old m n me was is live held count after =
      subst (λ (z : Me (Option M) (View M E N)). Allows Rule slots id z 1 (λ _. n) (λ _. counts trace_of mine_of (step slots 1 n 0 none) z n)) (sym (put_back m v old me was is))
      (counts_here slots id v m n live held count after)

  -- what a seat is after the count
  pub is_counted : (m : M) (v : View M E N) (old : List (ℕ × Option M)) (before after : Me (Option M) (View M E N)) → old ≡ (0, None) ∷ [] → before ≡ (v, (0, Some m) ∷ rest old)
      → ((y : M) → before.1 ≡ (0, Some y) ∷ [] → after ≡ (counted trace_of mine_of y before.0, before.1)) → after ≡ (counted trace_of mine_of m v, (0, Some m) ∷ [])
  is_counted m v old before after was is counts =
      let now = put_back m v old before was is in
      counts m (ap (λ (z : Me (Option M) (View M E N)). z.1) now) ∙ ap (λ (z : Me (Option M) (View M E N)). (counted trace_of mine_of m z.0, z.1)) now

  -- freeing the turn, of the seat after the count
  pub frees_turn : (slots id : ℕ) (v : View M E N) (m : M) (me : Me (Option M) (View M E N)) → me ≡ (counted trace_of mine_of m v, (0, Some m) ∷ [])
      → Allows Rule slots id me 0 (λ _. 0) (λ _. frees (step slots 0 0 0 none) me 0)
  frees_turn slots id v m me is =
      subst (λ (z : Me (Option M) (View M E N)). Allows Rule slots id z 0 (λ _. 0) (λ _. frees (step slots 0 0 0 none) z 0)) (sym is)
      (frees_here slots id (counted trace_of mine_of m v) (mine_of m v.actor) m refl refl refl)
