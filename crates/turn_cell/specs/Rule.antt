-- What a cell keeps between any two atomic steps, over its turn word, its count word, its slot and the views of all passes, and what each step does to a view.
use Rattle.std.specs.Prelude.{◌≡◌, ◌≢◌, ℕ, ◌<◌, ◌≤◌, List, [], ◌∷◌, length, IfSome, IsSome, Option, Some, None}
use mathlib.Core.List.{IsPrefix}
use mathlib.Core.Option as maybe
use mathlib.Core.Option.{some, none}
use lib.ListN.{get_elem?}
use Rattle.atomic_table.specs.Table.{State, Me, Step}
use Rattle.atomic_table.specs.declared.shared.Seat.{Seat}
use Rattle.turn_cell.specs.declared.view.View.{View}
use Rattle.turn_cell.specs.declared.view.Ledger.{Ledger}
use Rattle.turn_cell.specs.declared.view.Standing.TheVariants.{InUse}
use Rattle.turn_cell.specs.Passes.{standing_in, AllStand}

-- the view of a pass that was joined
abbrev pub spent : {M E N : Type 0} → View M E N
spent = record { actor = 0; prefix = []; mine = None; turn = None; ledger = None }

module _ {M E N : Type 0} (trace_of : M → List E) (mine_of : M → ℕ → N) where
  -- the view of a pass that has taken the turn, and found this machine
  abbrev pub with_turn : M → View M E N → View M E N
  with_turn machine v = record v { prefix = trace_of machine; turn = Some machine }

  -- the view of a pass that has made its event, and left this machine
  abbrev pub counted : M → View M E N → View M E N
  counted machine v = record v { prefix = trace_of machine; mine = Some (mine_of machine v.actor); turn = Some machine }

-- the turn word: 1 exactly where a seat has the turn
abbrev pub turn_word : Option ℕ → ℕ
turn_word None = 0
turn_word (Some seat) = 1

-- the slot: it has the machine exactly where no seat has the turn
abbrev pub slot_of : {M : Type 0} → Option ℕ → M → maybe.Option (Option M)
slot_of None machine = some (Some machine)
slot_of (Some seat) machine = none

module _ {M E N : Type 0} (actors : ℕ) (trace_of : M → List E) (mine_of : M → ℕ → N) where
  -- What holds of the view of a pass that isn't spent, of whose actor it knows that the machine keeps this.
  pub record Knows (machine : M) (holder : Option ℕ) (ledger : Ledger M N) (seat : ℕ) (v : View M E N) (kept : N) : Type 0 where
    pub prefix : IsPrefix v.prefix (trace_of machine)
    pub mine : kept ≡ mine_of machine v.actor
    pub below : v.actor < actors
    pub in_use : standing_in ledger v.actor ≡ InUse
    pub turn : (m : M) → v.turn ≡ Some m → (holder ≡ Some seat) × (m ≡ machine)
    pub first : (l : Ledger M N) → v.ledger ≡ Some l → (seat ≡ 0) × (l ≡ ledger)

  -- The seat has a view that isn't spent, with this property.
  abbrev pub HasView : List (View M E N) → ℕ → (View M E N → Type 0) → Type 0
  HasView views seat holds = (v : View M E N) × (kept : N) × (get_elem? views seat ≡ some v) × (v.mine ≡ Some kept) × holds v

  -- The rule of a cell. There is a machine, the one that the last event left, that all views speak of. It lies in the slot where no seat has the turn, and else the seat's view says it.
  pub record IsKept (s : State (Option M) (View M E N)) : Type 0 where
    pub machine : M
    pub holder : Option ℕ
    pub ledger : Ledger M N
    pub words : s.words ≡ turn_word holder ∷ length (trace_of machine) ∷ []
    pub homes : s.homes ≡ slot_of holder machine ∷ []
    -- passes are for actors that the machine has
    pub few : length ledger.standings ≤ actors
    -- who has the turn knows the machine
    pub turn : (seat : ℕ) → holder ≡ Some seat → HasView s.views seat (λ v. v.turn ≡ Some machine)
    -- some pass has seen the whole trace
    pub whole : (seat : ℕ) × HasView s.views seat (λ v. v.prefix ≡ trace_of machine)
    pub each : (seat : ℕ) (v : View M E N) (kept : N) → get_elem? s.views seat ≡ some v → v.mine ≡ Some kept → Knows machine holder ledger seat v kept
    -- no two passes have one actor
    pub apart : (i j : ℕ) (v w : View M E N) (x y : N) → get_elem? s.views i ≡ some v → get_elem? s.views j ≡ some w → v.mine ≡ Some x → w.mine ≡ Some y → v.actor ≡ w.actor → i ≡ j
    pub standing : AllStand mine_of machine ledger

  -- A pass that took the turn: it has seen the whole trace of the machine that it found, which begins with what it had seen and keeps of its actor what it knew.
  pub record Takes (before after : Me (Option M) (View M E N)) : Type 0 where
    pub machine : M
    pub below : before.0.actor < actors
    pub prefix : IsPrefix before.0.prefix (trace_of machine)
    pub mine : IfSome before.0.mine (λ kept. kept ≡ mine_of machine before.0.actor)
    pub view : after.0 ≡ with_turn trace_of mine_of machine before.0
    pub slot : after.1 ≡ (0, Some machine) ∷ before.1

  -- what a compare_exchange on the turn word tells
  abbrev pub takes : Step (Option M) → Me (Option M) (View M E N) → ℕ → Me (Option M) (View M E N) → Type 0
  takes step before found after = (found ≡ 0 → Takes before after) × (found ≢ 0 → after ≡ before)

module _ {M E N : Type 0} (trace_of : M → List E) (mine_of : M → ℕ → N) where
  -- what storing the count tells: the pass has seen the trace of the machine that it put into the slot
  abbrev pub counts : Step (Option M) → Me (Option M) (View M E N) → ℕ → Me (Option M) (View M E N) → Type 0
  counts step before stored after = (m : M) → before.1 ≡ (0, Some m) ∷ [] → after ≡ (counted trace_of mine_of m before.0, before.1)

-- what freeing the turn tells: the slot went back
abbrev pub frees : {M E N : Type 0} → Step (Option M) → Me (Option M) (View M E N) → ℕ → Me (Option M) (View M E N) → Type 0
frees step before stored after = after ≡ (record before.0 { turn = None }, [])

module _ {M E N : Type 0} where
  -- The seat of a pass between two calls has no slot and not the turn.
  abbrev pub IsIdle : Seat (Option M) (View M E N) → Type 0
  IsIdle seat = (seat.me.1 ≡ []) × (seat.me.0.turn ≡ None)

  -- The seat's pass wasn't joined.
  abbrev pub IsLive : Seat (Option M) (View M E N) → Type 0
  IsLive seat = IsSome seat.me.0.mine

  -- It is the actor of the seat.
  abbrev pub IsActorOf : Seat (Option M) (View M E N) → ℕ → Type 0
  IsActorOf seat actor = seat.me.0.actor ≡ actor
