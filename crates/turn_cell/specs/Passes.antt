-- What a pass knows, and what each call does to it.
use Rattle.std.specs.Prelude.{◌≡◌, ◌≢◌, ℕ, ◌-◌, ◌<◌, List, ◌∷◌, length, replicate, slice_index_or, slice_set, IfSome, Option, Some, None, option_map, nat_lt, if◌then◌else◌}
use mathlib.Core.List.{IsPrefix}
use Rattle.turn_cell.specs.declared.view.View.{View}
use Rattle.turn_cell.specs.declared.view.Ledger.{Ledger}
use Rattle.turn_cell.specs.declared.view.Standing.{Standing}
use Rattle.turn_cell.specs.declared.view.Standing.TheVariants.{Unused, InUse, Joined}

-- the longer of two lists, and the first where they are equally long
abbrev pub longer : {E : Type 0} → List E → List E → List E
longer xs ys = if nat_lt (length xs) (length ys) then ys else xs

-- how an actor stands whose pass was joined, where the machine keeps this of it
abbrev pub standing_joined : {N : Type 0} → Option N → Standing N
standing_joined (Some kept) = Joined kept
standing_joined None = InUse

module _ {M N : Type 0} where
  -- what the first pass knows of an actor
  abbrev pub standing_in : Ledger M N → ℕ → Standing N
  standing_in ledger actor = slice_index_or ledger.standings actor Unused

  -- the ledger, with another standing of the actor
  abbrev pub with_standing : ℕ → Standing N → Ledger M N → Ledger M N
  with_standing actor standing ledger = record { opening = ledger.opening; standings = slice_set ledger.standings actor standing }

  -- the ledger when the cell is made: the first pass has actor 0, and no pass has had another
  abbrev pub first_ledger : M → ℕ → Ledger M N
  first_ledger machine passes = record { opening = machine; standings = InUse ∷ replicate (passes - 1) Unused }

module _ {M E N : Type 0} where
  -- the first pass's view after it gave a pass for the actor
  abbrev pub gave : ℕ → View M E N → View M E N
  gave actor v = record v { ledger = option_map (with_standing actor InUse) v.ledger }

  -- the ledger after a pass of the view w was joined
  abbrev pub ledger_joined : View M E N → Ledger M N → Ledger M N
  ledger_joined w ledger = with_standing w.actor (standing_joined w.mine) ledger

  -- the first pass's view after a pass of the view w was joined
  abbrev pub joined : View M E N → View M E N → View M E N
  joined v w = record v { prefix = longer v.prefix w.prefix; ledger = option_map (ledger_joined w) v.ledger }

  -- The pass may give a pass for the actor.
  pub record MayGive (v : View M E N) (actor : ℕ) : Type 0 where
    pub ledger : Ledger M N
    pub is : v.ledger ≡ Some ledger
    pub below : actor < length ledger.standings
    pub unused : standing_in ledger actor ≡ Unused

  -- It is the first pass, and every pass that it gave was joined.
  pub record IsAlone (v : View M E N) : Type 0 where
    pub ledger : Ledger M N
    pub is : v.ledger ≡ Some ledger
    pub alone : (actor : ℕ) → standing_in ledger actor ≡ InUse → actor ≡ v.actor

module _ {M N : Type 0} (mine_of : M → ℕ → N) where
  -- The machine keeps of the actor what its standing says: what it kept at the opening where no pass had it, and what its pass knew where that was joined.
  abbrev pub Stands : M → M → ℕ → Standing N → Type 0
  Stands opening machine actor Unused = mine_of machine actor ≡ mine_of opening actor
  Stands opening machine actor InUse = Unit {0}
  Stands opening machine actor (Joined kept) = mine_of machine actor ≡ kept

  -- The machine keeps of each actor what the ledger says.
  abbrev pub AllStand : M → Ledger M N → Type 0
  AllStand machine ledger = (actor : ℕ) → Stands ledger.opening machine actor (standing_in ledger actor)

module _ {M E N : Type 0} (mine_of : M → ℕ → N) where
  -- the view of a pass that the first pass gives: it has seen as much, and the machine keeps of its actor what it kept at the opening
  abbrev pub given : ℕ → View M E N → View M E N
  given actor v = record { actor = actor; prefix = v.prefix; mine = option_map (λ (l : Ledger M N). mine_of l.opening actor) v.ledger; turn = None; ledger = None }

module _ {M E N : Type 0} (trace_of : M → List E) (mine_of : M → ℕ → N) where
  -- the first pass's view when the cell is made
  abbrev pub first_view : M → ℕ → View M E N
  first_view machine passes = record { actor = 0; prefix = trace_of machine; mine = Some (mine_of machine 0); turn = None; ledger = Some (first_ledger machine passes) }

  -- the view of a pass that has seen the whole trace of the machine
  abbrev pub caught_up : M → View M E N → View M E N
  caught_up machine v = record v { prefix = trace_of machine; mine = Some (mine_of machine v.actor) }

  -- A pass made one event. The machine that it met went on from what the pass had seen, and kept of its actor what the pass knew. It went, as `gives` says, to one that keeps the same of all other actors, and whose trace the pass has now seen.
  pub record Steps {V A : Type 0} (gives : M → ℕ → V → A → M → Type 0) (old : View M E N) (event : V) (answer : A) (new : View M E N) : Type 0 where
    pub before : M
    pub after : M
    pub seen : IsPrefix old.prefix (trace_of before)
    pub kept : old.mine ≡ Some (mine_of before old.actor)
    pub step : gives before old.actor event answer after
    pub grows : IsPrefix (trace_of before) (trace_of after)
    pub others : (other : ℕ) → other ≢ old.actor → mine_of after other ≡ mine_of before other
    pub view : new ≡ caught_up after old

  -- The machine that the cell gives back: the pass has seen its whole trace, and it keeps of each actor what the pass knows.
  pub record Closes (v : View M E N) (machine : M) : Type 0 where
    pub trace : trace_of machine ≡ v.prefix
    pub own : v.mine ≡ Some (mine_of machine v.actor)
    pub standing : IfSome v.ledger (AllStand mine_of machine)
