-- What the tests say of the first pass while they give passes and join them.
use Rattle.std.specs.Prelude.{◌≡◌, ℕ, ◌<◌, ◌≤◌, length, Some}
use Rattle.turn_cell.specs.declared.view.View.{View}
use Rattle.turn_cell.specs.declared.view.Ledger.{Ledger}
use Rattle.turn_cell.specs.declared.view.Standing.TheVariants.{Unused, InUse}
use Rattle.turn_cell.specs.Passes.{standing_in}

module _ {M E N : Type 0} where
  -- The pass may give a pass for each actor from this one on.
  pub record IsReady (next actors : ℕ) (v : View M E N) : Type 0 where
    pub ledger : Ledger M N
    pub is : v.ledger ≡ Some ledger
    pub all : length ledger.standings ≡ actors
    pub unused : (actor : ℕ) → next ≤ actor → actor < actors → standing_in ledger actor ≡ Unused

  -- Whoever is in use was in use before.
  pub record IsBack (v w : View M E N) : Type 0 where
    pub old : Ledger M N
    pub new : Ledger M N
    pub was : v.ledger ≡ Some old
    pub is : w.ledger ≡ Some new
    pub back : (actor : ℕ) → standing_in new actor ≡ InUse → standing_in old actor ≡ InUse
