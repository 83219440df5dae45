-- What a list of calls by any actors may leave of a table.
use Rattle.std.specs.Prelude.{◌≡◌, ℕ, ◌<◌, ◌⊎◌, List, [], ◌∷◌, replicate, slice_get, Some, None}
use Rattle.six_lock.specs.Modes.{Mode as SixMode}
use Rattle.six_lock.specs.Modes.Mode.{Intent, Exclusive}
use Rattle.lock_table.specs.Tables.{Table, HoldsAt, actors}
use Rattle.lock_table.specs.Calls.{mode_of, Asks, Upgrades, Lowers, Drops}
use Rattle.lock_table.specs.declared.name.NodeName.{NodeName}
use Rattle.lock_table.specs.declared.table.Ruling.{Ruling}
use Rattle.lock_table.specs.declared.table.Mode.{Mode}

-- the calls that change a table, each by an actor
pub data Call : Type 0 where
  Ask : (actor : ℕ) (name : NodeName) (mode : Mode) → Call
  Upgrade : (actor birth : ℕ) → Call
  Lower : (actor birth : ℕ) → Call
  Drop_all : (actor : ℕ) → Call

-- The call's condition holds.
abbrev pub May : Table → Call → Type 0
May table (Ask actor name mode) = actor < actors table
May table (Upgrade actor birth) = HoldsAt table birth actor Intent
May table (Lower actor birth) = HoldsAt table birth actor Exclusive
May table (Drop_all actor) = actor < actors table

-- The call may lead from the one table to the other, whatever it answers.
abbrev pub Steps : Table → Call → Table → Type 0
Steps old (Ask actor name mode) new = (ruling : Ruling) × Asks old actor name (mode_of mode) ruling new
Steps old (Upgrade actor birth) new = (ruling : Ruling) × Upgrades old actor birth ruling new
Steps old (Lower actor birth) new = Lowers old birth new
Steps old (Drop_all actor) new = Drops old actor new

-- The calls, one after another, may lead from the one table to the other.
abbrev pub Runs : Table → List Call → Table → Type 0
Runs old [] new = new ≡ old
Runs old (call ∷ calls) new = May old call × ((mid : Table) × Steps old call mid × Runs mid calls new)

-- a table for so many actors, of which nobody holds anything and nobody waits, and all sequences are 0
abbrev pub fresh : ℕ → Table
fresh count = record { nodes = []; waits = replicate count None; sequence = 0 }

-- One of the calls asks for the node by this name.
abbrev pub IsAskedFor : NodeName → List Call → Type 0
IsAskedFor name [] = ⊥
IsAskedFor name (Ask actor asked mode ∷ calls) = (asked ≡ name) ⊎ IsAskedFor name calls
IsAskedFor name (Upgrade actor birth ∷ calls) = IsAskedFor name calls
IsAskedFor name (Lower actor birth ∷ calls) = IsAskedFor name calls
IsAskedFor name (Drop_all actor ∷ calls) = IsAskedFor name calls

-- The calls ask for each birth by one name.
abbrev pub HasOneName : List Call → Type 0
HasOneName calls = (n m : NodeName) → IsAskedFor n calls → IsAskedFor m calls → n.birth ≡ m.birth → n ≡ m

-- The one actor's last ask was answered that it waits for the other, which still holds a node of that birth.
pub record WaitsByBirth (table : Table) (actor holder : ℕ) : Type 0 where
  pub node : NodeName
  pub asked : slice_get table.waits actor ≡ Some (Some (record { node = node; holder = holder }))
  pub mode : SixMode
  pub holds : HoldsAt table node.birth holder mode
