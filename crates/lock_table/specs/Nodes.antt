-- What the crate's own functions do to one node of a table, and that they leave every other.
use Rattle.std.specs.Prelude.{◌≡◌, ◌≢◌, ℕ, ◌≤◌, ◌⊎◌, ◌↔◌, List, Option, Some, None, IsSome}
use Rattle.std.specs.Option.{option_map, unwrap_or}
use Rattle.six_lock.specs.Modes.{Mode}
use Rattle.six_lock.specs.Modes.Mode.{Shared, Exclusive}
use Rattle.six_lock.specs.Locks.{HoldsSome, next_sequence, actors as actors_of}
use Rattle.six_lock.specs.declared.lock.Ask.{Ask}
use Rattle.six_lock.specs.declared.lock.Ask.TheVariants.{Granted, Held}
use Rattle.lock_table.specs.Tables.{HoldsOf, IsInTheWayOf, node_at, sequence_of}
use Rattle.lock_table.specs.declared.name.NodeName.{NodeName}
use Rattle.lock_table.specs.declared.node.Node.{Node}

-- the name of a node that somebody holds
abbrev pub name_of : Option Node → Option NodeName
name_of node = option_map (λ held. held.name) node

-- Every node but this one is as it was.
abbrev pub IsSameBut : ℕ → List (ℕ × Node) → List (ℕ × Node) → Type 0
IsSameBut birth old new = (b : ℕ) → b ≢ birth → node_at new b ≡ node_at old b

-- The node's lock is for so many actors, and somebody holds it.
pub record IsInUse (count : ℕ) (node : Node) : Type 0 where
  pub sized : actors_of node.lock ≡ count
  pub holder : ℕ
  pub holds : HoldsSome node.lock holder

-- Each node is so.
abbrev pub EachInUse : ℕ → List (ℕ × Node) → Type 0
EachInUse count nodes = (b : ℕ) (node : Node) → node_at nodes b ≡ Some node → IsInUse count node

-- The actor gains a mode of the node, which goes by the name and the sequence that it had, or by these where nobody held it.
pub record NodeGains (sequence : ℕ) (old : Option Node) (actor : ℕ) (name : NodeName) (mode : Mode) (new : Option Node) : Type 0 where
  pub holds : (a : ℕ) (m : Mode) → HoldsOf new a m ↔ (HoldsOf old a m ⊎ ((a ≡ actor) × (m ≡ mode)))
  pub called : name_of new ≡ Some (unwrap_or (name_of old) name)
  pub sequence_same : sequence_of sequence new ≡ sequence_of sequence old

-- An ask for a mode of a node, with its answer.
abbrev pub AsksNode : ℕ → List (ℕ × Node) → ℕ → NodeName → Mode → Ask → List (ℕ × Node) → Type 0
AsksNode sequence old actor name mode Granted new =
    ((holder : ℕ) → IsInTheWayOf (node_at old name.birth) actor mode holder → ⊥) × IsSameBut name.birth old new × NodeGains sequence (node_at old name.birth) actor name mode (node_at new name.birth)
AsksNode sequence old actor name mode (Held holder) new = IsInTheWayOf (node_at old name.birth) actor mode holder × (new ≡ old)

-- An upgrade of the lock of a node, with its answer.
abbrev pub UpgradesNode : List (ℕ × Node) → ℕ → ℕ → Ask → List (ℕ × Node) → Type 0
UpgradesNode old birth actor Granted new =
    ((holder : ℕ) → IsInTheWayOf (node_at old birth) actor Exclusive holder → ⊥) × IsSameBut birth old new × (name_of (node_at new birth) ≡ name_of (node_at old birth))
    × ((a : ℕ) (m : Mode) → HoldsOf (node_at new birth) a m ↔ (HoldsOf (node_at old birth) a m ⊎ ((a ≡ actor) × (m ≡ Exclusive))))
    × ((s : ℕ) → sequence_of s (node_at new birth) ≡ sequence_of s (node_at old birth))
UpgradesNode old birth actor (Held holder) new = (holder ≢ actor) × HoldsOf (node_at old birth) holder Shared × (new ≡ old)

-- An exclusive use of a node ends.
pub record LowersNode (old : List (ℕ × Node)) (birth : ℕ) (new : List (ℕ × Node)) : Type 0 where
  pub same : IsSameBut birth old new
  pub name : name_of (node_at new birth) ≡ name_of (node_at old birth)
  pub holds : (a : ℕ) (m : Mode) → HoldsOf (node_at new birth) a m ↔ (HoldsOf (node_at old birth) a m × (m ≢ Exclusive))
  pub sequence : (s : ℕ) → sequence_of s (node_at new birth) ≡ next_sequence (sequence_of s (node_at old birth))

-- The sequence of a node once the actor has let go of it: it has risen where the actor held exclusive.
pub record IsSequenceAfter (before : ℕ) (node : Option Node) (actor sequence : ℕ) : Type 0 where
  pub ended : HoldsOf node actor Exclusive → sequence ≡ next_sequence (sequence_of before node)
  pub same : (HoldsOf node actor Exclusive → ⊥) → sequence ≡ sequence_of before node

-- The actor lets go of a node. It goes by the name that it had; or nobody holds it any more, and it is gone with this
-- sequence.
pub record ReleasesNode (old : List (ℕ × Node)) (birth actor : ℕ) (gone : Option ℕ) (new : List (ℕ × Node)) : Type 0 where
  pub same : IsSameBut birth old new
  pub holds : (a : ℕ) (m : Mode) → HoldsOf (node_at new birth) a m ↔ (HoldsOf (node_at old birth) a m × (a ≢ actor))
  pub named : gone ≡ None → name_of (node_at new birth) ≡ name_of (node_at old birth)
  pub stays : gone ≡ None → (s : ℕ) → IsSequenceAfter s (node_at old birth) actor (sequence_of s (node_at new birth))
  pub goes : (sequence : ℕ) → gone ≡ Some sequence → node_at new birth ≡ None
  pub leaves : (sequence : ℕ) → gone ≡ Some sequence → (s : ℕ) → IsSequenceAfter s (node_at old birth) actor sequence

-- The actor lets go of all nodes. A node is gone, or goes by the name that it had. The sequence of those that nobody holds
-- becomes the greatest with which one is gone, where that is greater.
pub record ReleasesAll (before : ℕ) (old : List (ℕ × Node)) (actor after : ℕ) (new : List (ℕ × Node)) : Type 0 where
  pub holds : (b a : ℕ) (m : Mode) → HoldsOf (node_at new b) a m ↔ (HoldsOf (node_at old b) a m × (a ≢ actor))
  pub names : (b : ℕ) → (node_at new b ≡ None) ⊎ (name_of (node_at new b) ≡ name_of (node_at old b))
  pub no_less : before ≤ after
  pub stays : (b : ℕ) → IsSome (node_at new b) → IsSequenceAfter before (node_at old b) actor (sequence_of after (node_at new b))
  pub leaves : (b sequence : ℕ) → IsSome (node_at old b) → node_at new b ≡ None → IsSequenceAfter before (node_at old b) actor sequence → sequence ≤ after
  pub reached : (after ≡ before) ⊎ ((b : ℕ) × (IsSome (node_at old b) × (node_at new b ≡ None) × IsSequenceAfter before (node_at old b) actor after))
