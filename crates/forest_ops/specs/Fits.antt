-- How the replies to a script fit a history, over several clients and phases. A barrier ends a phase.
use Rattle.std.specs.Prelude.{◌≡◌, ℕ, ◌≤◌, ◌==◌, IsSome, List, [], ◌∷◌, ◌++◌, take, slice_get, All, Option, Some, None, option_to_list, is_none, if◌then◌else◌}
use Rattle.std.specs.List.{AllZip, filter, filter_map, flat_map}
use Rattle.plain_forest.specs.Forest.{Forest}
use Rattle.forest_ops.specs.History.{History, commit_count}
use Rattle.forest_ops.specs.declared.operation.Op.{Op}
use Rattle.forest_ops.specs.declared.operation.Op.TheVariants.{Sync}
use Rattle.forest_ops.specs.declared.operation.Reply.{Reply}
use Rattle.forest_ops.specs.declared.operation.Reply.TheVariants.{NoMemory}
use Rattle.forest_ops.specs.declared.operation.Entry.{Entry}
use Rattle.forest_ops.specs.Acknowledged.{synced_count}

-- a line of a script as it was answered: its client, its operation, or none where it is a barrier, and the reply
pub record LineReply : Type 0 where
  pub client : ℕ
  pub op : Option Op
  pub reply : Reply

-- The line has an operation: it is no barrier.
abbrev pub IsOperation : LineReply → Type 0
IsOperation line = IsSome line.op

-- the entry of an operation with its reply: one that found no memory has none
abbrev pub entry_if_any : ℕ → Op → Reply → Option Entry
entry_if_any client op NoMemory = None
entry_if_any client op reply = Some (record { client = client; op = op; reply = reply })

-- the entry of a line, if it has an operation
abbrev pub entry_by : ℕ → Option Op → Reply → Option Entry
entry_by client None reply = None
entry_by client (Some op) reply = entry_if_any client op reply

-- the entry of this line
abbrev pub entry_of : LineReply → Option Entry
entry_of line = entry_by line.client line.op line.reply

-- the entry of the final sync, which is client 0's
abbrev pub last_entry : Reply → History
last_entry reply = option_to_list (entry_if_any 0 Sync reply)

-- the phases with this line before those of the first one
abbrev pub with_line : LineReply → List (List LineReply) → List (List LineReply)
with_line line [] = (line ∷ []) ∷ []
with_line line (phase ∷ phases) = (line ∷ phase) ∷ phases

-- the lines of each phase
abbrev pub phases_of : List LineReply → List (List LineReply)
phases_of [] = [] ∷ []
phases_of (line ∷ lines) = if is_none line.op then [] ∷ phases_of lines else with_line line (phases_of lines)

-- the entries of a client, in their order
abbrev pub of_client : ℕ → History → History
of_client client entries = filter (λ entry. entry.client == client) entries

-- The entries are those of a phase's lines, each client's in the order of its lines.
abbrev pub AreOfPhase : List LineReply → History → Type 0
AreOfPhase lines entries = (client : ℕ) → of_client client entries ≡ of_client client (filter_map entry_of lines)

-- the entries of several phases, one phase after another
abbrev pub joined : List History → History
joined parts = flat_map (λ (part : History). part) parts

-- Where the entry acknowledges commits, they are at least so many.
abbrev pub AcknowledgesAtLeast : ℕ → Entry → Type 0
AcknowledgesAtLeast least entry = (count : ℕ) → synced_count entry.reply ≡ Some count → least ≤ count

-- The replies fit the history, a list of one part for each phase and then of the final sync. Each client's entries in a part
-- are those of its lines in that phase, in order. A sync acknowledges at least the commits of the phases before its own, and
-- the final one all commits.
pub record Fits (opening : Forest) (lines : List LineReply) (last : Reply) (history : History) : Type 0 where
  pub parts : List History
  pub whole : history ≡ joined parts ++ last_entry last
  pub phases : AllZip AreOfPhase (phases_of lines) parts
  pub syncs : (phase : ℕ) (part : History) → slice_get parts phase ≡ Some part → All (AcknowledgesAtLeast (commit_count opening (joined (take phase parts)))) part
  pub final : (count : ℕ) → synced_count last ≡ Some count → count ≡ commit_count opening history
