-- How a run goes, from beginning to end.
use Rattle.std.specs.Prelude.{ℕ, ◌+◌, ◌-◌, if◌then◌else◌, length, slice_index, List, [], ◌∷◌, ◌++◌, map, max, codes, Bool, true, false, Option, Some, None, option_map}
use Rattle.std.specs.List.{cons_option, filter_map, flat_map}
use Rattle.std.specs.Fmt.{decimal}
use Rattle.plain_forest.specs.Forest.{Forest}
use Rattle.forest_ops.specs.History.{History, commit_count}
use Rattle.forest_ops.specs.declared.operation.Op.{Op}
use Rattle.forest_ops.specs.declared.operation.Reply.{Reply}
use Rattle.forest_ops.specs.declared.operation.Reply.TheVariants.{Synced}
use Rattle.forest_ops.specs.declared.operation.Entry.{Entry}
use Rattle.forest_ops.specs.declared.acks.Ack.{Ack}
use Rattle.forest_ops.specs.Fits.{LineReply, entry_by, last_entry}
use Rattle.script_text.specs.Replies.{reply_line_of, end_line_of}
use Rattle.script_text.specs.declared.reading.Line.{Line}
use Rattle.script_text.specs.declared.reading.LineFault.{LineFault}
use Rattle.script_text.specs.declared.reading.LineFault.TheVariants.{BadVerb, BadArgs, BadPath, BadClient}
use Rattle.uuid.specs.Text.{hyphenated_text, lower}
use Rattle.vol_types.specs.declared.layout.Layout.{Layout}
use Rattle.geometry.specs.declared.fault.DiskFault.{DiskFault}
use Rattle.image_view.specs.Found.{Found}
use Rattle.shell.specs.EarlyEnds.{end_of_disk}
use Rattle.shell.specs.declared.early_end.MountRefusal.{MountRefusal}
use Rattle.shell.specs.declared.early_end.MountRefusal.TheVariants.{NoSuper, Version, Mixed, BadLayout, NoEntry, MissingEntry, BadNode, Unsound}
use Rattle.shell.specs.declared.early_end.EarlyEnd.{EarlyEnd}
use Rattle.shell.specs.declared.early_end.EarlyEnd.TheVariants.{Usage, BadLine, TooLong, Source, Refused, Device, OutOfMemory}

-- a line of the script with the reply to it, and the moment of the devices when it was answered
pub record Answered : Type 0 where
  pub line : Line
  pub reply : Reply
  pub moment : ℕ

-- A run ends early, before any line runs, or each line of the script is answered in order, and then a last sync; or the devices
-- are formatted with this layout, unless it fails by a fault; or the facts of the volume that was found on them are told.
pub data Outcome : Type 0 where
  EndedEarly : EarlyEnd → Outcome
  Ran : List Line → List Answered → Reply → Outcome
  Formatted : Layout → Option DiskFault → Outcome
  Informed : Found → Outcome

-- the status of an early end
abbrev pub early_status : EarlyEnd → ℕ
early_status Usage = 1
early_status (BadLine line cause) = 2
early_status TooLong = 2
early_status (Refused refusal) = 3
early_status Source = 4
early_status (Device dev) = 6
early_status OutOfMemory = 7

-- why a line is bad, at the end of the line that says so
abbrev pub bad_end : LineFault → List ℕ
bad_end BadVerb = codes " bad-verb\n"
bad_end BadArgs = codes " bad-args\n"
bad_end BadPath = codes " bad-path\n"
bad_end BadClient = codes " bad-client\n"

-- the line of a refusal: the number of its reason, with what it names
abbrev pub refusal_line : MountRefusal → List ℕ
refusal_line NoSuper = codes "mount refused 1\n"
refusal_line Version = codes "mount refused 2\n"
refusal_line Mixed = codes "mount refused 3\n"
refusal_line BadLayout = codes "mount refused 4\n"
refusal_line NoEntry = codes "mount refused 5\n"
refusal_line (MissingEntry sequence) = codes "mount refused 6 seq " ++ decimal sequence ++ codes "\n"
refusal_line (BadNode place) = codes "mount refused 7 at " ++ decimal place.dev ++ codes ":" ++ decimal place.block ++ codes "\n"
refusal_line (Unsound check) = codes "mount refused 8 check " ++ decimal check ++ codes "\n"

-- the line of an early end
abbrev pub early_line : EarlyEnd → List ℕ
early_line Usage = codes "error 1 usage\n"
early_line (BadLine line cause) = codes "error 2 line " ++ decimal line ++ bad_end cause
early_line TooLong = codes "error 2 too-long\n"
early_line (Refused refusal) = refusal_line refusal
early_line Source = codes "error 4 source\n"
early_line (Device dev) = codes "error 6 device " ++ decimal dev ++ codes "\n"
early_line OutOfMemory = codes "error 7 memory\n"

-- why a run ended early, if it did
abbrev pub early_end_of : Outcome → Option EarlyEnd
early_end_of (EndedEarly end) = Some end
early_end_of (Ran script answered last) = None
early_end_of (Formatted layout fault) = option_map end_of_disk fault
early_end_of (Informed f) = None

-- the line of a format that succeeded: the volume's id, how many devices it has, of how many blocks, and its journal's blocks
unfoldable pub formatted_line : Layout → List ℕ
formatted_line layout =
    codes "formatted " ++ hyphenated_text lower layout.id ++ codes " devices " ++ decimal (length layout.blocks) ++ codes " blocks " ++ decimal (slice_index layout.blocks 0)
    ++ codes " journal " ++ decimal layout.journal ++ codes "\n"

-- the line of a format, or of the fault by which it failed
abbrev pub format_line : Layout → Option DiskFault → List ℕ
format_line layout None = formatted_line layout
format_line layout (Some fault) = early_line (end_of_disk fault)

-- the status of a format, or of the fault by which it failed
abbrev pub format_status : Option DiskFault → ℕ
format_status None = 0
format_status (Some fault) = early_status (end_of_disk fault)

-- how many of the lines have an operation
abbrev pub operation_count : List Line → ℕ
operation_count lines = length (filter_map (λ line. line.op) lines)

-- how many operations a volume was called with: each line's, and the last sync
abbrev pub calls_of : Outcome → ℕ
calls_of (EndedEarly end) = 0
calls_of (Ran script answered last) = operation_count script + 1
calls_of (Formatted layout fault) = 0
calls_of (Informed f) = 0

-- the line as it was answered
abbrev pub line_reply : Answered → LineReply
line_reply answered = record { client = answered.line.client; op = answered.line.op; reply = answered.reply }

-- the entry of this line, if it has an operation that found memory
abbrev pub entry_of : Answered → Option Entry
entry_of answered = entry_by answered.line.client answered.line.op answered.reply

-- the entries of the lines, and the one of the last sync
abbrev pub entries_of : List Answered → Reply → History
entries_of answered last = filter_map entry_of answered ++ last_entry last

-- the acknowledgement that a reply is at this moment, if it is one
abbrev pub ack_by : ℕ → Reply → Option Ack
ack_by moment (Synced count) = Some (record { moment = moment; commits = count })
ack_by moment reply = None

-- the acknowledgement that an answer is, if it is one
abbrev pub ack_of : Answered → Option Ack
ack_of answered = ack_by answered.moment answered.reply

-- the acknowledgements of the lines, and the one of the last sync, which was answered at this moment
abbrev pub acks_of : List Answered → Reply → ℕ → List Ack
acks_of answered last moment = filter_map ack_of answered ++ cons_option (ack_by moment last) []

-- the line that answers a line; a barrier has none
abbrev pub reply_line_by : Option Op → ℕ → ℕ → Reply → List ℕ
reply_line_by None client number reply = []
reply_line_by (Some op) client number reply = reply_line_of client number reply

-- the line that answers this line
abbrev pub reply_line : Answered → List ℕ
reply_line answered = reply_line_by answered.line.op answered.line.client answered.line.line answered.reply

-- the lines that answer the lines of the script
abbrev pub reply_lines : List Answered → List ℕ
reply_lines answered = flat_map reply_line answered

-- the replies of a run: those to its lines, and the one to its last sync
abbrev pub replies_of : List Answered → Reply → List Reply
replies_of answered last = map (λ a. a.reply) answered ++ last ∷ []

-- the reply acknowledges commits as durable
abbrev pub acknowledges : Reply → Bool
acknowledges (Synced count) = true
acknowledges reply = false

-- so many bytes of lines may gather before they are given to the sink: 4 KiB
abbrev pub most_gathered : ℕ
most_gathered = 4096

-- the most bytes of lines that may wait behind a reply: none where it acknowledges commits, and else fewer than may gather
abbrev pub may_wait : Reply → ℕ
may_wait reply = if acknowledges reply then 0 else most_gathered - 1

-- how many commits a reply says are durable; 0 where it says nothing of that
abbrev pub synced_by : Reply → ℕ
synced_by (Synced count) = count
synced_by reply = 0

-- the greatest number of commits that one of the replies says are durable, or 0
abbrev pub greatest_synced : List Reply → ℕ
greatest_synced [] = 0
greatest_synced (reply ∷ replies) = max (synced_by reply) (greatest_synced replies)

-- all that a run prints whose lines were answered
abbrev pub text_of : Forest → List Answered → Reply → List ℕ
text_of opening answered last = reply_lines answered ++ end_line_of (commit_count opening (entries_of answered last)) (greatest_synced (replies_of answered last))
