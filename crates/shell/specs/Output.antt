-- Which script ran, what its lines were answered, and what was printed.
use Rattle.std.specs.Prelude.{◌≡◌, ◌≢◌, ℕ, ◌^◌, ◌≤◌, IsSome, List, [], ◌∷◌, ◌++◌, length, map}
use Rattle.text_io.specs.Streams.{GivesPrefix}
use Rattle.plain_forest.specs.Forest.{Forest}
use Rattle.forest_ops.specs.History.{History}
use Rattle.forest_ops.specs.declared.operation.Reply.{Reply}
use Rattle.forest_ops.specs.declared.acks.Ack.{Ack}
use Rattle.script_text.specs.Lines.{lines_of}
use Rattle.script_text.specs.Scripts.{IsScript}
use Rattle.script_text.specs.declared.reading.Line.{Line}
use Rattle.forest_ops.specs.Fits.{Fits}
use Rattle.shell.specs.Outcome.{Outcome, EndedEarly, Ran, Formatted, Informed, Answered, acks_of, early_line, format_line, entries_of, line_reply, reply_line, text_of}
use Rattle.shell.specs.Moments.{IsGivenInTime}
use Rattle.shell.specs.Runs.{Run, Streams}
use Rattle.vol_info.specs.Lines.{info_lines}

-- the most bytes of a script
abbrev pub script_limit : ℕ
script_limit = 2 ^ 24

-- The text was taken of the source: it is the source's, where that tells it, and no longer than a script may be.
pub record IsTaken (source_tells : Type 0) (left text : List ℕ) : Type 0 where
  pub told : source_tells → text ≡ left
  pub short : length text ≤ script_limit

-- A text was taken of the source, and it has this script.
pub record GaveScript (source_tells : Type 0) (left : List ℕ) (script : List Line) : Type 0 where
  pub text : List ℕ
  pub taken : IsTaken source_tells left text
  pub reads : IsScript (lines_of text) script

-- No line of a script ran: the history is empty, and the sink has gained this line, or these lines, or a prefix of them with status 5.
pub record HasLine (sink_tells : Type 0) (streams : Streams) (status : ℕ) (trace : History) (line : List ℕ) : Type 0 where
  pub nothing : trace ≡ []
  pub prefix : sink_tells → GivesPrefix line streams.held streams.held_after
  pub whole : sink_tells → status ≢ 5 → streams.held_after ≡ streams.held ++ line

-- Where it answers an operation its line was given in time, behind those with the text before it.
abbrev pub WasMade : {K : Type 0} → Type 0 → Type 0 → (K → List ℕ) → (K → List ℕ) → K → K → List ℕ → Answered → Type 0
WasMade {K} sink_tells devices_tell held given_at first last before answered =
    IsSome answered.line.op → sink_tells → devices_tell → IsGivenInTime held given_at first last before answered

-- So was the line of each answer, after those that have this text.
abbrev pub WereMade : {K : Type 0} → Type 0 → Type 0 → (K → List ℕ) → (K → List ℕ) → K → K → List ℕ → List Answered → Type 0
WereMade sink_tells devices_tell held given_at first last text [] = Unit {0}
WereMade sink_tells devices_tell held given_at first last text (one ∷ answered) =
    WasMade sink_tells devices_tell held given_at first last text one
    × WereMade sink_tells devices_tell held given_at first last (text ++ reply_line one) answered

-- Each line of the source's script was answered, in order, and then a sync. The history has the entries of these answers,
-- their replies fit it, phase by phase, and the sink has gained their text, or a prefix of it with status 5 or 7. The
-- acknowledgements are those of the answers, each with the moment of its answer, and each line was given to the sink in time.
pub record HasRun {K : Type 0} (source_tells sink_tells devices_tell : Type 0) (held given_at : K → List ℕ) (sink sink_after : K) (streams : Streams) (status : ℕ) (opening : Forest) (trace : History) (acks : List Ack) (moment_after : ℕ) (script : List Line) (answered : List Answered) (last : Reply) : Type 0 where
  pub reads : GaveScript source_tells streams.left script
  pub lines : map (λ a. a.line) answered ≡ script
  pub entries : trace ≡ entries_of answered last
  pub fits : Fits opening (map line_reply answered) last trace
  pub acknowledged : acks ≡ acks_of answered last moment_after
  pub made : WereMade sink_tells devices_tell held given_at sink sink_after [] answered
  pub prefix : sink_tells → GivesPrefix (text_of opening answered last) streams.held streams.held_after
  pub whole : sink_tells → status ≢ 5 → status ≢ 7 → streams.held_after ≡ streams.held ++ text_of opening answered last

-- what a run answered and printed, by how it went
abbrev pub HasOutput : {D K : Type 0} → Type 0 → Type 0 → Type 0 → (K → List ℕ) → (K → List ℕ) → Run D K → Forest → Outcome → Type 0
HasOutput source_tells sink_tells devices_tell held given_at run opening (EndedEarly end) = HasLine sink_tells run.streams run.status run.trace (early_line end)
HasOutput source_tells sink_tells devices_tell held given_at run opening (Ran script answered last) =
    HasRun source_tells sink_tells devices_tell held given_at run.sink run.sink_after run.streams run.status opening run.trace run.acks run.state_after.moment script answered last
HasOutput source_tells sink_tells devices_tell held given_at run opening (Formatted layout fault) = HasLine sink_tells run.streams run.status run.trace (format_line layout fault)
HasOutput source_tells sink_tells devices_tell held given_at run opening (Informed f) = HasLine sink_tells run.streams run.status run.trace (info_lines f)
