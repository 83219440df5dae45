-- When the lines of a run were given to the sink.
use Rattle.std.specs.Prelude.{◌≡◌, ◌⊎◌, ◌≤◌, ℕ, All, IsSome, List, ◌∷◌, ◌++◌, length, drop}
use Rattle.dev_model.specs.Devices.{DevicesState, now}
use Rattle.dev_model.specs.Disk.{Image, IsCrashImage}
use Rattle.replay.specs.Mending.{IsVolumeUntorn}
use Rattle.text_io.specs.Streams.{GainsTextBy, GivesPrefix}
use Rattle.forest_ops.specs.Acknowledged.{acknowledged}
use Rattle.forest_ops.specs.History.{History}
use Rattle.forest_ops.specs.declared.acks.Ack.{Ack}
use Rattle.forest_ops.specs.declared.operation.Reply.TheVariants.{Synced}
use Rattle.image_view.specs.Found.{Found}
use Rattle.vol_session.specs.Runs.{IsLeftOfRun, MayRun}
use Rattle.shell.specs.Outcome.{Outcome, EndedEarly, Ran, Formatted, Informed, Answered, may_wait, reply_line, reply_lines}

-- Since a sink was so it has gained bytes, each of them at this moment.
pub record GainsAt {K : Type 0} (held given_at : K → List ℕ) (first last : K) (moment : ℕ) : Type 0 where
  pub bytes : List ℕ
  pub moments : List ℕ
  pub holds : held last ≡ held first ++ bytes
  pub given : given_at last ≡ given_at first ++ moments
  pub each : length moments ≡ length bytes
  pub at : All (λ at. at ≡ moment) moments

-- Since a sink was so it has gained bytes, and those behind so many bytes at this moment or later.
pub record GainsSince {K : Type 0} (held given_at : K → List ℕ) (first last : K) (size moment : ℕ) : Type 0 where
  pub bytes : List ℕ
  pub moments : List ℕ
  pub holds : held last ≡ held first ++ bytes
  pub given : given_at last ≡ given_at first ++ moments
  pub each : length moments ≡ length bytes
  pub since : All (λ at. moment ≤ at) (drop size moments)

-- Since a sink was so it has gained this text by this moment, but for so many of its last bytes at most.
pub record GainsAllBut {K : Type 0} (held given_at : K → List ℕ) (first last : K) (text : List ℕ) (most moment : ℕ) : Type 0 where
  pub gained : List ℕ
  pub rest : List ℕ
  pub whole : gained ++ rest ≡ text
  pub few : length rest ≤ most
  pub by : GainsTextBy held given_at first last gained moment

-- A line that answers an operation, behind those with the text before it, was given to the sink in time: no byte of it before the moment of the devices right behind the operation; and by that
-- moment, so before any later call of a device, all lines up to it, where it acknowledges commits, and else all but fewer than 4 KiB. Or no more than these lines was ever printed.
pub record IsGivenInTime {K : Type 0} (held given_at : K → List ℕ) (first last : K) (before : List ℕ) (answered : Answered) : Type 0 where
  pub since : GainsSince held given_at first last (length before) answered.moment
  pub by : GainsAllBut held given_at first last (before ++ reply_line answered) (may_wait answered.reply) answered.moment ⊎ GivesPrefix (before ++ reply_line answered) (held first) (held last)

-- The lines that the sink was given by this moment tell that so many commits are durable: one of them acknowledges these, and it was given by then with all before it.
pub record TellsDurable {K : Type 0} (held given_at : K → List ℕ) (first last : K) (answered : List Answered) (moment count : ℕ) : Type 0 where
  pub before : List Answered
  pub one : Answered
  pub after : List Answered
  pub among : answered ≡ before ++ one ∷ after
  pub operation : IsSome one.line.op
  pub says : one.reply ≡ Synced count
  pub given : GainsTextBy held given_at first last (reply_lines before ++ reply_line one) moment

-- The image is what the run leaves at this moment, and the lines that the sink was given by then tell no more commits to be durable than were acknowledged by then: the image has all of
-- these, and so has what is left of it on each metadata device alone.
pub record HasAllTold {K : Type 0} (held given_at : K → List ℕ) (first last : K) (answered : List Answered) (f : Found) (old new : DevicesState) (trace : History) (acks : List Ack) (moment : ℕ) (image : Image) : Type 0 where
  pub left : IsLeftOfRun f old new trace acks moment image
  pub told : (count : ℕ) → TellsDurable held given_at first last answered moment count → count ≤ acknowledged acks moment

-- So is whatever a crash has left at a moment of a run of lines over a volume that may be run.
abbrev pub IsPrintedDurable : {K : Type 0} → (K → List ℕ) → (K → List ℕ) → K → K → DevicesState → DevicesState → DevicesState → History → List Ack → Outcome → Type 0
IsPrintedDurable held given_at first last old mounted new trace acks (EndedEarly end) = Unit {0}
IsPrintedDurable held given_at first last old mounted new trace acks (Ran script answered last_reply) =
    (f : Found) → MayRun f (now old) → (moment : ℕ) → old.moment ≤ moment → moment ≤ new.moment → (image : Image) → IsCrashImage (new.disks moment) image → IsVolumeUntorn f old.moment moment new image
    → HasAllTold held given_at first last answered f old new trace acks moment image
IsPrintedDurable held given_at first last old mounted new trace acks (Formatted layout fault) = Unit {0}
IsPrintedDurable held given_at first last old mounted new trace acks (Informed f) = Unit {0}
