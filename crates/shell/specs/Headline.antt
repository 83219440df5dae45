-- What a run promises, whatever arguments, script and devices it is given.
use Rattle.std.specs.Prelude.{◌≡◌, ℕ, List, []}
use Rattle.dev_model.specs.Devices.{DevicesState, now}
use Rattle.forest_ops.specs.History.{IsLegal}
use Rattle.image_view.specs.Found.{Found}
use Rattle.forest_ops.specs.Acknowledged.{AreAcks}
use Rattle.vol_session.specs.Runs.{MayRun}
use Rattle.vol_session.specs.Marks.{forest_found}
use Rattle.shell.specs.Outcome.{Outcome, calls_of, early_end_of}
use Rattle.shell.specs.Runs.{Run}
use Rattle.shell.specs.Output.{HasOutput}
use Rattle.shell.specs.Causes.{HasCauses}
use Rattle.shell.specs.Moments.{IsPrintedDurable}
use Rattle.shell.specs.Survived.{OpensVolume, IsSurvived}

-- The headline: one field for each promise. The run went in one way, and where it ran a script it opened a volume, in its next session, when its devices showed this. What is said of an image that
-- may be run is said of one in which a volume is found in order, sound and tidy, each of its btrees one leaf: as format makes it, and as each crash of a run leaves it.
pub record Headline {D K : Type 0} (source_tells sink_tells devices_tell : Type 0) (held given_at : K → List ℕ) (run : Run D K) : Type 0 where
  pub opening : Found
  pub mounted : DevicesState
  pub outcome : Outcome
  -- the volume opened is the one that the image means, and so is the one that was told of, whose devices were only read
  pub means : OpensVolume devices_tell run.state mounted run.state_after opening outcome
  -- each reply is the plain forest's at its place in one history, from the forest of that volume on, but for failures that the operation may have
  pub legal : devices_tell → (f : Found) → MayRun f (now run.state) → IsLegal (forest_found opening mounted) run.trace
  -- per client the operations are the script's, in order, and the text printed is theirs, each line given to the sink in time
  pub told : HasOutput source_tells sink_tells devices_tell held given_at run (forest_found opening mounted) outcome
  -- every image that a crash may leave, at every moment of the run, mounts to a prefix that has all that was acknowledged, on each metadata device alone too, and may be run again; or,
  -- of a format, means what it meant before, or nothing, or is the fresh volume
  pub survives : devices_tell → IsSurvived run.state mounted run.state_after run.trace run.acks outcome
  -- whoever has been given the line of an acknowledgement knows so many commits durable: whatever a crash leaves from then on has them
  pub printed : sink_tells → devices_tell → IsPrintedDurable held given_at run.sink run.sink_after run.state mounted run.state_after run.trace run.acks outcome
  -- one acknowledgement for each sync that succeeded, in order, with its number and its moment
  pub acknowledged : AreAcks run.state.moment run.state_after.moment run.trace run.acks
  -- the status and every failure has its cause
  pub caused : HasCauses source_tells sink_tells devices_tell run opening mounted (forest_found opening mounted) outcome
  -- whoever called it learns why it ended early, if it did
  pub early : run.early_end ≡ early_end_of outcome
  -- each line's operation was called of the volume, and the last sync: an answer that there was no memory is that of its own call
  pub called : run.calls ≡ calls_of outcome
  -- no answer that there was no space counts what was free
  pub shorts : run.shorts ≡ []
