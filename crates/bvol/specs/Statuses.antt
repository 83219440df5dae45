-- Whose status the program ends with.
use Rattle.std.specs.Prelude.{◌≡◌, ◌⊎◌, ℕ, true, false, List, Some}
use Rattle.dev_model.specs.Devices.{DevicesState}
use Rattle.shell.specs.declared.ended.Ended.{Ended}
use Rattle.shell.specs.Headline.{Headline}
use Rattle.shell.specs.Runs.{run_of}
use Rattle.bvol.specs.Arguments.{asks_help, words_and_files}

-- Of these arguments a run over some devices, which keeps all that is promised of runs, ended with this status.
pub record IsStatusOfRun {S K D : Type 0} (source_tells sink_tells devices_tell : Type 0) (left : S → List ℕ) (source_faults : S → ℕ) (held given_at : K → List ℕ) (sink_faults : K → ℕ) (state : D → DevicesState) (source source_after : S) (sink sink_after : K) (arguments : List (List ℕ)) (status : ℕ) : Type 0 where
  pub devices : D
  pub ended : Ended D
  pub keeps : Headline source_tells sink_tells devices_tell held given_at (run_of left source_faults held sink_faults state arguments source source_after sink sink_after devices ended)
  pub status_is : status ≡ ended.status

-- The status is that of a run of the arguments before the first `--`; or it is that of a text which all the arguments ask for: 0, or 5 where that wasn't printed.
pub record IsStatusFor {S K D : Type 0} (source_tells sink_tells devices_tell : Type 0) (left : S → List ℕ) (source_faults : S → ℕ) (held given_at : K → List ℕ) (sink_faults : K → ℕ) (state : D → DevicesState) (source source_after : S) (sink sink_after : K) (args : List (List ℕ)) (status : ℕ) : Type 0 where
  pub help : asks_help args ≡ true → (status ≡ 0) ⊎ (status ≡ 5)
  pub words : List (List ℕ)
  pub files : List (List ℕ)
  pub run : asks_help args ≡ false → (words_and_files args ≡ Some (words, files)) × IsStatusOfRun source_tells sink_tells devices_tell left source_faults held given_at sink_faults state source source_after sink sink_after words status
