-- What a run was given, and what it left, as far as the source, the sink and the devices tell it.
use Rattle.std.specs.Prelude.{ℕ, List, Option}
use Rattle.vol_types.specs.declared.space.Short.{Short}
use Rattle.dev_model.specs.Devices.{DevicesState}
use Rattle.forest_ops.specs.History.{History}
use Rattle.forest_ops.specs.declared.acks.Ack.{Ack}
use Rattle.shell.specs.declared.early_end.EarlyEnd.{EarlyEnd}
use Rattle.shell.specs.declared.ended.Ended.{Ended}

-- what the source had left, before a run and after it, and what the sink held, where they tell it
pub record Streams : Type 0 where
  pub left : List ℕ
  pub left_after : List ℕ
  pub held : List ℕ
  pub held_after : List ℕ

-- how often the source and the sink had failed, before a run and after it
pub record StreamFaults : Type 0 where
  pub source : ℕ
  pub source_after : ℕ
  pub sink : ℕ
  pub sink_after : ℕ

-- A run: its arguments, its source and sink, its devices and what they showed, and how it ended.
pub record Run (D K : Type 0) : Type 0 where
  pub arguments : List (List ℕ)
  pub streams : Streams
  pub faults : StreamFaults
  pub sink : K
  pub sink_after : K
  pub devices : D
  pub devices_after : D
  pub state : DevicesState
  pub state_after : DevicesState
  pub status : ℕ
  pub early_end : Option EarlyEnd
  pub trace : History
  pub acks : List Ack
  pub shorts : List (ℕ × Short)
  pub calls : ℕ

-- the run of a task that ended so, by what its source has left and its sink holds, by how often each has failed, and by what its devices show
abbrev pub run_of : {S K D : Type 0} → (left : S → List ℕ) (source_faults : S → ℕ) (held : K → List ℕ) (sink_faults : K → ℕ) (state : D → DevicesState)
    → (arguments : List (List ℕ)) (source source_after : S) (sink sink_after : K) (devices : D) (ended : Ended D) → Run D K
run_of left source_faults held sink_faults state arguments source source_after sink sink_after devices ended = record {
  arguments = arguments;
  streams = record { left = left source; left_after = left source_after; held = held sink; held_after = held sink_after };
  faults = record { source = source_faults source; source_after = source_faults source_after; sink = sink_faults sink; sink_after = sink_faults sink_after };
  sink = sink;
  sink_after = sink_after;
  devices = devices;
  devices_after = ended.devices;
  state = state devices;
  state_after = state ended.devices;
  status = ended.status;
  early_end = ended.early_end;
  trace = ended.trace;
  acks = ended.acks;
  shorts = ended.shorts;
  calls = ended.calls;
}
