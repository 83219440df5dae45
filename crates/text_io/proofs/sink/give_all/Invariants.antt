use Rattle.std.proofs.Common.{length, ◌-◌, ◌≡◌, ◌≤◌, ◌++◌, take}
use Rattle.text_io.specs.Streams.{AreGivenAt}
use Rattle.text_io.proofs.sink.give_all.Given as goal

abbrev pub invariant-loop-given : goal.invariant-loop-given
invariant-loop-given g l = record {
  within : l.given ≤ length l.bytes;
  prefix : g.K.Sink.tells → g.K.Sink.held l.sink ≡ g.K.Sink.held l.fn.sink ++ take l.given l.bytes;
  moment : g.K.Sink.tells → AreGivenAt (g.D.Devices.state l.fn.devices).moment (g.K.Sink.held l.fn.sink) (g.K.Sink.held l.sink) (g.K.Sink.given_at l.fn.sink) (g.K.Sink.given_at l.sink);
  still : g.K.Sink.faults l.sink ≡ g.K.Sink.faults l.fn.sink;
}

abbrev pub decreases-loop-given : goal.decreases-loop-given
decreases-loop-given g l = length l.bytes - l.given
