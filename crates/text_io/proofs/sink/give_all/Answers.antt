use Rattle.std.proofs.Common.{◌≡◌, ◌≤◌, ℕ, List, ◌++◌, length, take, length-append, ap, ◌∙◌, arith, length-take, length-drop}
use Rattle.text_io.specs.StreamLaws.{given_then}
use Rattle.text_io.proofs.Lists.{prefix_grows}
use Rattle.text_io.proofs.sink.give_all.Goals as goal

-- what is a list and more is no shorter
longer : (old new more : List ℕ) → new ≡ old ++ more → length old ≤ length new
longer old new more is = omega (arith, ap length is, length-append old more)

pub loop-given-preserved : goal.loop-given-preserved
loop-given-preserved g c =
    let old = g.K.Sink.held c.args.sink.now in
    let held = g.K.Sink.held c.loop-given.sink in
    let new = g.K.Sink.held c.give.new.self in
    record {
      within = omega (arith, simp (length-take, length-drop) at c.in_ok-given.ensures.count);
      prefix = λ told. prefix_grows old held new c.args.bytes.now c.loop-given.given c.in_ok-given.field-0 (c.loop-given.invariant.prefix told) (c.in_ok-given.ensures.bytes told);
      moment = λ told.
          given_then (g.D.Devices.state c.args.devices.now).moment old held new (g.K.Sink.given_at c.args.sink.now) (g.K.Sink.given_at c.loop-given.sink) (g.K.Sink.given_at c.give.new.self)
          (longer old held (take c.loop-given.given c.args.bytes.now) (c.loop-given.invariant.prefix told))
          (longer held new _ (c.in_ok-given.ensures.bytes told))
          (c.loop-given.invariant.moment told) (c.give.ensures.moment told);
      still = c.in_ok-given.ensures.cause.still ∙ c.loop-given.invariant.still;
    }
