use Rattle.std.proofs.Common.{◌≡◌, ◌<◌, ◌∙◌, None, IfSome, ℕ, ap, sym, subst}
use Rattle.std.proofs.lemmas.Option.{none-some}
use Rattle.geometry.specs.Faults.{fault_device}
use Rattle.geometry.specs.declared.fault.DiskFault.{DiskFault}
use Rattle.geometry.specs.declared.fault.DiskFault.TheVariants.{DeviceFault}
use Rattle.journal_writer.specs.Writers.{Writer}
use Rattle.journal_writer.specs.Writes.{WritesPart}
use Rattle.journal_writer.proofs.writer.EntryWriter.write_part.Goals as goal

pub returns-in-Ok-clause-writes : goal.returns-in-Ok-clause-writes
returns-in-Ok-clause-writes g c =
    subst (λ (w : Writer). WritesPart g.D.Devices.tells w.ring None (g.D.Devices.state c.args.devices.now) (g.D.Devices.state c.write_part.new.devices)) c.self.view_is (record {
      crashes = c.in-Ok.ensures.crashes;
      written = λ tells none. c.in-Ok.ensures.written tells;
      elsewhere = c.in-Ok.ensures.elsewhere;
      held = λ tells before none. c.in-Ok.ensures.held tells before;
      asks = c.in-Ok.ensures.asks;
      goes_on = c.in-Ok.ensures.goes_on;
      cause = c.in-Ok.ensures.cause;
      device = tt;
    })

-- A fault that names a device isn't none.
named_is_some : (fault : DiskFault) (dev : ℕ) → fault ≡ DeviceFault dev → fault_device fault ≡ None → ⊥
named_is_some fault dev is none = none-some dev (sym none ∙ ap fault_device is)

pub returns-in-Err-clause-writes : goal.returns-in-Err-clause-writes
returns-in-Err-clause-writes g c =
    let named = c.in-Err.ensures.device in
    subst (λ (w : Writer). WritesPart g.D.Devices.tells w.ring (fault_device c.in-Err.fault) (g.D.Devices.state c.args.devices.now) (g.D.Devices.state c.write_part.new.devices)) c.self.view_is (record {
      crashes = c.in-Err.ensures.crashes;
      written = λ tells none. absurd (named_is_some c.in-Err.fault named.0 named.2 none);
      elsewhere = c.in-Err.ensures.elsewhere;
      held = λ tells before none. absurd (named_is_some c.in-Err.fault named.0 named.2 none);
      asks = c.in-Err.ensures.asks;
      goes_on = c.in-Err.ensures.goes_on;
      cause = c.in-Err.ensures.cause;
      device = subst (λ (fault : DiskFault). IfSome (fault_device fault) (λ dev. dev < c.self.inside.ring.mirrors)) (sym named.2) named.1;
    })
