use Rattle.std.proofs.Common.{Ok, Err}
use Rattle.vol_session.proofs.ComposedWorks.{goes_here, goes_then}
use Rattle.vol_session.proofs.writeback.work_until_rest.Goals as goal

pub loop-stage-init : goal.loop-stage-init
loop-stage-init g c = goes_here c.args.client g.D.Devices.state c.args.session.now

pub loop-stage-preserved : goal.loop-stage-preserved
loop-stage-preserved g c =
    let client = c.args.client in
    let state = g.D.Devices.state in
    let first = c.args.session.now in
    let asked = c.next_stage-stage.new.session in
    goes_then client state (Ok tt) first asked c.make.new.session (goes_then client state (Ok tt) first c.loop-stage.session asked c.loop-stage.invariant c.next_stage-stage.ensures.goes) c.in_default.ensures.goes

pub returns-then-eq-clause-goes : goal.returns-then-eq-clause-goes
returns-then-eq-clause-goes g c =
    goes_then c.args.client g.D.Devices.state (Ok tt) c.args.session.now c.loop-stage.session c.next_stage-stage.new.session c.loop-stage.invariant c.next_stage-stage.ensures.goes

pub returns-in-Err-clause-goes : goal.returns-in-Err-clause-goes
returns-in-Err-clause-goes g c =
    let client = c.args.client in
    let state = g.D.Devices.state in
    let first = c.args.session.now in
    let asked = c.next_stage-stage.new.session in
    let so_far = goes_then client state (Ok tt) first c.loop-stage.session asked c.loop-stage.invariant c.next_stage-stage.ensures.goes in
    goes_then client state (Err c.in-Err.end) first asked c.make.new.session so_far c.in-Err.ensures.goes
