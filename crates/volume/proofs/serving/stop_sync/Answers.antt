use Rattle.std.proofs.Common.{inr, refl, subst, sym}
use Rattle.forest_ops.specs.declared.operation.Reply.TheVariants.{DeviceFault, Halted, Spent}
use Rattle.vol_session.specs.declared.writeback_end.WritebackEnd.{WritebackEnd}
use Rattle.volume.specs.Serving.{TellsSync}
use Rattle.volume.proofs.Replying.{failure_commits_nothing, sync_fails}
use Rattle.volume.proofs.Served.{told_entered}
use Rattle.volume.proofs.serving.stop_sync.Goals as goal

pub tell-requires-clause-no_commit : goal.tell-requires-clause-no_commit
tell-requires-clause-no_commit g c = failure_commits_nothing c.args.op (DeviceFault c.in-DeviceFault.dev) (sync_fails c.args.session.now.core.memory c.args.client c.args.op (DeviceFault c.in-DeviceFault.dev) c.requires.syncs refl).may

pub tell-requires-clause-told : goal.tell-requires-clause-told
tell-requires-clause-told g c = inr (sync_fails c.args.session.now.core.memory c.args.client c.args.op (DeviceFault c.in-DeviceFault.dev) c.requires.syncs refl)

pub returns-in-DeviceFault-clause-tells : goal.returns-in-DeviceFault-clause-tells
returns-in-DeviceFault-clause-tells g c = subst (λ (stop : WritebackEnd). TellsSync stop (DeviceFault c.in-DeviceFault.dev)) (sym c.in-DeviceFault.is) refl

pub returns-in-DeviceFault-clause-entered : goal.returns-in-DeviceFault-clause-entered
returns-in-DeviceFault-clause-entered g c = told_entered g.O.Opening.found g.D.Devices.state c.args.client c.args.op (DeviceFault c.in-DeviceFault.dev) c.args.session.now c.tell.new.self c.requires.rest c.tell.ensures

pub tell-requires-in-Halted-clause-no_commit : goal.tell-requires-in-Halted-clause-no_commit
tell-requires-in-Halted-clause-no_commit g c = failure_commits_nothing c.args.op (Halted c.in-Halted.halt.dev c.in-Halted.halt.tick) (sync_fails c.args.session.now.core.memory c.args.client c.args.op (Halted c.in-Halted.halt.dev c.in-Halted.halt.tick) c.requires.syncs refl).may

pub tell-requires-in-Halted-clause-told : goal.tell-requires-in-Halted-clause-told
tell-requires-in-Halted-clause-told g c = inr (sync_fails c.args.session.now.core.memory c.args.client c.args.op (Halted c.in-Halted.halt.dev c.in-Halted.halt.tick) c.requires.syncs refl)

pub returns-in-Halted-clause-tells : goal.returns-in-Halted-clause-tells
returns-in-Halted-clause-tells g c = subst (λ (stop : WritebackEnd). TellsSync stop (Halted c.in-Halted.halt.dev c.in-Halted.halt.tick)) (sym c.in-Halted.is) refl

pub returns-in-Halted-clause-entered : goal.returns-in-Halted-clause-entered
returns-in-Halted-clause-entered g c = told_entered g.O.Opening.found g.D.Devices.state c.args.client c.args.op (Halted c.in-Halted.halt.dev c.in-Halted.halt.tick) c.args.session.now c.tell-in-Halted.new.self c.requires.rest c.tell-in-Halted.ensures

pub tell-requires-in-Spent-clause-no_commit : goal.tell-requires-in-Spent-clause-no_commit
tell-requires-in-Spent-clause-no_commit g c = failure_commits_nothing c.args.op Spent (sync_fails c.args.session.now.core.memory c.args.client c.args.op Spent c.requires.syncs refl).may

pub tell-requires-in-Spent-clause-told : goal.tell-requires-in-Spent-clause-told
tell-requires-in-Spent-clause-told g c = inr (sync_fails c.args.session.now.core.memory c.args.client c.args.op Spent c.requires.syncs refl)

pub returns-in-Spent-clause-tells : goal.returns-in-Spent-clause-tells
returns-in-Spent-clause-tells g c = subst (λ (stop : WritebackEnd). TellsSync stop Spent) (sym c.in-Spent.is) refl

pub returns-in-Spent-clause-entered : goal.returns-in-Spent-clause-entered
returns-in-Spent-clause-entered g c = told_entered g.O.Opening.found g.D.Devices.state c.args.client c.args.op Spent c.args.session.now c.tell-in-Spent.new.self c.requires.rest c.tell-in-Spent.ensures

pub tell-requires-in-Foreign-clause-no_commit : goal.tell-requires-in-Foreign-clause-no_commit
tell-requires-in-Foreign-clause-no_commit g c = failure_commits_nothing c.args.op Spent (sync_fails c.args.session.now.core.memory c.args.client c.args.op Spent c.requires.syncs refl).may

pub tell-requires-in-Foreign-clause-told : goal.tell-requires-in-Foreign-clause-told
tell-requires-in-Foreign-clause-told g c = inr (sync_fails c.args.session.now.core.memory c.args.client c.args.op Spent c.requires.syncs refl)

pub returns-in-Foreign-clause-tells : goal.returns-in-Foreign-clause-tells
returns-in-Foreign-clause-tells g c = subst (λ (stop : WritebackEnd). TellsSync stop Spent) (sym c.in-Foreign.is) refl

pub returns-in-Foreign-clause-entered : goal.returns-in-Foreign-clause-entered
returns-in-Foreign-clause-entered g c = told_entered g.O.Opening.found g.D.Devices.state c.args.client c.args.op Spent c.args.session.now c.tell-in-Foreign.new.self c.requires.rest c.tell-in-Foreign.ensures

pub tell-requires-clause-unsynced : goal.tell-requires-clause-unsynced
tell-requires-clause-unsynced g c = refl

pub tell-requires-clause-planned : goal.tell-requires-clause-planned
tell-requires-clause-planned g c = c.requires.planned

pub tell-requires-in-Halted-clause-unsynced : goal.tell-requires-in-Halted-clause-unsynced
tell-requires-in-Halted-clause-unsynced g c = refl

pub tell-requires-in-Halted-clause-planned : goal.tell-requires-in-Halted-clause-planned
tell-requires-in-Halted-clause-planned g c = c.requires.planned

pub tell-requires-in-Spent-clause-unsynced : goal.tell-requires-in-Spent-clause-unsynced
tell-requires-in-Spent-clause-unsynced g c = refl

pub tell-requires-in-Spent-clause-planned : goal.tell-requires-in-Spent-clause-planned
tell-requires-in-Spent-clause-planned g c = c.requires.planned

pub tell-requires-in-Foreign-clause-unsynced : goal.tell-requires-in-Foreign-clause-unsynced
tell-requires-in-Foreign-clause-unsynced g c = refl

pub tell-requires-in-Foreign-clause-planned : goal.tell-requires-in-Foreign-clause-planned
tell-requires-in-Foreign-clause-planned g c = c.requires.planned

pub returns-in-NoMemory-clause-none : goal.returns-in-NoMemory-clause-none
returns-in-NoMemory-clause-none g c = c.in-NoMemory.is

pub returns-in-NoMemory-clause-same : goal.returns-in-NoMemory-clause-same
returns-in-NoMemory-clause-same g c = refl
