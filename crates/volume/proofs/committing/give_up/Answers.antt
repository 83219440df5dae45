use Rattle.std.proofs.Common.{refl, subst, sym}
use Rattle.std.specs.Prelude.{IfOk}
use Rattle.vol_session.specs.declared.writeback_end.WritebackEnd.{WritebackEnd}
use Rattle.volume.specs.Serving.{TellsStop}
use Rattle.forest_ops.specs.declared.operation.Reply.TheVariants.{DeviceFault}
use Rattle.volume.proofs.Replying.{change_changes, change_fails, intended_is_done}
use Rattle.volume.proofs.committing.give_up.Goals as goal

pub fail-requires-clause-failure : goal.fail-requires-clause-failure
fail-requires-clause-failure g c =
    let memory = c.args.session.now.core.memory in
    let has = c.requires.intended in
    change_fails memory c.args.client c.args.op (DeviceFault c.in-DeviceFault.dev) (change_changes c.args.op has.reply has.intended.change) refl (intended_is_done memory c.args.client c.args.op has.reply has.intended)

pub fail_halted-requires-clause-changes : goal.fail_halted-requires-clause-changes
fail_halted-requires-clause-changes g c = change_changes c.args.op c.requires.intended.reply c.requires.intended.intended.change

pub fail_halted-requires-clause-done : goal.fail_halted-requires-clause-done
fail_halted-requires-clause-done g c = intended_is_done c.args.session.now.core.memory c.args.client c.args.op c.requires.intended.reply c.requires.intended.intended

pub fail_spent-requires-clause-changes : goal.fail_spent-requires-clause-changes
fail_spent-requires-clause-changes g c = change_changes c.args.op c.requires.intended.reply c.requires.intended.intended.change

pub fail_spent-requires-clause-done : goal.fail_spent-requires-clause-done
fail_spent-requires-clause-done g c = intended_is_done c.args.session.now.core.memory c.args.client c.args.op c.requires.intended.reply c.requires.intended.intended

pub lack-requires-clause-changes : goal.lack-requires-clause-changes
lack-requires-clause-changes g c = change_changes c.args.op c.requires.intended.reply c.requires.intended.intended.change

pub lack-requires-clause-done : goal.lack-requires-clause-done
lack-requires-clause-done g c = intended_is_done c.args.session.now.core.memory c.args.client c.args.op c.requires.intended.reply c.requires.intended.intended

pub lack-requires-in-Foreign-clause-changes : goal.lack-requires-in-Foreign-clause-changes
lack-requires-in-Foreign-clause-changes g c = change_changes c.args.op c.requires.intended.reply c.requires.intended.intended.change

pub lack-requires-in-Foreign-clause-done : goal.lack-requires-in-Foreign-clause-done
lack-requires-in-Foreign-clause-done g c = intended_is_done c.args.session.now.core.memory c.args.client c.args.op c.requires.intended.reply c.requires.intended.intended

pub fail-requires-clause-under : goal.fail-requires-clause-under
fail-requires-clause-under g c = c.requires.intended.intended.under

pub fail-requires-clause-planned : goal.fail-requires-clause-planned
fail-requires-clause-planned g c = c.requires.intended.intended.change.planned

pub fail_halted-requires-clause-under : goal.fail_halted-requires-clause-under
fail_halted-requires-clause-under g c = c.requires.intended.intended.under

pub fail_halted-requires-clause-planned : goal.fail_halted-requires-clause-planned
fail_halted-requires-clause-planned g c = c.requires.intended.intended.change.planned

pub fail_spent-requires-clause-under : goal.fail_spent-requires-clause-under
fail_spent-requires-clause-under g c = c.requires.intended.intended.under

pub fail_spent-requires-clause-planned : goal.fail_spent-requires-clause-planned
fail_spent-requires-clause-planned g c = c.requires.intended.intended.change.planned

pub lack-requires-clause-under : goal.lack-requires-clause-under
lack-requires-clause-under g c = c.requires.intended.intended.under

pub lack-requires-clause-planned : goal.lack-requires-clause-planned
lack-requires-clause-planned g c = c.requires.intended.intended.change.planned

pub lack-requires-in-Foreign-clause-under : goal.lack-requires-in-Foreign-clause-under
lack-requires-in-Foreign-clause-under g c = c.requires.intended.intended.under

pub lack-requires-in-Foreign-clause-planned : goal.lack-requires-in-Foreign-clause-planned
lack-requires-in-Foreign-clause-planned g c = c.requires.intended.intended.change.planned

pub returns-in-Halted-clause-tells : goal.returns-in-Halted-clause-tells
returns-in-Halted-clause-tells g c = subst (λ (stop : WritebackEnd). TellsStop stop c.fail_halted.result) (sym c.in-Halted.is) c.fail_halted.ensures.reply

pub returns-in-Spent-clause-tells : goal.returns-in-Spent-clause-tells
returns-in-Spent-clause-tells g c = subst (λ (stop : WritebackEnd). TellsStop stop c.fail_spent.result) (sym c.in-Spent.is) c.fail_spent.ensures.reply

pub returns-in-DeviceFault-clause-tells : goal.returns-in-DeviceFault-clause-tells
returns-in-DeviceFault-clause-tells g c = subst (λ (stop : WritebackEnd). TellsStop stop (DeviceFault c.in-DeviceFault.dev)) (sym c.in-DeviceFault.is) refl

pub returns-in-NoSpace-clause-tells : goal.returns-in-NoSpace-clause-tells
returns-in-NoSpace-clause-tells g c = subst (λ (stop : WritebackEnd). IfOk c.lack.result (TellsStop stop)) (sym c.in-NoSpace.is) c.lack.ensures.reply
