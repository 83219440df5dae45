use Rattle.std.proofs.Common.{sym, subst, OnOk, ◌<◌}
use Rattle.std.specs.Prelude.{IfErr}
use Rattle.vol_session.specs.Left.{works_left}
use Rattle.vol_session.specs.Rounds.{Goes}
use Rattle.vol_session.specs.Writeback.{MayStopSync}
use Rattle.vol_session.proofs.JournalStops.{journal_stops}
use Rattle.vol_session.proofs.StageProgress.{goes_so, less_left, made_so}
use Rattle.vol_session.proofs.rounds.make_event.Goals as goal

pub returns-clause-goes : goal.returns-clause-goes
returns-clause-goes g c =
    let state = g.D.Devices.state in
    let step = c.step-answer.ensures in
    let old = c.args.session.now in
    let new = c.step-answer.new.self in
    let made = made_so c.args.client c.requires.fits.there g.D.Devices.tells state old.core new.core c.see.ensures step.goes_on c.args.event c.step-answer.result c.requires.due step.gives in
    subst (λ r. Goes c.args.client state r old new) (sym c.outcome_of.ensures) (goes_so c.args.client state old new c.step-answer.result made step.rest step.cause step.device step.goes_on)

pub returns-clause-left : goal.returns-clause-left
returns-clause-left g c =
    let state = g.D.Devices.state in
    let step = c.step-answer.ensures in
    let old = c.args.session.now in
    let new = c.step-answer.new.self in
    let made = made_so c.args.client c.requires.fits.there g.D.Devices.tells state old.core new.core c.see.ensures step.goes_on c.args.event c.step-answer.result c.requires.due step.gives in
    subst (λ r. OnOk r (works_left new.core.memory.volume < works_left old.core.memory.volume)) (sym c.outcome_of.ensures)
    (less_left c.args.client g.D.Devices.tells state old.core new.core c.see.ensures c.see-2.ensures c.args.event c.step-answer.result made.of c.requires.due step.gives)

pub returns-clause-journal : goal.returns-clause-journal
returns-clause-journal g c = λ of.
    subst (λ r. IfErr r MayStopSync) (sym c.outcome_of.ensures)
    (journal_stops c.args.client g.D.Devices.tells g.D.Devices.state c.args.session.now.core c.step-answer.new.self.core c.args.event c.step-answer.result of c.step-answer.ensures.gives)
