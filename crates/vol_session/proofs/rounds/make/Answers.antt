use Rattle.std.proofs.Common.{sym, ◌∙◌}
use Rattle.vol_session.proofs.JournalStops.{journal_event}
use Rattle.vol_session.proofs.StageProgress.{may_make}
use Rattle.vol_session.proofs.rounds.make.Goals as goal

pub make_event-requires-clause-fits : goal.make_event-requires-clause-fits
make_event-requires-clause-fits g c = (may_make c.args.client c.requires.there c.args.session.now.core.memory c.see.ensures c.args.stage c.in-Some.event c.requires.next (sym c.event_of.ensures ∙ c.in-Some.is)).fits

pub make_event-requires-clause-due : goal.make_event-requires-clause-due
make_event-requires-clause-due g c = (may_make c.args.client c.requires.there c.args.session.now.core.memory c.see.ensures c.args.stage c.in-Some.event c.requires.next (sym c.event_of.ensures ∙ c.in-Some.is)).due

pub returns-clause-journal : goal.returns-clause-journal
returns-clause-journal g c = λ is. c.make_event.ensures.journal (journal_event c.args.session.now.core.memory.volume c.args.stage c.in-Some.event is (sym c.event_of.ensures ∙ c.in-Some.is))
