use Rattle.std.proofs.Common.{inl, sym, ◌∙◌}
use Rattle.volume.proofs.Replying.{forests_is_quiet, plan_answers}
use Rattle.volume.proofs.serving.tell.Goals as goal

pub tell-requires-clause-no_commit : goal.tell-requires-clause-no_commit
tell-requires-clause-no_commit g c = λ forest. sym (c.requires.class.commits forest) ∙ c.requires.no_commit

pub tell-requires-clause-unsynced : goal.tell-requires-clause-unsynced
tell-requires-clause-unsynced g c = (forests_is_quiet c.args.plan.reply c.requires.class.unfailed c.requires.unsynced).unsynced

pub tell-requires-clause-told : goal.tell-requires-clause-told
tell-requires-clause-told g c = inl (plan_answers c.args.session.now.core.memory c.args.client c.args.plan c.requires.class c.requires.now)
