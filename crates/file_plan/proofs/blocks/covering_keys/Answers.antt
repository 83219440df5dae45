use Rattle.std.proofs.Common.{◌∙◌, ap, length, subst, sym}
use Rattle.std.proofs.lemmas.List.Sums.{sum_by_push}
use Rattle.vol_types.specs.declared.queries.Look.{Look}
use Rattle.extent_ops.specs.Looking.{AreExtentsUpTo, reach}
use Rattle.file_plan.specs.Bounds.{keys_seen}
use Rattle.file_plan.proofs.Io.{carried}
use Rattle.file_plan.proofs.Looked.{last_look, may_look}
use Rattle.file_plan.proofs.blocks.covering_keys.Goals as goal

pub returns-clause-found : goal.returns-clause-found
returns-clause-found g c = carried c.find.result _ _
    (λ found made keys tree seen range. c.reached_keys_are_looked_at.ensures keys c.args.number c.args.first c.args.last c.longest-longest.result found range.each
    (subst (λ n. AreExtentsUpTo n keys) (c.find.ensures.longest ∙ sym c.longest-longest.ensures) seen.up_to)
    (last_look keys _ _ _ _ found made c.reach.ensures seen.is_seen.gives))
    c.find.ensures.ok

pub returns-clause-look : goal.returns-clause-look
returns-clause-look g c = may_look c.find.result c.reach.result _ _ _ (c.reach.ensures ∙ ap (reach c.args.number c.args.first c.args.last) c.longest-longest.ensures) c.find.ensures.ok c.find.ensures.err

pub returns-clause-seen : goal.returns-clause-seen
returns-clause-seen g c = carried c.find.result _ _
    (λ found made. ap keys_seen made ∙ sum_by_push (λ (look : Look). length look.answer) (g.V.View.made c.args.view.now) (record { query = c.reach.result; answer = found }))
    c.find.ensures.ok
