-- What is given where the tree was told is seen with it.
use Rattle.std.proofs.Common.{◌∙◌, ap, sym, Some}
use Rattle.path_plan.specs.LookLaws.{carried, given_is_seen}
use Rattle.fs_plan.proofs.syncing.sync_at.Goals as goal

pub returns-clause-reply : goal.returns-clause-reply
returns-clause-reply g c = carried c.sync_in.result _ _
    (λ reply holds keys read given. holds keys read
    (given_is_seen keys (g.V.View.made c.sync_in.new.view) (g.V.View.told c.sync_in.new.view) c.deref.result.now (c.sync_in.ensures.ids ∙ c.in_ok-tree.ensures.ok ∙ ap Some (sym c.deref.ensures)) given))
    c.sync_in.ensures.reply
