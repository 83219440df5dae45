-- The refusals in their order, and then the new inode.
use Rattle.std.proofs.Common.{◌∙◌, ap, sym}
use Rattle.std.specs.Option.{ok_or}
use Rattle.forest_ops.specs.Refusals.{◌>>=◌, refused_if}
use Rattle.forest_ops.specs.declared.operation.Cause.TheVariants.{Exists, ReadOnly}
use Rattle.name_plan.proofs.GoodNames.{good_is_name, last_is_good}
use Rattle.name_plan.proofs.Results.{carried_made}
use Rattle.name_plan.specs.New.{inode_made, made_in}
use Rattle.path_plan.specs.LookLaws.{carried, seen_before}
use Rattle.path_plan.specs.Looking.{spot_along}
use Rattle.path_plan.specs.PathLaws.{spot_is}
use Rattle.plain_forest.specs.Names.{last_name, parent_names}
use Rattle.vol_digest.specs.Digests.{slot_of}
use Rattle.vol_types.specs.declared.positions.Btree.TheVariants.{Dirents}
use Rattle.name_plan.proofs.making.make_in.Goals as goal

pub returns-in-Err-clause-made : goal.returns-in-Err-clause-made
returns-in-Err-clause-made g c = λ keys seen.
    let path = c.args.path.now in
    ap (λ r. r >>= made_in c.args.kind keys c.args.client path) (sym c.in-Err.is ∙ c.in_ok-spot.ensures.found keys seen ∙ ap (spot_along keys path) c.parents.ensures)

pub returns-then-spot-clause-made : goal.returns-then-spot-clause-made
returns-then-spot-clause-made g c = λ keys seen.
    let path = c.args.path.now in
    let spot = c.in-Ok.spot in
    ap (λ b. refused_if b ReadOnly >>= (λ _. ok_or (last_name path) Exists >>= (λ name. inode_made c.args.kind keys c.args.client spot.sub.id spot.number name))) (sym c.if-spot.true)
    ∙ ap (λ r. r >>= made_in c.args.kind keys c.args.client path) (sym c.in-Ok.is ∙ c.in_ok-spot.ensures.found keys seen ∙ ap (spot_along keys path) c.parents.ensures)

pub returns-in_default-clause-made : goal.returns-in_default-clause-made
returns-in_default-clause-made g c = λ keys seen.
    let path = c.args.path.now in
    let spot = c.in-Ok.spot in
    ap (λ o. ok_or o Exists >>= (λ name. inode_made c.args.kind keys c.args.client spot.sub.id spot.number name)) c.in_default.ensures
    ∙ ap (λ b. refused_if b ReadOnly >>= (λ _. ok_or (last_name path) Exists >>= (λ name. inode_made c.args.kind keys c.args.client spot.sub.id spot.number name))) (sym c.if-spot.false)
    ∙ ap (λ r. r >>= made_in c.args.kind keys c.args.client path) (sym c.in-Ok.is ∙ c.in_ok-spot.ensures.found keys seen ∙ ap (spot_along keys path) c.parents.ensures)

pub returns-clause-made : goal.returns-clause-made
returns-clause-made g c = carried c.new_under.result _ _
    (λ result is keys seen.
    let path = c.args.path.now in
    let spot = c.in-Ok.spot in
    let before = seen_before keys (g.V.View.made c.directory_along.new.view) (g.V.View.made c.new_under.new.view) c.args.tree.now c.new_under.ensures.looks seen in
    is keys seen
    ∙ ap (λ o. ok_or o Exists >>= (λ name. inode_made c.args.kind keys c.args.client spot.sub.id spot.number name)) c.in-Some.ensures
    ∙ ap (λ b. refused_if b ReadOnly >>= (λ _. ok_or (last_name path) Exists >>= (λ name. inode_made c.args.kind keys c.args.client spot.sub.id spot.number name))) (sym c.if-spot.false)
    ∙ ap (λ r. r >>= made_in c.args.kind keys c.args.client path) (sym c.in-Ok.is ∙ c.in_ok-spot.ensures.found keys before ∙ ap (spot_along keys path) c.parents.ensures))
    c.new_under.ensures.made

pub returns-clause-fits : goal.returns-clause-fits
returns-clause-fits g c = carried_made c.new_under.result _ _
    (λ updates has keys seen tidy.
    let path = c.args.path.now in
    let spot = c.in-Ok.spot in
    let name = c.in-Some.name.now in
    let before = seen_before keys (g.V.View.made c.directory_along.new.view) (g.V.View.made c.new_under.new.view) c.args.tree.now c.new_under.ensures.looks seen in
    let at = spot_is keys path (parent_names path) spot (sym (sym c.in-Ok.is ∙ c.in_ok-spot.ensures.found keys before ∙ ap (spot_along keys path) c.parents.ensures)) in
    has (good_is_name name (last_is_good path name at.good (sym c.in-Some.ensures))) keys seen (c.sound_names_are_refused_alike.ensures.in_range keys tidy.drawn Dirents spot.number (slot_of name) spot.sub.id))
    c.new_under.ensures.fits
