-- The directory in which the path ends, and then its last name.
use Rattle.std.proofs.Common.{◌∙◌, ap, sym}
use Rattle.forest_ops.specs.Refusals.{◌>>=◌}
use Rattle.name_plan.proofs.Results.{carried_made}
use Rattle.name_plan.specs.Gone.{last_unlinked, name_unlinked}
use Rattle.path_plan.specs.LookLaws.{carried, seen_before}
use Rattle.path_plan.specs.Looking.{spot_along}
use Rattle.vol_digest.specs.Digests.{slot_of}
use Rattle.vol_types.specs.declared.positions.Btree.TheVariants.{Dirents, Inodes}
use Rattle.name_plan.proofs.unlinking.unlink_in.Goals as goal

pub returns-clause-made : goal.returns-clause-made
returns-clause-made g c = carried c.unlink_name-planned.result _ _
    (λ result is keys seen.
    let path = c.args.path.now in
    let name = c.in-Some.name.now in
    let before = seen_before keys (g.V.View.made c.directory_along.new.view) (g.V.View.made c.unlink_name-planned.new.view) c.args.tree.now c.unlink_name-planned.ensures.looks seen in
    is keys seen
    ∙ ap (λ r. r >>= name_unlinked keys name) (sym c.in-Ok.is ∙ c.in_ok-spot.ensures.found keys before ∙ ap (spot_along keys path) c.parents.ensures)
    ∙ ap (last_unlinked keys path) c.in-Some.ensures)
    c.unlink_name-planned.ensures.made

pub returns-clause-fits : goal.returns-clause-fits
returns-clause-fits g c = carried_made c.unlink_name-planned.result _ _
    (λ updates has keys seen tidy.
    let spot = c.in-Ok.spot in
    let in_range = c.sound_names_are_refused_alike.ensures.in_range keys tidy.drawn in
    has keys seen (in_range Dirents spot.number (slot_of c.in-Some.name.now) spot.sub.id) (λ number. in_range Inodes 0 number spot.sub.id))
    c.unlink_name-planned.ensures.fits
