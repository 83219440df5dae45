-- A status tells of what stands at the path, or why nothing does.
use Rattle.std.proofs.Common.{◌∙◌, sym}
use Rattle.fs_plan.proofs.Told.{status_given, status_refused}
use Rattle.path_plan.specs.LookLaws.{carried, seen_before}
use Rattle.path_plan.specs.PathLaws.{spot_is_reached}
use Rattle.fs_plan.proofs.status.stat_in.Goals as goal

pub returns-in-Ok-clause-reply : goal.returns-in-Ok-clause-reply
returns-in-Ok-clause-reply g c = carried c.status_at.result _ _
    (λ reply is keys read seen leaves joined counted drawn.
    let made = g.V.View.made in
    let a = c.args in
    let spot = c.in-Ok.spot in
    let names = c.as_slice.result.now in
    let before = seen_before keys (made c.reached_along.new.view) (made c.status_at.new.view) a.tree.now c.status_at.ensures.looks seen in
    let found = sym (c.in_ok-spot.ensures.found keys before) ∙ c.in-Ok.is in
    let reached = spot_is_reached keys a.path.now names spot found in
    let within = c.sound_ids_are_apart.ensures.subvolume keys a.path.now.sub spot.sub leaves reached.sub in
    is keys seen drawn joined within.leaf ∙ status_given keys read a.path.now names c.as_slice.ensures joined counted spot within found)
    c.status_at.ensures.reply

pub returns-in-Err-clause-reply : goal.returns-in-Err-clause-reply
returns-in-Err-clause-reply g c = λ keys read seen leaves joined counted drawn.
    status_refused keys read c.args.path.now c.as_slice.result.now c.as_slice.ensures c.in-Err.cause (sym (c.in_ok-spot.ensures.found keys seen) ∙ c.in-Err.is)
