-- A listing gives the names of the directory at the path, or why there is none.
use Rattle.std.proofs.Common.{◌∙◌, ap, sym, refl}
use Rattle.forest_ops.specs.Refusals.{result_map}
use Rattle.forest_ops.specs.declared.operation.Reply.TheVariants.{List as ListIs}
use Rattle.fs_plan.proofs.Listed.{listing_given, listing_refused}
use Rattle.path_plan.specs.LookLaws.{looks_then, seen_before}
use Rattle.path_plan.specs.PathLaws.{along_is, spot_is}
use Rattle.path_plan.specs.Looking.{directory_of}
use Rattle.key_meaning.specs.Forest.{forest_in}
use Rattle.fs_plan.proofs.listing.list_in.Goals as goal

pub returns-in_ok-names_of-in-Ok-clause-reply : goal.returns-in_ok-names_of-in-Ok-clause-reply
returns-in_ok-names_of-in-Ok-clause-reply g c = λ keys read seen leaves joined.
    let made = g.V.View.made in
    let a = c.args in
    let spot = c.in-Ok.spot in
    let names = c.as_slice.result.now in
    let before = seen_before keys (made c.directory_along.new.view) (made c.names_of.new.view) a.tree.now c.in_ok-names_of-in-Ok.ensures.looks seen in
    let found = sym (c.in_ok-spot.ensures.found keys before) ∙ c.in-Ok.is in
    let at = spot_is keys a.path.now names spot found in
    let live = (c.sound_ids_are_apart.ensures.subvolume keys a.path.now.sub spot.sub leaves at.sub).leaf in
    ap ListIs (c.in_ok-names_of-in-Ok.ensures.names keys read spot.sub seen joined live refl)
    ∙ listing_given a.path.now (forest_in keys read) names (directory_of keys read spot) c.as_slice.ensures (along_is keys read a.path.now names ∙ ap (result_map (directory_of keys read)) found)

pub returns-in-Err-clause-reply : goal.returns-in-Err-clause-reply
returns-in-Err-clause-reply g c = λ keys read seen leaves joined.
    let a = c.args in
    let names = c.as_slice.result.now in
    listing_refused a.path.now (forest_in keys read) names c.in-Err.cause c.as_slice.ensures (along_is keys read a.path.now names ∙ ap (result_map (directory_of keys read)) (sym (c.in_ok-spot.ensures.found keys seen) ∙ c.in-Err.is))

pub returns-in_err-names_of-in-Ok-clause-looks : goal.returns-in_err-names_of-in-Ok-clause-looks
returns-in_err-names_of-in-Ok-clause-looks g c =
    let made = g.V.View.made in
    looks_then (made c.args.view.now) (made c.directory_along.new.view) (made c.names_of.new.view) c.in_ok-spot.ensures.looks c.in_err-names_of-in-Ok.ensures.looks

pub returns-in_ok-names_of-in-Ok-clause-looks : goal.returns-in_ok-names_of-in-Ok-clause-looks
returns-in_ok-names_of-in-Ok-clause-looks g c =
    let made = g.V.View.made in
    looks_then (made c.args.view.now) (made c.directory_along.new.view) (made c.names_of.new.view) c.in_ok-spot.ensures.looks c.in_ok-names_of-in-Ok.ensures.looks
