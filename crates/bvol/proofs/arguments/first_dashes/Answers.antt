use Rattle.std.proofs.Common.{Global, map, refl, ap, ◌∙◌, sym, arith}
use Rattle.std.proofs.lemmas.List.{drop_all, length-map}
use Rattle.std.specs.List.{position_from}
use Rattle.std.specs.Rc.{rc_str_bytes}
use Rattle.bvol.specs.Arguments.{is_dashes}
use Rattle.bvol.proofs.Searching.{found_here, not_here}
use Rattle.bvol.proofs.arguments.first_dashes.Goals as goal

pub loop-place-init : goal.loop-place-init
loop-place-init c = refl

pub returns-then-is_dashes-clause-place : goal.returns-then-is_dashes-clause-place
returns-then-is_dashes-clause-place c =
    sym (found_here (rc_str_bytes {Z = Global}) is_dashes c.args.args.now c.loop-place.place c.index-args-place.result c.loop-place-test.true c.index-args-place.is (sym c.is_dashes.ensures ∙ c.if-is_dashes.true))
    ∙ c.loop-place.invariant

pub loop-place-preserved : goal.loop-place-preserved
loop-place-preserved c =
    sym (not_here (rc_str_bytes {Z = Global}) is_dashes c.args.args.now c.loop-place.place c.index-args-place.result c.loop-place-test.true c.index-args-place.is (sym c.is_dashes.ensures ∙ c.if-is_dashes.false))
    ∙ c.loop-place.invariant

pub returns-clause-place : goal.returns-clause-place
returns-clause-place c =
    let all = map (rc_str_bytes {Z = Global}) c.args.args.now in
    ap (position_from is_dashes c.loop-place.place) (sym (drop_all c.loop-place.place all (omega (arith, length-map c.args.args.now (rc_str_bytes {Z = Global}), c.loop-place-test.false))))
    ∙ c.loop-place.invariant
