use Rattle.std.proofs.Common.{◌∙◌, List, subst, sym}
use Rattle.std.specs.Map.{keys_of}
use Rattle.std.proofs.lemmas.Bool.{false≢true}
use Rattle.vol_types.specs.PositionLaws.{pos_total}
use Rattle.vol_types.specs.Positions.{pos_cmp}
use Rattle.vol_types.specs.Ranges.{Rise}
use Rattle.vol_types.specs.Rising.{Rise-from_sorted, sorted-from_Rise}
use Rattle.vol_types.specs.declared.positions.Pos.{Pos}
use Rattle.vol_types.specs.declared.pointers.NodePtr.{NodePtr}
use Rattle.replay.proofs.btrees.level_nodes.Goals as goal

pub returns-then-not-do_rise-clause-err : goal.returns-then-not-do_rise-clause-err
returns-then-not-do_rise-clause-err c same is =
    false≢true (sym c.if-not-do_rise.true ∙ c.do_rise.ensures.1 (subst (λ (pairs : List (Pos × NodePtr)). Rise pos_cmp (keys_of pairs)) (sym c.as_slice.ensures) (Rise-from_sorted pos_cmp (keys_of c.args.level) is)))

pub rising_level-requires : goal.rising_level-requires
rising_level-requires c =
    sorted-from_Rise pos_cmp pos_total (keys_of c.args.level) (subst (λ (pairs : List (Pos × NodePtr)). Rise pos_cmp (keys_of pairs)) c.as_slice.ensures (c.do_rise.ensures.0 c.if-not-do_rise.false))
