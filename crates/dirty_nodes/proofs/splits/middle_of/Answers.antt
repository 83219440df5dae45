use Rattle.std.proofs.Common.{sym, ap, ◌∙◌}
use Rattle.std.specs.Prelude.{is_some}
use Rattle.std.proofs.lemmas.Bool.{true≢false}
use Rattle.dirty_nodes.proofs.Splitting.{large_has_two}
use Rattle.dirty_nodes.proofs.splits.middle_of.Goals as goal

pub unreachable-requires : goal.unreachable-requires
unreachable-requires c =
    let node = c.args.leaf.now in
    true≢false (sym (c.middles_halve.ensures.two node.entries (large_has_two node c.len.ensures.sound c.requires)) ∙ ap is_some (sym c.middle.ensures ∙ c.in-None.is))
