-- So large a leaf has a middle position.
use Rattle.std.proofs.Common.{sym, ap, ◌∙◌}
use Rattle.std.specs.Prelude.{is_some}
use Rattle.std.proofs.lemmas.Bool.{true≢false}
use Rattle.node_writeback.proofs.Sets.{large_has_two}
use Rattle.node_writeback.proofs.freezing.split_of.Goals as goal

pub unreachable-requires : goal.unreachable-requires
unreachable-requires c =
    let node = c.args.leaf.now in
    true≢false (sym (c.middles_halve.ensures.two node.entries (large_has_two node c.size-size.ensures.sound c.requires)) ∙ ap is_some (sym c.middle.ensures ∙ c.in_default.is))
