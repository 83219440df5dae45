use Rattle.std.proofs.Common.{sym, ◌∙◌}
use Rattle.dirty_nodes.proofs.Records.{records_are_ids}
use Rattle.dirty_nodes.proofs.ids.tree_of.Goals as goal

pub of-requires : goal.of-requires
of-requires c =
    records_are_ids c.args.snaps.entries c.in_ok-keys.keys c.requires (sym c.are_id_places.ensures ∙ c.if-not-are_id_places.false) c.in_ok-keys.ensures
