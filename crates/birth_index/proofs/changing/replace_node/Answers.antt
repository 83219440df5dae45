use Rattle.std.proofs.Common.{◌≡◌, List, Some, subst}
use Rattle.birth_index.specs.Births.{birth_of, levels_of, renamed}
use Rattle.birth_index.specs.ChangeLaws.{index-renamed}
use Rattle.birth_index.specs.PlaceLaws.{btree-there}
use Rattle.birth_index.proofs.Exchanging.{fresh_free, same_index}
use Rattle.std.specs.Prelude.{slice_set}
use Rattle.tree_nodes.specs.Levels.{Levels, with_node}
use Rattle.vol_types.specs.Btrees.{btree_code}
use Rattle.birth_index.proofs.changing.replace_node.Goals as goal

pub take_room-requires-clause-free : goal.take_room-requires-clause-free
take_room-requires-clause-free c =
    let has = subst (λ (ns : List Levels). birth_of ns c.args.name.now ≡ Some c.birth_at-gone.result) c.as_slice.ensures.value c.birth_at-gone.ensures in
    fresh_free c.args.births.now c.args.trees.now.items c.args.name.now c.birth_at-gone.result c.requires.index has c.args.fresh.birth c.requires.free

pub returns-clause-index : goal.returns-clause-index
returns-clause-index c =
    let nodes = c.args.trees.now.items in
    let name = c.args.name.now in
    let has = subst (λ (ns : List Levels). birth_of ns name ≡ Some c.birth_at-gone.result) c.as_slice.ensures.value c.birth_at-gone.ensures in
    same_index (renamed c.birth_at-gone.result name c.args.fresh.birth c.args.births.now) c.replace.new.self
    (slice_set nodes (btree_code name.btree) (with_node name.level name.greatest c.args.fresh (levels_of nodes name.btree))) c.replace_in-before.new.trees.items
    (c.replace.ensures c.args.births.now c.requires.index.rises c.in_ok-take_room.ensures.ok) c.replace_in-before.ensures.after
    (index-renamed c.args.births.now nodes name c.birth_at-gone.result c.requires.index (btree-there nodes name.btree name.level name.greatest c.requires.there) has c.args.fresh c.requires.free)
