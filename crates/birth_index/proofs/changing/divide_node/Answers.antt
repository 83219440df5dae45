use Rattle.std.proofs.Common.{◌≡◌, ◌<◌, List, Some, length, subst}
use Rattle.birth_index.specs.Births.{birth_of, levels_of}
use Rattle.birth_index.specs.PlaceLaws.{btree-there}
use Rattle.birth_index.proofs.Exchanging.{gone_there, halves_found, halves_free, same_index}
use Rattle.tree_nodes.specs.Levels.{IsTree, Levels}
use Rattle.vol_types.specs.Btrees.{btree_code}
use Rattle.birth_index.proofs.changing.divide_node.Goals as goal

pub take_room-requires-clause-free : goal.take_room-requires-clause-free
take_room-requires-clause-free c =
    let has = subst (λ (ns : List Levels). birth_of ns c.args.name.now ≡ Some c.birth_at-gone.result) c.as_slice.ensures.value c.birth_at-gone.ensures in
    halves_free c.args.births.now c.args.trees.now.items c.args.name.now c.birth_at-gone.result c.requires.index has c.args.at.now c.args.first.birth c.args.second.birth c.halves-news.result c.halves-news.ensures c.requires.births.first c.requires.births.second

pub give_room_back-requires : goal.give_room_back-requires
give_room_back-requires c =
    let has = subst (λ (ns : List Levels). birth_of ns c.args.name.now ≡ Some c.birth_at-gone.result) c.as_slice.ensures.value c.birth_at-gone.ensures in
    gone_there c.args.births.now c.args.trees.now.items c.args.name.now c.birth_at-gone.result c.requires.index has c.halves-news.result c.take_room.new.self c.in_ok-take_room.ensures.ok

pub returns-in-Ok-clause-index : goal.returns-in-Ok-clause-index
returns-in-Ok-clause-index c =
    let nodes = c.args.trees.now.items in
    let name = c.args.name.now in
    let has = subst (λ (ns : List Levels). birth_of ns name ≡ Some c.birth_at-gone.result) c.as_slice.ensures.value c.birth_at-gone.ensures in
    let there = btree-there nodes name.btree name.level name.greatest c.requires.covered.there in
    let tree = subst (λ (ns : List Levels). btree_code name.btree < length ns → IsTree (levels_of ns name.btree)) c.as_slice-2.ensures.value c.see_tree.ensures there in
    halves_found c.args.births.now nodes name c.birth_at-gone.result c.args.at.now c.args.first c.args.second c.requires.index has there tree c.requires.fits c.requires.covered c.requires.before c.requires.births.first c.requires.births.second c.requires.births.apart
    c.halves-news.result c.replace.new.self c.divide_in.new.trees.items c.halves-news.ensures (c.replace.ensures c.args.births.now c.requires.index.rises c.in_ok-take_room.ensures.ok) c.in-Ok.ensures.ok

pub returns-in-Err-clause-index : goal.returns-in-Err-clause-index
returns-in-Err-clause-index c =
    let nodes = c.args.trees.now.items in
    let name = c.args.name.now in
    let has = subst (λ (ns : List Levels). birth_of ns name ≡ Some c.birth_at-gone.result) c.as_slice.ensures.value c.birth_at-gone.ensures in
    let free = halves_free c.args.births.now nodes name c.birth_at-gone.result c.requires.index has c.args.at.now c.args.first.birth c.args.second.birth c.halves-news.result c.halves-news.ensures c.requires.births.first c.requires.births.second in
    same_index c.args.births.now c.give_room_back.new.self nodes c.divide_in.new.trees.items
    (c.give_room_back.ensures c.args.births.now c.requires.index.rises (c.requires.index.found c.birth_at-gone.result name has) free c.in_ok-take_room.ensures.ok) c.in-Err.ensures.err c.requires.index
