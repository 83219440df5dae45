use Rattle.std.proofs.Common.{◌≡◌, List, Some, ap, subst, sym, ◌∙◌}
use Rattle.birth_index.specs.Births.{IsFree, birth_of, grown, levels_of, root_named}
use Rattle.birth_index.specs.declared.name.NodeName.{NodeName}
use Rattle.birth_index.proofs.Exchanging.{gone_there, grown_found, grown_free, same_index}
use Rattle.tree_nodes.specs.Levels.{IsTree, Levels}
use Rattle.birth_index.proofs.changing.divide_top.Goals as goal

pub take_room-requires-clause-free : goal.take_room-requires-clause-free
take_room-requires-clause-free c =
    let nodes = c.args.trees.now.items in
    let name = c.root_name-name.result in
    let is : name ≡ root_named nodes c.args.btree = c.root_name-name.ensures.name ∙ ap (λ (ns : List Levels). root_named ns c.args.btree) c.as_slice.ensures.value in
    let has = subst (λ (ns : List Levels). birth_of ns name ≡ Some c.birth_at-gone.result) c.as_slice-2.ensures.value c.birth_at-gone.ensures in
    grown_free c.args.births.now nodes name c.birth_at-gone.result c.requires.index has c.args.at.now c.args.first.birth c.args.second.birth c.args.root.birth c.grown-news.result c.grown-news.ensures
    (subst (λ (n : NodeName). IsFree nodes n c.args.first.birth) (sym is) c.requires.births.halves.first) (subst (λ (n : NodeName). IsFree nodes n c.args.second.birth) (sym is) c.requires.births.halves.second) (subst (λ (n : NodeName). IsFree nodes n c.args.root.birth) (sym is) c.requires.births.above)

pub give_room_back-requires : goal.give_room_back-requires
give_room_back-requires c =
    let has = subst (λ (ns : List Levels). birth_of ns c.root_name-name.result ≡ Some c.birth_at-gone.result) c.as_slice-2.ensures.value c.birth_at-gone.ensures in
    gone_there c.args.births.now c.args.trees.now.items c.root_name-name.result c.birth_at-gone.result c.requires.index has c.grown-news.result c.take_room.new.self c.in_ok-take_room.ensures.ok

pub returns-in-Ok-clause-index : goal.returns-in-Ok-clause-index
returns-in-Ok-clause-index c =
    let nodes = c.args.trees.now.items in
    let btree = c.args.btree in
    let is : c.root_name-name.result ≡ root_named nodes btree = c.root_name-name.ensures.name ∙ ap (λ (ns : List Levels). root_named ns btree) c.as_slice.ensures.value in
    let here = subst (λ (ns : List Levels). birth_of ns c.root_name-name.result ≡ Some c.birth_at-gone.result) c.as_slice-2.ensures.value c.birth_at-gone.ensures in
    let has = subst (λ (n : NodeName). birth_of nodes n ≡ Some c.birth_at-gone.result) is here in
    let tree = subst (λ (ns : List Levels). IsTree (levels_of ns btree)) c.as_slice.ensures.value c.root_name-name.ensures.sound in
    let are = c.grown-news.ensures ∙ ap (λ (n : NodeName). grown n c.args.at.now c.args.first.birth c.args.second.birth c.args.root.birth) is in
    grown_found c.args.births.now nodes btree c.birth_at-gone.result c.args.at.now c.args.first c.args.second c.args.root c.requires.index has c.requires.there tree c.requires.before c.requires.births.halves.first c.requires.births.halves.second c.requires.births.above c.requires.births.halves.apart c.requires.births.lower_apart c.requires.births.upper_apart
    c.grown-news.result c.replace.new.self c.root_in.new.trees.items are (c.replace.ensures c.args.births.now c.requires.index.rises c.in_ok-take_room.ensures.ok) c.in-Ok.ensures.ok

pub returns-in-Err-clause-index : goal.returns-in-Err-clause-index
returns-in-Err-clause-index c =
    let nodes = c.args.trees.now.items in
    let name = c.root_name-name.result in
    let is : name ≡ root_named nodes c.args.btree = c.root_name-name.ensures.name ∙ ap (λ (ns : List Levels). root_named ns c.args.btree) c.as_slice.ensures.value in
    let has = subst (λ (ns : List Levels). birth_of ns name ≡ Some c.birth_at-gone.result) c.as_slice-2.ensures.value c.birth_at-gone.ensures in
    let free =
    grown_free c.args.births.now nodes name c.birth_at-gone.result c.requires.index has c.args.at.now c.args.first.birth c.args.second.birth c.args.root.birth c.grown-news.result c.grown-news.ensures
    (subst (λ (n : NodeName). IsFree nodes n c.args.first.birth) (sym is) c.requires.births.halves.first) (subst (λ (n : NodeName). IsFree nodes n c.args.second.birth) (sym is) c.requires.births.halves.second) (subst (λ (n : NodeName). IsFree nodes n c.args.root.birth) (sym is) c.requires.births.above) in
    same_index c.args.births.now c.give_room_back.new.self nodes c.root_in.new.trees.items
    (c.give_room_back.ensures c.args.births.now c.requires.index.rises (c.requires.index.found c.birth_at-gone.result name has) free c.in_ok-take_room.ensures.ok) c.in-Err.ensures.err c.requires.index
