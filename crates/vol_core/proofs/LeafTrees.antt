-- Btrees that were read under roots which are leaves are one node each.
use Rattle.std.proofs.Common.{◌≡◌, ℕ, zero, suc, List, [], ◌∷◌, length, map, Option, Some, None, Result, Ok, Err, sym, ap, ◌∙◌, arith}
use Rattle.std.proofs.lemmas.List.Elements.{All-head, All-tail}
use Rattle.std.specs.List.{flat_map, zip}
use Rattle.std.specs.Option.{option_map_or}
use Rattle.std.specs.Prelude.{All}
use Rattle.birth_index.specs.Exchanges.{one_node}
use Rattle.image_view.specs.Trees.{BtreeRead, NodeRead, SetsOf, TreesRead, all_btrees, btree_of, each_of, ends_of, first_place, first_twin, joined, nodes_of, read_down, read_level, trees_of, with_own_births, with_roots}
use Rattle.key_codec.specs.Combined.{bind_ok, ok_is}
use Rattle.key_codec.specs.Formats.{◌>>=◌}
use Rattle.tree_nodes.specs.Levels.{Level}
use Rattle.vol_types.specs.Positions.{greatest_pos, least_pos}
use Rattle.vol_types.specs.declared.keys.Update.{Update}
use Rattle.vol_types.specs.declared.pointers.NodePtr.{NodePtr}
use Rattle.vol_types.specs.declared.pointers.Place.{Place}
use Rattle.vol_types.specs.declared.positions.Btree.{Btree}

-- The root is a leaf.
abbrev pub IsLeafRoot : NodePtr → Type 0
IsLeafRoot root = root.level ≡ 0

module _ (sets : SetsOf) (updates : List Update) where
  -- What is read down from leaves is these.
  leaf_levels : (btree : Btree) (level : ℕ) (nodes : Level) (read : BtreeRead) → level ≡ 0 → read_down sets updates btree level nodes ≡ Ok read → read.levels ≡ nodes ∷ []
  leaf_levels btree zero nodes read leaf is =
      let leaves : List NodeRead → Result BtreeRead Place = λ read. Ok (record { entries = flat_map (λ node. node.entries) read; levels = nodes ∷ []; ends = ends_of read }) in
      let level = bind_ok (read_level sets updates btree least_pos nodes) leaves read is in
      sym (ap (λ (r : BtreeRead). r.levels) (ok_is _ _ level.2))
  leaf_levels btree (suc level) nodes read leaf is = absurd (omega (arith, leaf))

  leaves_of : (btrees : List Btree) (roots : List NodePtr) (reads : List BtreeRead) → length roots ≡ length btrees → All IsLeafRoot roots → each_of (btree_of sets updates) (zip btrees roots) ≡ Ok reads → map (λ (read : BtreeRead). read.levels) reads ≡ map one_node roots
  leaves_of [] [] reads count leaves is = ap (map (λ (read : BtreeRead). read.levels)) (sym (ok_is [] reads is))
  leaves_of [] (root ∷ roots) reads count leaves is = absurd (omega (arith, count))
  leaves_of (btree ∷ btrees) [] reads count leaves is = absurd (omega (arith, count))
  leaves_of (btree ∷ btrees) (root ∷ roots) reads count leaves is =
      let with_rest : BtreeRead → List BtreeRead → Result (List BtreeRead) Place = λ read rest. Ok (read ∷ rest) in
      let others_by : BtreeRead → Result (List BtreeRead) Place = λ read. each_of (btree_of sets updates) (zip btrees roots) >>= with_rest read in
      let first = bind_ok (btree_of sets updates (btree, root)) others_by reads is in
      let rest = bind_ok (each_of (btree_of sets updates) (zip btrees roots)) (with_rest first.0) reads first.2 in
      let here : first.0.levels ≡ one_node root = leaf_levels btree root.level ((greatest_pos, root) ∷ []) first.0 (All-head IsLeafRoot root roots leaves) first.1 in
      let later = leaves_of btrees roots rest.0 (omega (arith, count)) (All-tail IsLeafRoot root roots leaves) rest.1 in
      ap (map (λ (read : BtreeRead). read.levels)) (sym (ok_is (first.0 ∷ rest.0) reads rest.2)) ∙ (λ i. here i ∷ later i)

own_births-ok : (twin : Option NodePtr) (read result : TreesRead) → option_map_or (λ (node : NodePtr). Err (first_place node)) twin (Ok read) ≡ Ok result → read ≡ result
own_births-ok None read result is = ok_is read result is
own_births-ok (Some node) read result is = absurd cc

-- Btrees that were read under leaves are these.
pub leaves_read : (sets : SetsOf) (updates : List Update) (roots : List NodePtr) (read : TreesRead) → length roots ≡ 9 → All IsLeafRoot roots → trees_of sets updates roots ≡ Ok read → read.nodes ≡ map one_node roots
unfolding trees_of
leaves_read sets updates roots read count leaves is =
    let made = bind_ok (each_of (btree_of sets updates) (with_roots roots)) (λ (btrees : List BtreeRead). with_own_births (joined btrees)) read is in
    let same : joined made.0 ≡ read = own_births-ok (first_twin (nodes_of (joined made.0).nodes)) (joined made.0) read made.2 in
    ap (λ (r : TreesRead). r.nodes) (sym same) ∙ leaves_of sets updates all_btrees roots made.0 count leaves made.1
