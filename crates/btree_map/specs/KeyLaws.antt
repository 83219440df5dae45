-- The key map of btrees has the entries of each.
use Rattle.std.proofs.Common.{◌≡◌, ℕ, ◌<◌, Bool, true, false, cond, List, length, refl, sym, ap, ◌∙◌, subst}
use Rattle.std.specs.Prelude.{◌==◌, slice_index_or, slice_set}
use Rattle.std.proofs.lemmas.List.{get_or-set_same, get_or-set_other}
use Rattle.btree_map.specs.FreshLaws.{code-lt}
use Rattle.btree_map.specs.Trees.{AreCuts, IsTrees, Trees, cut_in, cut_of, cuts_divided, entries_in, keys_in, keys_of_cuts, no_cut, with_divided}
use Rattle.tree_keys.specs.Cuts.{Cut, cut_at}
use Rattle.tree_nodes.specs.Levels.{Levels}
use Rattle.tree_nodes.specs.TreeLaws.{either}
use Rattle.vol_types.specs.Btrees.{btree_code}
use Rattle.vol_types.specs.KeyMaps.{IsKeyMap, entries_of}
use Rattle.vol_types.specs.KeyMapLaws.{entries_of-key_map, same_key_maps}
use Rattle.vol_types.specs.Maps.{IsMap}
use Rattle.vol_types.specs.Positions.{pos_cmp}
use Rattle.vol_types.specs.declared.positions.Btree.{Btree}
use Rattle.vol_types.specs.declared.positions.Pos.{Pos}

-- The key map that cuts hold has the entries of each.
pub entries_of-cuts : (cuts : List Cut) (btree : Btree) → entries_of (keys_of_cuts cuts) btree ≡ (cut_of cuts btree).entries
entries_of-cuts cuts btree = entries_of-key_map (λ b. (cut_of cuts b).entries) btree

-- Cuts hold a key map.
pub key_map-cuts : (cuts : List Cut) → AreCuts cuts → IsKeyMap (keys_of_cuts cuts)
key_map-cuts cuts are = record { rises = λ btree. subst (IsMap pos_cmp) (sym (entries_of-cuts cuts btree)) (are.each btree).rises }

-- The keys of btrees are cuts.
pub cuts-trees : (trees : Trees) → IsTrees trees → AreCuts trees.keys
cuts-trees trees is = record { count = is.key_count; each = λ btree. (is.each btree).keys }

-- The key map of a volume has in each btree what the btree has.
pub entries_of-keys_in : (trees : Trees) (btree : Btree) → entries_of (keys_in trees) btree ≡ entries_in trees btree
entries_of-keys_in trees btree = entries_of-cuts trees.keys btree

-- And it is a key map.
pub key_map-trees : (trees : Trees) → IsTrees trees → IsKeyMap (keys_in trees)
key_map-trees trees is = key_map-cuts trees.keys (cuts-trees trees is)

-- Where a node is divided, the key map stays.
pub keys_in-divided : (trees : Trees) → IsTrees trees → (btree : Btree) (level : ℕ) (at : Pos) (levels : Levels) → keys_in (with_divided btree level at levels trees) ≡ keys_in trees
keys_in-divided trees is btree level at levels =
    same_key_maps (keys_in (with_divided btree level at levels trees)) (keys_in trees)
    (λ b. entries_of-cuts (cuts_divided (btree_code btree) level at trees.keys) b ∙ by b (level == 0) ∙ sym (entries_of-cuts trees.keys b))
  where
    there : btree_code btree < length trees.keys
    there = subst (λ n. btree_code btree < n) (sym is.key_count) (code-lt btree)

    by : (b : Btree) (t : Bool) → (cut_of (cond t (slice_set trees.keys (btree_code btree) (cut_at at (cut_in trees btree))) trees.keys) b).entries ≡ (cut_of trees.keys b).entries
    by b false = refl
    by b true = either (btree_code b) (btree_code btree) ((cut_of (slice_set trees.keys (btree_code btree) (cut_at at (cut_in trees btree))) b).entries ≡ (cut_of trees.keys b).entries)
        (λ same.
        ap (λ (n : ℕ). (slice_index_or (slice_set trees.keys (btree_code btree) (cut_at at (cut_in trees btree))) n no_cut).entries) same
        ∙ ap (λ (c : Cut). c.entries) (get_or-set_same trees.keys (btree_code btree) (cut_at at (cut_in trees btree)) no_cut there)
        ∙ ap (λ (n : ℕ). (slice_index_or trees.keys n no_cut).entries) (sym same))
        (λ other. ap (λ (c : Cut). c.entries) (get_or-set_other trees.keys (btree_code btree) (btree_code b) (cut_at at (cut_in trees btree)) no_cut other))
