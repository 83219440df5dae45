-- Updates that were planned and made are in the key map, and leave btrees.
use Rattle.std.proofs.Common.{◌≡◌, ℕ, zero, suc, ◌<◌, Option, List, [], length, sym, ap, ◌∙◌, subst, arith}
use Rattle.std.specs.Prelude.{All, Err, Ok, OnErr, OnOk, Result, slice_index_or, unwrap_or}
use Rattle.std.specs.Map.{values_of}
use Rattle.std.proofs.lemmas.Option.{slice_get-get_or}
use Rattle.btree_map.specs.Applied.{AreMade, ArePlanned, Last, last_in, made_of}
use Rattle.btree_map.specs.FreshLaws.{code-lt}
use Rattle.btree_map.specs.KeyLaws.{entries_of-cuts, key_map-cuts}
use Rattle.btree_map.specs.StandLaws.{stand-with_updates}
use Rattle.btree_map.specs.Trees.{AreCuts, IsTrees, Trees, cut_in, cut_of, keys_in, keys_of_cuts, no_cut}
use Rattle.tree_keys.specs.Cuts.{Cut, IsCut, with_entries}
use Rattle.tree_keys.specs.PlanLaws.{made-placed}
use Rattle.vol_types.specs.Btrees.{btree_code}
use Rattle.vol_types.specs.KeyMaps.{Entries, KeyMap, entries_of, with_updates}
use Rattle.vol_types.specs.KeyMapLaws.{IsKeyMap-with_updates, same_key_maps}
use Rattle.vol_types.specs.Maps.{value_at}
use Rattle.vol_types.specs.Positions.{pos_cmp}
use Rattle.vol_types.specs.Standing.{IsUpdate, MayStand}
use Rattle.vol_types.specs.declared.keys.Update.{Update}
use Rattle.vol_types.specs.declared.positions.Btree.{Btree}
use Rattle.vol_types.specs.declared.positions.Btree.TheVariants.{Extents, Inodes, Dirents, Subvols, Snapshots, Alloc, Backptrs, Deleted, Counters}
use Rattle.vol_types.specs.declared.values.Value.{Value}

-- each of the nine has a cut
pub cut_below : (cuts : List Cut) → AreCuts cuts → (code : ℕ) → code < 9 → IsCut (slice_index_or cuts code no_cut)
cut_below cuts are zero lt = are.each Extents
cut_below cuts are (suc zero) lt = are.each Inodes
cut_below cuts are (suc (suc zero)) lt = are.each Dirents
cut_below cuts are (suc (suc (suc zero))) lt = are.each Subvols
cut_below cuts are (suc (suc (suc (suc zero)))) lt = are.each Snapshots
cut_below cuts are (suc (suc (suc (suc (suc zero))))) lt = are.each Alloc
cut_below cuts are (suc (suc (suc (suc (suc (suc zero)))))) lt = are.each Backptrs
cut_below cuts are (suc (suc (suc (suc (suc (suc (suc zero))))))) lt = are.each Deleted
cut_below cuts are (suc (suc (suc (suc (suc (suc (suc (suc zero)))))))) lt = are.each Counters
cut_below cuts are (suc (suc (suc (suc (suc (suc (suc (suc (suc code))))))))) lt = absurd (omega (arith, lt))

module _ (old new : List Cut) (updates : List Update) (last : List Last) (before : List (Option Value)) (are : AreCuts old) (planned : ArePlanned (keys_of_cuts old) updates last before) (made_all : AreMade last old new) where
  -- each btree has the entries that updates leave
  made_in : (btree : Btree) → cut_of new btree ≡ with_entries (cut_of old btree) (entries_of (with_updates updates (keys_of_cuts old)) btree)
  made_in btree =
      made_all.each (btree_code btree)
      ∙ ap (λ (o : Option Last). made_of o (cut_of old btree)) (slice_get-get_or last (btree_code btree) [] (subst (λ n. btree_code btree < n) (sym planned.count) (code-lt btree)))
      ∙ made-placed (last_in last btree) (cut_of old btree) (entries_of (with_updates updates (keys_of_cuts old)) btree) (are.each btree) (planned.each btree)
      ((IsKeyMap-with_updates updates (keys_of_cuts old) (key_map-cuts old are)).rises btree)
      (λ pos. ap (λ (es : Entries). unwrap_or (value_at pos_cmp pos (last_in last btree)) (value_at pos_cmp pos es)) (sym (entries_of-cuts old btree)) ∙ planned.known btree pos)

  -- the key map is the one after updates
  pub applied_keys : keys_of_cuts new ≡ with_updates updates (keys_of_cuts old)
  applied_keys = same_key_maps (keys_of_cuts new) (with_updates updates (keys_of_cuts old)) (λ btree. entries_of-cuts new btree ∙ ap (λ (c : Cut). c.entries) (made_in btree))

  -- the leaves are as they were
  pub applied_ends : (btree : Btree) → (cut_of new btree).ends ≡ (cut_of old btree).ends
  applied_ends btree = ap (λ (c : Cut). c.ends) (made_in btree)

  -- and there are cuts
  pub applied_cuts : ((code : ℕ) → code < length last → IsCut (slice_index_or new code no_cut)) → AreCuts new
  applied_cuts sound = record {
    count = made_all.count ∙ are.count;
    each = λ btree. sound (btree_code btree) (subst (λ n. btree_code btree < n) (sym planned.count) (code-lt btree));
  }

-- btrees with other keys in the same leaves are btrees
pub trees-applied : (old : Trees) (keys : List Cut) (updates : List Update) → IsTrees old → All IsUpdate updates → AreCuts keys → ((btree : Btree) → (cut_of keys btree).ends ≡ (cut_in old btree).ends)
    → keys_of_cuts keys ≡ with_updates updates (keys_in old) → IsTrees (record { keys = keys; nodes = old.nodes })
trees-applied old keys updates is all are ends after = record {
  key_count = are.count;
  node_count = is.node_count;
  each = λ btree. record {
    keys = are.each btree;
    nodes = (is.each btree).nodes;
    leaves = ends btree ∙ (is.each btree).leaves;
    stand =
        subst (λ (es : Entries). All (MayStand btree 0) (values_of es)) (ap (λ (k : KeyMap). entries_of k btree) (sym after) ∙ entries_of-cuts keys btree)
        (stand-with_updates updates (keys_in old) all (λ b. subst (λ (es : Entries). All (MayStand b 0) (values_of es)) (sym (entries_of-cuts old.keys b)) (is.each b).stand) btree);
  };
}

-- and so they are where updates were made or all is as it was
pub trees-after : {T E : Type 0} (result : Result T E) (old : Trees) (keys : List Cut) (updates : List Update) → IsTrees old → All IsUpdate updates → OnOk result (AreCuts keys) → OnOk result ((btree : Btree) → (cut_of keys btree).ends ≡ (cut_in old btree).ends)
    → OnOk result (keys_of_cuts keys ≡ with_updates updates (keys_in old)) → OnErr result (keys ≡ old.keys) → IsTrees (record { keys = keys; nodes = old.nodes })
trees-after (Ok value) old keys updates is all are ends after same = trees-applied old keys updates is all are ends after
trees-after (Err error) old keys updates is all are ends after same = subst (λ (cuts : List Cut). IsTrees (record { keys = cuts; nodes = old.nodes })) (sym same) is
