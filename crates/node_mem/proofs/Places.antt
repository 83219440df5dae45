-- Which positions are taken depends on the positions alone, whatever the values are.
use Rattle.std.proofs.Common.{◌≡◌, ℕ, ◌+◌, ◌<◌, Option, Some, None, List, [], ◌∷◌, length, map, take, get_or, sym, ap, ◌∙◌}
use Rattle.std.specs.BTreeMap.{is_at}
use Rattle.std.specs.BTreeSet.{insert_key}
use Rattle.std.specs.Map.{keys_of}
use Rattle.std.specs.Set.{remove_key}
use Rattle.vol_types.specs.KeyMaps.{Entries}
use Rattle.vol_types.specs.Maps.{put_at}
use Rattle.vol_types.specs.Positions.{pos_cmp}
use Rattle.vol_types.specs.declared.keys.Key.{Key}
use Rattle.vol_types.specs.declared.positions.Pos.{Pos}
use Rattle.vol_types.specs.declared.values.Value.{Value}
use Rattle.node_mem.specs.Nodes.{with_keys}
use Rattle.node_mem.specs.MergeLaws.{keys_of-insert_entry, keys_more, keys_of-remove_entry, with_keys-append}

module _ (pos changed : Pos) (value : Option Value) (entries : Entries) (old new : List Pos) (at : changed ≡ pos) (same : old ≡ keys_of entries) where
  -- the positions without the one whose value is taken away
  pub freed : value ≡ None → new ≡ remove_key (is_at (pos_cmp changed)) old → new ≡ keys_of (put_at pos_cmp pos value entries)
  freed none removed =
      removed ∙ ap (λ p. remove_key (is_at (pos_cmp p)) old) at ∙ ap (remove_key (is_at (pos_cmp pos))) same ∙ sym (keys_of-remove_entry pos_cmp pos entries) ∙ ap (λ v. keys_of (put_at pos_cmp pos v entries)) (sym none)

  -- the positions with the one that gets a value
  pub taken : (some : Value) → value ≡ Some some → new ≡ insert_key pos_cmp old changed → new ≡ keys_of (put_at pos_cmp pos value entries)
  taken some is inserted =
      inserted ∙ ap (insert_key pos_cmp old) at ∙ ap (λ ks. insert_key pos_cmp ks pos) same ∙ sym (keys_of-insert_entry pos_cmp pos some entries) ∙ ap (λ v. keys_of (put_at pos_cmp pos v entries)) (sym is)

-- the positions after one change more
pub positions_more : {C : Type 0} (key : C → Key) (changes : List C) (i : ℕ) (change : C) (entries : Entries) (new : List Pos) → i < length changes → change ≡ get_or changes i change
    → new ≡ keys_of (put_at pos_cmp (key change).pos (key change).value (with_keys (map key (take i changes)) entries)) → new ≡ keys_of (with_keys (map key (take (i + 1) changes)) entries)
positions_more key changes i change entries new lt is put =
    put ∙ ap keys_of (sym (with_keys-append (map key (take i changes)) (key change ∷ []) entries)) ∙ ap (λ ks. keys_of (with_keys ks entries)) (sym (keys_more key changes i change lt is))
