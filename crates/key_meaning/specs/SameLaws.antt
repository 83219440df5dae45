-- Where each id shows the same, what was sound and tidy of ids and extents is so still.
use Rattle.std.proofs.Common.{◌≡◌, ℕ, false, None, Some, sym, ap, ◌∙◌, subst}
use Rattle.std.specs.Prelude.{IsSome, All, flat_map}
use Rattle.std.specs.List.{slice_index_or}
use Rattle.std.specs.Ordering.{nat_cmp}
use Rattle.snap_tree.specs.Snaps.{Snaps, is_ancestor_of}
use Rattle.vol_types.specs.KeyMaps.{Entries, KeyMap}
use Rattle.vol_types.specs.Maps.{value_at}
use Rattle.vol_types.specs.Positions.{pos_cmp}
use Rattle.vol_types.specs.declared.positions.Btree.TheVariants.{Extents}
use Rattle.vol_types.specs.declared.positions.Pos.{Pos}
use Rattle.vol_types.specs.declared.values.Value.{Value}
use Rattle.key_meaning.specs.Checks.{AreExtentsApart, AreIdsThere, AreTreesJoined, HasRoom, IsJoined, IsLiveLeaf}
use Rattle.key_meaning.specs.Forest.{all_subs, inode_in, subs_of}
use Rattle.key_meaning.specs.Numbers.{ShowSame}
use Rattle.key_meaning.specs.Tidy.{AreBlocksBelow, AreGone}
use Rattle.key_meaning.specs.Visible.{own_value, snaps_of}

-- Live leaves stay where the ids do,
pub live_leaf_was : (keys new : KeyMap) → snaps_of new ≡ snaps_of keys → (id : ℕ) → IsLiveLeaf new id → IsLiveLeaf keys id
live_leaf_was keys new snaps id leaf = record { snap = leaf.snap; found = ap (value_at nat_cmp id) (sym snaps) ∙ leaf.found; live = leaf.live }

-- and so do the trees of ids.
pub trees_stay_joined : (keys new : KeyMap) → snaps_of new ≡ snaps_of keys → AreTreesJoined keys → AreTreesJoined new
trees_stay_joined keys new snaps joined = record { each = λ id snap at. subst (λ (s : Snaps). IsJoined s id snap) (sym snaps) (joined.each id snap (ap (value_at nat_cmp id) (sym snaps) ∙ at)) }

-- The subvolumes are those of the keys of subvolumes.
pub same_subs : (keys new : KeyMap) → new.subvols ≡ keys.subvols → all_subs new ≡ all_subs keys
same_subs keys new subvols = ap (λ (entries : Entries). flat_map (λ (entry : Pos × Value). subs_of (Some entry.1)) entries) subvols

module _ (keys new : KeyMap) (same : ShowSame keys new) where
  -- Where the files that are gone are the same, they show no inode still;
  pub gone-same : new.deleted ≡ keys.deleted → AreGone keys → AreGone new
  gone-same deleted was = record {
    each = subst (All (λ (entry : Pos × Value). inode_in new entry.0.snapshot entry.0.offset ≡ None)) (sym deleted)
        (λ k d lt. (same.each (slice_index_or keys.deleted k d).0.snapshot).inodes (slice_index_or keys.deleted k d).0.offset ∙ was.each k d lt);
  }

  -- and where the extents are, none stands above an inode that came into being below.
  pub below-same : new.extents ≡ keys.extents → AreBlocksBelow keys → AreBlocksBelow new
  below-same extents was = record {
    each = λ id descendant number ancestor none some. subst (All (λ (entry : Pos × Value). entry.0.inode ≡ number → is_ancestor_of (snaps_of new) entry.0.snapshot id ≡ false)) (sym extents)
        (subst (λ (s : Snaps). All (λ (entry : Pos × Value). entry.0.inode ≡ number → is_ancestor_of s entry.0.snapshot id ≡ false) keys.extents) (sym same.snaps)
        (was.each id descendant number (ap (λ s. is_ancestor_of s id descendant) (sym same.snaps) ∙ ancestor) (sym ((same.each id).inodes number) ∙ none) (subst IsSome ((same.each descendant).inodes number) some)));
  }

-- Extents don't overlap where they are the same, and the ids of the same keys are there.
pub extents_apart-same : (keys new : KeyMap) → snaps_of new ≡ snaps_of keys → new.extents ≡ keys.extents → AreIdsThere new new.inodes → AreIdsThere new new.dirents → new.deleted ≡ keys.deleted → AreExtentsApart keys → AreExtentsApart new
extents_apart-same keys new snaps extents inodes dirents deleted was = record {
  extents = subst (AreIdsThere new) (sym extents) (ids_there keys.extents was.extents);
  inodes = inodes;
  dirents = dirents;
  deleted = subst (AreIdsThere new) (sym deleted) (ids_there keys.deleted was.deleted);
  room = subst (All HasRoom) (sym extents) was.room;
  apart = λ file id. record { once = λ block first second one other at also. (was.apart file id).once block first second one other (own file id first ∙ at) (own file id second ∙ also) };
}
  where
    ids_there : (entries : Entries) → AreIdsThere keys entries → AreIdsThere new entries
    ids_there entries there = subst (λ (s : Snaps). All (λ (entry : Pos × Value). IsSome (value_at nat_cmp entry.0.snapshot s)) entries) (sym snaps) there

    own : (file id offset : ℕ) → own_value keys Extents file offset id ≡ own_value new Extents file offset id
    own file id offset = ap (value_at pos_cmp (record { inode = file; offset = offset; snapshot = id })) (sym extents)
