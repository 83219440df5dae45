-- Which checks stay where a change stays in the id of one subvolume, and what of them is left to show of that one.
use Rattle.std.proofs.Common.{◌≡◌, ℕ, Bool, true, false, Option, Some, List, [], ◌∷◌, refl, sym, ap, ◌∙◌, subst, inl, inr}
use Rattle.std.specs.Prelude.{◌≢◌, ◌==◌, ◌/◌, ◌≤◌, All, flat_map, count_by, option_map, unwrap_or}
use Rattle.std.specs.List.{slice_index_or}
use Rattle.vol_types.specs.Limits.{bucket_blocks}
use Rattle.vol_types.specs.Positions.{pos_cmp}
use Rattle.vol_types.specs.declared.pointers.Pointer.{Pointer}
use Rattle.vol_types.specs.declared.values.Live.{Live}
use Rattle.std.specs.Ordering.{nat_cmp}
use Rattle.std.proofs.lemmas.Bool.{eq-eqb, eqb-true, true≢false}
use Rattle.std.proofs.lemmas.List.Elements.{All-cons, All-nil}
use Rattle.snap_tree.specs.Snaps.{Snaps, is_ancestor_of}
use Rattle.vol_types.specs.KeyMaps.{Entries, KeyMap}
use Rattle.vol_types.specs.Maps.{value_at}
use Rattle.vol_types.specs.declared.layout.Layout.{Layout}
use Rattle.vol_types.specs.declared.pointers.Place.{Place}
use Rattle.vol_types.specs.declared.positions.Pos.{Pos}
use Rattle.vol_types.specs.declared.values.Inode.{Inode}
use Rattle.vol_types.specs.declared.values.Sub.{Sub}
use Rattle.vol_types.specs.declared.values.Value.{Value}
use Rattle.key_meaning.specs.Alike.{ShowAlike}
use Rattle.key_meaning.specs.AlikeLaws.{directories_in-alike, tree_of-alike}
use Rattle.key_meaning.specs.Changes.{ChangesOnly}
use Rattle.key_meaning.specs.Checks.{AreBlocksPlaced, AreDirectoriesTrees, HasWellPlaced, IsBucketKey, IsOfGeneration, IsSpaceCounted, back_of, count_in_bucket, has_pointer_at, is_place, live_of, places_of, pointers_of, AreLinksCounted, AreNamesJoined, AreTreesJoined, DoLeavesMatch, IsJoined, IsLiveLeaf, IsNameJoined, IsRooted, IsSubvolume, count_names, names_to}
use Rattle.key_meaning.specs.Forest.{all_subs, inode_in, kind_in, links_in, sub_named, subs_of, tree_of}
use Rattle.key_meaning.specs.Kept.{AreLeavesSound, IsLeafSound}
use Rattle.key_meaning.specs.SoundLaws.{IsIn, all_in, leaf_is_alone, one_of_each, sub_named-in, sub_named-is}
use Rattle.key_meaning.specs.Visible.{snaps_of}

-- What each member has, all have.
pub all_from_in : {X : Type 0} (P : X → Type 0) (xs : List X) → ((x : X) → IsIn x xs → P x) → All P xs
all_from_in P [] each = All-nil P
all_from_in P (x ∷ xs) each = All-cons P x xs (each x (inl refl)) (all_from_in P xs (λ y is. each y (inr is)))

-- the kinds of ids that show the same
kind_in-alike : (keys new : KeyMap) (id : ℕ) → ShowAlike new id keys id → (number : ℕ) → kind_in new id number ≡ kind_in keys id number
kind_in-alike keys new id alike number = ap (option_map (λ (inode : Inode). inode.kind)) (alike.inodes number)

module _ (keys new : KeyMap) (name : List ℕ) (sub : Sub) (sound : AreLeavesSound keys) (only : ChangesOnly keys new sub.id) (found : sub_named keys name ≡ Some sub) (left : IsLeafSound new sub) where
  old_leaf : (id : ℕ) → IsLiveLeaf new id → IsLiveLeaf keys id
  old_leaf id leaf = record { snap = leaf.snap; found = ap (value_at nat_cmp id) (sym only.snaps) ∙ leaf.found; live = leaf.live }

  new_leaf : (id : ℕ) → IsLiveLeaf keys id → IsLiveLeaf new id
  new_leaf id leaf = record { snap = leaf.snap; found = ap (value_at nat_cmp id) only.snaps ∙ leaf.found; live = leaf.live }

  -- each other live leaf shows what it showed
  others_alike : (id : ℕ) → id ≢ sub.id → ShowAlike new id keys id
  others_alike id apart = only.elsewhere id (by (is_ancestor_of (snaps_of keys) sub.id id) refl)
    where
      by : (b : Bool) → is_ancestor_of (snaps_of keys) sub.id id ≡ b → b ≡ false
      by true is = absurd (apart (leaf_is_alone keys sub.id id sound.trees (sub_named-is keys name sub sound.leaves found).leaf is))
      by false is = refl

  -- what holds of the id of the subvolume and of each other one holds of each
  each_id : (P : ℕ → Type 0) → P sub.id → ((id : ℕ) → id ≢ sub.id → P id) → (id : ℕ) → P id
  each_id P own others id = by (id == sub.id) refl
    where
      by : (b : Bool) → (id == sub.id) ≡ b → P id
      by true same = subst P (sym (eqb-true id sub.id same)) own
      by false apart = others id (λ same. true≢false (sym (eq-eqb id sub.id same) ∙ apart))

  same_subs : all_subs new ≡ all_subs keys
  same_subs = ap (λ (entries : Entries). flat_map (λ (entry : Pos × Value). subs_of (Some entry.1)) entries) only.subvols

  -- a subvolume of the same id is the same
  same_sub : (other : Sub) → IsIn other (all_subs keys) → other.id ≡ sub.id → sub ≡ other
  same_sub other is same = one_of_each (λ (s : Sub). s.id == sub.id) sub other (all_subs keys) (sound.leaves.leaves sub.id (sub_named-is keys name sub sound.leaves found).leaf) (sub_named-in keys name sub found).0 is (eq-eqb sub.id sub.id refl) (eq-eqb other.id sub.id same)

  -- what holds of the subvolume and of each of another id holds of all
  each_sub : (P : Sub → Type 0) → P sub → ((other : Sub) → IsIn other (all_subs keys) → other.id ≢ sub.id → P other) → All P (all_subs new)
  each_sub P own others = subst (All P) (sym same_subs) (all_from_in P (all_subs keys) (λ other is. by other is (other.id == sub.id) refl))
    where
      by : (other : Sub) → IsIn other (all_subs keys) → (b : Bool) → (other.id == sub.id) ≡ b → P other
      by other is true same = subst P (same_sub other is (eqb-true other.id sub.id same)) own
      by other is false apart = others other is (λ same. true≢false (sym (eq-eqb other.id sub.id same) ∙ apart))

  trees_kept : AreTreesJoined new
  trees_kept = record { each = λ id snap at. subst (λ (snaps : Snaps). IsJoined snaps id snap) (sym only.snaps) (sound.trees.each id snap (ap (value_at nat_cmp id) (sym only.snaps) ∙ at)) }

  leaves_kept : DoLeavesMatch new
  leaves_kept = record {
    subvolumes = each_sub (IsSubvolume new)
        (record { leaf = new_leaf sub.id (sub_named-is keys name sub sound.leaves found).leaf; root = left.root })
        (λ other is apart. let was = all_in (IsSubvolume keys) other (all_subs keys) sound.leaves.subvolumes is in record { leaf = new_leaf other.id was.leaf; root = kind_in-alike keys new other.id (others_alike other.id apart) other.root ∙ was.root });
    leaves = λ id leaf. ap (count_by (λ (s : Sub). s.id == id)) same_subs ∙ sound.leaves.leaves id (old_leaf id leaf);
  }

  names_kept : AreNamesJoined new
  names_kept = record { each = λ id directory slot leaf. each_id (λ a. IsLiveLeaf new a → All (IsNameJoined new a directory slot) (links_in new a directory slot)) (λ _. left.names directory slot) (λ a apart live. other_names a directory slot apart live) id leaf }
    where
      other_names : (id directory slot : ℕ) → id ≢ sub.id → IsLiveLeaf new id → All (IsNameJoined new id directory slot) (links_in new id directory slot)
      other_names id directory slot apart leaf = let alike = others_alike id apart in let was = sound.names.each id directory slot (old_leaf id leaf) in
          subst (All (IsNameJoined new id directory slot)) (sym (alike.names directory slot))
          (λ k d lt. let is = was k d lt in record { under_slot = is.under_slot; in_directory = kind_in-alike keys new id alike directory ∙ is.in_directory; leads_to = kind_in-alike keys new id alike (slice_index_or (links_in keys id directory slot) k d).number ∙ is.leads_to })

  links_kept : AreLinksCounted new
  links_kept = record {
    each = λ id number inode leaf at file. each_id (λ a. IsLiveLeaf new a → inode_in new a number ≡ Some inode → inode.links ≡ names_to new a number)
        (λ _ own. left.links number inode own file)
        (λ a apart live other. let alike = others_alike a apart in sound.links.each a number inode (old_leaf a live) (sym (alike.inodes number) ∙ other) file ∙ ap (λ directories. count_names directories number) (sym (directories_in-alike new keys a a alike)))
        id leaf at;
  }

  directories_kept : AreDirectoriesTrees new
  directories_kept = record {
    each = λ read. each_sub (λ s. IsRooted (tree_of new read s)) (left.directories read)
        (λ other is apart. subst IsRooted (sym (tree_of-alike new keys read other other (others_alike other.id apart) refl refl)) (all_in (λ s. IsRooted (tree_of keys read s)) other (all_subs keys) (sound.directories.each read) is));
  }

  -- After a change that stays in the id of one subvolume, of which what shows is sound, all leaves are.
  pub leaves_stay_sound : AreLeavesSound new
  leaves_stay_sound = record { trees = trees_kept; leaves = leaves_kept; names = names_kept; links = links_kept; directories = directories_kept }

-- Where the extents are the same, their blocks are placed as before;
pub blocks_stay_placed : (keys new : KeyMap) (nodes : List Place) (layout : Layout) → new.extents ≡ keys.extents → AreBlocksPlaced keys nodes layout → AreBlocksPlaced new nodes layout
blocks_stay_placed keys new nodes layout same is = record {
  placed = subst (All (HasWellPlaced nodes layout)) (sym same) is.placed;
  blocks = λ place. subst (λ (entries : Entries). count_by (is_place place) (flat_map (λ (entry : Pos × Value). places_of entry.1) entries) ≤ 1) (sym same) (is.blocks place);
  nodes_placed = is.nodes_placed;
}

-- where the keys on space are too, they are counted as before.
pub space_stays_counted : (keys new : KeyMap) → new.extents ≡ keys.extents → new.alloc ≡ keys.alloc → new.backptrs ≡ keys.backptrs → IsSpaceCounted keys → IsSpaceCounted new
space_stays_counted keys new extents alloc backptrs is = record {
  blocks = λ dev bucket. ap (λ (entries : Entries). blocks_at (value_at pos_cmp (record { inode = dev; offset = bucket; snapshot = 0 }) entries)) alloc ∙ is.blocks dev bucket
      ∙ ap (λ (entries : Entries). count_in_bucket (flat_map (λ (entry : Pos × Value). places_of entry.1) entries) dev bucket) (sym extents);
  generations = subst (All (λ (entry : Pos × Value). All (IsOfGeneration new) (pointers_of entry.1))) (sym extents) (λ k d lt j p le. ap (λ (entries : Entries). generation_at (value_at pos_cmp (record { inode = (pointer k d j p).place.dev; offset = (pointer k d j p).place.block / bucket_blocks; snapshot = 0 }) entries)) alloc ∙ is.generations k d lt j p le);
  buckets = subst (All IsBucketKey) (sym alloc) is.buckets;
  back = λ dev block extent. (
    (λ at. ap (has_pointer_at dev block) (ap (value_at pos_cmp extent) extents) ∙ (is.back dev block extent).0 (ap (λ (entries : Entries). back_of (value_at pos_cmp (record { inode = dev; offset = block; snapshot = 0 }) entries)) (sym backptrs) ∙ at)),
    (λ at. ap (λ (entries : Entries). back_of (value_at pos_cmp (record { inode = dev; offset = block; snapshot = 0 }) entries)) backptrs ∙ (is.back dev block extent).1 (ap (has_pointer_at dev block) (ap (value_at pos_cmp extent) (sym extents)) ∙ at)),
  );
  back_keys = subst (All (λ (entry : Pos × Value). entry.0.snapshot ≡ 0)) (sym backptrs) is.back_keys;
}
  where
    blocks_at : Option Value → ℕ
    blocks_at value = unwrap_or (option_map (λ (live : Live). live.blocks) (live_of value)) 0

    generation_at : Option Value → Option ℕ
    generation_at value = option_map (λ (live : Live). live.generation) (live_of value)

    pointer : (k : ℕ) (d : Pos × Value) (j : ℕ) (p : Pointer) → Pointer
    pointer k d j p = slice_index_or (pointers_of (slice_index_or keys.extents k d).1) j p
