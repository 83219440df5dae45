-- The key map of a fresh volume is sound.
use Rattle.std.proofs.Common.{◌≡◌, ℕ, ◌+◌, Bool, true, false, cond, Option, Some, None, List, [], ◌∷◌, refl, sym, ap, ◌∙◌, subst, arith}
use Rattle.std.specs.Prelude.{◌==◌, is_some, IsSome, All, Ok}
use Rattle.std.specs.BTreeMap.{is_at}
use Rattle.std.specs.Option.{option_or}
use Rattle.std.specs.Ordering.{nat_cmp}
use Rattle.std.proofs.lemmas.Bool.{eqb-true, true≢false}
use Rattle.std.proofs.lemmas.List.Elements.{All-cons, All-nil}
use Rattle.std.proofs.lemmas.Option.{cond_some, same_Some, none-some as none_some}
use Rattle.plain_forest.specs.Forest.{first_root}
use Rattle.vol_types.specs.Maps.{value_at}
use Rattle.vol_types.specs.Positions.{pos_cmp}
use Rattle.vol_types.specs.declared.layout.Layout.{Layout}
use Rattle.vol_types.specs.declared.pointers.Place.{Place}
use Rattle.vol_types.specs.declared.positions.Btree.TheVariants.{Inodes, Dirents}
use Rattle.vol_types.specs.declared.positions.Pos.{Pos}
use Rattle.vol_types.specs.declared.values.FileKind.TheVariants.{Directory}
use Rattle.vol_types.specs.declared.values.Inode.{Inode}
use Rattle.vol_types.specs.declared.values.Snap.{Snap}
use Rattle.vol_types.specs.declared.values.SnapState.TheVariants.{LiveLeaf}
use Rattle.vol_types.specs.declared.values.Value.{Value}
use Rattle.vol_types.specs.declared.values.Value.TheVariants as values
use Rattle.snap_tree.specs.ChainLaws.{same_test}
use Rattle.snap_tree.specs.Snaps.{chain_of}
use Rattle.key_meaning.specs.Checks.{AreBlocksPlaced, AreDirectoriesTrees, AreExtentsApart, AreLinksCounted, AreNamesJoined, AreNodesPlaced, AreTreesJoined, DoLeavesMatch, HasRoom, HasWellPlaced, IsBucketKey, IsDirectoryOf, IsJoined, IsLiveLeaf, IsNameJoined, IsOfGeneration, IsRooted, IsSound, IsSpaceCounted, IsSubvolume, pointers_of}
use Rattle.key_meaning.specs.Forest.{Read, inode_of, is_directory, links_of, tree_of}
use Rattle.key_meaning.specs.Fresh.{first_id, fresh_keys, main_sub}
use Rattle.key_meaning.specs.Visible.{first_value, shown, snaps_of}

-- the record of the first id
abbrev first_snap : Snap
first_snap = record { parent = 0; first_child = 0; second_child = 0; state = LiveLeaf }

-- the root directory of `main`
abbrev pub root_inode : Inode
root_inode = record { kind = Directory; links = 1; size = 0 }

first_joined : (id : ℕ) → IsJoined (snaps_of fresh_keys) id first_snap
first_joined id = record { parent = λ some. absurd (some refl); first = λ some. absurd (some refl); second = λ some. absurd (some refl); apart = λ some. absurd (some refl); leaf = λ other. (refl, refl) }

pub trees : AreTreesJoined fresh_keys
trees = record { each = λ id snap found. subst (IsJoined (snaps_of fresh_keys) id) (cond_some (is_at (nat_cmp id) first_id) first_snap snap found).1 (first_joined id) }

-- the only id is the first one
only_id : (id : ℕ) → IsLiveLeaf fresh_keys id → first_id == id ≡ true
only_id id leaf = sym (same_test id first_id) ∙ (cond_some (is_at (nat_cmp id) first_id) first_snap leaf.snap leaf.found).0

main_is : IsSubvolume fresh_keys main_sub
main_is = record { leaf = record { snap = first_snap; found = refl; live = refl }; root = refl }

pub leaves : DoLeavesMatch fresh_keys
leaves = record {
  subvolumes = All-cons (IsSubvolume fresh_keys) main_sub [] main_is (All-nil (IsSubvolume fresh_keys));
  leaves = λ id leaf. ap (λ b. 0 + cond b 1 0) (only_id id leaf);
}

pub extents : AreExtentsApart fresh_keys
extents = record {
  extents = All-nil (λ entry. IsSome (value_at nat_cmp entry.0.snapshot (snaps_of fresh_keys)));
  inodes = All-cons (λ (entry : Pos × Value). IsSome (value_at nat_cmp entry.0.snapshot (snaps_of fresh_keys))) (record { inode = 0; offset = first_root; snapshot = first_id }, values.Inode root_inode) [] refl (All-nil (λ entry. IsSome (value_at nat_cmp entry.0.snapshot (snaps_of fresh_keys))));
  dirents = All-nil (λ entry. IsSome (value_at nat_cmp entry.0.snapshot (snaps_of fresh_keys)));
  deleted = All-nil (λ entry. IsSome (value_at nat_cmp entry.0.snapshot (snaps_of fresh_keys)));
  room = All-nil HasRoom;
  apart = λ file id. record { once = λ block first second one other found others covered again. absurd (none_some one found) };
}

-- no name stands there
no_names : (directory slot : ℕ) (ids : List ℕ) → first_value fresh_keys Dirents directory slot ids ≡ None
no_names directory slot [] = refl
no_names directory slot (id ∷ ids) = no_names directory slot ids

pub names : AreNamesJoined fresh_keys
names = record { each = λ id directory slot leaf. subst (λ value. All (IsNameJoined fresh_keys id directory slot) (links_of (shown value))) (sym (no_names directory slot (chain_of (snaps_of fresh_keys) id))) (All-nil (IsNameJoined fresh_keys id directory slot)) }

-- where the root directory of `main` stands
abbrev root_pos : Pos
root_pos = record { inode = 0; offset = first_root; snapshot = first_id }

-- only the root directory stands there
only_root : (number : ℕ) (inode : Inode) (ids : List ℕ) → inode_of (shown (first_value fresh_keys Inodes 0 number ids)) ≡ Some inode → root_inode ≡ inode
only_root number inode [] found = absurd (none_some inode found)
only_root number inode (id ∷ ids) found = by (is_at (pos_cmp (record { inode = 0; offset = number; snapshot = id })) root_pos) (only_root number inode ids) found
  where
    by : (b : Bool) → (inode_of (shown (first_value fresh_keys Inodes 0 number ids)) ≡ Some inode → root_inode ≡ inode) → inode_of (shown (option_or (cond b (Some (values.Inode root_inode)) None) (first_value fresh_keys Inodes 0 number ids))) ≡ Some inode → root_inode ≡ inode
    by true later found = same_Some root_inode inode found
    by false later found = later found

pub links : AreLinksCounted fresh_keys
links = record { each = λ id number inode leaf found kind. absurd (true≢false (ap (λ k. is_directory (Some k)) (ap (λ (i : Inode). i.kind) (only_root number inode (chain_of (snaps_of fresh_keys) id) found) ∙ kind))) }

-- the only directory is the root
only_directory : (read : Read) (number : ℕ) → IsDirectoryOf (tree_of fresh_keys read main_sub) number → first_root == number ≡ true
only_directory read number is = sym (same_test number first_root) ∙ there (is_at (nat_cmp number) first_root) is
  where
    there : (b : Bool) → is_some (cond {A = Option (List (List ℕ × ℕ))} b (Some []) None) ≡ true → b ≡ true
    there true is = refl
    there false is = is

rooted : (read : Read) → IsRooted (tree_of fresh_keys read main_sub)
rooted read = record {
  root = refl;
  named = λ number is other. absurd (other (sym (eqb-true first_root number (only_directory read number is))));
  below = λ number is. record { names = []; leads = ap Ok (eqb-true first_root number (only_directory read number is)) };
}

pub directories : AreDirectoriesTrees fresh_keys
directories = record { each = λ read. All-cons (λ sub. IsRooted (tree_of fresh_keys read sub)) main_sub [] (rooted read) (All-nil (λ sub. IsRooted (tree_of fresh_keys read sub))) }

pub blocks : (nodes : List Place) (layout : Layout) → AreNodesPlaced nodes layout → AreBlocksPlaced fresh_keys nodes layout
blocks nodes layout placed = record { placed = All-nil (HasWellPlaced nodes layout); blocks = λ place. omega arith; nodes_placed = placed }

pub space : IsSpaceCounted fresh_keys
space = record {
  blocks = λ dev bucket. refl;
  generations = All-nil (λ entry. All (IsOfGeneration fresh_keys) (pointers_of entry.1));
  buckets = All-nil IsBucketKey;
  back = λ dev block extent. (λ found. absurd (none_some extent found), λ there. absurd (true≢false (sym there)));
  back_keys = All-nil (λ entry. entry.0.snapshot ≡ 0);
}

pub fresh_is_sound : (nodes : List Place) (layout : Layout) → AreNodesPlaced nodes layout → IsSound fresh_keys nodes layout
fresh_is_sound nodes layout placed = record { trees = trees; leaves = leaves; extents = extents; names = names; links = links; directories = directories; blocks = blocks nodes layout placed; space = space }
