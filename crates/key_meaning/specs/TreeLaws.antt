-- What a change of one inode, one name, or the blocks of one file does to the tree of its id, and that to the forest.
use Rattle.std.proofs.Common.{◌≡◌, ℕ, ◌/◌, ◌%◌, Bool, true, false, cond, Option, Some, None, List, refl, sym, ap, ◌∙◌, map}
use Rattle.std.specs.Prelude.{◌≢◌, find, option_map, option_and_then}
use Rattle.std.specs.BTreeMap.{is_at}
use Rattle.std.specs.List.{range_with_len}
use Rattle.std.specs.Ordering.{nat_cmp, is_eq}
use Rattle.std.proofs.lemmas.Bool.{true≢false}
use Rattle.std.proofs.lemmas.Cmp.{nat_cmp_total, nat_list_cmp_total, tied_itself}
use Rattle.std.proofs.lemmas.Map.Lookups.{exact_bytes, exact_unsigned}
use Rattle.plain_forest.specs.Maps.{changed_at}
use Rattle.vol_digest.specs.Digests.{slot_of}
use Rattle.vol_types.specs.KeyMaps.{Entries, KeyMap}
use Rattle.vol_types.specs.Limits.{block_size}
use Rattle.vol_types.specs.Maps.{put_at, value_at}
use Rattle.vol_types.specs.Positions.{pos_cmp}
use Rattle.vol_types.specs.Ranges.{name_cmp}
use Rattle.vol_types.specs.declared.values.Inode.{Inode}
use Rattle.vol_types.specs.declared.values.Sub.{Sub}
use Rattle.key_meaning.specs.Blocks.{Block}
use Rattle.key_meaning.specs.Changes.{ChangesBlocks, ChangesInode, ChangesName, ChangesOnly}
use Rattle.key_meaning.specs.Checks.{AreTreesJoined, DoLeavesMatch}
use Rattle.key_meaning.specs.AlikeLaws.{tree_of-alike}
use Rattle.key_meaning.specs.Forest.{Read, all_subs, byte_at, directories_in, directory_in, file_in, files_in, forest_in, inode_in, is_directory, names_in, names_under, number_in, numbers_of, size_of, sub_named, subs_of, tree_named, tree_of}
use Rattle.key_meaning.specs.ForestLaws.{directories_within, files_within, names_within, trees_within}
use Rattle.key_meaning.specs.SoundLaws.{subvolumes_are_apart}
use Rattle.key_meaning.specs.TableLaws.{map_over-changed, map_over-changed_at, map_over-same}

-- numbers that don't compare alike differ
pub other_number : (a b : ℕ) → is_at (nat_cmp a) b ≡ false → b ≢ a
other_number a b apart same = true≢false (sym (ap is_eq (tied_itself nat_cmp_total a)) ∙ ap (λ n. is_at (nat_cmp a) n) (sym same) ∙ apart)

-- names that don't compare alike differ
pub other_name : (a b : List ℕ) → is_at (name_cmp a) b ≡ false → b ≢ a
other_name a b apart same = true≢false (sym (ap is_eq (tied_itself nat_list_cmp_total a)) ∙ ap (λ n. is_at (name_cmp a) n) (sym same) ∙ apart)

module _ (keys new : KeyMap) (id number : ℕ) (change : ChangesInode keys new id number) where
  -- Where one inode changed, directories have the same names.
  pub same_names : (directory : ℕ) → names_in new id directory ≡ names_in keys id directory
  same_names directory = map_over-same nat_list_cmp_total exact_bytes (number_in new id directory) (number_in keys id directory) (names_under new directory) (names_under keys directory) (names_within new id directory) (names_within keys id directory) (change.names directory)

  -- A directory is put or removed at its number,
  pub directories_in-inode : directories_in new id ≡ put_at nat_cmp number (directory_in new id number) (directories_in keys id)
  directories_in-inode = map_over-changed nat_cmp_total exact_unsigned (directory_in keys id) (directory_in new id) (numbers_of keys) (numbers_of new) number (directories_within keys id) (directories_within new id)
      (λ other apart i. cond (is_directory (option_map (λ (inode : Inode). inode.kind) (change.inodes other (other_number number other apart) i))) (Some (same_names other i)) None)

  -- and so is a file.
  pub files_in-inode : (read : Read) → files_in new read id ≡ put_at nat_cmp number (file_in new read id number) (files_in keys read id)
  files_in-inode read = map_over-changed nat_cmp_total exact_unsigned (file_in keys read id) (file_in new read id) (numbers_of keys) (numbers_of new) number (files_within keys id read) (files_within new id read)
      (λ other apart i. option_map (λ (size : ℕ). map (λ (index : ℕ). byte_at (option_and_then (λ (shown : Block). read shown.places shown.digest) (change.blocks other (index / block_size) i)) (index % block_size)) (range_with_len 0 size)) (option_and_then size_of (change.inodes other (other_number number other apart) i)))

module _ (keys new : KeyMap) (id directory : ℕ) (name : List ℕ) (change : ChangesName keys new id directory name) where
  -- Where one name changed, it is put or removed among the names of its directory,
  pub names_in-name : names_in new id directory ≡ put_at name_cmp name (number_in new id directory name) (names_in keys id directory)
  names_in-name = map_over-changed nat_list_cmp_total exact_bytes (number_in keys id directory) (number_in new id directory) (names_under keys directory) (names_under new directory) name (names_within keys id directory) (names_within new id directory)
      (λ another apart. change.names another (other_name name another apart))

  other_names : (other : ℕ) → other ≢ directory → names_in new id other ≡ names_in keys id other
  other_names other apart = map_over-same nat_list_cmp_total exact_bytes (number_in new id other) (number_in keys id other) (names_under new other) (names_under keys other) (names_within new id other) (names_within keys id other) (λ another. change.elsewhere other another apart)

  -- the directory is changed by this,
  pub directories_in-name : directories_in new id ≡ changed_at nat_cmp directory (put_at name_cmp name (number_in new id directory name)) (directories_in keys id)
  directories_in-name = map_over-changed_at nat_cmp_total exact_unsigned (directory_in keys id) (directory_in new id) (numbers_of keys) (numbers_of new) directory (put_at name_cmp name (number_in new id directory name)) (directories_within keys id) (directories_within new id)
      ((λ i. cond (is_directory (option_map (λ (inode : Inode). inode.kind) (change.inodes directory i))) (Some (names_in-name i)) None) ∙ by (is_directory (option_map (λ (inode : Inode). inode.kind) (inode_in keys id directory))))
      (λ other apart i. cond (is_directory (option_map (λ (inode : Inode). inode.kind) (change.inodes other i))) (Some (other_names other (other_number directory other apart) i)) None)
    where
      by : (b : Bool) → cond b (Some (put_at name_cmp name (number_in new id directory name) (names_in keys id directory))) None ≡ option_map (put_at name_cmp name (number_in new id directory name)) (cond b (Some (names_in keys id directory)) None)
      by true = refl
      by false = refl

  -- and files are as they were.
  pub files_in-name : (read : Read) → files_in new read id ≡ files_in keys read id
  files_in-name read = map_over-same nat_cmp_total exact_unsigned (file_in new read id) (file_in keys read id) (numbers_of new) (numbers_of keys) (files_within new id read) (files_within keys id read)
      (λ number i. option_map (λ (size : ℕ). map (λ (index : ℕ). byte_at (option_and_then (λ (shown : Block). read shown.places shown.digest) (change.blocks number (index / block_size) i)) (index % block_size)) (range_with_len 0 size)) (option_and_then size_of (change.inodes number i)))

module _ (keys new : KeyMap) (id file : ℕ) (change : ChangesBlocks keys new id file) where
  -- Where the blocks of one file changed, it is put anew among the files,
  pub files_in-blocks : (read : Read) → files_in new read id ≡ put_at nat_cmp file (file_in new read id file) (files_in keys read id)
  files_in-blocks read = map_over-changed nat_cmp_total exact_unsigned (file_in keys read id) (file_in new read id) (numbers_of keys) (numbers_of new) file (files_within keys id read) (files_within new id read)
      (λ other apart i. option_map (λ (size : ℕ). map (λ (index : ℕ). byte_at (option_and_then (λ (shown : Block). read shown.places shown.digest) (change.blocks other (index / block_size) (other_number file other apart) i)) (index % block_size)) (range_with_len 0 size)) (option_and_then size_of (change.inodes other i)))

  -- and directories are as they were.
  pub directories_in-blocks : directories_in new id ≡ directories_in keys id
  directories_in-blocks = map_over-same nat_cmp_total exact_unsigned (directory_in new id) (directory_in keys id) (numbers_of new) (numbers_of keys) (directories_within new id) (directories_within keys id)
      (λ number i. cond (is_directory (option_map (λ (inode : Inode). inode.kind) (change.inodes number i))) (Some (same_names_too number i)) None)
    where
      same_names_too : (directory : ℕ) → names_in new id directory ≡ names_in keys id directory
      same_names_too directory = map_over-same nat_list_cmp_total exact_bytes (number_in new id directory) (number_in keys id directory) (names_under new directory) (names_under keys directory) (names_within new id directory) (names_within keys id directory) (change.names directory)

-- Key maps with the same entries of subvolumes find the same under each name.
pub sub_named-same : (keys new : KeyMap) → new.subvols ≡ keys.subvols → (name : List ℕ) → sub_named new name ≡ sub_named keys name
sub_named-same keys new same name = ap (λ (entries : Entries). find (λ (sub : Sub). is_eq (name_cmp name sub.name)) (subs_of (value_at pos_cmp (record { inode = 0; offset = slot_of name; snapshot = 0 }) entries))) same

-- A change that stays in the id of a subvolume of a sound volume changes the tree of this subvolume alone.
pub subvolumes-changed : (keys new : KeyMap) (read : Read) (name : List ℕ) (sub : Sub) → AreTreesJoined keys → DoLeavesMatch keys → ChangesOnly keys new sub.id → sub_named keys name ≡ Some sub
    → (forest_in new read).subvolumes ≡ changed_at name_cmp name (λ _. tree_of new read sub) (forest_in keys read).subvolumes
subvolumes-changed keys new read name sub joined matching only found =
    map_over-changed_at nat_list_cmp_total exact_bytes (tree_named keys read) (tree_named new read) (map (λ (s : Sub). s.name) (all_subs keys)) (map (λ (s : Sub). s.name) (all_subs new)) name (λ _. tree_of new read sub)
    (trees_within keys read) (trees_within new read)
    (ap (option_map (tree_of new read)) (sub_named-same keys new only.subvols name ∙ found) ∙ ap (λ s. option_map (λ _. tree_of new read sub) (option_map (tree_of keys read) s)) (sym found))
    (λ other apart. ap (option_map (tree_of new read)) (sub_named-same keys new only.subvols other) ∙ by other (other_name name other apart) (sub_named keys other) refl)
  where
    by : (other : List ℕ) → other ≢ name → (another : Option Sub) → sub_named keys other ≡ another → option_map (tree_of new read) another ≡ option_map (tree_of keys read) another
    by other apart None is = refl
    by other apart (Some another) is = ap Some (tree_of-alike new keys read another another (only.elsewhere another.id (subvolumes_are_apart keys name other sub another joined matching found is (λ same. apart (sym same)))) refl refl)
