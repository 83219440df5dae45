-- Ids that show the same have the same tree.
use Rattle.std.proofs.Common.{◌≡◌, ℕ, ◌/◌, ◌%◌, cond, Some, None, List, ap, ◌∙◌, map}
use Rattle.std.specs.Prelude.{option_map, option_and_then}
use Rattle.std.specs.List.{range_with_len}
use Rattle.std.proofs.lemmas.Cmp.{nat_cmp_total, nat_list_cmp_total}
use Rattle.std.proofs.lemmas.Map.Lookups.{exact_bytes, exact_unsigned}
use Rattle.vol_digest.specs.Digests.{slot_of}
use Rattle.vol_types.specs.KeyMaps.{KeyMap}
use Rattle.vol_types.specs.Limits.{block_size}
use Rattle.vol_types.specs.declared.positions.Btree.TheVariants.{Inodes, Dirents}
use Rattle.vol_types.specs.declared.values.Inode.{Inode}
use Rattle.vol_types.specs.declared.values.Link.{Link}
use Rattle.vol_types.specs.declared.values.Sub.{Sub}
use Rattle.key_meaning.specs.Alike.{ShowAlike}
use Rattle.key_meaning.specs.Blocks.{Block, block_in}
use Rattle.key_meaning.specs.Forest.{Read, byte_at, directories_in, directory_in, file_in, files_in, inode_of, is_directory, link_named, links_of, names_in, names_under, number_in, numbers_of, size_of, tree_of}
use Rattle.key_meaning.specs.ForestLaws.{directories_within, files_within, names_within}
use Rattle.key_meaning.specs.TableLaws.{map_over-same}
use Rattle.key_meaning.specs.Visible.{visible}

-- Ids show the same where the same values are visible in them, and files have the same blocks.
pub alike_from_visible : (one other : KeyMap) (id another : ℕ) → ((number : ℕ) → visible one Inodes 0 number id ≡ visible other Inodes 0 number another)
    → ((directory slot : ℕ) → visible one Dirents directory slot id ≡ visible other Dirents directory slot another) → ((file block : ℕ) → block_in one id file block ≡ block_in other another file block) → ShowAlike one id other another
alike_from_visible one other id another inodes dirents blocks = record {
  inodes = λ number. ap inode_of (inodes number);
  names = λ directory slot. ap links_of (dirents directory slot);
  blocks = blocks;
}

-- What is alike stays so over a third one.
pub alike_then : (one other third : KeyMap) (id another last : ℕ) → ShowAlike one id other another → ShowAlike other another third last → ShowAlike one id third last
alike_then one other third id another last alike again = record { inodes = λ number. alike.inodes number ∙ again.inodes number; names = λ directory slot. alike.names directory slot ∙ again.names directory slot; blocks = λ file block. alike.blocks file block ∙ again.blocks file block }

module _ (one other : KeyMap) (id another : ℕ) (alike : ShowAlike one id other another) where
  -- In such ids each name leads to the same,
  pub number_in-alike : (directory : ℕ) (name : List ℕ) → number_in one id directory name ≡ number_in other another directory name
  number_in-alike directory name = ap (λ links. option_map (λ (link : Link). link.number) (link_named name links)) (alike.names directory (slot_of name))

  -- each directory has the same names,
  pub names_in-alike : (directory : ℕ) → names_in one id directory ≡ names_in other another directory
  names_in-alike directory = map_over-same nat_list_cmp_total exact_bytes (number_in one id directory) (number_in other another directory) (names_under one directory) (names_under other directory) (names_within one id directory) (names_within other another directory) (number_in-alike directory)

  pub directory_in-alike : (number : ℕ) → directory_in one id number ≡ directory_in other another number
  directory_in-alike number = λ i. cond (is_directory (option_map (λ (inode : Inode). inode.kind) (alike.inodes number i))) (Some (names_in-alike number i)) None

  -- the directories are the same,
  pub directories_in-alike : directories_in one id ≡ directories_in other another
  directories_in-alike = map_over-same nat_cmp_total exact_unsigned (directory_in one id) (directory_in other another) (numbers_of one) (numbers_of other) (directories_within one id) (directories_within other another) directory_in-alike

  module _ (read : Read) where
    pub file_in-alike : (number : ℕ) → file_in one read id number ≡ file_in other read another number
    file_in-alike number = λ i. option_map (λ (size : ℕ). map (λ (index : ℕ). byte_at (option_and_then (λ (shown : Block). read shown.places shown.digest) (alike.blocks number (index / block_size) i)) (index % block_size)) (range_with_len 0 size)) (option_and_then size_of (alike.inodes number i))

    -- the files are,
    pub files_in-alike : files_in one read id ≡ files_in other read another
    files_in-alike = map_over-same nat_cmp_total exact_unsigned (file_in one read id) (file_in other read another) (numbers_of one) (numbers_of other) (files_within one id read) (files_within other another read) file_in-alike

-- and so the same tree, where the subvolumes have the same root and are locked alike.
pub tree_of-alike : (one other : KeyMap) (read : Read) (sub another : Sub) → ShowAlike one sub.id other another.id → sub.read_only ≡ another.read_only → sub.root ≡ another.root → tree_of one read sub ≡ tree_of other read another
tree_of-alike one other read sub another alike locked root = λ i. record {
  locked = locked i;
  root = root i;
  files = files_in-alike one other sub.id another.id alike read i;
  directories = directories_in-alike one other sub.id another.id alike i;
}
