-- A file with other bytes: the tree that it is one of, and that what shows is good.
use Rattle.std.proofs.Common.{◌≡◌, ℕ, ◌*◌, ◌/◌, ◌%◌, ◌≤◌, Bool, true, false, cond, Option, Some, None, List, refl, sym, ap, ◌∙◌, map}
use Rattle.std.specs.Prelude.{◌==◌, option_and_then, option_map, unwrap_or}
use Rattle.std.specs.BTreeMap.{is_at}
use Rattle.std.specs.List.{range_with_len}
use Rattle.std.specs.Ordering.{nat_cmp}
use Rattle.std.proofs.lemmas.Bool.{eq-eqb, ne_eqb}
use Rattle.std.proofs.lemmas.Cmp.{nat_cmp_total}
use Rattle.std.proofs.lemmas.Map.Lookups.{exact_unsigned}
use Rattle.std.proofs.lemmas.Option.{same_Some}
use Rattle.content_steps.proofs.Ends.{content_stays_good, kinds}
use Rattle.content_steps.specs.Shown.{with_blocks}
use Rattle.forest_ops.specs.Trees.{with_bytes}
use Rattle.key_meaning.specs.Blocks.{Block, block_in}
use Rattle.key_meaning.specs.Forest.{Read, byte_at, content_of, inode_in, is_directory, size_of, size_of_kind}
use Rattle.key_meaning.specs.TableLaws.{IsMap-changed_at, same_key, value_at-changed_at}
use Rattle.key_meaning.specs.TreeLaws.{other_number}
use Rattle.key_steps.specs.Shown.{AreFilesOf, Shown, bytes_of, file_of, shown_in, with_inode}
use Rattle.plain_forest.specs.Forest.{Tree}
use Rattle.shown_changes.specs.Changes.{MeansGoodTree}
use Rattle.vol_types.specs.KeyMaps.{KeyMap}
use Rattle.vol_types.specs.Limits.{block_size}
use Rattle.vol_types.specs.Maps.{value_at}
use Rattle.vol_types.specs.declared.values.FileKind.TheVariants.{File}
use Rattle.vol_types.specs.declared.values.Inode.{Inode}
use Rattle.vol_types.specs.declared.values.Sub.{Sub}

module _ (read : Read) (sub : Sub) (shown : Shown) (tree : Tree) (file size : ℕ) (old : Inode) (given : ℕ → Option (Option Block)) (change : List ℕ → List ℕ)
    (was : MeansGoodTree read sub shown tree) (is : shown.inodes file ≡ Some old) (of_file : old.kind ≡ File)
    (end : (block : ℕ) → size ≤ block * block_size → (with_blocks file given shown).blocks file block ≡ None) where
  abbrev after : Shown
  after = with_inode file (Some (record old { size = size })) (with_blocks file given shown)

  others : (number : ℕ) → (file == number) ≡ false → (block : ℕ) → (with_blocks file given shown).blocks number block ≡ shown.blocks number block
  others number apart block = ap (λ b. cond b (unwrap_or (given block) (shown.blocks number block)) (shown.blocks number block)) apart

  -- another file has the bytes that it had
  other_file : (number : ℕ) → (file == number) ≡ false → file_of read after number ≡ file_of read shown number
  other_file number apart = λ i. option_map (λ (s : ℕ). map (λ (index : ℕ). byte_at (option_and_then (λ (block : Block). read block.places block.digest) (others number apart (index / block_size) i)) (index % block_size)) (range_with_len 0 s))
      (option_and_then size_of (cond (apart i) (Some (record old { size = size })) (shown.inodes number)))

  -- the bytes of the file with some size, as it was
  abbrev content : Option ℕ → Option (List ℕ)
  content bound = option_map (λ (s : ℕ). map (λ (index : ℕ). byte_at (bytes_of read shown file (index / block_size)) (index % block_size)) (range_with_len 0 s)) bound

  files_changed : ((bytes : List ℕ) → file_of read shown file ≡ Some bytes → file_of read after file ≡ Some (change bytes)) → AreFilesOf read after (with_bytes file change tree).files
  files_changed bytes = record {
    map = IsMap-changed_at nat_cmp_total exact_unsigned file change tree.files was.means.files.map;
    each = λ number. value_at-changed_at nat_cmp_total exact_unsigned file change number tree.files was.means.files.map ∙ by number (is_at (nat_cmp file) number) refl;
  }
    where
      found : file_of read shown file ≡ content (Some old.size)
      found = ap (λ o. content (option_and_then size_of o)) is ∙ ap (λ kind. content (size_of_kind kind old.size)) of_file

      taken : option_map change (file_of read shown file) ≡ file_of read after file
      taken = ap (option_map change) found ∙ sym (bytes _ found)

      by : (number : ℕ) (b : Bool) → is_at (nat_cmp file) number ≡ b → cond b (option_map change (value_at nat_cmp number tree.files)) (value_at nat_cmp number tree.files) ≡ file_of read after number
      by number true at =
          let here : file ≡ number = same_key exact_unsigned file number at in
          ap (option_map change) (was.means.files.each number) ∙ ap (λ n. option_map change (file_of read shown n)) (sym here) ∙ taken ∙ ap (file_of read after) here
      by number false apart = was.means.files.each number ∙ sym (other_file number (ne_eqb file number (λ same. other_number file number apart (sym same))))

  -- The tree with the changed bytes is what shows, and that is good.
  pub bytes_taken : ((bytes : List ℕ) → file_of read shown file ≡ Some bytes → file_of read after file ≡ Some (change bytes)) → MeansGoodTree read sub after (with_bytes file change tree)
  bytes_taken bytes = record {
    means = record {
      locked = was.means.locked;
      root = was.means.root;
      files = files_changed bytes;
      directories = record {
        map = was.means.directories.map;
        each = λ number. was.means.directories.each number ∙ sym (ap is_directory (kinds sub.root shown tree.directories file size old (with_blocks file given shown).blocks was.good is of_file end others number));
        name_map = was.means.directories.name_map;
        names = was.means.directories.names;
      };
    };
    good = content_stays_good sub.root shown tree.directories file size old (with_blocks file given shown).blocks was.good is of_file end others;
  }

-- So it is where the blocks are those of keys whose content is the changed one.
module _ (keys new : KeyMap) (read : Read) (sub : Sub) (tree : Tree) (file size : ℕ) (old : Inode) (given : ℕ → Option (Option Block)) (change : List ℕ → List ℕ)
    (was : MeansGoodTree read sub (shown_in keys sub.id) tree) (is : inode_in keys sub.id file ≡ Some old) (of_file : old.kind ≡ File) (shows : shown_in new sub.id ≡ with_blocks file given (shown_in keys sub.id)) where
  abbrev sized : Inode
  sized = record old { size = size }

  -- the bytes of the file, where these blocks show and this is its inode
  abbrev bytes_by : Shown → Option Inode → Option (List ℕ)
  bytes_by shown inode = option_map (λ (s : ℕ). map (λ (index : ℕ). byte_at (bytes_of read shown file (index / block_size)) (index % block_size)) (range_with_len 0 s)) (option_and_then size_of inode)

  bytes_of_size : (shown : Shown) (n : ℕ) → bytes_by shown (Some (record old { size = n })) ≡ Some (map (λ (index : ℕ). byte_at (bytes_of read shown file (index / block_size)) (index % block_size)) (range_with_len 0 n))
  bytes_of_size shown n = ap (λ kind. option_map (λ (s : ℕ). map (λ (index : ℕ). byte_at (bytes_of read shown file (index / block_size)) (index % block_size)) (range_with_len 0 s)) (size_of_kind kind n)) of_file

  content_then : content_of new read sub.id file size ≡ change (content_of keys read sub.id file old.size) → (bytes : List ℕ) → file_of read (shown_in keys sub.id) file ≡ Some bytes
      → file_of read (with_inode file (Some sized) (with_blocks file given (shown_in keys sub.id))) file ≡ Some (change bytes)
  content_then content bytes found =
      ap (λ b. bytes_by (with_blocks file given (shown_in keys sub.id)) (cond b (Some sized) (inode_in keys sub.id file))) (eq-eqb file file refl)
      ∙ ap (λ shown. bytes_by shown (Some sized)) (sym shows)
      ∙ bytes_of_size (shown_in new sub.id) size
      ∙ ap Some (content ∙ ap change (same_Some (content_of keys read sub.id file old.size) bytes (sym (ap (bytes_by (shown_in keys sub.id)) is ∙ bytes_of_size (shown_in keys sub.id) old.size) ∙ found)))

  pub content_taken : ((block : ℕ) → size ≤ block * block_size → block_in new sub.id file block ≡ None) → content_of new read sub.id file size ≡ change (content_of keys read sub.id file old.size)
      → MeansGoodTree read sub (with_inode file (Some sized) (with_blocks file given (shown_in keys sub.id))) (with_bytes file change tree)
  content_taken end content = bytes_taken read sub (shown_in keys sub.id) tree file size old given change was is of_file
      (λ block behind. ap (λ (shown : Shown). shown.blocks file block) (sym shows) ∙ end block behind) (content_then content)
