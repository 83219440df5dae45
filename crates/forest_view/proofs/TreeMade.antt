-- The tree that is made of the nearest ids' keys is the subvolume's.
use Rattle.std.proofs.Common.{◌≡◌, ℕ, Bool, true, false, cond, Option, Some, None, List, [], refl, sym, ap, ◌∙◌}
use Rattle.std.specs.Prelude.{option_and_then, option_map}
use Rattle.std.specs.List.Sorted.{IsStrictlySortedBy}
use Rattle.std.specs.Ordering.{nat_cmp}
use Rattle.std.proofs.lemmas.Cmp.{nat_cmp_total, nat_list_cmp_total}
use Rattle.std.proofs.lemmas.Map.Lookups.{exact_bytes, exact_unsigned}
use Rattle.forest_ops.specs.Parts.{bare_tree}
use Rattle.key_meaning.specs.Forest.{directories_in, files_in, inode_in, inode_of, is_directory, link_named, names_in, size_of, tree_of}
use Rattle.key_meaning.specs.ForestLaws.{directories_rise, directory_at, file_at, files_rise, links_shown, name_at, names_rise}
use Rattle.key_meaning.specs.Visible.{first_value, shown, snaps_of}
use Rattle.key_meaning.specs.VisibleLaws.{snaps_of-rises}
use Rattle.plain_forest.specs.Forest.{Tree}
use Rattle.snap_tree.specs.ChainLaws.{chain_of-rises}
use Rattle.snap_tree.specs.Snaps.{Snaps, chain_of}
use Rattle.vol_digest.specs.Digests.{slot_of}
use Rattle.vol_types.specs.KeyMaps.{IsKeyMap, KeyMap}
use Rattle.vol_types.specs.MapLaws.{same_maps}
use Rattle.vol_types.specs.Maps.{IsMap, value_at}
use Rattle.vol_types.specs.declared.positions.Btree.TheVariants.{Dirents, Inodes}
use Rattle.vol_types.specs.declared.values.Inode.{Inode}
use Rattle.vol_types.specs.declared.values.Link.{Link}
use Rattle.vol_types.specs.declared.values.Sub.{Sub}
use Rattle.vol_types.specs.declared.values.Value.{Value}
use Rattle.vol_types.specs.declared.values.Value.TheVariants as values
use Rattle.forest_view.specs.Meant.{no_blocks}
use Rattle.forest_view.specs.Nearest.{Nearest, nearest_with}
use Rattle.forest_view.specs.Shown.{with_inodes, with_names}
use Rattle.forest_view.proofs.InodeLaws.{bare_of, directories_take, files_take, head_stays, numbers_rise, numbers_show, zeros_of}
use Rattle.forest_view.proofs.NameLaws.{directory_named, named, named_rises, names_rise_in, names_show, rest_stays}
use Rattle.forest_view.proofs.Unread.{unread_file}

-- What shows nothing has no inode.
inode_shown : (value : Option Value) → inode_of (shown value) ≡ inode_of value
inode_shown None = refl
inode_shown (Some values.White) = refl
inode_shown (Some value) = refl

module _ (keys : KeyMap) (is : IsKeyMap keys) (locked : Bool) (root id : ℕ) where
  -- the ids that show in this one
  abbrev chain : List ℕ
  chain = chain_of (snaps_of keys) id

  chain_rises : IsStrictlySortedBy nat_cmp chain
  chain_rises = chain_of-rises (snaps_of keys) id (snaps_of-rises keys)

  -- the tree after the inodes came, and after the names did
  abbrev numbered : Tree
  numbered = with_inodes keys (nearest_with chain keys.inodes []) (bare_tree locked root)

  abbrev made : Tree
  made = with_names keys (nearest_with chain keys.dirents []) numbered

  file_shows : (q : ℕ) → value_at nat_cmp q numbered.files ≡ value_at nat_cmp q (files_in keys no_blocks id)
  file_shows q =
      numbers_show (λ (tree : Tree). tree.files) zeros_of files_take keys is chain chain_rises (bare_tree locked root) refl q
      ∙ ap zeros_of (sym (inode_shown (first_value keys Inodes 0 q chain)))
      ∙ unread_file keys id q (option_and_then size_of (inode_in keys id q))
      ∙ sym (file_at keys id no_blocks q)

  files_made : made.files ≡ files_in keys no_blocks id
  unfolding IsStrictlySortedBy
  files_made =
      ap (λ (p : Bool × ℕ × List (ℕ × List ℕ)). p.2) (rest_stays keys (nearest_with chain keys.dirents []) numbered)
      ∙ same_maps nat_cmp_total exact_unsigned numbered.files (files_in keys no_blocks id) (numbers_rise (λ (tree : Tree). tree.files) zeros_of files_take keys (nearest_with chain keys.inodes []) (bare_tree locked root) tt) (files_rise keys id no_blocks) file_shows

  -- the names of one directory
  names_made : (q : ℕ) → named keys q (nearest_with chain keys.dirents []) [] ≡ names_in keys id q
  unfolding IsStrictlySortedBy
  names_made q =
      same_maps nat_list_cmp_total exact_bytes (named keys q (nearest_with chain keys.dirents []) []) (names_in keys id q) (named_rises keys q (nearest_with chain keys.dirents []) [] tt) (names_rise keys id q)
      (λ n.
      names_show keys q n is chain chain_rises
      ∙ ap (λ (links : List Link). option_map (λ (link : Link). link.number) (link_named n links)) (sym (links_shown (first_value keys Dirents q (slot_of n) chain)))
      ∙ sym (name_at keys id q n))

  numbered_rises : IsMap nat_cmp numbered.directories
  unfolding IsStrictlySortedBy
  numbered_rises = numbers_rise (λ (tree : Tree). tree.directories) bare_of directories_take keys (nearest_with chain keys.inodes []) (bare_tree locked root) tt

  directory_shows : (q : ℕ) → value_at nat_cmp q made.directories ≡ value_at nat_cmp q (directories_in keys id)
  directory_shows q =
      directory_named keys q (nearest_with chain keys.dirents []) numbered numbered_rises
      ∙ ap (option_map (named keys q (nearest_with chain keys.dirents []))) (numbers_show (λ (tree : Tree). tree.directories) bare_of directories_take keys is chain chain_rises (bare_tree locked root) refl q ∙ ap bare_of (sym (inode_shown (first_value keys Inodes 0 q chain))))
      ∙ by (is_directory (option_map (λ (i : Inode). i.kind) (inode_in keys id q)))
      ∙ sym (directory_at keys id q)
    where
      by : (b : Bool) → option_map (named keys q (nearest_with chain keys.dirents [])) (cond b (Some []) None) ≡ cond b (Some (names_in keys id q)) None
      by true = ap Some (names_made q)
      by false = refl

  directories_made : made.directories ≡ directories_in keys id
  directories_made = same_maps nat_cmp_total exact_unsigned made.directories (directories_in keys id) (names_rise_in keys (nearest_with chain keys.dirents []) numbered numbered_rises) (directories_rise keys id) directory_shows

  locked_made : made.locked ≡ locked
  locked_made = ap (λ (p : Bool × ℕ × List (ℕ × List ℕ)). p.0) (rest_stays keys (nearest_with chain keys.dirents []) numbered) ∙ ap (λ (p : Bool × ℕ). p.0) (head_stays keys (nearest_with chain keys.inodes []) (bare_tree locked root))

  root_made : made.root ≡ root
  root_made = ap (λ (p : Bool × ℕ × List (ℕ × List ℕ)). p.1) (rest_stays keys (nearest_with chain keys.dirents []) numbered) ∙ ap (λ (p : Bool × ℕ). p.1) (head_stays keys (nearest_with chain keys.inodes []) (bare_tree locked root))

  -- What is made is what shows.
  pub tree_made : made ≡ record { locked = locked; root = root; files = files_in keys no_blocks id; directories = directories_in keys id }
  tree_made = λ i. record { locked = locked_made i; root = root_made i; files = files_made i; directories = directories_made i }

-- The same, as the code comes to it.
pub made_from : (keys : KeyMap) → IsKeyMap keys → (sub : Sub) (snaps : Snaps) (ids : List ℕ) (inodes names : Nearest) (first second third : Tree) → snaps ≡ snaps_of keys → ids ≡ chain_of snaps sub.id
    → inodes ≡ nearest_with ids keys.inodes [] → names ≡ nearest_with ids keys.dirents [] → first ≡ bare_tree sub.read_only sub.root → second ≡ with_inodes keys inodes first → third ≡ with_names keys names second
    → third ≡ tree_of keys no_blocks sub
made_from keys is sub snaps ids inodes names first second third snaps_are ids_are inodes_are names_are first_is second_is third_is =
    let chain_is : ids ≡ chain_of (snaps_of keys) sub.id = ids_are ∙ ap (λ (s : Snaps). chain_of s sub.id) snaps_are in
    let inodes_near : inodes ≡ nearest_with (chain_of (snaps_of keys) sub.id) keys.inodes [] = inodes_are ∙ ap (λ c. nearest_with c keys.inodes []) chain_is in
    let names_near : names ≡ nearest_with (chain_of (snaps_of keys) sub.id) keys.dirents [] = names_are ∙ ap (λ c. nearest_with c keys.dirents []) chain_is in
    third_is ∙ ap (with_names keys names) second_is ∙ (λ i. with_names keys (names_near i) (with_inodes keys (inodes_near i) (first_is i))) ∙ tree_made keys is sub.read_only sub.root sub.id
