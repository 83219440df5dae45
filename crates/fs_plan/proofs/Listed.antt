-- The names of a directory as a list, and what a listing of a path answers.
use Rattle.std.proofs.Common.{◌≡◌, ℕ, cond, Option, Some, None, List, [], ◌∷◌, refl, sym, ap, ◌∙◌, subst, map}
use Rattle.std.specs.Prelude.{Result, Ok, Err, is_some, option_map}
use Rattle.std.specs.BTreeMap.{is_at}
use Rattle.std.specs.List.Sorted.{IsStrictlySortedBy}
use Rattle.std.specs.Ordering.{nat_cmp, is_eq}
use Rattle.std.proofs.lemmas.Cmp.{nat_list_cmp_total}
use Rattle.std.proofs.lemmas.Map.Lookups.{exact_bytes}
use Rattle.std.proofs.lemmas.Map.Made.{keys_of-map_values, lookup-map_values}
use Rattle.forest_ops.specs.Along.{directory_along}
use Rattle.forest_ops.specs.Refusals.{◌>>=◌}
use Rattle.forest_ops.specs.Steps.{flagged, listed, next_of, reply_or}
use Rattle.forest_ops.specs.Walking.{Directory, Inode, directory_at, names_in, tree_of, walk}
use Rattle.forest_ops.specs.declared.operation.Cause.{Cause}
use Rattle.forest_ops.specs.declared.operation.Reply.{Reply}
use Rattle.forest_ops.specs.declared.operation.Reply.TheVariants.{List as ListIs, Refused}
use Rattle.fs_plan.proofs.Gathered.{flag_among}
use Rattle.fs_plan.specs.Listing.{flagged_name}
use Rattle.key_meaning.specs.Checks.{AreNamesJoined, IsLiveLeaf, IsNameJoined}
use Rattle.key_meaning.specs.Forest.{Read, directories_in, is_directory, kind_in, link_named, links_in}
use Rattle.key_meaning.specs.Forest as keys_mean
use Rattle.key_meaning.specs.ForestLaws as laws
use Rattle.key_meaning.specs.SoundLaws.{all_in, found_in}
use Rattle.plain_forest.specs.Forest.{Forest, Names, Tree}
use Rattle.plain_forest.specs.declared.path.Path.{Path}
use Rattle.vol_digest.specs.Digests.{slot_of}
use Rattle.vol_types.specs.KeyMaps.{KeyMap}
use Rattle.vol_types.specs.MapLaws.{same_maps}
use Rattle.vol_types.specs.Maps.{IsMap, value_at}
use Rattle.vol_types.specs.Ranges.{name_cmp}
use Rattle.vol_types.specs.Values.{file_kind_code}
use Rattle.vol_types.specs.declared.values.FileKind.{FileKind}
use Rattle.vol_types.specs.declared.values.FileKind.TheVariants.{File, Directory as Dir}
use Rattle.vol_types.specs.declared.values.Link.{Link}
use Rattle.vol_types.specs.declared.values.Sub.{Sub}

-- the flag of a number in a tree
abbrev flag_of : Tree → ℕ → ℕ
flag_of tree number = cond (is_some (value_at nat_cmp number tree.directories)) 2 1

abbrev with_flags : Tree → Names → List (List ℕ × ℕ)
with_flags tree names = map (λ (e : List ℕ × ℕ). (e.0, flag_of tree e.1)) names

flags_mapped : (tree : Tree) (names : Names) → map flagged_name (with_flags tree names) ≡ map (flagged tree) names
flags_mapped tree [] = refl
flags_mapped tree (e ∷ names) = ap (λ rest. flagged tree e ∷ rest) (flags_mapped tree names)

module _ (keys : KeyMap) (read : Read) (sub : Sub) (directory : ℕ) (joined : AreNamesJoined keys) (live : IsLiveLeaf keys sub.id) where
  abbrev tree : Tree
  tree = keys_mean.tree_of keys read sub

  kind_flag : (held : Names) (kind : FileKind) → cond (is_some (cond (is_directory (Some kind)) (Some held) None)) 2 1 ≡ file_kind_code kind
  kind_flag held File = refl
  kind_flag held Dir = refl

  -- the kind in a name is that of the inode
  flag_is : (link : Link) → kind_in keys sub.id link.number ≡ Some link.kind → flag_of tree link.number ≡ file_kind_code link.kind
  flag_is link is =
      ap (λ o. cond (is_some o) 2 1) (laws.directory_at keys sub.id link.number ∙ ap (λ o. cond (is_directory o) (Some (keys_mean.names_in keys sub.id link.number)) None) is)
      ∙ kind_flag (keys_mean.names_in keys sub.id link.number) link.kind

  flags_agree : (name : List ℕ) (o : Option Link) → link_named name (links_in keys sub.id directory (slot_of name)) ≡ o → option_map (flag_of tree) (option_map (λ (l : Link). l.number) o) ≡ option_map (λ (l : Link). file_kind_code l.kind) o
  flags_agree name None is = refl
  flags_agree name (Some link) is =
      let links = links_in keys sub.id directory (slot_of name) in
      let member = (found_in (λ (l : Link). is_eq (name_cmp name l.name)) link links is).0 in
      ap Some (flag_is link (all_in (IsNameJoined keys sub.id directory (slot_of name)) link links (joined.each sub.id directory (slot_of name) live) member).leads_to)

  -- Names that are looked up as the directory shows them are its names.
  pub listed_names : (flags : List (List ℕ × ℕ)) → IsMap name_cmp flags → ((name : List ℕ) → value_at name_cmp name flags ≡ flag_among name (links_in keys sub.id directory (slot_of name)))
      → map flagged_name flags ≡ map (flagged tree) (keys_mean.names_in keys sub.id directory)
  listed_names flags rises found =
      let names = keys_mean.names_in keys sub.id directory in
      ap (map flagged_name) (same_maps nat_list_cmp_total exact_bytes flags (with_flags tree names) rises
      (subst (IsStrictlySortedBy name_cmp) (sym (keys_of-map_values (flag_of tree) names)) (laws.names_rise keys sub.id directory))
      (λ name. found name
      ∙ sym (lookup-map_values (flag_of tree) (is_at (name_cmp name)) names ∙ ap (option_map (flag_of tree)) (laws.name_at keys sub.id directory name)
      ∙ flags_agree name (link_named name (links_in keys sub.id directory (slot_of name))) refl)))
      ∙ flags_mapped tree names

-- The directory at a path is the one to which all its names lead.
along_is : (path : Path) (forest : Forest) → directory_at path forest ≡ directory_along path path.names forest
along_is path forest = by (tree_of path forest)
  where
    end : (t : Tree) → Result ℕ Cause → Result Directory Cause
    end t to = to >>= (λ number. names_in t number >>= (λ names. Ok (record { tree = t; number = number; names = names })))

    at_inode : Inode → Result Directory Cause
    at_inode inode = names_in inode.tree inode.number >>= (λ names. Ok (record { tree = inode.tree; number = inode.number; names = names }))

    inner : (t : Tree) (to : Result ℕ Cause) → ((to >>= (λ number. Ok (record { tree = t; number = number }))) >>= at_inode) ≡ end t to
    inner t (Ok number) = refl
    inner t (Err cause) = refl

    by : (found : Result Tree Cause) → ((found >>= (λ (t : Tree). walk t path.names t.root >>= (λ number. Ok (record { tree = t; number = number })))) >>= at_inode)
        ≡ (found >>= (λ (t : Tree). end t (walk t path.names t.root)))
    by (Ok t) = inner t (walk t path.names t.root)
    by (Err cause) = refl

abbrev list_reply : Forest → Result Directory Cause → Reply
list_reply forest found = reply_or (found >>= (λ (directory : Directory). Ok (next_of (ListIs (map (flagged directory.tree) directory.names)) forest)))

module _ (path : Path) (forest : Forest) where
  -- A listing is refused where there is no directory,
  pub listing_refused : (names : List (List ℕ)) (cause : Cause) → names ≡ path.names → directory_along path names forest ≡ Err cause → Refused cause ≡ reply_or (listed path forest)
  listing_refused names cause all lost = sym (ap (list_reply forest) (along_is path forest ∙ ap (λ ns. directory_along path ns forest) (sym all) ∙ lost))

  -- and else gives its names.
  pub listing_given : (names : List (List ℕ)) (directory : Directory) → names ≡ path.names → directory_along path names forest ≡ Ok directory
      → ListIs (map (flagged directory.tree) directory.names) ≡ reply_or (listed path forest)
  listing_given names directory all found = sym (ap (list_reply forest) (along_is path forest ∙ ap (λ ns. directory_along path ns forest) (sym all) ∙ found))

-- So it is in the id of a subvolume, whichever its name.
pub listed_names_in : (keys : KeyMap) (read : Read) (sub : Sub) (id directory : ℕ) → AreNamesJoined keys → IsLiveLeaf keys id → sub.id ≡ id → (flags : List (List ℕ × ℕ)) → IsMap name_cmp flags
    → ((name : List ℕ) → value_at name_cmp name flags ≡ flag_among name (links_in keys id directory (slot_of name)))
    → map flagged_name flags ≡ map (flagged (keys_mean.tree_of keys read sub)) (keys_mean.names_in keys id directory)
listed_names_in keys read sub id directory joined live same flags rises found =
    listed_names keys read sub directory joined (subst (IsLiveLeaf keys) (sym same) live) flags rises (λ name. found name ∙ ap (λ n. flag_among name (links_in keys n directory (slot_of name))) (sym same))
    ∙ ap (λ n. map (flagged (keys_mean.tree_of keys read sub)) (keys_mean.names_in keys n directory)) same
