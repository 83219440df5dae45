-- What linking a file comes to is what the forest makes of it: its refusals in their order, and the further name.
use Rattle.std.proofs.Common.{◌≡◌, ℕ, ◌+◌, Bool, true, false, Option, Some, None, List, [], ◌∷◌, refl, sym, ap, subst, arith}
use Rattle.std.specs.Prelude.{All, Result, Ok, is_some, nat_le}
use Rattle.std.specs.Option.{ok_or}
use Rattle.dirent_keys.specs.Names.{refusal_of, step_to_add}
use Rattle.forest_ops.specs.Along.{directory_in, link_place_in}
use Rattle.forest_ops.specs.AlongLaws.{link_place-along}
use Rattle.forest_ops.specs.Names.{is_crowded, links_max, links_of, new_name}
use Rattle.forest_ops.specs.RefusalLaws.{agrees-refused_if, agrees-same, agrees-seen}
use Rattle.forest_ops.specs.Refusals.{◌>>=◌, Agrees, refused_if}
use Rattle.forest_ops.specs.Steps.{in_subvolume, link_place, linked, next_of}
use Rattle.forest_ops.specs.Trees.{Place as NamePlace, with_name}
use Rattle.forest_ops.specs.Walking.{Directory as FoundDirectory, bytes_in, walk}
use Rattle.forest_ops.specs.declared.operation.Cause.{Cause}
use Rattle.forest_ops.specs.declared.operation.Cause.TheVariants.{Crowded, Exists, IsDir, LinksFull, ReadOnly}
use Rattle.forest_ops.specs.declared.operation.Reply.TheVariants.{Okay}
use Rattle.inode_keys.specs.Inodes.{with_links}
use Rattle.key_meaning.specs.Forest.{Read, directories_in, forest_in, is_directory, kind_in, names_in as names_shown, tree_of}
use Rattle.name_plan.proofs.AddedNames.{IsAdded, checked_alike, few_added, step_is_added}
use Rattle.name_plan.proofs.ChangedForests.{AreOfChange, change_is_step}
use Rattle.name_plan.proofs.DirectoriesUnder.{directory_at, directory_is, found_is_directory}
use Rattle.name_plan.proofs.FewUpdates.{few_are_made, one_few, then_few}
use Rattle.name_plan.proofs.FilesShown.{IsFileShown, bytes_of, file_is, shown_is_file}
use Rattle.name_plan.proofs.GoodNames.{some_of}
use Rattle.name_plan.proofs.Results.{agrees_at_end, agrees_where}
use Rattle.name_plan.specs.Directories.{directory_under}
use Rattle.name_plan.specs.Files.{file_shown}
use Rattle.name_plan.specs.NameSteps.{step_made}
use Rattle.name_plan.specs.New.{file_linked, file_named, link_to, linked_at, linked_in, put_inode}
use Rattle.path_plan.specs.Looking.{lead_to, shared_sub}
use Rattle.path_plan.specs.Made.{AreMade, AreOfStep, IfMade}
use Rattle.path_plan.specs.PathLaws.{IsShared, shared_is, sub_is_shared, walks}
use Rattle.plain_forest.specs.Forest.{Forest, Names, Tree}
use Rattle.plain_forest.specs.Names.{last_name, parent_names}
use Rattle.plain_forest.specs.Steps as plain
use Rattle.plain_forest.specs.declared.path.Path.{Path}
use Rattle.vol_types.specs.Btrees.{btree_code}
use Rattle.vol_types.specs.KeyMaps.{KeyMap}
use Rattle.vol_types.specs.Maps.{value_at}
use Rattle.vol_types.specs.Ranges.{name_cmp}
use Rattle.vol_types.specs.Standing.{IsUpdate}
use Rattle.vol_types.specs.declared.keys.Update.{Update}
use Rattle.vol_types.specs.declared.layout.Layout.{Layout}
use Rattle.vol_types.specs.declared.pointers.Place.{Place}
use Rattle.vol_types.specs.declared.values.FileKind.TheVariants.{File}
use Rattle.vol_types.specs.declared.values.Inode.{Inode}
use Rattle.vol_types.specs.declared.values.Link.{Link}
use Rattle.vol_types.specs.declared.values.Sub.{Sub}

-- What comes of a new name comes after its tests.
new_name_then : {X : Type 0} (path : Path) (names : Names) (next : List ℕ → Result X Cause)
    → (new_name path names >>= next) ≡ (ok_or (last_name path) Exists >>= (λ name. refused_if (is_some (value_at name_cmp name names)) Exists >>= (λ _. refused_if (is_crowded name names) Crowded >>= (λ _. next name))))
new_name_then {X} path names next = by (last_name path)
  where
    named : (name : List ℕ) (there crowded : Bool) → ((refused_if there Exists >>= (λ _. refused_if crowded Crowded >>= (λ _. Ok name))) >>= next) ≡ (refused_if there Exists >>= (λ _. refused_if crowded Crowded >>= (λ _. next name)))
    named name true crowded = refl
    named name false true = refl
    named name false false = refl

    by : (last : Option (List ℕ)) → ((ok_or last Exists >>= (λ name. refused_if (is_some (value_at name_cmp name names)) Exists >>= (λ _. refused_if (is_crowded name names) Crowded >>= (λ _. Ok name)))) >>= next)
        ≡ (ok_or last Exists >>= (λ name. refused_if (is_some (value_at name_cmp name names)) Exists >>= (λ _. refused_if (is_crowded name names) Crowded >>= (λ _. next name))))
    by None = refl
    by (Some name) = named name (is_some (value_at name_cmp name names)) (is_crowded name names)

-- A link that is to be made: the file is one of the subvolume of both paths, and the directory one in which the new path ends.
pub record IsToLink (keys : KeyMap) (from to : Path) (sub : Sub) (number : ℕ) (inode : Inode) (directory : ℕ) (name : List ℕ) : Type 0 where
  pub shared : IsShared keys from to sub
  pub file : IsFileShown keys sub.id number inode
  pub found : is_directory (kind_in keys sub.id directory) ≡ true
  pub last : last_name to ≡ Some name

module _ (keys : KeyMap) (nodes : List Place) (layout : Layout) (from to : Path) where
  abbrev updates : Sub → ℕ → Inode → List Update → List Update
  updates sub number inode named = put_inode sub.id number (with_links inode (inode.links + 1)) ∷ named

  -- the forest with a further name
  abbrev pub with_linked : ℕ → ℕ → List ℕ → Forest → Forest
  with_linked number directory name forest = in_subvolume from.sub (with_name (record { directory = directory; name = name; number = number })) forest

  -- The updates make the forest with the name, where they may be made.
  abbrev pub MakesLink : Sub → ℕ → Inode → ℕ → List ℕ → Type 0
  MakesLink sub number inode directory name = (named : List Update) → IsAdded keys sub.id directory (link_to File name number) named → All IsUpdate (updates sub number inode named)
      → AreOfChange keys nodes layout (with_linked number directory name) (updates sub number inode named)

  are_few : (sub : Sub) (number : ℕ) (inode : Inode) (directory : ℕ) (name : List ℕ) (named : List Update) → IsAdded keys sub.id directory (link_to File name number) named → All IsUpdate (updates sub number inode named) → AreMade (updates sub number inode named)
  are_few sub number inode directory name named added each =
      few_are_made 2 (updates sub number inode named) (omega arith)
      (then_few 1 1 (put_inode sub.id number (with_links inode (inode.links + 1)) ∷ []) named (one_few (put_inode sub.id number (with_links inode (inode.links + 1))) refl (λ same. omega (arith, ap btree_code same)))
      (few_added keys sub.id directory (link_to File name number) named added)) each

  module _ (read : Read) where
    -- the updates are those of the place, if they may be made
    abbrev P : List Update → NamePlace → Type 0
    P us place = All IsUpdate us → AreOfStep keys nodes layout read us (next_of Okay (in_subvolume from.sub (with_name place) (forest_in keys read)))

    module _ (sub : Sub) (number : ℕ) (inode : Inode) (directory : ℕ) (name : List ℕ)
        (refused : (link : Link) → plain.check_name link.name (names_shown keys sub.id directory) ≡ refusal_of (step_to_add keys sub.id directory link))
        (counted : inode.links ≡ links_of number (directories_in keys sub.id))
        (makes : MakesLink sub number inode directory name) where
      abbrev exists : Bool
      exists = is_some (value_at name_cmp name (names_shown keys sub.id directory))

      abbrev crowded : Bool
      crowded = is_crowded name (names_shown keys sub.id directory)

      -- what comes behind the tests of the name, where the file has so many
      abbrev after : ℕ → Result NamePlace Cause
      after links = refused_if (nat_le links_max links) LinksFull >>= (λ _. Ok (record { directory = directory; name = name; number = number }))

      -- A further name is given, or refused, as by the forest.
      named_agrees : Agrees P (file_named keys sub.id number inode directory name) (refused_if exists Exists >>= (λ _. refused_if crowded Crowded >>= (λ _. after (links_of number (directories_in keys sub.id)))))
      named_agrees =
          subst (λ links. Agrees P (file_named keys sub.id number inode directory name) (refused_if exists Exists >>= (λ _. refused_if crowded Crowded >>= (λ _. after links)))) counted
          (subst (Agrees P (file_named keys sub.id number inode directory name)) (sym (checked_alike exists crowded (step_to_add keys sub.id directory (link_to File name number)) (after inode.links) (refused (link_to File name number))))
          (agrees-same P (step_made (step_to_add keys sub.id directory (link_to File name number))) (λ named. refused_if (nat_le links_max inode.links) LinksFull >>= (λ _. Ok (updates sub number inode named))) (λ _. after inode.links) (λ named done.
          agrees-refused_if P (nat_le links_max inode.links) LinksFull (Ok (updates sub number inode named)) (Ok (record { directory = directory; name = name; number = number })) (λ few each.
          let added = step_is_added keys sub.id directory (link_to File name number) named done in
          change_is_step keys nodes layout (with_linked number directory name) (updates sub number inode named) read (makes named added each) (are_few sub number inode directory name named added each)))))

    module _ (refused : (sub : Sub) → IsShared keys from to sub → (directory : ℕ) (link : Link) → plain.check_name link.name (names_shown keys sub.id directory) ≡ refusal_of (step_to_add keys sub.id directory link))
        (counted : (sub : Sub) (number : ℕ) (inode : Inode) → IsShared keys from to sub → IsFileShown keys sub.id number inode → inode.links ≡ links_of number (directories_in keys sub.id))
        (makes : (sub : Sub) (number : ℕ) (inode : Inode) (directory : ℕ) (name : List ℕ) → IsToLink keys from to sub number inode directory name → MakesLink sub number inode directory name) where
      -- A file of a subvolume is linked, or refused, as by the forest,
      file_agrees : (sub : Sub) (number : ℕ) (inode : Inode) → IsShared keys from to sub → IsFileShown keys sub.id number inode
          → Agrees P (file_linked keys to sub number inode) (directory_in (tree_of keys read sub) (parent_names to) >>= link_place_in to number)
      file_agrees sub number inode shared file =
          subst (λ (r : Result FoundDirectory Cause). Agrees P (file_linked keys to sub number inode) (r >>= link_place_in to number)) (sym (directory_is keys read sub (parent_names to)))
          (agrees-seen P (directory_at keys read sub) (directory_under keys sub (parent_names to)) _ (link_place_in to number) (λ directory found.
          agrees-refused_if P sub.read_only ReadOnly _ _ (λ changeable.
          subst (Agrees P (ok_or (last_name to) Exists >>= (λ name. file_named keys sub.id number inode directory name)))
          (sym (new_name_then to (names_shown keys sub.id directory) (λ name. refused_if (nat_le links_max (links_of number (directories_in keys sub.id))) LinksFull >>= (λ _. Ok (record { directory = directory; name = name; number = number })))))
          (agrees-same P (ok_or (last_name to) Exists) _ _ (λ name last.
          named_agrees sub number inode directory name (refused sub shared directory) (counted sub number inode shared file)
          (makes sub number inode directory name (record { shared = shared; file = file; found = found_is_directory keys sub (parent_names to) directory found; last = some_of (last_name to) Exists name last })))))))

      -- and so is what stands at a path of it.
      in_agrees : (sub : Sub) → IsShared keys from to sub
          → Agrees P (linked_in keys from to sub) (walk (tree_of keys read sub) from.names sub.root >>= (λ number. bytes_in (tree_of keys read sub) number >>= (λ _. directory_in (tree_of keys read sub) (parent_names to) >>= link_place_in to number)))
      in_agrees sub shared =
          subst (λ (r : Result ℕ Cause). Agrees P (linked_in keys from to sub) (r >>= (λ number. bytes_in (tree_of keys read sub) number >>= (λ _. directory_in (tree_of keys read sub) (parent_names to) >>= link_place_in to number)))) (sym (walks keys read sub from.names sub.root))
          (agrees-same P (lead_to keys sub.id from.names sub.root) _ _ (λ number led.
          subst (λ (r : Result (List ℕ) Cause). Agrees P (ok_or (file_shown keys sub.id number) IsDir >>= (λ inode. file_linked keys to sub number inode)) (r >>= (λ _. directory_in (tree_of keys read sub) (parent_names to) >>= link_place_in to number))) (sym (file_is keys read sub number))
          (agrees-seen P (bytes_of keys read sub number) (ok_or (file_shown keys sub.id number) IsDir) (λ inode. file_linked keys to sub number inode) (λ _. directory_in (tree_of keys read sub) (parent_names to) >>= link_place_in to number) (λ inode shown.
          file_agrees sub number inode shared (shown_is_file keys sub.id number inode (some_of (file_shown keys sub.id number) IsDir inode shown))))))

      -- A file is linked, or refused, as by the forest.
      pub linked_agrees : (planned : Result (List Update) Cause) → planned ≡ linked_at keys from to → IfMade planned (All IsUpdate) → Agrees (AreOfStep keys nodes layout read) planned (linked from to (forest_in keys read))
      linked_agrees planned is fits =
          agrees_where (All IsUpdate) (AreOfStep keys nodes layout read) planned (linked from to (forest_in keys read))
          (agrees_at_end (λ us next. All IsUpdate us → AreOfStep keys nodes layout read us next) (λ place. next_of Okay (in_subvolume from.sub (with_name place) (forest_in keys read))) planned (link_place from to (forest_in keys read))
          (subst (λ p. Agrees P p (link_place from to (forest_in keys read))) (sym is)
          (subst (Agrees P (linked_at keys from to)) (sym (link_place-along from to (forest_in keys read)))
          (subst (λ (r : Result Tree Cause). Agrees P (linked_at keys from to) (r >>= (λ tree. walk tree from.names tree.root >>= (λ number. bytes_in tree number >>= (λ _. directory_in tree (parent_names to) >>= link_place_in to number))))) (sym (shared_is keys read from to))
          (agrees-seen P (tree_of keys read) (shared_sub keys from to) (linked_in keys from to) (λ tree. walk tree from.names tree.root >>= (λ number. bytes_in tree number >>= (λ _. directory_in tree (parent_names to) >>= link_place_in to number))) (λ sub found.
          in_agrees sub (sub_is_shared keys from to sub found)))))))
          fits
