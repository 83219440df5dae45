-- What removing a directory comes to is what the forest makes of it: its refusals in their order, and one directory less.
use Rattle.std.proofs.Common.{◌≡◌, ℕ, Bool, true, false, cond, Option, Some, None, List, [], ◌++◌, refl, sym, ap, ◌∙◌, subst, arith, length}
use Rattle.std.specs.Prelude.{◌==◌, All, Result, Ok, Err, not, option_map}
use Rattle.std.specs.Ordering.{nat_cmp}
use Rattle.std.specs.Option.{ok_or}
use Rattle.std.proofs.lemmas.Bool.{true≢false}
use Rattle.std.proofs.lemmas.Option.{same_Some, none-some as none_some}
use Rattle.dirent_keys.specs.Names.{updates_to_remove}
use Rattle.forest_ops.specs.Along.{directory_along, rmdir_place_in}
use Rattle.forest_ops.specs.AlongLaws.{rmdir_place-along, rmdir_place-root}
use Rattle.forest_ops.specs.RefusalLaws.{agrees-refused_if, agrees-same, agrees-seen, then_assoc}
use Rattle.forest_ops.specs.Refusals.{◌>>=◌, Agrees, refused_if, result_map}
use Rattle.forest_ops.specs.Steps.{Next, in_subvolume, next_of, removed}
use Rattle.forest_ops.specs.Trees.{Place as NamePlace, without_directory}
use Rattle.forest_ops.specs.Walking.{Directory, tree_of}
use Rattle.forest_ops.specs.Walking as forest_walk
use Rattle.forest_ops.specs.declared.operation.Cause.{Cause}
use Rattle.forest_ops.specs.declared.operation.Cause.TheVariants.{Loop, NotDir, NotEmpty, NotFound, ReadOnly}
use Rattle.forest_ops.specs.declared.operation.Reply.TheVariants.{Okay}
use Rattle.key_meaning.specs.Forest.{Read, forest_in, is_directory, kind_in, names_in, number_in, sub_named}
use Rattle.key_meaning.specs.Forest as keys_mean
use Rattle.key_meaning.specs.ForestLaws.{directory_at, name_at}
use Rattle.key_view.specs.Changes.{updates_to_see}
use Rattle.name_plan.proofs.ChangedForests.{AreOfChange, change_is_step}
use Rattle.name_plan.proofs.FewUpdates.{few_are_made, seen_few, then_few}
use Rattle.name_plan.proofs.GoodNames.{some_of}
use Rattle.name_plan.proofs.Results.{agrees_where}
use Rattle.name_plan.proofs.Roots.{path_is_root, sub_is_named, tree_is}
use Rattle.name_plan.specs.Gone.{has_names, last_removed, name_removed, removed_at, root_removed}
use Rattle.path_plan.specs.Looking.{directory_of, spot_along, sub_of}
use Rattle.path_plan.specs.Made.{AreMade, AreOfStep, IfMade, IsStepMade}
use Rattle.path_plan.specs.PathLaws.{IsSpot, along_is, held, spot_is}
use Rattle.path_plan.specs.declared.walking.Spot.{Spot}
use Rattle.plain_forest.specs.Forest.{Forest, Names, Tree}
use Rattle.plain_forest.specs.Maps.{name_cmp, value_at}
use Rattle.plain_forest.specs.Names.{last_name, parent_names}
use Rattle.plain_forest.specs.declared.path.Path.{Path}
use Rattle.vol_types.specs.Btrees.{btree_code}
use Rattle.vol_types.specs.KeyMaps.{KeyMap, with_updates}
use Rattle.vol_types.specs.Standing.{IsUpdate}
use Rattle.vol_types.specs.declared.keys.Update.{Update}
use Rattle.vol_types.specs.declared.layout.Layout.{Layout}
use Rattle.vol_types.specs.declared.pointers.Place.{Place}
use Rattle.vol_types.specs.declared.positions.Btree.TheVariants.{Dirents, Inodes}
use Rattle.vol_types.specs.declared.values.FileKind.TheVariants.{Directory as OfDirectory}
use Rattle.vol_types.specs.declared.values.Inode.{Inode}
use Rattle.vol_types.specs.declared.values.Sub.{Sub}

-- the updates of a directory that goes with its name
abbrev pub updates_gone : KeyMap → List ℕ → Spot → ℕ → List Update
updates_gone keys name spot number = updates_to_remove keys spot.sub.id spot.number name ++ updates_to_see keys Inodes 0 number spot.sub.id None

-- They are two at most.
pub removed_are_made : (keys : KeyMap) (name : List ℕ) (spot : Spot) (number : ℕ) → All IsUpdate (updates_gone keys name spot number) → AreMade (updates_gone keys name spot number)
removed_are_made keys name spot number each =
    few_are_made 2 (updates_gone keys name spot number) (omega arith)
    (then_few 1 1 (updates_to_remove keys spot.sub.id spot.number name) (updates_to_see keys Inodes 0 number spot.sub.id None)
    (seen_few keys Dirents spot.number _ spot.sub.id _ (λ same. omega (arith, ap btree_code same))) (seen_few keys Inodes 0 number spot.sub.id None (λ same. omega (arith, ap btree_code same)))) each

not_false : (b : Bool) → not b ≡ false → b ≡ true
not_false true is = refl
not_false false is = absurd (true≢false is)

-- A directory that shows has an inode.
pub directory_shows : (o : Option Inode) → option_map (λ (i : Inode). i.kind) o ≡ Some OfDirectory → (inode : Inode) × (o ≡ Some inode) × (inode.kind ≡ OfDirectory)
directory_shows None is = absurd (none_some OfDirectory is)
directory_shows (Some inode) is = (inode, refl, same_Some inode.kind OfDirectory is)

-- A directory without names is an empty one of the tree.
pub bare_there : (keys : KeyMap) (read : Read) (sub : Sub) (number : ℕ) → is_directory (kind_in keys sub.id number) ≡ true → names_in keys sub.id number ≡ [] → value_at nat_cmp number (keys_mean.tree_of keys read sub).directories ≡ Some []
bare_there keys read sub number kind none = directory_at keys sub.id number ∙ ap (λ b. cond b (Some (names_in keys sub.id number)) None) kind ∙ ap Some none

-- What a name of a directory comes to is what its number does,
module _ (keys : KeyMap) (name : List ℕ) (spot : Spot) (number : ℕ) (leads : number_in keys spot.sub.id spot.number name ≡ Some number) where
  abbrev of_tests : ℕ → Bool → Bool → Bool → Result (List Update) Cause
  of_tests n directory locked some = refused_if (not directory) NotDir >>= (λ _. refused_if locked ReadOnly >>= (λ _. refused_if some NotEmpty >>= (λ _. Ok (updates_gone keys name spot n))))

  abbrev of_number : ℕ → Result (List Update) Cause
  of_number n = of_tests n (is_directory (kind_in keys spot.sub.id n)) spot.sub.read_only (has_names keys spot.sub.id n)

  named : of_number number ≡ name_removed keys name spot
  named = ap (λ o. ok_or o NotFound >>= of_number) (sym leads)

  -- which is refused where that is no directory,
  pub removes_no_directory : is_directory (kind_in keys spot.sub.id number) ≡ false → Err NotDir ≡ name_removed keys name spot
  removes_no_directory other = ap (λ b. of_tests number b spot.sub.read_only (has_names keys spot.sub.id number)) (sym other) ∙ named

  -- or may only be read,
  pub removes_locked : is_directory (kind_in keys spot.sub.id number) ≡ true → spot.sub.read_only ≡ true → Err ReadOnly ≡ name_removed keys name spot
  removes_locked kind locked = (λ i. of_tests number (sym kind i) (sym locked i) (has_names keys spot.sub.id number)) ∙ named

  -- or has names,
  pub removes_full : is_directory (kind_in keys spot.sub.id number) ≡ true → spot.sub.read_only ≡ false → has_names keys spot.sub.id number ≡ true → Err NotEmpty ≡ name_removed keys name spot
  removes_full kind changeable some = (λ i. of_tests number (sym kind i) (sym changeable i) (sym some i)) ∙ named

  -- and else the updates of both.
  pub removes_name : is_directory (kind_in keys spot.sub.id number) ≡ true → spot.sub.read_only ≡ false → has_names keys spot.sub.id number ≡ false → Ok (updates_gone keys name spot number) ≡ name_removed keys name spot
  removes_name kind changeable none = (λ i. of_tests number (sym kind i) (sym changeable i) (sym none i)) ∙ named

module _ (keys : KeyMap) (nodes : List Place) (layout : Layout) (path : Path) where
  -- where a name is that goes
  abbrev pub place_gone : List ℕ → Spot → ℕ → NamePlace
  place_gone name spot number = record { directory = spot.number; name = name; number = number }

  module _ (read : Read) where
    abbrev forest : Forest
    forest = forest_in keys read

    abbrev Q : List Update → Next → Type 0
    Q = AreOfStep keys nodes layout read

    -- where they may be made, they are of the step
    abbrev P : List Update → Next → Type 0
    P updates next = All IsUpdate updates → Q updates next

    abbrev end : NamePlace → Result Next Cause
    end place = Ok (next_of Okay (in_subvolume path.sub (without_directory place) forest))

    -- what a name of a directory comes to in the forest, by what the keys show
    abbrev tested : List ℕ → Spot → Result Next Cause
    tested name spot = do
      number ← ok_or (number_in keys spot.sub.id spot.number name) NotFound
      _ ← refused_if (not (is_directory (kind_in keys spot.sub.id number))) NotDir
      _ ← refused_if spot.sub.read_only ReadOnly
      _ ← refused_if (has_names keys spot.sub.id number) NotEmpty
      end (place_gone name spot number)

    flat : (name : List ℕ) (spot : Spot) → ((number : ℕ) → not (length (names_in keys spot.sub.id number) == 0) ≡ has_names keys spot.sub.id number) → (rmdir_place_in name (directory_of keys read spot) >>= end) ≡ tested name spot
    flat name spot emptied =
        then_assoc (ok_or (value_at name_cmp name (names_in keys spot.sub.id spot.number)) NotFound) rest end
        ∙ ap (λ o. ok_or o NotFound >>= (λ n. rest n >>= end)) (name_at keys spot.sub.id spot.number name)
        ∙ (λ i. ok_or (number_in keys spot.sub.id spot.number name) NotFound >>= (λ n. each n i))
      where
        after : ℕ → Names → Result NamePlace Cause
        after n names = refused_if spot.sub.read_only ReadOnly >>= (λ _. refused_if (not (length names == 0)) NotEmpty >>= (λ _. Ok (place_gone name spot n)))

        rest : ℕ → Result NamePlace Cause
        rest n = forest_walk.names_in (keys_mean.tree_of keys read spot.sub) n >>= after n

        each : (n : ℕ) → (rest n >>= end)
            ≡ (refused_if (not (is_directory (kind_in keys spot.sub.id n))) NotDir >>= (λ _. refused_if spot.sub.read_only ReadOnly >>= (λ _. refused_if (has_names keys spot.sub.id n) NotEmpty >>= (λ _. end (place_gone name spot n)))))
        each n =
            ap (λ (r : Result Names Cause). (r >>= after n) >>= end) (held keys read spot.sub n)
            ∙ by (not (is_directory (kind_in keys spot.sub.id n))) spot.sub.read_only
            ∙ ap (λ b. refused_if (not (is_directory (kind_in keys spot.sub.id n))) NotDir >>= (λ _. refused_if spot.sub.read_only ReadOnly >>= (λ _. refused_if b NotEmpty >>= (λ _. end (place_gone name spot n))))) (emptied n)
          where
            last : (some : Bool) → ((refused_if some NotEmpty >>= (λ _. Ok (place_gone name spot n))) >>= end) ≡ (refused_if some NotEmpty >>= (λ _. end (place_gone name spot n)))
            last true = refl
            last false = refl

            by : (other locked : Bool)
                → (((refused_if other NotDir >>= (λ _. Ok (names_in keys spot.sub.id n))) >>= (λ (names : Names). refused_if locked ReadOnly >>= (λ _. refused_if (not (length names == 0)) NotEmpty >>= (λ _. Ok (place_gone name spot n))))) >>= end)
                ≡ (refused_if other NotDir >>= (λ _. refused_if locked ReadOnly >>= (λ _. refused_if (not (length (names_in keys spot.sub.id n) == 0)) NotEmpty >>= (λ _. end (place_gone name spot n)))))
            by true locked = refl
            by false true = refl
            by false false = last (not (length (names_in keys spot.sub.id n) == 0))

    -- A directory of a name is removed, or refused, as by the forest,
    named_agrees : (name : List ℕ) (spot : Spot)
        → ((number : ℕ) → number_in keys spot.sub.id spot.number name ≡ Some number → is_directory (kind_in keys spot.sub.id number) ≡ true → has_names keys spot.sub.id number ≡ false → All IsUpdate (updates_gone keys name spot number)
        → AreOfChange keys nodes layout (in_subvolume path.sub (without_directory (place_gone name spot number))) (updates_gone keys name spot number)) → Agrees P (name_removed keys name spot) (tested name spot)
    named_agrees name spot goes =
        agrees-same P (ok_or (number_in keys spot.sub.id spot.number name) NotFound) _ _ (λ number leads.
        agrees-refused_if P (not (is_directory (kind_in keys spot.sub.id number))) NotDir _ _ (λ kind.
        agrees-refused_if P spot.sub.read_only ReadOnly _ _ (λ changeable.
        agrees-refused_if P (has_names keys spot.sub.id number) NotEmpty _ _ (λ none each.
        change_is_step keys nodes layout (in_subvolume path.sub (without_directory (place_gone name spot number))) (updates_gone keys name spot number) read
        (goes number (some_of (number_in keys spot.sub.id spot.number name) NotFound number leads) (not_false (is_directory (kind_in keys spot.sub.id number)) kind) none each) (removed_are_made keys name spot number each)))))

    -- and a root is refused.
    root_agrees : ((sub : Sub) → sub_named keys path.sub ≡ Some sub → kind_in keys sub.id sub.root ≡ Some OfDirectory)
        → Agrees P (root_removed keys path) ((tree_of path forest >>= (λ (tree : Tree). forest_walk.names_in tree tree.root >>= (λ (names : Names). refused_if tree.locked ReadOnly >>= (λ _. Err Loop)))) >>= end)
    root_agrees roots =
        subst (Agrees P (root_removed keys path)) (sym (ap (λ (r : Result Tree Cause). (r >>= after) >>= end) (tree_is keys read path) ∙ then_assoc (result_map (keys_mean.tree_of keys read) (sub_of keys path)) after end))
        (agrees-seen P (keys_mean.tree_of keys read) (sub_of keys path) (λ sub. refused_if sub.read_only ReadOnly >>= (λ _. Err Loop)) (λ tree. after tree >>= end) (λ sub found.
        subst (λ (r : Result NamePlace Cause). Agrees P (refused_if sub.read_only ReadOnly >>= (λ _. Err Loop)) (r >>= end)) (sym (refused sub (roots sub (sub_is_named keys path sub found)))) (by sub.read_only)))
      where
        after : Tree → Result NamePlace Cause
        after tree = forest_walk.names_in tree tree.root >>= (λ (names : Names). refused_if tree.locked ReadOnly >>= (λ _. Err Loop))

        refused : (sub : Sub) → kind_in keys sub.id sub.root ≡ Some OfDirectory → after (keys_mean.tree_of keys read sub) ≡ (refused_if sub.read_only ReadOnly >>= (λ _. Err Loop))
        refused sub kind =
            ap (λ (r : Result Names Cause). r >>= (λ (names : Names). refused_if sub.read_only ReadOnly >>= (λ _. Err Loop))) (held keys read sub sub.root)
            ∙ ap (λ k. (refused_if (not (is_directory k)) NotDir >>= (λ _. Ok (names_in keys sub.id sub.root))) >>= (λ (names : Names). refused_if sub.read_only ReadOnly >>= (λ _. Err Loop))) kind

        by : (locked : Bool) → Agrees P (refused_if locked ReadOnly >>= (λ _. Err Loop)) ((refused_if locked ReadOnly >>= (λ _. Err Loop)) >>= end)
        by true = refl
        by false = refl

  -- A directory is removed at a path, or refused, as by the forest.
  pub remove_agrees : ((sub : Sub) → sub_named keys path.sub ≡ Some sub → kind_in keys sub.id sub.root ≡ Some OfDirectory)
      → ((spot : Spot) → IsSpot keys path spot → (number : ℕ) → not (length (names_in keys spot.sub.id number) == 0) ≡ has_names keys spot.sub.id number)
      → ((name : List ℕ) (spot : Spot) (number : ℕ) → last_name path ≡ Some name → IsSpot keys path spot → number_in keys spot.sub.id spot.number name ≡ Some number → is_directory (kind_in keys spot.sub.id number) ≡ true → has_names keys spot.sub.id number ≡ false
      → All IsUpdate (updates_gone keys name spot number) → AreOfChange keys nodes layout (in_subvolume path.sub (without_directory (place_gone name spot number))) (updates_gone keys name spot number))
      → (planned : Result (List Update) Cause) → planned ≡ removed_at keys path → IfMade planned (All IsUpdate) → IsStepMade keys nodes layout (removed path) planned
  remove_agrees roots emptied goes planned is fits read = agrees_where (All IsUpdate) (Q read) planned (removed path (forest read)) (subst (λ p. Agrees (P read) p (removed path (forest read))) (sym is) (by (last_name path) refl)) fits
    where
      by : (last : Option (List ℕ)) → last_name path ≡ last → Agrees (P read) (last_removed keys path last) (removed path (forest read))
      by None none = subst (λ (r : Result NamePlace Cause). Agrees (P read) (root_removed keys path) (r >>= end read)) (sym (rmdir_place-root path (forest read) (path_is_root path none))) (root_agrees read roots)
      by (Some name) last =
          subst (Agrees (P read) (last_removed keys path (Some name)))
          (sym (ap (λ (r : Result NamePlace Cause). r >>= end read) (rmdir_place-along path (forest read) name last)
          ∙ then_assoc (directory_along path (parent_names path) (forest read)) (rmdir_place_in name) (end read)
          ∙ ap (λ (r : Result Directory Cause). r >>= (λ directory. rmdir_place_in name directory >>= end read)) (along_is keys read path (parent_names path))))
          (agrees-seen (P read) (directory_of keys read) (spot_along keys path (parent_names path)) (name_removed keys name) (λ directory. rmdir_place_in name directory >>= end read) (λ spot found.
          let at = spot_is keys path (parent_names path) spot found in
          subst (Agrees (P read) (name_removed keys name spot)) (sym (flat read name spot (emptied spot at)))
          (named_agrees read name spot (λ number. goes name spot number last at))))
