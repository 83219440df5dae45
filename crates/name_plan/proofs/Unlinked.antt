-- What unlinking a file comes to is what the forest makes of it: its refusals in their order, and the file with one name less.
use Rattle.std.proofs.Common.{◌≡◌, ℕ, zero, suc, ◌-◌, ◌≤◌, Bool, true, false, cond, Option, Some, None, List, [], ◌∷◌, ◌++◌, refl, sym, ap, ◌∙◌, subst, arith, inr}
use Rattle.std.specs.Prelude.{◌==◌, ◌≢◌, All, IfSome, Result, Ok, Err, option_map}
use Rattle.std.specs.Int.{IsInRange}
use Rattle.std.specs.Option.{ok_or}
use Rattle.std.proofs.lemmas.Bool.{false≢true, eq-eqb}
use Rattle.dirent_keys.specs.Names.{updates_to_remove}
use Rattle.forest_ops.specs.Along.{directory_along, unlink_place_in}
use Rattle.forest_ops.specs.AlongLaws.{unlink_place-along, unlink_place-root}
use Rattle.forest_ops.specs.RefusalLaws.{agrees-refused_if, agrees-same, agrees-seen, then_assoc}
use Rattle.forest_ops.specs.Refusals.{◌>>=◌, Agrees, refused_if, result_map}
use Rattle.forest_ops.specs.Steps.{Next, in_subvolume, next_of, unlink_place}
use Rattle.forest_ops.specs.Steps as forest_steps
use Rattle.forest_ops.specs.Trees.{Place as NamePlace, unlinked}
use Rattle.forest_ops.specs.Walking.{Directory, bytes_in}
use Rattle.forest_ops.specs.Walking as forest_walk
use Rattle.forest_ops.specs.declared.operation.Cause.{Cause}
use Rattle.forest_ops.specs.declared.operation.Cause.TheVariants.{IsDir, NotFound, ReadOnly}
use Rattle.forest_ops.specs.declared.operation.Reply.TheVariants.{Okay}
use Rattle.inode_keys.specs.Inodes.{note_gone, with_links as with_count}
use Rattle.key_meaning.specs.Checks.{IsLiveLeaf, IsSound}
use Rattle.key_meaning.specs.Forest.{Read, counter_in, forest_in, inode_in, kind_in, links_in, names_in, number_in, sub_named}
use Rattle.key_meaning.specs.Forest as keys_mean
use Rattle.key_meaning.specs.ForestLaws.{name_at}
use Rattle.key_meaning.specs.Tidy.{IsDrawn, IsTidy}
use Rattle.key_steps.specs.Kept.{IsKept}
use Rattle.key_steps.specs.Shown.{Shown, kind_of, shown_in, with_inode}
use Rattle.key_steps.specs.Steps.{MaySet, Steps, inode_value}
use Rattle.key_view.specs.Changes.{updates_to_see}
use Rattle.name_plan.proofs.ChangedForests.{AreOfChange, change_is_step}
use Rattle.name_plan.proofs.FewUpdates.{AreFew, few_are_made, one_few, seen_few, then_few}
use Rattle.name_plan.proofs.FilesShown.{bytes_of, file_is, shown_is_file}
use Rattle.name_plan.proofs.GoodNames.{some_of}
use Rattle.name_plan.proofs.Results.{agrees_where}
use Rattle.name_plan.proofs.Roots.{no_file, path_is_root, sub_is_named, tree_is}
use Rattle.name_plan.specs.Files.{file_shown}
use Rattle.name_plan.specs.Gone.{last_unlinked, name_unlinked, root_unlinked, unlinked_at, updates_to_drop, updates_to_unlink}
use Rattle.path_plan.specs.Looking.{directory_of, spot_along, sub_of}
use Rattle.path_plan.specs.Made.{AreMade, AreOfStep, IfMade, IsStepMade}
use Rattle.path_plan.specs.PathLaws.{IsSpot, along_is, spot_is}
use Rattle.path_plan.specs.declared.walking.Spot.{Spot}
use Rattle.plain_forest.specs.Forest.{Forest, Tree}
use Rattle.plain_forest.specs.Maps.{name_cmp, value_at}
use Rattle.plain_forest.specs.Names.{last_name, parent_names}
use Rattle.plain_forest.specs.declared.path.Path.{Path}
use Rattle.vol_types.specs.Btrees.{btree_code}
use Rattle.vol_types.specs.KeyMaps.{KeyMap, with_updates}
use Rattle.vol_types.specs.Ranges.{IsInode, most_links}
use Rattle.vol_types.specs.Standing.{IsUpdate}
use Rattle.vol_types.specs.declared.keys.Update.{Update}
use Rattle.vol_types.specs.declared.layout.Layout.{Layout}
use Rattle.vol_types.specs.declared.pointers.Place.{Place}
use Rattle.vol_types.specs.declared.positions.Btree.TheVariants.{Dirents, Extents, Inodes}
use Rattle.vol_types.specs.declared.values.FileKind.TheVariants.{Directory as OfDirectory, File}
use Rattle.vol_types.specs.declared.values.Inode.{Inode}
use Rattle.vol_types.specs.declared.values.Sub.{Sub}
use Rattle.vol_types.specs.declared.values.Value.TheVariants as values

-- what is left of a file's inode with one link less
abbrev pub inode_left : Inode → Option Inode
inode_left inode = cond (inode.links == 1) None (Some (record inode { links = inode.links - 1 }))

-- the updates of a name that goes from a file
abbrev pub updates_gone : KeyMap → List ℕ → Spot → ℕ → Inode → List Update
updates_gone keys name spot number inode = updates_to_remove keys spot.sub.id spot.number name ++ updates_to_unlink keys spot.sub.id number inode

-- They are three at most.
few_unlinked : (keys : KeyMap) (id number : ℕ) (inode : Inode) → AreFew 2 (updates_to_unlink keys id number inode)
few_unlinked keys id number inode = by (inode.links == 1)
  where
    by : (b : Bool) → AreFew 2 (cond b (updates_to_drop keys id number) (updates_to_see keys Inodes 0 number id (Some (values.Inode (with_count inode (inode.links - 1))))))
    by true =
        then_few 1 1 (updates_to_see keys Inodes 0 number id None) (note_gone id number ∷ []) (seen_few keys Inodes 0 number id None (λ same. omega (arith, ap btree_code same)))
        (one_few (note_gone id number) refl (λ same. omega (arith, ap btree_code same)))
    by false = let few = seen_few keys Inodes 0 number id (Some (values.Inode (with_count inode (inode.links - 1)))) (λ same. omega (arith, ap btree_code same)) in
        record { count_fits = omega (arith, few.count_fits); leaves = few.leaves; extents = few.extents }

pub unlinked_are_made : (keys : KeyMap) (name : List ℕ) (spot : Spot) (number : ℕ) (inode : Inode) → All IsUpdate (updates_gone keys name spot number inode) → AreMade (updates_gone keys name spot number inode)
unlinked_are_made keys name spot number inode each =
    few_are_made 3 (updates_gone keys name spot number inode) (omega arith)
    (then_few 1 2 (updates_to_remove keys spot.sub.id spot.number name) (updates_to_unlink keys spot.sub.id number inode)
    (seen_few keys Dirents spot.number _ spot.sub.id _ (λ same. omega (arith, ap btree_code same))) (few_unlinked keys spot.sub.id number inode)) each

-- A file's inode with one link less is in range where it isn't the last.
less_fits : (inode : Inode) → IsInode inode → inode.links ≢ 1 → IsInode (with_count inode (inode.links - 1))
less_fits inode fits more = record { links = by inode.links fits.links.0 more fits.links.1; size = fits.size }
  where
    by : (links : ℕ) → 1 ≤ links → links ≢ 1 → links ≤ most_links inode.kind → IsInRange 1 (most_links inode.kind) (links - 1)
    by zero least more most = absurd (omega (arith, least))
    by (suc zero) least more most = absurd (more refl)
    by (suc (suc links)) least more most = (omega arith, omega (arith, most))

-- A file that has one link less is a step: the last one takes it away, and notes it as gone.
pub unlinks : (keys : KeyMap) (nodes : List Place) (layout : Layout) (id number : ℕ) (inode : Inode) → inode_in keys id number ≡ Some inode → inode.kind ≡ File → IsInode inode → IsDrawn keys number
    → ((left : Option Inode) → IfSome left IsInode → IsDrawn keys number → MaySet keys id number left → Steps keys (with_updates (updates_to_see keys Inodes 0 number id (option_map inode_value left)) keys) nodes layout id (with_inode number left (shown_in keys id)) (counter_in keys))
    → (kind_in keys id number ≡ Some File → Steps keys (with_updates (updates_to_drop keys id number) keys) nodes layout id (with_inode number None (shown_in keys id)) (counter_in keys))
    → Steps keys (with_updates (updates_to_unlink keys id number inode) keys) nodes layout id (with_inode number (inode_left inode) (shown_in keys id)) (counter_in keys)
unlinks keys nodes layout id number inode shows kind fits drawn sets goes = by (inode.links == 1) refl
  where
    by : (b : Bool) → (inode.links == 1) ≡ b
        → Steps keys (with_updates (cond b (updates_to_drop keys id number) (updates_to_see keys Inodes 0 number id (Some (values.Inode (with_count inode (inode.links - 1)))))) keys) nodes layout id
        (with_inode number (cond b None (Some (record inode { links = inode.links - 1 }))) (shown_in keys id)) (counter_in keys)
    by true last = goes (ap (option_map (λ (i : Inode). i.kind)) shows ∙ ap Some kind)
    by false more = sets (Some (with_count inode (inode.links - 1))) (less_fits inode fits (λ same. false≢true (sym more ∙ eq-eqb inode.links 1 same))) drawn
        (inr (record { old = inode; shows = shows; stays = refl; goes = λ none. absurd (false≢true (sym none)) }))

-- What a name of a directory comes to is what its number does,
module _ (keys : KeyMap) (name : List ℕ) (spot : Spot) (number : ℕ) (leads : number_in keys spot.sub.id spot.number name ≡ Some number) where
  abbrev of_inode : ℕ → Option Inode → Result (List Update) Cause
  of_inode n o = ok_or o IsDir >>= (λ (inode : Inode). refused_if spot.sub.read_only ReadOnly >>= (λ _. Ok (updates_gone keys name spot n inode)))

  of_number : of_inode number (file_shown keys spot.sub.id number) ≡ name_unlinked keys name spot
  of_number = ap (λ o. ok_or o NotFound >>= (λ n. of_inode n (file_shown keys spot.sub.id n))) (sym leads)

  -- which is refused where that is no file,
  pub unlinks_no_file : file_shown keys spot.sub.id number ≡ None → Err IsDir ≡ name_unlinked keys name spot
  unlinks_no_file none = ap (of_inode number) (sym none) ∙ of_number

  -- or may only be read,
  pub unlinks_locked : (inode : Inode) → file_shown keys spot.sub.id number ≡ Some inode → spot.sub.read_only ≡ true → Err ReadOnly ≡ name_unlinked keys name spot
  unlinks_locked inode shows locked = ap (λ b. refused_if b ReadOnly >>= (λ _. Ok (updates_gone keys name spot number inode))) (sym locked) ∙ ap (of_inode number) (sym shows) ∙ of_number

  -- and else the updates of both.
  pub unlinks_name : (inode : Inode) → file_shown keys spot.sub.id number ≡ Some inode → spot.sub.read_only ≡ false → Ok (updates_gone keys name spot number inode) ≡ name_unlinked keys name spot
  unlinks_name inode shows changeable = ap (λ b. refused_if b ReadOnly >>= (λ _. Ok (updates_gone keys name spot number inode))) (sym changeable) ∙ ap (of_inode number) (sym shows) ∙ of_number

module _ (keys : KeyMap) (nodes : List Place) (layout : Layout) (path : Path) where
  -- where a name is that goes
  abbrev pub place_gone : List ℕ → Spot → ℕ → NamePlace
  place_gone name spot number = record { directory = spot.number; name = name; number = number }

  module _ (read : Read) where
    abbrev forest : Forest
    forest = forest_in keys read

    abbrev Q : List Update → Next → Type 0
    Q = AreOfStep keys nodes layout read

    -- where they may be made, they are of the step
    abbrev P : List Update → Next → Type 0
    P updates next = All IsUpdate updates → Q updates next

    abbrev end : NamePlace → Result Next Cause
    end place = Ok (next_of Okay (in_subvolume path.sub (unlinked place) forest))

    -- what a name of a directory comes to in the forest, by what the keys show
    abbrev tested : List ℕ → Spot → Result Next Cause
    tested name spot = do
      number ← ok_or (number_in keys spot.sub.id spot.number name) NotFound
      inode ← ok_or (file_shown keys spot.sub.id number) IsDir
      _ ← refused_if spot.sub.read_only ReadOnly
      end (place_gone name spot number)

    flat : (name : List ℕ) (spot : Spot) → (unlink_place_in name (directory_of keys read spot) >>= end) ≡ tested name spot
    flat name spot =
        then_assoc (ok_or (value_at name_cmp name (names_in keys spot.sub.id spot.number)) NotFound) rest end
        ∙ ap (λ o. ok_or o NotFound >>= (λ n. rest n >>= end)) (name_at keys spot.sub.id spot.number name)
        ∙ (λ i. ok_or (number_in keys spot.sub.id spot.number name) NotFound >>= (λ n. each n i))
      where
        rest : ℕ → Result NamePlace Cause
        rest n = bytes_in (keys_mean.tree_of keys read spot.sub) n >>= (λ _. refused_if spot.sub.read_only ReadOnly >>= (λ _. Ok (place_gone name spot n)))

        each : (n : ℕ) → (rest n >>= end) ≡ (ok_or (file_shown keys spot.sub.id n) IsDir >>= (λ (inode : Inode). refused_if spot.sub.read_only ReadOnly >>= (λ _. end (place_gone name spot n))))
        each n =
            ap (λ (b : Result (List ℕ) Cause). (b >>= (λ _. refused_if spot.sub.read_only ReadOnly >>= (λ _. Ok (place_gone name spot n)))) >>= end) (file_is keys read spot.sub n)
            ∙ by (file_shown keys spot.sub.id n) spot.sub.read_only
          where
            by : (o : Option Inode) (locked : Bool) → ((result_map (bytes_of keys read spot.sub n) (ok_or o IsDir) >>= (λ _. refused_if locked ReadOnly >>= (λ _. Ok (place_gone name spot n)))) >>= end)
                ≡ (ok_or o IsDir >>= (λ (inode : Inode). refused_if locked ReadOnly >>= (λ _. end (place_gone name spot n))))
            by None locked = refl
            by (Some inode) true = refl
            by (Some inode) false = refl

    -- A name of a directory is unlinked, or refused, as by the forest,
    named_agrees : (name : List ℕ) (spot : Spot) → ((number : ℕ) (inode : Inode) → number_in keys spot.sub.id spot.number name ≡ Some number → file_shown keys spot.sub.id number ≡ Some inode → All IsUpdate (updates_gone keys name spot number inode)
        → AreOfChange keys nodes layout (in_subvolume path.sub (unlinked (place_gone name spot number))) (updates_gone keys name spot number inode)) → Agrees P (name_unlinked keys name spot) (tested name spot)
    named_agrees name spot goes =
        agrees-same P (ok_or (number_in keys spot.sub.id spot.number name) NotFound) _ _ (λ number leads.
        agrees-same P (ok_or (file_shown keys spot.sub.id number) IsDir) _ _ (λ inode shows.
        agrees-refused_if P spot.sub.read_only ReadOnly _ _ (λ changeable each.
        change_is_step keys nodes layout (in_subvolume path.sub (unlinked (place_gone name spot number))) (updates_gone keys name spot number inode) read
        (goes number inode (some_of (number_in keys spot.sub.id spot.number name) NotFound number leads) (some_of (file_shown keys spot.sub.id number) IsDir inode shows) each) (unlinked_are_made keys name spot number inode each))))

    -- and a root is refused.
    root_agrees : ((sub : Sub) → sub_named keys path.sub ≡ Some sub → kind_in keys sub.id sub.root ≡ Some OfDirectory)
        → Agrees P (root_unlinked keys path) ((forest_walk.tree_of path forest >>= (λ (tree : Tree). bytes_in tree tree.root >>= (λ _. refused_if tree.locked ReadOnly >>= (λ _. Err IsDir)))) >>= end)
    root_agrees roots =
        subst (Agrees P (root_unlinked keys path)) (sym (ap (λ (r : Result Tree Cause). (r >>= after) >>= end) (tree_is keys read path) ∙ then_assoc (result_map (keys_mean.tree_of keys read) (sub_of keys path)) after end))
        (agrees-seen P (keys_mean.tree_of keys read) (sub_of keys path) (λ _. Err IsDir) (λ tree. after tree >>= end) (λ sub found.
        subst (λ (r : Result NamePlace Cause). Agrees P (Err IsDir) (r >>= end)) (sym (refused sub (roots sub (sub_is_named keys path sub found)))) refl))
      where
        after : Tree → Result NamePlace Cause
        after tree = bytes_in tree tree.root >>= (λ _. refused_if tree.locked ReadOnly >>= (λ _. Err IsDir))

        refused : (sub : Sub) → kind_in keys sub.id sub.root ≡ Some OfDirectory → after (keys_mean.tree_of keys read sub) ≡ Err IsDir
        refused sub kind = ap (λ (b : Result (List ℕ) Cause). b >>= (λ _. refused_if sub.read_only ReadOnly >>= (λ _. Err IsDir)))
            (file_is keys read sub sub.root ∙ ap (λ o. result_map (bytes_of keys read sub sub.root) (ok_or o IsDir)) (no_file keys sub.id sub.root kind))

  -- A file is unlinked at a path, or refused, as by the forest.
  pub unlink_agrees : ((sub : Sub) → sub_named keys path.sub ≡ Some sub → kind_in keys sub.id sub.root ≡ Some OfDirectory)
      → ((name : List ℕ) (spot : Spot) (number : ℕ) (inode : Inode) → last_name path ≡ Some name → IsSpot keys path spot → number_in keys spot.sub.id spot.number name ≡ Some number → file_shown keys spot.sub.id number ≡ Some inode
      → All IsUpdate (updates_gone keys name spot number inode) → AreOfChange keys nodes layout (in_subvolume path.sub (unlinked (place_gone name spot number))) (updates_gone keys name spot number inode))
      → (planned : Result (List Update) Cause) → planned ≡ unlinked_at keys path → IfMade planned (All IsUpdate) → IsStepMade keys nodes layout (forest_steps.unlinked_at path) planned
  unlink_agrees roots goes planned is fits read = agrees_where (All IsUpdate) (Q read) planned (forest_steps.unlinked_at path (forest read)) (subst (λ p. Agrees (P read) p (forest_steps.unlinked_at path (forest read))) (sym is) (by (last_name path) refl)) fits
    where
      by : (last : Option (List ℕ)) → last_name path ≡ last → Agrees (P read) (last_unlinked keys path last) (forest_steps.unlinked_at path (forest read))
      by None none = subst (λ (r : Result NamePlace Cause). Agrees (P read) (root_unlinked keys path) (r >>= end read)) (sym (unlink_place-root path (forest read) (path_is_root path none))) (root_agrees read roots)
      by (Some name) last =
          subst (Agrees (P read) (last_unlinked keys path (Some name)))
          (sym (ap (λ (r : Result NamePlace Cause). r >>= end read) (unlink_place-along path (forest read) name last)
          ∙ then_assoc (directory_along path (parent_names path) (forest read)) (unlink_place_in name) (end read)
          ∙ ap (λ (r : Result Directory Cause). r >>= (λ directory. unlink_place_in name directory >>= end read)) (along_is keys read path (parent_names path))))
          (agrees-seen (P read) (directory_of keys read) (spot_along keys path (parent_names path)) (name_unlinked keys name) (λ directory. unlink_place_in name directory >>= end read) (λ spot found.
          subst (Agrees (P read) (name_unlinked keys name spot)) (sym (flat read name spot))
          (named_agrees read name spot (λ number inode. goes name spot number inode last (spot_is keys path (parent_names path) spot found)))))
