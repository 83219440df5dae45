-- The operations that begin at the directory in which a path ends go on from it, and are refused as it is where there is none.
use Rattle.std.proofs.Common.{◌≡◌, ℕ, zero, suc, ◌-◌, Bool, true, false, Option, Some, None, List, [], ◌∷◌, ◌++◌, refl, sym, ap, ◌∙◌, subst, length, slice_get, take, arith}
use Rattle.std.proofs.lemmas.Bool.{false≢true}
use Rattle.std.proofs.lemmas.Option.{same_Some, none-some as none_some}
use Rattle.std.specs.Prelude.{Result, Ok, Err, ◌==◌, is_ok, is_some, not}
use Rattle.std.specs.Option.{ok_or}
use Rattle.plain_forest.specs.Maps.{name_cmp, value_at}
use Rattle.plain_forest.specs.Names.{last_name, parent_names}
use Rattle.plain_forest.specs.Forest.{Names, Tree, Forest}
use Rattle.plain_forest.specs.declared.path.Path.{Path}
use Rattle.forest_ops.specs.Along.{directory_along, directory_in, link_place_in, made_in, new_place_in, rmdir_place_in, unlink_place_in}
use Rattle.forest_ops.specs.Names.{is_crowded, new_name}
use Rattle.forest_ops.specs.RefusalLaws.{then_assoc, then_ok, then_same}
use Rattle.forest_ops.specs.Refusals.{◌>>=◌, refused_if}
use Rattle.forest_ops.specs.Steps.{Next, drawn, in_subvolume, is_spent, link_place, made, new_place, next_number, next_of, place_at, rmdir_place, unlink_place}
use Rattle.forest_ops.specs.Trees.{Place}
use Rattle.forest_ops.specs.Walking.{Directory, File, Inode, bytes_in, named_in, names_in, shared_tree, tree_of, walk}
use Rattle.forest_ops.specs.declared.operation.Cause.{Cause}
use Rattle.forest_ops.specs.declared.operation.Cause.TheVariants.{Crowded, Exists, IdsSpent, IsDir, Loop, NotEmpty, NotFound, ReadOnly}
use Rattle.forest_ops.specs.declared.operation.Reply.TheVariants.{Okay}

-- What comes of the number and the names of a directory comes of the directory.
in_directory : {X : Type 0} (tree : Tree) (names : List (List ℕ)) (next : Directory → Result X Cause)
    → (walk tree names tree.root >>= (λ number. names_in tree number >>= (λ held. next (record { tree = tree; number = number; names = held })))) ≡ (directory_in tree names >>= next)
in_directory tree names next = by (walk tree names tree.root)
  where
    inner : (number : ℕ) (held : Result Names Cause) → (held >>= (λ ns. next (record { tree = tree; number = number; names = ns }))) ≡ ((held >>= (λ ns. Ok (record { tree = tree; number = number; names = ns }))) >>= next)
    inner number (Ok ns) = refl
    inner number (Err cause) = refl

    by : (to : Result ℕ Cause) → (to >>= (λ number. names_in tree number >>= (λ held. next (record { tree = tree; number = number; names = held }))))
        ≡ ((to >>= (λ number. names_in tree number >>= (λ held. Ok (record { tree = tree; number = number; names = held })))) >>= next)
    by (Ok number) = inner number (names_in tree number)
    by (Err cause) = refl

-- So it is in the tree of a path's subvolume.
along : {X : Type 0} (path : Path) (names : List (List ℕ)) (forest : Forest) (next : Directory → Result X Cause)
    → (tree_of path forest >>= (λ tree. walk tree names tree.root >>= (λ number. names_in tree number >>= (λ held. next (record { tree = tree; number = number; names = held }))))) ≡ (directory_along path names forest >>= next)
along path names forest next = (λ i. tree_of path forest >>= (λ tree. in_directory tree names next i)) ∙ sym (then_assoc (tree_of path forest) (λ tree. directory_in tree names) next)

-- A new inode gets its place in the directory in which the path ends, and is refused as the directory is where there is none.
pub new_place-along : (client : ℕ) (path : Path) (forest : Forest) → new_place client path forest ≡ (directory_along path (parent_names path) forest >>= new_place_in client path forest)
new_place-along client path forest = along path (parent_names path) forest nested ∙ (λ i. directory_along path (parent_names path) forest >>= (λ directory. flat directory i))
  where
    nested : Directory → Result Place Cause
    nested directory = refused_if directory.tree.locked ReadOnly >>= (λ _. new_name path directory.names >>= (λ name. refused_if (is_spent client forest) IdsSpent >>= (λ _. Ok (record { directory = directory.number; name = name; number = next_number client forest }))))

    flat : (directory : Directory) → nested directory ≡ new_place_in client path forest directory
    flat directory = by directory.tree.locked (last_name path)
      where
        after : List ℕ → Result Place Cause
        after name = refused_if (is_spent client forest) IdsSpent >>= (λ _. Ok (record { directory = directory.number; name = name; number = next_number client forest }))

        named : (name : List ℕ) (there crowded : Bool) → ((refused_if there Exists >>= (λ _. refused_if crowded Crowded >>= (λ _. Ok name))) >>= after) ≡ (refused_if there Exists >>= (λ _. refused_if crowded Crowded >>= (λ _. after name)))
        named name true crowded = refl
        named name false true = refl
        named name false false = refl

        by : (locked : Bool) (last : Option (List ℕ))
            → (refused_if locked ReadOnly >>= (λ _. (ok_or last Exists >>= (λ name. refused_if (is_some (value_at name_cmp name directory.names)) Exists >>= (λ _. refused_if (is_crowded name directory.names) Crowded >>= (λ _. Ok name)))) >>= after))
            ≡ (refused_if locked ReadOnly >>= (λ _. ok_or last Exists >>= (λ name. refused_if (is_some (value_at name_cmp name directory.names)) Exists >>= (λ _. refused_if (is_crowded name directory.names) Crowded >>= (λ _. after name)))))
        by true last = refl
        by false None = refl
        by false (Some name) = named name (is_some (value_at name_cmp name directory.names)) (is_crowded name directory.names)

-- So an inode is made there.
pub made-along : (with_inode : Place → Tree → Tree) (client : ℕ) (path : Path) (forest : Forest) → made with_inode client path forest ≡ (directory_along path (parent_names path) forest >>= made_in with_inode client path forest)
made-along with_inode client path forest =
    ap (λ (found : Result Place Cause). found >>= end) (new_place-along client path forest)
    ∙ then_assoc (directory_along path (parent_names path) forest) (new_place_in client path forest) end
    ∙ (λ i. directory_along path (parent_names path) forest >>= (λ directory. flat directory i))
  where
    end : Place → Result Next Cause
    end place = Ok (next_of Okay (drawn client (in_subvolume path.sub (with_inode place) forest)))

    flat : (directory : Directory) → (new_place_in client path forest directory >>= end) ≡ made_in with_inode client path forest directory
    flat directory = by directory.tree.locked (last_name path)
      where
        place_of : List ℕ → Place
        place_of name = record { directory = directory.number; name = name; number = next_number client forest }

        named : (name : List ℕ) (there crowded spent : Bool) → ((refused_if there Exists >>= (λ _. refused_if crowded Crowded >>= (λ _. refused_if spent IdsSpent >>= (λ _. Ok (place_of name))))) >>= end)
            ≡ (refused_if there Exists >>= (λ _. refused_if crowded Crowded >>= (λ _. refused_if spent IdsSpent >>= (λ _. end (place_of name)))))
        named name true crowded spent = refl
        named name false true spent = refl
        named name false false true = refl
        named name false false false = refl

        tests : List ℕ → (Place → Result Next Cause) → Result Next Cause
        tests name next = refused_if (is_some (value_at name_cmp name directory.names)) Exists >>= (λ _. refused_if (is_crowded name directory.names) Crowded >>= (λ _. refused_if (is_spent client forest) IdsSpent >>= (λ _. next (place_of name))))

        by : (locked : Bool) (last : Option (List ℕ))
            → ((refused_if locked ReadOnly >>= (λ _. ok_or last Exists >>= (λ name. refused_if (is_some (value_at name_cmp name directory.names)) Exists >>= (λ _. refused_if (is_crowded name directory.names) Crowded >>= (λ _. refused_if (is_spent client forest) IdsSpent >>= (λ _. Ok (place_of name))))))) >>= end)
            ≡ (refused_if locked ReadOnly >>= (λ _. ok_or last Exists >>= (λ name. tests name end)))
        by true last = refl
        by false None = refl
        by false (Some name) = named name (is_some (value_at name_cmp name directory.names)) (is_crowded name directory.names) (is_spent client forest)

-- A new name of a file gets its place in the directory in which its path ends, after the file is found.
pub link_place-along : (from to : Path) (forest : Forest) → link_place from to forest
    ≡ (shared_tree from to forest >>= (λ tree. walk tree from.names tree.root >>= (λ number. bytes_in tree number >>= (λ _. directory_in tree (parent_names to) >>= link_place_in to number))))
link_place-along from to forest =
    λ i. shared_tree from to forest >>= (λ tree. walk tree from.names tree.root >>= (λ number. bytes_in tree number >>= (λ _. in_directory tree (parent_names to) (link_place_in to number) i)))

-- names that have one at this place, and none behind it, end with it
end_at : (names : List (List ℕ)) (place : ℕ) (name : List ℕ) → length names ≡ suc place → slice_get names place ≡ Some name → names ≡ take place names ++ name ∷ []
end_at [] place name is at = absurd (none_some name at)
end_at (first ∷ []) zero name is at = ap (λ n. n ∷ []) (same_Some first name at)
end_at (first ∷ []) (suc place) name is at = absurd (none_some name at)
end_at (first ∷ second ∷ names) zero name is at = absurd (omega (arith, is))
end_at (first ∷ second ∷ names) (suc place) name is at = ap (λ ns. first ∷ ns) (end_at (second ∷ names) place name (omega (arith, is)) at)

-- names of which one is the last one end with it
end_with : (names : List (List ℕ)) (name : List ℕ) → slice_get names (length names - 1) ≡ Some name → names ≡ take (length names - 1) names ++ name ∷ []
end_with [] name last = absurd (none_some name last)
end_with (first ∷ names) name last = end_at (first ∷ names) (length (first ∷ names) - 1) name (omega arith) last

-- a walk along two lists of names goes on from where the first one leads
walk-append : (tree : Tree) (names more : List (List ℕ)) (number : ℕ) → walk tree (names ++ more) number ≡ (walk tree names number >>= walk tree more)
walk-append tree [] more number = refl
walk-append tree (name ∷ names) more number = (λ i. named_in tree number name >>= (λ next. walk-append tree names more next i)) ∙ sym (then_assoc (named_in tree number name) (walk tree names) (walk tree more))

-- What stands at a path is what its last name leads to in the directory in which it ends.
walk-last : (path : Path) (name : List ℕ) → last_name path ≡ Some name → (tree : Tree) → walk tree path.names tree.root ≡ (directory_in tree (parent_names path) >>= (λ directory. ok_or (value_at name_cmp name directory.names) NotFound))
walk-last path name last tree =
    ap (λ names. walk tree names tree.root) (end_with path.names name last)
    ∙ walk-append tree (parent_names path) (name ∷ []) tree.root
    ∙ (λ i. walk tree (parent_names path) tree.root >>= (λ number. then_ok (named_in tree number name) i))
    ∙ in_directory tree (parent_names path) (λ directory. ok_or (value_at name_cmp name directory.names) NotFound)

-- Where the directory is found the walk to it ends at its number, in its tree.
record IsFound (tree : Tree) (names : List (List ℕ)) (directory : Directory) : Type 0 where
  in_tree : directory.tree ≡ tree
  walked : walk tree names tree.root ≡ Ok directory.number

found_at : (tree : Tree) (names : List (List ℕ)) (directory : Directory) → directory_in tree names ≡ Ok directory → IsFound tree names directory
found_at tree names directory is = by (walk tree names tree.root) refl is
  where
    or_other : Result Directory Cause → Directory
    or_other (Ok found) = found
    or_other (Err cause) = directory

    ended : (number : ℕ) (held : Result Names Cause) → walk tree names tree.root ≡ Ok number → (held >>= (λ ns. Ok (record { tree = tree; number = number; names = ns }))) ≡ Ok directory → IsFound tree names directory
    ended number (Ok ns) to same = subst (IsFound tree names) (ap or_other same) (record { in_tree = refl; walked = to })
    ended number (Err cause) to same = absurd (false≢true (ap (λ (r : Result Directory Cause). is_ok r) same))

    by : (to : Result ℕ Cause) → walk tree names tree.root ≡ to → (to >>= (λ number. names_in tree number >>= (λ ns. Ok (record { tree = tree; number = number; names = ns })))) ≡ Ok directory → IsFound tree names directory
    by (Ok number) to same = ended number (names_in tree number) to same
    by (Err cause) to same = absurd (false≢true (ap (λ (r : Result Directory Cause). is_ok r) same))

module _ (path : Path) (forest : Forest) where
  -- what comes of the tree of a path and of what stands there
  abbrev at_path : {X : Type 0} → (Tree → ℕ → Result X Cause) → Result X Cause
  at_path next = tree_of path forest >>= (λ tree. walk tree path.names tree.root >>= next tree)

  -- what comes of the file at the path of an unlink
  abbrev unlinks : Tree → ℕ → Result Place Cause
  unlinks tree number = bytes_in tree number >>= (λ _. refused_if tree.locked ReadOnly >>= (λ _. place_at path IsDir tree number))

  unlink_flat : unlink_place path forest ≡ at_path unlinks
  unlink_flat = by (tree_of path forest)
    where
      opened : (tree : Tree) (number : ℕ) (bytes : Result (List ℕ) Cause) (locked : Bool)
          → (((bytes >>= (λ b. Ok (record { tree = tree; number = number; bytes = b }))) >>= (λ (file : File). refused_if locked ReadOnly >>= (λ _. Ok file))) >>= (λ (file : File). place_at path IsDir file.tree file.number))
          ≡ (bytes >>= (λ _. refused_if locked ReadOnly >>= (λ _. place_at path IsDir tree number)))
      opened tree number (Ok b) true = refl
      opened tree number (Ok b) false = refl
      opened tree number (Err cause) locked = refl

      walked : (tree : Tree) (to : Result ℕ Cause)
          → ((((to >>= (λ number. Ok (record { tree = tree; number = number }))) >>= (λ (inode : Inode). bytes_in inode.tree inode.number >>= (λ b. Ok (record { tree = inode.tree; number = inode.number; bytes = b }))))
          >>= (λ (file : File). refused_if file.tree.locked ReadOnly >>= (λ _. Ok file))) >>= (λ (file : File). place_at path IsDir file.tree file.number)) ≡ (to >>= unlinks tree)
      walked tree (Ok number) = by_bytes (bytes_in tree number)
        where
          by_bytes : (bytes : Result (List ℕ) Cause)
              → (((bytes >>= (λ b. Ok (record { tree = tree; number = number; bytes = b }))) >>= (λ (file : File). refused_if file.tree.locked ReadOnly >>= (λ _. Ok file))) >>= (λ (file : File). place_at path IsDir file.tree file.number))
              ≡ (bytes >>= (λ _. refused_if tree.locked ReadOnly >>= (λ _. place_at path IsDir tree number)))
          by_bytes (Ok b) = opened tree number (Ok b) tree.locked
          by_bytes (Err cause) = refl
      walked tree (Err cause) = refl

      by : (tree : Result Tree Cause)
          → (((((tree >>= (λ (t : Tree). walk t path.names t.root >>= (λ number. Ok (record { tree = t; number = number })))) >>= (λ (inode : Inode). bytes_in inode.tree inode.number >>= (λ b. Ok (record { tree = inode.tree; number = inode.number; bytes = b }))))
          >>= (λ (file : File). refused_if file.tree.locked ReadOnly >>= (λ _. Ok file)))) >>= (λ (file : File). place_at path IsDir file.tree file.number)) ≡ (tree >>= (λ t. walk t path.names t.root >>= unlinks t))
      by (Ok tree) = walked tree (walk tree path.names tree.root)
      by (Err cause) = refl

  -- what comes of the directory at the path of a removal
  abbrev after : Bool → Bool → Result Place Cause → Result Place Cause
  after locked empty place = refused_if locked ReadOnly >>= (λ _. place >>= (λ found. refused_if (not empty) NotEmpty >>= (λ _. Ok found)))

  abbrev removes : Tree → ℕ → Result Place Cause
  removes tree number = names_in tree number >>= (λ names. after tree.locked (length names == 0) (place_at path Loop tree number))

  rmdir_flat : rmdir_place path forest ≡ at_path removes
  rmdir_flat = by (tree_of path forest)
    where
      ends : Result Directory Cause → Result Place Cause
      ends found = found >>= (λ (directory : Directory). refused_if directory.tree.locked ReadOnly >>= (λ _. place_at path Loop directory.tree directory.number >>= (λ place. refused_if (not (length directory.names == 0)) NotEmpty >>= (λ _. Ok place))))

      held : (tree : Tree) (number : ℕ) (names : Result Names Cause) → ends (names >>= (λ ns. Ok (record { tree = tree; number = number; names = ns }))) ≡ (names >>= (λ ns. after tree.locked (length ns == 0) (place_at path Loop tree number)))
      held tree number (Ok names) = refl
      held tree number (Err cause) = refl

      walked : (tree : Tree) (to : Result ℕ Cause)
          → ends ((to >>= (λ number. Ok (record { tree = tree; number = number }))) >>= (λ (inode : Inode). names_in inode.tree inode.number >>= (λ ns. Ok (record { tree = inode.tree; number = inode.number; names = ns })))) ≡ (to >>= removes tree)
      walked tree (Ok number) = held tree number (names_in tree number)
      walked tree (Err cause) = refl

      by : (tree : Result Tree Cause)
          → ends ((tree >>= (λ (t : Tree). walk t path.names t.root >>= (λ number. Ok (record { tree = t; number = number })))) >>= (λ (inode : Inode). names_in inode.tree inode.number >>= (λ ns. Ok (record { tree = inode.tree; number = inode.number; names = ns }))))
          ≡ (tree >>= (λ t. walk t path.names t.root >>= removes t))
      by (Ok tree) = walked tree (walk tree path.names tree.root)
      by (Err cause) = refl

  module _ (root : path.names ≡ []) where
    no_place : (cause : Cause) (tree : Tree) (number : ℕ) → place_at path cause tree number ≡ Err cause
    no_place cause tree number = ap (λ names. ok_or (slice_get names (length names - 1)) cause >>= (λ name. walk tree (take (length names - 1) names) tree.root >>= (λ directory. Ok (record { directory = directory; name = name; number = number })))) root

    at_root : (next : Tree → ℕ → Result Place Cause) → at_path next ≡ (tree_of path forest >>= (λ tree. next tree tree.root))
    at_root next = ap (λ names. tree_of path forest >>= (λ tree. walk tree names tree.root >>= next tree)) root

    -- A root isn't unlinked, which has no directory in which it stands,
    pub unlink_place-root : unlink_place path forest ≡ (tree_of path forest >>= (λ tree. bytes_in tree tree.root >>= (λ _. refused_if tree.locked ReadOnly >>= (λ _. Err IsDir))))
    unlink_place-root = unlink_flat ∙ at_root unlinks ∙ (λ i. tree_of path forest >>= (λ tree. bytes_in tree tree.root >>= (λ _. refused_if tree.locked ReadOnly >>= (λ _. no_place IsDir tree tree.root i))))

    -- and isn't removed.
    pub rmdir_place-root : rmdir_place path forest ≡ (tree_of path forest >>= (λ tree. names_in tree tree.root >>= (λ names. refused_if tree.locked ReadOnly >>= (λ _. Err Loop))))
    rmdir_place-root = rmdir_flat ∙ at_root removes ∙ (λ i. tree_of path forest >>= (λ tree. names_in tree tree.root >>= (λ names. after tree.locked (length names == 0) (no_place Loop tree tree.root i))))

  module _ (name : List ℕ) (last : last_name path ≡ Some name) where
    -- it comes of the directory in which the path ends, and of what the last name leads to there
    at_last : {X : Type 0} (next : Tree → ℕ → Result X Cause) (here : Directory → ℕ → Result X Cause)
        → ((tree : Tree) (directory : Directory) (number : ℕ) → IsFound tree (parent_names path) directory → next tree number ≡ here directory number)
        → at_path next ≡ (directory_along path (parent_names path) forest >>= (λ directory. ok_or (value_at name_cmp name directory.names) NotFound >>= here directory))
    at_last next here same =
        (λ i. tree_of path forest >>= (λ tree. in_tree tree i))
        ∙ sym (then_assoc (tree_of path forest) (λ tree. directory_in tree (parent_names path)) (λ directory. ok_or (value_at name_cmp name directory.names) NotFound >>= here directory))
      where
        in_tree : (tree : Tree) → (walk tree path.names tree.root >>= next tree) ≡ (directory_in tree (parent_names path) >>= (λ directory. ok_or (value_at name_cmp name directory.names) NotFound >>= here directory))
        in_tree tree =
            ap (λ (to : Result ℕ Cause). to >>= next tree) (walk-last path name last tree)
            ∙ then_assoc (directory_in tree (parent_names path)) (λ directory. ok_or (value_at name_cmp name directory.names) NotFound) (next tree)
            ∙ then_same (directory_in tree (parent_names path)) (λ directory. ok_or (value_at name_cmp name directory.names) NotFound >>= next tree) (λ directory. ok_or (value_at name_cmp name directory.names) NotFound >>= here directory)
            (λ directory found i. ok_or (value_at name_cmp name directory.names) NotFound >>= (λ number. same tree directory number (found_at tree (parent_names path) directory found) i))

    -- the place of the last name, where its directory was found
    place_found : (cause : Cause) (tree : Tree) (directory : Directory) (number : ℕ) → IsFound tree (parent_names path) directory → place_at path cause tree number ≡ Ok (record { directory = directory.number; name = name; number = number })
    place_found cause tree directory number found =
        ap (λ o. ok_or o cause >>= (λ n. walk tree (parent_names path) tree.root >>= (λ d. Ok (record { directory = d; name = n; number = number })))) last
        ∙ ap (λ (to : Result ℕ Cause). to >>= (λ d. Ok (record { directory = d; name = name; number = number }))) found.walked

    -- A name of a file goes from the directory in which its path ends.
    pub unlink_place-along : unlink_place path forest ≡ (directory_along path (parent_names path) forest >>= unlink_place_in name)
    unlink_place-along = unlink_flat ∙ at_last unlinks here same
      where
        here : Directory → ℕ → Result Place Cause
        here directory number = bytes_in directory.tree number >>= (λ _. refused_if directory.tree.locked ReadOnly >>= (λ _. Ok (record { directory = directory.number; name = name; number = number })))

        same : (tree : Tree) (directory : Directory) (number : ℕ) → IsFound tree (parent_names path) directory → unlinks tree number ≡ here directory number
        same tree directory number found =
            (λ i. bytes_in tree number >>= (λ _. refused_if tree.locked ReadOnly >>= (λ _. place_found IsDir tree directory number found i)))
            ∙ ap (λ (t : Tree). bytes_in t number >>= (λ _. refused_if t.locked ReadOnly >>= (λ _. Ok (record { directory = directory.number; name = name; number = number })))) (sym found.in_tree)

    -- A directory goes from the one in which its path ends.
    pub rmdir_place-along : rmdir_place path forest ≡ (directory_along path (parent_names path) forest >>= rmdir_place_in name)
    rmdir_place-along = rmdir_flat ∙ at_last removes here same
      where
        here : Directory → ℕ → Result Place Cause
        here directory number = names_in directory.tree number >>= (λ names. refused_if directory.tree.locked ReadOnly >>= (λ _. refused_if (not (length names == 0)) NotEmpty >>= (λ _. Ok (record { directory = directory.number; name = name; number = number }))))

        same : (tree : Tree) (directory : Directory) (number : ℕ) → IsFound tree (parent_names path) directory → removes tree number ≡ here directory number
        same tree directory number found =
            (λ i. names_in tree number >>= (λ names. after tree.locked (length names == 0) (place_found Loop tree directory number found i)))
            ∙ ap (λ (t : Tree). names_in t number >>= (λ names. refused_if t.locked ReadOnly >>= (λ _. refused_if (not (length names == 0)) NotEmpty >>= (λ _. Ok (record { directory = directory.number; name = name; number = number }))))) (sym found.in_tree)
