-- What an operation knows of the place of its change, once its refusals are passed.
use Rattle.std.proofs.Common.{◌≡◌, ℕ, zero, suc, ◌-◌, ◌<◌, Bool, true, false, Option, Some, None, List, [], ◌∷◌, ◌++◌, length, take, refl, sym, ap, ◌∙◌, subst, arith, append_assoc, append-nil, length-append}
use Rattle.std.specs.Prelude.{◌==◌, ◌≢◌, IsSome, Result, Ok, Err, if◌then◌else◌, is_ok, is_some, nat_le, nat_lt, not, slice_get}
use Rattle.std.specs.Option.{ok_or}
use Rattle.std.specs.Ordering.{nat_cmp}
use Rattle.std.proofs.Math.Seq.{take-append_seam}
use Rattle.std.proofs.lemmas.Bool.{and_from, eqb-true, false≢true, leb-false, lt-ltb, not-false}
use Rattle.std.proofs.lemmas.Cmp.{lists_equiv, nat_list_eq_equiv}
use Rattle.std.proofs.lemmas.Option.{none-some as none_some, same_Some, slice_get_within}
use Rattle.forest_ops.specs.Names.{is_above, is_crowded, links_max, links_of, new_name, same_names}
use Rattle.forest_ops.specs.Refusals.{◌>>=◌, refused_if}
use Rattle.forest_ops.specs.Steps.{RenameFound, is_spent, link_place, move_of, move_places, names_left, new_place, next_number, open_file, place_at, rename_ends, rmdir_place, unlink_place}
use Rattle.forest_ops.specs.Trees.{Place}
use Rattle.forest_ops.specs.Walking.{Directory, File, Inode, bytes_in, directory_at, file_at, inode_at, named_in, names_in, shared_tree, tree_of, walk}
use Rattle.forest_ops.specs.declared.operation.Cause.{Cause}
use Rattle.forest_ops.specs.declared.operation.Cause.TheVariants.{Crowded, Exists, IdsSpent, IsDir, LinksFull, Loop, NotDir, NotEmpty, NotFound, ReadOnly}
use Rattle.key_meaning.specs.Checks.{count_names}
use Rattle.plain_forest.specs.Forest.{Forest, Names, Tree}
use Rattle.plain_forest.specs.Names.{last_name, parent_names}
use Rattle.plain_forest.specs.Steps as plain
use Rattle.plain_forest.specs.declared.path.Path.{Path}
use Rattle.vol_types.specs.Maps.{value_at}
use Rattle.vol_types.specs.Ranges.{name_cmp}
use Rattle.tree_changes.specs.Trees.{IsFreeName, IsNameAt, MayMove}
use Rattle.tree_changes.proofs.Leading.{named, no_value}
use Rattle.tree_changes.proofs.Ways.{Lead, ok_found, same_ok, walk_of}

-- a place, and an inode, from their parts
abbrev place_in : ℕ → List ℕ → ℕ → Place
place_in directory name number = record { directory = directory; name = name; number = number }

abbrev inode_of : Tree → ℕ → Inode
inode_of tree number = record { tree = tree; number = number }

-- What comes of two things after one another comes of the first one's value,
after_first : {A B : Type 0} (rest : A → Result B Cause) (first : Result A Cause) (y : B) → (first >>= rest) ≡ Ok y → (x : A) × (first ≡ Ok x) × (rest x ≡ Ok y)
after_first rest (Ok x) y is = (x, refl, is)
after_first rest (Err cause) y is = absurd (false≢true (ap is_ok is))

-- and what comes after a test where it doesn't hold.
after_test : {B : Type 0} (test : Bool) (cause : Cause) (rest : Result B Cause) (y : B) → (refused_if test cause >>= (λ _. rest)) ≡ Ok y → (test ≡ false) × (rest ≡ Ok y)
after_test true cause rest y is = absurd (false≢true (ap is_ok is))
after_test false cause rest y is = (refl, is)

module _ (tree : Tree) where
  -- A step of a walk is a name of a directory.
  step_parts : (number : ℕ) (name : List ℕ) (to : ℕ) → named_in tree number name ≡ Ok to → (names : Names) × (value_at nat_cmp number tree.directories ≡ Some names) × (value_at name_cmp name names ≡ Some to)
  step_parts number name to is =
      let held = after_first (λ (names : Names). ok_or (value_at name_cmp name names) NotFound) (names_in tree number) to is in
      (held.0, ok_found (value_at nat_cmp number tree.directories) NotDir held.0 held.1, ok_found (value_at name_cmp name held.0) NotFound to held.2)

  -- Names that are walked lead,
  lead_walked : (names : List (List ℕ)) (from to : ℕ) → walk tree names from ≡ Ok to → Lead tree.directories names from to
  lead_walked [] from to is = same_ok from to is
  lead_walked (name ∷ names) from to is =
      let next = after_first (λ (n : ℕ). walk tree names n) (named_in tree from name) to is in
      let held = step_parts from name next.0 next.1 in
      (next.0, ap (λ o. named o name) held.1 ∙ held.2, lead_walked names next.0 to next.2)

  -- and so are walked by the forest too.
  plain_walk : (names : List (List ℕ)) (from to : ℕ) → walk tree names from ≡ Ok to → plain.walk tree names from ≡ Ok to
  plain_walk names from to is = walk_of tree names from to (lead_walked names from to is)

  -- A walk along names and others is two walks.
  walk_append : (names more : List (List ℕ)) (from : ℕ) → walk tree (names ++ more) from ≡ (walk tree names from >>= (λ (n : ℕ). walk tree more n))
  walk_append [] more from = refl
  walk_append (name ∷ names) more from = by (named_in tree from name) (walk_append names more)
    where
      by : (next : Result ℕ Cause) → ((n : ℕ) → walk tree (names ++ more) n ≡ (walk tree names n >>= (λ (n : ℕ). walk tree more n)))
          → (next >>= (λ (n : ℕ). walk tree (names ++ more) n)) ≡ ((next >>= (λ (n : ℕ). walk tree names n)) >>= (λ (n : ℕ). walk tree more n))
      by (Ok n) later = later n
      by (Err cause) later = refl

-- A list is what stands before its last item, and that item.
front_and_last : {X : Type 0} (xs : List X) (at : ℕ) (x : X) → slice_get xs at ≡ Some x → suc at ≡ length xs → xs ≡ take at xs ++ x ∷ []
front_and_last [] at x is ends = absurd (none_some x is)
front_and_last (y ∷ []) zero x is ends = ap (λ z. z ∷ []) (same_Some y x is)
front_and_last (y ∷ z ∷ ys) zero x is ends = absurd (omega (arith, ends))
front_and_last (y ∷ ys) (suc at) x is ends = ap (λ zs. y ∷ zs) (front_and_last ys at x is (omega (arith, ends)))

-- The names of a path are those of its parent and its last name.
path_parts : (path : Path) (name : List ℕ) → last_name path ≡ Some name → path.names ≡ parent_names path ++ name ∷ []
path_parts path name last =
    let within : length path.names - 1 < length path.names = slice_get_within path.names (length path.names - 1) name last in
    front_and_last path.names (length path.names - 1) name last (omega (arith, within))

-- A new name is free in its directory.
new_name_parts : (path : Path) (names : Names) (name : List ℕ) → new_name path names ≡ Ok name → value_at name_cmp name names ≡ None
new_name_parts path names name is =
    let last = after_first (λ (n : List ℕ). refused_if (is_some (value_at name_cmp n names)) Exists >>= (λ _. refused_if (is_crowded n names) Crowded >>= (λ _. Ok n))) (ok_or (last_name path) Exists) name is in
    let free = after_test (is_some (value_at name_cmp last.0 names)) Exists (refused_if (is_crowded last.0 names) Crowded >>= (λ _. Ok last.0)) name last.2 in
    let room = after_test (is_crowded last.0 names) Crowded (Ok last.0) name free.1 in
    no_value (value_at name_cmp name names) (ap (λ (n : List ℕ). is_some (value_at name_cmp n names)) (sym (same_ok last.0 name room.1)) ∙ free.0)

-- So its place is free.
free_name : (tree : Tree) (directory : ℕ) (names : Names) (name : List ℕ) (number : ℕ) → names_in tree directory ≡ Ok names → value_at name_cmp name names ≡ None → IsFreeName (place_in directory name number) tree
free_name tree directory names name number held free = record { names = names; held = ok_found (value_at nat_cmp directory tree.directories) NotDir names held; free = free }

module _ (path : Path) (tree : Tree) (number : ℕ) (walked : walk tree path.names tree.root ≡ Ok number) where
  -- The last name of a path leads from where the other names lead to where all of them lead.
  name_at_end : (directory : ℕ) (name : List ℕ) → walk tree (parent_names path) tree.root ≡ Ok directory → path.names ≡ parent_names path ++ name ∷ [] → IsNameAt (place_in directory name number) tree
  name_at_end directory name above parts =
      let whole : walk tree path.names tree.root ≡ walk tree (name ∷ []) directory =
      ap (λ (names : List (List ℕ)). walk tree names tree.root) parts ∙ walk_append tree (parent_names path) (name ∷ []) tree.root ∙ ap (λ (r : Result ℕ Cause). r >>= (λ (n : ℕ). walk tree (name ∷ []) n)) above in
      let next = after_first (λ (n : ℕ). walk tree [] n) (named_in tree directory name) number (sym whole ∙ walked) in
      let held = step_parts tree directory name number (next.1 ∙ next.2) in
      record { names = held.0; held = held.1; leads = held.2 }

  module _ (cause : Cause) where
    -- the place, once its name is known
    abbrev walk_above : List ℕ → Result Place Cause
    walk_above name = walk tree (parent_names path) tree.root >>= (λ (directory : ℕ). Ok (place_in directory name number))

    -- The place of the name with which the path ends is one of the tree, in the directory to which the other names lead.
    record IsAtEnd (place : Place) : Type 0 where
      at : IsNameAt place tree
      same : place.number ≡ number
      above : walk tree (parent_names path) tree.root ≡ Ok place.directory
      parts : path.names ≡ parent_names path ++ place.name ∷ []

    at_end : (place : Place) → place_at path cause tree number ≡ Ok place → IsAtEnd place
    at_end place is =
        let last = after_first walk_above (ok_or (last_name path) cause) place is in
        let above = after_first (λ (directory : ℕ). Ok (place_in directory last.0 number)) (walk tree (parent_names path) tree.root) place last.2 in
        let parts = path_parts path last.0 (ok_found (last_name path) cause last.0 last.1) in
        let there : IsAtEnd (place_in above.0 last.0 number) = record { at = name_at_end above.0 last.0 above.1 parts; same = refl; above = above.1; parts = parts } in
        subst IsAtEnd (same_ok (place_in above.0 last.0 number) place above.2) there

-- What is found at a path: a tree, and the number to which the names lead
inode_parts : (path : Path) (forest : Forest) (inode : Inode) → inode_at path forest ≡ Ok inode → (tree_of path forest ≡ Ok inode.tree) × (walk inode.tree path.names inode.tree.root ≡ Ok inode.number)
inode_parts path forest inode is =
    let found = after_first (λ (tree : Tree). walk tree path.names tree.root >>= (λ (number : ℕ). Ok (inode_of tree number))) (tree_of path forest) inode is in
    let walked = after_first (λ (number : ℕ). Ok (inode_of found.0 number)) (walk found.0 path.names found.0.root) inode found.2 in
    let same : inode_of found.0 walked.0 ≡ inode = same_ok (inode_of found.0 walked.0) inode walked.2 in
    (found.1 ∙ ap (λ (i : Inode). Ok i.tree) same, subst (λ (i : Inode). walk i.tree path.names i.tree.root ≡ Ok i.number) same walked.1)

-- Names of which there are 0 are none.
empty_names : {X : Type 0} (xs : List X) → not (length xs == 0) ≡ false → xs ≡ []
empty_names [] is = refl
empty_names (x ∷ xs) is = let none : length (x ∷ xs) ≡ 0 = eqb-true (length (x ∷ xs)) 0 (not-false (length (x ∷ xs) == 0) is) in absurd (omega (arith, none))

module _ (client : ℕ) (path : Path) (forest : Forest) where
  -- the refusals of a new inode, from each of their steps on
  abbrev numbered : ℕ → List ℕ → Result Place Cause
  numbered directory name = refused_if (is_spent client forest) IdsSpent >>= (λ _. Ok (place_in directory name (next_number client forest)))

  abbrev newly_named : ℕ → Names → Result Place Cause
  newly_named directory names = new_name path names >>= numbered directory

  abbrev opened : Tree → ℕ → Names → Result Place Cause
  opened tree directory names = refused_if tree.locked ReadOnly >>= (λ _. newly_named directory names)

  abbrev held_in : Tree → ℕ → Result Place Cause
  held_in tree directory = names_in tree directory >>= opened tree directory

  -- A new inode
  pub made_passed : (place : Place) → new_place client path forest ≡ Ok place
      → (tree : Tree) × (tree_of path forest ≡ Ok tree) × (tree.locked ≡ false) × IsFreeName place tree × (place.number ≡ next_number client forest)
  made_passed place is =
      let found = after_first (λ (tree : Tree). walk tree (parent_names path) tree.root >>= held_in tree) (tree_of path forest) place is in
      let above = after_first (held_in found.0) (walk found.0 (parent_names path) found.0.root) place found.2 in
      let held = after_first (opened found.0 above.0) (names_in found.0 above.0) place above.2 in
      let locked = after_test found.0.locked ReadOnly (newly_named above.0 held.0) place held.2 in
      let name = after_first (numbered above.0) (new_name path held.0) place locked.1 in
      let spent = after_test (is_spent client forest) IdsSpent (Ok (place_in above.0 name.0 (next_number client forest))) place name.2 in
      let same : place_in above.0 name.0 (next_number client forest) ≡ place = same_ok (place_in above.0 name.0 (next_number client forest)) place spent.1 in
      let free : IsFreeName (place_in above.0 name.0 (next_number client forest)) found.0 = free_name found.0 above.0 held.0 name.0 (next_number client forest) held.1 (new_name_parts path held.0 name.0 name.1) in
      (found.0, found.1, locked.0, subst (λ (p : Place). IsFreeName p found.0) same free, ap (λ (p : Place). p.number) (sym same))

module _ (from to : Path) (forest : Forest) where
  -- the refusals of a new name of a file, from each of their steps on
  abbrev counted : Tree → ℕ → ℕ → List ℕ → Result Place Cause
  counted tree number directory name = refused_if (nat_le links_max (links_of number tree.directories)) LinksFull >>= (λ _. Ok (place_in directory name number))

  abbrev linked_name : Tree → ℕ → ℕ → Names → Result Place Cause
  linked_name tree number directory names = new_name to names >>= counted tree number directory

  abbrev linked_open : Tree → ℕ → ℕ → Names → Result Place Cause
  linked_open tree number directory names = refused_if tree.locked ReadOnly >>= (λ _. linked_name tree number directory names)

  abbrev linked_held : Tree → ℕ → ℕ → Result Place Cause
  linked_held tree number directory = names_in tree directory >>= linked_open tree number directory

  abbrev linked_walk : Tree → ℕ → Result Place Cause
  linked_walk tree number = walk tree (parent_names to) tree.root >>= linked_held tree number

  abbrev linked_bytes : Tree → ℕ → Result Place Cause
  linked_bytes tree number = bytes_in tree number >>= (λ _. linked_walk tree number)

  -- A new name of a file
  pub linked_passed : (place : Place) → link_place from to forest ≡ Ok place
      → (tree : Tree) × (shared_tree from to forest ≡ Ok tree) × (tree.locked ≡ false) × IsFreeName place tree × IsSome (value_at nat_cmp place.number tree.files) × (count_names tree.directories place.number < links_max)
  linked_passed place is =
      let found = after_first (λ (tree : Tree). walk tree from.names tree.root >>= linked_bytes tree) (shared_tree from to forest) place is in
      let walked = after_first (linked_bytes found.0) (walk found.0 from.names found.0.root) place found.2 in
      let bytes = after_first (λ (bytes : List ℕ). linked_walk found.0 walked.0) (bytes_in found.0 walked.0) place walked.2 in
      let above = after_first (linked_held found.0 walked.0) (walk found.0 (parent_names to) found.0.root) place bytes.2 in
      let held = after_first (linked_open found.0 walked.0 above.0) (names_in found.0 above.0) place above.2 in
      let locked = after_test found.0.locked ReadOnly (linked_name found.0 walked.0 above.0 held.0) place held.2 in
      let name = after_first (counted found.0 walked.0 above.0) (new_name to held.0) place locked.1 in
      let full = after_test (nat_le links_max (links_of walked.0 found.0.directories)) LinksFull (Ok (place_in above.0 name.0 walked.0)) place name.2 in
      let same : place_in above.0 name.0 walked.0 ≡ place = same_ok (place_in above.0 name.0 walked.0) place full.1 in
      let free : IsFreeName (place_in above.0 name.0 walked.0) found.0 = free_name found.0 above.0 held.0 name.0 walked.0 held.1 (new_name_parts to held.0 name.0 name.1) in
      let file : value_at nat_cmp walked.0 found.0.files ≡ Some bytes.0 = ok_found (value_at nat_cmp walked.0 found.0.files) IsDir bytes.0 bytes.1 in
      let fewer : count_names found.0.directories walked.0 < links_max = leb-false links_max (links_of walked.0 found.0.directories) full.0 in (
        found.0,
        found.1,
        locked.0,
        subst (λ (p : Place). IsFreeName p found.0) same free,
        subst (λ (p : Place). IsSome (value_at nat_cmp p.number found.0.files)) same (ap is_some file),
        subst (λ (p : Place). count_names found.0.directories p.number < links_max) same fewer,
      )

module _ (path : Path) (forest : Forest) where
  -- a file and a directory from their parts
  abbrev file_of : Inode → List ℕ → File
  file_of inode bytes = record { tree = inode.tree; number = inode.number; bytes = bytes }

  abbrev directory_of : Inode → Names → Directory
  directory_of inode names = record { tree = inode.tree; number = inode.number; names = names }

  -- what the file and the directory at a path are
  file_parts : (file : File) → file_at path forest ≡ Ok file
      → (tree_of path forest ≡ Ok file.tree) × (walk file.tree path.names file.tree.root ≡ Ok file.number) × (bytes_in file.tree file.number ≡ Ok file.bytes)
  file_parts file is =
      let inode = after_first (λ (inode : Inode). bytes_in inode.tree inode.number >>= (λ (bytes : List ℕ). Ok (file_of inode bytes))) (inode_at path forest) file is in
      let bytes = after_first (λ (bytes : List ℕ). Ok (file_of inode.0 bytes)) (bytes_in inode.0.tree inode.0.number) file inode.2 in
      let parts = inode_parts path forest inode.0 inode.1 in
      subst (λ (f : File). (tree_of path forest ≡ Ok f.tree) × (walk f.tree path.names f.tree.root ≡ Ok f.number) × (bytes_in f.tree f.number ≡ Ok f.bytes)) (same_ok (file_of inode.0 bytes.0) file bytes.2) (parts.0, parts.1, bytes.1)

  directory_parts : (directory : Directory) → directory_at path forest ≡ Ok directory
      → (tree_of path forest ≡ Ok directory.tree) × (walk directory.tree path.names directory.tree.root ≡ Ok directory.number) × (names_in directory.tree directory.number ≡ Ok directory.names)
  directory_parts directory is =
      let inode = after_first (λ (inode : Inode). names_in inode.tree inode.number >>= (λ (names : Names). Ok (directory_of inode names))) (inode_at path forest) directory is in
      let names = after_first (λ (names : Names). Ok (directory_of inode.0 names)) (names_in inode.0.tree inode.0.number) directory inode.2 in
      let parts = inode_parts path forest inode.0 inode.1 in
      subst (λ (d : Directory). (tree_of path forest ≡ Ok d.tree) × (walk d.tree path.names d.tree.root ≡ Ok d.number) × (names_in d.tree d.number ≡ Ok d.names)) (same_ok (directory_of inode.0 names.0) directory names.2) (parts.0, parts.1, names.1)

  -- A name of a file that goes
  pub unlinked_passed : (place : Place) → unlink_place path forest ≡ Ok place
      → (tree : Tree) × (tree_of path forest ≡ Ok tree) × (tree.locked ≡ false) × IsNameAt place tree × IsSome (value_at nat_cmp place.number tree.files)
  unlinked_passed place is =
      let file = after_first (λ (f : File). place_at path IsDir f.tree f.number) (open_file path forest) place is in
      let found = after_first (λ (f : File). refused_if f.tree.locked ReadOnly >>= (λ _. Ok f)) (file_at path forest) file.0 file.1 in
      let locked = after_test found.0.tree.locked ReadOnly (Ok found.0) file.0 found.2 in
      let same : found.0 ≡ file.0 = same_ok found.0 file.0 locked.1 in
      let parts = file_parts found.0 found.1 in
      let placed : place_at path IsDir found.0.tree found.0.number ≡ Ok place = ap (λ (f : File). place_at path IsDir f.tree f.number) same ∙ file.2 in
      let ends = at_end path found.0.tree found.0.number parts.1 IsDir place placed in
      let holds : value_at nat_cmp found.0.number found.0.tree.files ≡ Some found.0.bytes = ok_found (value_at nat_cmp found.0.number found.0.tree.files) IsDir found.0.bytes parts.2 in
      (found.0.tree, parts.0, locked.0, ends.at, ap (λ (n : ℕ). is_some (value_at nat_cmp n found.0.tree.files)) ends.same ∙ ap is_some holds)

  -- the refusals of a directory that goes, from each of their steps on
  abbrev emptied : Directory → Place → Result Place Cause
  emptied directory place = refused_if (not (length directory.names == 0)) NotEmpty >>= (λ _. Ok place)

  abbrev placed_at : Directory → Result Place Cause
  placed_at directory = place_at path Loop directory.tree directory.number >>= emptied directory

  -- An empty directory that goes
  pub removed_passed : (place : Place) → rmdir_place path forest ≡ Ok place
      → (tree : Tree) × (tree_of path forest ≡ Ok tree) × (tree.locked ≡ false) × IsNameAt place tree × (value_at nat_cmp place.number tree.directories ≡ Some [])
  removed_passed place is =
      let found = after_first (λ (d : Directory). refused_if d.tree.locked ReadOnly >>= (λ _. placed_at d)) (directory_at path forest) place is in
      let locked = after_test found.0.tree.locked ReadOnly (placed_at found.0) place found.2 in
      let placed = after_first (emptied found.0) (place_at path Loop found.0.tree found.0.number) place locked.1 in
      let empty = after_test (not (length found.0.names == 0)) NotEmpty (Ok placed.0) place placed.2 in
      let same : placed.0 ≡ place = same_ok placed.0 place empty.1 in
      let parts = directory_parts found.0 found.1 in
      let ends = at_end path found.0.tree found.0.number parts.1 Loop place (placed.1 ∙ ap Ok same) in
      let holds : value_at nat_cmp found.0.number found.0.tree.directories ≡ Some found.0.names = ok_found (value_at nat_cmp found.0.number found.0.tree.directories) NotDir found.0.names parts.2 in
      (found.0.tree, parts.0, locked.0, ends.at, ap (λ (n : ℕ). value_at nat_cmp n found.0.tree.directories) ends.same ∙ holds ∙ ap Some (empty_names found.0.names empty.0))

-- Names that go on behind others lie below them.
below_others : (above more : List (List ℕ)) (name : List ℕ) → is_above above (above ++ name ∷ more) ≡ true
below_others above more name =
    and_from (nat_lt (length above) (length (above ++ name ∷ more))) (same_names (take (length above) (above ++ name ∷ more)) above)
    (lt-ltb (length above) (length (above ++ name ∷ more)) (omega (arith, length-append above (name ∷ more))))
    (ap (λ (names : List (List ℕ)). same_names names above) (take-append_seam above (name ∷ more)) ∙ (lists_equiv nat_list_eq_equiv).refl above)

-- So where one path isn't above another, its names don't lead to the other's parent.
names_apart : (above parent : List (List ℕ)) (name : List ℕ) → is_above above (parent ++ name ∷ []) ≡ false → (rest : List (List ℕ)) → parent ≢ above ++ rest
names_apart above parent name apart [] same =
    false≢true (sym apart ∙ ap (λ (names : List (List ℕ)). is_above above (names ++ name ∷ [])) (same ∙ append-nil above) ∙ below_others above [] name)
names_apart above parent name apart (word ∷ rest) same =
    false≢true (sym apart ∙ ap (is_above above) (ap (λ (names : List (List ℕ)). names ++ name ∷ []) same ∙ append_assoc above (word ∷ rest) (name ∷ [])) ∙ below_others above (rest ++ name ∷ []) word)

module _ (from to : Path) (forest : Forest) where
  -- the looks of a rename at its paths, from each of their steps on
  abbrev ends_in : Tree → ℕ → ℕ → Names → RenameFound
  ends_in tree number directory names = record { tree = tree; number = number; directory = directory; names = names }

  abbrev ends_open : Tree → ℕ → ℕ → Names → Result RenameFound Cause
  ends_open tree number directory names = refused_if tree.locked ReadOnly >>= (λ _. Ok (ends_in tree number directory names))

  abbrev ends_held : Tree → ℕ → ℕ → Result RenameFound Cause
  ends_held tree number directory = names_in tree directory >>= ends_open tree number directory

  abbrev ends_walk : Tree → ℕ → Result RenameFound Cause
  ends_walk tree number = walk tree (parent_names to) tree.root >>= ends_held tree number

  -- what a rename finds at its two paths
  record IsFound (ends : RenameFound) : Type 0 where
    shared : shared_tree from to forest ≡ Ok ends.tree
    leads : walk ends.tree from.names ends.tree.root ≡ Ok ends.number
    above : walk ends.tree (parent_names to) ends.tree.root ≡ Ok ends.directory
    held : names_in ends.tree ends.directory ≡ Ok ends.names
    open_to : ends.tree.locked ≡ false

  -- It finds that, where none of its looks is refused.
  found_ends : (ends : RenameFound) → rename_ends from to forest ≡ Ok ends → IsFound ends
  found_ends ends is =
      let found = after_first (λ (tree : Tree). walk tree from.names tree.root >>= ends_walk tree) (shared_tree from to forest) ends is in
      let walked = after_first (ends_walk found.0) (walk found.0 from.names found.0.root) ends found.2 in
      let above = after_first (ends_held found.0 walked.0) (walk found.0 (parent_names to) found.0.root) ends walked.2 in
      let held = after_first (ends_open found.0 walked.0 above.0) (names_in found.0 above.0) ends above.2 in
      let locked = after_test found.0.locked ReadOnly (Ok (ends_in found.0 walked.0 above.0 held.0)) ends held.2 in
      let all : IsFound (ends_in found.0 walked.0 above.0 held.0) = record { shared = found.1; leads = walked.1; above = above.1; held = held.1; open_to = locked.0 } in
      subst IsFound (same_ok (ends_in found.0 walked.0 above.0 held.0) ends locked.1) all

  module _ (ends : RenameFound) (found : IsFound ends) where
    -- the refusals of a move, from each of their steps on
    abbrev both : Place → List ℕ → Place × Place
    both old name = (old, place_in ends.directory name ends.number)

    abbrev crowded : Place → List ℕ → Result (Place × Place) Cause
    crowded old name = refused_if (is_crowded name (names_left old ends.directory ends.names)) Crowded >>= (λ _. Ok (both old name))

    abbrev free_at : Place → List ℕ → Result (Place × Place) Cause
    free_at old name = refused_if (is_some (value_at name_cmp name ends.names)) Exists >>= (λ _. crowded old name)

    abbrev named_at : Place → Result (Place × Place) Cause
    named_at old = ok_or (last_name to) Exists >>= free_at old

    abbrev placed_old : Result (Place × Place) Cause
    placed_old = place_at from Loop ends.tree ends.number >>= named_at

    -- What passes the refusals of a rename may move.
    may_move : (places : Place × Place) → move_places from to ends ≡ Ok places → MayMove places.0 places.1 ends.tree
    may_move places is =
        let apart = after_test (is_above from.names to.names) Loop placed_old places is in
        let old = after_first named_at (place_at from Loop ends.tree ends.number) places apart.1 in
        let name = after_first (free_at old.0) (ok_or (last_name to) Exists) places old.2 in
        let free = after_test (is_some (value_at name_cmp name.0 ends.names)) Exists (crowded old.0 name.0) places name.2 in
        let room = after_test (is_crowded name.0 (names_left old.0 ends.directory ends.names)) Crowded (Ok (both old.0 name.0)) places free.1 in
        let at = at_end from ends.tree ends.number found.leads Loop old.0 old.1 in
        let to_names : to.names ≡ parent_names to ++ name.0 ∷ [] = path_parts to name.0 (ok_found (last_name to) Exists name.0 name.1) in
        let below : is_above from.names (parent_names to ++ name.0 ∷ []) ≡ false = sym (ap (is_above from.names) to_names) ∙ apart.0 in
        let may : MayMove old.0 (place_in ends.directory name.0 ends.number) ends.tree = record {
          from = at.at;
          to = free_name ends.tree ends.directory ends.names name.0 ends.number found.held (no_value (value_at name_cmp name.0 ends.names) free.0);
          same = sym at.same;
          old_names = parent_names from;
          old_leads = plain_walk ends.tree (parent_names from) ends.tree.root old.0.directory at.above;
          new_names = parent_names to;
          new_leads = plain_walk ends.tree (parent_names to) ends.tree.root ends.directory found.above;
          apart = λ rest same. names_apart from.names (parent_names to) name.0 below rest (same ∙ sym (ap (λ (names : List (List ℕ)). names ++ rest) at.parts ∙ append_assoc (parent_names from) (old.0.name ∷ []) rest));
        } in
        subst (λ (p : Place × Place). MayMove p.0 p.1 ends.tree) (same_ok (both old.0 name.0) places room.1) may

  -- what moves, once it is known whether the paths are equal
  abbrev moves : RenameFound → Bool → Result (Option (Place × Place)) Cause
  moves ends same = if same then Ok None else (move_places from to ends >>= (λ (places : Place × Place). Ok (Some places)))

  -- A name that moves
  pub moved_passed : (old new : Place) → move_of from to forest ≡ Ok (Some (old, new)) → (tree : Tree) × (shared_tree from to forest ≡ Ok tree) × (tree.locked ≡ false) × MayMove old new tree
  moved_passed old new is =
      let ends = after_first (λ (ends : RenameFound). moves ends (same_names from.names to.names)) (rename_ends from to forest) (Some (old, new)) is in
      let found = found_ends ends.0 ends.1 in
      (ends.0.tree, found.shared, found.open_to, by ends.0 found (same_names from.names to.names) ends.2)
    where
      by : (ends : RenameFound) → IsFound ends → (same : Bool) → moves ends same ≡ Ok (Some (old, new)) → MayMove old new ends.tree
      by ends found true is = absurd (none_some (old, new) (same_ok None (Some (old, new)) is))
      by ends found false is =
          let places = after_first (λ (places : Place × Place). Ok (Some places)) (move_places from to ends) (Some (old, new)) is in
          let same : places.0 ≡ (old, new) = same_Some places.0 (old, new) (same_ok (Some places.0) (Some (old, new)) places.2) in
          subst (λ (p : Place × Place). MayMove p.0 p.1 ends.tree) same (may_move ends found places.0 places.1)
