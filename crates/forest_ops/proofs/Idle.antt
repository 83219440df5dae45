-- What is no commit leaves the forest.
use Rattle.std.proofs.Common.{◌≡◌, ℕ, ◌+◌, ◌-◌, ◌*◌, Bool, true, false, cond, List, ◌++◌, length, take, replicate, map, Option, Some, None, Result, Ok, Err, refl, sym, ap, subst, ◌∙◌, nat_cmp, arith}
use Rattle.std.specs.Prelude.{not, ◌&&◌, ◌==◌, nat_le, nat_lt}
use Rattle.std.specs.Option.{ok_or}
use Rattle.std.proofs.lemmas.Bool.{true≢false}
use Rattle.std.proofs.lemmas.Bool.Decides.{nat_tests}
use Rattle.std.proofs.lemmas.List.{append-nil, take_all}
use Rattle.std.proofs.lemmas.Option.{same_Some}
use Rattle.plain_forest.specs.Maps.{name_cmp, value_at, with_value, changed_at}
use Rattle.vol_types.specs.Maps.{without}
use Rattle.plain_forest.specs.Names.{is_good_path}
use Rattle.plain_forest.specs.Forest.{Tree, Forest}
use Rattle.plain_forest.specs.declared.path.Path.{Path}
use Rattle.forest_ops.specs.Refusals.{◌>>=◌, refused_if}
use Rattle.forest_ops.specs.Walking.{Inode, Directory, File, same_name, tree_named, tree_of, walk, bytes_in, inode_at, directory_at, file_at}
use Rattle.forest_ops.specs.Names.{same_names, same_path}
use Rattle.forest_ops.specs.Content.{max_size, put_at, part_of, resized, cut_size, blocks_of, max_cut, block_bytes}
use Rattle.forest_ops.specs.Trees.{Place, empty_tree, with_name, with_file, with_directory, unlinked, without_directory, with_bytes}
use Rattle.forest_ops.specs.Steps.{RenameFound, next_of, in_subvolume, drawn, next_number, new_place, open_file, sized_file, came_to, link_place, unlink_place, rmdir_place, rename_ends, move_places, move_of, after_move, flagged, status_of, subvolume_fits, snapshot_source, subvolume_goes, forest_or, reply_or, forest_after, answer_of}
use Rattle.forest_ops.specs.History.{is_done, has_size, commits}
use Rattle.forest_ops.specs.declared.operation.Op.{Op}
use Rattle.forest_ops.specs.declared.operation.Op.TheVariants.{Mkdir, Mkfile, Write, Trunc, Read, Ls, Stat, Link, Unlink, Rmdir, Rename, Subvol, Snap, Delsub, Subs, Sync, Fsync, Sweep, Usage}
use Rattle.forest_ops.specs.declared.operation.Cause.{Cause}
use Rattle.forest_ops.specs.declared.operation.Cause.TheVariants.{BadPath, NoSubvolume, IsDir, ReadOnly, TooBig}
use Rattle.forest_ops.specs.declared.operation.Reply.TheVariants.{Okay, More, Synced, Content, List as Listed}
use Rattle.forest_ops.proofs.Sums.{changed_at-same}
use Rattle.forest_ops.proofs.Keeping.{telling_keeps}

-- what was done changes the forest, and a refusal leaves it
done_or_left : {A : Type 0} (forest : Forest) (found : Result A Cause) (after : A → Forest) → is_done (reply_or (found >>= λ x. Ok (next_of Okay (after x)))) && true ≡ false → forest_or forest (found >>= λ x. Ok (next_of Okay (after x))) ≡ forest
done_or_left forest (Ok x) after idle = absurd (cc)
done_or_left forest (Err cause) after idle = refl

-- a result that is there, and what comes after it
bind_ok : {A B : Type 0} (found : Result A Cause) (next : A → Result B Cause) (y : B) → (found >>= next) ≡ Ok y → (x : A) × (found ≡ Ok x) × (next x ≡ Ok y)
bind_ok (Ok x) next y is = (x, refl, is)
bind_ok (Err cause) next y is = absurd (cc)

some_of : {A : Type 0} (found : Option A) (cause : Cause) (x : A) → ok_or found cause ≡ Ok x → found ≡ Some x
some_of None cause x is = absurd (cc)
some_of (Some y) cause x is = cc

same_of : {A : Type 0} (x y : A) (given : Result A Cause) → given ≡ Ok x → given ≡ Ok y → x ≡ y
same_of x y given one other = cc

module _ (forest : Forest) where
  -- a file that is found lies in the tree of its subvolume
  found_file : (path : Path) (file : File) → file_at path forest ≡ Ok file → (value_at name_cmp path.sub forest.subvolumes ≡ Some file.tree) × (value_at nat_cmp file.number file.tree.files ≡ Some file.bytes)
  found_file path file is =
      let inode = bind_ok (inode_at path forest) (λ inode. bytes_in inode.tree inode.number >>= λ bytes. Ok (record { tree = inode.tree; number = inode.number; bytes = bytes })) file is in
      let bytes = bind_ok (bytes_in inode.0.tree inode.0.number) (λ bytes. Ok (record { tree = inode.0.tree; number = inode.0.number; bytes = bytes })) file inode.2 in
      let the_file : record { tree = inode.0.tree; number = inode.0.number; bytes = bytes.0 } ≡ file = same_of _ file (Ok _) refl bytes.2 in
      let tree = bind_ok (tree_of path forest) (λ tree. walk tree path.names tree.root >>= λ number. Ok (record { tree = tree; number = number })) inode.0 inode.1 in
      let number = bind_ok (walk tree.0 path.names tree.0.root) (λ number. Ok (record { tree = tree.0; number = number })) inode.0 tree.2 in
      let the_inode : record { tree = tree.0; number = number.0 } ≡ inode.0 = same_of _ inode.0 (Ok _) refl number.2 in
      let good = bind_ok (refused_if (not (is_good_path path)) BadPath) (λ _. tree_named path.sub forest) tree.0 tree.1 in (
        some_of (value_at name_cmp path.sub forest.subvolumes) NoSubvolume tree.0 good.2 ∙ ap (λ (i : Inode). Some i.tree) the_inode ∙ ap (λ (f : File). Some f.tree) the_file,
        subst (λ (f : File). value_at nat_cmp f.number f.tree.files ≡ Some f.bytes) the_file (some_of (value_at nat_cmp inode.0.number inode.0.tree.files) IsDir bytes.0 bytes.1),
      )

-- bytes cut to their own length
resized_same : (bytes : List ℕ) → resized (cut_size (length bytes) (length bytes)) bytes ≡ bytes
resized_same bytes =
    let n = length bytes in
    let none : blocks_of n - blocks_of n ≡ 0 = omega arith in
    let size : cut_size n n ≡ n = ap (λ d. cond (nat_le d max_cut) n ((blocks_of n - max_cut) * block_bytes)) none in
    let zeros : n - n ≡ 0 = omega arith in
    ap (λ s. resized s bytes) size
    ∙ ap (λ z. take n bytes ++ replicate z 0) zeros
    ∙ append-nil (take n bytes)
    ∙ take_all n bytes (omega arith)

module _ (forest : Forest) (path : Path) (file : File) (is : file_at path forest ≡ Ok file) where
  -- a truncation to the size that the file has leaves the forest
  cut_to_itself : (wanted : ℕ) → length file.bytes ≡ wanted → in_subvolume path.sub (with_bytes file.number (resized (cut_size (length file.bytes) wanted))) forest ≡ forest
  cut_to_itself wanted same =
      let change = resized (cut_size (length file.bytes) wanted) in
      let found = found_file forest path file is in
      let kept : change file.bytes ≡ file.bytes = subst (λ n. resized (cut_size (length file.bytes) n) file.bytes ≡ file.bytes) same (resized_same file.bytes) in
      let files : changed_at nat_cmp file.number change file.tree.files ≡ file.tree.files =
      changed_at-same nat_cmp file.number change file.tree.files (λ x there. subst (λ (b : List ℕ). change b ≡ b) (same_Some file.bytes x (sym found.1 ∙ there)) kept) in
      let tree : with_bytes file.number change file.tree ≡ file.tree = λ i. record file.tree { files = files i } in
      let trees : changed_at name_cmp path.sub (with_bytes file.number change) forest.subvolumes ≡ forest.subvolumes =
      changed_at-same name_cmp path.sub (with_bytes file.number change) forest.subvolumes (λ x there. subst (λ (t : Tree). with_bytes file.number change t ≡ t) (same_Some file.tree x (sym found.0 ∙ there)) tree) in
      λ i. record forest { subvolumes = trees i }

-- a file that may get a size is there
sized_is_there : (forest : Forest) (path : Path) (wanted : ℕ) (file : File) → sized_file path wanted forest ≡ Ok file → file_at path forest ≡ Ok file
sized_is_there forest path wanted file is =
    let opened = bind_ok (open_file path forest) (λ (f : File). refused_if (nat_lt max_size wanted) TooBig >>= λ _. Ok f) file is in
    let sized = bind_ok (refused_if (nat_lt max_size wanted) TooBig) (λ _. Ok opened.0) file opened.2 in
    let there = bind_ok (file_at path forest) (λ (f : File). refused_if f.tree.locked ReadOnly >>= λ _. Ok f) opened.0 opened.1 in
    let unlocked = bind_ok (refused_if there.0.tree.locked ReadOnly) (λ _. Ok there.0) opened.0 there.2 in
    there.1 ∙ unlocked.2 ∙ sized.2

-- a truncation says that it was done
came : (test : Bool) (size : ℕ) → is_done (cond test Okay (More size)) ≡ true
came true size = refl
came false size = refl

truncation_or_left : (forest : Forest) (path : Path) (wanted : ℕ) (found : Result File Cause) → sized_file path wanted forest ≡ found
    → is_done (reply_or (found >>= λ (file : File). Ok (next_of (came_to (cut_size (length file.bytes) wanted) wanted) (in_subvolume path.sub (with_bytes file.number (resized (cut_size (length file.bytes) wanted))) forest)))) && not (has_size wanted (file_at path forest)) ≡ false
    → forest_or forest (found >>= λ (file : File). Ok (next_of (came_to (cut_size (length file.bytes) wanted) wanted) (in_subvolume path.sub (with_bytes file.number (resized (cut_size (length file.bytes) wanted))) forest))) ≡ forest
truncation_or_left forest path wanted (Err cause) is idle = refl
truncation_or_left forest path wanted (Ok file) is left =
    let there = sized_is_there forest path wanted file is in
    let done = came (cut_size (length file.bytes) wanted == wanted) (cut_size (length file.bytes) wanted) in
    let idle : not (length file.bytes == wanted) ≡ false = ap (λ r. not (has_size wanted r)) (sym there) ∙ ap (λ b. b && not (has_size wanted (file_at path forest))) (sym done) ∙ left in
    let same : length file.bytes ≡ wanted = grind (arith, nat_tests) in
    cut_to_itself forest path file there wanted same

-- where a rename moves something, its paths aren't equal
moves_apart : (found : Result RenameFound Cause) (test : Bool) (moves : RenameFound → Result (Place × Place) Cause) (places : Place × Place)
    → (found >>= λ ends. cond test (Ok None) (moves ends >>= λ p. Ok (Some p))) ≡ Ok (Some places) → test ≡ false
moves_apart (Err cause) test moves places is = absurd (cc)
moves_apart (Ok ends) true moves places is = absurd (none_is_some places (same_of None (Some places) (Ok None) refl is))
  where
    none_is_some : (p : Place × Place) → None ≡ Some p → ⊥
    none_is_some p e = absurd (cc)
moves_apart (Ok ends) false moves places is = refl

neither : (a b : Bool) → b ≡ false → true && not (a && b) ≡ true
neither true b is = ap not is
neither false b is = refl

rename_or_left : (forest : Forest) (from to : Path) (found : Result (Option (Place × Place)) Cause) → move_of from to forest ≡ found
    → is_done (reply_or (found >>= λ places. Ok (next_of Okay (after_move from.sub places forest)))) && not (same_path from to) ≡ false
    → forest_or forest (found >>= λ places. Ok (next_of Okay (after_move from.sub places forest))) ≡ forest
rename_or_left forest from to (Err cause) is idle = refl
rename_or_left forest from to (Ok None) is idle = refl
rename_or_left forest from to (Ok (Some places)) is idle =
    absurd (true≢false (sym (neither (same_name from.sub to.sub) (same_names from.names to.names) (moves_apart (rename_ends from to forest) (same_names from.names to.names) (move_places from to) places is)) ∙ idle))

-- what is no commit leaves the forest
pub only_commits : (client : ℕ) (op : Op) (forest : Forest) → commits op (answer_of client op forest) forest ≡ false → forest_after client op forest ≡ forest
only_commits client (Mkdir path) forest idle = done_or_left forest (new_place client path forest) (λ place. drawn client (in_subvolume path.sub (with_directory place) forest)) idle
only_commits client (Mkfile path) forest idle = done_or_left forest (new_place client path forest) (λ place. drawn client (in_subvolume path.sub (with_file place) forest)) idle
only_commits client (Write path offset bytes) forest idle = done_or_left forest (sized_file path (offset + length bytes) forest) (λ (file : File). in_subvolume path.sub (with_bytes file.number (put_at offset bytes)) forest) idle
only_commits client (Trunc path size) forest idle = truncation_or_left forest path size (sized_file path size forest) refl idle
only_commits client (Read path offset len) forest idle = telling_keeps forest (file_at path forest) (λ (file : File). Content (part_of offset len file.bytes))
only_commits client (Ls path) forest idle = telling_keeps forest (directory_at path forest) (λ (directory : Directory). Listed (map (flagged directory.tree) directory.names))
only_commits client (Stat path) forest idle = telling_keeps forest (inode_at path forest) (λ (inode : Inode). status_of inode (value_at nat_cmp inode.number inode.tree.directories))
only_commits client (Link from to) forest idle = done_or_left forest (link_place from to forest) (λ place. in_subvolume from.sub (with_name place) forest) idle
only_commits client (Unlink path) forest idle = done_or_left forest (unlink_place path forest) (λ place. in_subvolume path.sub (unlinked place) forest) idle
only_commits client (Rmdir path) forest idle = done_or_left forest (rmdir_place path forest) (λ place. in_subvolume path.sub (without_directory place) forest) idle
only_commits client (Rename from to) forest idle = rename_or_left forest from to (move_of from to forest) refl idle
only_commits client (Subvol name) forest idle =
    done_or_left forest (subvolume_fits client name forest) (λ _. record (drawn client forest) {
      subvolumes = with_value name_cmp name (empty_tree (next_number client forest)) forest.subvolumes;
      ids_left = forest.ids_left - 1;
    }) idle
only_commits client (Snap source copy locked) forest idle =
    done_or_left forest (snapshot_source source copy forest) (λ (tree : Tree). record forest {
      subvolumes = with_value name_cmp copy (record tree { locked = locked }) forest.subvolumes;
      ids_left = forest.ids_left - 2;
    }) idle
only_commits client (Delsub name) forest idle = done_or_left forest (subvolume_goes name forest) (λ _. record forest { subvolumes = without name_cmp name forest.subvolumes }) idle
only_commits client Subs forest idle = refl
only_commits client Sync forest idle = refl
only_commits client (Fsync path) forest idle = telling_keeps forest (inode_at path forest) (λ (inode : Inode). Synced 0)
only_commits client (Sweep steps) forest idle = refl
only_commits client Usage forest idle = refl
