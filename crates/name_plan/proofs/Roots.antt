-- A path without names ends at a root, which is a directory, and no directory has it.
use Rattle.std.proofs.Common.{◌≡◌, ℕ, ◌-◌, Bool, true, false, Option, Some, None, List, [], ◌∷◌, refl, sym, ap, ◌∙◌, length, get_or, slice_get, arith}
use Rattle.std.specs.Prelude.{Result, Ok, Err, is_ok, not, option_and_then, option_map}
use Rattle.std.specs.Option.{ok_or}
use Rattle.std.proofs.lemmas.Bool.{false≢true}
use Rattle.std.proofs.lemmas.Option.{none-some as none_some, same_Some, slice_get-get_or}
use Rattle.forest_ops.specs.Refusals.{◌>>=◌, refused_if, result_map}
use Rattle.forest_ops.specs.Walking.{names_in, tree_of}
use Rattle.forest_ops.specs.declared.operation.Cause.{Cause}
use Rattle.forest_ops.specs.declared.operation.Cause.TheVariants.{BadPath, NoSubvolume}
use Rattle.key_meaning.specs.Forest.{Read, forest_in, inode_in, kind_in, sub_named}
use Rattle.key_meaning.specs.Forest as keys_mean
use Rattle.key_meaning.specs.ForestLaws.{tree_at}
use Rattle.name_plan.specs.Files.{file_shown, if_file, if_file_kind}
use Rattle.path_plan.specs.Looking.{sub_of}
use Rattle.plain_forest.specs.Forest.{Tree}
use Rattle.plain_forest.specs.Names.{is_good_path, last_name}
use Rattle.plain_forest.specs.declared.path.Path.{Path}
use Rattle.vol_types.specs.KeyMaps.{KeyMap}
use Rattle.vol_types.specs.declared.values.FileKind.{FileKind}
use Rattle.vol_types.specs.declared.values.FileKind.TheVariants.{Directory, File}
use Rattle.vol_types.specs.declared.values.Inode.{Inode}
use Rattle.vol_types.specs.declared.values.Sub.{Sub}

no_last : (names : List (List ℕ)) → slice_get names (length names - 1) ≡ None → names ≡ []
no_last [] none = refl
no_last (name ∷ names) none =
    absurd (none_some (get_or (name ∷ names) (length (name ∷ names) - 1) name) (sym none ∙ slice_get-get_or (name ∷ names) (length (name ∷ names) - 1) name (omega arith)))

-- A path without a last name has no names.
pub path_is_root : (path : Path) → last_name path ≡ None → path.names ≡ []
path_is_root path none = no_last path.names none

-- The tree of a path is that of its subvolume, or both are refused for one cause.
pub tree_is : (keys : KeyMap) (read : Read) (path : Path) → tree_of path (forest_in keys read) ≡ result_map (keys_mean.tree_of keys read) (sub_of keys path)
tree_is keys read path = ap (λ (o : Option Tree). refused_if (not (is_good_path path)) BadPath >>= (λ _. ok_or o NoSubvolume)) (tree_at keys read path.sub) ∙ by (is_good_path path) (sub_named keys path.sub)
  where
    by : (good : Bool) (found : Option Sub) → (refused_if (not good) BadPath >>= (λ _. ok_or (option_map (keys_mean.tree_of keys read) found) NoSubvolume)) ≡ result_map (keys_mean.tree_of keys read) (refused_if (not good) BadPath >>= (λ _. ok_or found NoSubvolume))
    by false found = refl
    by true None = refl
    by true (Some sub) = refl

-- The subvolume of a path is the one of its name.
pub sub_is_named : (keys : KeyMap) (path : Path) (sub : Sub) → sub_of keys path ≡ Ok sub → sub_named keys path.sub ≡ Some sub
sub_is_named keys path sub is = by (is_good_path path) (sub_named keys path.sub) is
  where
    sub_or : Result Sub Cause → Sub
    sub_or (Ok found) = found
    sub_or (Err cause) = sub

    by : (good : Bool) (found : Option Sub) → (refused_if (not good) BadPath >>= (λ _. ok_or found NoSubvolume)) ≡ Ok sub → found ≡ Some sub
    by false found came = absurd (false≢true (ap (λ (r : Result Sub Cause). is_ok r) came))
    by true None came = absurd (false≢true (ap (λ (r : Result Sub Cause). is_ok r) came))
    by true (Some found) came = ap (λ (r : Result Sub Cause). Some (sub_or r)) came

-- A number that stands for a directory stands for no file.
pub no_file : (keys : KeyMap) (id number : ℕ) → kind_in keys id number ≡ Some Directory → file_shown keys id number ≡ None
no_file keys id number kind = by (inode_in keys id number) kind
  where
    of_kind : (there : FileKind) (inode : Inode) → there ≡ Directory → if_file_kind there inode ≡ None
    of_kind Directory inode is = refl
    of_kind File inode is = absurd (false≢true (ap is_there is))
      where
        is_there : FileKind → Bool
        is_there File = false
        is_there Directory = true

    by : (o : Option Inode) → option_map (λ (i : Inode). i.kind) o ≡ Some Directory → option_and_then if_file o ≡ None
    by None is = refl
    by (Some inode) is = of_kind inode.kind inode (same_Some inode.kind Directory is)
