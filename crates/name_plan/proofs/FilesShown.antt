-- A number stands for a file in the forest where it does by the keys.
use Rattle.std.proofs.Common.{◌≡◌, ℕ, Option, Some, None, List, refl, sym, ap, ◌∙◌, subst}
use Rattle.std.specs.Prelude.{option_and_then, option_map}
use Rattle.std.specs.Option.{ok_or}
use Rattle.std.proofs.lemmas.Option.{same_Some, none-some as none_some}
use Rattle.forest_ops.specs.Refusals.{result_map}
use Rattle.forest_ops.specs.Walking.{bytes_in}
use Rattle.forest_ops.specs.declared.operation.Cause.TheVariants.{IsDir}
use Rattle.key_meaning.specs.Forest.{Read, content_of, inode_in, inode_of, size_of, size_of_kind, tree_of}
use Rattle.key_meaning.specs.ForestLaws.{file_at}
use Rattle.key_meaning.specs.Visible.{visible}
use Rattle.name_plan.specs.Files.{file_shown, if_file, if_file_kind}
use Rattle.vol_types.specs.KeyMaps.{KeyMap}
use Rattle.vol_types.specs.Ranges.{IsInode, IsKeyValue}
use Rattle.vol_types.specs.declared.positions.Btree.TheVariants.{Inodes}
use Rattle.vol_types.specs.declared.values.FileKind.{FileKind}
use Rattle.vol_types.specs.declared.values.FileKind.TheVariants.{Directory, File}
use Rattle.vol_types.specs.declared.values.Inode.{Inode}
use Rattle.vol_types.specs.declared.values.Sub.{Sub}
use Rattle.vol_types.specs.declared.values.Value.{Value}
use Rattle.vol_types.specs.declared.values.Value.TheVariants as values

-- the bytes of a file of this inode
abbrev pub bytes_of : KeyMap → Read → Sub → ℕ → Inode → List ℕ
bytes_of keys read sub number inode = content_of keys read sub.id number inode.size

-- The bytes of a number in the tree are those of the file that the keys show, or both are refused as those of a directory.
pub file_is : (keys : KeyMap) (read : Read) (sub : Sub) (number : ℕ) → bytes_in (tree_of keys read sub) number ≡ result_map (bytes_of keys read sub number) (ok_or (file_shown keys sub.id number) IsDir)
file_is keys read sub number = ap (λ o. ok_or o IsDir) (file_at keys sub.id read number) ∙ by (inode_in keys sub.id number)
  where
    of_kind : (kind : FileKind) (inode : Inode)
        → ok_or (option_map (content_of keys read sub.id number) (size_of_kind kind inode.size)) IsDir ≡ result_map (bytes_of keys read sub number) (ok_or (if_file_kind kind inode) IsDir)
    of_kind File inode = refl
    of_kind Directory inode = refl

    by : (o : Option Inode) → ok_or (option_map (content_of keys read sub.id number) (option_and_then size_of o)) IsDir ≡ result_map (bytes_of keys read sub number) (ok_or (option_and_then if_file o) IsDir)
    by None = refl
    by (Some inode) = of_kind inode.kind inode

-- A file that shows is one inode that shows, of the kind of files.
pub record IsFileShown (keys : KeyMap) (id number : ℕ) (inode : Inode) : Type 0 where
  pub shows : inode_in keys id number ≡ Some inode
  pub kind : inode.kind ≡ File

pub shown_is_file : (keys : KeyMap) (id number : ℕ) (inode : Inode) → file_shown keys id number ≡ Some inode → IsFileShown keys id number inode
shown_is_file keys id number inode is = by (inode_in keys id number) refl is
  where
    of_kind : (kind : FileKind) (there : Inode) → there.kind ≡ kind → inode_in keys id number ≡ Some there → if_file_kind kind there ≡ Some inode → IsFileShown keys id number inode
    of_kind File there kind shows same = record { shows = shows ∙ same; kind = ap (λ (i : Inode). i.kind) (same_Some inode there (sym same)) ∙ kind }
    of_kind Directory there kind shows none = absurd (none_some inode none)

    by : (o : Option Inode) → inode_in keys id number ≡ o → option_and_then if_file o ≡ Some inode → IsFileShown keys id number inode
    by None shows none = absurd (none_some inode none)
    by (Some there) shows same = of_kind there.kind there refl shows same

-- An inode that shows is in range where the value that shows is.
pub shown_fits : (keys : KeyMap) (id number : ℕ) (inode : Inode) → IsKeyValue (visible keys Inodes 0 number id) → inode_in keys id number ≡ Some inode → IsInode inode
shown_fits keys id number inode in_range shows = by (visible keys Inodes 0 number id) in_range shows
  where
    by : (value : Option Value) → IsKeyValue value → inode_of value ≡ Some inode → IsInode inode
    by None fits is = absurd (none_some inode is)
    by (Some (values.Inode there)) fits is = subst IsInode (same_Some there inode is) fits
    by (Some other) fits is = absurd (none_some inode is)
