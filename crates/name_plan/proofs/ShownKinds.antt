-- What kind a number stands for, and that it stays where another inode is put or the same one keeps its kind.
use Rattle.std.proofs.Common.{◌≡◌, ℕ, Bool, true, false, cond, Option, Some, None, refl, sym, ap, ◌∙◌}
use Rattle.std.specs.Prelude.{◌==◌, option_map}
use Rattle.std.proofs.lemmas.Bool.{eqb-true, false≢true, ne_eqb}
use Rattle.std.proofs.lemmas.Option.{none-some as none_some}
use Rattle.key_meaning.specs.Forest.{is_directory}
use Rattle.key_steps.specs.Shown.{Shown, kind_of, with_inode}
use Rattle.vol_types.specs.declared.values.FileKind.{FileKind}
use Rattle.vol_types.specs.declared.values.FileKind.TheVariants as kinds
use Rattle.vol_types.specs.declared.values.Inode.{Inode}

-- A directory's kind is that of directories,
pub is_directory_kind : (kind : Option FileKind) → is_directory kind ≡ true → kind ≡ Some kinds.Directory
is_directory_kind (Some kinds.Directory) is = refl
is_directory_kind (Some kinds.File) is = absurd (false≢true is)
is_directory_kind None is = absurd (false≢true is)

-- stays where an inode is put that wasn't there,
pub kind_stays : (shown : Shown) (number other : ℕ) (inode : Option Inode) (kind : FileKind) → shown.inodes number ≡ None → kind_of shown other ≡ Some kind → kind_of (with_inode number inode shown) other ≡ Some kind
kind_stays shown number other inode kind none is =
    ap (λ b. option_map (λ (i : Inode). i.kind) (cond b inode (shown.inodes other))) (ne_eqb number other (λ same. none_some kind (sym (ap (option_map (λ (i : Inode). i.kind)) (ap shown.inodes (sym same) ∙ none)) ∙ is))) ∙ is

-- and where an inode is changed that keeps its kind.
pub kind_kept : (shown : Shown) (number other : ℕ) (old new : Inode) (kind : FileKind) → shown.inodes number ≡ Some old → new.kind ≡ old.kind → kind_of shown other ≡ Some kind → kind_of (with_inode number (Some new) shown) other ≡ Some kind
kind_kept shown number other old new kind there same is = by (number == other) refl
  where
    by : (b : Bool) → (number == other) ≡ b → option_map (λ (i : Inode). i.kind) (cond b (Some new) (shown.inodes other)) ≡ Some kind
    by false apart = is
    by true one = ap Some same ∙ ap (option_map (λ (i : Inode). i.kind)) (sym there ∙ ap shown.inodes (eqb-true number other one)) ∙ is
