-- What a change of one inode makes of the files that show.
use Rattle.std.proofs.Common.{◌≡◌, ℕ, ◌/◌, ◌%◌, Bool, true, false, cond, Option, Some, None, List, refl, sym, ap, ◌∙◌, map}
use Rattle.std.specs.Prelude.{◌==◌, option_and_then, option_map}
use Rattle.std.specs.BTreeMap.{is_at}
use Rattle.std.specs.List.{range_with_len}
use Rattle.std.specs.Ordering.{nat_cmp}
use Rattle.std.proofs.lemmas.Bool.{eq-eqb, eqb-true}
use Rattle.std.proofs.lemmas.Cmp.{nat_cmp_total}
use Rattle.std.proofs.lemmas.Map.Lookups.{exact_unsigned}
use Rattle.vol_types.specs.Limits.{block_size}
use Rattle.vol_types.specs.MapLaws.{IsMap-with_value, IsMap-without, value_at-with_value, value_at-without}
use Rattle.vol_types.specs.Maps.{value_at, with_value, without}
use Rattle.vol_types.specs.declared.values.Inode.{Inode}
use Rattle.key_meaning.specs.Forest.{Read, byte_at, size_of}
use Rattle.key_meaning.specs.TableLaws.{same_key}
use Rattle.key_steps.specs.Shown.{AreFilesOf, Shown, bytes_of, file_of, with_inode}
use Rattle.shown_changes.proofs.Directories.{unequal}

module _ (read : Read) (shown : Shown) (number : ℕ) (inode : Option Inode) (files : List (ℕ × List ℕ)) (are : AreFilesOf read shown files) where
  abbrev inoded : Shown
  inoded = with_inode number inode shown

  -- the bytes of a file of some size
  abbrev content : (n : ℕ) → Option ℕ → Option (List ℕ)
  content n size = option_map (λ (s : ℕ). map (λ (index : ℕ). byte_at (bytes_of read shown n (index / block_size)) (index % block_size)) (range_with_len 0 s)) size

  -- what a number has as a file, with the new inode or without it
  abbrev file_by : (b : Bool) (n : ℕ) → Option (List ℕ)
  file_by b n = content n (option_and_then size_of (cond b inode (shown.inodes n)))

  other_file : (n : ℕ) → (number == n) ≡ false → file_of read shown n ≡ file_of read inoded n
  other_file n apart = sym (ap (λ b. file_by b n) apart)

  this_file : (n : ℕ) → number ≡ n → file_of read inoded n ≡ file_by true number
  this_file n same = ap (λ b. file_by b n) (eq-eqb number n same) ∙ ap (λ m. file_by true m) (sym same)

  -- The files are the same where the size is, or the number is no file before and after.
  pub files_same : option_and_then size_of inode ≡ option_and_then size_of (shown.inodes number) → AreFilesOf read inoded files
  files_same same = record { map = are.map; each = λ n. are.each n ∙ by n (number == n) refl }
    where
      by : (n : ℕ) (b : Bool) → (number == n) ≡ b → file_of read shown n ≡ file_of read inoded n
      by n true here = let at = eqb-true number n here in ap (λ m. content m (option_and_then size_of (shown.inodes m))) (sym at) ∙ ap (content number) (sym same) ∙ sym (this_file n at)
      by n false apart = other_file n apart

  -- A new file stands there with its bytes.
  pub files_made : (bytes : List ℕ) → file_by true number ≡ Some bytes → AreFilesOf read inoded (with_value nat_cmp number bytes files)
  files_made bytes made = record {
    map = IsMap-with_value nat_cmp_total number bytes files are.map;
    each = λ n. value_at-with_value nat_cmp_total number bytes n files ∙ by n (is_at (nat_cmp number) n) refl;
  }
    where
      by : (n : ℕ) (b : Bool) → is_at (nat_cmp number) n ≡ b → cond b (Some bytes) (value_at nat_cmp n files) ≡ file_of read inoded n
      by n true here = sym made ∙ sym (this_file n (same_key exact_unsigned number n here))
      by n false apart = are.each n ∙ other_file n (unequal number n apart)

  -- A file that goes stands there no more.
  pub files_gone : file_by true number ≡ None → AreFilesOf read inoded (without nat_cmp number files)
  files_gone gone = record {
    map = IsMap-without nat_cmp_total number files are.map;
    each = λ n. value_at-without nat_cmp_total number n files are.map ∙ by n (is_at (nat_cmp number) n) refl;
  }
    where
      by : (n : ℕ) (b : Bool) → is_at (nat_cmp number) n ≡ b → cond b None (value_at nat_cmp n files) ≡ file_of read inoded n
      by n true here = sym gone ∙ sym (this_file n (same_key exact_unsigned number n here))
      by n false apart = are.each n ∙ other_file n (unequal number n apart)
