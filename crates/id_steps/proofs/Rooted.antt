-- What an empty root directory shows is good, and means an empty tree.
use Rattle.std.proofs.Common.{◌≡◌, ℕ, Bool, true, false, cond, Option, Some, None, List, [], ◌∷◌, refl, sym, ap, ◌∙◌, subst, arith, map}
use Rattle.std.specs.Prelude.{◌/◌, ◌%◌, ◌==◌, Ok, IsSome, is_some, option_and_then, option_map}
use Rattle.std.specs.List.{range_with_len}
use Rattle.std.specs.List.Sorted.{IsStrictlySortedBy}
use Rattle.std.specs.Ordering.{nat_cmp}
use Rattle.std.specs.declared.cmp.Ordering.{Ordering}
use Rattle.std.proofs.lemmas.Bool.{eq-eqb, eqb-true, true≢false}
use Rattle.std.proofs.lemmas.List.Elements.{All-nil}
use Rattle.std.proofs.lemmas.Option.{same_Some, none-some as none_some}
use Rattle.forest_ops.specs.Trees.{empty_tree}
use Rattle.id_steps.specs.Steps.{empty_directory}
use Rattle.key_meaning.specs.Forest.{Read, byte_at, is_directory, size_of}
use Rattle.key_steps.specs.Good.{IsGoodShown, IsLinkJoined}
use Rattle.key_steps.specs.Shown.{AreDirectoriesOf, IsTreeOf, Shown, bytes_of}
use Rattle.plain_forest.specs.Forest.{Names}
use Rattle.snap_tree.specs.ChainLaws.{same_test}
use Rattle.vol_types.specs.Limits.{block_size}
use Rattle.vol_types.specs.Maps.{IsMap, value_at}
use Rattle.vol_types.specs.Ranges.{name_cmp}
use Rattle.vol_types.specs.Values.{file_kind_code}
use Rattle.vol_types.specs.declared.values.FileKind.TheVariants.{File}
use Rattle.vol_types.specs.declared.values.Inode.{Inode}
use Rattle.vol_types.specs.declared.values.Sub.{Sub}

-- what shows where there is an empty root directory and nothing else
abbrev pub root_shown : ℕ → Shown
root_shown root = record { inodes = λ number. cond (root == number) (Some empty_directory) None; links = λ directory slot. []; blocks = λ file block. None }

-- the directories of an empty tree
abbrev pub root_alone : ℕ → List (ℕ × Names)
root_alone root = (root, []) ∷ []

no_entries : {K : Type 0} (X : Type 0) (cmp : K → K → Ordering) → IsMap {K = K} {X = X} cmp []
unfolding IsStrictlySortedBy
no_entries X cmp = tt

one_entry : {K X : Type 0} (cmp : K → K → Ordering) (e : K × X) → IsMap cmp (e ∷ [])
unfolding IsStrictlySortedBy
one_entry cmp e = (tt, tt)

module _ (root : ℕ) where
  found : (number : ℕ) → value_at nat_cmp number (root_alone root) ≡ cond (root == number) (Some []) None
  found number = ap (λ b. cond {A = Option Names} b (Some []) None) (same_test number root)

  is_root : (number : ℕ) → IsSome (value_at nat_cmp number (root_alone root)) → root ≡ number
  is_root number there = by (root == number) refl (sym (ap is_some (found number)) ∙ there)
    where
      by : (b : Bool) → (root == number) ≡ b → is_some (cond {A = Option Names} b (Some []) None) ≡ true → root ≡ number
      by true same some = eqb-true root number same
      by false apart some = absurd (true≢false (sym some))

  names_none : (b : Bool) (names : Names) → cond {A = Option Names} b (Some []) None ≡ Some names → [] ≡ names
  names_none true names same = same_Some [] names same
  names_none false names same = absurd (none_some names same)

  -- The directories are those that show,
  pub root_directories : AreDirectoriesOf (root_shown root) (root_alone root)
  root_directories = record {
    map = one_entry {X = Names} nat_cmp (root, []);
    each = λ number. ap is_some (found number) ∙ by (root == number);
    name_map = λ number names is. subst (IsMap name_cmp) (names_none (root == number) names (sym (found number) ∙ is)) (no_entries ℕ name_cmp);
    names = λ number names is name. ap (value_at name_cmp name) (sym (names_none (root == number) names (sym (found number) ∙ is)));
  }
    where
      by : (b : Bool) → is_some (cond {A = Option Names} b (Some []) None) ≡ is_directory (option_map (λ (inode : Inode). inode.kind) (cond b (Some empty_directory) None))
      by true = refl
      by false = refl

  -- the tree is the empty one,
  pub root_tree : (read : Read) (sub : Sub) → sub.read_only ≡ false → sub.root ≡ root → IsTreeOf read sub (root_shown root) (empty_tree root)
  root_tree read sub free is = record {
    locked = sym free;
    root = sym is;
    files = record { map = no_entries (List ℕ) nat_cmp; each = λ number. by number (root == number) };
    directories = root_directories;
  }
    where
      by : (number : ℕ) (b : Bool) → None ≡ option_map (λ (size : ℕ). map (λ (index : ℕ). byte_at (bytes_of read (root_shown root) number (index / block_size)) (index % block_size)) (range_with_len 0 size)) (option_and_then size_of (cond b (Some empty_directory) None))
      by number true = refl
      by number false = refl

  no_file : (b : Bool) (inode : Inode) → cond b (Some empty_directory) None ≡ Some inode → inode.kind ≡ File → ⊥
  no_file true inode same file = absurd (omega (arith, ap file_kind_code (ap (λ (i : Inode). i.kind) (same_Some empty_directory inode same) ∙ file)))
  no_file false inode same file = absurd (none_some inode same)

  -- and what shows is good.
  pub root_good : IsGoodShown root (root_shown root) (root_alone root)
  root_good = record {
    top = ap (λ b. option_map (λ (inode : Inode). inode.kind) (cond b (Some empty_directory) None)) (eq-eqb root root refl);
    names = λ directory slot. All-nil (IsLinkJoined (root_shown root) directory slot);
    links = λ number inode at file. absurd (no_file (root == number) inode at file);
    rooted = record {
      root = refl;
      named = λ number is other. absurd (other (sym (is_root number is)));
      below = λ number is. record { names = []; leads = ap Ok (is_root number is) };
    };
    ends = λ number block inode at behind. refl;
  }
