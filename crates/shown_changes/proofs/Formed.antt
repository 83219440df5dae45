-- What shows is good after a change of one inode and of the names under one slot: what has to be shown of each.
use Rattle.std.proofs.Common.{◌≡◌, ℕ, ◌*◌, ◌≤◌, Bool, true, false, cond, Option, Some, None, List, [], ◌∷◌, refl, sym, ap, ◌∙◌}
use Rattle.std.specs.Prelude.{◌==◌, Result, Ok, Err, is_some}
use Rattle.std.specs.Ordering.{nat_cmp}
use Rattle.std.proofs.lemmas.Bool.{eqb-true, false≢true, true≢false}
use Rattle.std.proofs.lemmas.Map.Lookups.{exact_unsigned}
use Rattle.std.proofs.lemmas.Cmp.{nat_cmp_total}
use Rattle.plain_forest.specs.Forest.{Names, Tree}
use Rattle.plain_forest.specs.Steps.{◌>>=◌, step, walk}
use Rattle.plain_forest.specs.declared.operation.Cause.{Cause}
use Rattle.vol_types.specs.Limits.{block_size}
use Rattle.vol_types.specs.Maps.{value_at}
use Rattle.vol_types.specs.declared.values.FileKind.{FileKind}
use Rattle.vol_types.specs.declared.values.FileKind.TheVariants.{Directory, File}
use Rattle.vol_types.specs.declared.values.Inode.{Inode}
use Rattle.vol_types.specs.declared.values.Link.{Link}
use Rattle.vol_types.specs.declared.values.Sub.{Sub}
use Rattle.key_meaning.specs.Checks.{IsRooted, count_names}
use Rattle.key_meaning.specs.Forest.{Read, is_directory}
use Rattle.key_meaning.specs.TableLaws.{IsMap-map_over}
use Rattle.key_steps.specs.Good.{IsGoodShown, bare_tree}
use Rattle.key_steps.specs.Shown.{AreDirectoriesOf, Shown, kind_of, with_inode, with_links}
use Rattle.shown_changes.proofs.Joined.{AreJoined}
use Rattle.shown_changes.specs.Changes.{MeansGoodTree}
use Rattle.tree_changes.specs.Trees.{IsFreeName, IsNameAt, IsWellFormed, MayMove}
use Rattle.forest_ops.specs.Trees.{Place}

-- a kind that is a directory's
pub directory_kind : (kind : Option FileKind) → is_directory kind ≡ true → kind ≡ Some Directory
directory_kind None is = absurd (false≢true is)
directory_kind (Some File) is = absurd (false≢true is)
directory_kind (Some Directory) is = refl

-- nothing is held where there is nothing
pub none_of : {X : Type 0} (o : Option X) → is_some o ≡ false → o ≡ None
none_of None is = refl
none_of (Some x) is = absurd (true≢false is)

-- What is held as a directory shows as one,
pub held_kind : (shown : Shown) (ds : List (ℕ × Names)) → AreDirectoriesOf shown ds → (number : ℕ) (names : Names) → value_at nat_cmp number ds ≡ Some names → kind_of shown number ≡ Some Directory
held_kind shown ds are number names held = directory_kind (kind_of shown number) (sym (are.each number) ∙ ap is_some held)

-- and what doesn't show as one isn't held as one.
pub not_held : (shown : Shown) (ds : List (ℕ × Names)) → AreDirectoriesOf shown ds → (number : ℕ) → is_directory (kind_of shown number) ≡ false → value_at nat_cmp number ds ≡ None
not_held shown ds are number none = none_of (value_at nat_cmp number ds) (are.each number ∙ none)

module _ (read : Read) (sub : Sub) (shown : Shown) (tree : Tree) (was : MeansGoodTree read sub shown tree) where
  abbrev bare : Tree
  bare = bare_tree sub.root tree.directories

  -- The tree without its files is well formed.
  pub formed : IsWellFormed bare
  formed = record {
    files = IsMap-map_over {X = List ℕ} nat_cmp_total exact_unsigned (λ number. None) [];
    directories = was.means.directories.map;
    names = was.means.directories.name_map;
    kinds = λ number some. absurd (false≢true some);
    top = was.means.directories.each sub.root ∙ ap is_directory was.good.top;
    rooted = was.good.rooted;
  }

  pub free_bare : (place : Place) → IsFreeName place tree → IsFreeName place bare
  free_bare place is = record { names = is.names; held = is.held; free = is.free }

  pub name_bare : (place : Place) → IsNameAt place tree → IsNameAt place bare
  name_bare place is = record { names = is.names; held = is.held; leads = is.leads }

  -- names lead in it where they lead in the tree
  walk_bare : (names : List (List ℕ)) (number : ℕ) → walk bare names number ≡ walk tree names number
  walk_bare [] number = refl
  walk_bare (name ∷ names) number = by (step tree number name) (walk_bare names)
    where
      by : (next : Result ℕ Cause) → ((n : ℕ) → walk bare names n ≡ walk tree names n) → (next >>= walk bare names) ≡ (next >>= walk tree names)
      by (Ok n) same = same n
      by (Err cause) same = refl

  from_root : (names : List (List ℕ)) (number : ℕ) → walk tree names tree.root ≡ Ok number → walk bare names bare.root ≡ Ok number
  from_root names number leads = walk_bare names sub.root ∙ ap (walk tree names) (sym was.means.root) ∙ leads

  pub move_bare : (old new : Place) → MayMove old new tree → MayMove old new bare
  move_bare old new may = record {
    from = name_bare old may.from;
    to = free_bare new may.to;
    same = may.same;
    old_names = may.old_names;
    old_leads = from_root may.old_names old.directory may.old_leads;
    new_names = may.new_names;
    new_leads = from_root may.new_names new.directory may.new_leads;
    apart = may.apart;
  }

module _ (root : ℕ) (shown : Shown) (number : ℕ) (inode : Option Inode) (directory slot : ℕ) (links : List Link) (ds after : List (ℕ × Names)) (good : IsGoodShown root shown ds) where
  abbrev new : Shown
  new = with_links directory slot links (with_inode number inode shown)

  abbrev inode_by : Bool → ℕ → Option Inode
  inode_by b n = cond b inode (shown.inodes n)

  -- What shows is good after the change where the names are joined, the root is a directory, the links of the inode are its names,
  -- as many names lead to each other number as before, no block shows behind the inode's end, and the directories form a tree.
  pub good_after : AreJoined new → kind_of new root ≡ Some Directory → ((n : ℕ) → (number == n) ≡ false → count_names after n ≡ count_names ds n)
      → ((i : Inode) → inode ≡ Some i → i.kind ≡ File → i.links ≡ count_names after number) → ((i : Inode) (block : ℕ) → inode ≡ Some i → i.size ≤ block * block_size → shown.blocks number block ≡ None)
      → IsRooted (bare_tree root after) → IsGoodShown root new after
  good_after joined top counts links_own ends_own rooted = record {
    top = top;
    names = joined;
    links = λ n i at file. links_by n i file (number == n) refl at;
    rooted = rooted;
    ends = λ n block i at behind. ends_by n block i behind (number == n) refl at;
  }
    where
      links_by : (n : ℕ) (i : Inode) → i.kind ≡ File → (b : Bool) → (number == n) ≡ b → inode_by (number == n) n ≡ Some i → i.links ≡ count_names after n
      links_by n i file true here at = links_own i (sym (ap (λ b. inode_by b n) here) ∙ at) file ∙ ap (count_names after) (eqb-true number n here)
      links_by n i file false apart at = good.links n i (sym (ap (λ b. inode_by b n) apart) ∙ at) file ∙ sym (counts n apart)

      ends_by : (n block : ℕ) (i : Inode) → i.size ≤ block * block_size → (b : Bool) → (number == n) ≡ b → inode_by (number == n) n ≡ Some i → shown.blocks n block ≡ None
      ends_by n block i behind true here at = ap (λ m. shown.blocks m block) (sym (eqb-true number n here)) ∙ ends_own i block (sym (ap (λ b. inode_by b n) here) ∙ at) behind
      ends_by n block i behind false apart at = good.ends n block i (sym (ap (λ b. inode_by b n) apart) ∙ at) behind
