-- What stands at a number after inodes came to a tree: what the inode of the number says that shows in a chain.
use Rattle.std.proofs.Common.{◌≡◌, ℕ, Bool, true, false, cond, Option, Some, None, List, [], ◌∷◌, refl, sym, ap, ◌∙◌}
use Rattle.std.specs.Prelude.{◌&&◌, ◌==◌, option_and_then, option_map, replicate}
use Rattle.std.specs.BTreeMap.{is_at}
use Rattle.std.specs.List.Sorted.{IsStrictlySortedBy}
use Rattle.std.specs.Option.{option_or}
use Rattle.std.specs.Ordering.{is_eq, nat_cmp, ordering_then}
use Rattle.std.specs.declared.cmp.Ordering.{Ordering}
use Rattle.std.specs.declared.cmp.Ordering.TheVariants.{Less, Equal, Greater}
use Rattle.std.proofs.lemmas.Cmp.{nat_cmp_total}
use Rattle.std.proofs.lemmas.Map.Lookups.{exact_unsigned}
use Rattle.key_meaning.specs.Forest.{inode_of, is_directory, size_of, size_of_kind}
use Rattle.key_meaning.specs.TableLaws.{none_both, same_key}
use Rattle.key_meaning.specs.Visible.{first_value, own_value}
use Rattle.plain_forest.specs.Forest.{Names, Tree}
use Rattle.snap_tree.specs.ChainLaws.{same_test}
use Rattle.snap_tree.specs.Names.{pair_cmp}
use Rattle.vol_types.specs.KeyMaps.{IsKeyMap, KeyMap}
use Rattle.vol_types.specs.Maps.{IsMap, value_at}
use Rattle.vol_types.specs.declared.positions.Btree.TheVariants.{Inodes}
use Rattle.vol_types.specs.declared.values.FileKind.{FileKind}
use Rattle.vol_types.specs.declared.values.FileKind.TheVariants.{File, Directory}
use Rattle.vol_types.specs.declared.values.Inode.{Inode}
use Rattle.forest_view.specs.Nearest.{Nearest, nearest_with}
use Rattle.forest_view.specs.Shown.{with_inode_maybe, with_inodes, with_kind, with_number}
use Rattle.forest_view.proofs.Adding.{IsMap-with_new, first_some, one_place, or_none, or_or, through, value_at-with_new}
use Rattle.forest_view.proofs.NearestLaws.{nearest_rises, nearest_shows, pair_exact, pair_total}

-- a test of a pair is one of both parts
pub both_parts : (x y : Ordering) → is_eq (ordering_then x y) ≡ (is_eq x && is_eq y)
both_parts Less y = refl
both_parts Equal y = refl
both_parts Greater y = refl

-- A part of a tree takes what inodes give it, at numbers where nothing stood, and stays a map.
pub record Takes {Y : Type 0} (part : Tree → List (ℕ × Y)) (give : Option Inode → Option Y) : Type 0 where
  pub nothing : give None ≡ None
  pub one : (number : ℕ) (inode : Option Inode) (tree : Tree) (q : ℕ) → value_at nat_cmp q (part (with_inode_maybe number inode tree)) ≡ option_or (value_at nat_cmp q (part tree)) (cond (is_at (nat_cmp q) number) (give inode) None)
  pub rises : (number : ℕ) (inode : Option Inode) (tree : Tree) → IsMap nat_cmp (part tree) → IsMap nat_cmp (part (with_inode_maybe number inode tree))

module _ {Y : Type 0} (part : Tree → List (ℕ × Y)) (give : Option Inode → Option Y) (takes : Takes part give) (keys : KeyMap) where
  -- what an id at a place gives at a number
  abbrev given : ℕ → (ℕ × ℕ) × ℕ → Option Y
  given q near = cond (is_at (pair_cmp (0, q)) near.0) (give (inode_of (own_value keys Inodes 0 q near.1))) None

  one_number : (q : ℕ) (near : (ℕ × ℕ) × ℕ) (tree : Tree) → value_at nat_cmp q (part (with_number keys near.0.0 near.0.1 near.1 tree)) ≡ option_or (value_at nat_cmp q (part tree)) (given q near)
  one_number q near tree =
      by (near.0.0 == 0) (is_at (nat_cmp q) near.0.1) refl
      ∙ ap (λ b. option_or (value_at nat_cmp q (part tree)) (cond b (give (inode_of (own_value keys Inodes 0 q near.1))) None)) (sym (both_parts (nat_cmp 0 near.0.0) (nat_cmp q near.0.1) ∙ ap (λ b. b && is_at (nat_cmp q) near.0.1) (same_test 0 near.0.0)))
    where
      at_number : (b : Bool) → is_at (nat_cmp q) near.0.1 ≡ b → cond b (give (inode_of (own_value keys Inodes 0 near.0.1 near.1))) None ≡ cond b (give (inode_of (own_value keys Inodes 0 q near.1))) None
      at_number true at = ap (λ n. give (inode_of (own_value keys Inodes 0 n near.1))) (sym (same_key exact_unsigned q near.0.1 at))
      at_number false at = refl

      by : (z b : Bool) → is_at (nat_cmp q) near.0.1 ≡ b
          → value_at nat_cmp q (part (cond z (with_inode_maybe near.0.1 (inode_of (own_value keys Inodes 0 near.0.1 near.1)) tree) tree))
          ≡ option_or (value_at nat_cmp q (part tree)) (cond (z && is_at (nat_cmp q) near.0.1) (give (inode_of (own_value keys Inodes 0 q near.1))) None)
      by true b at =
          takes.one near.0.1 (inode_of (own_value keys Inodes 0 near.0.1 near.1)) tree q
          ∙ ap (option_or (value_at nat_cmp q (part tree))) (at_number (is_at (nat_cmp q) near.0.1) refl)
      by false b at = sym (or_none (value_at nat_cmp q (part tree)))

  all_numbers : (q : ℕ) (nearest : Nearest) (tree : Tree) → value_at nat_cmp q (part (with_inodes keys nearest tree)) ≡ option_or (value_at nat_cmp q (part tree)) (first_some (given q) nearest)
  all_numbers q [] tree = sym (or_none (value_at nat_cmp q (part tree)))
  all_numbers q (near ∷ nearest) tree =
      all_numbers q nearest (with_number keys near.0.0 near.0.1 near.1 tree)
      ∙ ap (λ o. option_or o (first_some (given q) nearest)) (one_number q near tree)
      ∙ or_or (value_at nat_cmp q (part tree)) (given q near) (first_some (given q) nearest)

  -- The part is a map of numbers still.
  pub numbers_rise : (nearest : Nearest) (tree : Tree) → IsMap nat_cmp (part tree) → IsMap nat_cmp (part (with_inodes keys nearest tree))
  numbers_rise [] tree rises = rises
  numbers_rise (near ∷ nearest) tree rises = numbers_rise nearest (with_number keys near.0.0 near.0.1 near.1 tree) (by (near.0.0 == 0))
    where
      by : (z : Bool) → IsMap nat_cmp (part (cond z (with_inode_maybe near.0.1 (inode_of (own_value keys Inodes 0 near.0.1 near.1)) tree) tree))
      by true = takes.rises near.0.1 (inode_of (own_value keys Inodes 0 near.0.1 near.1)) tree rises
      by false = rises

  -- At a number stands what the inode of the number gives that a rising chain has first.
  pub numbers_show : IsKeyMap keys → (chain : List ℕ) → IsStrictlySortedBy nat_cmp chain → (tree : Tree) → part tree ≡ [] → (q : ℕ)
      → value_at nat_cmp q (part (with_inodes keys (nearest_with chain keys.inodes []) tree)) ≡ give (inode_of (first_value keys Inodes 0 q chain))
  unfolding IsStrictlySortedBy
  numbers_show is chain rises tree none q =
      let nearest = nearest_with chain keys.inodes [] in
      all_numbers q nearest tree
      ∙ ap (λ (es : List (ℕ × Y)). option_or (value_at nat_cmp q es) (first_some (given q) nearest)) none
      ∙ one_place pair_total pair_exact (λ id. give (inode_of (own_value keys Inodes 0 q id))) (0, q) nearest (nearest_rises chain keys.inodes [] tt)
      ∙ through (own_value keys Inodes 0 q) (λ v. give (inode_of v)) takes.nothing (value_at pair_cmp (0, q) nearest)
      ∙ ap (λ v. give (inode_of v)) (nearest_shows 0 q keys Inodes is chain rises)

-- what a file's inode gives, which is its size in zeros
abbrev pub zeros_of : Option Inode → Option (List ℕ)
zeros_of inode = option_map (λ size. replicate size 0) (option_and_then size_of inode)

-- what a directory's inode gives, which is a directory without names
abbrev pub bare_of : Option Inode → Option Names
bare_of inode = cond (is_directory (option_map (λ (i : Inode). i.kind) inode)) (Some []) None

-- nothing, wherever it is given
given_nothing : {X : Type 0} (o : Option X) (b : Bool) → o ≡ option_or o (cond b None None)
given_nothing o b = sym (ap (option_or o) (none_both b) ∙ or_none o)

pub files_take : Takes (λ (tree : Tree). tree.files) zeros_of
files_take = record { nothing = refl; one = one; rises = rises }
  where
    one_kind : (number size : ℕ) (kind : FileKind) (tree : Tree) (q : ℕ) → value_at nat_cmp q (with_kind number kind size tree).files ≡ option_or (value_at nat_cmp q tree.files) (cond (is_at (nat_cmp q) number) (option_map (λ size. replicate size 0) (size_of_kind kind size)) None)
    one_kind number size File tree q = value_at-with_new nat_cmp_total exact_unsigned number (replicate size 0) q tree.files
    one_kind number size Directory tree q = given_nothing (value_at nat_cmp q tree.files) (is_at (nat_cmp q) number)

    one : (number : ℕ) (inode : Option Inode) (tree : Tree) (q : ℕ) → value_at nat_cmp q (with_inode_maybe number inode tree).files ≡ option_or (value_at nat_cmp q tree.files) (cond (is_at (nat_cmp q) number) (zeros_of inode) None)
    one number None tree q = given_nothing (value_at nat_cmp q tree.files) (is_at (nat_cmp q) number)
    one number (Some inode) tree q = one_kind number inode.size inode.kind tree q

    kind_rises : (number size : ℕ) (kind : FileKind) (tree : Tree) → IsMap nat_cmp tree.files → IsMap nat_cmp (with_kind number kind size tree).files
    kind_rises number size File tree rises = IsMap-with_new nat_cmp_total exact_unsigned number (replicate size 0) tree.files rises
    kind_rises number size Directory tree rises = rises

    rises : (number : ℕ) (inode : Option Inode) (tree : Tree) → IsMap nat_cmp tree.files → IsMap nat_cmp (with_inode_maybe number inode tree).files
    rises number None tree is = is
    rises number (Some inode) tree is = kind_rises number inode.size inode.kind tree is

pub directories_take : Takes (λ (tree : Tree). tree.directories) bare_of
directories_take = record { nothing = refl; one = one; rises = rises }
  where
    one_kind : (number size : ℕ) (kind : FileKind) (tree : Tree) (q : ℕ) → value_at nat_cmp q (with_kind number kind size tree).directories ≡ option_or (value_at nat_cmp q tree.directories) (cond (is_at (nat_cmp q) number) (cond (is_directory (Some kind)) (Some []) None) None)
    one_kind number size File tree q = given_nothing (value_at nat_cmp q tree.directories) (is_at (nat_cmp q) number)
    one_kind number size Directory tree q = value_at-with_new nat_cmp_total exact_unsigned number [] q tree.directories

    one : (number : ℕ) (inode : Option Inode) (tree : Tree) (q : ℕ) → value_at nat_cmp q (with_inode_maybe number inode tree).directories ≡ option_or (value_at nat_cmp q tree.directories) (cond (is_at (nat_cmp q) number) (bare_of inode) None)
    one number None tree q = given_nothing (value_at nat_cmp q tree.directories) (is_at (nat_cmp q) number)
    one number (Some inode) tree q = one_kind number inode.size inode.kind tree q

    kind_rises : (number size : ℕ) (kind : FileKind) (tree : Tree) → IsMap nat_cmp tree.directories → IsMap nat_cmp (with_kind number kind size tree).directories
    kind_rises number size File tree rises = rises
    kind_rises number size Directory tree rises = IsMap-with_new nat_cmp_total exact_unsigned number [] tree.directories rises

    rises : (number : ℕ) (inode : Option Inode) (tree : Tree) → IsMap nat_cmp tree.directories → IsMap nat_cmp (with_inode_maybe number inode tree).directories
    rises number None tree is = is
    rises number (Some inode) tree is = kind_rises number inode.size inode.kind tree is

-- What inodes come to leaves the rest of a tree.
abbrev pub head : Tree → Bool × ℕ
head tree = (tree.locked, tree.root)

pub head_stays : (keys : KeyMap) (nearest : Nearest) (tree : Tree) → head (with_inodes keys nearest tree) ≡ head tree
head_stays keys [] tree = refl
head_stays keys (near ∷ nearest) tree = head_stays keys nearest (with_number keys near.0.0 near.0.1 near.1 tree) ∙ by (near.0.0 == 0) (inode_of (own_value keys Inodes 0 near.0.1 near.1))
  where
    of_kind : (kind : FileKind) (size : ℕ) → head (with_kind near.0.1 kind size tree) ≡ head tree
    of_kind File size = refl
    of_kind Directory size = refl

    by : (z : Bool) (inode : Option Inode) → head (cond z (with_inode_maybe near.0.1 inode tree) tree) ≡ head tree
    by true None = refl
    by true (Some inode) = of_kind inode.kind inode.size
    by false inode = refl
