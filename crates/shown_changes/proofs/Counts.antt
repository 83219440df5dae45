-- What is read off the counts of names: that no name leads to a number, and which numbers are no root.
use Rattle.std.proofs.Common.{◌≡◌, ℕ, ◌+◌, ◌≤◌, cond, Option, Some, None, List, [], refl, sym, ap, ◌∙◌, arith}
use Rattle.std.specs.Prelude.{◌≢◌, All, is_some, option_map}
use Rattle.std.specs.List.{slice_index_or}
use Rattle.std.specs.Ordering.{nat_cmp}
use Rattle.std.proofs.lemmas.Bool.{eq-eqb, true≢false}
use Rattle.std.proofs.lemmas.Option.{none-some as none_some}
use Rattle.plain_forest.specs.Forest.{Names, Tree}
use Rattle.vol_types.specs.Maps.{value_at}
use Rattle.vol_types.specs.Ranges.{name_cmp}
use Rattle.vol_types.specs.declared.values.FileKind.TheVariants.{Directory}
use Rattle.vol_types.specs.declared.values.Link.{Link}
use Rattle.forest_ops.specs.Trees.{Place, unlinked}
use Rattle.key_meaning.specs.Checks.{count_names}
use Rattle.key_meaning.specs.Forest.{is_directory, link_named}
use Rattle.key_steps.specs.Good.{IsLinkJoined, bare_tree}
use Rattle.key_steps.specs.Shown.{AreDirectoriesOf, AreNamesApart, Shown, kind_of, number_of}
use Rattle.shown_changes.proofs.Joined.{AreJoined}
use Rattle.shown_changes.proofs.Laws.{TreeLaws, one_for}

-- A name that leads to a number is counted.
pub counted_once : TreeLaws → (ds : List (ℕ × Names)) (directory : ℕ) (name : List ℕ) (number : ℕ) (names : Names) → value_at nat_cmp directory ds ≡ Some names → value_at name_cmp name names ≡ Some number → 1 ≤ count_names ds number
counted_once laws ds directory name number names held leads =
    let place : Place = record { directory = directory; name = name; number = number } in
    let tree : Tree = bare_tree 0 ds in
    let sums : count_names (unlinked place tree).directories number + one_for number number ≡ count_names ds number = laws.count_unlinked place tree (record { names = names; held = held; leads = leads }) number in
    let one : one_for number number ≡ 1 = ap (λ b. cond {A = ℕ} b 1 0) (eq-eqb number number refl) in
    omega (arith, sums, one)

-- a directory that shows is held in the map of directories
pub held_directory : (shown : Shown) (ds : List (ℕ × Names)) → AreDirectoriesOf shown ds → (number : ℕ) → kind_of shown number ≡ Some Directory → (names : Names) × (value_at nat_cmp number ds ≡ Some names)
held_directory shown ds are number kind = by (value_at nat_cmp number ds) refl
  where
    by : (o : Option Names) → value_at nat_cmp number ds ≡ o → (names : Names) × (value_at nat_cmp number ds ≡ Some names)
    by (Some names) is = (names, is)
    by None is = absurd (true≢false (sym (ap is_directory kind) ∙ sym (are.each number) ∙ ap is_some is))

-- Where no name is counted for a number, no name that shows leads to it.
pub none_leads : TreeLaws → (shown : Shown) (ds : List (ℕ × Names)) → AreDirectoriesOf shown ds → AreJoined shown → AreNamesApart shown → (number : ℕ) → count_names ds number ≡ 0 → (d s : ℕ) → All (λ (link : Link). link.number ≢ number) (shown.links d s)
none_leads laws shown ds are joined apart number none d s k e lt same =
    let link = slice_index_or (shown.links d s) k e in
    let is : IsLinkJoined shown d s link = joined d s k e lt in
    let held = held_directory shown ds are d is.in_directory in
    let found : number_of shown d link.name ≡ Some link.number =
    ap (λ slot. option_map (λ (l : Link). l.number) (link_named link.name (shown.links d slot))) is.under_slot ∙ ap (option_map (λ (l : Link). l.number)) (apart.each d s k e lt) in
    let once : 1 ≤ count_names ds link.number = counted_once laws ds d link.name link.number held.0 held.1 (are.names d held.0 held.1 link.name ∙ found) in
    let here : count_names ds link.number ≡ count_names ds number = ap (count_names ds) same in
    omega (arith, once, here, none)

-- A directory without names has none that shows.
pub none_within : (shown : Shown) (ds : List (ℕ × Names)) → AreDirectoriesOf shown ds → AreJoined shown → AreNamesApart shown → (number : ℕ) → value_at nat_cmp number ds ≡ Some [] → (d s : ℕ) → All (λ (link : Link). d ≢ number) (shown.links d s)
none_within shown ds are joined apart number empty d s k e lt same =
    let link = slice_index_or (shown.links d s) k e in
    let is : IsLinkJoined shown d s link = joined d s k e lt in
    let found : number_of shown d link.name ≡ Some link.number =
    ap (λ slot. option_map (λ (l : Link). l.number) (link_named link.name (shown.links d slot))) is.under_slot ∙ ap (option_map (λ (l : Link). l.number)) (apart.each d s k e lt) in
    none_some link.number (are.names d [] (ap (λ n. value_at nat_cmp n ds) same ∙ empty) link.name ∙ found)
