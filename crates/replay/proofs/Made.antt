-- The key map that is made of btrees that were found is that of what was read.
use Rattle.std.proofs.Common.{◌≡◌, ℕ, zero, suc, List, [], ◌∷◌, ◌++◌, length, map, get_or, refl, sym, ap, subst, ◌∙◌, arith}
use Rattle.std.specs.List.{AllByRecursion, flat_map}
use Rattle.birth_index.specs.Births.{BirthsDiffer}
use Rattle.btree_map.specs.Trees.{IsBtree, IsTrees, Trees, keys_in, no_cut}
use Rattle.image_view.specs.Found.{Found}
use Rattle.image_view.specs.Trees.{TreesRead, joined, no_btree}
use Rattle.image_reader.specs.Volumes.{btree_in, found_of, last_of}
use Rattle.image_reader.specs.declared.found.FoundBtree.{FoundBtree}
use Rattle.image_reader.specs.declared.found.FoundVolume.{FoundVolume}
use Rattle.tree_nodes.specs.Levels.{Levels}
use Rattle.vol_types.specs.Btrees.{btree_code}
use Rattle.vol_types.specs.KeyMaps.{key_map}
use Rattle.vol_types.specs.declared.pointers.NodeEnd.{NodeEnd}
use Rattle.vol_types.specs.declared.positions.Btree.{Btree}
use Rattle.vol_types.specs.declared.positions.Btree.TheVariants.{Extents, Inodes, Dirents, Subvols, Snapshots, Alloc, Backptrs, Deleted, Counters}
use Rattle.replay.specs.Volumes.{AreBtrees, IsFoundBtree, cut_found, trees_found, trees_read}

-- ---- nine btrees

-- Nine btrees that were found are, as those of a key map, the btrees that were read.
pub nine_found : (btrees : List FoundBtree) → length btrees ≡ 9 → trees_found btrees ≡ trees_read (joined (map btree_in btrees))
nine_found [] nine = absurd (omega (arith, nine))
nine_found (a ∷ []) nine = absurd (omega (arith, nine))
nine_found (a ∷ b ∷ []) nine = absurd (omega (arith, nine))
nine_found (a ∷ b ∷ c ∷ []) nine = absurd (omega (arith, nine))
nine_found (a ∷ b ∷ c ∷ d ∷ []) nine = absurd (omega (arith, nine))
nine_found (a ∷ b ∷ c ∷ d ∷ e ∷ []) nine = absurd (omega (arith, nine))
nine_found (a ∷ b ∷ c ∷ d ∷ e ∷ f ∷ []) nine = absurd (omega (arith, nine))
nine_found (a ∷ b ∷ c ∷ d ∷ e ∷ f ∷ g ∷ []) nine = absurd (omega (arith, nine))
nine_found (a ∷ b ∷ c ∷ d ∷ e ∷ f ∷ g ∷ h ∷ []) nine = absurd (omega (arith, nine))
nine_found (a ∷ b ∷ c ∷ d ∷ e ∷ f ∷ g ∷ h ∷ i ∷ j ∷ more) nine = absurd (omega (arith, nine))
nine_found (a ∷ b ∷ c ∷ d ∷ e ∷ f ∷ g ∷ h ∷ i ∷ []) nine = refl

one_found : (btree : Btree) (found : FoundBtree) → IsBtree btree (cut_found found) found.levels → IsFoundBtree found
one_found btree found is = record { keys = is.keys; nodes = is.nodes }

nine_each : (btrees : List FoundBtree) → length btrees ≡ 9 → IsTrees (trees_found btrees) → AllByRecursion IsFoundBtree btrees
nine_each [] nine is = absurd (omega (arith, nine))
nine_each (a ∷ []) nine is = absurd (omega (arith, nine))
nine_each (a ∷ b ∷ []) nine is = absurd (omega (arith, nine))
nine_each (a ∷ b ∷ c ∷ []) nine is = absurd (omega (arith, nine))
nine_each (a ∷ b ∷ c ∷ d ∷ []) nine is = absurd (omega (arith, nine))
nine_each (a ∷ b ∷ c ∷ d ∷ e ∷ []) nine is = absurd (omega (arith, nine))
nine_each (a ∷ b ∷ c ∷ d ∷ e ∷ f ∷ []) nine is = absurd (omega (arith, nine))
nine_each (a ∷ b ∷ c ∷ d ∷ e ∷ f ∷ g ∷ []) nine is = absurd (omega (arith, nine))
nine_each (a ∷ b ∷ c ∷ d ∷ e ∷ f ∷ g ∷ h ∷ []) nine is = absurd (omega (arith, nine))
nine_each (a ∷ b ∷ c ∷ d ∷ e ∷ f ∷ g ∷ h ∷ i ∷ j ∷ more) nine is = absurd (omega (arith, nine))
nine_each (a ∷ b ∷ c ∷ d ∷ e ∷ f ∷ g ∷ h ∷ i ∷ []) nine is = (
  one_found Extents a (is.each Extents),
  (
    one_found Inodes b (is.each Inodes),
    (
      one_found Dirents c (is.each Dirents),
      (
        one_found Subvols d (is.each Subvols),
        (
          one_found Snapshots e (is.each Snapshots),
          (one_found Alloc f (is.each Alloc), (one_found Backptrs g (is.each Backptrs), (one_found Deleted h (is.each Deleted), (one_found Counters i (is.each Counters), tt)))),
        ),
      ),
    ),
  ),
)

as_many : {A B : Type 0} (f : A → B) (xs : List A) → length (map f xs) ≡ length xs
as_many f [] = refl
as_many f (x ∷ xs) = ap suc (as_many f xs)

-- Each btree of a key map is one.
pub each_found : (btrees : List FoundBtree) → AreBtrees btrees → AllByRecursion IsFoundBtree btrees
each_found btrees are = nine_each btrees (sym (as_many cut_found btrees) ∙ are.trees.key_count) are.trees

-- ---- what was found

entries_at : (btrees : List FoundBtree) (place : ℕ) → (get_or (map cut_found btrees) place no_cut).entries ≡ (get_or (map btree_in btrees) place no_btree).entries
entries_at [] place = refl
entries_at (b ∷ btrees) zero = refl
entries_at (b ∷ btrees) (suc place) = entries_at btrees place

levels_found : (btrees : List FoundBtree) → map (λ (btree : FoundBtree). btree.levels) btrees ≡ (joined (map btree_in btrees)).nodes
levels_found [] = refl
levels_found (b ∷ btrees) = ap (λ (ls : List Levels). b.levels ∷ ls) (levels_found btrees)

ends_found : (btrees : List FoundBtree) → flat_map (λ (btree : FoundBtree). btree.ends) btrees ≡ (joined (map btree_in btrees)).ends
ends_found [] = refl
ends_found (b ∷ btrees) = ap (λ (es : List NodeEnd). b.ends ++ es) (ends_found btrees)

-- the btrees of a key map, with the ends of the sets of nodes, as btrees that were read
abbrev pub read_in : Trees → List NodeEnd → TreesRead
read_in trees ends = record { keys = keys_in trees; nodes = trees.nodes; ends = ends }

-- what was found with these btrees
abbrev pub with_trees : FoundVolume → TreesRead → Found
with_trees read trees = record { layout = read.layout; session = read.session; last = last_of read.needed; needed = read.needed; trees = trees }

abbrev pub found_with : FoundVolume → Trees → List NodeEnd → Found
found_with read trees ends = with_trees read (read_in trees ends)

-- What the key map of btrees that were found has is what was read.
pub found_read : (btrees : List FoundBtree) → read_in (trees_found btrees) (flat_map (λ (btree : FoundBtree). btree.ends) btrees) ≡ joined (map btree_in btrees)
found_read btrees = λ k. record {
  keys = key_map (λ btree. entries_at btrees (btree_code btree) k);
  nodes = levels_found btrees k;
  ends = ends_found btrees k;
}

-- So a volume with this key map was found as what was read.
pub found_made : (read : FoundVolume) (trees : Trees) (ends : List NodeEnd) → trees ≡ trees_found read.btrees → ends ≡ flat_map (λ (btree : FoundBtree). btree.ends) read.btrees
    → found_with read trees ends ≡ found_of read
found_made read trees ends trees_are ends_are =
    ap (λ (t : TreesRead). with_trees read t) ((λ k. read_in (trees_are k) (ends_are k)) ∙ found_read read.btrees)

-- A volume whose btrees that were read are a key map has btrees that make one.
pub is_volume : (read : FoundVolume) → IsTrees (trees_read (found_of read).trees) → BirthsDiffer (found_of read).trees.nodes
    → AreBtrees read.btrees
is_volume read trees births =
    let nine : length read.btrees ≡ 9 = sym (as_many btree_in read.btrees) ∙ sym (as_many _ (map btree_in read.btrees)) ∙ trees.node_count in
    record {
      trees = subst IsTrees (sym (nine_found read.btrees nine)) trees;
      births = subst BirthsDiffer (sym (levels_found read.btrees)) births;
    }
