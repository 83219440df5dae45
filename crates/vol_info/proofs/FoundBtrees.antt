-- The btrees of a volume that was found, by their numbers.
use Rattle.std.proofs.Common.{◌≡◌, ◌+◌, ◌<◌, ℕ, drop, zero, suc, List, [], ◌∷◌, ◌++◌, map, length, get_or, Some, None, refl, ap, ◌∙◌, sym, subst, append_assoc}
use Rattle.std.specs.Prelude.{slice_get}
use Rattle.std.specs.List.{flat_map}
use Rattle.std.proofs.lemmas.Grind.{flat_map-append}
use Rattle.std.proofs.lemmas.List.{drop_more}
use Rattle.std.proofs.lemmas.Option.{same_Some}
use Rattle.std.specs.Map.{values_of}
use Rattle.image_view.specs.Trees.{BtreeRead, joined, no_btree}
use Rattle.image_reader.specs.Volumes.{btree_in, found_of}
use Rattle.image_reader.specs.declared.found.FoundBtree.{FoundBtree}
use Rattle.image_reader.specs.declared.found.FoundVolume.{FoundVolume}
use Rattle.vol_types.specs.Btrees.{btree_code}
use Rattle.vol_types.specs.KeyMaps.{entries_of}
use Rattle.vol_types.specs.declared.pointers.NodePtr.{NodePtr}
use Rattle.vol_types.specs.declared.pointers.Place.{Place}
use Rattle.vol_types.specs.declared.positions.Btree.{Btree}
use Rattle.vol_types.specs.declared.positions.Btree.TheVariants.{Extents, Inodes, Dirents, Subvols, Snapshots, Alloc, Backptrs, Deleted, Counters}
use Rattle.vol_info.specs.Facts.{levels_in, places_in}

-- what is made of the member at a place, and what stands for it where there is none
pub made_there : {X Y : Type 0} (f : X → Y) (d : Y) (xs : List X) (at : ℕ) (x : X) → Some x ≡ slice_get xs at → get_or (map f xs) at d ≡ f x
made_there f d [] at x is = absurd cc
made_there f d (y ∷ xs) zero x is = ap f (same_Some y x (sym is))
made_there f d (y ∷ xs) (suc at) x is = made_there f d xs at x is

pub none_there : {X Y : Type 0} (f : X → Y) (d : Y) (xs : List X) (at : ℕ) → None ≡ slice_get xs at → get_or (map f xs) at d ≡ d
none_there f d [] at is = refl
none_there f d (y ∷ xs) zero is = absurd cc
none_there f d (y ∷ xs) (suc at) is = none_there f d xs at is

-- the keys of a btree are those of the one with its number
pub entries_at : (btrees : List BtreeRead) (btree : Btree) → entries_of (joined btrees).keys btree ≡ (get_or btrees (btree_code btree) no_btree).entries
entries_at btrees Extents = refl
entries_at btrees Inodes = refl
entries_at btrees Dirents = refl
entries_at btrees Subvols = refl
entries_at btrees Snapshots = refl
entries_at btrees Alloc = refl
entries_at btrees Backptrs = refl
entries_at btrees Deleted = refl
entries_at btrees Counters = refl

map_twice : {X Y Z : Type 0} (f : X → Y) (g : Y → Z) (xs : List X) → map g (map f xs) ≡ map (λ x. g (f x)) xs
map_twice f g [] = refl
map_twice f g (x ∷ xs) = ap (λ rest. g (f x) ∷ rest) (map_twice f g xs)

module _ (found : FoundVolume) (btree : Btree) where
  pub levels_found : (number : ℕ) (one : FoundBtree) → number ≡ btree_code btree → Some one ≡ slice_get found.btrees number → one.levels ≡ levels_in (found_of found).trees btree
  levels_found number one is there =
      sym (ap (λ trees. get_or trees (btree_code btree) []) (map_twice btree_in (λ (b : BtreeRead). b.levels) found.btrees)
      ∙ made_there (λ (b : FoundBtree). b.levels) [] found.btrees (btree_code btree) one (subst (λ n. Some one ≡ slice_get found.btrees n) is there))

  pub no_levels : (number : ℕ) → number ≡ btree_code btree → None ≡ slice_get found.btrees number → [] ≡ levels_in (found_of found).trees btree
  no_levels number is none =
      sym (ap (λ trees. get_or trees (btree_code btree) []) (map_twice btree_in (λ (b : BtreeRead). b.levels) found.btrees)
      ∙ none_there (λ (b : FoundBtree). b.levels) [] found.btrees (btree_code btree) (subst (λ n. None ≡ slice_get found.btrees n) is none))

  pub entries_found : (number : ℕ) (one : FoundBtree) → number ≡ btree_code btree → Some one ≡ slice_get found.btrees number → one.entries ≡ entries_of (found_of found).trees.keys btree
  entries_found number one is there =
      sym (entries_at (map btree_in found.btrees) btree
      ∙ ap (λ (b : BtreeRead). b.entries) (made_there btree_in no_btree found.btrees (btree_code btree) one (subst (λ n. Some one ≡ slice_get found.btrees n) is there)))

  pub no_entries : (number : ℕ) → number ≡ btree_code btree → None ≡ slice_get found.btrees number → [] ≡ entries_of (found_of found).trees.keys btree
  no_entries number is none =
      sym (entries_at (map btree_in found.btrees) btree
      ∙ ap (λ (b : BtreeRead). b.entries) (none_there btree_in no_btree found.btrees (btree_code btree) (subst (λ n. None ≡ slice_get found.btrees n) is none)))

-- the places of the nodes of btrees are those of all nodes
pub places_found : (btrees : List FoundBtree)
    → flat_map places_in btrees
    ≡ flat_map (λ (node : NodePtr). node.places) (flat_map (λ levels. flat_map values_of levels) (map (λ (b : BtreeRead). b.levels) (map btree_in btrees)))
places_found [] = refl
places_found (btree ∷ btrees) =
    let here = flat_map values_of btree.levels in
    let others = flat_map (λ levels. flat_map values_of levels) (map (λ (b : BtreeRead). b.levels) (map btree_in btrees)) in
    ap (λ rest. places_in btree ++ rest) (places_found btrees) ∙ sym (flat_map-append (λ (node : NodePtr). node.places) here others)

-- the places of the nodes of a btree were added
pub btree_added : (btrees : List FoundBtree) (at : ℕ) (any : FoundBtree) → at < length btrees → (old new : List Place) → new ≡ old ++ places_in (get_or btrees at any) → new ++ flat_map places_in (drop (at + 1) btrees) ≡ old ++ flat_map places_in (drop at btrees)
btree_added btrees at any there old new added =
    let here = places_in (get_or btrees at any) in
    let rest = flat_map places_in (drop (at + 1) btrees) in
    ap (λ list. list ++ rest) added ∙ append_assoc old here rest ∙ ap (λ list. old ++ flat_map places_in list) (sym (drop_more btrees at any there))
