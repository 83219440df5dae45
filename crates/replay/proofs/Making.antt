-- What is left of the lists while btrees are made of them, one member after the other.
use Rattle.std.proofs.Common.{◌≡◌, ℕ, zero, suc, ◌<◌, List, [], ◌∷◌, ◌++◌, length, map, Result, Ok, Err, get_or, refl, arith, sym, ap, subst, ◌∙◌, append-nil, append_assoc}
use Rattle.std.specs.List.{AllByRecursion, flat_map}
use Rattle.std.specs.Result.{IsErrAnd}
use Rattle.std.proofs.lemmas.List.Elements.{recursion_from_All}
use Rattle.image_reader.specs.declared.found.FoundBtree.{FoundBtree}
use Rattle.tree_keys.specs.Cuts.{Cut}
use Rattle.tree_nodes.specs.Levels.{IsTree, Level, Levels}
use Rattle.vol_types.specs.Maps.{IsMap}
use Rattle.vol_types.specs.Positions.{pos_cmp}
use Rattle.vol_types.specs.declared.pointers.NodeEnd.{NodeEnd}
use Rattle.replay.specs.Volumes.{IsFoundBtree, cut_found}
use Rattle.replay.specs.declared.btrees.Unmade.{Unmade}
use Rattle.replay.specs.declared.btrees.Unmade.TheVariants.{NotBtrees}

-- a fault in place of what was to be made
abbrev failed : {T : Type 0} → Unmade → Result T Unmade
failed fault = Err fault

-- What a call says of lists that are no btrees holds where its fault is handed on.
pub handed_on : {T U : Type 0} (result : Result T Unmade) (fault : Unmade) (P : Type 0) → IsErrAnd result (λ e. e ≡ fault) → (failed {T = U} fault ≡ Err NotBtrees → P) → result ≡ Err NotBtrees → P
handed_on (Ok value) fault P is told same = absurd is
handed_on (Err e) fault P is told same = let named : e ≡ NotBtrees = cc in told (ap (λ f. Err f) (sym is ∙ named))

-- ---- levels

same_default : {X : Type 0} (xs : List X) (place : ℕ) (one other : X) → place < length xs → get_or xs place one ≡ get_or xs place other
same_default [] place one other lt = absurd (omega (arith, lt))
same_default (x ∷ xs) zero one other lt = refl
same_default (x ∷ xs) (suc place) one other lt = same_default xs place one other (omega (arith, lt))

-- The nodes of each level of a tree rise.
pub tree_rises : (levels : Levels) → IsTree levels → AllByRecursion (IsMap pos_cmp) levels
tree_rises levels is = recursion_from_All (IsMap pos_cmp) levels (λ k d lt. subst (IsMap pos_cmp) (same_default levels k [] d lt) (is.each k lt).row.rises)

-- The levels so far and those that are left are all, and what holds of all levels holds of those that are left.
pub record IsRaising (levels all rest : List Level) : Type 0 where
  pub whole : all ++ rest ≡ levels
  pub still : AllByRecursion (IsMap pos_cmp) levels → AllByRecursion (IsMap pos_cmp) rest

module _ (levels all rest later : List Level) (level : Level) (raising : IsRaising levels all rest) (next : rest ≡ level ∷ later) where
  -- the next level rises where all do
  pub next_rises : AllByRecursion (IsMap pos_cmp) levels → IsMap pos_cmp level
  next_rises each = (subst (AllByRecursion (IsMap pos_cmp)) next (raising.still each)).0

  pub raising_more : (new : List Level) → new ≡ all ++ level ∷ [] → IsRaising levels new later
  raising_more new push = record {
    whole = ap (λ ls. ls ++ later) push ∙ append_assoc all (level ∷ []) later ∙ ap (λ ls. all ++ ls) (sym next) ∙ raising.whole;
    still = λ each. (subst (AllByRecursion (IsMap pos_cmp)) next (raising.still each)).1;
  }

-- with none left, all are there
pub raising_all : (levels all rest : List Level) → IsRaising levels all rest → rest ≡ [] → all ≡ levels
raising_all levels all rest raising none = sym (append-nil all) ∙ ap (λ ls. all ++ ls) (sym none) ∙ raising.whole

-- ---- btrees

-- The parts so far and those of the btrees that are left are those of all, and what holds of all btrees holds of those that are left.
pub record IsMaking (btrees : List FoundBtree) (keys : List Cut) (nodes : List Levels) (ends : List NodeEnd) (ragged : List ℕ) (rest : List FoundBtree) : Type 0 where
  pub keys_are : keys ++ map cut_found rest ≡ map cut_found btrees
  pub nodes_are : nodes ++ map (λ btree. btree.levels) rest ≡ map (λ btree. btree.levels) btrees
  pub ends_are : ends ++ flat_map (λ btree. btree.ends) rest ≡ flat_map (λ btree. btree.ends) btrees
  pub ragged_are : ragged ++ flat_map (λ btree. btree.ragged) rest ≡ flat_map (λ btree. btree.ragged) btrees
  pub still : AllByRecursion IsFoundBtree btrees → AllByRecursion IsFoundBtree rest

-- with no parts all are left
pub making_none : (btrees : List FoundBtree) → IsMaking btrees [] [] [] [] btrees
making_none btrees = record { keys_are = λ _. map cut_found btrees; nodes_are = λ _. map (λ (btree : FoundBtree). btree.levels) btrees; ends_are = λ _. flat_map (λ (btree : FoundBtree). btree.ends) btrees; ragged_are = λ _. flat_map (λ (btree : FoundBtree). btree.ragged) btrees; still = λ each. each }

module _ (btrees : List FoundBtree) (keys : List Cut) (nodes : List Levels) (ends : List NodeEnd) (ragged : List ℕ) (rest later : List FoundBtree) (btree : FoundBtree) (making : IsMaking btrees keys nodes ends ragged rest) (next : rest ≡ btree ∷ later) where
  -- the next btree is one where all are
  pub next_is : AllByRecursion IsFoundBtree btrees → IsFoundBtree btree
  next_is each = (subst (AllByRecursion IsFoundBtree) next (making.still each)).0

  pub making_more : (new_keys : List Cut) (new_nodes : List Levels) (new_ends : List NodeEnd) (new_ragged : List ℕ) → new_keys ≡ keys ++ cut_found btree ∷ [] → new_nodes ≡ nodes ++ btree.levels ∷ [] → new_ends ≡ ends ++ btree.ends → new_ragged ≡ ragged ++ btree.ragged
      → IsMaking btrees new_keys new_nodes new_ends new_ragged later
  making_more new_keys new_nodes new_ends new_ragged push_keys push_nodes push_ends push_ragged = record {
    keys_are = ap (λ ks. ks ++ map cut_found later) push_keys ∙ append_assoc keys (cut_found btree ∷ []) (map cut_found later) ∙ ap (λ bs. keys ++ map cut_found bs) (sym next) ∙ making.keys_are;
    nodes_are = ap (λ ns. ns ++ map (λ (b : FoundBtree). b.levels) later) push_nodes ∙ append_assoc nodes (btree.levels ∷ []) (map (λ (b : FoundBtree). b.levels) later) ∙ ap (λ bs. nodes ++ map (λ (b : FoundBtree). b.levels) bs) (sym next) ∙ making.nodes_are;
    ends_are = ap (λ es. es ++ flat_map (λ (b : FoundBtree). b.ends) later) push_ends ∙ append_assoc ends btree.ends (flat_map (λ (b : FoundBtree). b.ends) later) ∙ ap (λ bs. ends ++ flat_map (λ (b : FoundBtree). b.ends) bs) (sym next) ∙ making.ends_are;
    ragged_are = ap (λ rs. rs ++ flat_map (λ (b : FoundBtree). b.ragged) later) push_ragged ∙ append_assoc ragged btree.ragged (flat_map (λ (b : FoundBtree). b.ragged) later) ∙ ap (λ bs. ragged ++ flat_map (λ (b : FoundBtree). b.ragged) bs) (sym next) ∙ making.ragged_are;
    still = λ each. (subst (AllByRecursion IsFoundBtree) next (making.still each)).1;
  }

-- with none left, the parts are those of all
pub made_keys : (btrees : List FoundBtree) (keys : List Cut) (nodes : List Levels) (ends : List NodeEnd) (ragged : List ℕ) (rest : List FoundBtree) → IsMaking btrees keys nodes ends ragged rest → rest ≡ [] → keys ≡ map cut_found btrees
made_keys btrees keys nodes ends ragged rest making none = sym (append-nil keys) ∙ ap (λ bs. keys ++ map cut_found bs) (sym none) ∙ making.keys_are

pub made_nodes : (btrees : List FoundBtree) (keys : List Cut) (nodes : List Levels) (ends : List NodeEnd) (ragged : List ℕ) (rest : List FoundBtree) → IsMaking btrees keys nodes ends ragged rest → rest ≡ [] → nodes ≡ map (λ btree. btree.levels) btrees
made_nodes btrees keys nodes ends ragged rest making none = sym (append-nil nodes) ∙ ap (λ bs. nodes ++ map (λ (b : FoundBtree). b.levels) bs) (sym none) ∙ making.nodes_are

pub made_ends : (btrees : List FoundBtree) (keys : List Cut) (nodes : List Levels) (ends : List NodeEnd) (ragged : List ℕ) (rest : List FoundBtree) → IsMaking btrees keys nodes ends ragged rest → rest ≡ [] → ends ≡ flat_map (λ btree. btree.ends) btrees
made_ends btrees keys nodes ends ragged rest making none = sym (append-nil ends) ∙ ap (λ bs. ends ++ flat_map (λ (b : FoundBtree). b.ends) bs) (sym none) ∙ making.ends_are

pub made_ragged : (btrees : List FoundBtree) (keys : List Cut) (nodes : List Levels) (ends : List NodeEnd) (ragged : List ℕ) (rest : List FoundBtree) → IsMaking btrees keys nodes ends ragged rest → rest ≡ [] → ragged ≡ flat_map (λ btree. btree.ragged) btrees
made_ragged btrees keys nodes ends ragged rest making none = sym (append-nil ragged) ∙ ap (λ bs. ragged ++ flat_map (λ (b : FoundBtree). b.ragged) bs) (sym none) ∙ making.ragged_are
