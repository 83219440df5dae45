-- What is left to plant of a list of roots, each as a tree of its own.
use Rattle.std.proofs.Common.{◌≡◌, List, [], ◌∷◌, ◌++◌, map, sym, ap, ◌∙◌, subst, append-nil, append_assoc}
use Rattle.std.specs.Prelude.{All}
use Rattle.std.proofs.lemmas.List.Elements.{All-head, All-tail}
use Rattle.tree_nodes.specs.Levels.{IsNodeOf, Levels, under_root}
use Rattle.vol_types.specs.declared.pointers.NodePtr.{NodePtr}

-- a tree of each root alone
abbrev pub planted : List NodePtr → List Levels
planted roots = map (λ root. under_root root []) roots

-- The trees so far and those of the roots that are left are those of all roots.
pub record IsPlanting (roots : List NodePtr) (nodes : List Levels) (rest : List NodePtr) : Type 0 where
  pub whole : nodes ++ planted rest ≡ planted roots
  pub each : All (IsNodeOf 0) rest

module _ (roots : List NodePtr) (nodes : List Levels) (rest later : List NodePtr) (root : NodePtr) (planting : IsPlanting roots nodes rest) (next : rest ≡ root ∷ later) where
  -- the next root is a leaf
  pub next_leaf : IsNodeOf 0 root
  next_leaf = All-head (IsNodeOf 0) root later (subst (All (IsNodeOf 0)) next planting.each)

  -- once it is planted, the others are left
  pub planting_more : (new : List Levels) → new ≡ nodes ++ under_root root [] ∷ [] → IsPlanting roots new later
  planting_more new push = record {
    whole = ap (λ ns. ns ++ planted later) push ∙ append_assoc nodes (under_root root [] ∷ []) (planted later) ∙ ap (λ rs. nodes ++ planted rs) (sym next) ∙ planting.whole;
    each = All-tail (IsNodeOf 0) root later (subst (All (IsNodeOf 0)) next planting.each);
  }

-- with none left, all are planted
pub planting_all : (roots : List NodePtr) (nodes : List Levels) (rest : List NodePtr) → IsPlanting roots nodes rest → rest ≡ [] → nodes ≡ planted roots
planting_all roots nodes rest planting none = sym (append-nil nodes) ∙ ap (λ rs. nodes ++ planted rs) (sym none) ∙ planting.whole
