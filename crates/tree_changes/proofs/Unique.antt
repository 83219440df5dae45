-- In a tree that is well formed one list of names leads from the root to a directory, and no other.
use Rattle.std.proofs.Common.{◌≡◌, ℕ, Some, List, [], ◌∷◌, ◌++◌, refl, sym, ap, ◌∙◌, subst, arith, append-nil, ◌≤◌}
use Rattle.key_meaning.specs.Checks.{IsDirectoryOf, count_names}
use Rattle.plain_forest.specs.Forest.{Names, Tree}
use Rattle.tree_changes.specs.Trees.{IsWellFormed}
use Rattle.tree_changes.proofs.Counting.{count_some, one_name}
use Rattle.tree_changes.proofs.Leading.{leads, leads_from}
use Rattle.tree_changes.proofs.Ways.{Lead}

-- The names, the last one first, lead from a number to another.
abbrev LeadBack : List (ℕ × Names) → ℕ → List (List ℕ) → ℕ → Type 0
LeadBack directories from [] to = from ≡ to
LeadBack directories from (name ∷ names) to = (before : ℕ) × LeadBack directories from names before × (leads directories before name ≡ Some to)

-- names turned round, in front of others
abbrev turned : List (List ℕ) → List (List ℕ) → List (List ℕ)
turned [] others = others
turned (name ∷ names) others = turned names (name ∷ others)

-- Names that are turned twice are as they were.
turned_back : (names others more : List (List ℕ)) → turned (turned names others) more ≡ turned others (names ++ more)
turned_back [] others more = refl
turned_back (name ∷ names) others more = turned_back names (name ∷ others) more

-- Names that lead on from where others came to make, turned round, one way back.
lead_back : (directories : List (ℕ × Names)) (from : ℕ) (others names : List (List ℕ)) (middle to : ℕ) → LeadBack directories from others middle → Lead directories names middle to → LeadBack directories from (turned names others) to
lead_back directories from others [] middle to came way = subst (λ (n : ℕ). LeadBack directories from others n) way came
lead_back directories from others (name ∷ names) middle to came way = lead_back directories from (name ∷ others) names way.0 to (middle, came, way.1) way.2

module _ (tree : Tree) (well : IsWellFormed tree) where
  -- no name leads to the root
  root_unnamed : (at : ℕ) (name : List ℕ) → leads tree.directories at name ≡ Some tree.root → ⊥
  root_unnamed at name is = let some : 1 ≤ count_names tree.directories tree.root = count_some tree.directories tree.root at name is in omega (arith, some, well.rooted.root)

  -- There is one way back from a directory: its only name is the last one, and so on up to the root.
  one_way_back : (names others : List (List ℕ)) (number : ℕ) → IsDirectoryOf tree number → LeadBack tree.directories tree.root names number → LeadBack tree.directories tree.root others number → names ≡ others
  one_way_back [] [] number some one other = refl
  one_way_back [] (name ∷ others) number some one other = absurd (root_unnamed other.0 name (other.2 ∙ ap Some (sym one)))
  one_way_back (name ∷ names) [] number some one other = absurd (root_unnamed one.0 name (one.2 ∙ ap Some (sym other)))
  one_way_back (name ∷ names) (word ∷ others) number some one other =
      let counted : count_names tree.directories number ≡ 1 = well.rooted.named number some (λ root. root_unnamed one.0 name (one.2 ∙ ap Some root)) in
      let same : (one.0 ≡ other.0) × (name ≡ word) = one_name tree.directories number well.directories well.names one.0 other.0 name word counted one.2 other.2 in
      let above : names ≡ others = one_way_back names others one.0 (leads_from tree.directories one.0 name number one.2) one.1 (subst (λ (n : ℕ). LeadBack tree.directories tree.root others n) (sym same.0) other.1) in
      λ i. same.1 i ∷ above i

  -- Names that lead from the root to one directory are the same.
  pub one_way : (names others : List (List ℕ)) (number : ℕ) → IsDirectoryOf tree number → Lead tree.directories names tree.root number → Lead tree.directories others tree.root number → names ≡ others
  one_way names others number some one other =
      let same : turned names [] ≡ turned others [] =
      one_way_back (turned names []) (turned others []) number some (lead_back tree.directories tree.root [] names tree.root number refl one) (lead_back tree.directories tree.root [] others tree.root number refl other) in
      sym (append-nil names) ∙ sym (turned_back names [] []) ∙ ap (λ (ns : List (List ℕ)). turned ns []) same ∙ turned_back others [] [] ∙ append-nil others
