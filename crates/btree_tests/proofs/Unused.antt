-- Births in a row that no node has may go to new nodes.
use Rattle.std.proofs.Common.{◌≡◌, ℕ, ◌+◌, ◌≤◌, Some, List, ap, ◌∙◌, arith}
use Rattle.std.specs.Prelude.{◌≢◌}
use Rattle.birth_index.specs.Births.{ForHalves, ForRoots, IsFree, birth_of}
use Rattle.birth_index.specs.declared.name.NodeName.{NodeName}
use Rattle.tree_nodes.specs.Levels.{Levels}

-- No node has one of three births in a row.
abbrev pub AreUnused : List Levels → ℕ → Type 0
AreUnused nodes birth = (name : NodeName) (place : ℕ) → place ≤ 2 → birth_of nodes name ≢ Some (birth + place)

module _ (nodes : List Levels) (name : NodeName) (birth : ℕ) (unused : AreUnused nodes birth) where
  one_free : (place one : ℕ) → place ≤ 2 → one ≡ birth + place → IsFree nodes name one
  one_free place one le is other has = absurd (unused other place le (has ∙ ap Some is))

  -- two go to halves
  pub for_halves : (one other : ℕ) → one ≡ birth → other ≡ birth + 1 → ForHalves nodes name one other
  for_halves one other is too = record {
    first = one_free 0 one (omega arith) (omega (arith, is));
    second = one_free 1 other (omega arith) too;
    apart = λ same. omega (arith, same, is, too);
  }

  -- and the third to the root above them
  pub for_roots : (one other root : ℕ) → one ≡ birth → other ≡ birth + 1 → root ≡ birth + 2 → ForRoots nodes name one other root
  for_roots one other root is too top = record {
    halves = for_halves one other is too;
    above = one_free 2 root (omega arith) top;
    lower_apart = λ same. omega (arith, same, is, top);
    upper_apart = λ same. omega (arith, same, too, top);
  }
