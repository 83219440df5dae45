-- Births differ still where each node stood at its place, or has a birth of its own.
use Rattle.std.proofs.Common.{◌≡◌, ℕ, List, Option, Some, None, refl, sym, ap, ◌∙◌, ⊎_elim}
use Rattle.std.specs.Prelude.{◌⊎◌, is_some, option_map}
use Rattle.std.proofs.lemmas.Bool.{true≢false}
use Rattle.std.proofs.lemmas.Option.{same_Some}
use Rattle.birth_index.specs.Births.{BirthsDiffer, birth_of, node_of}
use Rattle.birth_index.specs.declared.name.NodeName.{NodeName}
use Rattle.tree_nodes.specs.Levels.{Levels}
use Rattle.vol_types.specs.declared.pointers.NodePtr.{NodePtr}
use Rattle.btree_laws.specs.Exchanges.{IsBornApart}

-- A name that has a birth is that of a node.
node_with : (trees : List Levels) (name : NodeName) (birth : ℕ) → birth_of trees name ≡ Some birth → (node : NodePtr) × (node_of trees name ≡ Some node) × (node.birth ≡ birth)
node_with trees name birth has = by (node_of trees name) refl has
  where
    by : (o : Option NodePtr) → node_of trees name ≡ o → option_map (λ (node : NodePtr). node.birth) o ≡ Some birth → (node : NodePtr) × (node_of trees name ≡ Some node) × (node.birth ≡ birth)
    by None is born = absurd (true≢false (sym (ap is_some born)))
    by (Some node) is born = (node, is, same_Some node.birth birth born)

-- Births of new btrees differ where those of the old ones did.
pub births_differ : (old new : List Levels) → BirthsDiffer old → ((name : NodeName) (node : NodePtr) → node_of new name ≡ Some node → (node_of old name ≡ Some node) ⊎ IsBornApart old new name node) → BirthsDiffer new
births_differ old new differ each one other birth has have =
    let first = node_with new one birth has in
    let second = node_with new other birth have in
    ⊎_elim
    (λ stood. ⊎_elim
    (λ again. differ one other birth (named one first.0 stood ∙ ap Some first.2) (named other second.0 again ∙ ap Some second.2))
    (λ (apart : IsBornApart old new other second.0). absurd (apart.unused one (named one first.0 stood ∙ ap Some (first.2 ∙ sym second.2))))
    (each other second.0 second.1))
    (λ (apart : IsBornApart old new one first.0). sym (apart.own other (have ∙ ap Some (sym first.2))))
    (each one first.0 first.1)
  where
    named : (name : NodeName) (node : NodePtr) → node_of old name ≡ Some node → birth_of old name ≡ Some node.birth
    named name node is = ap (option_map (λ (n : NodePtr). n.birth)) is
