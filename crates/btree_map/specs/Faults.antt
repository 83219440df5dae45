-- Why keys and nodes make no key map.
use Rattle.std.specs.Prelude.{⊤}
use Rattle.birth_index.specs.Births.{TwoHave, birth_of}
use Rattle.birth_index.specs.declared.making.IndexFault.{IndexFault}
use Rattle.birth_index.specs.declared.making.IndexFault.TheVariants as index
use Rattle.btree_map.specs.Trees.{IsTrees, Trees}
use Rattle.btree_map.specs.declared.parts.NotAKeyMap.{NotAKeyMap}
use Rattle.btree_map.specs.declared.parts.NotAKeyMap.TheVariants.{NoMemory, NotBtrees, SameBirth}

-- They are not those of nine btrees, or two nodes have the birth that is told; out of memory has no cause.
abbrev pub IsFaultOf : Trees → NotAKeyMap → Type 0
IsFaultOf trees NotBtrees = ¬ IsTrees trees
IsFaultOf trees (SameBirth birth) = TwoHave (birth_of trees.nodes) birth
IsFaultOf trees NoMemory = ⊤

-- a fault of an index as one of a key map
abbrev pub of_index : IndexFault → NotAKeyMap
of_index (index.SameBirth birth) = SameBirth birth
of_index index.NoMemory = NoMemory
