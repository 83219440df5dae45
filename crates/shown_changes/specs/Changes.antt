-- Trees with what shows of them.
use Rattle.plain_forest.specs.Forest.{Tree}
use Rattle.vol_types.specs.declared.values.Sub.{Sub}
use Rattle.key_meaning.specs.Forest.{Read}
use Rattle.key_steps.specs.Good.{IsGoodShown}
use Rattle.key_steps.specs.Shown.{IsTreeOf, Shown}

-- What shows in the id of a subvolume is good, and means the tree.
pub record MeansGoodTree (read : Read) (sub : Sub) (shown : Shown) (tree : Tree) : Type 0 where
  pub means : IsTreeOf read sub shown tree
  pub good : IsGoodShown sub.root shown tree.directories
