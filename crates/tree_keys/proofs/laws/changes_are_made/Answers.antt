use Rattle.tree_keys.specs.PlanLaws.{all_placed, made-placed, undone-placed}
use Rattle.tree_keys.proofs.laws.changes_are_made.Goals as goal

pub returns : goal.returns
returns c = record {
  placed = λ last cut is pos value. all_placed last cut.entries is.rises pos value;
  made = made-placed;
  undone = undone-placed;
}
