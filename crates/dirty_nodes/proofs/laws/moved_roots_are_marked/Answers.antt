use Rattle.dirty_nodes.proofs.Moving.{marked-alone, marked-moved}
use Rattle.dirty_nodes.proofs.laws.moved_roots_are_marked.Goals as goal

pub returns : goal.returns
returns c = record {
  alone = λ nodes btree root pins marks differ trees marked alone. marked-alone nodes btree root trees differ alone pins marks marked;
  moved = λ nodes btree root pointer later pins marks differ trees pins_rise marks_rise marked alone free.
      marked-moved nodes btree root trees differ alone pointer free later pins marks pins_rise marks_rise marked;
}
