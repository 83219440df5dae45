use Rattle.key_meaning.specs.NumberLaws.{unused_shows_nowhere}
use Rattle.shown_changes.proofs.Begun.{free_where, there_where, unused_is_new}
use Rattle.shown_changes.proofs.beginning.places_stand_in_trees.Goals as goal

pub returns : goal.returns
returns c = record {
  free = free_where;
  there = λ keys read sub place link is some same. there_where keys read sub place is link some same;
  unused = λ keys read sub number unused. let nowhere = unused_shows_nowhere keys number unused in (unused_is_new keys read sub number unused, nowhere.inodes sub.id, nowhere.blocks sub.id);
}
