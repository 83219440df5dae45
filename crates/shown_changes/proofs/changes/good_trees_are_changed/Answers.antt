use Rattle.shown_changes.proofs.Added.{directory_added, file_added, name_added}
use Rattle.shown_changes.proofs.Laws.{TreeLaws}
use Rattle.shown_changes.proofs.Taken.{directory_removed, file_unlinked}
use Rattle.shown_changes.proofs.changes.good_trees_are_changed.Goals as goal

pub returns : goal.returns
returns c = record {
  file = λ read sub shown tree place links was free fresh none blank adds. file_added laws read sub shown tree place links was free fresh none blank adds;
  directory = λ read sub shown tree place links was free fresh none blank adds. directory_added laws read sub shown tree place links was free fresh none blank adds;
  linked = λ read sub shown tree place links old was free at is_file adds. name_added laws read sub shown tree place links was free old at is_file adds;
  unlinked = λ read sub shown tree place links old was apart there at is_file takes. file_unlinked laws read sub shown tree place links was apart there takes old at is_file;
  removed = λ read sub shown tree place links was apart there empty takes. directory_removed laws read sub shown tree place links was apart there takes empty;
}
  where
    laws : TreeLaws
    laws = record {
      count_name = c.names_are_counted.ensures.name;
      count_directory = c.names_are_counted.ensures.directory;
      count_unlinked = c.names_are_counted.ensures.unlinked;
      count_removed = c.names_are_counted.ensures.removed;
      count_moved = c.names_are_counted.ensures.moved;
      formed_name = c.changed_trees_are_well_formed.ensures.name;
      formed_directory = c.changed_trees_are_well_formed.ensures.directory;
      formed_unlinked = c.changed_trees_are_well_formed.ensures.unlinked;
      formed_removed = c.changed_trees_are_well_formed.ensures.removed;
      formed_moved = c.changed_trees_are_well_formed.ensures.moved;
    }
