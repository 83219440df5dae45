use Rattle.shown_changes.proofs.Laws.{TreeLaws}
use Rattle.shown_changes.proofs.Moved.{name_moved}
use Rattle.shown_changes.proofs.changes.moved_names_are_good.Goals as goal

pub returns : goal.returns
returns c read sub shown tree old new kind more left was may stood adds takes = name_moved laws read sub shown tree old new kind more left was may stood adds takes
  where
    laws : TreeLaws
    laws = record {
      count_name = c.names_are_counted.ensures.name;
      count_directory = c.names_are_counted.ensures.directory;
      count_unlinked = c.names_are_counted.ensures.unlinked;
      count_removed = c.names_are_counted.ensures.removed;
      count_moved = c.names_are_counted.ensures.moved;
      formed_name = c.changed_trees_are_well_formed.ensures.name;
      formed_directory = c.changed_trees_are_well_formed.ensures.directory;
      formed_unlinked = c.changed_trees_are_well_formed.ensures.unlinked;
      formed_removed = c.changed_trees_are_well_formed.ensures.removed;
      formed_moved = c.changed_trees_are_well_formed.ensures.moved;
    }
