use Rattle.std.proofs.lemmas.List.Elements.{All-weaker}
use Rattle.image_view.specs.Found.{IsAlike}
use Rattle.image_view.specs.Trees.{nodes_of}
use Rattle.mirror_laws.specs.Standing.{NodeStandsOn}
use Rattle.mirror_laws.proofs.DegradedJournal.{EntryLaws}
use Rattle.mirror_laws.proofs.OnAll.{entries_on_each, entry_on_each, node_on_each, nodes_again, stands_again}
use Rattle.mirror_laws.proofs.standing.what_stands_everywhere_stands_on_each_device.Goals as goal

pub returns : goal.returns
returns c =
    let laws : EntryLaws = record {
      again = c.leading_entries_are_needed.ensures.again;
      sealed = c.mended_entries_stay_whole.ensures.sealed;
      one = c.mended_entries_stay_whole.ensures.one;
    } in
    record {
      entry = λ layout mirror image entry low whole stands. entry_on_each laws layout mirror low image entry whole stands;
      node = node_on_each;
      found = λ f mirror image low is stand alike. record {
        on_mirror = low;
        entries = entries_on_each laws c.leading_entries_are_needed.ensures.whole f mirror low image is stand;
        nodes = All-weaker (IsAlike f image) (NodeStandsOn f mirror image) (node_on_each f mirror image) (nodes_of f.trees.nodes) alike;
      };
      nodes = λ f mirror one other agree. nodes_again f mirror one other agree.nodes;
      stays = stands_again;
    }
