use Rattle.dev_model.specs.Disk.{Image}
use Rattle.image_view.specs.Found.{Found, found}
use Rattle.std.proofs.Common.{◌≡◌, Ok}
use Rattle.replay.proofs.ChangedNodes.{IsKnown, each_entry, each_exactly, each_leaf}
use Rattle.replay.proofs.FoundKeys.{found_are, found_entries, found_heights}
use Rattle.replay.proofs.laws.updates_change_nodes.Goals as goal

pub returns : goal.returns
returns c =
    let whole = c.leading_entries_are_needed.ensures.whole in
    let made = c.whole_entries_are_made_of_blocks.ensures in
    let sealed = c.opened_blocks_are_sealed.ensures in
    let entries = c.entries_are_exact.ensures in
    let sets = c.sets_are_exact.ensures in
    let known : (image : Image) (f : Found) → found image ≡ Ok f → IsKnown f = λ image f is. record {
      trees = (found_are whole made sealed entries sets image f is).0;
      heights = found_heights whole made sealed entries sets image f is;
      entries = found_entries whole made sealed entries sets image f is;
    } in
    record {
      exact = λ image f is. each_exactly f (known image f is);
      leaves = λ image f is. each_leaf f (known image f is);
      in_order = λ image f is order. each_entry f (known image f is) order.levels;
    }
