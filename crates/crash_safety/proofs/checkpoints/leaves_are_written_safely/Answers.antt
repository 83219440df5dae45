use Rattle.crash_safety.proofs.FrozenLeaf.{frozen_kept}
use Rattle.crash_safety.proofs.GivenUpLeaves.{given_up_kept}
use Rattle.crash_safety.proofs.PlacedLeaves.{placed_kept}
use Rattle.crash_safety.proofs.WrittenLeaf.{PartLaws, written_kept, written_safely}
use Rattle.crash_safety.proofs.checkpoints.leaves_are_written_safely.Goals as goal

pub returns : goal.returns
returns c =
    let laws : PartLaws = record {
      outside = c.nodes_lie_apart.ensures.outside;
      off = c.nodes_lie_apart.ensures.node_parts;
      roots = c.leaves_stand.ensures.node_parts;
      others = c.node_parts_stand.ensures.node_parts;
      next = c.node_parts_stand.ensures.next;
      failed = c.node_parts_stand.ensures.failed;
      safe = c.node_parts_are_written_safely.ensures;
    } in
    record {
      freezes = λ f writing state l fresh keeps free leaf places born planned none. frozen_kept f writing state l fresh keeps free places c.nodes_hold_keys_up_to_an_entry.ensures.durable leaf born planned none;
      writes = λ f image writing asked written bases durable first old new l earlier fresh failed safe keeps list less is are. (
        written_safely laws f writing old new l earlier fresh failed keeps list less is image asked written bases durable first safe are,
        written_kept laws f writing old new l earlier fresh failed keeps list less is,
      );
      places = λ f writing state l seq keeps settled whole may behind behind_next. placed_kept c.node_parts_stand.ensures.written f writing state settled seq behind behind_next l keeps whole may;
      gives_up = given_up_kept;
    }
