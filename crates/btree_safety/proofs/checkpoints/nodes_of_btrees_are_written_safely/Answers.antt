use Rattle.btree_safety.proofs.KeptThroughCalls.{stays_kept}
use Rattle.btree_safety.proofs.Pinned.{CountLaws}
use Rattle.btree_safety.proofs.PutNodes.{put_kept}
use Rattle.btree_safety.proofs.WrittenInPlaces.{frozen_kept, given_up_kept, taken_kept}
use Rattle.btree_safety.proofs.WrittenLast.{WriteLaws, last_written, written_safely}
use Rattle.btree_safety.proofs.WrittenNodes.{ExchangeLaws, PartLaws}
use Rattle.btree_safety.proofs.checkpoints.nodes_of_btrees_are_written_safely.Goals as goal

pub returns : goal.returns
returns c =
    let counts : CountLaws = record { dropped = c.keys_have_entries_by_position.ensures.dropped; more = c.keys_have_entries_by_position.ensures.more; raised = c.keys_have_entries_by_position.ensures.raised } in
    let exchanges : ExchangeLaws = record { changed = c.standing_btrees_change_by_exchanges.ensures.changed; births = c.standing_btrees_change_by_exchanges.ensures.births } in
    let parts : PartLaws = record { next = c.node_parts_stand.ensures.next; failed = c.node_parts_stand.ensures.failed } in
    let writes : WriteLaws = record { outside = c.nodes_lie_apart.ensures.outside; off = c.nodes_lie_apart.ensures.node_parts; safe = c.node_parts_are_written_safely.ensures } in
    record {
      takes = taken_kept;
      freezes = λ f writing state b fresh taken keeps list born planned durable none. frozen_kept f writing state b fresh taken keeps list born planned durable none;
      writes = λ f image writing asked written bases durable first old new b earlier fresh failed safe keeps list less is are. (
        written_safely writes parts c.standing_btrees_change_by_exchanges.ensures.stay f writing old new b earlier fresh failed keeps list less is image asked written bases durable first safe are,
        last_written writes parts c.standing_btrees_change_by_exchanges.ensures.stay f writing old new b earlier fresh failed keeps list less is,
      );
      stays = λ f writing old new b keeps nodes fresh. stays_kept c.standing_btrees_change_by_exchanges.ensures.stay f writing old new b keeps nodes fresh;
      puts = λ f writing state b roots new pin gone seq keeps settled whole may behind behind_next.
          put_kept c.found_btrees_stand.ensures.images counts exchanges f writing state b roots new pin gone seq keeps settled whole may behind behind_next;
      gives_up = λ f writing state b keeps follows. given_up_kept f writing state b keeps follows;
    }
