use Rattle.btree_safety.proofs.ExchangedLeaves.{same_within}
use Rattle.btree_safety.proofs.Pinned.{CountLaws, begins, durable, moves, shifts}
use Rattle.btree_safety.proofs.keys.entries_hold_values_up_to_an_entry.Goals as goal

pub returns : goal.returns
returns c =
    let laws : CountLaws = record { dropped = c.keys_have_entries_by_position.ensures.dropped; more = c.keys_have_entries_by_position.ensures.more; raised = c.keys_have_entries_by_position.ensures.raised } in
    record { shifts = shifts laws; moves = moves laws; begins = begins; durable = durable; range = same_within }
