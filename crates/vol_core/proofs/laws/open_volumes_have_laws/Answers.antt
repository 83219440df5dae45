use Rattle.std.proofs.Common.{◌+◌, ap, ◌∙◌}
use Rattle.std.specs.Prelude.{slice_index_or}
use Rattle.journal_ring.specs.Parts.{area_of}
use Rattle.vol_core.proofs.laws.open_volumes_have_laws.Goals as goal

pub returns : goal.returns
returns c = record {
  journal = c.entries_are_written_safely.ensures;
  places_of_entries = record {
    ends = λ image f finds index low.
        let entry = slice_index_or f.needed index f.last in
        let whole = c.mending_changes_nothing.ensures.whole image f finds index low in
        let made = c.whole_entries_are_made_of_blocks.ensures f.layout (area_of image) whole.0 entry whole.1 in
        made.1.end ∙ ap (λ n. entry.number + n) (c.mended_entries_stay_whole.ensures.sealed f.layout (area_of image) entry made.0 made.1).count;
    base = c.crashes_leave_the_next_entry_or_not.ensures.base;
  };
  flags = c.flushed_devices_are_settled.ensures;
  keys = record {
    empty = c.waiting_changes_lead_from_durable_keys.ensures.empty;
    joined = c.waiting_changes_lead_from_durable_keys.ensures.joined;
    taken = c.waiting_changes_lead_from_durable_keys.ensures.taken;
    settled = c.waiting_changes_lead_from_durable_keys.ensures.settled;
    durable = c.waiting_changes_lead_from_durable_keys.ensures.durable;
  };
  entries = c.entries_of_leaves_are_safe.ensures;
  leaves = c.leaves_are_written_safely.ensures;
  pins = record {
    each = c.changed_pins_are_known.ensures.each;
  };
  places = record {
    of_roots = c.leaves_are_put_in_place.ensures.of_roots;
    leaves = c.leaves_are_put_in_place.ensures.leaves;
    others = c.leaves_are_put_in_place.ensures.others;
    pins = c.leaves_are_put_in_place.ensures.pins;
    other_pins = c.leaves_are_put_in_place.ensures.other_pins;
  };
  buckets = record {
    opened_fixed = c.nodes_keep_their_buckets.ensures.opened_fixed;
    opened_hold = c.nodes_keep_their_buckets.ensures.opened_hold;
  };
  exchanges = record {
    stay = c.exchanges_are_kept.ensures.stay;
  };
  merges = record {
    whole = c.keys_are_merged.ensures.whole;
  };
}
