use Rattle.vol_types.specs.KeyMapLaws.{IsKeyMap-with_updates}
use Rattle.image_view.specs.Found.{updates_of}
use Rattle.std.proofs.Common.{take}
use Rattle.crash_safety.proofs.OneBtree.{btree_again}
use Rattle.crash_safety.proofs.Shifting.{begun_holds, durable_holds, kept_passes, left_leads, pinned_more, rewritten_passes, shifted, shifted_keys}
use Rattle.crash_safety.proofs.laws.nodes_hold_keys_up_to_an_entry.Goals as goal

pub returns : goal.returns
returns c =
    let law = c.new_nodes_hold_the_keys.ensures.again in
    record {
      lacks = left_leads law;
      kept_passes = kept_passes law;
      rewritten_passes = rewritten_passes law;
      shifts = shifted;
      shifted_keys = shifted_keys;
      shifted_map = λ needed before passed. IsKeyMap-with_updates (updates_of (take passed needed)) before;
      pins = pinned_more;
      durable = durable_holds;
      begins = begun_holds;
      again = btree_again law;
    }
