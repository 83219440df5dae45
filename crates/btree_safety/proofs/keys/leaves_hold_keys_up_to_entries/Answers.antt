use Rattle.std.proofs.Common.{refl, sym}
use Rattle.btree_laws.specs.Standing.{keys_in_leaves}
use Rattle.btree_safety.proofs.ExchangedLeaves.{RangeLaws, ReadLaws, covering, exchanged_hold, leads, own_value, same_leaf}
use Rattle.btree_safety.proofs.Pinned.{CountLaws}
use Rattle.btree_safety.proofs.WidePositions.{updates_fit}
use Rattle.btree_safety.proofs.keys.leaves_hold_keys_up_to_entries.Goals as goal

pub returns : goal.returns
returns c =
    let counts : CountLaws = record { dropped = c.keys_have_entries_by_position.ensures.dropped; more = c.keys_have_entries_by_position.ensures.more; raised = c.keys_have_entries_by_position.ensures.raised } in
    let reads : ReadLaws = record { maps = c.standing_btrees_are_read.ensures.maps; widths = c.standing_btrees_are_read.ensures.widths; values = c.standing_btrees_are_read.ensures.values } in
    let ranges : RangeLaws = record { outside = c.exchanges_have_forms.ensures.outside; range = c.exchanges_have_forms.ensures.range } in
    record {
      leads = leads reads counts c.keys_have_entries_by_position.ensures.passed;
      shifts = λ needed before oldest trees pin content passed next rises hold within from pinned btree pos leaf fits covers.
          c.entries_hold_values_up_to_an_entry.ensures.shifts needed before oldest btree (pin leaf.1.birth) (content btree leaf.1).entries pos (hold btree pos leaf fits covers) passed next rises within (from btree pos leaf covers) (pinned btree pos leaf covers);
      shifted_widths = updates_fit;
      pins = λ needed before oldest trees pin content other more hold btree pos leaf fits covers.
          c.entries_hold_values_up_to_an_entry.ensures.moves needed before oldest btree (pin leaf.1.birth) (content btree leaf.1).entries pos (hold btree pos leaf fits covers) (other leaf.1.birth) (content btree leaf.1).entries (more btree pos leaf covers) refl;
      begins = λ sets roots trees content stand needed oldest pin pinned btree pos leaf fits covers.
          c.entries_hold_values_up_to_an_entry.ensures.begins needed (keys_in_leaves content trees) oldest btree (pin leaf.1.birth) (content btree leaf.1).entries pos (sym (own_value reads sets roots trees content stand btree pos leaf fits covers))
          (λ found there changes. pinned found there btree pos leaf covers changes);
      exchanged = exchanged_hold counts;
      covers = covering;
      same_leaf = same_leaf ranges;
    }
