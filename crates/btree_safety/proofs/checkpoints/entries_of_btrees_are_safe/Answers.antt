use Rattle.std.proofs.Common.{◌∙◌, refl, sym}
use Rattle.btree_safety.specs.NextBtrees.{writing_of_btrees}
use Rattle.btree_safety.proofs.BegunBtrees.{ShiftLaws, begun_kept, named_kept, settled_kept}
use Rattle.btree_safety.proofs.ExchangedLeaves.{ReadLaws}
use Rattle.btree_safety.proofs.KeptThroughCalls.{called_kept, pinned_kept}
use Rattle.btree_safety.proofs.Pinned.{CountLaws}
use Rattle.btree_safety.proofs.checkpoints.entries_of_btrees_are_safe.Goals as goal

pub returns : goal.returns
returns c =
    let counts : CountLaws = record { dropped = c.keys_have_entries_by_position.ensures.dropped; more = c.keys_have_entries_by_position.ensures.more; raised = c.keys_have_entries_by_position.ensures.raised } in
    let reads : ReadLaws = record { maps = c.standing_btrees_are_read.ensures.maps; widths = c.standing_btrees_are_read.ensures.widths; values = c.standing_btrees_are_read.ensures.values } in
    let shifts : ShiftLaws = record { keys = c.nodes_hold_keys_up_to_an_entry.ensures.shifted_keys; map = c.nodes_hold_keys_up_to_an_entry.ensures.shifted_map } in
    record {
      begins = λ f state b on leaves alike roots trees none no_taken layout fixed own may pinned. begun_kept c.found_btrees_stand.ensures.found reads f state b on leaves alike roots trees none no_taken layout fixed own may pinned;
      pins = λ f writing state b pin fresh keeps more count notes. pinned_kept counts f writing state b pin fresh keeps more count notes;
      seals = λ f image bases durable first state passed next blocks b safe keeps named. (
        writing_of_btrees f b.trees keeps.content passed next blocks,
        refl,
        refl,
        refl,
        refl,
        refl,
        c.standing_btrees_are_named.ensures.by_pins f image bases durable first state b.roots b.trees keeps.content passed next blocks keeps.before b.pin safe keeps.stand named.is_next named.sealed named.roots keeps.of_leaves named.of_leaves keeps.are_keys keeps.widths
            keeps.keys keeps.holds named.pins,
        named_kept f state b keeps passed next blocks,
      );
      parts = λ image f w old new b written ring failed finds keeps is part.
          called_kept c.standing_btrees_change_by_exchanges.ensures.stay f _ old new b keeps (λ node placed. c.nodes_stand.ensures.entry_parts image f w written ring failed old new node finds is part placed);
      flushes = λ f writing old new b dev done keeps are flush. called_kept c.standing_btrees_change_by_exchanges.ensures.stay f writing old new b keeps (λ node placed. c.nodes_stand.ensures.flushes dev done old new node flush are);
      reads = λ f writing old new b keeps stay. called_kept c.standing_btrees_change_by_exchanges.ensures.stay f writing old new b keeps (λ node placed. c.nodes_stand.ensures.reads old new node stay);
      settles = λ f w state b keeps back within oldest follows all keys leaves. settled_kept counts shifts f w state b keeps back within oldest (follows ∙ sym all) keys leaves;
    }
