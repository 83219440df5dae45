use Rattle.std.proofs.Common.{add-one, sym, ◌∙◌}
use Rattle.dev_model.specs.Devices.{now}
use Rattle.dev_model.specs.Disk.{as_read}
use Rattle.image_view.specs.Found.{sets_in}
use Rattle.btree_safety.proofs.ExchangedLeaves.{exchanged_at}
use Rattle.btree_safety.proofs.KeptOutside.{kept_beside, kept_twice, outside_kept, still_kept}
use Rattle.btree_safety.proofs.Pinned.{CountLaws}
use Rattle.btree_safety.proofs.SameEnds.{kept_in_place}
use Rattle.btree_safety.proofs.WrittenNodes.{ExchangeLaws, btrees_exchanged}
use Rattle.btree_safety.proofs.fresh.btrees_are_exchanged.Goals as goal

pub returns : goal.returns
returns c =
    let laws : ExchangeLaws = record { changed = c.standing_btrees_change_by_exchanges.ensures.changed; births = c.standing_btrees_change_by_exchanges.ensures.births } in
    let counts : CountLaws = record { dropped = c.keys_have_entries_by_position.ensures.dropped; more = c.keys_have_entries_by_position.ensures.more; raised = c.keys_have_entries_by_position.ensures.raised } in
    record {
      kept = outside_kept c.exchanges_have_forms.ensures.outside;
      kept_beside = λ old new level first last row fresh exchange others k at node is outside apart.
          kept_beside c.exchanges_have_forms.ensures.outside old new level first last row fresh exchange others k at node is outside (λ above. apart (above ∙ sym (add-one level)));
      kept_in_place = kept_in_place;
      still_kept = still_kept;
      kept_twice = kept_twice;
      stand = btrees_exchanged laws;
      hold = λ layout session roots fresh old new before after state needed begun oldest pin other stands exchanged pinned hold.
          c.leaves_hold_keys_up_to_entries.ensures.exchanged (sets_in layout (as_read (now state))) roots old new before after stands.stand needed begun oldest pin other hold
          (exchanged_at counts (sets_in layout (as_read (now state))) roots old new before after stands.stand needed begun oldest pin other layout session fresh state exchanged pinned);
    }
