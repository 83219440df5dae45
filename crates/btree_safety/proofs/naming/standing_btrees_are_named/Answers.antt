use Rattle.std.proofs.Common.{◌∙◌, sym}
use Rattle.dev_model.specs.Devices.{now}
use Rattle.dev_model.specs.Disk.{as_read}
use Rattle.image_view.specs.Found.{sets_in}
use Rattle.btree_safety.proofs.NamedBtrees.{btrees_named}
use Rattle.btree_safety.proofs.naming.standing_btrees_are_named.Goals as goal

pub returns : goal.returns
returns c = record {
  by_keys = btrees_named c.standing_btrees_are_read.ensures.updated c.entries_are_written_safely.ensures;
  by_pins = λ f image bases durable first state roots trees content passed next blocks before pin safe stands is sealed named leaves more rises widths keys hold from.
      btrees_named c.standing_btrees_are_read.ensures.updated c.entries_are_written_safely.ensures f image bases durable first state roots trees content passed next blocks safe stands is sealed named leaves more
      (c.leaves_hold_keys_up_to_entries.ensures.leads (sets_in f.layout (as_read (now state))) roots trees content stands.stand f.needed before f.last.entry.oldest pin rises widths leaves hold passed from ∙ sym keys);
}
