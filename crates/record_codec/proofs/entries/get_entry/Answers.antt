use Rattle.std.proofs.Common.{◌<◌, ap, subst, ◌∙◌}
use Rattle.std.proofs.lemmas.List.Elements.{All-from_get_or}
use Rattle.vol_types.specs.Widths.{AreBytes}
use Rattle.record_codec.specs.Reading.{Gives}
use Rattle.record_codec.specs.Entries.{IsEntry, entry_format, entry_in}
use Rattle.record_codec.proofs.EntryLaws.{entry-exact}
use Rattle.record_codec.proofs.Whole.{whole_found, whole_again}
use Rattle.record_codec.proofs.entries.get_entry.Goals as goal

pub returns-clause-found : goal.returns-clause-found
unfolding entry_in
returns-clause-found c =
    let are : AreBytes c.args.payload.now = All-from_get_or (λ b. b < 256) c.args.payload.now 0 (λ i within. (c.type_inv.payload i).fits) in
    whole_found IsEntry entry_format entry-exact c.args.payload.now c.read_entry.result are c.read_entry.ensures

pub returns-clause-only : goal.returns-clause-only
unfolding entry_in
returns-clause-only c = λ entry is encoded. subst (λ whole. Gives (λ read. read) c.read_entry.result whole) (ap entry_in encoded ∙ whole_again IsEntry entry_format entry-exact entry is) c.read_entry.ensures
