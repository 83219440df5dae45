use Rattle.std.proofs.Common.{◌<◌, ap, subst, ◌∙◌}
use Rattle.std.proofs.lemmas.List.Elements.{All-from_get_or}
use Rattle.vol_types.specs.Widths.{AreBytes}
use Rattle.record_codec.specs.Reading.{Gives}
use Rattle.record_codec.specs.Sets.{IsSet, set_format, set_in}
use Rattle.record_codec.proofs.SetLaws.{set-exact}
use Rattle.record_codec.proofs.Whole.{whole_found, whole_again}
use Rattle.record_codec.proofs.sets.get_set.Goals as goal

pub returns-clause-found : goal.returns-clause-found
unfolding set_in
returns-clause-found c =
    let are : AreBytes c.args.payload.now = All-from_get_or (λ b. b < 256) c.args.payload.now 0 (λ i within. (c.type_inv.payload i).fits) in
    whole_found IsSet set_format set-exact c.args.payload.now c.read_set.result are c.read_set.ensures

pub returns-clause-only : goal.returns-clause-only
unfolding set_in
returns-clause-only c = λ set is encoded. subst (λ whole. Gives (λ read. read) c.read_set.result whole) (ap set_in encoded ∙ whole_again IsSet set_format set-exact set is) c.read_set.ensures
