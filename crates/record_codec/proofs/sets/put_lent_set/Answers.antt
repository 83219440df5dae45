use Rattle.std.proofs.Common.{arith}
use Rattle.std.proofs.lemmas.Grind.{common_steps}
use Rattle.std.proofs.lemmas.List.Elements.{All-map}
use Rattle.vol_types.specs.Ranges.{IsKeyValue}
use Rattle.key_codec.specs.Appending.{appending}
use Rattle.record_codec.specs.Sets.{KeyFits, lent_key}
use Rattle.record_codec.proofs.LentLaws.{all_lent, lent_encoded}
use Rattle.record_codec.proofs.sets.put_lent_set.Goals as goal

pub put_members-requires : goal.put_members-requires
put_members-requires c = all_lent (λ key. IsKeyValue key.value) c.args.keys.now c.requires.in_range

pub returns-clause-ok : goal.returns-clause-ok
returns-clause-ok c = grind (arith, common_steps, appending, lent_encoded c.args.head.now c.args.keys.now)

pub returns-clause-set : goal.returns-clause-set
returns-clause-set c = record {
  fits = record { head = c.in_ok-put_set_head.ensures.width; keys = All-map KeyFits lent_key c.args.keys.now c.in_ok-put_members.ensures.width };
  in_range = c.requires;
}
