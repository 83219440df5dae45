use Rattle.std.proofs.Common.{◌<◌}
use Rattle.std.proofs.lemmas.List.Elements.{All-from_get_or}
use Rattle.vol_types.specs.Widths.{AreBytes}
use Rattle.key_codec.specs.KeyLaws.{rest_is_shorter}
use Rattle.key_codec.proofs.reading.read_key.Goals as goal

pub overflow_sub-result : goal.overflow_sub-result
overflow_sub-result c =
    let are : AreBytes c.args.from.now = All-from_get_or (λ b. b < 256) c.args.from.now 0 (λ i within. (c.type_inv.from i).fits) in
    rest_is_shorter c.args.from.now c.in_ok-key.key c.in_ok-key.rest.now are c.in_ok-key.ensures
