use Rattle.std.proofs.Common.{◌-◌, None}
use Rattle.key_codec.specs.Formats.{read_items}
use Rattle.key_codec.specs.ItemLoop.{IsReadTo}
use Rattle.key_codec.proofs.items.items_at.Given as goal

abbrev pub invariant-loop : goal.invariant-loop
invariant-loop g l = IsReadTo g.T.Item.format l.members (l.count - l.counter) l.rest (read_items g.T.Item.format None l.count l.bytes)
