use Rattle.std.proofs.Common.{◌-◌, None}
use Rattle.key_codec.specs.Formats.{read_items}
use Rattle.key_codec.specs.ItemLoop.{IsReadTo}
use Rattle.record_codec.proofs.members.members_at.Given as goal

abbrev pub invariant-loop : goal.invariant-loop
invariant-loop g l = IsReadTo (g.T.Member.format l.head) l.members (l.count - l.counter) l.rest (read_items (g.T.Member.format l.head) None l.count l.bytes)
