use Rattle.std.proofs.Common.{Some, ap, ◌∙◌}
use Rattle.sealed_block.specs.Blocks.{encoding}
use Rattle.geometry.specs.Sessions.{session_block, session_head}
use Rattle.geometry.proofs.NamedSessions.{names_itself}
use Rattle.geometry.proofs.sessions.session_bytes.Goals as goal

pub returns-clause-bytes : goal.returns-clause-bytes
unfolding session_block
returns-clause-bytes c = c.seal.ensures.encoded
    ∙ ap (λ head. encoding head c.to_le_bytes.result) c.session_head.ensures.head
    ∙ ap (encoding (session_head c.args.id.now c.args.session)) c.to_le_bytes.ensures

pub returns-clause-named : goal.returns-clause-named
returns-clause-named c = names_itself c.args.id.now c.args.session c.seal.new.into c.ranges.session.fits
    (c.sealed_blocks_open.ensures.head c.seal.new.into c.session_head.result c.to_le_bytes.result c.seal.ensures.opens ∙ ap Some c.session_head.ensures.head)
    (c.sealed_blocks_open.ensures.payload c.seal.new.into c.session_head.result c.to_le_bytes.result c.seal.ensures.opens ∙ c.to_le_bytes.ensures)
