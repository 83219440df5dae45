use Rattle.std.proofs.Common.{◌≡◌, ◌∙◌, get_or}
use Rattle.key_triggers.proofs.Looping.{no_pointer, owned_next}
use Rattle.key_triggers.specs.Owners.{owned}
use Rattle.key_triggers.specs.Positions.{block_pos}
use Rattle.vol_types.specs.Maps.{with_value}
use Rattle.vol_types.specs.Positions.{pos_cmp}
use Rattle.key_triggers.proofs.owners.own.Goals as goal

pub loop-pointer-preserved : goal.loop-pointer-preserved
loop-pointer-preserved c =
    let a = c.args in
    let owners = c.loop-pointer.owners.entries in
    let block : c.block_pos.result ≡ block_pos (get_or a.pointers.now c.loop-pointer.pointer-index no_pointer).place = c.block_pos.ensures in
    owned_next a.owner a.pointers.now c.loop-pointer.pointer-index owners c.insert.new.self.entries
    (owned a.owner a.pointers.now a.owners.now.entries) c.loop-pointer-test.true
    (c.in_ok-insert.ensures.entries ∙ (λ i. with_value pos_cmp (block i) a.owner owners)) c.loop-pointer.invariant
