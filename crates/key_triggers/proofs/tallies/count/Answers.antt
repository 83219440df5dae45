use Rattle.std.proofs.Common.{◌≡◌, ◌∙◌, ap, get_or}
use Rattle.key_triggers.proofs.Looping.{counted_next, no_pointer}
use Rattle.key_triggers.specs.Positions.{bucket_pos}
use Rattle.key_triggers.specs.Tallies.{counted, tally_at, tally_more}
use Rattle.vol_types.specs.Maps.{with_value}
use Rattle.vol_types.specs.Positions.{pos_cmp}
use Rattle.vol_types.specs.declared.positions.Pos.{Pos}
use Rattle.key_triggers.proofs.tallies.count.Goals as goal

pub loop-pointer-preserved : goal.loop-pointer-preserved
loop-pointer-preserved c =
    let a = c.args in
    let tallies = c.loop-pointer.tallies.entries in
    let bucket : c.bucket_pos-bucket.result ≡ bucket_pos (get_or a.pointers.now c.loop-pointer.pointer-index no_pointer).place = c.bucket_pos-bucket.ensures in
    let tally : c.tally_more.result ≡ tally_more a.gives a.blocks (tally_at (bucket_pos (get_or a.pointers.now c.loop-pointer.pointer-index no_pointer).place) tallies) =
    c.tally_more.ensures ∙ ap (tally_more a.gives a.blocks) (c.tally_at-tally.ensures ∙ ap (λ (p : Pos). tally_at p tallies) bucket) in
    counted_next a.gives a.blocks a.pointers.now c.loop-pointer.pointer-index tallies c.insert.new.self.entries
    (counted a.gives a.blocks a.pointers.now a.tallies.now.entries) c.loop-pointer-test.true
    (c.in_ok-insert.ensures.entries ∙ (λ i. with_value pos_cmp (bucket i) (tally i) tallies)) c.loop-pointer.invariant
