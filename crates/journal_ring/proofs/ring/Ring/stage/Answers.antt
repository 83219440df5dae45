use Rattle.std.proofs.Common.{◌≡◌, ℕ, List, length, ap, ◌∙◌, subst, arith}
use Rattle.record_codec.specs.Entries.{entry_length_of}
use Rattle.journal_ring.specs.EntryBlocks.{part_count, parts_of}
use Rattle.journal_ring.specs.Rings.{IsRing, RingState}
use Rattle.journal_ring.proofs.Places.{clear}
use Rattle.journal_ring.proofs.ring.Ring.stage.Goals as goal

pub returns-clause-clear : goal.returns-clause-clear
returns-clause-clear c number from lower =
    let ring = c.args.self.now in
    let entry = c.args.entry.now in
    let is : IsRing ring = subst (λ (r : RingState). IsRing r) c.self.view_is c.self.invariant in
    let size : length c.as_slice.result.now ≡ entry_length_of entry.roots entry.updates = ap (λ (b : List ℕ). length b) (c.as_slice.ensures ∙ c.in_ok-payload.ensures.ok) ∙ c.entry_lengths.ensures entry in
    let count : length c.in_ok-blocks.blocks.items ≡ parts_of entry = c.in_ok-blocks.ensures.count ∙ ap part_count size in
    let len : c.len.result ≡ parts_of entry = omega (arith, c.len.ensures, c.in_ok-blocks.blocks.ok.0, count) in
    let next : c.self.inside.next ≡ ring.next = ap (λ (r : RingState). r.next) c.self.view_is in
    clear ring number (omega (arith, lower, len, next, c.requires.fits, is.order))
