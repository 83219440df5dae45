use Rattle.std.proofs.Common.{◌≡◌, ◌+◌, ◌<◌, ◌∙◌, ℕ, List, Some, length, ap, sym, subst, arith}
use Rattle.journal_ring.specs.EntryBlocks.{parts_of}
use Rattle.journal_ring.specs.Rings.{RingState}
use Rattle.journal_writer.specs.Queues.{AreChanges, record_of}
use Rattle.journal_writer.specs.Writers.{IsKept, Writer}
use Rattle.journal_writer.proofs.Entries.{entry_in_range, entry_is_short}
use Rattle.journal_writer.proofs.Kept.{sealed-kept}
use Rattle.journal_writer.proofs.writer.EntryWriter.seal.Goals as goal

pub stage_record-staged-requires-clause-entry : goal.stage_record-staged-requires-clause-entry
stage_record-staged-requires-clause-entry c = entry_in_range c.args.self.now.ring.mirrors c.args.oldest c.args.session c.args.roots c.args.entry c.requires.changes c.requires.oldest c.requires.count c.requires.roots

pub stage_record-staged-requires-clause-few : goal.stage_record-staged-requires-clause-few
stage_record-staged-requires-clause-few c = entry_is_short c.args.self.now.ring.mirrors c.args.oldest c.args.session c.args.roots c.args.entry c.requires.changes c.requires.oldest c.requires.count c.requires.roots

pub invariant_of-self : goal.invariant_of-self
invariant_of-self c =
    let inside = c.self.inside in
    let staged = c.stage_record-staged.new in
    let old : Writer = record { ring = inside.ring; flight = inside.flight; starts = inside.starts.items; durable = inside.durable; unsettled = inside.unsettled } in
    let count : length staged.ring.blocks ≡ parts_of (record_of c.args.oldest c.args.session c.args.roots c.args.entry) = c.in-Ok.ensures.blocks.count in
    let some : 0 < length staged.ring.blocks = omega (arith, count) in
    subst (λ (ring : RingState). IsKept inside.mirrors inside.begun (record { ring = ring; flight = Some (record { entry = c.args.entry; oldest = c.args.oldest }); starts = staged.starts.items; durable = inside.durable; unsettled = inside.unsettled })) (sym c.in-Ok.ensures.ring)
    (subst (λ (starts : List ℕ). IsKept inside.mirrors inside.begun (record { ring = record inside.ring { next = inside.ring.next + length staged.ring.blocks; blocks = staged.ring.blocks; written = 0 }; flight = Some (record { entry = c.args.entry; oldest = c.args.oldest }); starts = starts; durable = inside.durable; unsettled = inside.unsettled })) (sym c.in-Ok.ensures.starts)
    (sealed-kept inside.mirrors inside.begun old c.self.invariant.0 c.self.invariant.1 (ap (λ (w : Writer). w.flight) c.self.view_is ∙ c.requires.free) staged.ring.blocks some c.args.entry c.args.oldest c.requires.sequence c.requires.oldest
    (subst (λ (w : Writer). AreChanges w.ring.mirrors c.args.entry.changes) (sym c.self.view_is) c.requires.changes)))
