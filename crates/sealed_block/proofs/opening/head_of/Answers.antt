use Rattle.std.proofs.Common.{◌∙◌, ap, slice_index}
use Rattle.std.specs.Int.{w16, w32, w64, from_le_bytes}
use Rattle.sealed_block.specs.Opening.{head_in}
use Rattle.sealed_block.proofs.opening.head_of.Goals as goal

pub returns : goal.returns
unfolding head_in
returns c =
    let block = c.args.block.now in
    let part = c.from_le_bytes.ensures ∙ ap (from_le_bytes w16) c.field_of.ensures in
    let parts = c.from_le_bytes-2.ensures ∙ ap (from_le_bytes w16) c.field_of-2.ensures in
    let owner = c.from_le_bytes-3.ensures ∙ ap (from_le_bytes w64) c.field_of-4.ensures in
    let number = c.from_le_bytes-4.ensures ∙ ap (from_le_bytes w64) c.field_of-5.ensures in
    let sequence = c.from_le_bytes-5.ensures ∙ ap (from_le_bytes w64) c.field_of-6.ensures in
    let size = c.from_le_bytes-6.ensures ∙ ap (from_le_bytes w32) c.field_of-7.ensures in
    λ i. record { kind = slice_index block 8; version = slice_index block 9; part = part i; parts = parts i; id = c.field_of-3.ensures i; owner = owner i; number = number i; sequence = sequence i; length = size i; whole = c.field_of-8.ensures i }
