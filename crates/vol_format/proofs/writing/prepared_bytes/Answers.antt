-- The end of the journal area is the number of a block.
use Rattle.std.proofs.Common.{arith}
use Rattle.vol_types.specs.LayoutLaws.{layout_found}
use Rattle.vol_format.proofs.writing.prepared_bytes.Goals as goal

pub overflow_add-behind : goal.overflow_add-behind
overflow_add-behind c = omega (arith, (layout_found c.args.layout.now c.requires.layout).journal_range.1)
