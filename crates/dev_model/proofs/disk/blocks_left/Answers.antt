use Rattle.std.proofs.Common.{◌≡◌, length, ap, ◌∙◌}
use Rattle.std.proofs.lemmas.List.Elements.{All-same}
use Rattle.dev_model.specs.Disk.{IsBlock}
use Rattle.dev_model.specs.MemDisks.{restored}
use Rattle.dev_model.proofs.Overwriting.{length-restored, All-restored}
use Rattle.dev_model.proofs.disk.blocks_left.Goals as goal

pub torn_blocks-requires-clause-count : goal.torn_blocks-requires-clause-count
torn_blocks-requires-clause-count c =
    ap length (c.deref.ensures.value ∙ c.in_ok-settled-in-Torn.ensures) ∙ length-restored c.args.overwritten.now c.args.blocks.now

pub torn_blocks-requires-clause-second : goal.torn_blocks-requires-clause-second
torn_blocks-requires-clause-second c =
    All-same IsBlock _ _ (c.deref.ensures.value ∙ c.in_ok-settled-in-Torn.ensures) (All-restored c.args.overwritten.now c.args.blocks.now c.requires.bytes c.requires.disk.blocks)

pub returns-in_ok-settled-in-Torn : goal.returns-in_ok-settled-in-Torn
returns-in_ok-settled-in-Torn c =
    let settled : c.deref.result.now ≡ restored c.args.overwritten.now c.args.blocks.now = c.deref.ensures.value ∙ c.in_ok-settled-in-Torn.ensures in
    rw (c.in-Torn.is, ← settled) c.torn_blocks.ensures
