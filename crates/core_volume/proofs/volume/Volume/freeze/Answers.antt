-- Where there is no free bucket, the leaf isn't frozen, and the work on nodes has ended.
use Rattle.std.proofs.Common.{◌∙◌, sym}
use Rattle.core_volume.proofs.Frozen.{unfrozen-spaceless}
use Rattle.core_volume.proofs.volume.Volume.freeze.Goals as goal

pub returns-in-Err-NoSpace-clause-why : goal.returns-in-Err-NoSpace-clause-why
returns-in-Err-NoSpace-clause-why c =
    unfrozen-spaceless c.args.node c.args.self.now c.freeze_leaf.new.self c.end_without_space.new.self c.in-Some.btree c.requires (sym c.leaf_due.ensures ∙ c.in-Some.is) c.in-Err-NoSpace.ensures.err c.in-Err-NoSpace.field-0 c.in-Err-NoSpace.field-0-is c.in-Err-NoSpace.ensures.why
    c.end_without_space.result c.end_without_space.ensures.why
