use Rattle.key_steps.proofs.Plans.{planned_before, to_see_elsewhere, to_see_no_ids}
use Rattle.key_steps.proofs.steps.updates_are_planned_once.Goals as goal

pub returns : goal.returns
returns c = record {
  same = λ keys updates btree inode offset id value is snaps elsewhere. planned_before btree inode offset id keys updates value is snaps elsewhere;
  elsewhere = to_see_elsewhere;
  ids = to_see_no_ids;
}
