use Rattle.extent_ops.proofs.Keeping.{stay_apart, stay_drawn}
use Rattle.extent_ops.proofs.laws.taken_blocks_keep_keys.Goals as goal

pub returns : goal.returns
returns c = record {
  apart = stay_apart;
  drawn = stay_drawn;
}
