use Rattle.bucket_pool.specs.ReserveLaws.{reserved_unused}
use Rattle.bucket_pool.proofs.laws.reserved_blocks_are_unused.Goals as goal

pub returns : goal.returns
returns c = reserved_unused
