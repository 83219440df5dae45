use Rattle.bucket_pool.specs.CountLaws.{reserved_whole}
use Rattle.bucket_pool.specs.RiseLaws.{reserved_rise}
use Rattle.bucket_pool.proofs.laws.reservations_are_whole.Goals as goal

pub returns : goal.returns
returns c = record { rises = reserved_rise; count = reserved_whole }
