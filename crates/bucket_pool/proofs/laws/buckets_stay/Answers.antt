use Rattle.bucket_pool.specs.StayLaws.{emptied_stays, kept_stays, noded_stays, reserved_stays, settled_stays}
use Rattle.bucket_pool.proofs.laws.buckets_stay.Goals as goal

pub returns : goal.returns
returns c = record { reserved = reserved_stays; kept = kept_stays; emptied = emptied_stays; settled = settled_stays; noded = noded_stays }
