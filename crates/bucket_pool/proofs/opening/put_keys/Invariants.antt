use Rattle.std.proofs.Common.{◌≡◌, take}
use Rattle.std.specs.List.{fold}
use Rattle.bucket_pool.specs.Opening.{with_key}
use Rattle.bucket_pool.proofs.opening.put_keys.Given as goal

abbrev pub invariant-loop-key : goal.invariant-loop-key
invariant-loop-key l = l.devices ≡ fold with_key l.fn.devices (take l.key-index l.live)
