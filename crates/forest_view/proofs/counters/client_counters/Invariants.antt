use Rattle.std.proofs.Common.{◌≡◌, ℕ, ◌<◌, length, get_or}
use Rattle.std.specs.Prelude.{min}
use Rattle.btree_map.specs.Trees.{keys_in}
use Rattle.forest_ops.specs.Steps.{numbers_per_client}
use Rattle.key_meaning.specs.Forest.{next_in}
use Rattle.forest_view.proofs.counters.client_counters.Given as goal

abbrev pub invariant-loop-client : goal.invariant-loop-client
invariant-loop-client l = (length l.next ≡ 16) × ((k : ℕ) → k < l.client → get_or l.next k 0 ≡ min (next_in (keys_in l.keys) k) numbers_per_client)
