use Rattle.std.proofs.Common.{◌≡◌, ◌<◌, ℕ}
use Rattle.node_store.specs.Copies.{block_in}
use Rattle.node_store.proofs.alike.is_same_before.Given as goal

abbrev pub invariant-loop-n : goal.invariant-loop-n
invariant-loop-n l = (k : ℕ) → k < l.n → block_in l.one k ≡ block_in l.other k
