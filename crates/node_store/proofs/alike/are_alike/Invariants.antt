use Rattle.std.proofs.Common.{◌≡◌, ◌<◌, ℕ, List, Option, get_or}
use Rattle.node_store.specs.declared.opening.OpenBlock.{OpenBlock}
use Rattle.node_store.specs.Copies.{block_in}
use Rattle.node_store.proofs.alike.are_alike.Given as goal

abbrev pub invariant-loop-copy : goal.invariant-loop-copy
invariant-loop-copy l = (i : ℕ) (d : List (Option OpenBlock)) → i < l.copy-index → (n : ℕ) → n < l.end → block_in l.first n ≡ block_in (get_or l.rest i d) n
