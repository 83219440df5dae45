-- The sequences of entries that are closed or have keys are below 2^64.
use Rattle.std.proofs.Common.{◌≡◌, ◌<◌, ◌+◌, ◌^◌, ℕ, true, List, [], ◌∷◌, length, sym, arith}
use Rattle.std.specs.Prelude.{All}
use Rattle.std.proofs.lemmas.Bool.{true≢false}
use Rattle.std.proofs.lemmas.List.Elements.{All-cons, All-nil}
use Rattle.vol_types.specs.declared.keys.Update.{Update}
use Rattle.vol_types.specs.declared.positions.Btree.{Btree}
use Rattle.journal_writer.specs.Changes.{changes_btree}
use Rattle.journal_writer.specs.Queues.{AreFollowed, IsQueue, Queue}
use Rattle.journal_writer.specs.declared.changes.Pending.{Pending}
use Rattle.journal_writer.proofs.Joining.{first_before}

-- each of the closed ones has one
pub closed-numbers : (mirrors : ℕ) (closed : List Pending) (entry : Pending) → AreFollowed mirrors closed entry → entry.after < 2 ^ 64 → All (λ (e : Pending). e.after + 1 < 2 ^ 64) closed
closed-numbers mirrors [] entry followed lt = All-nil (λ (e : Pending). e.after + 1 < 2 ^ 64)
closed-numbers mirrors (one ∷ later) entry followed lt =
    let before = first_before mirrors later entry followed.1 in
    All-cons (λ (e : Pending). e.after + 1 < 2 ^ 64) one later (let s = followed.0.sequence in let b = before.0 in omega (arith, s, b, lt)) (closed-numbers mirrors later entry followed.1 lt)

-- and so has the open one, where it changes a btree
pub open_number : (btree : Btree) (queue : Queue) → IsQueue queue → changes_btree btree queue.open_entry.changes.updates ≡ true → queue.open_entry.after + 1 < 2 ^ 64
open_number btree queue is changes = is.sequence (some queue.open_entry.changes.updates changes)
  where
    some : (updates : List Update) → changes_btree btree updates ≡ true → 0 < length updates
    some [] changes = absurd (true≢false (sym changes))
    some (update ∷ updates) changes = omega arith
