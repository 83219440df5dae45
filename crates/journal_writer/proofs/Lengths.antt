-- How many blocks entries take.
use Rattle.std.proofs.Common.{◌≡◌, ◌≤◌, ◌+◌, ◌*◌, ℕ, List, [], ◌∷◌, length, sum_by, sym, ap, ◌∙◌, subst, arith}
use Rattle.std.specs.Prelude.{All}
use Rattle.std.proofs.lemmas.List.Elements.{All-head, All-tail}
use Rattle.std.proofs.lemmas.List.Sums.{sum_by-cons}
use Rattle.journal_ring.specs.EntryBlocks.{part_count, parts_of}
use Rattle.record_codec.specs.Entries.{IsEntryInRange, root_length_of, update_length_of}
use Rattle.vol_types.specs.Ranges.{IsNode}
use Rattle.vol_types.specs.declared.keys.Update.{Update}
use Rattle.vol_types.specs.declared.pointers.NodePtr.{NodePtr}
use Rattle.journal_writer.specs.Queues.{AreChanges, blocks_with, head_length, record_of}
use Rattle.journal_writer.specs.declared.changes.Pending.{Pending}

-- the bytes of roots that have as many places each
pub roots_sum : (mirrors : ℕ) (roots : List NodePtr) → All (λ root. length root.places ≡ mirrors) roots → sum_by root_length_of roots ≡ length roots * (10 + 5 * mirrors)
roots_sum mirrors [] all = omega arith
roots_sum mirrors (root ∷ roots) all =
    let here : length root.places ≡ mirrors = All-head (λ (r : NodePtr). length r.places ≡ mirrors) root roots all in
    omega (arith, sum_by-cons root_length_of root roots, here, roots_sum mirrors roots (All-tail (λ (r : NodePtr). length r.places ≡ mirrors) root roots all))

-- there are no more updates than bytes
pub few_updates : (updates : List Update) → length updates ≤ sum_by update_length_of updates
few_updates [] = omega arith
few_updates (update ∷ updates) = omega (arith, sum_by-cons update_length_of update updates, few_updates updates)

-- updates of at most 64 blocks have few bytes
pub few_bytes : (mirrors : ℕ) (updates : List Update) → blocks_with mirrors updates ≤ 64 → sum_by update_length_of updates ≤ 64 * 3968
few_bytes mirrors updates few = omega (arith, few)

-- an entry of the queue can be written
pub entry_fits : (mirrors oldest_needed session : ℕ) (roots : List NodePtr) (entry : Pending) → AreChanges mirrors entry.changes → oldest_needed ≤ entry.after + 1 → length roots ≡ 9
    → All IsNode roots → All (λ root. length root.places ≡ mirrors) roots
    → IsEntryInRange (record_of oldest_needed session roots entry)
    × (parts_of (record_of oldest_needed session roots entry) ≡ blocks_with mirrors entry.changes.updates) × (parts_of (record_of oldest_needed session roots entry) ≤ 64)
entry_fits mirrors oldest_needed session roots entry are order nine nodes places =
    let roots_long : sum_by root_length_of roots ≡ 9 * (10 + 5 * mirrors) = roots_sum mirrors roots places ∙ ap (λ n. n * (10 + 5 * mirrors)) nine in
    let long : 36 + sum_by root_length_of roots + sum_by update_length_of entry.changes.updates ≡ head_length mirrors + sum_by update_length_of entry.changes.updates = omega (arith, roots_long) in
    let count : parts_of (record_of oldest_needed session roots entry) ≡ blocks_with mirrors entry.changes.updates = ap part_count long in
    let bytes : sum_by update_length_of entry.changes.updates ≤ 64 * 3968 = few_bytes mirrors entry.changes.updates are.few in (
      record {
        oldest = order;
        all_roots = nine;
        roots = nodes;
        few = omega (arith, few_updates entry.changes.updates, bytes);
        updates = are.updates;
      },
      count,
      subst (λ n. n ≤ 64) (sym count) are.few,
    )
