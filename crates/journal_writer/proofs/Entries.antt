-- Entries that wait can be written: they are in range, and take few blocks.
use Rattle.std.proofs.Common.{◌≡◌, ◌≤◌, ◌<◌, ◌+◌, ◌*◌, ◌^◌, ℕ, List, [], ◌∷◌, length, sum_by, arith}
use Rattle.std.proofs.lemmas.List.Elements.{All-head, All-tail}
use Rattle.std.proofs.lemmas.List.Sums.{sum_by-cons}
use Rattle.std.specs.Prelude.{All}
use Rattle.journal_writer.specs.Queues.{AreChanges, record_of}
use Rattle.journal_writer.specs.declared.changes.Pending.{Pending}
use Rattle.journal_ring.specs.EntryBlocks.{parts_of}
use Rattle.record_codec.specs.Entries.{IsEntryInRange, root_length_of, update_length_of}
use Rattle.vol_types.specs.Ranges.{IsNode}
use Rattle.vol_types.specs.declared.keys.Update.{Update}
use Rattle.vol_types.specs.declared.pointers.NodePtr.{NodePtr}

-- A root takes at most 25 bytes.
roots_are_short : (roots : List NodePtr) → All IsNode roots → sum_by root_length_of roots ≤ length roots * 25
roots_are_short [] are = omega arith
roots_are_short (root ∷ roots) are =
    let here = (All-head IsNode root roots are).copies.1 in
    let later = roots_are_short roots (All-tail IsNode root roots are) in
    omega (arith, sum_by-cons root_length_of root roots, here, later)

-- An update takes at least one byte.
updates_are_few : (updates : List Update) → length updates ≤ sum_by update_length_of updates
updates_are_few [] = omega arith
updates_are_few (update ∷ updates) = let later = updates_are_few updates in omega (arith, sum_by-cons update_length_of update updates, later)

module _ (mirrors oldest session : ℕ) (roots : List NodePtr) (entry : Pending) (changes : AreChanges mirrors entry.changes) (order : oldest ≤ entry.after + 1) (count : length roots ≡ 9) (are : All IsNode roots) where
  few : sum_by update_length_of entry.changes.updates ≤ 64 * 3968
  few = let most = changes.few in omega (arith, most)

  pub entry_in_range : IsEntryInRange (record_of oldest session roots entry)
  entry_in_range = record {
    oldest = order;
    all_roots = count;
    roots = are;
    few = let bytes = few in let members = updates_are_few entry.changes.updates in omega (arith, bytes, members);
    updates = changes.updates;
  }

  pub entry_is_short : parts_of (record_of oldest session roots entry) < 2 ^ 32
  entry_is_short = let bytes = few in let short = roots_are_short roots are in omega (arith, bytes, short, count)
