-- Where the numbers are low, each is left that may be drawn next.
use Rattle.std.proofs.Common.{◌≡◌, ◌+◌, ◌-◌, ◌*◌, ◌^◌, ◌<◌, ◌≤◌, ℕ, zero, suc, Bool, true, false, cond, List, [], ◌∷◌, ◌++◌, length, sum_by, refl, sym, subst, arith}
use Rattle.std.specs.Prelude.{All, nat_lt, slice_index_or}
use Rattle.std.specs.Map.{values_of}
use Rattle.std.proofs.lemmas.Bool.{ltb-false}
use Rattle.std.proofs.lemmas.List.Elements.{All-head}
use Rattle.std.proofs.lemmas.List.Sums.{sum_by-cons}
use Rattle.btree_map.specs.Trees.{IsTrees, Trees}
use Rattle.core_volume.specs.Checkpoints.{HasPlacingNumbers}
use Rattle.core_volume.specs.Commits.{AreIntended}
use Rattle.core_volume.specs.Rulings.{HasCommitNumbers}
use Rattle.core_volume.specs.Sealing.{HasEntryNumbers, next_record, roots_in}
use Rattle.core_volume.specs.Volumes.{IsVolume, KeepParts, Volume, commits_of}
use Rattle.dev_model.specs.Devices.{DevicesState}
use Rattle.journal_writer.specs.Queues.{AreChanges, AreFollowed, HasNumbers, IsQueue, Queue, blocks_with, closes, first_of, follower_of, growth, last_block, oldest}
use Rattle.journal_writer.specs.declared.changes.Pending.{Pending}
use Rattle.journal_writer.specs.Writers.{HasBlockNumbers}
use Rattle.forest_ops.specs.History.{History, after_entry, commit_count, commits_of as commits_in, is_commit}
use Rattle.image_view.specs.Found.{Found}
use Rattle.plain_forest.specs.Forest.{Forest}
use Rattle.journal_ring.specs.EntryBlocks.{parts_of}
use Rattle.node_writeback.specs.Due.{no_node, root_of}
use Rattle.node_writeback.specs.Freezing.{HasBirth, next_birth}
use Rattle.record_codec.specs.Entries.{root_length_of, update_length_of}
use Rattle.tree_nodes.specs.Levels.{IsNodeOf, IsTree, Level, Levels, level_of}
use Rattle.vol_types.specs.Btrees.{btree_code}
use Rattle.vol_types.specs.Positions.{greatest_pos}
use Rattle.vol_types.specs.declared.keys.Update.{Update}
use Rattle.vol_types.specs.declared.positions.Btree.{Btree}
use Rattle.vol_types.specs.declared.positions.Btree.TheVariants.{Alloc, Backptrs, Counters, Deleted, Dirents, Extents, Inodes, Snapshots, Subvols}
use Rattle.vol_session.specs.Marks.{commits_found}
use Rattle.vol_session.specs.Numbers.{AreNumbersCounted, AreNumbersLow, HasNumbersLeft, IsFarFromSpent}
use Rattle.vol_session.proofs.NumbersKept.{flush_owed-most, write_owed-most}

-- A history has no more commits than entries.
pub commits_few : (forest : Forest) (trace : History) → commit_count forest trace ≤ length trace
commits_few forest [] = omega arith
commits_few forest (entry ∷ trace) = by (is_commit forest entry) (commits_few (after_entry forest entry) trace)
  where
    by : (b : Bool) → length (commits_in (after_entry forest entry) trace) ≤ length trace → length (cond b (entry ∷ commits_in (after_entry forest entry) trace) (commits_in (after_entry forest entry) trace)) ≤ suc (length trace)
    by true few = omega (arith, few)
    by false few = omega (arith, few)

-- ---- the roots of btrees are short

-- There is a btree with each number below nine.
btree_at : (code : ℕ) → code < 9 → (btree : Btree) × (btree_code btree ≡ code)
btree_at zero less = (Extents, refl)
btree_at (suc zero) less = (Inodes, refl)
btree_at (suc (suc zero)) less = (Dirents, refl)
btree_at (suc (suc (suc zero))) less = (Subvols, refl)
btree_at (suc (suc (suc (suc zero)))) less = (Snapshots, refl)
btree_at (suc (suc (suc (suc (suc zero))))) less = (Alloc, refl)
btree_at (suc (suc (suc (suc (suc (suc zero)))))) less = (Backptrs, refl)
btree_at (suc (suc (suc (suc (suc (suc (suc zero))))))) less = (Deleted, refl)
btree_at (suc (suc (suc (suc (suc (suc (suc (suc zero)))))))) less = (Counters, refl)
btree_at (suc (suc (suc (suc (suc (suc (suc (suc (suc code))))))))) less = absurd (omega (arith, less))

only_short : (level : ℕ) (nodes : Level) → length nodes ≡ 1 → All (IsNodeOf level) (values_of nodes) → root_length_of (slice_index_or nodes 0 (greatest_pos, no_node)).1 ≤ 25
only_short level [] one all = absurd (omega (arith, one))
only_short level (e ∷ nodes) one all =
    let copies = (All-head (IsNodeOf level) e.1 (values_of nodes) all).in_range.copies in
    omega (arith, copies.1)

root_short : (levels : Levels) → IsTree levels → root_length_of (root_of levels) ≤ 25
root_short [] is = absurd (let one = is.root in omega (arith, one))
root_short (level ∷ levels) is =
    let last : ℕ = length (level ∷ levels) - 1 in
    only_short last (level_of (level ∷ levels) last) is.root (is.each last (omega arith)).each

roots_short : (nodes : List Levels) → ((place : ℕ) → place < length nodes → root_length_of (root_of (slice_index_or nodes place [])) ≤ 25) → sum_by root_length_of (roots_in nodes) ≤ 25 * length nodes
roots_short [] each = omega arith
roots_short (levels ∷ nodes) each =
    let more = sum_by-cons root_length_of (root_of levels) (roots_in nodes) in
    let here = each 0 (omega arith) in
    let later = roots_short nodes (λ place less. each (suc place) (omega (arith, less))) in
    omega (arith, more, here, later)

trees_short : (trees : Trees) → IsTrees trees → sum_by root_length_of (roots_in trees.nodes) ≤ 225
trees_short trees is =
    let count = is.node_count in
    let all = roots_short trees.nodes (λ place less.
    let at = btree_at place (omega (arith, less, count)) in
    subst (λ (p : ℕ). root_length_of (root_of (slice_index_or trees.nodes p [])) ≤ 25) at.1 (root_short (slice_index_or trees.nodes (btree_code at.0) []) (is.each at.0).nodes)) in
    omega (arith, count, all)

-- ---- entries

-- No entry has a later sequence than the open one.
oldest_first : (mirrors : ℕ) (closed : List Pending) (open_entry : Pending) → AreFollowed mirrors closed open_entry → (first_of closed open_entry).after ≤ open_entry.after
oldest_first mirrors [] open_entry followed = omega arith
oldest_first mirrors (entry ∷ later) open_entry followed =
    let next = followed.0.sequence in
    let rest = oldest_first mirrors later open_entry followed.1 in
    omega (arith, next, rest)

oldest_changes : (queue : Queue) → IsQueue queue → AreChanges queue.mirrors (oldest queue).changes
oldest_changes queue is = by queue.closed is.closed_changes
  where
    by : (closed : List Pending) → All (λ (entry : Pending). AreChanges queue.mirrors entry.changes) closed → AreChanges queue.mirrors (first_of closed queue.open_entry).changes
    by [] all = is.open_changes
    by (entry ∷ later) all = All-head (λ (e : Pending). AreChanges queue.mirrors e.changes) entry later all

few_bytes : (mirrors : ℕ) (updates : List Update) → blocks_with mirrors updates ≤ 64 → sum_by update_length_of updates ≤ 64 * 3968
few_bytes mirrors updates few = omega (arith, few)

-- With updates that may be intended the open entry is one later at most, and the entries grow by 64 blocks at most.
ready_soon : (queue : Queue) (close : Bool)
    → (cond close (record { mirrors = queue.mirrors; closed = queue.closed ++ queue.open_entry ∷ []; open_entry = follower_of queue.mirrors queue.open_entry }) queue).open_entry.after ≤ queue.open_entry.after + 1
ready_soon queue true = omega arith
ready_soon queue false = omega arith

grows_by : (close : Bool) (alone joined before : ℕ) → alone ≤ 64 → nat_lt 64 joined ≡ close → cond close alone (joined - before) ≤ 64
grows_by true alone joined before few is = few
grows_by false alone joined before few is = let all = ltb-false 64 joined is in omega (arith, all)

grows_little : (updates : List Update) (queue : Queue) → blocks_with queue.mirrors updates ≤ 64 → growth updates queue ≤ 64
grows_little updates queue few =
    grows_by (closes updates queue) (blocks_with queue.mirrors updates) (blocks_with queue.mirrors (queue.open_entry.changes.updates ++ updates)) (blocks_with queue.mirrors queue.open_entry.changes.updates) few refl

none_few : (mirrors : ℕ) → mirrors ≤ 3 → blocks_with mirrors [] ≤ 64
none_few mirrors few = omega (arith, few)

module _ (begun : Found) (start state : DevicesState) (commits entries : ℕ) (fewer : commits ≤ entries) (volume : Volume) (is : IsVolume volume) (parts : KeepParts volume) (trees : IsTrees volume.trees) (all : commits_of volume ≡ commits_found begun + commits)
    (far : IsFarFromSpent begun start state) (few_entries : entries < 2 ^ 31) (counted : AreNumbersCounted begun start state commits volume) where
  abbrev time : ℕ
  time = state.moment - start.moment

  low : AreNumbersLow begun commits time volume
  low = counted far.counted

  sequence_low : volume.queue.open_entry.after + 2 < 2 ^ 64
  sequence_low =
      let s = low.sequence in
      let most = flush_owed-most volume.writer.flight volume.writer in
      let found = far.sequence in
      let few : commits < 2 ^ 31 = omega (arith, few_entries, fewer) in
      let short = far.short in
      omega (arith, s, most, found, few, short)

  born_low : volume.work.born ≤ 2 ^ 31
  born_low = let b = low.births in let most = write_owed-most volume.work.unfinished in let short = far.short in omega (arith, b, most, short)

  changes_low : volume.changes + 1 < 2 ^ 64
  changes_low = let c = low.changes in let b = born_low in let few : commits < 2 ^ 31 = omega (arith, few_entries, fewer) in omega (arith, c, b, few)

  behind_low : volume.queue.open_entry.behind + 1024 < 2 ^ 64
  behind_low =
      let b = low.blocks in
      let s = low.sequence in
      let most = flush_owed-most volume.writer.flight volume.writer in
      let end = far.blocks in
      let few : commits < 2 ^ 31 = omega (arith, few_entries, fewer) in
      let short = far.short in
      omega (arith, b, s, most, end, few, short)

  next_low : volume.writer.ring.next + 1024 < 2 ^ 64
  next_low =
      let r = low.ring in
      let first = oldest_first volume.queue.mirrors volume.queue.closed volume.queue.open_entry parts.queue.followed in
      let s = low.sequence in
      let most = flush_owed-most volume.writer.flight volume.writer in
      let end = far.blocks in
      let few : commits < 2 ^ 31 = omega (arith, few_entries, fewer) in
      let short = far.short in
      omega (arith, r, first, s, most, end, few, short)

  commits_low : volume.queue.open_entry.commits + 1 < 2 ^ 64
  commits_low = let same = all in let found = far.all_commits in let few : commits < 2 ^ 31 = omega (arith, few_entries, fewer) in omega (arith, same, found, few)

  last_low : last_block volume.queue + 64 + 1 < 2 ^ 64
  last_low = let b = behind_low in let few = parts.queue.open_changes.few in omega (arith, b, few)

  numbers_for : (updates : List Update) (counts : Bool) → blocks_with volume.queue.mirrors updates ≤ 64 → HasNumbers updates counts volume.queue
  numbers_for updates counts few = record {
    sequence = let soon = ready_soon volume.queue (closes updates volume.queue) in let s = sequence_low in omega (arith, soon, s);
    blocks = let little = grows_little updates volume.queue few in let last = last_low in omega (arith, little, last);
    commits = by counts;
  }
    where
      by : (counts : Bool) → volume.queue.open_entry.commits + cond {A = ℕ} counts 1 0 < 2 ^ 64
      by true = commits_low
      by false = let c = commits_low in omega (arith, c)

  commit_left : (updates : List Update) → AreIntended volume.layout.metadata_replicas updates → HasCommitNumbers volume updates true
  commit_left updates intended = record {
    entries = numbers_for updates true (subst (λ (m : ℕ). blocks_with m updates ≤ 64) (sym is.mirrors) intended.few);
    changes = changes_low;
  }

  entry_left : HasEntryNumbers volume
  entry_left none = numbers_for [] false (none_few volume.queue.mirrors parts.queue.mirrors_few)

  blocks_left : HasBlockNumbers volume.writer.ring (parts_of (next_record volume))
  blocks_left =
      let roots = trees_short volume.trees trees in
      let updates = few_bytes volume.queue.mirrors (oldest volume.queue).changes.updates (oldest_changes volume.queue parts.queue).few in
      let next = next_low in
      omega (arith, roots, updates, next)

  birth_left : HasBirth volume.session volume.work.born volume.trees.nodes
  birth_left = record {
    session_few = let same = low.session in let few = far.session in omega (arith, same, few);
    few = let b = born_low in omega (arith, b);
    unused = λ name has. let early = low.nodes far.births name (next_birth volume.session volume.work.born) has in omega (arith, early);
  }

  placing_left : HasPlacingNumbers volume
  placing_left = record { sequence = let s = sequence_low in omega (arith, s); changes = changes_low }

  -- Each number is left.
  pub numbers_left : HasNumbersLeft volume
  numbers_left = record { commit = commit_left; entry = entry_left; blocks = blocks_left; birth = birth_left; placing = placing_left }
