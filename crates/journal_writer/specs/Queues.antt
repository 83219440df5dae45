-- The entries of the journal that wait to be written: those that are closed, and the open one that commits join.
use Rattle.std.specs.Prelude.{◌≡◌, ℕ, ◌+◌, ◌-◌, ◌*◌, ◌^◌, ◌<◌, ◌≤◌, ◌++◌, ⊤, Bool, true, false, nat_lt, if◌then◌else◌, Option, None, Some, List, [], ◌∷◌, All, length, map, sum_by}
use Rattle.journal_ring.specs.EntryBlocks.{part_count}
use Rattle.record_codec.specs.Entries.{update_length_of}
use Rattle.record_codec.specs.declared.entries.EntryRecord.{EntryRecord}
use Rattle.vol_types.specs.KeyMaps.{KeyMap}
use Rattle.vol_types.specs.Ranges.{IsKeyValue}
use Rattle.vol_types.specs.Standing.{IsUpdate}
use Rattle.vol_types.specs.declared.keys.Update.{Update}
use Rattle.vol_types.specs.declared.pointers.NodePtr.{NodePtr}
use Rattle.vol_types.specs.declared.positions.Btree.{Btree}
use Rattle.journal_writer.specs.Changes.{changes_btree, changes_then, no_changes, undone}
use Rattle.journal_writer.specs.declared.changes.KeyChanges.{KeyChanges}
use Rattle.journal_writer.specs.declared.changes.Pending.{Pending}
use Rattle.journal_writer.specs.declared.entry_size.EntrySize.{EntrySize}

-- the bytes of an entry without keys, whose nine roots lie on so many metadata devices
abbrev pub head_length : ℕ → ℕ
head_length mirrors = 36 + 9 * (10 + 5 * mirrors)

-- how many blocks an entry with these updates takes
abbrev pub blocks_with : ℕ → List Update → ℕ
blocks_with mirrors updates = part_count (head_length mirrors + sum_by update_length_of updates)

-- the metadata devices of the volume; the closed entries, the oldest first; and the open one
pub record Queue : Type 0 where
  pub mirrors : ℕ
  pub closed : List Pending
  pub open_entry : Pending

-- an entry, and how many more updates it takes without memory
pub record EntryRoom : Type 0 where
  pub entry : Pending
  pub room : ℕ

-- a queue; how many more updates its open entry takes without memory; and how many more closed entries the queue takes so
pub record QueueRoom : Type 0 where
  pub queue : Queue
  pub room : ℕ
  pub places : ℕ

-- the last block of an entry
abbrev pub last_of : ℕ → Pending → ℕ
last_of mirrors entry = entry.behind + blocks_with mirrors entry.changes.updates

-- the last block of the entries
abbrev pub last_block : Queue → ℕ
last_block queue = last_of queue.mirrors queue.open_entry

-- the entry that follows another one, without changes so far
abbrev pub follower_of : ℕ → Pending → Pending
follower_of mirrors entry = record { after = entry.after + 1; behind = last_of mirrors entry; commits = entry.commits; changes = no_changes }

-- a queue without changes, whose open entry follows one of this sequence, with this last block
abbrev pub empty_queue : ℕ → ℕ → ℕ → ℕ → Queue
empty_queue mirrors after behind commits = record { mirrors = mirrors; closed = []; open_entry = record { after = after; behind = behind; commits = commits; changes = no_changes } }

-- whether the open entry is closed before these updates join, since it would pass 64 blocks with them
abbrev pub closes : List Update → Queue → Bool
closes updates queue = nat_lt 64 (blocks_with queue.mirrors (queue.open_entry.changes.updates ++ updates))

-- by how many blocks the entries grow with these updates: those of a new entry, or those that the open one grows by
abbrev pub growth : List Update → Queue → ℕ
growth updates queue =
    if closes updates queue then blocks_with queue.mirrors updates
    else blocks_with queue.mirrors (queue.open_entry.changes.updates ++ updates) - blocks_with queue.mirrors queue.open_entry.changes.updates

-- The updates come to this in the queue: they take these bytes, begin a new entry or not, and the entries grow with them by these
-- blocks, which are at most 64.
pub record IsSizeOf (queue : Queue) (updates : List Update) (size : EntrySize) : Type 0 where
  pub bytes : size.bytes ≡ sum_by update_length_of updates
  pub new_entry : size.new_entry ≡ closes updates queue
  pub blocks : size.blocks ≡ growth updates queue
  pub few : size.blocks ≤ 64

-- the queue, with the open entry closed where these updates would not fit it
abbrev pub readied : List Update → Queue → Queue
readied updates queue = if closes updates queue then record { mirrors = queue.mirrors; closed = queue.closed ++ queue.open_entry ∷ []; open_entry = follower_of queue.mirrors queue.open_entry } else queue

-- one for a commit that counts
abbrev pub count_of : Bool → ℕ
count_of counted = if counted then 1 else 0

-- an entry with the changes of one more commit
abbrev pub with_commit : KeyChanges → Bool → Pending → Pending
with_commit changes counted entry = record { after = entry.after; behind = entry.behind; commits = entry.commits + count_of counted; changes = changes_then entry.changes changes }

-- the queue after a commit made these changes
abbrev pub joined : KeyChanges → Bool → Queue → Queue
joined changes counted queue = let ready = readied changes.updates queue in record { mirrors = ready.mirrors; closed = ready.closed; open_entry = with_commit changes counted ready.open_entry }

-- The numbers that the entries take with this commit are left: each is below 2^64, and so is the one behind the last block.
pub record HasNumbers (updates : List Update) (counted : Bool) (queue : Queue) : Type 0 where
  pub sequence : (readied updates queue).open_entry.after + 1 < 2 ^ 64
  pub blocks : last_block queue + growth updates queue + 1 < 2 ^ 64
  pub commits : queue.open_entry.commits + count_of counted < 2 ^ 64

-- The changes take no memory when they join: there is room for them in the open entry, or for one more closed entry.
pub record HasRoom (updates : List Update) (it : QueueRoom) : Type 0 where
  pub few : closes updates it.queue ≡ false → length updates ≤ it.room
  pub place : closes updates it.queue ≡ true → 0 < it.places

-- the first of the closed entries, or the open one where none is closed
abbrev pub first_of : List Pending → Pending → Pending
first_of [] open_entry = open_entry
first_of (entry ∷ later) open_entry = entry

-- the entry that is written next
abbrev pub oldest : Queue → Pending
oldest queue = first_of queue.closed queue.open_entry

-- the queue without the first of its closed entries, or with a new open one where none is closed
abbrev pub left_by : List Pending → Queue → Queue
left_by [] queue = record { mirrors = queue.mirrors; closed = []; open_entry = follower_of queue.mirrors queue.open_entry }
left_by (entry ∷ later) queue = record { mirrors = queue.mirrors; closed = later; open_entry = queue.open_entry }

-- the queue without the entry that is written next
abbrev pub without_oldest : Queue → Queue
without_oldest queue = left_by queue.closed queue

-- An entry with these changes alone takes at most 64 blocks; each of the updates may stand, and has a value from before it
-- beside it.
pub record AreChanges (mirrors : ℕ) (changes : KeyChanges) : Type 0 where
  pub few : blocks_with mirrors changes.updates ≤ 64
  pub updates : All IsUpdate changes.updates
  pub pairs : length changes.before ≡ length changes.updates
  pub before : All IsKeyValue changes.before

-- The second entry follows the first, and has keys.
pub record IsFollowed (mirrors : ℕ) (first second : Pending) : Type 0 where
  pub sequence : second.after ≡ first.after + 1
  pub blocks : second.behind ≡ last_of mirrors first
  pub commits : first.commits ≤ second.commits
  pub has_keys : 0 < length second.changes.updates

-- Each of the closed entries is followed by the next one, and the last of them by the open one.
abbrev pub AreFollowed : ℕ → List Pending → Pending → Type 0
AreFollowed mirrors [] open_entry = ⊤
AreFollowed mirrors (entry ∷ later) open_entry = IsFollowed mirrors entry (first_of later open_entry) × AreFollowed mirrors later open_entry

-- What a queue keeps: entries that each fit the journal, under numbers one after another that are below 2^64.
pub record IsQueue (queue : Queue) : Type 0 where
  pub mirrored : 1 ≤ queue.mirrors
  pub mirrors_few : queue.mirrors ≤ 3
  pub open_changes : AreChanges queue.mirrors queue.open_entry.changes
  pub closed_changes : All (λ entry. AreChanges queue.mirrors entry.changes) queue.closed
  pub followed : AreFollowed queue.mirrors queue.closed queue.open_entry
  pub after : queue.open_entry.after < 2 ^ 64
  pub sequence : 0 < length queue.open_entry.changes.updates → queue.open_entry.after + 1 < 2 ^ 64
  pub last : last_block queue < 2 ^ 64
  pub commits : queue.open_entry.commits < 2 ^ 64

-- The entry goes before those of the queue, which has a place for it; where the next one has no keys, that is the open one,
-- and has no commits either.
pub record IsTakenOut (entry : Pending) (it : QueueRoom) : Type 0 where
  pub changes : AreChanges it.queue.mirrors entry.changes
  pub sequence : (oldest it.queue).after ≡ entry.after + 1
  pub blocks : (oldest it.queue).behind ≡ last_of it.queue.mirrors entry
  pub commits : entry.commits ≤ (oldest it.queue).commits
  pub alone : length (oldest it.queue).changes.updates ≡ 0 → it.queue.closed ≡ []
  pub commits_alone : length (oldest it.queue).changes.updates ≡ 0 → entry.commits ≡ (oldest it.queue).commits
  pub place : 0 < length (oldest it.queue).changes.updates → 0 < it.places

-- the record that an entry is written as, with this oldest needed sequence, this session and these roots
abbrev pub record_of : ℕ → ℕ → List NodePtr → Pending → EntryRecord
record_of oldest_needed session roots entry = record {
  sequence = entry.after + 1;
  oldest = oldest_needed;
  session = session;
  commits = entry.commits;
  roots = roots;
  updates = entry.changes.updates;
}

-- the entries, the oldest first
abbrev pub waiting_entries : Queue → List Pending
waiting_entries queue = queue.closed ++ queue.open_entry ∷ []

-- the sequence of the first of the entries that changes a btree, if one does
abbrev pub first_with : Btree → List Pending → Option ℕ
first_with btree [] = None
first_with btree (entry ∷ later) = if changes_btree btree entry.changes.updates then Some (entry.after + 1) else first_with btree later

-- The first of the entries follows this sequence or a later one, and no entry follows an earlier one than the entry before it.
abbrev pub AreBehind : ℕ → List Pending → Type 0
AreBehind sequence [] = ⊤
AreBehind sequence (entry ∷ later) = (sequence ≤ entry.after) × AreBehind entry.after later

-- the changes of closed entries
abbrev pub closed_changes : List Pending → List KeyChanges
closed_changes closed = map (λ entry. entry.changes) closed

-- the changes of the entries, the oldest first
abbrev pub waiting : Queue → List KeyChanges
waiting queue = closed_changes queue.closed ++ queue.open_entry.changes ∷ []

-- the key map that the durable entries mean, where besides the queue's changes those that are in flight aren't durable
abbrev pub durable_keys : List KeyChanges → Queue → KeyMap → KeyMap
durable_keys in_flight queue keys = undone (in_flight ++ waiting queue) keys
