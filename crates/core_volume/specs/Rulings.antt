-- When a commit is refused, and why: the first of five causes that holds.
use Rattle.std.specs.Prelude.{◌≡◌, ℕ, ◌+◌, ◌<◌, ◌^◌, Bool, Some, None, IsNone, List, [], length, map, slice_index_or}
use Rattle.std.specs.List.{range_with_len}
use Rattle.bucket_pool.specs.Space.{Space, free_count}
use Rattle.dirty_nodes.specs.Dirty.{changed_nodes, paths_of, with_pins}
use Rattle.dirty_nodes.specs.Splits.{IsSplitNeed, first_large}
use Rattle.journal_writer.specs.Queues.{HasNumbers, IsSizeOf, growth, readied}
use Rattle.vol_types.specs.declared.keys.Update.{Update}
use Rattle.vol_types.specs.declared.space.Short.{Short}
use Rattle.core_actors.specs.declared.answer.NoSpace.{NoSpace}
use Rattle.core_actors.specs.declared.answer.Refusal.{Refusal}
use Rattle.core_actors.specs.declared.answer.Refusal.TheVariants as refusals
use Rattle.core_volume.specs.declared.ruling.Ruling.{Ruling}
use Rattle.core_volume.specs.declared.ruling.Ruling.TheVariants.{Allowed, Refused}
use Rattle.core_volume.specs.Volumes.{Volume, blocks_left, held_on, is_idle}

-- how many blocks of the journal a commit leaves for the entries of a checkpoint
abbrev pub kept_blocks : ℕ
kept_blocks = 64

-- how many free buckets a commit leaves on each metadata device beside those for the marked nodes
abbrev pub kept_buckets : ℕ
kept_buckets = 4

-- The numbers are left that a commit draws.
pub record HasCommitNumbers (volume : Volume) (updates : List Update) (counted : Bool) : Type 0 where
  pub entries : HasNumbers updates counted volume.queue
  pub changes : volume.changes + 1 < 2 ^ 64

-- the sequence of the entry that updates join
abbrev pub entry_of : Volume → List Update → ℕ
entry_of volume updates = (readied updates volume.queue).open_entry.after + 1

-- how many nodes are marked after updates
abbrev pub marked_after : Volume → List Update → ℕ
marked_after volume updates = length (with_pins (entry_of volume updates) (paths_of volume.trees.nodes updates) volume.marks)

-- A metadata device has fewer free buckets than will be kept for so many marked nodes.
pub record IsShortOfNodes (space : Space) (mirrors marked : ℕ) : Type 0 where
  pub dev : ℕ
  pub metadata : dev < mirrors
  pub few : free_count (slice_index_or space dev []) < marked + kept_buckets

-- the free buckets of each device, and those that are held back
abbrev pub short_of : Volume → Short
short_of volume = record { need = 0; free = map free_count volume.space; held = map (held_on volume) (range_with_len 0 (length volume.space)) }

-- what is told where there are too few free buckets for nodes, and whether a checkpoint would free none
abbrev pub no_space : Bool → Volume → NoSpace
no_space idle volume = record { short = short_of volume; idle = idle; changes = volume.changes }

-- The journal has no room for the updates beside the blocks that are kept.
abbrev pub IsFull : Volume → List Update → Type 0
IsFull volume updates = blocks_left volume < growth updates volume.queue + kept_blocks

-- The session writes, and no leaf gets too large.
pub record MayStay (volume : Volume) (updates : List Update) : Type 0 where
  pub writes : volume.halted ≡ None
  pub fits : IsNone (first_large volume.trees updates)

-- And the numbers are left.
pub record MayDraw (volume : Volume) (updates : List Update) (counted : Bool) : Type 0 where
  pub stays : MayStay volume updates
  pub numbers : HasCommitNumbers volume updates counted

-- And the journal has room.
pub record MayJoin (volume : Volume) (updates : List Update) (counted : Bool) : Type 0 where
  pub draws : MayDraw volume updates counted
  pub room : ¬ IsFull volume updates

-- Nothing refuses the commit.
pub record IsAllowed (volume : Volume) (updates : List Update) (counted : Bool) : Type 0 where
  pub joins : MayJoin volume updates counted
  pub space : ¬ IsShortOfNodes volume.space volume.layout.metadata_replicas (marked_after volume updates)

-- The commit is refused for this cause, and for none of those before it: the session has stopped writing, a leaf would be too
-- large, no number is left, the journal has no room, or there are too few free buckets for nodes.
abbrev pub IsRefused : Volume → List Update → Bool → Refusal → Type 0
IsRefused volume updates counted (refusals.Halted halt) = volume.halted ≡ Some halt
IsRefused volume updates counted (refusals.NeedSplit need) = (volume.halted ≡ None) × IsSplitNeed volume.trees updates need
IsRefused volume updates counted refusals.Spent = MayStay volume updates × ¬ HasCommitNumbers volume updates counted
IsRefused volume updates counted (refusals.RingFull full) =
    MayDraw volume updates counted × IsFull volume updates × (full ≡ record { left = blocks_left volume; need = growth updates volume.queue })
IsRefused volume updates counted (refusals.NoSpace none) =
    MayJoin volume updates counted × IsShortOfNodes volume.space volume.layout.metadata_replicas (marked_after volume updates) × (none ≡ no_space (is_idle volume) volume)

-- The ruling on a commit is right: it is refused for its first cause, or allowed with the nodes that it makes dirty and what its
-- updates come to in the journal.
abbrev pub IsRuling : Volume → List Update → Bool → Ruling → Type 0
IsRuling volume updates counted (Refused refusal) = IsRefused volume updates counted refusal
IsRuling volume updates counted (Allowed paths size) =
    IsAllowed volume updates counted × (paths.changed.items ≡ changed_nodes volume.trees.nodes updates) × (paths.over.items ≡ paths_of volume.trees.nodes updates) × IsSizeOf volume.queue updates size
