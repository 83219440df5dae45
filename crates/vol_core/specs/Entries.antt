-- The entries of the journal as they are known in memory: those that the last durable one needs, the one that is written, and those that
-- wait.
use Rattle.std.specs.Prelude.{◌≡◌, ◌≤◌, ◌<◌, ◌+◌, ℕ, Option, Some, None, List, [], ◌∷◌, ◌++◌, All, length, ⊤}
use Rattle.core_volume.specs.Volumes.{Volume}
use Rattle.journal_writer.specs.Queues.{record_of}
use Rattle.journal_writer.specs.declared.changes.KeyChanges.{KeyChanges}
use Rattle.journal_writer.specs.declared.writer.Flight.{Flight}
use Rattle.image_view.specs.Found.{Found}
use Rattle.image_view.specs.UpdatedTrees.{IsOfLeaf}
use Rattle.journal_ring.specs.Rings.{flight_number}
use Rattle.journal_ring.specs.declared.found.FoundEntry.{FoundEntry}
use Rattle.crash_safety.specs.Writings.{Writing}
use Rattle.replay.specs.NodeUpdates.{EachUpdate, IsBelowRoot}
use Rattle.vol_types.specs.KeyMaps.{with_updates}
use Rattle.vol_types.specs.declared.keys.Update.{Update}

-- the entries that the last durable one needs, and the one that is written, if one is
abbrev pub entries_with : Option Writing → List FoundEntry → List FoundEntry
entries_with None needed = needed
entries_with (Some w) needed = needed ++ w.next ∷ []

-- None of the numbers passes that of the first block of its entry.
abbrev pub AreStarts : List ℕ → List FoundEntry → Type 0
AreStarts [] [] = ⊤
AreStarts [] (entry ∷ entries) = ⊥
AreStarts (start ∷ starts) [] = ⊥
AreStarts (start ∷ starts) (entry ∷ entries) = (start ≤ entry.number) × AreStarts starts entries

-- The update is of a key in a leaf.
abbrev pub IsInLeaf : Update → Type 0
IsInLeaf update = update.level ≡ 0

-- All updates of the changes are of keys in leaves.
abbrev pub AreInLeaves : List KeyChanges → Type 0
AreInLeaves changes = All (λ (some : KeyChanges). All IsInLeaf some.updates) changes

-- What is in memory of the last durable entry, with which this is found: the layout and the session, and its numbers.
pub record IsKnown (f : Found) (volume : Volume) : Type 0 where
  pub layout : f.layout ≡ volume.layout
  pub session : f.session ≡ volume.session
  pub sequence : f.last.entry.sequence ≡ volume.writer.durable.sequence
  pub commits : f.last.entry.commits ≡ volume.writer.durable.commits
  pub oldest : f.last.entry.oldest ≡ volume.writer.durable.oldest
  pub some : 0 < length f.needed
  pub count : f.last.entry.oldest + length f.needed ≡ f.last.entry.sequence + 1

-- The entry in flight is the one that is written: so many of its parts were asked for, and so many stand. Its updates are of keys in leaves,
-- and what it leads to has the keys that were found, with its updates.
pub record IsInFlight (f : Found) (w : Writing) (asked written : ℕ) (flight : Flight) (volume : Volume) : Type 0 where
  pub entry : w.next.entry ≡ record_of flight.oldest volume.session w.next.entry.roots flight.entry
  pub number : flight_number volume.writer.ring ≡ w.next.number
  pub end : w.next.end ≡ volume.writer.ring.next
  pub blocks : volume.writer.ring.blocks ≡ w.blocks
  pub written_is : volume.writer.ring.written ≡ written
  pub some : 0 < length w.blocks
  pub few : written ≤ length w.blocks
  pub asked_for : asked ≤ written + 1
  pub leaves : All IsOfLeaf w.next.entry.updates
  pub keys : w.trees.keys ≡ with_updates w.next.entry.updates f.trees.keys

-- No entry is written, and the next one begins where the newest one ends.
pub record IsAtRest (f : Found) (asked written : ℕ) (volume : Volume) : Type 0 where
  pub end : f.last.end ≡ volume.writer.ring.next
  pub unasked : asked ≡ 0
  pub unwritten : written ≡ 0

-- An entry is in flight exactly where one is written, and it is that one.
abbrev pub FliesAs : Found → Option Flight → Option Writing → ℕ → ℕ → Volume → Type 0
FliesAs f None None asked written volume = IsAtRest f asked written volume
FliesAs f None (Some w) asked written volume = ⊥
FliesAs f (Some flight) None asked written volume = ⊥
FliesAs f (Some flight) (Some w) asked written volume = IsInFlight f w asked written flight volume

-- No update of the needed entries is above the root of its btree that the newest entry names.
abbrev pub AreBelowRoots : Found → Type 0
AreBelowRoots f = EachUpdate f (IsBelowRoot f.last.entry.roots)
