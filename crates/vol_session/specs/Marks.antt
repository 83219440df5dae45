-- The key map after each commit of a session, and where the entries that aren't durable stand among them.
use Rattle.std.specs.Prelude.{◌≡◌, ℕ, ◌+◌, ◌-◌, ◌≤◌, ⊤, Some, List, [], ◌∷◌, ◌++◌, length, slice_get}
use Rattle.btree_map.specs.Trees.{keys_in}
use Rattle.core_volume.specs.Volumes.{Volume, changes_in, commits_of, undurable_in}
use Rattle.dev_model.specs.Devices.{DevicesState, now}
use Rattle.dev_model.specs.Disk.{as_read}
use Rattle.journal_writer.specs.Changes.{LeadTo}
use Rattle.journal_writer.specs.Queues.{waiting}
use Rattle.journal_writer.specs.declared.changes.Pending.{Pending}
use Rattle.forest_ops.specs.History.{History, after_commits}
use Rattle.image_view.specs.Found.{Found, node_places, read_in}
use Rattle.key_meaning.specs.Checks.{IsSound}
use Rattle.key_meaning.specs.Forest.{forest_in}
use Rattle.key_meaning.specs.Tidy.{IsTidy}
use Rattle.plain_forest.specs.Forest.{Forest}
use Rattle.vol_types.specs.KeyMaps.{IsKeyMap, KeyMap, with_updates}

-- the forest that was found when the session began, with the bytes of files as they were read then
abbrev pub forest_found : Found → DevicesState → Forest
forest_found begun start = forest_in begun.trees.keys (read_in (as_read (now start)))

-- the commits of what was found when the session began
abbrev pub commits_found : Found → ℕ
commits_found begun = begun.last.entry.commits

-- The key map is the one after so many commits since format, where the first of these is the one after so many.
pub record IsMarkAt (marks : List KeyMap) (first commits : ℕ) (keys : KeyMap) : Type 0 where
  pub from : first ≤ commits
  pub marked : slice_get marks (commits - first) ≡ Some keys

-- Each of the entries leads from the key map of the one before to the one after its commits.
abbrev pub AreMarked : List KeyMap → ℕ → KeyMap → List Pending → Type 0
AreMarked marks first keys [] = ⊤
AreMarked marks first keys (entry ∷ later) =
    IsMarkAt marks first entry.commits (with_updates entry.changes.updates keys) × AreMarked marks first (with_updates entry.changes.updates keys) later

-- The key map after each commit is among these, the first of which was found when the session began: that of the last durable entry is, from which the changes that
-- aren't durable lead to the one in memory, and so is that of each entry that isn't durable. There is one for each commit.
pub record IsAtMarks (begun : Found) (marks : List KeyMap) (volume : Volume) : Type 0 where
  pub durable : KeyMap
  pub are_keys : IsKeyMap durable
  pub at : IsMarkAt marks (commits_found begun) volume.writer.durable.commits durable
  pub lead : LeadTo (changes_in volume.writer.flight ++ waiting volume.queue) durable (keys_in volume.trees)
  pub entries : AreMarked marks (commits_found begun) durable (undurable_in volume)
  pub count : commits_found begun + length marks ≡ commits_of volume + 1

-- The key map means the forest after so many commits of the history, and is sound and tidy. Its extents are those that were found.
pub record IsGoodMark (begun : Found) (start : DevicesState) (trace : History) (count : ℕ) (keys : KeyMap) : Type 0 where
  pub are_keys : IsKeyMap keys
  pub forest : forest_in keys (read_in (as_read (now start))) ≡ after_commits (forest_found begun start) trace count
  pub sound : IsSound keys (node_places begun) begun.layout
  pub tidy : IsTidy keys
  pub extents : keys.extents ≡ begun.trees.keys.extents

-- So it is of each of them.
abbrev pub AreGoodMarks : Found → DevicesState → History → List KeyMap → Type 0
AreGoodMarks begun start trace marks = (count : ℕ) (keys : KeyMap) → slice_get marks count ≡ Some keys → IsGoodMark begun start trace count keys
