-- What an entry of the journal is on disk: the roots as they were, and what the commits did since, in their order.
use Rattle.std.specs.Prelude.{◌≡◌, ℕ, ◌+◌, ◌*◌, ◌<◌, ◌≤◌, ◌^◌, List, length, All, Option, Result, nat_le, sum_by}
use Rattle.vol_types.specs.declared.keys.Update.{Update}
use Rattle.vol_types.specs.declared.pointers.NodePtr.{NodePtr}
use Rattle.vol_types.specs.Lengths.{key_length_of}
use Rattle.vol_types.specs.Ranges.{IsNode}
use Rattle.vol_types.specs.Widths.{PosFits, NodeFits, KeyValueFits}
use Rattle.key_codec.specs.Formats.{FormatOf, ◌>>=◌, mapped, checked, followed, both, items}
use Rattle.record_codec.specs.declared.entries.EntryRecord.{EntryRecord}
use Rattle.record_codec.specs.declared.fault.RecordFault.{RecordFault}
use Rattle.record_codec.specs.declared.fault.RecordFault.TheVariants.{Field}
use Rattle.record_codec.specs.Fields.{byte, u64_field, position, root, btree, value_in, listing}
use Rattle.record_codec.specs.Sets.{all_read}
use Rattle.vol_types.specs.Standing.{IsUpdate}

-- No older entry is needed than one up to this entry, there is a root for each of the nine btrees, and each update may stand.
pub record IsEntryInRange (entry : EntryRecord) : Type 0 where
  pub oldest : entry.oldest ≤ entry.sequence
  pub all_roots : length entry.roots ≡ 9
  pub roots : All IsNode entry.roots
  pub few : length entry.updates < 2 ^ 32
  pub updates : All IsUpdate entry.updates

-- The parts of the update have their widths.
pub record UpdateFits (update : Update) : Type 0 where
  pub level : update.level < 2 ^ 8
  pub pos : PosFits update.pos
  pub value : KeyValueFits update.value

-- The parts of the entry have their widths.
pub record EntryFits (entry : EntryRecord) : Type 0 where
  pub sequence : entry.sequence < 2 ^ 64
  pub session : entry.session < 2 ^ 64
  pub commits : entry.commits < 2 ^ 64
  pub roots : All NodeFits entry.roots
  pub updates : All UpdateFits entry.updates

-- The entry has a encoding.
pub record IsEntry (entry : EntryRecord) : Type 0 where
  pub fits : EntryFits entry
  pub in_range : IsEntryInRange entry

-- a root; how it is read doesn't depend on the one before it
abbrev pub root_item : Option NodePtr → FormatOf RecordFault NodePtr
root_item before = root

-- the root of each btree, in the order of the btrees' numbers
unfoldable pub roots : FormatOf RecordFault (List NodePtr)
roots = items root_item 9

-- an update: the btree, the level, and the key
unfoldable pub update_item : Option Update → FormatOf RecordFault Update
update_item before = mapped (followed (both btree byte) (λ place. both position (value_in place.0 place.1)))
    (λ x. record { btree = x.0.0; level = x.0.1; pos = x.1.0; value = x.1.1 }) (λ u. ((u.btree, u.level), (u.pos, u.value)))

-- an entry: its sequence, the oldest sequence that is needed, up to its own, its session, the number of commits since format, its own included, the roots, and the updates after their number
unfoldable pub entry_format : FormatOf RecordFault EntryRecord
entry_format = mapped (followed u64_field (λ sequence. both (checked u64_field (λ oldest. nat_le oldest sequence) Field) (both u64_field (both u64_field (both roots (listing update_item))))))
    (λ x. record { sequence = x.0; oldest = x.1.0; session = x.1.1.0; commits = x.1.1.1.0; roots = x.1.1.1.1.0; updates = x.1.1.1.1.1 })
    (λ e. (e.sequence, (e.oldest, (e.session, (e.commits, (e.roots, e.updates))))))

-- the entry that the bytes are, or the first fault
unfoldable pub entry_in : List ℕ → Result EntryRecord RecordFault
entry_in bytes = do
  x ← entry_format.read bytes
  all_read x

-- the bytes of a root
abbrev pub root_length_of : NodePtr → ℕ
root_length_of root = 10 + 5 * length root.places

-- the bytes of an update: 2 for its btree and level besides its key
abbrev pub update_length_of : Update → ℕ
update_length_of update = 2 + key_length_of update.value

-- the bytes of an entry: 32 for its four numbers, those of each root, 4 for the number of updates, and those of each update
abbrev pub entry_length_of : List NodePtr → List Update → ℕ
entry_length_of roots updates = 36 + sum_by root_length_of roots + sum_by update_length_of updates
