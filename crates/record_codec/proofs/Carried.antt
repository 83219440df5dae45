-- What reading a part of a key, a btree's number or one more member gives a record.
use Rattle.std.proofs.Common.{◌≡◌, ℕ, ◌-◌, ◌<◌, List, Option, Result, Ok, Err, refl, ap}
use Rattle.vol_types.specs.declared.positions.Btree.{Btree}
use Rattle.vol_types.specs.declared.positions.Btree.TheVariants.{Extents, Inodes, Dirents, Subvols, Snapshots, Alloc, Backptrs, Deleted, Counters}
use Rattle.vol_types.specs.Btrees.{btree_code}
use Rattle.key_codec.specs.declared.fault.KeyFault.{KeyFault}
use Rattle.key_codec.specs.declared.fault.KeyFault.TheVariants.{Short, Kind, Range, Order, NoMemory}
use Rattle.key_codec.specs.Formats.{FormatOf, carried}
use Rattle.key_codec.specs.ItemLoop.{last_of, IsReadTo, stops}
use Rattle.key_codec.specs.Reading as of_keys
use Rattle.record_codec.specs.Fields.{btree_of}
use Rattle.record_codec.specs.Reading.{Fails, Gives, key_fault, root_fault}
use Rattle.record_codec.specs.declared.fault.RecordFault.{RecordFault}
use Rattle.record_codec.specs.declared.fault.RecordFault.TheVariants as records

-- What a key's part gives is given of a record, with the fault as a record names it.
pub gives_key : {X Y : Type 0} (view : X → Y) (result : Result X KeyFault) (read : Result Y KeyFault) → of_keys.Gives view result read → Gives view (carried key_fault result) (carried key_fault read)
gives_key view (Ok x) read e = ap (carried key_fault) e
gives_key view (Err Short) read e = ap (carried key_fault) e
gives_key view (Err (Kind kind)) read e = ap (carried key_fault) e
gives_key view (Err (Range field)) read e = ap (carried key_fault) e
gives_key view (Err Order) read e = ap (carried key_fault) e
gives_key view (Err NoMemory) read e = tt

-- What a root's part gives is given of a record.
pub gives_root : {X Y : Type 0} (view : X → Y) (result : Result X KeyFault) (read : Result Y KeyFault) → of_keys.Gives view result read → Gives view (carried root_fault result) (carried root_fault read)
gives_root view (Ok x) read e = ap (carried root_fault) e
gives_root view (Err Short) read e = ap (carried root_fault) e
gives_root view (Err (Kind kind)) read e = ap (carried root_fault) e
gives_root view (Err (Range field)) read e = ap (carried root_fault) e
gives_root view (Err Order) read e = ap (carried root_fault) e
gives_root view (Err NoMemory) read e = tt

-- A btree is that of its number.
pub btree_of-code : (btree : Btree) → btree_of (btree_code btree) ≡ btree
btree_of-code Extents = refl
btree_of-code Inodes = refl
btree_of-code Dirents = refl
btree_of-code Subvols = refl
btree_of-code Snapshots = refl
btree_of-code Alloc = refl
btree_of-code Backptrs = refl
btree_of-code Deleted = refl
btree_of-code Counters = refl

-- The next member isn't read.
pub ends : {A : Type 0} (fault : RecordFault) (item : Option A → FormatOf RecordFault A) (prefix : List A) (count i : ℕ) (rest : List ℕ) (whole : Result (List A × List ℕ) RecordFault) → i < count
    → Fails fault ((item (last_of prefix)).read rest) → IsReadTo item prefix (count - i) rest whole → Fails fault whole
ends records.Short item prefix count i rest whole lt read so_far = stops records.Short item prefix count i rest whole lt read so_far
ends records.Order item prefix count i rest whole lt read so_far = stops records.Order item prefix count i rest whole lt read so_far
ends (records.Key fault) item prefix count i rest whole lt read so_far = stops (records.Key fault) item prefix count i rest whole lt read so_far
ends records.Roots item prefix count i rest whole lt read so_far = stops records.Roots item prefix count i rest whole lt read so_far
ends records.Field item prefix count i rest whole lt read so_far = stops records.Field item prefix count i rest whole lt read so_far
ends records.Long item prefix count i rest whole lt read so_far = stops records.Long item prefix count i rest whole lt read so_far
ends records.NoMemory item prefix count i rest whole lt read so_far = tt

-- A key's part is read of a record, and so is a root.
pub ruleset carried_by = (gives_key, gives_root)

-- A btree is known by its number.
pub ruleset btrees_by = (btree_of-code)
