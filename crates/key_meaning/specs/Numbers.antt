-- Which inode numbers keys name, when nothing shows of a number, and which updates set a counter or an inode.
use Rattle.std.specs.Prelude.{◌≡◌, ◌≢◌, ℕ, ◌<◌, ◌≤◌, true, None, Option, Some, List, [], All, ⊤}
use Rattle.std.specs.Int.{IsInRange}
use Rattle.plain_forest.specs.Steps.{numbers_per_client}
use Rattle.vol_types.specs.KeyMaps.{KeyMap, entries_of, is_update_of, with_update}
use Rattle.vol_types.specs.declared.keys.Update.{Update}
use Rattle.vol_types.specs.declared.positions.Btree.{Btree}
use Rattle.vol_types.specs.declared.positions.Btree.TheVariants.{Extents, Inodes, Dirents, Subvols, Snapshots, Alloc, Backptrs, Deleted, Counters}
use Rattle.vol_types.specs.declared.positions.Pos.{Pos}
use Rattle.vol_types.specs.declared.values.Link.{Link}
use Rattle.vol_types.specs.declared.values.Sub.{Sub}
use Rattle.vol_types.specs.declared.values.Value.{Value}
use Rattle.vol_types.specs.declared.values.Value.TheVariants as values
use Rattle.key_meaning.specs.Alike.{ShowAlike}
use Rattle.key_meaning.specs.Blocks.{block_in}
use Rattle.key_meaning.specs.Forest.{inode_in, links_in, links_of, next_in, number_in, subs_of}
use Rattle.key_meaning.specs.Visible.{snaps_of}

-- The entry of the btree names other inode numbers than this one, if any, at its position and in its value.
abbrev pub NamesOthers : ℕ → Btree → Pos × Value → Type 0
NamesOthers number Extents entry = entry.0.inode ≢ number
NamesOthers number Inodes entry = entry.0.offset ≢ number
NamesOthers number Dirents entry = (entry.0.inode ≢ number) × All (λ (link : Link). link.number ≢ number) (links_of (Some entry.1))
NamesOthers number Subvols entry = All (λ (sub : Sub). sub.root ≢ number) (subs_of (Some entry.1))
NamesOthers number Snapshots entry = ⊤
NamesOthers number Alloc entry = ⊤
NamesOthers number Backptrs entry = (extent : Pos) → entry.1 ≡ values.Back extent → extent.inode ≢ number
NamesOthers number Deleted entry = entry.0.offset ≢ number
NamesOthers number Counters entry = ⊤

-- No key names the inode number.
pub record IsUnused (keys : KeyMap) (number : ℕ) : Type 0 where
  pub each : (btree : Btree) → All (NamesOthers number btree) (entries_of keys btree)

-- No id shows an inode of the number, a name in its directory, a name that leads to it, or a block of it.
pub record ShowsNowhere (keys : KeyMap) (number : ℕ) : Type 0 where
  pub inodes : (id : ℕ) → inode_in keys id number ≡ None
  pub names : (id slot : ℕ) → links_in keys id number slot ≡ []
  pub leads : (id directory : ℕ) (name : List ℕ) → number_in keys id directory name ≢ Some number
  pub blocks : (id block : ℕ) → block_in keys id number block ≡ None

-- The update sets a counter to a number.
pub record SetsCounter (update : Update) (counter next : ℕ) : Type 0 where
  pub of_counters : is_update_of Counters update ≡ true
  pub place : update.pos ≡ record { inode = 0; offset = counter; snapshot = 0 }
  pub value : update.value ≡ Some (values.Counter next)

-- A client's counter may be set to the number: it is no less than it stands at, and one that a client's counter may stand at.
pub record MayCountTo (keys : KeyMap) (client next : ℕ) : Type 0 where
  pub client_fits : client < 16
  pub raised : next_in keys client ≤ next
  pub in_range : IsInRange 1 numbers_per_client next

-- The second key map has the ids and subvolumes of the first, and each id shows the same.
pub record ShowSame (keys new : KeyMap) : Type 0 where
  pub snaps : snaps_of new ≡ snaps_of keys
  pub subvols : new.subvols ≡ keys.subvols
  pub each : (id : ℕ) → ShowAlike new id keys id

-- the update that gives an id's own inode of a number this value, or takes it away
abbrev pub own_inode : ℕ → ℕ → Option Value → Update
own_inode id number value = record { btree = Inodes; level = 0; pos = record { inode = 0; offset = number; snapshot = id }; value = value }

-- the key map after this update
abbrev pub with_inode : ℕ → ℕ → Option Value → KeyMap → KeyMap
with_inode id number value keys = with_update (own_inode id number value) keys
