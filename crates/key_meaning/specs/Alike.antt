-- When two key maps show the same, each in an id of its own, and when an id has no keys of its own.
use Rattle.std.specs.Prelude.{◌≡◌, ◌≢◌, ℕ, All}
use Rattle.vol_types.specs.KeyMaps.{KeyMap}
use Rattle.key_meaning.specs.Blocks.{block_in}
use Rattle.key_meaning.specs.Forest.{inode_in, links_in}

-- The first key map shows in an id the inodes, names and blocks that the second one shows in another.
pub record ShowAlike (one : KeyMap) (id : ℕ) (other : KeyMap) (another : ℕ) : Type 0 where
  pub inodes : (number : ℕ) → inode_in one id number ≡ inode_in other another number
  pub names : (directory slot : ℕ) → links_in one id directory slot ≡ links_in other another directory slot
  pub blocks : (file block : ℕ) → block_in one id file block ≡ block_in other another file block

-- Both key maps have the same keys of files.
pub record HaveSameFiles (one other : KeyMap) : Type 0 where
  pub extents : one.extents ≡ other.extents
  pub inodes : one.inodes ≡ other.inodes
  pub dirents : one.dirents ≡ other.dirents

-- No key of a file is of the id.
pub record HasNoKeys (keys : KeyMap) (id : ℕ) : Type 0 where
  pub extents : All (λ entry. entry.0.snapshot ≢ id) keys.extents
  pub inodes : All (λ entry. entry.0.snapshot ≢ id) keys.inodes
  pub dirents : All (λ entry. entry.0.snapshot ≢ id) keys.dirents
