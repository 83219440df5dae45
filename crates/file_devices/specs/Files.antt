-- What an open image file holds, and what each of its calls does to it. Its blocks are its whole pieces of 4,096 bytes.
use Rattle.std.specs.Prelude.{◌≡◌, ◌⊎◌, ℕ, ◌+◌, ◌*◌, ◌^◌, ◌≤◌, Bool, true, List, Result, MatchResult, IsErr}
use Rattle.dev_model.specs.Disk.{Disk, IsBlock, after_write, extended}

-- a file's blocks at each moment, as a disk: as they are read, as they were last settled, and what was asked for since
abbrev pub Story : Type 0
Story = ℕ → Disk

-- What a file tells: its blocks at each moment, how many bytes it holds behind them, whether its lock can be had, and whether this
-- program has it.
pub record FileState : Type 0 where
  pub story : Story
  pub rest : ℕ
  pub free : Bool
  pub locked : Bool

-- Since this moment nothing has changed.
pub record IsStill (story : Story) (moment : ℕ) : Type 0 where
  pub since : (m : ℕ) → moment ≤ m → story m ≡ story moment

-- A call that begins at this moment takes two of them. Inside it, and where it fails, the blocks are `partly` what they are where it
-- succeeds, `wholly`. What was, stays. At the end of the moments it fails, and changes nothing.
pub record ChangesFile {T E : Type 0} (result : Result T E) (partly wholly : Disk → Type 0) (moment : ℕ) (old new : Story) : Type 0 where
  pub past : (m : ℕ) → m ≤ moment → new m ≡ old m
  pub inside : partly (new (moment + 1))
  pub after : MatchResult result (λ _. wholly (new (moment + 2))) (λ _. partly (new (moment + 2)))
  pub still : IsStill new (moment + 2)
  pub late : 2 ^ 64 ≤ moment + 3 → IsErr result
  pub ends : 2 ^ 64 ≤ moment + 3 → IsStill new moment

-- All but the blocks stays.
pub record SameBeside (old new : FileState) : Type 0 where
  pub rest : new.rest ≡ old.rest
  pub locked : new.locked ≡ old.locked

-- A file may be called at this moment: this program has its lock, and it was left alone since then.
pub record IsReady (state : FileState) (moment : ℕ) : Type 0 where
  pub locked : state.locked ≡ true
  pub still : IsStill state.story moment

-- A call of a file that tells.
pub record IsFileCall {T E : Type 0} (result : Result T E) (partly wholly : Disk → Type 0) (moment : ℕ) (old new : FileState) : Type 0 where
  pub changes : ChangesFile result partly wholly moment old.story new.story
  pub beside : SameBeside old new

-- the disk is this
abbrev pub IsDiskNow : Disk → Disk → Type 0
IsDiskNow disk new = new ≡ disk

-- a write that isn't done: not begun, or the block is pending, and read as unknown bytes
abbrev pub MayHold : ℕ → List ℕ → Disk → Disk → Type 0
MayHold block bytes disk new = (new ≡ disk) ⊎ ((left : List ℕ) × IsBlock left × (new ≡ after_write block bytes left disk))

-- an extension that isn't done: some length up to the new one, and no shorter than it was
abbrev pub MayReach : ℕ → Disk → Disk → Type 0
MayReach size disk new = (some : ℕ) × (some ≤ size) × (new ≡ extended some disk)

-- So many bytes from this place on are a whole block.
pub record IsWhole (place bytes : ℕ) : Type 0 where
  pub block : ℕ
  pub offset : place ≡ block * 4096
  pub size : bytes ≡ 4096
