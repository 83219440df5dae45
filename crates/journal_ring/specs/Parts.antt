-- How the parts of one record are taken from the journal areas of several devices.
use Rattle.std.specs.Prelude.{◌≡◌, ℕ, zero, suc, ◌+◌, ◌%◌, ◌<◌, if◌then◌else◌, List, [], ◌++◌, Option, Some, None, option_and_then}
use Rattle.sealed_block.specs.declared.heads.Head.{Head}
use Rattle.sealed_block.specs.Opening.{opened, payload_in}
use Rattle.sealed_block.specs.Parts.{continues}
use Rattle.dev_model.specs.Disk.{Image, block_at}
use Rattle.vol_types.specs.declared.layout.Layout.{Layout}

-- what each device holds at each place of its journal area
abbrev pub Area : Type 0
Area = ℕ → ℕ → Option (List ℕ)

-- the journal areas of an image: place 0 is block 16
abbrev pub area_of : Image → Area
area_of image dev place = block_at image dev (16 + place)

-- the areas of devices whose blocks these are
abbrev pub area_in : Image → Area
area_in blocks dev place = block_at blocks dev place

-- Two areas are the same on the metadata devices.
abbrev pub AreSame : Layout → Area → Area → Type 0
AreSame layout one other = (dev place : ℕ) → dev < layout.metadata_replicas → place < layout.journal → one dev place ≡ other dev place

-- what a device holds at the place of a journal block number: number n lies at place n mod J
abbrev pub numbered : Layout → Area → ℕ → ℕ → Option (List ℕ)
numbered layout area dev number = area dev (number % layout.journal)

-- the payload of a block that opens as part p of the record
abbrev pub part_in : Head → ℕ → List ℕ → Option (List ℕ)
part_in first p block = option_and_then (λ head. if continues first p head then Some (payload_in block) else None) (opened block)

-- the payload of part p as a device has it: at the place of its own number
abbrev pub part_on : Layout → Area → Head → ℕ → ℕ → Option (List ℕ)
part_on layout area first p dev = option_and_then (part_in first p) (numbered layout area dev (first.number + p))

-- the first of two, if it is there
abbrev pub first_of_two : {A : Type 0} → Option A → Option A → Option A
first_of_two None second = second
first_of_two (Some x) second = Some x

-- what the first of so many devices has, of those that have it
abbrev pub first_on : {A : Type 0} → (ℕ → Option A) → ℕ → Option A
first_on on zero = None
first_on on (suc dev) = first_of_two (first_on on dev) (on dev)

-- part p of the record: part 0 from the given device, each further one from the first metadata device that has it
abbrev pub part_of : Layout → Area → ℕ → Head → ℕ → Option (List ℕ)
part_of layout area dev first zero = part_on layout area first 0 dev
part_of layout area dev first (suc p) = first_on (part_on layout area first (suc p)) layout.metadata_replicas

-- bytes with the next ones behind them, where both are there
abbrev pub with_next : Option (List ℕ) → Option (List ℕ) → Option (List ℕ)
with_next None next = None
with_next (Some bytes) None = None
with_next (Some bytes) (Some next) = Some (bytes ++ next)

-- the joined payloads of the first so many parts, where all of them are there
abbrev pub joined : Layout → Area → ℕ → Head → ℕ → Option (List ℕ)
joined layout area dev first zero = Some []
joined layout area dev first (suc p) = with_next (joined layout area dev first p) (part_of layout area dev first p)
