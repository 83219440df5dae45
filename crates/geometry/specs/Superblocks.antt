-- The superblocks of a volume: two copies on each device, in blocks 0 and 8, and the layout that they name together.
use Rattle.std.specs.Prelude.{◌≡◌, ℕ, suc, ◌+◌, ◌*◌, ◌/◌, ◌^◌, Bool, true, not, ◌&&◌, ◌||◌, ◌==◌, nat_lt, if◌then◌else◌, List, [], ◌∷◌, ◌++◌, length, map, drop, find, slice_get, slice_index, Option, Some, None, option_and_then, Result, Ok, Err}
use Rattle.std.specs.Option.{option_map, unwrap_or}
use Rattle.std.specs.Int.{w32, to_le_bytes, from_le_bytes}
use Rattle.std.specs.List.{flat_map, list_all}
use Rattle.std.specs.Str.{bytes_eq}
use Rattle.std.specs.Simd.{first_chunks}
use Rattle.sha2.specs.Sha256.{sha256}
use Rattle.sealed_block.specs.declared.heads.Head.{Head}
use Rattle.sealed_block.specs.Blocks.{encoding}
use Rattle.sealed_block.specs.Opening.{field, opened, payload_in}
use Rattle.dev_model.specs.Disk.{Image}
use Rattle.vol_types.specs.declared.layout.Layout.{Layout}
use Rattle.geometry.specs.Layouts.{is_layout_of}
use Rattle.geometry.specs.declared.copies.SuperCopy.{SuperCopy}
use Rattle.geometry.specs.declared.fault.SuperFault.{SuperFault}
use Rattle.geometry.specs.declared.fault.SuperFault.TheVariants.{NoSuper, Version, Mixed, BadLayout, DeviceFault, NoMemory}

-- the payload of a device's superblock: how many devices there are, its own number, the replicas of metadata and of data, the
-- length of the journal area, and the number of blocks of each device
abbrev pub super_payload : Layout → ℕ → List ℕ
super_payload layout dev = length layout.blocks ∷ dev ∷ layout.metadata_replicas ∷ layout.data_replicas ∷ to_le_bytes w32 layout.journal ++ flat_map (to_le_bytes w32) layout.blocks

-- the head of the copy in this block, with this sequence
abbrev pub super_head : Layout → ℕ → ℕ → ℕ → Head
super_head layout dev block sequence = record {
  kind = 1;
  version = 1;
  part = 0;
  parts = 1;
  id = layout.id;
  owner = dev;
  number = block;
  sequence = sequence;
  length = length (super_payload layout dev);
  whole = sha256 (super_payload layout dev);
}

-- the bytes of that copy
unfoldable pub super_block : Layout → ℕ → ℕ → ℕ → List ℕ
super_block layout dev block sequence = encoding (super_head layout dev block sequence) (super_payload layout dev)

-- a copy of a superblock: its head and its payload
abbrev pub Copy : Type 0
Copy = SuperCopy

-- the copy of a layout in this block of a device, with this sequence
abbrev pub super_copy : Layout → ℕ → ℕ → ℕ → Copy
super_copy layout dev block sequence = record { head = super_head layout dev block sequence; payload = super_payload layout dev }

-- it is the head of a copy in this block, with this payload; a sequence of 2^63 or more doesn't count
abbrev pub is_copy_head : ℕ → List ℕ → Head → Bool
is_copy_head block payload head =
    head.kind == 1 && head.part == 0 && head.parts == 1 && head.number == block && nat_lt head.sequence (2 ^ 63) && bytes_eq head.whole (sha256 payload)

-- the copy that a block's bytes hold, if they hold one
unfoldable pub copy_in : ℕ → List ℕ → Option Copy
copy_in block bytes = option_and_then (λ head. if is_copy_head block (payload_in bytes) head then Some (record { head = head; payload = payload_in bytes }) else None) (opened bytes)

-- the copy in this block of a device
abbrev pub copy_at : ℕ → List (List ℕ) → Option Copy
copy_at block blocks = option_and_then (copy_in block) (slice_get blocks block)

-- the later of two copies: the one with the greater sequence, the first where they have the same
abbrev pub later : Option Copy → Option Copy → Option Copy
later None second = second
later (Some first) None = Some first
later (Some first) (Some second) = if nat_lt first.head.sequence second.head.sequence then Some second else Some first

-- the copy that counts on a device, if there is one
abbrev pub counting : List (List ℕ) → Option Copy
counting blocks = later (copy_at 0 blocks) (copy_at 8 blocks)

-- all members, where each is there
abbrev pub all_there : {A : Type 0} → List (Option A) → Option (List A)
all_there [] = Some []
all_there (None ∷ rest) = None
all_there (Some x ∷ rest) = option_map (λ xs. x ∷ xs) (all_there rest)

-- the payload has the length that its own number of devices asks for
abbrev pub has_form : List ℕ → Bool
has_form payload = length payload == 8 + 4 * slice_index payload 0

-- the numbers of four bytes each
abbrev pub numbers_in : List ℕ → List ℕ
numbers_in bytes = map (from_le_bytes w32) (first_chunks 4 (length bytes / 4) bytes)

-- the layout that a copy names
unfoldable pub named_layout : Copy → Layout
named_layout copy = record {
  id = copy.head.id;
  blocks = numbers_in (drop 8 copy.payload);
  journal = from_le_bytes w32 (field copy.payload 4 4);
  metadata_replicas = slice_index copy.payload 2;
  data_replicas = slice_index copy.payload 3;
}

-- both layouts are of one volume and lie alike
abbrev pub is_same_layout : Layout → Layout → Bool
is_same_layout one other =
    bytes_eq one.id other.id && bytes_eq one.blocks other.blocks && one.journal == other.journal && one.metadata_replicas == other.metadata_replicas && one.data_replicas == other.data_replicas

-- A copy belongs to this device of a volume of so many devices with this layout. Of a payload of another form its head
-- alone is judged.
abbrev pub belongs : ℕ → Layout → ℕ → Copy → Bool
belongs devices layout dev copy =
    bytes_eq copy.head.id layout.id && copy.head.owner == dev
    && (not (has_form copy.payload) || (slice_index copy.payload 0 == devices && slice_index copy.payload 1 == dev && is_same_layout (named_layout copy) layout))

-- each copy belongs to its device, the first to this one
abbrev pub belong_from : ℕ → Layout → ℕ → List Copy → Bool
belong_from devices layout dev [] = true
belong_from devices layout dev (copy ∷ copies) = belongs devices layout dev copy && belong_from devices layout (suc dev) copies

-- the layout that the first copy with a payload of the form names, or the first copy where none has one
abbrev pub model_layout : Copy → List Copy → Layout
model_layout first copies = named_layout (unwrap_or (find (λ copy. has_form copy.payload) (first ∷ copies)) first)

-- what the copies that count say together, on devices of these sizes: the first fault in this order, or the layout
abbrev pub judged : List ℕ → List Copy → Result Layout SuperFault
judged sizes [] = Err NoSuper
judged sizes (first ∷ copies) =
    let layout : Layout = model_layout first copies in
    if not (list_all (λ copy. copy.head.version == 1) (first ∷ copies)) then Err Version
    else if not (belong_from (length sizes) layout 0 (first ∷ copies)) then Err Mixed
    else if not (list_all (λ copy. has_form copy.payload) (first ∷ copies) && is_layout_of sizes layout) then Err BadLayout
    else Ok layout

-- what they say where each device has one
abbrev pub judged_if_there : List ℕ → Option (List Copy) → Result Layout SuperFault
judged_if_there sizes None = Err NoSuper
judged_if_there sizes (Some copies) = judged sizes copies

-- the layout of the volume that an image holds, or why it holds none
unfoldable pub layout_in : Image → Result Layout SuperFault
layout_in image = judged_if_there (map (λ blocks. length blocks) image) (all_there (map counting image))

-- The answer is this one, or else a device failed or it was out of memory.
abbrev pub IsSuperAnswer : Result Layout SuperFault → Result Layout SuperFault → Type 0
IsSuperAnswer (Err (DeviceFault dev)) expected = Unit {0}
IsSuperAnswer (Err NoMemory) expected = Unit {0}
IsSuperAnswer found expected = found ≡ expected
