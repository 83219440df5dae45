-- The ring of journal block numbers as its writer keeps it.
use Rattle.std.specs.Prelude.{◌≢◌, ℕ, ◌+◌, ◌-◌, ◌<◌, ◌≤◌, List, [], length, slice_index_or}
use Rattle.dev_model.specs.Devices.{IsPlace}
use Rattle.dev_model.specs.Disk.{Image}
use Rattle.geometry.specs.Mirrors.{IsMirror, IsMirrorBlock}
use Rattle.vol_types.specs.declared.layout.Layout.{Layout}
use Rattle.journal_ring.specs.EntryBlocks.{HoldBlocks, ring_block}

-- the volume's id, its metadata devices and the blocks of its journal area; the next journal block number; the first needed one; the blocks
-- of the entry in flight, which end before the next number, and how many of them are written
pub record RingState : Type 0 where
  pub id : List ℕ
  pub mirrors : ℕ
  pub journal : ℕ
  pub next : ℕ
  pub first : ℕ
  pub blocks : List (List ℕ)
  pub written : ℕ

-- a ring without an entry in flight
abbrev pub ring_of : Layout → ℕ → ℕ → RingState
ring_of layout next first = record {
  id = layout.id;
  mirrors = layout.metadata_replicas;
  journal = layout.journal;
  next = next;
  first = first;
  blocks = [];
  written = 0;
}

-- how many blocks are kept: from the first needed number to the next one
abbrev pub used : RingState → ℕ
used ring = ring.next - ring.first

-- the number of part 0 of the entry in flight
abbrev pub flight_number : RingState → ℕ
flight_number ring = ring.next - length ring.blocks

-- the number of the part that is written next
abbrev pub part_number : RingState → ℕ
part_number ring = flight_number ring + ring.written

-- its block of each metadata device
abbrev pub part_place : RingState → ℕ
part_place ring = ring_block ring.journal (part_number ring)

-- its bytes
abbrev pub part_bytes : RingState → List ℕ
part_bytes ring = slice_index_or ring.blocks ring.written []

-- the ring with this entry in flight
abbrev pub with_flight : List (List ℕ) → RingState → RingState
with_flight blocks ring = record ring { next = ring.next + length blocks; blocks = blocks; written = 0 }

-- the ring after the next part was written
abbrev pub with_part : RingState → RingState
with_part ring = record ring { written = ring.written + 1 }

-- the ring without an entry in flight, and with this first needed number
abbrev pub with_first : ℕ → RingState → RingState
with_first oldest ring = record ring { first = oldest; blocks = []; written = 0 }

-- the places of the part that is written next
abbrev pub IsPartPlace : RingState → ℕ → ℕ → Type 0
IsPartPlace ring dev block = IsMirror ring.mirrors (part_place ring) dev block

-- its bytes at those places, and no other block
abbrev pub IsPartAsked : RingState → ℕ → ℕ → List ℕ → Type 0
IsPartAsked ring dev block bytes = IsMirrorBlock ring.mirrors (part_place ring) (part_bytes ring) dev block bytes

-- The image has the first so many parts of the entry in flight on each metadata device.
abbrev pub HoldsParts : RingState → ℕ → Image → Type 0
HoldsParts ring count image = HoldBlocks ring.mirrors ring.journal (flight_number ring) ring.blocks count image

-- The place of a number is that of no other number from the first needed one up to it: nothing that is needed is written over.
abbrev pub IsClear : RingState → ℕ → Type 0
IsClear ring number = (needed : ℕ) → ring.first ≤ needed → needed < number → ring_block ring.journal needed ≢ ring_block ring.journal number

-- What the ring keeps: the sizes of a layout, the order of its numbers, and an entry in flight that fits behind what is needed.
pub record IsRing (ring : RingState) : Type 0 where
  pub journal_least : 256 ≤ ring.journal
  pub journal_most : ring.journal ≤ 4096
  pub mirrored : 1 ≤ ring.mirrors
  pub mirrors_few : ring.mirrors ≤ 3
  pub order : ring.first + length ring.blocks ≤ ring.next
  pub few : length ring.blocks ≤ 64
  pub written : ring.written ≤ length ring.blocks
  pub fits : 0 < length ring.blocks → used ring ≤ ring.journal

-- Each of the first so many devices has a journal area of so many blocks.
pub record HaveArea (sizes : List ℕ) (mirrors journal : ℕ) : Type 0 where
  pub mirrors_there : mirrors ≤ length sizes
  pub places : (dev place : ℕ) → dev < mirrors → place < journal → IsPlace sizes dev (16 + place)
