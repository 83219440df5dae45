-- When blocks are the parts of one record, and which fault is the first where they aren't.
use Rattle.std.specs.Prelude.{◌≡◌, ◌≢◌, ℕ, ◌+◌, ◌/◌, ◌<◌, ◌⊎◌, List, [], length, Some, None, Result, Err, slice_index_or}
use Rattle.std.specs.List.{flat_map}
use Rattle.std.specs.Simd.{first_chunks}
use Rattle.sha2.specs.Sha256.{sha256}
use Rattle.sealed_block.specs.declared.heads.Head.{Head}
use Rattle.sealed_block.specs.declared.records.JoinFault.{JoinFault}
use Rattle.sealed_block.specs.declared.records.JoinFault.TheVariants.{NotSealed, Foreign, Digest, NoMemory}
use Rattle.sealed_block.specs.Opening.{opened, payload_in}

-- the bytes, cut into blocks
abbrev pub blocks_of : List ℕ → List (List ℕ)
blocks_of bytes = first_chunks 4096 (length bytes / 4096) bytes

-- block p of the blocks
abbrev pub block_at : List (List ℕ) → ℕ → List ℕ
block_at blocks p = slice_index_or blocks p []

-- The two heads are of one record.
pub record IsOfRecord (first h : Head) : Type 0 where
  pub kind : h.kind ≡ first.kind
  pub version : h.version ≡ first.version
  pub parts : h.parts ≡ first.parts
  pub id : h.id ≡ first.id
  pub owner : h.owner ≡ first.owner
  pub sequence : h.sequence ≡ first.sequence
  pub whole : h.whole ≡ first.whole

-- The head is that of part p of the record whose part 0 has the first head. Every part but the last is full, and none is empty.
pub record Continues (first : Head) (p : ℕ) (h : Head) : Type 0 where
  pub record_is : IsOfRecord first h
  pub part : h.part ≡ p
  pub number : h.number ≡ first.number + p
  pub filled : 0 < h.length
  pub full : p + 1 < first.parts → h.length ≡ 3968

-- Block p opens as part p of the record that block 0 begins.
pub record IsPart (blocks : List (List ℕ)) (p : ℕ) : Type 0 where
  pub first : Head
  pub head : Head
  pub begins : opened (block_at blocks 0) ≡ Some first
  pub opens : opened (block_at blocks p) ≡ Some head
  pub continues : Continues first p head

-- The blocks before block p are the parts before part p of one record.
abbrev pub ArePartsBelow : List (List ℕ) → ℕ → Type 0
ArePartsBelow blocks p = (k : ℕ) → k < p → IsPart blocks k

-- The blocks are all the parts of one record, in their order, whatever its digest.
pub record AreAllParts (blocks : List (List ℕ)) (first : Head) : Type 0 where
  pub begins : opened (block_at blocks 0) ≡ Some first
  pub count : length blocks ≡ first.parts
  pub parts : ArePartsBelow blocks first.parts

-- The blocks are the parts of one record with this payload, which has the digest that their heads name.
pub record IsRecord (blocks : List (List ℕ)) (payload : List ℕ) : Type 0 where
  pub first : Head
  pub parts : AreAllParts blocks first
  pub joined : payload ≡ flat_map payload_in blocks
  pub digest : sha256 payload ≡ first.whole

-- Block p opens, and its head doesn't continue that of block 0.
pub record IsForeign (blocks : List (List ℕ)) (p : ℕ) : Type 0 where
  pub first : Head
  pub head : Head
  pub begins : opened (block_at blocks 0) ≡ Some first
  pub opens : opened (block_at blocks p) ≡ Some head
  pub breaks : Continues first p head → ⊥

-- The blocks end at p, and the head of block 0 names more parts.
pub record IsMissing (blocks : List (List ℕ)) (p : ℕ) : Type 0 where
  pub first : Head
  pub begins : opened (block_at blocks 0) ≡ Some first
  pub ends : p ≡ length blocks
  pub wanted : p < first.parts

-- The joined payloads have another digest than the head of block 0 names.
pub record HasOtherDigest (blocks : List (List ℕ)) : Type 0 where
  pub first : Head
  pub parts : AreAllParts blocks first
  pub differs : sha256 (flat_map payload_in blocks) ≢ first.whole

-- This is the first fault of the blocks as parts of one record. Running out of memory isn't one.
abbrev pub IsFirstFault : List (List ℕ) → JoinFault → Type 0
IsFirstFault blocks (NotSealed p) = ArePartsBelow blocks p × (p < length blocks) × (opened (block_at blocks p) ≡ None)
IsFirstFault blocks (Foreign p) = ArePartsBelow blocks p × (((p < length blocks) × IsForeign blocks p) ⊎ IsMissing blocks p)
IsFirstFault blocks Digest = HasOtherDigest blocks
IsFirstFault blocks NoMemory = ⊥

-- The result is this one, or memory ran out.
abbrev pub IsUnlessNoMemory : Result (List ℕ) JoinFault → Result (List ℕ) JoinFault → Type 0
IsUnlessNoMemory result expected = (result ≡ expected) ⊎ (result ≡ Err NoMemory)
