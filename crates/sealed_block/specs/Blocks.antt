-- The form of a sealed block: 4,096 bytes, which are a head of 96, a payload of up to 3,968 with zeros after it, and the digest of all that.
use Rattle.std.specs.Prelude.{◌≡◌, ℕ, ◌-◌, ◌^◌, ◌<◌, ◌≤◌, List, [], ◌∷◌, ◌++◌, length, All, codes, replicate}
use Rattle.std.specs.Int.{w16, w32, w64, IsInRange, to_le_bytes}
use Rattle.sha2.specs.Sha256.{sha256}
use Rattle.sealed_block.specs.declared.heads.Head.{Head}

-- Each element is a byte.
abbrev pub AreBytes : List ℕ → Type 0
AreBytes bytes = All (λ b. b < 256) bytes

-- The fields of the head have the widths of the format, as those of each head in the code have.
pub record HasWidths (h : Head) : Type 0 where
  pub id : length h.id ≡ 16
  pub id_bytes : AreBytes h.id
  pub owner : h.owner < 2 ^ 64
  pub number : h.number < 2 ^ 64
  pub sequence : h.sequence < 2 ^ 64
  pub whole : length h.whole ≡ 32
  pub whole_bytes : AreBytes h.whole

-- The head's fields are in the ranges of the format: of the four kinds, a version that isn't 0, one of at most 64 parts, and a payload that fits a block.
pub record IsInRanges (h : Head) : Type 0 where
  pub kind : IsInRange 1 4 h.kind
  pub version : IsInRange 1 255 h.version
  pub part : h.part < h.parts
  pub parts : h.parts ≤ 64
  pub length : h.length ≤ 3968

-- the first 96 bytes of a block: the head's fields after the magic
unfoldable pub head_bytes : Head → List ℕ
head_bytes h =
    codes "bvolseal"
    ++ h.kind ∷ h.version ∷ 0 ∷ 0 ∷ []
    ++ to_le_bytes w16 h.part ++ to_le_bytes w16 h.parts
    ++ h.id
    ++ to_le_bytes w64 h.owner ++ to_le_bytes w64 h.number ++ to_le_bytes w64 h.sequence
    ++ to_le_bytes w32 h.length ++ 0 ∷ 0 ∷ 0 ∷ 0 ∷ []
    ++ h.whole

-- the first 4,064 bytes of a block, which its digest covers: the head, the payload and zeros
unfoldable pub covered : Head → List ℕ → List ℕ
covered h payload = head_bytes h ++ payload ++ replicate (3968 - length payload) 0

-- the block with this head and this payload
unfoldable pub encoding : Head → List ℕ → List ℕ
encoding h payload = covered h payload ++ sha256 (covered h payload)

-- The block is sealed, with this head and this payload. The digest of the whole record isn't judged.
pub record Opens (block : List ℕ) (h : Head) (payload : List ℕ) : Type 0 where
  pub widths : HasWidths h
  pub ranges : IsInRanges h
  pub bytes : AreBytes payload
  pub fills : length payload ≡ h.length
  pub encoded : block ≡ encoding h payload
