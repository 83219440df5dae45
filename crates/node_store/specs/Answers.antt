-- What reading a node gives, also where reads fail.
use Rattle.std.specs.Prelude.{◌≡◌, ◌↔◌, ◌⊎◌, ℕ, ◌+◌, ◌≤◌, ◌<◌, false, ⊤, List, Contains, Option, Some, None, option_map, slice_get, slice_index_or, Result, Ok, Err, IfOk}
use Rattle.std.specs.List.{AllZip}
use Rattle.record_codec.specs.declared.sets.SetHead.{SetHead}
use Rattle.vol_types.specs.declared.pointers.NodePtr.{NodePtr}
use Rattle.vol_types.specs.declared.pointers.Place.{Place}
use Rattle.vol_types.specs.Faults.{RoseBy}
use Rattle.node_store.specs.declared.fault.NodeFault.{NodeFault}
use Rattle.node_store.specs.declared.fault.NodeFault.TheVariants as nodes
use Rattle.node_store.specs.declared.fault.SetFault.{SetFault}
use Rattle.node_store.specs.declared.fault.SetFault.TheVariants.{BadBlock, NoMemory}
use Rattle.node_store.specs.declared.opening.OpenBlock.{OpenBlock}
use Rattle.node_store.specs.declared.reading.ReadNode.{ReadNode}
use Rattle.dev_model.specs.Devices.{FaultCounts}
use Rattle.geometry.specs.Faults.{DeviceFailed, SomeFailed}
use Rattle.sealed_block.specs.declared.heads.Head.{Head}
use Rattle.node_store.specs.Copies.{block_in}
use Rattle.node_store.specs.FailedReads.{IsUnreadAt, lacking_on}
use Rattle.node_store.specs.StoredSets.{Copies}
use Rattle.node_store.specs.NodeContents.{content_in}

-- The result, seen by view, is what is expected, or it is out of memory.
abbrev pub Gives : {X Y : Type 0} → (X → Y) → Result X SetFault → Result Y ℕ → Type 0
Gives view (Ok x) expected = expected ≡ Ok (view x)
Gives view (Err (BadBlock n)) expected = expected ≡ Err n
Gives view (Err NoMemory) expected = ⊤

-- A copy was seen: from this block on as it is, and before it as it is but for blocks that couldn't be read.
pub record IsSeenFrom (from : ℕ) (copy seen : List (Option OpenBlock)) : Type 0 where
  pub later : (n : ℕ) → from ≤ n → block_in seen n ≡ block_in copy n
  pub each : (n : ℕ) → (block_in seen n ≡ block_in copy n) ⊎ (block_in seen n ≡ None)

-- Reads failed where a device is named: it was named before, or has failed in between. Where none is named, none was and none failed.
abbrev pub AreCauses : Option ℕ → Option ℕ → FaultCounts → FaultCounts → Type 0
AreCauses before None old new = (before ≡ None) × (new ≡ old)
AreCauses before (Some dev) old new = (before ≡ Some dev) ⊎ DeviceFailed dev old new

-- The copies were seen so.
abbrev pub AreSeenFrom : ℕ → Copies → Copies → Type 0
AreSeenFrom from copies seen = AllZip (IsSeenFrom from) copies seen

-- Of each device no more blocks lack in the copies, as they were seen, than reads of it failed.
abbrev pub LackNoMore : FaultCounts → FaultCounts → List Place → Copies → Copies → Type 0
LackNoMore old new places copies seen = (dev : ℕ) → RoseBy (lacking_on dev places copies seen) (slice_index_or old.calls dev 0) (slice_index_or new.calls dev 0)

-- All copies show the same in each block before this one.
abbrev pub AreAlike : ℕ → Copies → Type 0
AreAlike end copies = (one other : List (Option OpenBlock)) → Contains copies one → Contains copies other → (n : ℕ) → n < end → block_in one n ≡ block_in other n

-- The node was read of copies as they were seen, and these lack nothing but what couldn't be read, and nothing behind the sets. It
-- is ragged where the copies don't all show the same up to the end of the sets.
pub record IsReadAs (old new : FaultCounts) (id : List ℕ) (wanted : SetHead) (ptr : NodePtr) (copies : Copies) (read : ReadNode) : Type 0 where
  pub seen : Copies
  pub shown : AreSeenFrom read.end copies seen
  pub all : (seen ≡ copies) ⊎ SomeFailed old new
  pub few : LackNoMore old new ptr.places copies seen
  pub content : content_in seen id wanted ≡ Ok (record { entries = read.node.entries; end = read.end })
  pub ragged : (read.ragged ≡ false) ↔ AreAlike read.end seen

-- block n of a node's bucket on its first place
abbrev pub first_place : NodePtr → ℕ → Option Place
first_place ptr n = option_map (λ place. record { dev = place.dev; block = place.block + n }) (slice_get ptr.places 0)

-- The node at block n of whose bucket a fault shows, which this place names.
pub record IsBadAt (id : List ℕ) (wanted : SetHead) (ptr : NodePtr) (copies : Copies) (place : Place) : Type 0 where
  pub block : ℕ
  pub content : content_in copies id wanted ≡ Err block
  pub named : first_place ptr block ≡ Some place

-- A block couldn't be read that the node lacks, at a place of this device: of the copies as they were seen no node comes, or one
-- whose sets end before this block or at it. The copies lack nothing but what couldn't be read, and nothing behind this block.
pub record IsUnread (old new : FaultCounts) (id : List ℕ) (wanted : SetHead) (ptr : NodePtr) (copies : Copies) (dev : ℕ) : Type 0 where
  pub seen : Copies
  pub block : ℕ
  pub shown : AreSeenFrom (block + 1) copies seen
  pub few : LackNoMore old new ptr.places copies seen
  pub unread : IsUnreadAt ptr.places seen (record { block = block; dev = dev })
  pub lacks : IfOk (content_in seen id wanted) (λ content. content.end ≤ block)

-- The answer is what the copies of the node's bucket hold, or else that can't be told since a device failed, or it was out of memory.
abbrev pub IsNodeAnswer : FaultCounts → FaultCounts → List ℕ → SetHead → NodePtr → Copies → Result ReadNode NodeFault → Type 0
IsNodeAnswer old new id wanted ptr copies (Ok read) = IsReadAs old new id wanted ptr copies read
IsNodeAnswer old new id wanted ptr copies (Err (nodes.BadNode place)) = IsBadAt id wanted ptr copies place
IsNodeAnswer old new id wanted ptr copies (Err (nodes.DeviceFault dev)) = IsUnread old new id wanted ptr copies dev
IsNodeAnswer old new id wanted ptr copies (Err nodes.NoMemory) = ⊤

-- The head is that of a block of one of the node's sets.
pub record IsOfNode (id : List ℕ) (birth : ℕ) (head : Head) : Type 0 where
  pub kind : head.kind ≡ 3
  pub volume : head.id ≡ id
  pub owner : head.owner ≡ birth

-- The copies agree on the node: no two of them show different blocks of it at one block number.
abbrev pub AgreeOn : List ℕ → ℕ → Copies → Type 0
AgreeOn id birth copies =
    (n : ℕ) (one other : List (Option OpenBlock)) → Contains copies one → Contains copies other
    → (x y : OpenBlock) → block_in one n ≡ Some x → block_in other n ≡ Some y → IsOfNode id birth x.head → IsOfNode id birth y.head → x ≡ y
