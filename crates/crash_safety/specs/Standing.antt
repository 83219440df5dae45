-- What stands on the devices while the next entry of the journal is written.
use Rattle.std.specs.Prelude.{◌≡◌, ◌⊎◌, ℕ, ◌+◌, ◌<◌, ◌≤◌, List, length, All, IsTrue, Option, Some, None, IfSome, Ok, slice_index_or, ⊤}
use Rattle.dev_model.specs.Devices.{DevicesState, now}
use Rattle.dev_model.specs.Disk.{Disk, Image, IsCrashImage, IsDisk, as_read, block_at}
use Rattle.dev_model.specs.HeldBlocks.{HasNoChanceMatch, HaveHeld}
use Rattle.image_view.specs.Bases.{AgreeAt, AgreeOnBase, AgreeOnNodes}
use Rattle.image_view.specs.CrashEntries.{opens}
use Rattle.image_view.specs.Found.{Found, IsInOrder, found, node_places}
use Rattle.image_view.specs.NextEntries.{AreNumberedBelow}
use Rattle.journal_ring.specs.Parts.{area_of}
use Rattle.key_meaning.specs.Checks.{AreNodesPlaced}
use Rattle.replay.specs.Mending.{StandsOnAll}
use Rattle.vol_types.specs.declared.layout.Layout.{Layout}
use Rattle.crash_safety.specs.Writings.{AreNodesAlike, HoldParts, IsAsked, IsWriting, IsWritingBlock, Writing, after}

-- Two images agree on the base of what was found, and on the journal areas but at these places. All other places count for nothing.
pub record AgreesBut (f : Found) (places : ℕ → ℕ → Type 0) (image other : Image) : Type 0 where
  pub base : AgreeOnBase f image other
  pub journal : (dev place : ℕ) → dev < f.layout.metadata_replicas → place < f.layout.journal → ¬ places dev (16 + place) → AgreeAt image other dev (16 + place)

-- No torn block of the journal areas opens by chance in what was read from one moment to another.
abbrev pub AreReadsUntorn : Layout → ℕ → ℕ → DevicesState → Type 0
AreReadsUntorn layout first last state = (dev place : ℕ) → dev < layout.metadata_replicas → place < layout.journal → HasNoChanceMatch opens dev (16 + place) first last state

-- Of the blocks that the disks have held in the journal areas, each that opens stands there in the image, or it is one of the entry
-- that is written, at its place.
abbrev pub HoldKnown : Layout → Image → Option Writing → List Disk → Type 0
HoldKnown layout image writing disks =
    (dev place : ℕ) (bytes : List ℕ) → dev < layout.metadata_replicas → place < layout.journal → IsTrue (opens bytes) → HaveHeld disks dev (16 + place) bytes
    → (block_at image dev (16 + place) ≡ Some bytes) ⊎ IsWritingBlock layout writing dev (16 + place) bytes

-- Two images agree on the nodes of the entry that is written, if one is.
abbrev pub AgreeOnWriting : Found → Option Writing → Image → Image → Type 0
AgreeOnWriting f None image other = ⊤
AgreeOnWriting f (Some w) image other = AgreeOnNodes (after w f) image other

-- A crash leaves the nodes of the entry as they stand in the image.
abbrev pub AreNodesLeft : Found → Image → Option Writing → DevicesState → Type 0
AreNodesLeft f image writing state = (other : Image) → IsCrashImage (now state) other → AgreeOnWriting f writing image other

-- What stands on the devices now. This was found in the image that they held when the last durable entry became so, it is in order
-- there, and each needed entry stands there on every metadata device, as the nodes do. Of an entry that is written behind it so many parts were asked
-- for, of which so many stand, and a crash leaves its nodes. What a crash leaves agrees with the image but at the places of the parts that
-- were asked for. And where no torn block opens by chance in what was read from the first moment on, the disks have held no block of an
-- entry but of those that stand in the image and of the one that is written.
pub record StandsOn (f : Found) (image : Image) (writing : Option Writing) (asked written first : ℕ) (state : DevicesState) : Type 0 where
  pub finds : found image ≡ Ok f
  pub in_order : IsInOrder f image
  pub whole : (index : ℕ) → index < length f.needed → StandsOnAll f.layout image (slice_index_or f.needed index f.last)
  pub alike : AreNodesAlike f image writing
  pub placed : AreNodesPlaced (node_places f) f.layout
  pub numbered : AreNumberedBelow f.layout f.session f.last.end (area_of image)
  pub is : IfSome writing (IsWriting f image)
  pub few : IfSome writing (λ w. asked ≤ length w.blocks)
  pub begun : first ≤ state.moment
  pub disks : All IsDisk (now state)
  pub crashes : (other : Image) → IsCrashImage (now state) other → AgreesBut f (IsAsked f.layout writing asked) image other
  pub nodes : AreNodesLeft f image writing state
  pub held : AreReadsUntorn f.layout first state.moment state → HoldKnown f.layout image writing (now state)
  pub stand : HoldParts f.layout writing written (as_read (now state))

-- There were as many disks at each moment so far as there are devices.
abbrev pub AreSteady : DevicesState → Type 0
AreSteady state = (m : ℕ) → m ≤ state.moment → length (state.disks m) ≡ length state.sizes
