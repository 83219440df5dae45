-- An entry of the journal that is written: which of its parts stand, and what stands whole on one metadata device meanwhile.
use Rattle.std.specs.Prelude.{◌≡◌, ◌≢◌, ℕ, ◌+◌, ◌<◌, List, [], length, All, Some, Ok, slice_index_or}
use Rattle.dev_model.specs.Disk.{Image}
use Rattle.image_view.specs.Bases.{AgreeOnBase, AgreeOnNodes}
use Rattle.image_view.specs.Found.{Found, IsInOrder, found}
use Rattle.image_view.specs.NextEntries.{AreNumberedBelow, AreOldOrNext}
use Rattle.image_view.specs.Trees.{nodes_of}
use Rattle.journal_ring.specs.Parts.{area_of, numbered}
use Rattle.vol_types.specs.declared.layout.Layout.{Layout}
use Rattle.crash_safety.specs.Writings.{IsWriting, Writing, after}
use Rattle.mirror_laws.specs.Degraded.{IsOfMetadata}
use Rattle.mirror_laws.specs.Standing.{NodeStandsOn, StandsWholeOn}

-- Each of these blocks stands on this metadata device, under the numbers from this one on.
abbrev pub PartsStandOn : Layout → ℕ → Image → ℕ → List (List ℕ) → Type 0
PartsStandOn layout mirror image number blocks = (p : ℕ) → p < length blocks → numbered layout (area_of image) mirror (number + p) ≡ Some (slice_index_or blocks p [])

-- Each of them stands on some metadata device.
abbrev pub PartsStand : Layout → Image → ℕ → List (List ℕ) → Type 0
PartsStand layout image number blocks = (p : ℕ) → p < length blocks → (dev : ℕ) × (dev < layout.metadata_replicas) × (numbered layout (area_of image) dev (number + p) ≡ Some (slice_index_or blocks p []))

-- No other metadata device shows a block of the journal in its area.
abbrev pub AreJournalsLost : Layout → ℕ → Image → Type 0
AreJournalsLost layout mirror image = (dev place : ℕ) → dev < layout.metadata_replicas → dev ≢ mirror → place < layout.journal → ¬ IsOfMetadata (area_of image dev place)

-- This is found in the image, in order.
pub record IsFoundIn (f : Found) (image : Image) : Type 0 where
  pub finds : found image ≡ Ok f
  pub in_order : IsInOrder f image

-- The second image is left of the first one, in which this was found in order, while an entry is written: it agrees on the base of what was
-- found and on the nodes of the entry, and in its journal areas nothing opens but what stood there and blocks of the entry.
pub record IsLeftWriting (f : Found) (w : Writing) (image other : Image) : Type 0 where
  pub before : IsFoundIn f image
  pub numbered : AreNumberedBelow f.layout f.session f.last.end (area_of image)
  pub is : IsWriting f image w
  pub base : AgreeOnBase f image other
  pub nodes : AgreeOnNodes (after w f) image other
  pub blocks : AreOldOrNext f.layout w.next w.blocks image other

-- What was found stands whole on this metadata device, and so do the nodes of the entry that is written.
pub record StandsWriting (f : Found) (w : Writing) (mirror : ℕ) (image : Image) : Type 0 where
  pub found : StandsWholeOn f mirror image
  pub next : All (NodeStandsOn (after w f) mirror image) (nodes_of w.trees.nodes)
