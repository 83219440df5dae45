-- What an image means that a crash left while the next entry is written: what was found, or that with the entry, in order.
use Rattle.std.proofs.Common.{◌≡◌, ◌⊎◌, inl, inr, ⊎_elim, ℕ, ◌+◌, ◌<◌, ◌≤◌, List, [], ◌∷◌, ◌++◌, length, drop, get_or, Option, Some, None, Ok, sym, ◌∙◌, arith}
use Rattle.std.specs.Prelude.{IfSome}
use Rattle.dev_model.specs.Crashes.{SameBut}
use Rattle.dev_model.specs.Disk.{Disk, Image}
use Rattle.image_view.specs.BaseLaws.{found-newest, found-same}
use Rattle.image_view.specs.Bases.{AgreeOnBase, AgreeOnNodes}
use Rattle.image_view.specs.CrashEntries.{OnlyHeldEntriesOpen}
use Rattle.image_view.specs.CopyLaws.{agree-same}
use Rattle.image_view.specs.Found.{Found, IsInOrder, found, node_places, sets_in, updates_of}
use Rattle.image_view.specs.Mends.{IsPlaceOf}
use Rattle.image_view.specs.NewNodes.{AreNodesInOrder}
use Rattle.image_view.specs.NextEntries.{AreNumberedBelow, HoldOldOrNext, IsNext, IsToldApart, IsWritten, with_entry}
use Rattle.image_view.specs.Trees.{TreesRead, nodes_of, trees_of}
use Rattle.journal_ring.specs.Counting.{needed_by, newest}
use Rattle.journal_ring.specs.Entries.{IsMadeOf}
use Rattle.journal_ring.specs.EntryBlocks.{AreEntryBlocks, parts_of, ring_block}
use Rattle.journal_ring.specs.Parts.{Area, AreSame, area_of}
use Rattle.journal_ring.specs.declared.found.FoundEntry.{FoundEntry}
use Rattle.key_meaning.specs.Checks.{AreNodesPlaced}
use Rattle.vol_types.specs.declared.layout.Layout.{Layout}
use Rattle.crash_safety.specs.Standing.{AgreeOnWriting, AgreesBut, HoldKnown}
use Rattle.crash_safety.specs.Writings.{IsAsked, IsWriting, Writing, after}
use Rattle.crash_safety.proofs.Images.{places_of, sizes}
use Rattle.crash_safety.proofs.InFlight.{FlightLaws}

-- What is said of images and of journals elsewhere.
pub record ImageLaws : Type 0 where
  pub base : (one other : Image) (f : Found) (passed : ℕ) (next : FoundEntry) (count : ℕ) → found one ≡ Ok f → IsInOrder f one → AreNodesPlaced (node_places f) f.layout → IsNext f passed next → count ≤ parts_of next.entry → sizes one ≡ sizes other
      → SameBut (IsPlaceOf f.layout next count) one other → AgreeOnBase f one other
  pub nodes : (one other : Image) (f : Found) (passed : ℕ) (next : FoundEntry) (trees : TreesRead) (count : ℕ) → found one ≡ Ok f → IsInOrder f one → IsNext f passed next → AreNodesPlaced (node_places (with_entry passed next trees f)) f.layout
      → count ≤ parts_of next.entry → sizes one ≡ sizes other → SameBut (IsPlaceOf f.layout next count) one other → AgreeOnNodes (with_entry passed next trees f) one other
  pub crashed : (one other : Image) (f : Found) (disks : List Disk) (passed : ℕ) (next : FoundEntry) (blocks : List (List ℕ)) (trees : TreesRead) → found one ≡ Ok f → IsInOrder f one → IsNext f passed next → AreEntryBlocks f.layout.id next.number next.entry blocks
      → AreNumberedBelow f.layout f.session f.last.end (area_of one) → HoldOldOrNext f.layout one next blocks disks → AgreeOnBase f one other → AgreeOnNodes (with_entry passed next trees f) one other → AreNodesInOrder (with_entry passed next trees f) one
      → OnlyHeldEntriesOpen f.layout disks other → trees_of (sets_in f.layout one) (updates_of (drop passed f.needed ++ next ∷ [])) next.entry.roots ≡ Ok trees
      → ((found other ≡ Ok f) × IsInOrder f other) ⊎ ((found other ≡ Ok (with_entry passed next trees f)) × IsInOrder (with_entry passed next trees f) other)
  pub written : (one other : Image) (f : Found) (passed : ℕ) (next : FoundEntry) (blocks : List (List ℕ)) (trees : TreesRead) → found one ≡ Ok f → IsInOrder f one → IsNext f passed next → AgreeOnBase f one other → AgreeOnNodes (with_entry passed next trees f) one other
      → IsWritten f.layout next blocks one other → IsToldApart f (area_of one) blocks → trees_of (sets_in f.layout one) (updates_of (drop passed f.needed ++ next ∷ [])) next.entry.roots ≡ Ok trees → found other ≡ Ok (with_entry passed next trees f)
  pub in_order : (one other : Image) (f : Found) (passed : ℕ) (next : FoundEntry) (blocks : List (List ℕ)) (trees : TreesRead) → found one ≡ Ok f → IsInOrder f one → IsNext f passed next → AgreeOnBase f one other → AgreeOnNodes (with_entry passed next trees f) one other
      → AreNodesInOrder (with_entry passed next trees f) one → IsWritten f.layout next blocks one other → IsToldApart f (area_of one) blocks → IsInOrder (with_entry passed next trees f) other
  pub numbers : (one other : Image) (f : Found) (passed : ℕ) (next : FoundEntry) (blocks : List (List ℕ)) → found one ≡ Ok f → IsNext f passed next → IsWritten f.layout next blocks one other → AreNumberedBelow f.layout f.session f.last.end (area_of one)
      → AreNumberedBelow f.layout f.session next.end (area_of other)
  pub same_newest : (layout : Layout) (one other : Area) → AreSame layout one other → newest layout one ≡ newest layout other
  pub same_needed : (layout : Layout) (one other : Area) (last : FoundEntry) → AreSame layout one other → needed_by layout one last ≡ needed_by layout other last
  pub same_made : (layout : Layout) (one other : Area) (found : FoundEntry) (blocks : List (List ℕ)) → 0 < layout.journal → AreSame layout one other → IsMadeOf layout one found blocks → IsMadeOf layout other found blocks
  pub ends : (image : Image) (f : Found) → found image ≡ Ok f → (index : ℕ) → index < length f.needed → (get_or f.needed index f.last).end ≡ (get_or f.needed index f.last).number + parts_of (get_or f.needed index f.last).entry
  pub flight : FlightLaws
  pub own_places : (journal number p q : ℕ) → 256 ≤ journal → p < 64 → q < 64 → ring_block journal (number + p) ≡ ring_block journal (number + q) → p ≡ q

-- The image means this, in order.
pub record IsMeant (f : Found) (image : Image) : Type 0 where
  pub finds : found image ≡ Ok f
  pub in_order : IsInOrder f image

-- It means what was found, or that with the entry that is written.
abbrev pub IsMeantBy : Found → Option Writing → Image → Type 0
IsMeantBy f None image = IsMeant f image
IsMeantBy f (Some w) image = IsMeant f image ⊎ IsMeant (after w f) image

-- While no entry is written, an image that agrees on the base and on the journal areas means the same.
module _ (laws : ImageLaws) (f : Found) (image : Image) (finds : found image ≡ Ok f) (order : IsInOrder f image) (other : Image) (agrees : AgreesBut f (IsAsked f.layout None 0) image other) where
  pub same_area : AreSame f.layout (area_of image) (area_of other)
  same_area dev place mirror within = agrees.journal dev place mirror within (λ asked. asked)

  some : 0 < f.layout.journal
  some = let least = (places_of image f finds).least in omega (arith, least)

  pub meant_again : IsMeant f other
  meant_again =
      let new = found-newest image f finds in
      record {
        finds = found-same image other f finds agrees.base (record {
          last = sym (laws.same_newest f.layout (area_of image) (area_of other) same_area) ∙ new.last;
          needed = sym (laws.same_needed f.layout (area_of image) (area_of other) f.last same_area) ∙ new.needed;
        });
        in_order = record {
          entries = order.entries;
          fits = order.fits;
          others = λ x parts made. order.others x parts (laws.same_made f.layout (area_of other) (area_of image) x parts some (λ dev place mirror within. sym (same_area dev place mirror within)) made);
          owners = λ dev place bytes head mirror within stands. order.owners dev place bytes head mirror within (same_area dev place mirror within ∙ stands);
          levels = order.levels;
          agree = record { each = agree-same f.layout.id image other (nodes_of f.trees.nodes) agrees.base.nodes order.agree.each };
          births = order.births;
        };
      }

-- An image means what was found, or that with the entry that is written, if one is.
pub meaning : ImageLaws → (f : Found) (image : Image) (writing : Option Writing) → found image ≡ Ok f → IsInOrder f image → AreNumberedBelow f.layout f.session f.last.end (area_of image) → IfSome writing (IsWriting f image)
    → (count : ℕ) (other : Image) (disks : List Disk) → AgreesBut f (IsAsked f.layout writing count) image other → AgreeOnWriting f writing image other → HoldKnown f.layout image writing disks → OnlyHeldEntriesOpen f.layout disks other → IsMeantBy f writing other
meaning laws f image None finds order numbered is count other disks agrees nodes hold only = meant_again laws f image finds order other agrees
meaning laws f image (Some w) finds order numbered is count other disks agrees nodes hold only = ⊎_elim
    (λ (before : (found other ≡ Ok f) × IsInOrder f other). inl (record { finds = before.0; in_order = before.1 }))
    (λ (with_it : (found other ≡ Ok (with_entry w.passed w.next w.trees f)) × IsInOrder (with_entry w.passed w.next w.trees f) other). inr (record { finds = with_it.0; in_order = with_it.1 }))
    (laws.crashed image other f disks w.passed w.next w.blocks w.trees finds order is.next is.sealed numbered hold agrees.base nodes is.in_order only is.trees)
