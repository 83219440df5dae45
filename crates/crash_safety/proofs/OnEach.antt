-- What a crash leaves while the next entry is written means what was found, or that with the entry, on each metadata device alone too: where the
-- nodes of both are alike on all metadata devices, and the needed entries stand on them.
use Rattle.std.proofs.Common.{◌≡◌, ⊎_elim, inl, inr, ℕ, ◌<◌, List, length, get_or, Option, Some, None, Ok, sym, subst}
use Rattle.std.proofs.lemmas.List.Elements.{All-weaker}
use Rattle.std.specs.Prelude.{All, IfSome}
use Rattle.dev_model.specs.Disk.{Disk, Image}
use Rattle.image_view.specs.BaseLaws.{copies-same}
use Rattle.image_view.specs.Bases.{AgreeOnNode}
use Rattle.image_view.specs.CrashEntries.{OnlyHeldEntriesOpen}
use Rattle.image_view.specs.Found.{Found, IsAlike, IsInOrder, found}
use Rattle.image_view.specs.NextEntries.{AreNumberedBelow}
use Rattle.image_view.specs.Trees.{nodes_of}
use Rattle.image_view.proofs.NextStands.{held_old_or_next}
use Rattle.journal_ring.specs.Parts.{area_of}
use Rattle.node_store.specs.Answers.{AreAlike}
use Rattle.replay.specs.Mending.{StandsOnAll}
use Rattle.vol_types.specs.declared.pointers.NodePtr.{NodePtr}
use Rattle.mirror_laws.specs.Degraded.{IsDegradedTo}
use Rattle.mirror_laws.specs.Standing.{NodeStandsOn, StandsWholeOn}
use Rattle.mirror_laws.proofs.DegradedMeaning.{found_still, order_still}
use Rattle.mirror_laws.proofs.OnAll.{entries_on_each, node_on_each, stands_again}
use Rattle.crash_safety.specs.Flight.{IsFoundIn, IsLeftWriting, StandsWriting}
use Rattle.crash_safety.specs.Safety.{AreBases, MeansOnEach}
use Rattle.crash_safety.specs.Standing.{AgreeOnWriting, AgreesBut, HoldKnown}
use Rattle.crash_safety.specs.Writings.{AreNodesAlike, IsAsked, IsWriting, Writing, after}
use Rattle.crash_safety.proofs.InFlight.{either}
use Rattle.crash_safety.proofs.Meanings.{ImageLaws, IsMeantBy, meaning, meant_again}
use Rattle.crash_safety.proofs.OneOf.{one_of}

-- ---- nodes that are alike

-- Nodes are alike in an image that agrees on them with one in which they are.
pub alike_again : (f : Found) (one other : Image) (nodes : List NodePtr) → All (AgreeOnNode one other) nodes → All (IsAlike f one) nodes → All (IsAlike f other) nodes
alike_again f one other nodes same alike k none lower end found birth =
    let node : NodePtr = get_or nodes k none in
    subst (AreAlike end.block) (sym (copies-same one other node.places (same k none lower))) (alike k none lower end found birth)

-- ---- what is left on each metadata device

module _ (laws : ImageLaws) (f : Found) (image : Image) (finds : found image ≡ Ok f) (order : IsInOrder f image) (numbered : AreNumberedBelow f.layout f.session f.last.end (area_of image))
    (whole : (index : ℕ) → index < length f.needed → StandsOnAll f.layout image (get_or f.needed index f.last)) where
  -- What was found stands whole on each metadata device.
  stands_on_each : All (IsAlike f image) (nodes_of f.trees.nodes) → (mirror : ℕ) → mirror < f.layout.metadata_replicas → StandsWholeOn f mirror image
  stands_on_each alike mirror low = record {
    on_mirror = low;
    entries = entries_on_each laws.flight.parts.entries laws.flight.whole f mirror low image finds whole;
    nodes = All-weaker (IsAlike f image) (NodeStandsOn f mirror image) (node_on_each f mirror image) (nodes_of f.trees.nodes) alike;
  }

  module _ (count : ℕ) (other : Image) (disks : List Disk) (mirror : ℕ) (low : mirror < f.layout.metadata_replicas) (alone : Image) (degraded : IsDegradedTo f.layout mirror other alone) where
    -- So an image means on one of them alone what was found, or that with the entry that is written, if one is.
    meant_alone : (writing : Option Writing) → IfSome writing (IsWriting f image) → AreNodesAlike f image writing → AgreesBut f (IsAsked f.layout writing count) image other → AgreeOnWriting f writing image other → HoldKnown f.layout image writing disks
        → OnlyHeldEntriesOpen f.layout disks other → IsMeantBy f writing alone
    meant_alone None is alike agrees nodes hold only =
        let meant = meant_again laws f image finds order other agrees in
        let there = stands_again f mirror image other agrees.base (stands_on_each alike.found mirror low) in
        record {
          finds = found_still laws.flight.parts.entries f mirror other alone degraded meant.finds meant.in_order.others meant.in_order.agree there;
          in_order = order_still laws.flight.parts.entries f mirror other alone degraded low meant.in_order;
        }
    meant_alone (Some w) is alike agrees nodes hold only =
        let left : IsLeftWriting f w image other = record {
          before = record { finds = finds; in_order = order };
          numbered = numbered;
          is = is;
          base = agrees.base;
          nodes = nodes;
          blocks = held_old_or_next f.layout w.next w.blocks disks image other hold only;
        } in
        let stands : StandsWriting f w mirror image = record {
          found = stands_on_each alike.found mirror low;
          next = All-weaker (IsAlike (after w f) image) (NodeStandsOn (after w f) mirror image) (node_on_each (after w f) mirror image) (nodes_of w.trees.nodes) alike.next;
        } in
        ⊎_elim
        (λ (old : IsFoundIn f alone). inl (record { finds = old.finds; in_order = old.in_order }))
        (λ (new : IsFoundIn (after w f) alone). inr (record { finds = new.finds; in_order = new.in_order }))
        (either laws.flight f w mirror image other alone left stands degraded)

  -- It means one of the bases, and so it does on each metadata device alone.
  pub each_of : (writing : Option Writing) → IfSome writing (IsWriting f image) → AreNodesAlike f image writing → (bases : List Found) (durable : List ℕ) → AreBases f writing bases durable → (count : ℕ) (other : Image) (disks : List Disk)
      → AgreesBut f (IsAsked f.layout writing count) image other → AgreeOnWriting f writing image other → HoldKnown f.layout image writing disks → OnlyHeldEntriesOpen f.layout disks other → (moment : ℕ) → MeansOnEach f.layout bases durable moment other
  each_of writing is alike bases durable are count other disks agrees nodes hold only moment = record {
    itself = one_of f writing bases durable are moment other (meaning laws f image writing finds order numbered is count other disks agrees nodes hold only);
    alone = λ mirror low alone degraded. one_of f writing bases durable are moment alone (meant_alone count other disks mirror low alone degraded writing is alike agrees nodes hold only);
  }
