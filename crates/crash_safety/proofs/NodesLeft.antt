-- A crash leaves the nodes of an entry where the devices on which they stand are settled.
use Rattle.std.proofs.Common.{◌≡◌, ℕ, ◌+◌, ◌<◌, List, length, map, get_or, Some, None, sym, ap, ◌∙◌, arith}
use Rattle.std.proofs.lemmas.List.{get_or-map, length-map}
use Rattle.std.proofs.lemmas.List.FromFn.{get_or-range_with_len, length-range_with_len}
use Rattle.dev_model.specs.Devices.{DevicesState, now}
use Rattle.dev_model.specs.Disk.{as_read}
use Rattle.image_view.specs.Found.{Found, IsMirrored}
use Rattle.image_view.specs.NewNodes.{AreNodesInOrder}
use Rattle.image_view.specs.Trees.{nodes_of}
use Rattle.vol_types.specs.declared.layout.Layout.{Layout}
use Rattle.vol_types.specs.declared.pointers.NodePtr.{NodePtr}
use Rattle.vol_types.specs.declared.pointers.Place.{Place}
use Rattle.crash_safety.specs.Flushes.{AreSettled}
use Rattle.crash_safety.specs.Safety.{IsJournalSafe}
use Rattle.crash_safety.specs.Standing.{AreNodesLeft}
use Rattle.crash_safety.specs.Writings.{Writing, after}

-- Each place of a node that stands on every metadata device is on one of these.
on_mirrors : (layout : Layout) (node : NodePtr) → IsMirrored layout node → (j : ℕ) (e : Place) → j < length node.places → (get_or node.places j e).dev < layout.metadata_replicas
on_mirrors layout node mirrored j e low =
    let devs : List ℕ = map (λ (place : Place). place.dev) node.places in
    let count : length node.places ≡ layout.metadata_replicas = sym (length-map {B = ℕ} node.places (λ (place : Place). place.dev)) ∙ ap (λ (ds : List ℕ). length ds) mirrored ∙ length-range_with_len 0 layout.metadata_replicas in
    let at : (get_or node.places j e).dev ≡ 0 + j =
    sym (get_or-map (λ (place : Place). place.dev) node.places j e 0 low) ∙ ap (λ (ds : List ℕ). get_or ds j 0) mirrored ∙ get_or-range_with_len 0 layout.metadata_replicas j 0 (omega (arith, low, count)) in
    omega (arith, at, low, count)

-- So where all metadata devices are settled, a crash leaves the nodes that stand on what is read.
pub nodes_settled : (f : Found) (bases : List Found) (durable : List ℕ) (first : ℕ) (state : DevicesState) (w : Writing) → IsJournalSafe f (as_read (now state)) None 0 0 bases durable first state → AreNodesInOrder (after w f) (as_read (now state))
    → AreSettled f.layout.metadata_replicas (now state) → AreNodesLeft f (as_read (now state)) (Some w) state
nodes_settled f bases durable first state w safe order settled other may =
    let base = (safe.stands.crashes other may).base in
    record {
      lengths = base.lengths;
      first_copies = base.first_copies;
      second_copies = base.second_copies;
      nodes = λ k d lower j e low n few.
          let node : NodePtr = get_or (nodes_of w.trees.nodes) k d in
          sym (settled (get_or node.places j e).dev (on_mirrors f.layout node (order.places k d lower) j e low) other may _);
    }
