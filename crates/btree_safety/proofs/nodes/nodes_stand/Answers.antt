use Rattle.std.proofs.Common.{◌+◌, List, subst, sym}
use Rattle.std.proofs.lemmas.List.Elements.{All-weaker}
use Rattle.image_view.specs.Trees.{nodes_of}
use Rattle.journal_ring.specs.Rings.{IsPartAsked, IsPartPlace}
use Rattle.node_store.specs.Plans.{part_bytes}
use Rattle.node_store.specs.Writes.{IsCopyBlock, IsCopyOf}
use Rattle.vol_types.specs.declared.pointers.Place.{Place}
use Rattle.crash_safety.specs.Elsewhere.{IsAtOneOf, IsOneOf}
use Rattle.crash_safety.specs.Leaves.{AreNodesApart, KeepsOff}
use Rattle.btree_safety.specs.NodeLaws.{stays_elsewhere}
use Rattle.btree_safety.specs.StayingNodes.{StaysAsRead}
use Rattle.btree_safety.proofs.LeafBtrees.{LeafLaws, leaves_stand}
use Rattle.btree_safety.proofs.StayingBtrees.{all_stay, btrees_stay}
use Rattle.btree_safety.proofs.StayingNodes.{node_stays, stays_flushed, stays_here, stays_read, stays_then}
use Rattle.btree_safety.proofs.nodes.nodes_stand.Goals as goal

pub returns : goal.returns
returns c =
    let stay = btrees_stay c.standing_btrees_change_by_exchanges.ensures.stay in
    record {
      stays = node_stays;
      btrees_stay = stay;
      all_stay = all_stay;
      here = stays_here;
      then_on = stays_then;
      reads = stays_read;
      flushes = stays_flushed;
      entry_parts = λ image f w written ring failed old new node finds is part placed.
          stays_elsewhere (IsPartPlace ring) (IsPartAsked ring) old new node part.at (c.nodes_lie_apart.ensures.entry_parts image f w written ring node finds is placed);
      node_parts = λ blocked part failed old new node written off.
          stays_elsewhere (IsCopyOf blocked.places (blocked.block + part)) (IsCopyBlock blocked.places (blocked.block + part) (part_bytes blocked part)) old new node written.at off;
      elsewhere = λ places old new node call off. stays_elsewhere (IsOneOf places) (IsAtOneOf places) old new node call off;
      btrees_read = λ layout session roots trees content old new reads stands.
          stay layout session roots trees content old new (all_stay layout session roots trees content old new stands (λ node placed. stays_read old new node reads)) stands;
      btrees_flush = λ dev done layout session roots trees content old new flush are stands.
          stay layout session roots trees content old new (all_stay layout session roots trees content old new stands (λ node placed. stays_flushed dev done old new node flush are)) stands;
      btrees_beside_entries = λ image f w written ring failed session roots trees content old new finds is part stands.
          stay f.layout session roots trees content old new (all_stay f.layout session roots trees content old new stands (λ node placed.
          stays_elsewhere (IsPartPlace ring) (IsPartAsked ring) old new node part.at (c.nodes_lie_apart.ensures.entry_parts image f w written ring node finds is placed))) stands;
      btrees_beside_nodes = λ fresh blocked part failed layout session roots trees content old new same few apart written stands.
          stay layout session roots trees content old new (All-weaker (AreNodesApart fresh) (StaysAsRead old new) (λ node lies.
          stays_elsewhere (IsCopyOf blocked.places (blocked.block + part)) (IsCopyBlock blocked.places (blocked.block + part) (part_bytes blocked part)) old new node written.at
          (subst (λ (places : List Place). KeepsOff (IsCopyOf places (blocked.block + part)) node) (sym same) (c.nodes_lie_apart.ensures.node_parts fresh node (blocked.block + part) lies few))) (nodes_of trees) apart) stands;
      leaves =
          let laws : LeafLaws = record { leaves = c.standing_btrees_are_read.ensures.leaves; come = c.found_btrees_stand.ensures.images } in
          leaves_stand laws;
    }
