use Rattle.std.proofs.Common.{◌≡◌, [], All, Ok, Err, map, ap, sym, subst, ◌∙◌, true}
use Rattle.std.specs.Prelude.{◌↔◌}
use Rattle.std.specs.Map.{values_of}
use Rattle.dev_model.specs.Devices.{now}
use Rattle.dev_model.specs.Disk.{Image, as_read}
use Rattle.dev_model.specs.FrameLaws.{only_read_then}
use Rattle.geometry.specs.Faults.{DeviceFailed, SomeFailed}
use Rattle.image_view.specs.Found.{PlacesAgree, sets_in, updates_of}
use Rattle.image_view.specs.Trees.{Wanted, read_level, read_node}
use Rattle.tree_nodes.specs.Levels.{IsNodeOf}
use Rattle.vol_types.specs.Positions.{least_pos}
use Rattle.vol_types.specs.Ranges.{IsValue}
use Rattle.vol_types.specs.declared.pointers.NodePtr.{NodePtr}
use Rattle.image_reader.specs.Answers.{IsRagged, Tells}
use Rattle.image_reader.specs.Changes.{all_noted}
use Rattle.image_reader.specs.Faults.{tree_fault_device}
use Rattle.image_reader.specs.Nodes.{node_in}
use Rattle.image_reader.specs.declared.nodes.FoundNode.{FoundNode}
use Rattle.image_reader.proofs.Counts.{cause_behind, of_first, sure_before, sure_behind}
use Rattle.image_reader.proofs.LoopsTold.{all_at, all_pushed, handed_device, handed_tells, level_step, level_stops, pointers_step}
use Rattle.image_reader.proofs.levels.read_level.Goals as goal

pub read_changed-requires-clause-pointer : goal.read_changed-requires-clause-pointer
read_changed-requires-clause-pointer g c = (all_at (IsNodeOf c.args.level) c.args.nodes.now c.loop-greatest.greatest-index c.loop-greatest-item.result c.loop-greatest-test.true c.loop-greatest-item.is c.requires.nodes).in_range

pub returns-in_err-node-clause-found : goal.returns-in_err-node-clause-found
returns-in_err-node-clause-found g c told sure =
    let D = g.D.Devices in
    let first = D.state c.args.devices.now in
    let mid = D.state c.loop-greatest.devices in
    let new = D.state c.read_changed.new.devices in
    let layout = c.args.layout.now in
    let btree = c.args.btree in
    let nodes = c.args.nodes.now in
    let i = c.loop-greatest.greatest-index in
    let item = c.loop-greatest-item.result in
    let lt = c.loop-greatest-test.true in
    let at = c.loop-greatest-item.is in
    let updates = updates_of c.args.entries.now in
    let so_far = c.loop-greatest.invariant in
    let wanted : Wanted = record { btree = btree; least = c.loop-greatest.least; greatest = item.0; pointer = item.1 } in
    let one = all_at (IsNodeOf c.args.level) nodes i item lt at c.requires.nodes in
    let noted = c.in_ok-changes.ensures.noted ∙ ap (λ l. all_noted btree l updates []) (sym one.numbered) in
    let whole = read_level (sets_in layout (as_read (now first))) updates btree least_pos nodes in
    let fault = c.in_err-node.field-0.0 in
    let node : Tells {X = FoundNode} node_in (read_node (sets_in layout (as_read (now first))) updates wanted) (Err fault) =
    of_first D.tells first mid new so_far.read c.read_changed.ensures.read told
    (λ (image : Image). (SomeFailed mid.faults new.faults → PlacesAgree layout.id image item.1) → Tells {X = FoundNode} node_in (read_node (sets_in layout image) updates wanted) (Err fault))
    (c.in_err-node.ensures.found told updates noted)
    (λ failed. all_at (PlacesAgree layout.id (as_read (now first))) nodes i item lt at (sure_behind D.tells first mid new so_far.read c.read_changed.ensures.read sure failed)) in
    handed_tells (map node_in) whole c.from_residual-in_err-node.result fault c.from_residual-in_err-node.ensures.1
    (level_stops (sets_in layout (as_read (now first))) updates btree nodes i c.loop-greatest.least c.loop-greatest.read whole (so_far.found told (sure_before D.tells first mid new so_far.read c.read_changed.ensures.read sure)) item lt at fault node)

pub loop-greatest-preserved : goal.loop-greatest-preserved
loop-greatest-preserved g c =
    let D = g.D.Devices in
    let first = D.state c.args.devices.now in
    let mid = D.state c.loop-greatest.devices in
    let new = D.state c.read_changed.new.devices in
    let layout = c.args.layout.now in
    let btree = c.args.btree in
    let nodes = c.args.nodes.now in
    let i = c.loop-greatest.greatest-index in
    let item = c.loop-greatest-item.result in
    let lt = c.loop-greatest-test.true in
    let at = c.loop-greatest-item.is in
    let updates = updates_of c.args.entries.now in
    let so_far = c.loop-greatest.invariant in
    let wanted : Wanted = record { btree = btree; least = c.loop-greatest.least; greatest = item.0; pointer = item.1 } in
    let one = all_at (IsNodeOf c.args.level) nodes i item lt at c.requires.nodes in
    let noted = c.in_ok-changes.ensures.noted ∙ ap (λ l. all_noted btree l updates []) (sym one.numbered) in
    let whole = read_level (sets_in layout (as_read (now first))) updates btree least_pos nodes in
    let node = c.in_ok-node.node in
    record {
      found = λ told sure.
          let read : Tells {X = FoundNode} node_in (read_node (sets_in layout (as_read (now first))) updates wanted) (Ok node) =
          of_first D.tells first mid new so_far.read c.read_changed.ensures.read told
          (λ (image : Image). (SomeFailed mid.faults new.faults → PlacesAgree layout.id image item.1) → Tells {X = FoundNode} node_in (read_node (sets_in layout image) updates wanted) (Ok node))
          (c.in_ok-node.ensures.found told updates noted)
          (λ failed. all_at (PlacesAgree layout.id (as_read (now first))) nodes i item lt at (sure_behind D.tells first mid new so_far.read c.read_changed.ensures.read sure failed)) in
          level_step (sets_in layout (as_read (now first))) updates btree nodes i c.loop-greatest.least c.loop-greatest.read whole (so_far.found told (sure_before D.tells first mid new so_far.read c.read_changed.ensures.read sure)) item lt at
          node c.push.new.self c.behind-least.result read c.in_ok-push.ensures.ok c.behind-least.ensures;
      ragged = λ told unfailed.
          all_pushed (λ (n : FoundNode). (n.ragged ≡ true) ↔ IsRagged layout.id (as_read (now first)) n.pointer) c.loop-greatest.read c.push.new.self node c.in_ok-push.ensures.ok
          (so_far.ragged told (sure_before D.tells first mid new so_far.read c.read_changed.ensures.read {P = ⊥} unfailed))
          (subst (λ (p : NodePtr). (node.ragged ≡ true) ↔ IsRagged layout.id (as_read (now first)) p) (sym c.in_ok-node.ensures.pointer)
          (of_first D.tells first mid new so_far.read c.read_changed.ensures.read told (λ (image : Image). (node.ragged ≡ true) ↔ IsRagged layout.id image item.1)
          (c.in_ok-node.ensures.ragged told (sure_behind D.tells first mid new so_far.read c.read_changed.ensures.read {P = ⊥} unfailed))));
      pointers = pointers_step nodes i item c.loop-greatest.read c.push.new.self node lt at c.in_ok-push.ensures.ok c.in_ok-node.ensures.pointer so_far.pointers;
      in_range = all_pushed (λ (n : FoundNode). All IsValue (values_of n.entries)) c.loop-greatest.read c.push.new.self node c.in_ok-push.ensures.ok so_far.in_range c.in_ok-node.ensures.in_range;
      read = only_read_then D.tells first mid new so_far.read c.read_changed.ensures.read;
    }

pub returns-in_err-node-clause-read : goal.returns-in_err-node-clause-read
returns-in_err-node-clause-read g c =
    let D = g.D.Devices in
    let first = D.state c.args.devices.now in
    let mid = D.state c.loop-greatest.devices in
    let new = D.state c.read_changed.new.devices in
    only_read_then D.tells first mid new c.loop-greatest.invariant.read c.read_changed.ensures.read

pub returns-in_err-push-clause-read : goal.returns-in_err-push-clause-read
returns-in_err-push-clause-read g c =
    let D = g.D.Devices in
    let first = D.state c.args.devices.now in
    let mid = D.state c.loop-greatest.devices in
    let new = D.state c.read_changed.new.devices in
    only_read_then D.tells first mid new c.loop-greatest.invariant.read c.read_changed.ensures.read

pub returns-in_err-node-clause-cause : goal.returns-in_err-node-clause-cause
returns-in_err-node-clause-cause g c =
    let D = g.D.Devices in
    let first = D.state c.args.devices.now in
    let mid = D.state c.loop-greatest.devices in
    let new = D.state c.read_changed.new.devices in
    let fault = c.in_err-node.field-0.0 in
    handed_device c.from_residual-in_err-node.result fault (λ dev. DeviceFailed dev first.faults new.faults) c.from_residual-in_err-node.ensures.1
    (cause_behind (tree_fault_device fault) first.faults mid.faults new.faults c.loop-greatest.invariant.read.calls c.in_err-node.ensures.cause)
