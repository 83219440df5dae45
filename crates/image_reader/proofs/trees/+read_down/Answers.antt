use Rattle.std.proofs.Common.{◌≡◌, ◌∙◌, ◌++◌, ◌∷◌, [], ◌-◌, All, List, Ok, Err, map, suc, ap, sym, subst, arith}
use Rattle.std.specs.List.{flat_map}
use Rattle.std.specs.Map.{values_of}
use Rattle.dev_model.specs.Devices.{now}
use Rattle.dev_model.specs.Disk.{Image, as_read}
use Rattle.dev_model.specs.FrameLaws.{only_read_then}
use Rattle.geometry.specs.Faults.{DeviceFailed, SomeFailed}
use Rattle.image_view.specs.Found.{PlacesAgree, sets_in, updates_of}
use Rattle.image_view.specs.Trees.{BtreeRead, children_of, each_of, ends_of, read_down, read_level}
use Rattle.tree_nodes.specs.Levels.{Level}
use Rattle.vol_types.specs.Positions.{least_pos}
use Rattle.image_reader.specs.Answers.{AreRagged, IsSureBtree, Tells}
use Rattle.image_reader.specs.Faults.{tree_fault_device}
use Rattle.image_reader.specs.Nodes.{joined_levels, node_in, ragged_births}
use Rattle.image_reader.specs.Volumes.{btree_in}
use Rattle.image_reader.specs.declared.found.FoundBtree.{FoundBtree}
use Rattle.image_reader.specs.declared.nodes.FoundNode.{FoundNode}
use Rattle.image_reader.proofs.Counts.{cause_behind, of_first, sure_before, sure_behind}
use Rattle.image_reader.proofs.LoopsTold.{handed_device, handed_tells}
use Rattle.image_reader.proofs.RaggedTold.{ragged_leaves, ragged_upper}
use Rattle.image_reader.proofs.TreeTold.{below_fault, leaves_told, level_fault, rest_fault, sure_level, sure_rest, upper_told}
use Rattle.image_reader.proofs.trees.«+read_down».Goals as goal

pub returns-in_err-read-clause-found : goal.returns-in_err-read-clause-found
returns-in_err-read-clause-found g t c told sure =
    let D = g.D.Devices in
    let first = D.state c.args.devices.now in
    let mid = D.state c.read_level.new.devices in
    let image = as_read (now first) in
    let layout = c.args.layout.now in
    let btree = c.args.btree in
    let level = c.args.level in
    let nodes = c.args.nodes in
    let updates = updates_of c.args.entries.now in
    let sets = sets_in layout image in
    let fault = c.in_err-read.field-0.0 in
    let top : Tells {X = List FoundNode} (map node_in) (read_level sets updates btree least_pos nodes) (Err fault) =
    subst (λ (ns : Level). (SomeFailed first.faults mid.faults → All (PlacesAgree layout.id image) (values_of ns)) → Tells {X = List FoundNode} (map node_in) (read_level sets updates btree least_pos ns) (Err fault)) c.as_slice.ensures (c.in_err-read.ensures.found told)
    (λ failed. sure_level sets updates btree nodes layout.id image level (sure failed)) in
    handed_tells btree_in (read_down sets updates btree level nodes) c.from_residual.result fault c.from_residual.ensures.1
    (level_fault sets updates btree nodes {X = List FoundNode} {Y = FoundBtree} (map node_in) btree_in level fault top)

pub returns-then-level-eq0-clause-found : goal.returns-then-level-eq0-clause-found
returns-then-level-eq0-clause-found g t c told sure =
    let D = g.D.Devices in
    let first = D.state c.args.devices.now in
    let mid = D.state c.read_level.new.devices in
    let image = as_read (now first) in
    let layout = c.args.layout.now in
    let btree = c.args.btree in
    let level = c.args.level in
    let nodes = c.args.nodes in
    let updates = updates_of c.args.entries.now in
    let sets = sets_in layout image in
    let read = c.in_ok-read.read in
    let top : Tells {X = List FoundNode} (map node_in) (read_level sets updates btree least_pos nodes) (Ok read) =
    subst (λ (ns : Level). (SomeFailed first.faults mid.faults → All (PlacesAgree layout.id image) (values_of ns)) → Tells {X = List FoundNode} (map node_in) (read_level sets updates btree least_pos ns) (Ok read)) c.as_slice.ensures (c.in_ok-read.ensures.found told)
    (λ failed. sure_level sets updates btree nodes layout.id image level (sure failed)) in
    leaves_told sets updates btree nodes level (map node_in read) c.if-level-eq0.true top ∙ ap (λ (b : BtreeRead). Ok b) (sym c.in_ok-leaves.ensures.btree)

pub returns-then-level-eq0-clause-ragged : goal.returns-then-level-eq0-clause-ragged
returns-then-level-eq0-clause-ragged g t c told unfailed =
    let D = g.D.Devices in
    let first = D.state c.args.devices.now in
    let mid = D.state c.read_level.new.devices in
    let image = as_read (now first) in
    let layout = c.args.layout.now in
    let btree = c.args.btree in
    let level = c.args.level in
    let nodes = c.args.nodes in
    let updates = updates_of c.args.entries.now in
    let sets = sets_in layout image in
    let read = c.in_ok-read.read in
    ragged_leaves layout.id image read nodes c.in_ok-leaves.field-0 (c.in_ok-read.ensures.ragged told unfailed) (c.in_ok-read.ensures.pointers ∙ ap (λ (ns : Level). values_of ns) c.as_slice.ensures)
    (ap (λ (b : BtreeRead). b.levels) c.in_ok-leaves.ensures.btree) c.in_ok-leaves.ensures.ragged

pub returns-in_err-below-clause-found : goal.returns-in_err-below-clause-found
returns-in_err-below-clause-found g t c told sure =
    let D = g.D.Devices in
    let first = D.state c.args.devices.now in
    let mid = D.state c.read_level.new.devices in
    let image = as_read (now first) in
    let layout = c.args.layout.now in
    let btree = c.args.btree in
    let level = c.args.level in
    let nodes = c.args.nodes in
    let updates = updates_of c.args.entries.now in
    let sets = sets_in layout image in
    let read = c.in_ok-read.read in
    let fault = c.in_err-below.field-0.0 in
    let above : level ≡ suc (level - 1) = omega (arith, c.if-level-eq0.false) in
    let top : Tells {X = List FoundNode} (map node_in) (read_level sets updates btree least_pos nodes) (Ok read) =
    subst (λ (ns : Level). (SomeFailed first.faults mid.faults → All (PlacesAgree layout.id image) (values_of ns)) → Tells {X = List FoundNode} (map node_in) (read_level sets updates btree least_pos ns) (Ok read)) c.as_slice.ensures (c.in_ok-read.ensures.found told)
    (λ failed. sure_level sets updates btree nodes layout.id image level (sure failed)) in
    handed_tells btree_in (read_down sets updates btree level nodes) c.from_residual-in_err-below.result fault c.from_residual-in_err-below.ensures.1
    (below_fault sets updates btree nodes (level - 1) level above (map node_in read) top {X = Level} {Y = FoundBtree} (λ below. below) btree_in fault
    (subst (λ (ns : List FoundNode). Tells {X = Level} (λ below. below) (joined_levels (each_of (children_of (level - 1)) (map node_in ns))) (Err fault)) c.as_slice-2.ensures c.in_err-below.ensures.found))

pub returns-in_err-rest-clause-found : goal.returns-in_err-rest-clause-found
returns-in_err-rest-clause-found g t c told sure =
    let D = g.D.Devices in
    let first = D.state c.args.devices.now in
    let mid = D.state c.read_level.new.devices in
    let image = as_read (now first) in
    let layout = c.args.layout.now in
    let btree = c.args.btree in
    let level = c.args.level in
    let nodes = c.args.nodes in
    let updates = updates_of c.args.entries.now in
    let sets = sets_in layout image in
    let new = D.state c.read_down.new.devices in
    let read = c.in_ok-read.read in
    let below = c.in_ok-below.below in
    let above : level ≡ suc (level - 1) = omega (arith, c.if-level-eq0.false) in
    let fault = c.in_err-rest.field-0.0 in
    let top : Tells {X = List FoundNode} (map node_in) (read_level sets updates btree least_pos nodes) (Ok read) =
    subst (λ (ns : Level). (SomeFailed first.faults mid.faults → All (PlacesAgree layout.id image) (values_of ns)) → Tells {X = List FoundNode} (map node_in) (read_level sets updates btree least_pos ns) (Ok read)) c.as_slice.ensures (c.in_ok-read.ensures.found told)
    (λ failed. sure_level sets updates btree nodes layout.id image level (sure_before D.tells first mid new c.read_level.ensures.read c.read_down.ensures.read sure failed)) in
    let joined : joined_levels (each_of (children_of (level - 1)) (map node_in read)) ≡ Ok below =
    subst (λ (ns : List FoundNode). joined_levels (each_of (children_of (level - 1)) (map node_in ns)) ≡ Ok below) c.as_slice-2.ensures c.in_ok-below.ensures.found in
    let rest_told : Tells {X = FoundBtree} btree_in (read_down sets updates btree (level - 1) below) (Err fault) =
    of_first D.tells first mid new c.read_level.ensures.read c.read_down.ensures.read told
    (λ (im : Image). (SomeFailed mid.faults new.faults → IsSureBtree layout.id im (read_down (sets_in layout im) updates btree (level - 1) below)) → Tells {X = FoundBtree} btree_in (read_down (sets_in layout im) updates btree (level - 1) below) (Err fault))
    (c.in_err-rest.ensures.found told)
    (λ failed. sure_rest sets updates btree nodes (level - 1) level above (map node_in read) top below joined layout.id image (sure_behind D.tells first mid new c.read_level.ensures.read c.read_down.ensures.read sure failed)) in
    handed_tells btree_in (read_down sets updates btree level nodes) c.from_residual-in_err-rest.result fault c.from_residual-in_err-rest.ensures.1
    (rest_fault sets updates btree nodes (level - 1) level above (map node_in read) top below joined {X = FoundBtree} {Y = FoundBtree} btree_in btree_in fault rest_told)

pub returns-clause-found : goal.returns-clause-found
returns-clause-found g t c told sure =
    let D = g.D.Devices in
    let first = D.state c.args.devices.now in
    let mid = D.state c.read_level.new.devices in
    let image = as_read (now first) in
    let layout = c.args.layout.now in
    let btree = c.args.btree in
    let level = c.args.level in
    let nodes = c.args.nodes in
    let updates = updates_of c.args.entries.now in
    let sets = sets_in layout image in
    let new = D.state c.read_down.new.devices in
    let read = c.in_ok-read.read in
    let below = c.in_ok-below.below in
    let above : level ≡ suc (level - 1) = omega (arith, c.if-level-eq0.false) in
    let rest = c.in_ok-rest.rest in
    let top : Tells {X = List FoundNode} (map node_in) (read_level sets updates btree least_pos nodes) (Ok read) =
    subst (λ (ns : Level). (SomeFailed first.faults mid.faults → All (PlacesAgree layout.id image) (values_of ns)) → Tells {X = List FoundNode} (map node_in) (read_level sets updates btree least_pos ns) (Ok read)) c.as_slice.ensures (c.in_ok-read.ensures.found told)
    (λ failed. sure_level sets updates btree nodes layout.id image level (sure_before D.tells first mid new c.read_level.ensures.read c.read_down.ensures.read sure failed)) in
    let joined : joined_levels (each_of (children_of (level - 1)) (map node_in read)) ≡ Ok below =
    subst (λ (ns : List FoundNode). joined_levels (each_of (children_of (level - 1)) (map node_in ns)) ≡ Ok below) c.as_slice-2.ensures c.in_ok-below.ensures.found in
    let rest_told : Tells {X = FoundBtree} btree_in (read_down sets updates btree (level - 1) below) (Ok rest) =
    of_first D.tells first mid new c.read_level.ensures.read c.read_down.ensures.read told
    (λ (im : Image). (SomeFailed mid.faults new.faults → IsSureBtree layout.id im (read_down (sets_in layout im) updates btree (level - 1) below)) → Tells {X = FoundBtree} btree_in (read_down (sets_in layout im) updates btree (level - 1) below) (Ok rest))
    (c.in_ok-rest.ensures.found told)
    (λ failed. sure_rest sets updates btree nodes (level - 1) level above (map node_in read) top below joined layout.id image (sure_behind D.tells first mid new c.read_level.ensures.read c.read_down.ensures.read sure failed)) in
    upper_told sets updates btree nodes (level - 1) level above (map node_in read) top below joined (btree_in rest) rest_told
    ∙ ap (λ (b : BtreeRead). Ok b) (sym (c.in_ok-under.ensures.btree ∙ ap (λ (ns : List FoundNode). record { entries = rest.entries; levels = rest.levels ++ nodes ∷ []; ends = ends_of (map node_in ns) ++ rest.ends }) c.as_slice-3.ensures))

pub returns-clause-ragged : goal.returns-clause-ragged
returns-clause-ragged g t c told unfailed =
    let D = g.D.Devices in
    let first = D.state c.args.devices.now in
    let mid = D.state c.read_level.new.devices in
    let image = as_read (now first) in
    let layout = c.args.layout.now in
    let btree = c.args.btree in
    let level = c.args.level in
    let nodes = c.args.nodes in
    let updates = updates_of c.args.entries.now in
    let sets = sets_in layout image in
    let new = D.state c.read_down.new.devices in
    let read = c.in_ok-read.read in
    let below = c.in_ok-below.below in
    let above : level ≡ suc (level - 1) = omega (arith, c.if-level-eq0.false) in
    let rest = c.in_ok-rest.rest in
    ragged_upper layout.id image read nodes rest c.in_ok-under.field-0 (c.in_ok-read.ensures.ragged told (sure_before D.tells first mid new c.read_level.ensures.read c.read_down.ensures.read {P = ⊥} unfailed))
    (c.in_ok-read.ensures.pointers ∙ ap (λ (ns : Level). values_of ns) c.as_slice.ensures)
    (of_first D.tells first mid new c.read_level.ensures.read c.read_down.ensures.read told (λ (im : Image). AreRagged layout.id im (flat_map values_of rest.levels) rest.ragged)
    (c.in_ok-rest.ensures.ragged told (sure_behind D.tells first mid new c.read_level.ensures.read c.read_down.ensures.read {P = ⊥} unfailed)))
    (ap (λ (b : BtreeRead). b.levels) c.in_ok-under.ensures.btree)
    (c.in_ok-under.ensures.ragged ∙ ap (λ (ns : List FoundNode). ragged_births ns ++ rest.ragged) c.as_slice-3.ensures)

pub returns-in_err-rest-clause-read : goal.returns-in_err-rest-clause-read
returns-in_err-rest-clause-read g t c =
    let D = g.D.Devices in
    let first = D.state c.args.devices.now in
    let mid = D.state c.read_level.new.devices in
    let new = D.state c.read_down.new.devices in
    only_read_then D.tells first mid new c.read_level.ensures.read c.read_down.ensures.read

pub returns-in_err-under-clause-read : goal.returns-in_err-under-clause-read
returns-in_err-under-clause-read g t c =
    let D = g.D.Devices in
    let first = D.state c.args.devices.now in
    let mid = D.state c.read_level.new.devices in
    let new = D.state c.read_down.new.devices in
    only_read_then D.tells first mid new c.read_level.ensures.read c.read_down.ensures.read

pub returns-clause-read : goal.returns-clause-read
returns-clause-read g t c =
    let D = g.D.Devices in
    let first = D.state c.args.devices.now in
    let mid = D.state c.read_level.new.devices in
    let new = D.state c.read_down.new.devices in
    only_read_then D.tells first mid new c.read_level.ensures.read c.read_down.ensures.read

pub returns-in_err-rest-clause-cause : goal.returns-in_err-rest-clause-cause
returns-in_err-rest-clause-cause g t c =
    let D = g.D.Devices in
    let first = D.state c.args.devices.now in
    let mid = D.state c.read_level.new.devices in
    let new = D.state c.read_down.new.devices in
    let fault = c.in_err-rest.field-0.0 in
    handed_device c.from_residual-in_err-rest.result fault (λ dev. DeviceFailed dev first.faults new.faults) c.from_residual-in_err-rest.ensures.1
    (cause_behind (tree_fault_device fault) first.faults mid.faults new.faults c.read_level.ensures.read.calls c.in_err-rest.ensures.cause)
