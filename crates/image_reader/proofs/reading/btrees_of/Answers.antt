use Rattle.std.proofs.Common.{◌≡◌, ◌<◌, ◌-◌, ◌∙◌, All, List, Ok, Err, length, map, ap, subst, arith}
use Rattle.std.specs.List.{flat_map}
use Rattle.std.specs.Map.{values_of}
use Rattle.dev_model.specs.Devices.{now}
use Rattle.dev_model.specs.Disk.{as_read}
use Rattle.geometry.specs.Faults.{SomeFailed}
use Rattle.image_view.specs.Found.{sets_in, updates_of}
use Rattle.image_view.specs.Trees.{btree_of, each_of, joined, trees_of, with_own_births, with_roots}
use Rattle.journal_ring.specs.declared.found.FoundEntry.{FoundEntry}
use Rattle.vol_types.specs.declared.pointers.NodePtr.{NodePtr}
use Rattle.image_reader.specs.Answers.{AreRagged, AreSureBtrees, Tells}
use Rattle.image_reader.specs.Volumes.{btree_in, last_of, no_entry}
use Rattle.image_reader.specs.declared.found.FoundBtree.{FoundBtree}
use Rattle.image_reader.proofs.FoundTold.{get_same, handed_list, sure_btrees, tells_by, trees_fault, trees_told}
use Rattle.image_reader.proofs.LoopsTold.{handed_tells}
use Rattle.image_reader.proofs.reading.btrees_of.Goals as goal

pub returns-in_err-btrees-clause-found : goal.returns-in_err-btrees-clause-found
returns-in_err-btrees-clause-found g c told sure =
    let D = g.D.Devices in
    let old = D.state c.args.devices.now in
    let new = D.state c.read_btrees.new.devices in
    let image = as_read (now old) in
    let layout = c.args.layout.now in
    let entries = c.args.entries.now in
    let updates = updates_of entries in
    let sets = sets_in layout image in
    let roots = (last_of entries).entry.roots in
    let lt : length entries - 1 < length entries = omega (arith, c.requires.some) in
    let same : c.as_slice-roots.result.now ≡ roots = c.as_slice-roots.ensures ∙ ap (λ (e : FoundEntry). e.entry.roots) (get_same entries (length entries - 1) c.index-entries-entries.result no_entry lt c.index-entries-entries.is) in
    let fault = c.in_err-btrees.field-0.0 in
    let btrees : Tells {X = List FoundBtree} (map btree_in) (each_of (btree_of sets updates) (with_roots roots)) (Err fault) =
    subst (λ (rs : List NodePtr). (SomeFailed old.faults new.faults → AreSureBtrees layout.id image (each_of (btree_of sets updates) (with_roots rs))) → Tells {X = List FoundBtree} (map btree_in) (each_of (btree_of sets updates) (with_roots rs)) (Err fault)) same (c.in_err-btrees.ensures.found told)
    (λ failed. sure_btrees layout.id image sets updates roots (sure failed)) in
    handed_tells (λ (bs : List FoundBtree). joined (map btree_in bs)) (trees_of sets updates roots) c.from_residual.result fault c.from_residual.ensures.1
    (trees_fault {X = List FoundBtree} {Y = List FoundBtree} (map btree_in) (λ bs. joined (map btree_in bs)) sets updates roots fault btrees)

pub returns-clause-found : goal.returns-clause-found
returns-clause-found g c told sure =
    let D = g.D.Devices in
    let old = D.state c.args.devices.now in
    let new = D.state c.read_btrees.new.devices in
    let image = as_read (now old) in
    let layout = c.args.layout.now in
    let entries = c.args.entries.now in
    let updates = updates_of entries in
    let sets = sets_in layout image in
    let roots = (last_of entries).entry.roots in
    let lt : length entries - 1 < length entries = omega (arith, c.requires.some) in
    let same : c.as_slice-roots.result.now ≡ roots = c.as_slice-roots.ensures ∙ ap (λ (e : FoundEntry). e.entry.roots) (get_same entries (length entries - 1) c.index-entries-entries.result no_entry lt c.index-entries-entries.is) in
    let btrees : Tells {X = List FoundBtree} (map btree_in) (each_of (btree_of sets updates) (with_roots roots)) (Ok c.in_ok-btrees.btrees) =
    subst (λ (rs : List NodePtr). (SomeFailed old.faults new.faults → AreSureBtrees layout.id image (each_of (btree_of sets updates) (with_roots rs))) → Tells {X = List FoundBtree} (map btree_in) (each_of (btree_of sets updates) (with_roots rs)) (Ok c.in_ok-btrees.btrees)) same (c.in_ok-btrees.ensures.found told)
    (λ failed. sure_btrees layout.id image sets updates roots (sure failed)) in
    tells_by (λ (bs : List FoundBtree). joined (map btree_in bs)) (trees_of sets updates roots) (with_own_births (joined (map btree_in c.in_ok-btrees.btrees))) c.with_own_births.result
    (trees_told sets updates roots (map btree_in c.in_ok-btrees.btrees) btrees) c.with_own_births.ensures.found

pub returns-clause-ragged : goal.returns-clause-ragged
returns-clause-ragged g c told unfailed =
    let D = g.D.Devices in
    let image = as_read (now (D.state c.args.devices.now)) in
    handed_list (λ (bs : List FoundBtree). All (λ (b : FoundBtree). AreRagged c.args.layout.now.id image (flat_map values_of b.levels) b.ragged) bs) c.with_own_births.result c.in_ok-btrees.btrees c.with_own_births.ensures.same (c.in_ok-btrees.ensures.ragged told unfailed)
