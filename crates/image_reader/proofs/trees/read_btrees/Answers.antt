use Rattle.std.proofs.Common.{◌≡◌, ◌<◌, ◌∙◌, Ok, Err, length, get_or, map, ap, sym, arith}
use Rattle.std.specs.List.{flat_map}
use Rattle.std.specs.Map.{values_of}
use Rattle.dev_model.specs.Devices.{now}
use Rattle.dev_model.specs.Disk.{Image, as_read}
use Rattle.dev_model.specs.FrameLaws.{only_read_then}
use Rattle.geometry.specs.Faults.{DeviceFailed, SomeFailed}
use Rattle.image_view.specs.Found.{sets_in, updates_of}
use Rattle.image_view.specs.Trees.{btree_of, each_of, with_roots}
use Rattle.image_reader.specs.Answers.{AreRagged, IsSureBtree, Tells}
use Rattle.image_reader.specs.Faults.{tree_fault_device}
use Rattle.image_reader.specs.Volumes.{btree_in}
use Rattle.image_reader.specs.declared.found.FoundBtree.{FoundBtree}
use Rattle.image_reader.proofs.Counts.{cause_behind, of_first, sure_before, sure_behind}
use Rattle.image_reader.proofs.LoopsTold.{all_pushed, btrees_step, btrees_stop, handed_device, handed_tells, sure_at}
use Rattle.image_reader.proofs.trees.read_btrees.Goals as goal

pub returns-in_err-btree-clause-found : goal.returns-in_err-btree-clause-found
returns-in_err-btree-clause-found g c told sure =
    let D = g.D.Devices in
    let first = D.state c.args.devices.now in
    let mid = D.state c.loop-number.devices in
    let new = D.state c.read_btree.new.devices in
    let image = as_read (now first) in
    let layout = c.args.layout.now in
    let roots = c.args.roots.now in
    let i = c.loop-number.number in
    let btree = c.btree_at.result in
    let root = c.index-roots-from.result in
    let updates = updates_of c.args.entries.now in
    let sets = sets_in layout image in
    let so_far = c.loop-number.invariant in
    let lt : i < 9 = c.loop-number-test.true in
    let less : i < length roots = omega (arith, lt, c.requires.count) in
    let same : get_or roots i root ≡ root = sym (c.index-roots-from.is ∙ ap (λ n. get_or roots n root) c.from.ensures) in
    let whole = each_of (btree_of sets updates) (with_roots roots) in
    let fault = c.in_err-btree.field-0.0 in
    let told_one : Tells {X = FoundBtree} btree_in (btree_of sets updates (btree, root)) (Err fault) =
    of_first D.tells first mid new so_far.read c.read_btree.ensures.read told
    (λ (im : Image). (SomeFailed mid.faults new.faults → IsSureBtree layout.id im (btree_of (sets_in layout im) updates (btree, root))) → Tells {X = FoundBtree} btree_in (btree_of (sets_in layout im) updates (btree, root)) (Err fault))
    (c.in_err-btree.ensures.found told)
    (λ failed. sure_at sets updates roots i c.loop-number.btrees whole (so_far.found told (sure_before D.tells first mid new so_far.read c.read_btree.ensures.read sure)) btree root lt less c.btree_at.ensures same layout.id image (sure_behind D.tells first mid new so_far.read c.read_btree.ensures.read sure failed)) in
    handed_tells (map btree_in) whole c.from_residual.result fault c.from_residual.ensures.1
    (btrees_stop sets updates roots i c.loop-number.btrees whole (so_far.found told (sure_before D.tells first mid new so_far.read c.read_btree.ensures.read sure)) btree root lt less c.btree_at.ensures same fault told_one)

pub loop-number-preserved : goal.loop-number-preserved
loop-number-preserved g c =
    let D = g.D.Devices in
    let first = D.state c.args.devices.now in
    let mid = D.state c.loop-number.devices in
    let new = D.state c.read_btree.new.devices in
    let image = as_read (now first) in
    let layout = c.args.layout.now in
    let roots = c.args.roots.now in
    let i = c.loop-number.number in
    let btree = c.btree_at.result in
    let root = c.index-roots-from.result in
    let updates = updates_of c.args.entries.now in
    let sets = sets_in layout image in
    let so_far = c.loop-number.invariant in
    let lt : i < 9 = c.loop-number-test.true in
    let less : i < length roots = omega (arith, lt, c.requires.count) in
    let same : get_or roots i root ≡ root = sym (c.index-roots-from.is ∙ ap (λ n. get_or roots n root) c.from.ensures) in
    let whole = each_of (btree_of sets updates) (with_roots roots) in
    let read = c.in_ok-btree.btree in
    record {
      found = λ told sure.
          let told_one : Tells {X = FoundBtree} btree_in (btree_of sets updates (btree, root)) (Ok read) =
          of_first D.tells first mid new so_far.read c.read_btree.ensures.read told
          (λ (im : Image). (SomeFailed mid.faults new.faults → IsSureBtree layout.id im (btree_of (sets_in layout im) updates (btree, root))) → Tells {X = FoundBtree} btree_in (btree_of (sets_in layout im) updates (btree, root)) (Ok read))
          (c.in_ok-btree.ensures.found told)
          (λ failed. sure_at sets updates roots i c.loop-number.btrees whole (so_far.found told (sure_before D.tells first mid new so_far.read c.read_btree.ensures.read sure)) btree root lt less c.btree_at.ensures same layout.id image (sure_behind D.tells first mid new so_far.read c.read_btree.ensures.read sure failed)) in
          btrees_step sets updates roots i c.loop-number.btrees whole (so_far.found told (sure_before D.tells first mid new so_far.read c.read_btree.ensures.read sure)) btree root lt less c.btree_at.ensures same read c.push.new.self told_one c.in_ok-push.ensures.ok;
      ragged = λ told unfailed.
          all_pushed (λ (b : FoundBtree). AreRagged layout.id image (flat_map values_of b.levels) b.ragged) c.loop-number.btrees c.push.new.self read c.in_ok-push.ensures.ok
          (so_far.ragged told (sure_before D.tells first mid new so_far.read c.read_btree.ensures.read {P = ⊥} unfailed))
          (of_first D.tells first mid new so_far.read c.read_btree.ensures.read told (λ (im : Image). AreRagged layout.id im (flat_map values_of read.levels) read.ragged)
          (c.in_ok-btree.ensures.ragged told (sure_behind D.tells first mid new so_far.read c.read_btree.ensures.read {P = ⊥} unfailed)));
      read = only_read_then D.tells first mid new so_far.read c.read_btree.ensures.read;
    }

pub returns-in_err-btree-clause-read : goal.returns-in_err-btree-clause-read
returns-in_err-btree-clause-read g c =
    let D = g.D.Devices in
    let first = D.state c.args.devices.now in
    let mid = D.state c.loop-number.devices in
    let new = D.state c.read_btree.new.devices in
    only_read_then D.tells first mid new c.loop-number.invariant.read c.read_btree.ensures.read

pub returns-in_err-push-clause-read : goal.returns-in_err-push-clause-read
returns-in_err-push-clause-read g c =
    let D = g.D.Devices in
    let first = D.state c.args.devices.now in
    let mid = D.state c.loop-number.devices in
    let new = D.state c.read_btree.new.devices in
    only_read_then D.tells first mid new c.loop-number.invariant.read c.read_btree.ensures.read

pub returns-in_err-btree-clause-cause : goal.returns-in_err-btree-clause-cause
returns-in_err-btree-clause-cause g c =
    let D = g.D.Devices in
    let first = D.state c.args.devices.now in
    let mid = D.state c.loop-number.devices in
    let new = D.state c.read_btree.new.devices in
    let fault = c.in_err-btree.field-0.0 in
    handed_device c.from_residual.result fault (λ dev. DeviceFailed dev first.faults new.faults) c.from_residual.ensures.1
    (cause_behind (tree_fault_device fault) first.faults mid.faults new.faults c.loop-number.invariant.read.calls c.in_err-btree.ensures.cause)
