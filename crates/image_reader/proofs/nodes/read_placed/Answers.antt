use Rattle.std.proofs.Common.{◌≡◌, true, sym, subst}
use Rattle.std.specs.Prelude.{◌↔◌}
use Rattle.dev_model.specs.Devices.{now}
use Rattle.dev_model.specs.Disk.{as_read, block_at}
use Rattle.node_store.specs.Copies.{copies_at}
use Rattle.node_store.specs.NodeContents.{wanted_of}
use Rattle.image_reader.specs.Answers.{IsRagged}
use Rattle.image_reader.proofs.NodeTold.{node_told, ragged_told}
use Rattle.image_reader.proofs.nodes.read_placed.Goals as goal

pub returns-in_ok-found_node-in-Ok-clause-found : goal.returns-in_ok-found_node-in-Ok-clause-found
returns-in_ok-found_node-in-Ok-clause-found g c told updates noted sure =
    let D = g.D.Devices in
    let old = D.state c.args.devices.now in
    let new = D.state c.read_node.new.devices in
    let image = as_read (now old) in
    let layout = c.args.layout.now in
    let pointer = c.args.pointer.now in
    let answer = c.in-Ok.ensures.found told in
    node_told old.faults new.faults layout image c.args.btree c.args.least.now c.args.greatest.now pointer c.in-Ok.read answer updates c.args.changes.now.entries c.in_ok-found_node-in-Ok.field-0 c.requires.mirrored noted
    (λ failed. c.failed_reads_are_made_up.ensures.node old.faults new.faults layout.id (wanted_of c.args.btree c.args.least.now c.args.greatest.now pointer) (copies_at (block_at image) pointer.places) pointer c.in-Ok.read (sure failed) answer)
    c.found_node.ensures.sound c.in-Ok.ensures.least c.in-Ok.ensures.greatest c.in_ok-found_node-in-Ok.ensures.node

pub returns-in_ok-found_node-in-Ok-clause-ragged : goal.returns-in_ok-found_node-in-Ok-clause-ragged
returns-in_ok-found_node-in-Ok-clause-ragged g c told unfailed =
    let D = g.D.Devices in
    let old = D.state c.args.devices.now in
    let new = D.state c.read_node.new.devices in
    let image = as_read (now old) in
    let layout = c.args.layout.now in
    let pointer = c.args.pointer.now in
    subst (λ b. (b ≡ true) ↔ IsRagged layout.id image pointer) (sym c.in_ok-found_node-in-Ok.ensures.ragged)
    (ragged_told old.faults new.faults layout image c.args.btree c.args.least.now c.args.greatest.now pointer c.in-Ok.read (c.in-Ok.ensures.found told) unfailed)
