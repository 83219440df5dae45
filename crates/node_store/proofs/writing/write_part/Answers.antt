use Rattle.std.proofs.Common.{◌≡◌, ◌+◌, ◌∙◌, List, ℕ, ap, subst}
use Rattle.std.specs.Prelude.{OnOk}
use Rattle.vol_types.specs.declared.pointers.Place.{Place}
use Rattle.dev_model.specs.Devices.{now}
use Rattle.dev_model.specs.Disk.{as_read}
use Rattle.dev_model.specs.Crashes.{EachCrash, IsCrashImageBut}
use Rattle.dev_model.specs.HeldBlocks.{HoldOnly}
use Rattle.node_store.specs.Plans.{block_of_bytes, part_bytes}
use Rattle.node_store.specs.Writes.{HoldCopies, IsCopyBlock, IsCopyOf}
use Rattle.node_store.proofs.writing.write_part.Goals as goal

pub returns-clause-crashes : goal.returns-clause-crashes
returns-clause-crashes g c tells =
    let D = g.D.Devices in
    let old = D.state c.args.devices.now in
    subst (λ (ps : List Place). EachCrash (λ _ _ image. IsCrashImageBut (IsCopyOf ps (c.args.blocked.now.block + c.args.part)) (now old) image) old (D.state c.write_copies.new.devices)) c.as_slice-2.ensures (c.write_copies.ensures.crashes tells)

pub returns-clause-written : goal.returns-clause-written
returns-clause-written g c tells =
    let D = g.D.Devices in
    let blocked = c.args.blocked.now in
    let image = as_read (now (D.state c.write_copies.new.devices)) in
    let bytes : c.block_in-bytes.result.now ≡ part_bytes blocked c.args.part = c.block_in-bytes.ensures.bytes ∙ ap (λ (bs : List ℕ). block_of_bytes bs c.args.part) c.as_slice.ensures in
    subst (λ (bs : List ℕ). OnOk c.write_copies.result (HoldCopies blocked.places (blocked.block + c.args.part) bs image)) bytes
    (subst (λ (ps : List Place). OnOk c.write_copies.result (HoldCopies ps (blocked.block + c.args.part) c.block_in-bytes.result.now image)) c.as_slice-2.ensures (c.write_copies.ensures.written tells))

pub returns-clause-asks : goal.returns-clause-asks
returns-clause-asks g c tells opens =
    let D = g.D.Devices in
    let blocked = c.args.blocked.now in
    let old = D.state c.args.devices.now in
    let new = D.state c.write_copies.new.devices in
    let bytes : c.block_in-bytes.result.now ≡ part_bytes blocked c.args.part = c.block_in-bytes.ensures.bytes ∙ ap (λ (bs : List ℕ). block_of_bytes bs c.args.part) c.as_slice.ensures in
    subst (λ (bs : List ℕ). HoldOnly opens (IsCopyBlock blocked.places (blocked.block + c.args.part) bs) old new) bytes
    (subst (λ (ps : List Place). HoldOnly opens (IsCopyBlock ps (blocked.block + c.args.part) c.block_in-bytes.result.now) old new) c.as_slice-2.ensures (c.write_copies.ensures.asks tells opens))
