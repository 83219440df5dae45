use Rattle.std.proofs.Common.{◌≡◌, ◌+◌, inl, ℕ, List, Option, true, refl, ap, subst, sym, ◌∙◌}
use Rattle.std.specs.Prelude.{IfSome}
use Rattle.dev_model.specs.Devices.{now}
use Rattle.dev_model.specs.Disk.{Disk, as_read, block_at}
use Rattle.dev_model.specs.FrameLaws.{only_read_then, stay_now}
use Rattle.vol_types.specs.declared.pointers.Place.{Place}
use Rattle.node_store.specs.Mending.{AreWritten, IsCopyShown, IsShown, KeepsRest, is_of_node}
use Rattle.node_store.specs.Writes.{HaveCopies, IsCopyBlock, IsCopyOf}
use Rattle.node_store.specs.declared.mending.Shown.{Shown}
use Rattle.node_store.proofs.MendedFrames.{failed_later, ok_map, rest_read, rest_then, writes_more, written_then}
use Rattle.node_store.proofs.MendedKept.{block_kept}
use Rattle.node_store.proofs.MendedNodes.{one_place}
use Rattle.node_store.proofs.MendedSteps.{IsSpared, Lacks, block_writes}
use Rattle.node_store.proofs.mending.mend_block.Goals as goal

pub returns-in-None-clause-mended : goal.returns-in-None-clause-mended
returns-in-None-clause-mended g c tells have bytes shown = absurd (c.in_ok-shown_block.ensures.none tells c.in-None.is bytes shown)

pub returns-in-None-clause-written : goal.returns-in-None-clause-written
returns-in-None-clause-written g c tells d b =
    let D = g.D.Devices in
    inl (ap (λ (ds : List Disk). block_at (as_read ds) d b) (stay_now (D.state c.args.devices.now) (D.state c.shown_block.new.devices) (c.shown_block.ensures.read.disks tells)))

pub returns-in-Some-clause-writes : goal.returns-in-Some-clause-writes
returns-in-Some-clause-writes g c tells =
    let D = g.D.Devices in
    let old = D.state c.args.devices.now in
    let mid = D.state c.shown_block.new.devices in
    let new = D.state c.mend_copies-mended.new.devices in
    let id = c.args.layout.now.id in
    let birth = c.args.birth in
    let places = c.args.places.now in
    let n = c.args.n in
    let shown = c.in-Some.shown in
    let wanted = IsCopyShown id birth places n (as_read (now old)) in
    let found = subst (λ (o : Option Shown). IfSome o (λ s. (is : IsShown id birth places (as_read (now old)) n s.bytes) × (is.place.dev ≡ s.dev))) c.in-Some.is (c.in_ok-shown_block.ensures.shown tells) in
    writes_more (λ d b. IsCopyOf places n d b × Lacks id birth old new d b) (IsSpared id birth places n shown.dev old new) wanted wanted old new (λ d b is. (is.0, is.2)) (λ d b x is. is)
    (block_writes id birth places n shown.dev shown.bytes old mid new (c.shown_block.ensures.read.disks tells) c.shown_block.ensures.read.calls found.0 (c.mend_copies-mended.ensures.writes tells))

pub returns-in-Some-clause-kept : goal.returns-in-Some-clause-kept
returns-in-Some-clause-kept g c tells quiet =
    let D = g.D.Devices in
    let old = D.state c.args.devices.now in
    let mid = D.state c.shown_block.new.devices in
    let new = D.state c.mend_copies-mended.new.devices in
    let id = c.args.layout.now.id in
    let birth = c.args.birth in
    let places = c.args.places.now in
    let n = c.args.n in
    let shown = c.in-Some.shown in
    let found = subst (λ (o : Option Shown). IfSome o (λ s. (is : IsShown id birth places (as_read (now old)) n s.bytes) × (is.place.dev ≡ s.dev))) c.in-Some.is (c.in_ok-shown_block.ensures.shown tells) in
    block_kept id birth places n shown.dev old new shown.bytes found.0 found.1
    (block_writes id birth places n shown.dev shown.bytes old mid new (c.shown_block.ensures.read.disks tells) c.shown_block.ensures.read.calls found.0 (c.mend_copies-mended.ensures.writes tells)) quiet

pub returns-in-Some-clause-idle : goal.returns-in-Some-clause-idle
returns-in-Some-clause-idle g c tells none whole =
    let D = g.D.Devices in
    let old = D.state c.args.devices.now in
    let mid = D.state c.shown_block.new.devices in
    let new = D.state c.mend_copies-mended.new.devices in
    let id = c.args.layout.now.id in
    let birth = c.args.birth in
    let places = c.args.places.now in
    let n = c.args.n in
    let found = subst (λ (o : Option Shown). IfSome o (λ s. (is : IsShown id birth places (as_read (now old)) n s.bytes) × (is.place.dev ≡ s.dev))) c.in-Some.is (c.in_ok-shown_block.ensures.shown tells) in
    only_read_then D.tells old mid new c.shown_block.ensures.read
    (c.mend_copies-mended.ensures.idle tells (λ failed. none (failed.0, failed_later failed.0 old.faults mid.faults new.faults c.shown_block.ensures.read.calls failed.1))
    (λ place there. subst (λ (ds : List Disk). is_of_node id birth (block_at (as_read ds) place.dev (place.block + n)) ≡ true) (sym (stay_now old mid (c.shown_block.ensures.read.disks tells))) (whole c.in-Some.shown.bytes found.0 place there)))

pub returns-in-Some-clause-mended : goal.returns-in-Some-clause-mended
returns-in-Some-clause-mended g c tells have bytes shown =
    let D = g.D.Devices in
    let old = D.state c.args.devices.now in
    let mid = D.state c.shown_block.new.devices in
    let id = c.args.layout.now.id in
    let birth = c.args.birth in
    let places = c.args.places.now in
    let n = c.args.n in
    let stay = stay_now old mid (c.shown_block.ensures.read.disks tells) in
    let found = subst (λ (o : Option Shown). IfSome o (λ s. (is : IsShown id birth places (as_read (now old)) n s.bytes) × (is.place.dev ≡ s.dev))) c.in-Some.is (c.in_ok-shown_block.ensures.shown tells) in
    c.mend_copies-mended.ensures.mended tells (subst (λ (sizes : List ℕ). HaveCopies sizes places n) (sym c.shown_block.ensures.read.sizes) have)
    (λ place there from.
    let same : found.0.place ≡ place = one_place id birth places c.args.layout.now c.requires found.0.place place found.0.one there (found.1 ∙ sym from) in
    subst (λ (p : Place). is_of_node id birth (block_at (as_read (now mid)) p.dev (p.block + n)) ≡ true) same
    (subst (λ (ds : List Disk). is_of_node id birth (block_at (as_read ds) found.0.place.dev (found.0.place.block + n)) ≡ true) (sym stay) (ap (is_of_node id birth) found.0.stands ∙ found.0.opens)))

pub returns-in-Some-clause-written : goal.returns-in-Some-clause-written
returns-in-Some-clause-written g c tells =
    let D = g.D.Devices in
    let old = D.state c.args.devices.now in
    let mid = D.state c.shown_block.new.devices in
    let new = D.state c.mend_copies-mended.new.devices in
    let id = c.args.layout.now.id in
    let birth = c.args.birth in
    let places = c.args.places.now in
    let n = c.args.n in
    let image = as_read (now old) in
    let found = subst (λ (o : Option Shown). IfSome o (λ s. (is : IsShown id birth places image n s.bytes) × (is.place.dev ≡ s.dev))) c.in-Some.is (c.in_ok-shown_block.ensures.shown tells) in
    let wanted = IsCopyShown id birth places n image in
    let less = IsCopyBlock places n c.in-Some.shown.bytes in
    ok_map c.mend_copies-mended.result (AreWritten less (as_read (now mid)) (as_read (now new))) (AreWritten wanted image (as_read (now new)))
    (λ (written : AreWritten less (as_read (now mid)) (as_read (now new))).
    written_then wanted less image image (as_read (now new)) (λ d b x is. (is.0, subst (IsShown id birth places image n) (sym is.1) found.0)) (λ d b. inl refl)
    (subst (λ (ds : List Disk). AreWritten less (as_read ds) (as_read (now new))) (stay_now old mid (c.shown_block.ensures.read.disks tells)) written))
    (c.mend_copies-mended.ensures.written tells)

pub returns-in-Some-clause-rest : goal.returns-in-Some-clause-rest
returns-in-Some-clause-rest g c tells =
    let D = g.D.Devices in
    let old = D.state c.args.devices.now in
    let mid = D.state c.shown_block.new.devices in
    let new = D.state c.mend_copies-mended.new.devices in
    ok_map c.mend_copies-mended.result (KeepsRest mid new) (KeepsRest old new) (rest_then old mid new (rest_read old mid (c.shown_block.ensures.read.disks tells))) (c.mend_copies-mended.ensures.rest tells)
