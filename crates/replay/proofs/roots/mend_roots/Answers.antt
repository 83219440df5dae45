use Rattle.std.proofs.Common.{◌≡◌, ◌+◌, ◌<◌, ℕ, List, length, get_or, arith, refl, subst, sym, ◌∙◌}
use Rattle.std.proofs.lemmas.List.{get_or_default}
use Rattle.std.proofs.lemmas.List.Elements.{All-from_get_or}
use Rattle.dev_model.specs.Crashes.{EachCrash}
use Rattle.dev_model.specs.Devices.{now}
use Rattle.dev_model.specs.Disk.{Disk, as_read}
use Rattle.dev_model.specs.FrameLaws.{go_on_here, go_on_then, only_read_here, only_read_then, stay_now}
use Rattle.geometry.specs.Faults.{DeviceFailed, fault_device}
use Rattle.node_store.specs.Mending.{WritesOnly}
use Rattle.node_store.proofs.MendedFrames.{failed_earlier, failed_later, failed_then, rest_then, writes_more, writes_none}
use Rattle.vol_types.specs.declared.pointers.NodePtr.{NodePtr}
use Rattle.replay.specs.Roots.{IsMendedIn, IsToMendIn, IsToMendOf, IsWantedIn, IsWantedOf, IsWholeUpTo, StaysShownUpTo, no_node}
use Rattle.replay.proofs.Handed.{handed_fault}
use Rattle.replay.proofs.MendedRoots.{all_shown, mended_more_roots, shown_more_roots, writes_more_roots}
use Rattle.replay.proofs.roots.mend_roots.Goals as goal

pub loop-root-init : goal.loop-root-init
loop-root-init g c =
    let state = g.D.Devices.state c.args.devices.now in
    let id = c.args.layout.now.id in
    let ends = c.args.ends.now in
    let roots = c.args.roots.now in
    let image = as_read (now state) in
    record {
      writes = λ tells apart. writes_none (IsToMendOf id ends roots 0 image (λ dev. DeviceFailed dev state.faults state.faults)) (IsWantedOf id ends roots 0 image) state;
      kept = λ tells apart quiet. all_shown id ends roots state quiet;
      idle = λ tells none whole. only_read_here g.D.Devices.tells state;
      mended = λ tells apart k before low. absurd (omega (arith, before));
      rest = λ tells. record { quiet = λ quiet. quiet; rest = λ count rest. rest };
      goes_on = go_on_here state;
      unfailed = refl;
    }

pub loop-root-preserved : goal.loop-root-preserved
loop-root-preserved g c =
    let D = g.D.Devices in
    let first = D.state c.args.devices.now in
    let mid = D.state c.loop-root.devices in
    let new = D.state c.mend_root.new.devices in
    let layout = c.args.layout.now in
    let id = layout.id in
    let roots = c.args.roots.now in
    let ends = c.args.ends.now in
    let i = c.loop-root.root-index in
    let low = c.loop-root-test.true in
    let so_far = c.loop-root.invariant in
    let before = so_far.goes_on.calls in
    let after = c.mend_root.ensures.goes_on.calls in
    let image = as_read (now first) in
    let here = as_read (now mid) in
    let root = c.root-item.result in
    let same : root ≡ get_or roots i no_node = c.root-item.is ∙ get_or_default roots i root no_node low in
    record {
      writes = λ tells apart. writes_more_roots layout ends roots i low apart first mid new before after (so_far.writes tells apart)
          (subst (λ (r : NodePtr). WritesOnly (IsToMendIn id ends r here (λ dev. DeviceFailed dev mid.faults new.faults)) (IsWantedIn id ends r here) mid new) same (c.mend_root.ensures.writes tells))
          (i + 1) (let l : i < i + 1 = omega arith in l);
      kept = λ tells apart quiet.
          let quiet_mid = (so_far.rest tells).quiet quiet in
          shown_more_roots layout ends roots i low apart first mid new before after (so_far.writes tells apart)
          (subst (λ (r : NodePtr). WritesOnly (IsToMendIn id ends r here (λ dev. DeviceFailed dev mid.faults new.faults)) (IsWantedIn id ends r here) mid new) same (c.mend_root.ensures.writes tells))
          (g.met.D.Devices.sound tells c.loop-root.devices) quiet_mid (so_far.kept tells apart quiet)
          (subst (λ (r : NodePtr). EachCrash (λ _ _ left. StaysShownUpTo id ends here left r) mid new) same (c.mend_root.ensures.kept tells quiet_mid));
      idle = λ tells none whole.
          let before_read = so_far.idle tells (λ failed. none (failed.0, failed_earlier failed.0 first.faults mid.faults new.faults after failed.1)) whole in
          only_read_then D.tells first mid new before_read (c.mend_root.ensures.idle tells (λ failed. none (failed.0, failed_later failed.0 first.faults mid.faults new.faults before failed.1))
          (subst (λ (ds : List Disk). IsWholeUpTo ends (as_read ds) root) (sym (stay_now first mid (before_read.disks tells))) (subst (λ (r : NodePtr). IsWholeUpTo ends image r) (sym c.root-item.is) (whole i root low))));
      mended = λ tells apart. mended_more_roots layout ends roots i low apart first mid new before after (so_far.writes tells apart)
          (subst (λ (r : NodePtr). WritesOnly (IsToMendIn id ends r here (λ dev. DeviceFailed dev mid.faults new.faults)) (IsWantedIn id ends r here) mid new) same (c.mend_root.ensures.writes tells))
          first.sizes (so_far.mended tells apart)
          (subst (λ (sizes : List ℕ). IsMendedIn layout ends sizes here (as_read (now new)) (get_or roots i no_node)) so_far.goes_on.sizes
          (subst (λ (r : NodePtr). IsMendedIn layout ends mid.sizes here (as_read (now new)) r) same (c.in_ok-mend_root.ensures.mended tells)));
      rest = λ tells. rest_then first mid new (so_far.rest tells) (c.in_ok-mend_root.ensures.rest tells);
      goes_on = go_on_then first mid new so_far.goes_on c.mend_root.ensures.goes_on;
      unfailed = c.in_ok-mend_root.ensures.cause ∙ so_far.unfailed;
    }

pub returns-in_err-mend_root-clause-writes : goal.returns-in_err-mend_root-clause-writes
returns-in_err-mend_root-clause-writes g c tells apart =
    let D = g.D.Devices in
    let first = D.state c.args.devices.now in
    let mid = D.state c.loop-root.devices in
    let new = D.state c.mend_root.new.devices in
    let layout = c.args.layout.now in
    let id = layout.id in
    let roots = c.args.roots.now in
    let ends = c.args.ends.now in
    let i = c.loop-root.root-index in
    let low = c.loop-root-test.true in
    let here = as_read (now mid) in
    let root = c.root-item.result in
    let same : root ≡ get_or roots i no_node = c.root-item.is ∙ get_or_default roots i root no_node low in
    writes_more_roots layout ends roots i low apart first mid new c.loop-root.invariant.goes_on.calls c.mend_root.ensures.goes_on.calls (c.loop-root.invariant.writes tells apart)
    (subst (λ (r : NodePtr). WritesOnly (IsToMendIn id ends r here (λ dev. DeviceFailed dev mid.faults new.faults)) (IsWantedIn id ends r here) mid new) same (c.mend_root.ensures.writes tells))
    (length roots) low

pub returns-in_err-mend_root-clause-kept : goal.returns-in_err-mend_root-clause-kept
returns-in_err-mend_root-clause-kept g c tells apart quiet =
    let D = g.D.Devices in
    let first = D.state c.args.devices.now in
    let mid = D.state c.loop-root.devices in
    let new = D.state c.mend_root.new.devices in
    let layout = c.args.layout.now in
    let id = layout.id in
    let roots = c.args.roots.now in
    let ends = c.args.ends.now in
    let i = c.loop-root.root-index in
    let low = c.loop-root-test.true in
    let so_far = c.loop-root.invariant in
    let here = as_read (now mid) in
    let root = c.root-item.result in
    let same : root ≡ get_or roots i no_node = c.root-item.is ∙ get_or_default roots i root no_node low in
    let quiet_mid = (so_far.rest tells).quiet quiet in
    shown_more_roots layout ends roots i low apart first mid new so_far.goes_on.calls c.mend_root.ensures.goes_on.calls (so_far.writes tells apart)
    (subst (λ (r : NodePtr). WritesOnly (IsToMendIn id ends r here (λ dev. DeviceFailed dev mid.faults new.faults)) (IsWantedIn id ends r here) mid new) same (c.mend_root.ensures.writes tells))
    (g.met.D.Devices.sound tells c.loop-root.devices) quiet_mid (so_far.kept tells apart quiet)
    (subst (λ (r : NodePtr). EachCrash (λ _ _ left. StaysShownUpTo id ends here left r) mid new) same (c.mend_root.ensures.kept tells quiet_mid))

pub returns-in_err-mend_root-clause-idle : goal.returns-in_err-mend_root-clause-idle
returns-in_err-mend_root-clause-idle g c tells none whole =
    let D = g.D.Devices in
    let first = D.state c.args.devices.now in
    let mid = D.state c.loop-root.devices in
    let new = D.state c.mend_root.new.devices in
    let ends = c.args.ends.now in
    let so_far = c.loop-root.invariant in
    let root = c.root-item.result in
    let before = so_far.idle tells (λ failed. none (failed.0, failed_earlier failed.0 first.faults mid.faults new.faults c.mend_root.ensures.goes_on.calls failed.1)) whole in
    only_read_then D.tells first mid new before (c.mend_root.ensures.idle tells (λ failed. none (failed.0, failed_later failed.0 first.faults mid.faults new.faults so_far.goes_on.calls failed.1))
    (subst (λ (ds : List Disk). IsWholeUpTo ends (as_read ds) root) (sym (stay_now first mid (before.disks tells)))
    (subst (λ (r : NodePtr). IsWholeUpTo ends (as_read (now first)) r) (sym c.root-item.is) (whole c.loop-root.root-index root c.loop-root-test.true))))

pub returns-in_err-mend_root-clause-goes_on : goal.returns-in_err-mend_root-clause-goes_on
returns-in_err-mend_root-clause-goes_on g c =
    let D = g.D.Devices in
    go_on_then (D.state c.args.devices.now) (D.state c.loop-root.devices) (D.state c.mend_root.new.devices) c.loop-root.invariant.goes_on c.mend_root.ensures.goes_on

pub returns-in_err-mend_root-clause-cause : goal.returns-in_err-mend_root-clause-cause
returns-in_err-mend_root-clause-cause g c =
    let D = g.D.Devices in
    let first = D.state c.args.devices.now in
    let mid = D.state c.loop-root.devices in
    let new = D.state c.mend_root.new.devices in
    handed_fault c.from_residual.result c.in_err-mend_root.field-0.0 first.faults new.faults c.from_residual.ensures.1
    (failed_then (fault_device c.in_err-mend_root.field-0.0) first.faults mid.faults new.faults c.loop-root.invariant.goes_on.calls c.loop-root.invariant.unfailed c.in_err-mend_root.ensures.cause)

pub returns-clause-writes : goal.returns-clause-writes
returns-clause-writes g c tells apart =
    let D = g.D.Devices in
    let id = c.args.layout.now.id in
    let roots = c.args.roots.now in
    let ends = c.args.ends.now in
    let i = c.loop-root.root-index in
    let first = D.state c.args.devices.now in
    let here = D.state c.loop-root.devices in
    let image = as_read (now first) in
    writes_more (IsToMendOf id ends roots (length roots) image (λ dev. DeviceFailed dev first.faults here.faults)) (IsToMendOf id ends roots i image (λ dev. DeviceFailed dev first.faults here.faults)) (IsWantedOf id ends roots (length roots) image) (IsWantedOf id ends roots i image) first here
    (λ d b at. record { index = at.index; below = at.inside; inside = at.inside; mends = at.mends }) (λ d b x at. record { index = at.index; below = at.inside; inside = at.inside; wanted = at.wanted })
    (c.loop-root.invariant.writes tells apart)

pub returns-clause-mended : goal.returns-clause-mended
returns-clause-mended g c tells apart =
    let D = g.D.Devices in
    let first = D.state c.args.devices.now in
    let here = D.state c.loop-root.devices in
    let past = c.loop-root-test.false in
    All-from_get_or (IsMendedIn c.args.layout.now c.args.ends.now first.sizes (as_read (now first)) (as_read (now here))) c.args.roots.now no_node
    (λ k low. c.loop-root.invariant.mended tells apart k (omega (arith, low, past)) low)
