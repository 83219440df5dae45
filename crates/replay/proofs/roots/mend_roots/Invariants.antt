use Rattle.std.proofs.Common.{◌≡◌, ◌<◌, ℕ, All, get_or, length}
use Rattle.dev_model.specs.Crashes.{EachCrash, IsQuiet}
use Rattle.dev_model.specs.Disk.{as_read}
use Rattle.dev_model.specs.Devices.{now}
use Rattle.dev_model.specs.Frames.{AreOnlyRead, GoOn}
use Rattle.geometry.specs.Faults.{DeviceFailed, SomeFailed}
use Rattle.node_store.specs.Mending.{KeepsRest, WritesOnly}
use Rattle.replay.specs.Roots.{IsMendedIn, IsToMendOf, IsWantedOf, IsWholeUpTo, ShareNoBlock, StaysShownUpTo, no_node}
use Rattle.replay.proofs.roots.mend_roots.Given as goal

abbrev pub invariant-loop-root : goal.invariant-loop-root
invariant-loop-root g l =
    let D = g.D.Devices in
    let first = D.state l.fn.devices in
    let here = D.state l.devices in
    let layout = l.fn.layout in
    let roots = l.fn.roots in
    let ends = l.fn.ends in
    let image = as_read (now first) in
    record {
      writes : D.tells → ShareNoBlock roots → WritesOnly (IsToMendOf layout.id ends roots l.root-index image (λ dev. DeviceFailed dev first.faults here.faults)) (IsWantedOf layout.id ends roots l.root-index image) first here;
      kept : D.tells → ShareNoBlock roots → IsQuiet (now first) → EachCrash (λ _ _ left. All (StaysShownUpTo layout.id ends image left) roots) first here;
      idle : D.tells → ¬ SomeFailed first.faults here.faults → All (IsWholeUpTo ends image) roots → AreOnlyRead D.tells first here;
      mended : D.tells → ShareNoBlock roots → (k : ℕ) → k < l.root-index → k < length roots → IsMendedIn layout ends first.sizes image (as_read (now here)) (get_or roots k no_node);
      rest : D.tells → KeepsRest first here;
      goes_on : GoOn first here;
      unfailed : here.faults.writes ≡ first.faults.writes;
    }
