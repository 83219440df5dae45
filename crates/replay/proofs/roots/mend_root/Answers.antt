use Rattle.std.proofs.Common.{◌≡◌, ◌<◌, ◌≤◌, Some, ⊎_elim, arith, ◌∙◌, subst, sym}
use Rattle.std.proofs.lemmas.Bool.{cases_lt}
use Rattle.std.proofs.lemmas.Option.{same_Some}
use Rattle.dev_model.specs.Devices.{now}
use Rattle.dev_model.specs.Disk.{as_read, block_at}
use Rattle.geometry.specs.Faults.{DeviceFailed}
use Rattle.node_store.specs.Answers.{AreAlike}
use Rattle.node_store.specs.Copies.{copies_at}
use Rattle.node_store.specs.Mending.{CanBeMended, IsToMend, IsWanted, StayShown}
use Rattle.node_store.proofs.MendedFrames.{ok_map, writes_more, writes_read}
use Rattle.vol_types.specs.Limits.{bucket_blocks}
use Rattle.replay.specs.Roots.{IsMendedIn, IsToMendIn, IsWantedIn, listed_end}
use Rattle.replay.proofs.Handed.{ok_given}
use Rattle.replay.proofs.roots.mend_root.Goals as goal

pub returns-clause-writes : goal.returns-clause-writes
returns-clause-writes g c tells =
    let D = g.D.Devices in
    let old = D.state c.args.devices.now in
    let new = D.state c.mend_node.new.devices in
    let id = c.args.layout.now.id in
    let ends = c.args.ends.now in
    let root = c.args.root.now in
    let image = as_read (now old) in
    let end = c.in-Some.end in
    let listed : listed_end ends root.birth ≡ Some end = sym c.listed_end.ensures ∙ c.in-Some.is in
    ⊎_elim
    (λ (past : bucket_blocks < end). writes_read (IsToMendIn id ends root image (λ dev. DeviceFailed dev old.faults new.faults)) (IsWantedIn id ends root image) old new
    ((c.mend_node.ensures.unplaced (λ may. let within = may.within in omega (arith, past, within))).disks tells))
    (λ (within : end ≤ bucket_blocks).
    writes_more (IsToMendIn id ends root image (λ dev. DeviceFailed dev old.faults new.faults)) (IsToMend id root.birth root.places end image (λ dev. DeviceFailed dev old.faults new.faults)) (IsWantedIn id ends root image) (IsWanted id root.birth root.places end image) old new
    (λ d b at. record { end = end; listed = listed; within = within; mends = at }) (λ d b x at. record { end = end; listed = listed; within = within; wanted = at }) (c.mend_node.ensures.writes tells))
    (cases_lt bucket_blocks end)

pub returns-clause-kept : goal.returns-clause-kept
returns-clause-kept g c tells quiet =
    let D = g.D.Devices in
    let id = c.args.layout.now.id in
    let root = c.args.root.now in
    let image = as_read (now (D.state c.args.devices.now)) in
    let listed : listed_end c.args.ends.now root.birth ≡ Some c.in-Some.end = sym c.listed_end.ensures ∙ c.in-Some.is in
    let kept = c.mend_node.ensures.kept tells quiet in
    record {
      later = kept.later;
      past = kept.past;
      each = λ m lo hi left may end is within. subst (λ n. StayShown id root.birth root.places n image left) (same_Some c.in-Some.end end (sym listed ∙ is)) (kept.each m lo hi left may);
    }

pub returns-clause-idle : goal.returns-clause-idle
returns-clause-idle g c tells none whole = c.mend_node.ensures.idle tells none (whole c.in-Some.end (sym c.listed_end.ensures ∙ c.in-Some.is))

pub returns-clause-mended : goal.returns-clause-mended
returns-clause-mended g c tells =
    let D = g.D.Devices in
    let old = D.state c.args.devices.now in
    let new = D.state c.mend_node.new.devices in
    let layout = c.args.layout.now in
    let root = c.args.root.now in
    let image = as_read (now old) in
    let then = as_read (now new) in
    let listed : listed_end c.args.ends.now root.birth ≡ Some c.in-Some.end = sym c.listed_end.ensures ∙ c.in-Some.is in
    ok_map c.mend_node.result (CanBeMended layout root.birth root.places c.in-Some.end old.sizes image → AreAlike c.in-Some.end (copies_at (block_at then) root.places)) (IsMendedIn layout c.args.ends.now old.sizes image then root)
    (λ mended end is on. subst (λ n. CanBeMended layout root.birth root.places n old.sizes image → AreAlike n (copies_at (block_at then) root.places)) (same_Some c.in-Some.end end (sym listed ∙ is)) mended)
    (ok_given c.mend_node.result (CanBeMended layout root.birth root.places c.in-Some.end old.sizes image) (AreAlike c.in-Some.end (copies_at (block_at then) root.places)) (c.mend_node.ensures.mended tells))
