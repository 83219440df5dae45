use Rattle.std.proofs.Common.{◌≡◌, ◌+◌, ◌<◌, ◌≤◌, ⊎_elim, ℕ, List, Option, get_or, ap, subst, sym}
use Rattle.std.specs.Prelude.{IfSome}
use Rattle.std.proofs.lemmas.Bool.{cases_lt, false≢true}
use Rattle.dev_model.specs.Devices.{now}
use Rattle.geometry.specs.FaultLaws.{handed_device}
use Rattle.geometry.specs.Faults.{DeviceFailed}
use Rattle.node_store.specs.Mending.{is_of_node}
use Rattle.node_store.proofs.MendedFrames.{read_cause}
use Rattle.node_store.proofs.NoBlocks.{no_block}
use Rattle.node_store.proofs.mending.shown_copy.Goals as goal

pub returns-then-not-has_block-clause-none : goal.returns-then-not-has_block-clause-none
returns-then-not-has_block-clause-none g c tells same =
    let D = g.D.Devices in
    let state = D.state c.args.devices.now in
    let place = c.args.place.now in
    let cell = place.block + c.args.n in
    ⊎_elim
    (λ (within : cell < get_or state.sizes place.dev 0). absurd (false≢true (c.if-not-has_block.ensures.has.1 within)))
    (λ (past : get_or state.sizes place.dev 0 ≤ cell).
    ap (is_of_node c.args.layout.now.id c.args.birth) (no_block (now state) place.dev cell (subst (λ (sizes : List ℕ). get_or sizes place.dev 0 ≤ cell) (g.met.D.Devices.agree tells c.args.devices.now) past)))
    (cases_lt cell (get_or state.sizes place.dev 0))

pub returns-in_err-bytes-clause-cause : goal.returns-in_err-bytes-clause-cause
returns-in_err-bytes-clause-cause g c =
    let D = g.D.Devices in
    let old = D.state c.args.devices.now in
    let new = D.state c.read_block.new.devices in
    let dev = c.args.place.now.dev in
    subst (λ (failed : Option ℕ). IfSome failed (λ d. (d ≡ dev) × DeviceFailed d old.faults new.faults)) (sym (handed_device c.from_residual.result c.in_err-bytes.field-0.0 c.from_residual.ensures.1))
    (read_cause c.in_err-bytes.field-0.0 dev old.faults new.faults (c.has_block.ensures.device c.if-not-has_block.false) (g.met.D.Devices.counted c.args.devices.now) c.in_err-bytes.ensures.cause c.in_err-bytes.ensures.device)
