use Rattle.std.proofs.Common.{◌≤◌, ◌+◌, List, ℕ, get_or, ap, sym, subst, arith}
use Rattle.std.specs.Prelude.{option_and_then}
use Rattle.dev_model.specs.Devices.{now}
use Rattle.node_store.specs.Copies.{shown_in}
use Rattle.node_store.proofs.NoBlocks.{no_block}
use Rattle.node_store.proofs.reading.read_shown.Goals as goal

pub returns-then-block-from-clause-shown : goal.returns-then-block-from-clause-shown
returns-then-block-from-clause-shown g c tells =
    let D = g.D.Devices in
    let state = D.state c.args.devices.now in
    let place = c.args.place.now in
    let past : get_or state.sizes place.dev 0 ≤ place.block + c.args.n = omega arith in
    sym (ap (option_and_then shown_in) (no_block (now state) place.dev (place.block + c.args.n) (subst (λ (sizes : List ℕ). get_or sizes place.dev 0 ≤ place.block + c.args.n) (g.met.D.Devices.agree tells c.args.devices.now) past)))
