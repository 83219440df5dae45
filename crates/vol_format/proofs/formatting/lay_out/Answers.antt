-- Devices are extended, prepared and sealed, one step after the other.
use Rattle.std.proofs.Common.{◌≡◌, ◌∙◌, true, List, ℕ, length, get_or, arith, subst, sym, ap, refl}
use Rattle.dev_model.specs.Disk.{as_read, blocks_of}
use Rattle.dev_model.specs.Devices.{now}
use Rattle.geometry.specs.Layouts.{is_layout_of}
use Rattle.vol_format.specs.Formatting.{Done, Extend, Prepare, Seal}
use Rattle.vol_format.proofs.Room.{layout_fits_on}
use Rattle.vol_format.proofs.Stepping.{read_count, step_taken}
use Rattle.vol_format.proofs.Surviving.{extending_writes, formats_failed, sealing_writes, size_at}
use Rattle.vol_format.proofs.Written.{disk_count}
use Rattle.vol_format.proofs.formatting.lay_out.Goals as goal

pub prepare_devices-requires-clause-fits : goal.prepare_devices-requires-clause-fits
prepare_devices-requires-clause-fits g c =
    layout_fits_on (g.D.Devices.state c.extend_devices.new.devices).sizes c.args.layout.now c.requires.layout (c.requires.count ∙ sym c.extend_devices.ensures.count)
    (λ dev within. c.in_ok-extend_devices.ensures.room dev (omega (arith, within, c.extend_devices.ensures.count)))

pub seal_devices-requires-clause-fits : goal.seal_devices-requires-clause-fits
seal_devices-requires-clause-fits g c =
    subst (λ (sizes : List ℕ). is_layout_of sizes c.args.layout.now ≡ true) (sym c.prepare_devices.ensures.goes_on.sizes)
    (layout_fits_on (g.D.Devices.state c.extend_devices.new.devices).sizes c.args.layout.now c.requires.layout (c.requires.count ∙ sym c.extend_devices.ensures.count)
    (λ dev within. c.in_ok-extend_devices.ensures.room dev (omega (arith, within, c.extend_devices.ensures.count))))

pub returns-in_err-extend_devices-clause-formats : goal.returns-in_err-extend_devices-clause-formats
returns-in_err-extend_devices-clause-formats g c tells start reached sizes =
    let D = g.D.Devices in
    let layout = c.args.layout.now in
    let fresh = c.args.fresh.now in
    let old = D.state c.args.devices.now in
    let before = as_read (now start) in
    let size : (dev : ℕ) → get_or (D.state c.args.devices.now).sizes dev 0 ≡ length (blocks_of before dev) = λ dev. ap (λ (s : List ℕ). get_or s dev 0) (sym sizes) ∙ size_at (now start) dev in
    let count : length layout.blocks ≡ length before = c.requires.count ∙ ap (λ (s : List ℕ). length s) (sym sizes) ∙ disk_count (now start) ∙ sym (read_count (now start)) in
    formats_failed c.from_residual.result c.extend_devices.result layout fresh Prepare Done start (D.state c.extend_devices.new.devices) c.from_residual.ensures.0
    (step_taken c.extend_devices.result layout fresh Extend Prepare _ start old (D.state c.extend_devices.new.devices) (g.met.D.Devices.sound tells c.extend_devices.new.devices) refl reached
    (extending_writes layout fresh before (D.state c.args.devices.now).sizes count size) (c.extend_devices.ensures.step tells))

pub returns-in_err-prepare_devices-clause-formats : goal.returns-in_err-prepare_devices-clause-formats
returns-in_err-prepare_devices-clause-formats g c tells start reached sizes =
    let D = g.D.Devices in
    let layout = c.args.layout.now in
    let fresh = c.args.fresh.now in
    let old = D.state c.args.devices.now in
    let extended = c.extend_devices.new.devices in
    let before = as_read (now start) in
    let size : (dev : ℕ) → get_or (D.state c.args.devices.now).sizes dev 0 ≡ length (blocks_of before dev) = λ dev. ap (λ (s : List ℕ). get_or s dev 0) (sym sizes) ∙ size_at (now start) dev in
    let count : length layout.blocks ≡ length before = c.requires.count ∙ ap (λ (s : List ℕ). length s) (sym sizes) ∙ disk_count (now start) ∙ sym (read_count (now start)) in
    formats_failed c.from_residual-in_err-prepare_devices.result c.prepare_devices.result layout fresh Seal Done start (D.state c.prepare_devices.new.devices) c.from_residual-in_err-prepare_devices.ensures.0
    (step_taken c.prepare_devices.result layout fresh Prepare Seal _ start (D.state extended) (D.state c.prepare_devices.new.devices) (g.met.D.Devices.sound tells c.prepare_devices.new.devices) refl
    (step_taken _ layout fresh Extend Prepare _ start old (D.state extended) (g.met.D.Devices.sound tells extended) refl reached
    (extending_writes layout fresh before (D.state c.args.devices.now).sizes count size) (c.in_ok-extend_devices.ensures.step tells)).reached.0
    (λ dev block. refl) (c.prepare_devices.ensures.step tells))

pub returns-clause-formats : goal.returns-clause-formats
returns-clause-formats g c tells start reached sizes =
    let D = g.D.Devices in
    let layout = c.args.layout.now in
    let fresh = c.args.fresh.now in
    let old = D.state c.args.devices.now in
    let extended = c.extend_devices.new.devices in
    let prepared = c.prepare_devices.new.devices in
    let before = as_read (now start) in
    let size : (dev : ℕ) → get_or (D.state c.args.devices.now).sizes dev 0 ≡ length (blocks_of before dev) = λ dev. ap (λ (s : List ℕ). get_or s dev 0) (sym sizes) ∙ size_at (now start) dev in
    let count : length layout.blocks ≡ length before = c.requires.count ∙ ap (λ (s : List ℕ). length s) (sym sizes) ∙ disk_count (now start) ∙ sym (read_count (now start)) in
    step_taken c.seal_devices.result layout fresh Seal Done _ start (D.state prepared) (D.state c.seal_devices.new.devices) (g.met.D.Devices.sound tells c.seal_devices.new.devices) refl
    (step_taken _ layout fresh Prepare Seal _ start (D.state extended) (D.state prepared) (g.met.D.Devices.sound tells prepared) refl
    (step_taken _ layout fresh Extend Prepare _ start old (D.state extended) (g.met.D.Devices.sound tells extended) refl reached
    (extending_writes layout fresh before (D.state c.args.devices.now).sizes count size) (c.in_ok-extend_devices.ensures.step tells)).reached.0
    (λ dev block. refl) (c.in_ok-prepare_devices.ensures.step tells)).reached.0
    (sealing_writes layout fresh before count) (c.seal_devices.ensures.step tells)
