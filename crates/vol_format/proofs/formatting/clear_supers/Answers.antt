-- Both copies are cleared, one step after the other.
use Rattle.std.proofs.Common.{◌≡◌, ◌∙◌, List, ℕ, length, get_or, sym, ap, subst, refl, All}
use Rattle.dev_model.specs.Disk.{Disk, IsDisk, as_read, blocks_of, sizes_of}
use Rattle.dev_model.specs.Devices.{now}
use Rattle.dev_model.specs.FrameLaws.{stay_now}
use Rattle.vol_format.specs.Formatting.{Extend, ZeroOthers, ZeroSpares, other_block, spare_block}
use Rattle.vol_format.proofs.Stepping.{reached_first, reached_reading, read_count, step_taken}
use Rattle.vol_format.proofs.Surviving.{formats_failed, size_at, zeroing_writes}
use Rattle.vol_format.proofs.Written.{disk_count}
use Rattle.vol_format.proofs.formatting.clear_supers.Goals as goal

pub returns-in_err-write_copies-clause-formats : goal.returns-in_err-write_copies-clause-formats
returns-in_err-write_copies-clause-formats g c tells start stays places fresh =
    let D = g.D.Devices in
    let layout = c.args.layout.now in
    let old = D.state c.args.devices.now in
    let before = as_read (now start) in
    let same : now old ≡ now start = stay_now start old stays in
    let agree : (D.state c.args.devices.now).sizes ≡ sizes_of (now start) = g.met.D.Devices.agree tells c.args.devices.now ∙ ap (λ (ds : List Disk). sizes_of ds) same in
    let size : (dev : ℕ) → get_or (D.state c.args.devices.now).sizes dev 0 ≡ length (blocks_of before dev) = λ dev. ap (λ (s : List ℕ). get_or s dev 0) agree ∙ size_at (now start) dev in
    let count : length (D.state c.args.devices.now).sizes ≡ length before = ap (λ (s : List ℕ). length s) agree ∙ disk_count (now start) ∙ sym (read_count (now start)) in
    formats_failed c.from_residual.result c.write_copies.result layout fresh ZeroOthers Extend start (D.state c.write_copies.new.devices) c.from_residual.ensures.0
    (step_taken c.write_copies.result layout fresh ZeroSpares ZeroOthers _ start old (D.state c.write_copies.new.devices) (g.met.D.Devices.sound tells c.write_copies.new.devices) refl
    (reached_reading layout fresh ZeroSpares start start old (reached_first layout fresh start (subst (λ (ds : List Disk). All IsDisk ds) same (g.met.D.Devices.sound tells c.args.devices.now))) stays)
    (zeroing_writes before (D.state c.args.devices.now).sizes c.args.spares.now c.args.blank.now (λ dev. spare_block (blocks_of before dev)) c.requires.blank (c.requires.spares ∙ count) size places.spare)
    (c.write_copies.ensures.step tells))

pub returns-clause-formats : goal.returns-clause-formats
returns-clause-formats g c tells start stays places fresh =
    let D = g.D.Devices in
    let layout = c.args.layout.now in
    let old = D.state c.args.devices.now in
    let mid = c.write_copies.new.devices in
    let before = as_read (now start) in
    let same : now old ≡ now start = stay_now start old stays in
    let agree : (D.state c.args.devices.now).sizes ≡ sizes_of (now start) = g.met.D.Devices.agree tells c.args.devices.now ∙ ap (λ (ds : List Disk). sizes_of ds) same in
    let size : (dev : ℕ) → get_or (D.state c.args.devices.now).sizes dev 0 ≡ length (blocks_of before dev) = λ dev. ap (λ (s : List ℕ). get_or s dev 0) agree ∙ size_at (now start) dev in
    let size_mid : (dev : ℕ) → get_or (D.state mid).sizes dev 0 ≡ length (blocks_of before dev) = λ dev. ap (λ (s : List ℕ). get_or s dev 0) c.write_copies.ensures.goes_on.sizes ∙ size dev in
    let count : length (D.state c.args.devices.now).sizes ≡ length before = ap (λ (s : List ℕ). length s) agree ∙ disk_count (now start) ∙ sym (read_count (now start)) in
    step_taken c.write_copies-2.result layout fresh ZeroOthers Extend _ start (D.state mid) (D.state c.write_copies-2.new.devices) (g.met.D.Devices.sound tells c.write_copies-2.new.devices) refl
    (step_taken _ layout fresh ZeroSpares ZeroOthers _ start old (D.state mid) (g.met.D.Devices.sound tells mid) refl
    (reached_reading layout fresh ZeroSpares start start old (reached_first layout fresh start (subst (λ (ds : List Disk). All IsDisk ds) same (g.met.D.Devices.sound tells c.args.devices.now))) stays)
    (zeroing_writes before (D.state c.args.devices.now).sizes c.args.spares.now c.args.blank.now (λ dev. spare_block (blocks_of before dev)) c.requires.blank (c.requires.spares ∙ count) size places.spare)
    (c.in_ok-write_copies.ensures.step tells)).reached.0
    (zeroing_writes before (D.state mid).sizes c.args.others.now c.args.blank.now (λ dev. other_block (blocks_of before dev)) c.requires.blank (c.requires.others ∙ count) size_mid places.other)
    (c.write_copies-2.ensures.step tells)
