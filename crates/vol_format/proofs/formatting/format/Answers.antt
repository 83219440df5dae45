-- Formatting, from its parts: what a crash leaves of each step, and what is reached after all of them.
use Rattle.std.proofs.Common.{◌≡◌, ◌≤◌, ◌∙◌, List, ℕ, length, arith, sym, ap}
use Rattle.dev_model.specs.Disk.{as_read, sizes_of}
use Rattle.dev_model.specs.Devices.{now}
use Rattle.dev_model.specs.FrameLaws.{only_read_here, stay_here}
use Rattle.vol_format.proofs.Stepping.{read_count}
use Rattle.vol_format.proofs.Formatted.{formatted}
use Rattle.vol_format.proofs.FreshMeaning.{AreMeant}
use Rattle.vol_format.proofs.Surviving.{are_places, laws_of, survives_by_steps, survives_untouched}
use Rattle.vol_format.proofs.Written.{disk_count}
use Rattle.vol_format.proofs.formatting.format.Goals as goal

pub returns-in_err-blank-clause-survives : goal.returns-in_err-blank-clause-survives
returns-in_err-blank-clause-survives g c tells = survives_untouched c.args.layout.now (g.D.Devices.state c.args.devices.now) (g.D.Devices.state c.args.devices.now) (stay_here (g.D.Devices.state c.args.devices.now))

pub returns-in_err-session-clause-survives : goal.returns-in_err-session-clause-survives
returns-in_err-session-clause-survives g c tells = survives_untouched c.args.layout.now (g.D.Devices.state c.args.devices.now) (g.D.Devices.state c.args.devices.now) (stay_here (g.D.Devices.state c.args.devices.now))

pub returns-in_err-fresh-clause-survives : goal.returns-in_err-fresh-clause-survives
returns-in_err-fresh-clause-survives g c tells = survives_untouched c.args.layout.now (g.D.Devices.state c.args.devices.now) (g.D.Devices.state c.args.devices.now) (stay_here (g.D.Devices.state c.args.devices.now))

pub returns-in_err-firsts-clause-survives : goal.returns-in_err-firsts-clause-survives
returns-in_err-firsts-clause-survives g c tells = survives_untouched c.args.layout.now (g.D.Devices.state c.args.devices.now) (g.D.Devices.state c.args.devices.now) (stay_here (g.D.Devices.state c.args.devices.now))

pub returns-in_err-seconds-clause-survives : goal.returns-in_err-seconds-clause-survives
returns-in_err-seconds-clause-survives g c tells = survives_untouched c.args.layout.now (g.D.Devices.state c.args.devices.now) (g.D.Devices.state c.args.devices.now) (stay_here (g.D.Devices.state c.args.devices.now))

pub returns-in_err-spares-clause-survives : goal.returns-in_err-spares-clause-survives
returns-in_err-spares-clause-survives g c tells = survives_untouched c.args.layout.now (g.D.Devices.state c.args.devices.now) (g.D.Devices.state c.find_spares.new.devices) (c.find_spares.ensures.read.disks tells)

pub returns-in_err-others-clause-survives : goal.returns-in_err-others-clause-survives
returns-in_err-others-clause-survives g c tells = survives_untouched c.args.layout.now (g.D.Devices.state c.args.devices.now) (g.D.Devices.state c.find_spares.new.devices) (c.find_spares.ensures.read.disks tells)

pub returns-in_err-clear_supers-clause-survives : goal.returns-in_err-clear_supers-clause-survives
returns-in_err-clear_supers-clause-survives g c tells =
    let D = g.D.Devices in
    let layout = c.args.layout.now in
    let start = D.state c.args.devices.now in
    let agree : (D.state c.args.devices.now).sizes ≡ sizes_of (now start) = g.met.D.Devices.agree tells c.args.devices.now in
    let many : length (D.state c.args.devices.now).sizes ≡ length (as_read (now start)) = ap (λ (s : List ℕ). length s) agree ∙ disk_count (now start) ∙ sym (read_count (now start)) in
    let stays = c.in_ok-spares.ensures.read.disks tells in
    let places = are_places (as_read (now start)) c.in_ok-spares.spares.items c.deref-2.result.now c.deref.result.now c.deref-3.result.now c.in_ok-others.others.items c.deref-2.ensures.value c.deref.ensures.value c.deref-3.ensures.value
    (c.in_ok-spares.ensures.count ∙ many) (λ dev within. c.in_ok-spares.ensures.found tells dev (omega (arith, within, many))) c.in_ok-others.ensures.others in
    let laws = laws_of layout c.in_ok-firsts.firsts.items c.in_ok-seconds.seconds.items c.in_ok-firsts.ensures.made c.in_ok-seconds.ensures.made c.in_ok-session.ensures.named in
    let count : length layout.blocks ≡ length (as_read (now start)) = c.requires.count ∙ many in
    let meant : AreMeant layout c.in_ok-fresh.fresh = record { laws = c.found_laws.ensures; entry_is = c.in_ok-fresh.ensures.entry; blocks = c.in_ok-fresh.ensures.blocks } in
    survives_by_steps layout c.in_ok-fresh.fresh start (D.state c.clear_supers.new.devices) c.requires.layout count laws meant (c.clear_supers.ensures.formats tells start stays places c.in_ok-fresh.fresh).leaves

pub returns-in_err-clear_supers-clause-past : goal.returns-in_err-clear_supers-clause-past
returns-in_err-clear_supers-clause-past g c tells =
    let D = g.D.Devices in
    let layout = c.args.layout.now in
    let start = D.state c.args.devices.now in
    let agree : (D.state c.args.devices.now).sizes ≡ sizes_of (now start) = g.met.D.Devices.agree tells c.args.devices.now in
    let many : length (D.state c.args.devices.now).sizes ≡ length (as_read (now start)) = ap (λ (s : List ℕ). length s) agree ∙ disk_count (now start) ∙ sym (read_count (now start)) in
    let stays = c.in_ok-spares.ensures.read.disks tells in
    let places = are_places (as_read (now start)) c.in_ok-spares.spares.items c.deref-2.result.now c.deref.result.now c.deref-3.result.now c.in_ok-others.others.items c.deref-2.ensures.value c.deref.ensures.value c.deref-3.ensures.value
    (c.in_ok-spares.ensures.count ∙ many) (λ dev within. c.in_ok-spares.ensures.found tells dev (omega (arith, within, many))) c.in_ok-others.ensures.others in
    (c.clear_supers.ensures.formats tells start stays places c.in_ok-fresh.fresh).leaves.past

pub returns-clause-survives : goal.returns-clause-survives
returns-clause-survives g c tells =
    let D = g.D.Devices in
    let layout = c.args.layout.now in
    let start = D.state c.args.devices.now in
    let agree : (D.state c.args.devices.now).sizes ≡ sizes_of (now start) = g.met.D.Devices.agree tells c.args.devices.now in
    let many : length (D.state c.args.devices.now).sizes ≡ length (as_read (now start)) = ap (λ (s : List ℕ). length s) agree ∙ disk_count (now start) ∙ sym (read_count (now start)) in
    let stays = c.in_ok-spares.ensures.read.disks tells in
    let places = are_places (as_read (now start)) c.in_ok-spares.spares.items c.deref-2.result.now c.deref.result.now c.deref-3.result.now c.in_ok-others.others.items c.deref-2.ensures.value c.deref.ensures.value c.deref-3.ensures.value
    (c.in_ok-spares.ensures.count ∙ many) (λ dev within. c.in_ok-spares.ensures.found tells dev (omega (arith, within, many))) c.in_ok-others.ensures.others in
    let laws = laws_of layout c.in_ok-firsts.firsts.items c.in_ok-seconds.seconds.items c.in_ok-firsts.ensures.made c.in_ok-seconds.ensures.made c.in_ok-session.ensures.named in
    let count : length layout.blocks ≡ length (as_read (now start)) = c.requires.count ∙ many in
    let meant : AreMeant layout c.in_ok-fresh.fresh = record { laws = c.found_laws.ensures; entry_is = c.in_ok-fresh.ensures.entry; blocks = c.in_ok-fresh.ensures.blocks } in
    let cleared = (c.in_ok-clear_supers.ensures.formats tells start stays places c.in_ok-fresh.fresh).reached.0 in
    let formats = c.lay_out.ensures.formats tells start cleared (sym (c.clear_supers.ensures.goes_on.sizes ∙ c.find_spares.ensures.read.sizes ∙ agree)) in
    survives_by_steps layout c.in_ok-fresh.fresh start (D.state c.lay_out.new.devices) c.requires.layout count laws meant formats.leaves

pub returns-clause-done : goal.returns-clause-done
returns-clause-done g c tells =
    let D = g.D.Devices in
    let layout = c.args.layout.now in
    let start = D.state c.args.devices.now in
    let agree : (D.state c.args.devices.now).sizes ≡ sizes_of (now start) = g.met.D.Devices.agree tells c.args.devices.now in
    let many : length (D.state c.args.devices.now).sizes ≡ length (as_read (now start)) = ap (λ (s : List ℕ). length s) agree ∙ disk_count (now start) ∙ sym (read_count (now start)) in
    let stays = c.in_ok-spares.ensures.read.disks tells in
    let places = are_places (as_read (now start)) c.in_ok-spares.spares.items c.deref-2.result.now c.deref.result.now c.deref-3.result.now c.in_ok-others.others.items c.deref-2.ensures.value c.deref.ensures.value c.deref-3.ensures.value
    (c.in_ok-spares.ensures.count ∙ many) (λ dev within. c.in_ok-spares.ensures.found tells dev (omega (arith, within, many))) c.in_ok-others.ensures.others in
    let laws = laws_of layout c.in_ok-firsts.firsts.items c.in_ok-seconds.seconds.items c.in_ok-firsts.ensures.made c.in_ok-seconds.ensures.made c.in_ok-session.ensures.named in
    let count : length layout.blocks ≡ length (as_read (now start)) = c.requires.count ∙ many in
    let meant : AreMeant layout c.in_ok-fresh.fresh = record { laws = c.found_laws.ensures; entry_is = c.in_ok-fresh.ensures.entry; blocks = c.in_ok-fresh.ensures.blocks } in
    let cleared = (c.in_ok-clear_supers.ensures.formats tells start stays places c.in_ok-fresh.fresh).reached.0 in
    let formats = c.lay_out.ensures.formats tells start cleared (sym (c.clear_supers.ensures.goes_on.sizes ∙ c.find_spares.ensures.read.sizes ∙ agree)) in
    let few : length (now start) ≤ length (D.state c.clear_supers.new.devices).sizes = omega (arith, disk_count (now start), ap (λ (s : List ℕ). length s) (c.clear_supers.ensures.goes_on.sizes ∙ c.find_spares.ensures.read.sizes ∙ agree)) in
    formatted c.lay_out.result layout c.in_ok-fresh.fresh start (D.state c.lay_out.new.devices) (length (D.state c.clear_supers.new.devices).sizes) c.requires.layout count laws meant few formats (c.lay_out.ensures.rest tells)

pub returns-clause-past : goal.returns-clause-past
returns-clause-past g c tells =
    let D = g.D.Devices in
    let layout = c.args.layout.now in
    let start = D.state c.args.devices.now in
    let agree : (D.state c.args.devices.now).sizes ≡ sizes_of (now start) = g.met.D.Devices.agree tells c.args.devices.now in
    let many : length (D.state c.args.devices.now).sizes ≡ length (as_read (now start)) = ap (λ (s : List ℕ). length s) agree ∙ disk_count (now start) ∙ sym (read_count (now start)) in
    let stays = c.in_ok-spares.ensures.read.disks tells in
    let places = are_places (as_read (now start)) c.in_ok-spares.spares.items c.deref-2.result.now c.deref.result.now c.deref-3.result.now c.in_ok-others.others.items c.deref-2.ensures.value c.deref.ensures.value c.deref-3.ensures.value
    (c.in_ok-spares.ensures.count ∙ many) (λ dev within. c.in_ok-spares.ensures.found tells dev (omega (arith, within, many))) c.in_ok-others.ensures.others in
    let cleared = (c.in_ok-clear_supers.ensures.formats tells start stays places c.in_ok-fresh.fresh).reached.0 in
    let formats = c.lay_out.ensures.formats tells start cleared (sym (c.clear_supers.ensures.goes_on.sizes ∙ c.find_spares.ensures.read.sizes ∙ agree)) in
    formats.leaves.past

pub returns-in_err-blank-clause-memory : goal.returns-in_err-blank-clause-memory
returns-in_err-blank-clause-memory g c = λ _. only_read_here g.D.Devices.tells (g.D.Devices.state c.args.devices.now)

pub returns-in_err-session-clause-memory : goal.returns-in_err-session-clause-memory
returns-in_err-session-clause-memory g c = λ _. only_read_here g.D.Devices.tells (g.D.Devices.state c.args.devices.now)

pub returns-in_err-fresh-clause-memory : goal.returns-in_err-fresh-clause-memory
returns-in_err-fresh-clause-memory g c = λ _. only_read_here g.D.Devices.tells (g.D.Devices.state c.args.devices.now)

pub returns-in_err-firsts-clause-memory : goal.returns-in_err-firsts-clause-memory
returns-in_err-firsts-clause-memory g c = λ _. only_read_here g.D.Devices.tells (g.D.Devices.state c.args.devices.now)

pub returns-in_err-seconds-clause-memory : goal.returns-in_err-seconds-clause-memory
returns-in_err-seconds-clause-memory g c = λ _. only_read_here g.D.Devices.tells (g.D.Devices.state c.args.devices.now)

pub returns-in_err-spares-clause-memory : goal.returns-in_err-spares-clause-memory
returns-in_err-spares-clause-memory g c = λ _. c.find_spares.ensures.read

pub returns-in_err-others-clause-memory : goal.returns-in_err-others-clause-memory
returns-in_err-others-clause-memory g c = λ _. c.find_spares.ensures.read
