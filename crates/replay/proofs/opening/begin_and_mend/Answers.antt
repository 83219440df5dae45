use Rattle.std.proofs.Common.{◌≡◌, ◌+◌, ◌∙◌, ℕ, List, true, ap, arith, subst, sym}
use Rattle.dev_model.specs.CrashLaws.{as_read_may_be_left}
use Rattle.dev_model.specs.Devices.{FaultCounts, now}
use Rattle.dev_model.specs.Disk.{as_read}
use Rattle.dev_model.specs.FrameLaws.{go_on_then}
use Rattle.geometry.specs.Faults.{fault_device}
use Rattle.geometry.specs.LayoutFacts.{has_places}
use Rattle.geometry.specs.Layouts.{is_layout_of}
use Rattle.image_view.specs.Found.{with_session}
use Rattle.node_store.proofs.MendedFrames.{failed_then}
use Rattle.replay.specs.Beginning.{begin_fault_device}
use Rattle.replay.proofs.Handed.{handed_begun, handed_beginning}
use Rattle.replay.proofs.Opened.{keeps_begun}
use Rattle.replay.proofs.OpenedRoots.{HasBegun, MendsRoots, alike_opened, keeps_journal, keeps_roots, order_begun, past_journal, past_roots, ready_roots}
use Rattle.replay.proofs.OpenedVolume.{after_write, write_at_most}
use Rattle.replay.proofs.opening.begin_and_mend.Goals as goal

pub returns-in_err-next-clause-crashes : goal.returns-in_err-next-clause-crashes
returns-in_err-next-clause-crashes g c tells f on layouts sessions needs ends =
    let D = g.D.Devices in
    keeps_begun f c.args.layout.now c.args.session layouts sessions (D.state c.args.devices.now) (D.state c.begin_session.new.devices) on (c.begin_session.ensures.crashes tells f on.on layouts sessions)
    (c.begin_session.ensures.session tells f on layouts sessions)

pub returns-in_err-next-clause-past : goal.returns-in_err-next-clause-past
returns-in_err-next-clause-past g c tells f on layouts sessions needs = (c.begin_session.ensures.crashes tells f on.on layouts sessions).past

pub returns-in_err-mend_journal-clause-crashes : goal.returns-in_err-mend_journal-clause-crashes
returns-in_err-mend_journal-clause-crashes g c tells f on layouts sessions needs ends =
    let D = g.D.Devices in
    let old = D.state c.args.devices.now in
    let mid = D.state c.begin_session.new.devices in
    let next = D.state c.mend_journal.new.devices in
    let begun = c.in_ok-next.ensures.begun tells f on.on layouts sessions in
    let has : HasBegun f c.args.layout.now c.args.session c.args.needed.now old mid next = record {
      layouts = layouts;
      sessions = sessions;
      needs = needs;
      on = on;
      crashes = c.begin_session.ensures.crashes tells f on.on layouts sessions;
      session_kept = c.begin_session.ensures.session tells f on layouts sessions;
      are_mid = g.met.D.Devices.sound tells c.begin_session.new.devices;
      begun = begun;
      rest = c.in_ok-next.ensures.rest tells;
      elsewhere = c.begin_session.ensures.elsewhere tells;
      changes = c.mend_journal.ensures.elsewhere tells begun.quiet;
      means = λ order. c.mend_journal.ensures.means tells (with_session (c.args.session + 1) f) order layouts needs;
    } in
    keeps_journal f c.args.layout.now c.args.session c.args.needed.now old mid next has

pub returns-in_err-mend_journal-clause-past : goal.returns-in_err-mend_journal-clause-past
returns-in_err-mend_journal-clause-past g c tells f on layouts sessions needs =
    let D = g.D.Devices in
    let old = D.state c.args.devices.now in
    let mid = D.state c.begin_session.new.devices in
    let next = D.state c.mend_journal.new.devices in
    let begun = c.in_ok-next.ensures.begun tells f on.on layouts sessions in
    let has : HasBegun f c.args.layout.now c.args.session c.args.needed.now old mid next = record {
      layouts = layouts;
      sessions = sessions;
      needs = needs;
      on = on;
      crashes = c.begin_session.ensures.crashes tells f on.on layouts sessions;
      session_kept = c.begin_session.ensures.session tells f on layouts sessions;
      are_mid = g.met.D.Devices.sound tells c.begin_session.new.devices;
      begun = begun;
      rest = c.in_ok-next.ensures.rest tells;
      elsewhere = c.begin_session.ensures.elsewhere tells;
      changes = c.mend_journal.ensures.elsewhere tells begun.quiet;
      means = λ order. c.mend_journal.ensures.means tells (with_session (c.args.session + 1) f) order layouts needs;
    } in
    past_journal f c.args.layout.now c.args.session c.args.needed.now old mid next has

pub returns-in_err-mend_journal-clause-goes_on : goal.returns-in_err-mend_journal-clause-goes_on
returns-in_err-mend_journal-clause-goes_on g c =
    let D = g.D.Devices in
    go_on_then (D.state c.args.devices.now) (D.state c.begin_session.new.devices) (D.state c.mend_journal.new.devices) c.begin_session.ensures.goes_on c.mend_journal.ensures.goes_on

pub returns-in_err-mend_roots-clause-crashes : goal.returns-in_err-mend_roots-clause-crashes
returns-in_err-mend_roots-clause-crashes g c tells f on layouts sessions needs ends =
    let D = g.D.Devices in
    let old = D.state c.args.devices.now in
    let mid = D.state c.begin_session.new.devices in
    let next = D.state c.mend_journal.new.devices in
    let new = D.state c.mend_roots.new.devices in
    let begun = c.in_ok-next.ensures.begun tells f on.on layouts sessions in
    let has : HasBegun f c.args.layout.now c.args.session c.args.needed.now old mid next = record {
      layouts = layouts;
      sessions = sessions;
      needs = needs;
      on = on;
      crashes = c.begin_session.ensures.crashes tells f on.on layouts sessions;
      session_kept = c.begin_session.ensures.session tells f on layouts sessions;
      are_mid = g.met.D.Devices.sound tells c.begin_session.new.devices;
      begun = begun;
      rest = c.in_ok-next.ensures.rest tells;
      elsewhere = c.begin_session.ensures.elsewhere tells;
      changes = c.mend_journal.ensures.elsewhere tells begun.quiet;
      means = λ order. c.mend_journal.ensures.means tells (with_session (c.args.session + 1) f) order layouts needs;
    } in
    let mended = c.in_ok-mend_journal.ensures.mended tells (with_session (c.args.session + 1) f) (order_begun f c.args.layout.now c.args.session c.args.needed.now old mid next has) layouts needs in
    let mends : MendsRoots c.args.layout.now c.args.ends.now c.newest_roots.result.now next new = record { writes = c.mend_roots.ensures.writes tells; kept = c.mend_roots.ensures.kept tells } in
    keeps_roots f c.args.layout.now c.args.session c.args.needed.now old mid next has new c.args.ends.now ends c.newest_roots.result.now c.newest_roots.ensures mends
    c.found_btrees_are_a_key_map.ensures.entries c.found_btrees_are_a_key_map.ensures.newest (g.met.D.Devices.sound tells c.mend_journal.new.devices) mended c.roots_that_show_the_same_mean_the_same.ensures.means

pub returns-in_err-mend_roots-clause-past : goal.returns-in_err-mend_roots-clause-past
returns-in_err-mend_roots-clause-past g c tells f on layouts sessions needs =
    let D = g.D.Devices in
    let old = D.state c.args.devices.now in
    let mid = D.state c.begin_session.new.devices in
    let next = D.state c.mend_journal.new.devices in
    let begun = c.in_ok-next.ensures.begun tells f on.on layouts sessions in
    let has : HasBegun f c.args.layout.now c.args.session c.args.needed.now old mid next = record {
      layouts = layouts;
      sessions = sessions;
      needs = needs;
      on = on;
      crashes = c.begin_session.ensures.crashes tells f on.on layouts sessions;
      session_kept = c.begin_session.ensures.session tells f on layouts sessions;
      are_mid = g.met.D.Devices.sound tells c.begin_session.new.devices;
      begun = begun;
      rest = c.in_ok-next.ensures.rest tells;
      elsewhere = c.begin_session.ensures.elsewhere tells;
      changes = c.mend_journal.ensures.elsewhere tells begun.quiet;
      means = λ order. c.mend_journal.ensures.means tells (with_session (c.args.session + 1) f) order layouts needs;
    } in
    past_roots f c.args.layout.now c.args.session c.args.needed.now old mid next has (D.state c.mend_roots.new.devices) c.newest_roots.result.now c.newest_roots.ensures
    c.found_btrees_are_a_key_map.ensures.entries c.found_btrees_are_a_key_map.ensures.newest (λ apart. (c.mend_roots.ensures.writes tells apart).crashes.past)

pub returns-in_err-mend_roots-clause-goes_on : goal.returns-in_err-mend_roots-clause-goes_on
returns-in_err-mend_roots-clause-goes_on g c =
    let D = g.D.Devices in
    let old = D.state c.args.devices.now in
    let mid = D.state c.begin_session.new.devices in
    let next = D.state c.mend_journal.new.devices in
    go_on_then old next (D.state c.mend_roots.new.devices) (go_on_then old mid next c.begin_session.ensures.goes_on c.mend_journal.ensures.goes_on) c.mend_roots.ensures.goes_on

pub returns-clause-crashes : goal.returns-clause-crashes
returns-clause-crashes g c tells f on layouts sessions needs ends =
    let D = g.D.Devices in
    let old = D.state c.args.devices.now in
    let mid = D.state c.begin_session.new.devices in
    let next = D.state c.mend_journal.new.devices in
    let new = D.state c.mend_roots.new.devices in
    let begun = c.in_ok-next.ensures.begun tells f on.on layouts sessions in
    let has : HasBegun f c.args.layout.now c.args.session c.args.needed.now old mid next = record {
      layouts = layouts;
      sessions = sessions;
      needs = needs;
      on = on;
      crashes = c.begin_session.ensures.crashes tells f on.on layouts sessions;
      session_kept = c.begin_session.ensures.session tells f on layouts sessions;
      are_mid = g.met.D.Devices.sound tells c.begin_session.new.devices;
      begun = begun;
      rest = c.in_ok-next.ensures.rest tells;
      elsewhere = c.begin_session.ensures.elsewhere tells;
      changes = c.mend_journal.ensures.elsewhere tells begun.quiet;
      means = λ order. c.mend_journal.ensures.means tells (with_session (c.args.session + 1) f) order layouts needs;
    } in
    let mended = c.in_ok-mend_journal.ensures.mended tells (with_session (c.args.session + 1) f) (order_begun f c.args.layout.now c.args.session c.args.needed.now old mid next has) layouts needs in
    let mends : MendsRoots c.args.layout.now c.args.ends.now c.newest_roots.result.now next new = record { writes = c.mend_roots.ensures.writes tells; kept = c.mend_roots.ensures.kept tells } in
    keeps_roots f c.args.layout.now c.args.session c.args.needed.now old mid next has new c.args.ends.now ends c.newest_roots.result.now c.newest_roots.ensures mends
    c.found_btrees_are_a_key_map.ensures.entries c.found_btrees_are_a_key_map.ensures.newest (g.met.D.Devices.sound tells c.mend_journal.new.devices) mended c.roots_that_show_the_same_mean_the_same.ensures.means

pub returns-clause-past : goal.returns-clause-past
returns-clause-past g c tells f on layouts sessions needs =
    let D = g.D.Devices in
    let old = D.state c.args.devices.now in
    let mid = D.state c.begin_session.new.devices in
    let next = D.state c.mend_journal.new.devices in
    let begun = c.in_ok-next.ensures.begun tells f on.on layouts sessions in
    let has : HasBegun f c.args.layout.now c.args.session c.args.needed.now old mid next = record {
      layouts = layouts;
      sessions = sessions;
      needs = needs;
      on = on;
      crashes = c.begin_session.ensures.crashes tells f on.on layouts sessions;
      session_kept = c.begin_session.ensures.session tells f on layouts sessions;
      are_mid = g.met.D.Devices.sound tells c.begin_session.new.devices;
      begun = begun;
      rest = c.in_ok-next.ensures.rest tells;
      elsewhere = c.begin_session.ensures.elsewhere tells;
      changes = c.mend_journal.ensures.elsewhere tells begun.quiet;
      means = λ order. c.mend_journal.ensures.means tells (with_session (c.args.session + 1) f) order layouts needs;
    } in
    past_roots f c.args.layout.now c.args.session c.args.needed.now old mid next has (D.state c.mend_roots.new.devices) c.newest_roots.result.now c.newest_roots.ensures
    c.found_btrees_are_a_key_map.ensures.entries c.found_btrees_are_a_key_map.ensures.newest (λ apart. (c.mend_roots.ensures.writes tells apart).crashes.past)

pub returns-clause-goes_on : goal.returns-clause-goes_on
returns-clause-goes_on g c =
    let D = g.D.Devices in
    let old = D.state c.args.devices.now in
    let mid = D.state c.begin_session.new.devices in
    let next = D.state c.mend_journal.new.devices in
    go_on_then old next (D.state c.mend_roots.new.devices) (go_on_then old mid next c.begin_session.ensures.goes_on c.mend_journal.ensures.goes_on) c.mend_roots.ensures.goes_on

pub returns-clause-ready : goal.returns-clause-ready
returns-clause-ready g c tells f on layouts sessions needs ends =
    let D = g.D.Devices in
    let old = D.state c.args.devices.now in
    let mid = D.state c.begin_session.new.devices in
    let next = D.state c.mend_journal.new.devices in
    let new = D.state c.mend_roots.new.devices in
    let begun = c.in_ok-next.ensures.begun tells f on.on layouts sessions in
    let has : HasBegun f c.args.layout.now c.args.session c.args.needed.now old mid next = record {
      layouts = layouts;
      sessions = sessions;
      needs = needs;
      on = on;
      crashes = c.begin_session.ensures.crashes tells f on.on layouts sessions;
      session_kept = c.begin_session.ensures.session tells f on layouts sessions;
      are_mid = g.met.D.Devices.sound tells c.begin_session.new.devices;
      begun = begun;
      rest = c.in_ok-next.ensures.rest tells;
      elsewhere = c.begin_session.ensures.elsewhere tells;
      changes = c.mend_journal.ensures.elsewhere tells begun.quiet;
      means = λ order. c.mend_journal.ensures.means tells (with_session (c.args.session + 1) f) order layouts needs;
    } in
    let mended = c.in_ok-mend_journal.ensures.mended tells (with_session (c.args.session + 1) f) (order_begun f c.args.layout.now c.args.session c.args.needed.now old mid next has) layouts needs in
    let mends : MendsRoots c.args.layout.now c.args.ends.now c.newest_roots.result.now next new = record { writes = c.mend_roots.ensures.writes tells; kept = c.mend_roots.ensures.kept tells } in
    let before = go_on_then old mid next c.begin_session.ensures.goes_on c.mend_journal.ensures.goes_on in
    let changes = has.changes in
    ready_roots f c.args.layout.now c.args.session c.args.needed.now old mid next has new c.args.ends.now ends c.newest_roots.result.now c.newest_roots.ensures mends
    c.found_btrees_are_a_key_map.ensures.entries c.found_btrees_are_a_key_map.ensures.newest (g.met.D.Devices.sound tells c.mend_journal.new.devices) mended c.roots_that_show_the_same_mean_the_same.ensures.means
    (g.met.D.Devices.sound tells c.mend_roots.new.devices)
    (alike_opened c.found_btrees_are_a_key_map.ensures.entries c.found_btrees_are_a_key_map.ensures.newest f c.args.layout.now c.args.session c.args.needed.now c.args.ends.now layouts needs ends
    (as_read (now old)) (as_read (now mid)) (as_read (now next)) (as_read (now new)) on.on.finds on.on.placed on.order.agree c.newest_roots.result.now c.newest_roots.ensures next.sizes (subst (λ (sizes : List ℕ). is_layout_of sizes c.args.layout.now ≡ true) (sym before.sizes) c.requires.layout)
    (c.begin_session.ensures.elsewhere tells)
    (changes.each next.moment changes.later (omega arith) (as_read (now next)) (as_read_may_be_left (now next) (g.met.D.Devices.sound tells c.mend_journal.new.devices)))
    (c.in_ok-mend_roots.ensures.mended tells))
    (c.in_ok-mend_roots.ensures.rest tells)
    (c.in_ok-mend_journal.ensures.no_block tells (with_session (c.args.session + 1) f) (order_begun f c.args.layout.now c.args.session c.args.needed.now old mid next has) layouts needs)

pub returns-clause-alike : goal.returns-clause-alike
returns-clause-alike g c tells f on agree layouts sessions needs ends =
    let D = g.D.Devices in
    let old = D.state c.args.devices.now in
    let mid = D.state c.begin_session.new.devices in
    let next = D.state c.mend_journal.new.devices in
    let new = D.state c.mend_roots.new.devices in
    let begun = c.in_ok-next.ensures.begun tells f on layouts sessions in
    let changes = c.mend_journal.ensures.elsewhere tells begun.quiet in
    let before = go_on_then old mid next c.begin_session.ensures.goes_on c.mend_journal.ensures.goes_on in
    alike_opened c.found_btrees_are_a_key_map.ensures.entries c.found_btrees_are_a_key_map.ensures.newest f c.args.layout.now c.args.session c.args.needed.now c.args.ends.now layouts needs ends
    (as_read (now old)) (as_read (now mid)) (as_read (now next)) (as_read (now new)) on.finds on.placed agree c.newest_roots.result.now c.newest_roots.ensures next.sizes (subst (λ (sizes : List ℕ). is_layout_of sizes c.args.layout.now ≡ true) (sym before.sizes) c.requires.layout)
    (c.begin_session.ensures.elsewhere tells)
    (changes.each next.moment changes.later (omega arith) (as_read (now next)) (as_read_may_be_left (now next) (g.met.D.Devices.sound tells c.mend_journal.new.devices)))
    (c.in_ok-mend_roots.ensures.mended tells)

pub returns-in_err-next-clause-cause : goal.returns-in_err-next-clause-cause
returns-in_err-next-clause-cause g c =
    let D = g.D.Devices in
    let old = D.state c.args.devices.now in
    let new = D.state c.begin_session.new.devices in
    let fault = c.in_err-next.field-0.0 in
    let few = (has_places old.sizes c.args.layout.now c.requires.layout).mirrors_few in
    handed_begun c.from_residual.result fault old.faults new.faults c.from_residual.ensures.1
    (write_at_most (begin_fault_device fault) old.faults new.faults c.args.layout.now.metadata_replicas (after_write (begin_fault_device fault) old.faults new.faults c.in_err-next.ensures.cause)
    (g.met.D.Devices.counted c.args.devices.now) (omega (arith, few)) c.in_err-next.ensures.device)

pub returns-in_err-mend_journal-clause-cause : goal.returns-in_err-mend_journal-clause-cause
returns-in_err-mend_journal-clause-cause g c =
    let D = g.D.Devices in
    let old = D.state c.args.devices.now in
    let mid = D.state c.begin_session.new.devices in
    let new = D.state c.mend_journal.new.devices in
    let fault = c.in_err-mend_journal.field-0.0 in
    let few = (has_places old.sizes c.args.layout.now c.requires.layout).mirrors_few in
    handed_beginning c.from_residual-in_err-mend_journal.result fault old.faults new.faults c.from_residual-in_err-mend_journal.ensures.1
    (failed_then (fault_device fault) old.faults mid.faults new.faults c.begin_session.ensures.goes_on.calls (ap (λ (f : FaultCounts). f.writes) c.in_ok-next.ensures.cause)
    (write_at_most (fault_device fault) mid.faults new.faults c.args.layout.now.metadata_replicas c.in_err-mend_journal.ensures.cause
    (g.met.D.Devices.counted c.begin_session.new.devices) (omega (arith, few)) c.in_err-mend_journal.ensures.device))

pub returns-in_err-mend_roots-clause-cause : goal.returns-in_err-mend_roots-clause-cause
returns-in_err-mend_roots-clause-cause g c =
    let D = g.D.Devices in
    let old = D.state c.args.devices.now in
    let mid = D.state c.begin_session.new.devices in
    let next = D.state c.mend_journal.new.devices in
    let new = D.state c.mend_roots.new.devices in
    let fault = c.in_err-mend_roots.field-0.0 in
    handed_beginning c.from_residual-in_err-mend_roots.result fault old.faults new.faults c.from_residual-in_err-mend_roots.ensures.1
    (failed_then (fault_device fault) old.faults next.faults new.faults (go_on_then old mid next c.begin_session.ensures.goes_on c.mend_journal.ensures.goes_on).calls
    (ap (λ (f : FaultCounts). f.writes) (c.in_ok-mend_journal.ensures.cause ∙ c.in_ok-next.ensures.cause)) c.in_err-mend_roots.ensures.cause)
