use Rattle.std.proofs.Common.{◌≡◌, ◌+◌, ℕ, Some, ap, subst, sym}
use Rattle.dev_model.specs.Crashes.{EachCrash, EachCrashNow, IsCrashImageBut}
use Rattle.dev_model.specs.Devices.{DevicesState, now}
use Rattle.geometry.specs.Mirrors.{HoldMirrors}
use Rattle.geometry.specs.Sessions.{IsSessionPlace, session_block, session_named, session_place}
use Rattle.image_view.specs.Found.{Found, with_session}
use Rattle.vol_types.specs.declared.layout.Layout.{Layout}
use Rattle.replay.specs.Beginning.{IsFoundOn}
use Rattle.dev_model.specs.FrameLaws.{stay_here}
use Rattle.replay.proofs.NextSession.{stay_session}
use Rattle.replay.proofs.Sessions.{ImageLaws, each_means, has_begun}
use Rattle.replay.proofs.beginning.begin_session.Goals as goal

-- The crashes of the next session's block, of what was found.
of_found : (f : Found) (layout : Layout) (session : ℕ) (old new : DevicesState) → f.layout ≡ layout → f.session ≡ session → EachCrash (λ _ _ image. IsCrashImageBut (IsSessionPlace layout (session + 1)) (now old) image) old new
    → EachCrash (λ _ _ image. IsCrashImageBut (IsSessionPlace f.layout (f.session + 1)) (now old) image) old new
of_found f layout session old new layouts sessions crashes =
    subst (λ (l : Layout). EachCrash (λ _ _ image. IsCrashImageBut (IsSessionPlace l (f.session + 1)) (now old) image) old new) (sym layouts)
    (subst (λ s. EachCrash (λ _ _ image. IsCrashImageBut (IsSessionPlace layout (s + 1)) (now old) image) old new) (sym sessions) crashes)

pub returns-in_err-settle_session-clause-crashes : goal.returns-in_err-settle_session-clause-crashes
returns-in_err-settle_session-clause-crashes g c tells f on layouts sessions =
    let D = g.D.Devices in
    let old = D.state c.args.devices.now in
    let new = D.state c.settle_session.new.devices in
    let e = c.sessions_change_nothing_else.ensures in
    let laws : ImageLaws = record { again = e.found; mounts = e.mounts; unsound = e.unsound; orderly = e.orderly } in
    each_means laws old new f on (of_found f c.args.layout.now c.args.session old new layouts sessions (c.settle_session.ensures.crashes tells)) (g.met.D.Devices.steady tells c.settle_session.new.devices)

pub returns-clause-crashes : goal.returns-clause-crashes
returns-clause-crashes g c tells f on layouts sessions =
    let D = g.D.Devices in
    let old = D.state c.args.devices.now in
    let new = D.state c.settle_session.new.devices in
    let e = c.sessions_change_nothing_else.ensures in
    let laws : ImageLaws = record { again = e.found; mounts = e.mounts; unsound = e.unsound; orderly = e.orderly } in
    each_means laws old new f on (of_found f c.args.layout.now c.args.session old new layouts sessions (c.settle_session.ensures.crashes tells)) (g.met.D.Devices.steady tells c.settle_session.new.devices)

pub returns-clause-begun : goal.returns-clause-begun
returns-clause-begun g c tells f on layouts sessions =
    let D = g.D.Devices in
    let old = D.state c.args.devices.now in
    let new = D.state c.settle_session.new.devices in
    let e = c.sessions_change_nothing_else.ensures in
    let laws : ImageLaws = record { again = e.found; mounts = e.mounts; unsound = e.unsound; orderly = e.orderly } in
    subst (λ s. IsFoundOn (with_session (s + 1) f) (now new)) sessions
    (has_begun laws old new f on (of_found f c.args.layout.now c.args.session old new layouts sessions (c.settle_session.ensures.crashes tells)) (g.met.D.Devices.steady tells c.settle_session.new.devices)
    (g.met.D.Devices.sound tells c.settle_session.new.devices)
    (subst (λ (l : Layout). EachCrashNow (HoldMirrors l.metadata_replicas (session_place (f.session + 1)) (session_block l.id (f.session + 1))) new) (sym layouts)
    (subst (λ s. EachCrashNow (HoldMirrors c.args.layout.now.metadata_replicas (session_place (s + 1)) (session_block c.args.layout.now.id (s + 1))) new) (sym sessions) (c.in_ok-settle_session.ensures.held tells)))
    (subst (λ (l : Layout). session_named l.id (session_place (f.session + 1)) (session_block l.id (f.session + 1)) ≡ Some (f.session + 1)) (sym layouts)
    (subst (λ s. session_named c.args.layout.now.id (session_place (s + 1)) (session_block c.args.layout.now.id (s + 1)) ≡ Some (s + 1)) (sym sessions) c.in_ok-settle_session.ensures.named)))

pub returns-in_err-settle_session-clause-session : goal.returns-in_err-settle_session-clause-session
returns-in_err-settle_session-clause-session g c tells f on layouts sessions = c.settle_session.ensures.session tells f on layouts (ap (λ s. s + 1) sessions)

pub returns-clause-session : goal.returns-clause-session
returns-clause-session g c tells f on layouts sessions = c.settle_session.ensures.session tells f on layouts (ap (λ s. s + 1) sessions)

pub returns-then-session-ge-LAST_SESSION-clause-session : goal.returns-then-session-ge-LAST_SESSION-clause-session
returns-then-session-ge-LAST_SESSION-clause-session g c tells f on layouts sessions =
    let state = g.D.Devices.state c.args.devices.now in
    stay_session f state state on.on (stay_here state)
