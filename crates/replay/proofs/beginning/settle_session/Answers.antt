use Rattle.std.proofs.Common.{◌≡◌, ◌∙◌, ◌+◌, ℕ, Bool, List, subst, sym, arith, Some, Result, Ok, Err}
use Rattle.std.specs.Prelude.{OnOk}
use Rattle.dev_model.specs.Devices.{now}
use Rattle.dev_model.specs.Crashes.{EachCrash, IsCrashImageBut}
use Rattle.geometry.specs.LayoutFacts.{has_places, area_is_place}
use Rattle.geometry.specs.Mirrors.{IsMirror, IsMirrorBlock}
use Rattle.dev_model.specs.HeldBlocks.{HoldOnly}
use Rattle.geometry.specs.Sessions.{IsSessionBlock, session_block, session_named, session_place}
use Rattle.geometry.specs.SessionLaws.{place_is_low}
use Rattle.dev_model.specs.FrameLaws.{stay_here}
use Rattle.vol_types.specs.declared.layout.Layout.{Layout}
use Rattle.replay.proofs.NextSession.{sealed_session, stay_session}
use Rattle.replay.proofs.beginning.settle_session.Goals as goal

pub settle_mirrors-requires-clause-mirrors : goal.settle_mirrors-requires-clause-mirrors
settle_mirrors-requires-clause-mirrors g c = (has_places (g.D.Devices.state c.args.devices.now).sizes c.args.layout.now c.requires.layout).mirrors

pub settle_mirrors-requires-clause-places : goal.settle_mirrors-requires-clause-places
settle_mirrors-requires-clause-places g c dev within =
    let sizes = (g.D.Devices.state c.args.devices.now).sizes in
    let has = has_places sizes c.args.layout.now c.requires.layout in
    area_is_place sizes c.args.layout.now c.requires.layout dev c.session_place.result (omega (arith, within, has.mirrors)) (omega (arith, has.least, c.session_place.ensures, place_is_low c.args.session))

pub returns-clause-crashes : goal.returns-clause-crashes
returns-clause-crashes g c tells =
    let state = g.D.Devices.state c.args.devices.now in
    subst (λ (place : ℕ). EachCrash (λ _ _ image. IsCrashImageBut (IsMirror c.args.layout.now.metadata_replicas place) (now state) image) state (g.D.Devices.state c.settle_mirrors.new.devices)) c.session_place.ensures (c.settle_mirrors.ensures.crashes tells)

pub returns-clause-asks : goal.returns-clause-asks
returns-clause-asks g c tells opens =
    let old = g.D.Devices.state c.args.devices.now in
    let new = g.D.Devices.state c.settle_mirrors.new.devices in
    let mirrors = c.args.layout.now.metadata_replicas in
    subst (λ (place : ℕ). HoldOnly opens (IsMirrorBlock mirrors place (session_block c.args.layout.now.id c.args.session)) old new) c.session_place.ensures
    (subst (λ (bytes : List ℕ). HoldOnly opens (IsMirrorBlock mirrors c.session_place.result bytes) old new) (c.as_slice.ensures ∙ c.in_ok-block.ensures.bytes) (c.settle_mirrors.ensures.asks tells opens))

pub returns-clause-named : goal.returns-clause-named
returns-clause-named g c =
    let id = c.args.layout.now.id in
    on_ok c.settle_mirrors.result (subst (λ (bytes : List ℕ). session_named id (session_place c.args.session) bytes ≡ Some c.args.session) c.in_ok-block.ensures.bytes c.in_ok-block.ensures.named)
  where
    on_ok : {T E P : Type 0} (result : Result T E) → P → OnOk result P
    on_ok (Ok x) p = p
    on_ok (Err e) p = tt

pub returns-in_err-block-clause-session : goal.returns-in_err-block-clause-session
returns-in_err-block-clause-session g c tells f on layouts sessions =
    let state = g.D.Devices.state c.args.devices.now in
    stay_session f state state on.on (stay_here state)

pub returns-clause-session : goal.returns-clause-session
returns-clause-session g c tells f on layouts sessions =
    let old = g.D.Devices.state c.args.devices.now in
    let new = g.D.Devices.state c.settle_mirrors.new.devices in
    let layout = c.args.layout.now in
    let named : session_named layout.id (session_place c.args.session) (session_block layout.id c.args.session) ≡ Some c.args.session =
    subst (λ (bytes : List ℕ). session_named layout.id (session_place c.args.session) bytes ≡ Some c.args.session) c.in_ok-block.ensures.bytes c.in_ok-block.ensures.named in
    let asks : (opens : List ℕ → Bool) → HoldOnly opens (IsSessionBlock layout c.args.session) old new = returns-clause-asks g c tells in
    sealed_session f old new (g.met.D.Devices.sound tells c.args.devices.now) on
    (λ opens. subst (λ (l : Layout). HoldOnly opens (IsSessionBlock l (f.session + 1)) old new) (sym layouts) (subst (λ (s : ℕ). HoldOnly opens (IsSessionBlock layout s) old new) (sym sessions) (asks opens)))
    (subst (λ (l : Layout). session_named l.id (session_place (f.session + 1)) (session_block l.id (f.session + 1)) ≡ Some (f.session + 1)) (sym layouts)
    (subst (λ (s : ℕ). session_named layout.id (session_place s) (session_block layout.id s) ≡ Some s) (sym sessions) named))
