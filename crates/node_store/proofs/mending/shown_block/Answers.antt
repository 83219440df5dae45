use Rattle.std.proofs.Common.{◌≡◌, ◌+◌, ◌<◌, ◌≤◌, ⊎_elim, ℕ, List, Option, None, Some, false, get_or, arith, refl, ap, subst, sym, ◌∙◌}
use Rattle.std.specs.Prelude.{Contains, IfSome}
use Rattle.std.specs.Option.{is_some}
use Rattle.std.proofs.lemmas.Bool.{cases_lt, false≢true}
use Rattle.std.proofs.lemmas.List.{get_or_default}
use Rattle.dev_model.specs.Devices.{now}
use Rattle.dev_model.specs.Disk.{Disk, as_read, block_at}
use Rattle.dev_model.specs.FrameLaws.{only_read_then, stay_now}
use Rattle.geometry.specs.Faults.{DeviceFailed}
use Rattle.vol_types.specs.declared.pointers.Place.{Place}
use Rattle.node_store.specs.Mending.{IsDeviceOf, is_of_node}
use Rattle.node_store.proofs.MendedFrames.{failed_later}
use Rattle.node_store.specs.declared.mending.Shown.{Shown}
use Rattle.node_store.proofs.MendedSteps.{named_earlier, shown_by}
use Rattle.node_store.proofs.mending.shown_block.Goals as goal

pub loop-place-preserved : goal.loop-place-preserved
loop-place-preserved g c =
    let D = g.D.Devices in
    let first = D.state c.args.devices.now in
    let mid = D.state c.loop-place.devices in
    let new = D.state c.look_at.new.devices in
    let id = c.args.layout.now.id in
    let birth = c.args.birth in
    let places = c.args.places.now in
    let n = c.args.n in
    let i = c.loop-place.place-index in
    let place : Place = get_or places i (record { dev = 0; block = 0 }) in
    let at : get_or places i place ≡ place = get_or_default places i place (record { dev = 0; block = 0 }) c.loop-place-test.true in
    let one : Contains places place = (i, c.loop-place-test.true, at) in
    let so_far = c.loop-place.invariant in
    let look = c.in_ok-look.look in
    record {
      none = λ tells unfailed k d le there. ⊎_elim
          (λ (same : look.failed ≡ c.loop-place.failed). ⊎_elim
          (λ (earlier : k < i). so_far.none tells (sym same ∙ unfailed) k d earlier there)
          (λ (last : i ≤ k).
          let e : i ≡ k = omega (arith, le, last) in
          let this : place ≡ get_or places k d = sym at ∙ ap (λ j. get_or places j place) e ∙ get_or_default places k place d there in
          subst (λ (p : Place). is_of_node id birth (block_at (as_read (now first)) p.dev (p.block + n)) ≡ false) this
          (subst (λ (ds : List Disk). is_of_node id birth (block_at (as_read ds) place.dev (place.block + n)) ≡ false) (stay_now first mid (so_far.read.disks tells))
          (c.in_ok-look.ensures.lacks tells (none_where look.shown (sym c.if-is_some.ensures)) unfailed)))
          (cases_lt k i))
          (λ (failed : (look.failed ≡ Some place.dev) × DeviceFailed place.dev mid.faults new.faults). absurd (none_is_some place.dev (sym unfailed ∙ failed.0)))
          c.in_ok-look.ensures.failed;
      failed = ⊎_elim
          (λ (same : look.failed ≡ c.loop-place.failed).
          subst (λ (named : Option ℕ). IfSome named (λ dev. IsDeviceOf places dev × DeviceFailed dev first.faults new.faults)) (sym same) (named_earlier c.loop-place.failed places first.faults mid.faults new.faults c.look_at.ensures.read.calls so_far.failed))
          (λ (failed : (look.failed ≡ Some place.dev) × DeviceFailed place.dev mid.faults new.faults).
          subst (λ (named : Option ℕ). IfSome named (λ dev. IsDeviceOf places dev × DeviceFailed dev first.faults new.faults)) (sym failed.0)
          ((place, one, refl), failed_later place.dev first.faults mid.faults new.faults so_far.read.calls failed.1))
          c.in_ok-look.ensures.failed;
      read = only_read_then D.tells first mid new so_far.read c.look_at.ensures.read;
    }
  where
    none_is_some : (dev : ℕ) → None ≡ Some dev → ⊥
    none_is_some dev e = cc

    none_where : (found : Option Shown) → is_some found ≡ false → found ≡ None
    none_where None is = refl
    none_where (Some shown) is = absurd (false≢true (sym is))

pub returns-then-is_some-clause-shown : goal.returns-then-is_some-clause-shown
returns-then-is_some-clause-shown g c tells =
    let D = g.D.Devices in
    let first = D.state c.args.devices.now in
    let mid = D.state c.loop-place.devices in
    let places = c.args.places.now in
    let i = c.loop-place.place-index in
    let place : Place = get_or places i (record { dev = 0; block = 0 }) in
    let at : get_or places i place ≡ place = get_or_default places i place (record { dev = 0; block = 0 }) c.loop-place-test.true in
    shown_by c.args.layout.now.id c.args.birth places c.args.n first mid place (c.loop-place.invariant.read.disks tells) (i, c.loop-place-test.true, at) c.in_ok-look.look.shown (c.in_ok-look.ensures.bytes tells) c.in_ok-look.ensures.opens
