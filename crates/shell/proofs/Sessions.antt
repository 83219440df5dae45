-- What is said of a session over the volume that was opened, as it is of the run that it is of, which began earlier.
use Rattle.std.proofs.Common.{◌≡◌, ⊎_elim, ◌<◌, ◌≤◌, ℕ, Bool, true, false, cond, List, [], ◌∷◌, length, Option, Some, None, Result, Ok, Err, refl, ap, ◌∙◌, sym, subst, arith}
use Rattle.std.proofs.lemmas.List.Elements.{All-weaker}
use Rattle.std.specs.Prelude.{All, nat_lt}
use Rattle.dev_model.specs.CrashLaws.{as_read_may_be_left}
use Rattle.dev_model.specs.Devices.{DevicesState, now}
use Rattle.dev_model.specs.Disk.{Image, IsDisk, as_read}
use Rattle.dev_model.specs.FrameLaws.{stay_here}
use Rattle.dev_model.specs.Frames.{GoOn}
use Rattle.forest_ops.specs.History.{History}
use Rattle.forest_ops.specs.declared.operation.Entry.{Entry}
use Rattle.forest_ops.specs.Classes.{class_of}
use Rattle.forest_ops.specs.declared.operation.Class.TheVariants.{Syncs}
use Rattle.forest_ops.specs.declared.operation.Reply.TheVariants.{Spent}
use Rattle.geometry.specs.Faults.{SomeFailed}
use Rattle.image_view.specs.Found.{Found, MountsAs, NodesAgree, Volume, found, read_in, volume_of, with_session}
use Rattle.image_view.specs.declared.fault.MountFault.{MountFault}
use Rattle.image_view.specs.declared.fault.MountFault.TheVariants.{NoEntry}
use Rattle.key_meaning.specs.Forest.{forest_in}
use Rattle.replay.specs.Beginning.{MeansTheSame}
use Rattle.replay.specs.Mending.{IsInOrderOn, IsVolumeUntorn, KeepsMeaning}
use Rattle.replay.specs.Opening.{in_next_session}
use Rattle.replay.proofs.OpenedVolume.{stay_means}
use Rattle.forest_ops.specs.Acknowledged.{AreAcks, RiseWithin}
use Rattle.forest_ops.specs.Failures.{Halts, HaveCauses}
use Rattle.forest_ops.specs.declared.acks.Ack.{Ack}
use Rattle.vol_types.specs.declared.failure.Halt.{Halt}
use Rattle.vol_session.specs.RunLaws.{OpeningIsSafe, RunsAreSafe, SessionsBeginWell, in_next}
use Rattle.vol_session.specs.Runs.{MayRun, RunSurvives}
use Rattle.vol_core.specs.Room.{LeavesRoom}
use Rattle.vol_session.specs.Marks.{forest_found}
use Rattle.vol_session.specs.Survivors.{BeginsWell, Survive}
use Rattle.volume.specs.States.{BeganWithRoom, BeganWithoutRoom}
use Rattle.shell.specs.Causes.{IsUnspent, MayRunWithRoom}
use Rattle.shell.specs.Mounts.{ComesAfter, IsOpenedFrom, OpeningKeeps}

-- A run without lines has no acknowledgements.
pub without_acks : (first last : ℕ) (history : History) (acks : List Ack) → history ≡ [] → acks ≡ [] → first ≤ last → AreAcks first last history acks
without_acks first last history acks nothing none le =
    subst (λ (h : History). AreAcks first last h acks) (sym nothing) (subst (λ (list : List Ack). AreAcks first last [] list) (sym none) (record { counts = refl; moments = le }))

rise_since : (first start last : ℕ) (acks : List Ack) → first ≤ start → RiseWithin start last acks → RiseWithin first last acks
rise_since first start last [] le rise = let until : start ≤ last = rise in omega (arith, le, until)
rise_since first start last (ack ∷ acks) le rise = ((let from : start ≤ ack.moment = rise.0 in omega (arith, le, from)), rise.1)

-- Acknowledgements from a moment on are those from an earlier one on.
pub acks_since : (first start last : ℕ) (history : History) (acks : List Ack) → first ≤ start → AreAcks start last history acks → AreAcks first last history acks
acks_since first start last history acks le are = record { counts = are.counts; moments = rise_since first start last acks le are.moments }

-- So it is of a halt.
pub halts_since : (halt : Option Halt) (old mid new : DevicesState) (history : History) → GoOn old mid → Halts halt mid new history → Halts halt old new history
halts_since None old mid new history before is = is
halts_since (Some halt) old mid new history before is = record {
  device = subst (λ (sizes : List ℕ). halt.dev < length sizes) before.sizes is.device;
  no_sooner = omega (arith, before.later, is.no_sooner);
  no_later = is.no_later;
  cause = omega (arith, before.writes halt.dev, is.cause);
  agree = is.agree;
}

-- So it is of the causes of failures.
pub causes_since : (old mid new : DevicesState) (history : History) → GoOn old mid → HaveCauses mid.faults new.faults history → HaveCauses old.faults new.faults history
causes_since old mid new history before have = record {
  calls = λ dev. omega (arith, before.calls dev, have.calls dev);
  writes = λ dev. omega (arith, before.writes dev, have.writes dev);
}

-- Where nothing was done, a crash leaves what is read.
nothing_done : (f : Found) (state : DevicesState) → IsInOrderOn f (now state) → KeepsMeaning f state state
nothing_done f state on = stay_means f state state on (stay_here state)

-- So a volume that wasn't touched may be run again.
pub untouched_survives : OpeningIsSafe → (f : Found) (state : DevicesState) → MayRun f (now state) → RunSurvives f state state [] []
untouched_survives law f state may = law f state state may (nothing_done f state may.on)

next_by : (test : Bool) (f opening : Found) → cond {A = Result Found MountFault} test (Ok (in_next f)) (Err NoEntry) ≡ Ok opening → opening ≡ in_next f
next_by true f opening is = cc
next_by false f opening is = cc

-- what is found in an image is in its next session what was opened
next_is : (f opening : Found) → in_next_session (Ok f) ≡ Ok opening → opening ≡ in_next f
next_is f opening is = next_by (nat_lt f.session 4294967295) f opening is

one_found : (result : Result Found MountFault) (one other : Found) → result ≡ Ok one → result ≡ Ok other → one ≡ other
one_found result one other is again = cc

-- An image that means what was found has its forest.
forest_again : (f : Found) (first : DevicesState) (may : MayRun f (now first)) (image : Image) (means : MeansTheSame f (as_read (now first)) image) → forest_in f.trees.keys (read_in image) ≡ forest_found f first
forest_again f first may image means =
    let again : MountsAs image (volume_of (as_read (now first)) f) = means.mounts (volume_of (as_read (now first)) f) (record { f = f; finds = may.on.on.finds; sound = may.sound; volume_is = refl }) in
    sym (ap (λ (v : Volume). v.forest) (again.volume_is ∙ ap (volume_of image) (one_found (found image) again.f (with_session means.session f) again.finds means.finds)))

module _ (devices_tell : Type 0) (opening : Found) (old mounted : DevicesState) (opened : IsOpenedFrom devices_tell opening old mounted) (told : devices_tell) (f : Found) (may : MayRun f (now old)) where
  -- What was opened is the volume of the image, in its next session.
  pub opening_is : opening ≡ in_next f
  opening_is = next_is f opening (opened.made_up told f may.on.on.finds may.on.order.agree)

  -- So the session over it begins well.
  pub begins_well : SessionsBeginWell → BeginsWell opening mounted
  begins_well law = subst (λ (o : Found). BeginsWell o mounted) (sym opening_is) (law f old mounted may (opened.ready told f may.on))

  -- And it leaves room where the image does.
  pub opening_leaves : LeavesRoom f → LeavesRoom opening
  opening_leaves leaves = subst LeavesRoom (sym opening_is) leaves

  -- It has the forest of the image, where no torn block opened by chance meanwhile.
  pub same_forest : OpeningKeeps devices_tell old mounted → GoOn old mounted → All IsDisk (now mounted) → IsVolumeUntorn f old.moment mounted.moment mounted (as_read (now mounted)) → forest_found opening mounted ≡ forest_found f old
  same_forest keeps before disks untorn = ap (λ (o : Found). forest_found o mounted) opening_is
      ∙ forest_again f old may (as_read (now mounted)) ((keeps told f may.on).means mounted.moment before.later (omega arith) (as_read (now mounted)) (as_read_may_be_left (now mounted) disks) untorn)

  -- What survives the session survives the run.
  pub run_survives : OpeningKeeps devices_tell old mounted → GoOn old mounted → All IsDisk (now mounted) → SessionsBeginWell → RunsAreSafe → (new : DevicesState) (trace : History) (acks : List Ack) → ComesAfter devices_tell mounted new
      → AreAcks mounted.moment new.moment trace acks → (BeginsWell opening mounted → Survive opening mounted new trace acks) → RunSurvives f old new trace acks
  run_survives keeps before disks begins safe new trace acks after are survive =
      safe f old mounted new trace acks may (keeps told f may.on) before.later disks (after.past told) after.goes_on.later are
      (subst (λ (o : Found). Survive o mounted new trace acks) opening_is (survive (begins_well begins)))

-- What no entry says of a session that began with room, none says of a run of an image that leaves some.
pub all_unspent : (devices_tell : Type 0) (opening : Found) (old mounted : DevicesState) → (MayRunWithRoom devices_tell old mounted → BeganWithRoom devices_tell opening mounted) → (trace : History)
    → All (λ (entry : Entry). entry.reply ≡ Spent → (class_of entry.op ≡ Syncs) × BeganWithoutRoom devices_tell opening mounted) trace → All (IsUnspent devices_tell opening old mounted) trace
all_unspent devices_tell opening old mounted began trace unspent =
    All-weaker (λ (entry : Entry). entry.reply ≡ Spent → (class_of entry.op ≡ Syncs) × BeganWithoutRoom devices_tell opening mounted) (IsUnspent devices_tell opening old mounted)
    (λ entry is spent. record { syncs = (is spent).0; unkept = (is spent).1.unkept; without = λ with_room. (is spent).1.without (began with_room) }) trace unspent
