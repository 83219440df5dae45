-- What a volume's loading and its beginning come to together.
use Rattle.std.proofs.Common.{◌≡◌, ℕ, zero, suc, ◌+◌, ◌<◌, ◌≤◌, inl, inr, ⊎_elim, Bool, true, false, nat_lt, if◌then◌else◌, List, [], ◌∷◌, length, Option, Some, None, Result, Ok, Err, refl, ap, ◌∙◌, sym, subst, arith}
use Rattle.std.proofs.lemmas.Bool.{cases_lt}
use Rattle.std.proofs.lemmas.Bool.Decides.{nat_tests}
use Rattle.std.specs.Prelude.{IfOk, IfSome, OnOk, slice_index_or}
use Rattle.dev_model.specs.Devices.{AreFaultCounts, DevicesState, FaultCounts, now, risen, with_read_fault, with_write_fault}
use Rattle.dev_model.specs.Disk.{Disk, Image, IsCrashImage, as_read, changed}
use Rattle.dev_model.specs.FrameLaws.{no_fewer_here, stay_now}
use Rattle.dev_model.specs.Frames.{AreAfterCalls, AreNoFewer, DisksStay, after_writes}
use Rattle.geometry.specs.Faults.{DeviceFailed, SomeFailed}
use Rattle.image_view.specs.Found.{Found, found, with_session}
use Rattle.image_view.specs.declared.fault.MountFault.{MountFault}
use Rattle.image_view.specs.declared.fault.MountFault.TheVariants.{NoSuper, Version, Mixed, BadLayout, NoEntry, MissingEntry, BadNode, Unsound, DeviceFault, NoMemory}
use Rattle.image_reader.specs.Answers.{Finds, IsEarly}
use Rattle.image_reader.specs.Faults.{mount_fault_device}
use Rattle.node_store.specs.Mending.{AtMostOneWriteFailed}
use Rattle.tree_nodes.specs.Levels.{Levels}
use Rattle.vol_types.specs.Faults.{RoseBy}
use Rattle.vol_types.specs.declared.layout.Layout.{Layout}
use Rattle.replay.specs.Answers.{IsLoaded}
use Rattle.replay.specs.Beginning.{MeansTheSame, begin_fault_device}
use Rattle.replay.proofs.NextSession.{stay_session, stay_then_session}
use Rattle.replay.specs.Mending.{IsInOrderOn, IsReady, KeepsMeaning, KeepsPast}
use Rattle.replay.specs.Untorn.{volume_untorn_since}
use Rattle.replay.specs.Opening.{IsRefusal, in_next_session, opening_fault}
use Rattle.replay.specs.Volumes.{found_in}
use Rattle.replay.specs.declared.beginning.BeginFault.{BeginFault}
use Rattle.replay.specs.declared.beginning.BeginFault.TheVariants as of_begin
use Rattle.replay.specs.declared.volume.Loaded.{Loaded}

-- ---- the next session

-- What isn't found isn't found in its next session.
pub next_failed : (expected : Result Found MountFault) (fault : MountFault) → Finds found_in expected (Err fault) → Finds found_in (in_next_session expected) (Err fault)
next_failed expected NoSuper is = ap in_next_session is
next_failed expected Version is = ap in_next_session is
next_failed expected Mixed is = ap in_next_session is
next_failed expected BadLayout is = ap in_next_session is
next_failed expected NoEntry is = ap in_next_session is
next_failed expected (MissingEntry sequence) is = ap in_next_session is
next_failed expected (BadNode place) is = ap in_next_session is
next_failed expected (Unsound check) is = ap in_next_session is
next_failed expected (DeviceFault dev) is = tt
next_failed expected NoMemory is = tt

-- What isn't loaded isn't opened.
pub next_unloaded : (f : Found) (fault : MountFault) → IsLoaded f (Err fault) → Finds found_in (in_next_session (Ok f)) (Err fault)
next_unloaded f NoSuper is = absurd is
next_unloaded f Version is = absurd is
next_unloaded f Mixed is = absurd is
next_unloaded f BadLayout is = absurd is
next_unloaded f NoEntry is = absurd is
next_unloaded f (MissingEntry sequence) is = absurd is
next_unloaded f (BadNode place) is = absurd is
next_unloaded f (Unsound check) is = absurd is
next_unloaded f (DeviceFault dev) is = tt
next_unloaded f NoMemory is = tt

-- A number is left,
next_by : Found → Bool → Result Found MountFault
next_by f left = if left then Ok (with_session (f.session + 1) f) else Err NoEntry

next_is : (f : Found) (session : ℕ) → (4294967295 ≤ f.session → ⊥) → session ≡ f.session + 1 → in_next_session (Ok f) ≡ Ok (with_session session f)
unfolding next_by
next_is f session left is =
    let s = f.session in
    let test : nat_lt s 4294967295 ≡ true = ⊎_elim (λ (below : s < 4294967295). grind (arith, nat_tests)) (λ (past : 4294967295 ≤ s). absurd (left past)) (cases_lt s 4294967295) in
    ap (next_by f) test ∙ ap (λ n. Ok (with_session n f)) (sym is)

-- or none is.
none_left : (f : Found) → 4294967295 ≤ f.session → in_next_session (Ok f) ≡ Err NoEntry
unfolding next_by
none_left f past =
    let s = f.session in
    let test : nat_lt s 4294967295 ≡ false = grind (arith, nat_tests) in
    ap (next_by f) test

-- A volume whose session has begun is what was found, in the next session.
pub begun_is : (f : Found) (session : ℕ) (opened : Loaded) → (4294967295 ≤ f.session → ⊥) → session ≡ f.session + 1 → found_in opened ≡ with_session session f → Finds found_in (in_next_session (Ok f)) (Ok opened)
begun_is f session opened left is same = next_is f session left is ∙ ap (λ g. Ok g) (sym same)

-- One whose session isn't begun has none left, or a device failed or it was out of memory.
pub unbegun_is : (f : Found) (fault : BeginFault) → (fault ≡ of_begin.Spent → 4294967295 ≤ f.session) → Finds found_in (in_next_session (Ok f)) (Err (opening_fault fault))
unbegun_is f of_begin.Spent none = none_left f (none refl)
unbegun_is f (of_begin.DeviceFault dev) none = tt
unbegun_is f of_begin.NoMemory none = tt

-- It is refused where no number is left alone, and names the device that the beginning does.
refused_is_spent : (fault : BeginFault) → IsRefusal (opening_fault fault) → fault ≡ of_begin.Spent
refused_is_spent of_begin.Spent is = refl
refused_is_spent (of_begin.DeviceFault dev) is = absurd is
refused_is_spent of_begin.NoMemory is = absurd is

pub same_device : (fault : BeginFault) → mount_fault_device (opening_fault fault) ≡ begin_fault_device fault
same_device of_begin.Spent = refl
same_device (of_begin.DeviceFault dev) = refl
same_device of_begin.NoMemory = refl

no_check : (fault : BeginFault) (check : ℕ) → opening_fault fault ≡ Unsound check → ⊥
no_check of_begin.Spent check is = absurd cc
no_check (of_begin.DeviceFault dev) check is = absurd cc
no_check of_begin.NoMemory check is = absurd cc

-- a volume that wasn't opened
abbrev unopened : MountFault → Result Loaded MountFault
unopened fault = Err fault

one_fault : (one other : MountFault) → unopened one ≡ unopened other → one ≡ other
one_fault one other same = cc

pub spent_refused : (fault : BeginFault) (told other : MountFault) → told ≡ opening_fault fault → unopened told ≡ unopened other → IsRefusal other → fault ≡ of_begin.Spent
spent_refused fault told other is same refusal = refused_is_spent fault (subst IsRefusal (sym (one_fault told other same) ∙ is) refusal)

-- So the fault is that no number is left.
pub told_no_entry : (fault : BeginFault) (told other : MountFault) → told ≡ opening_fault fault → unopened told ≡ unopened other → IsRefusal other → other ≡ NoEntry
told_no_entry fault told other is same refusal = sym (one_fault told other same) ∙ is ∙ ap opening_fault (spent_refused fault told other is same refusal)

-- A fault before the nodes refuses the volume.
pub early_refuses : (fault : MountFault) → IsEarly fault → IsRefusal fault
early_refuses NoSuper early = tt
early_refuses Version early = tt
early_refuses Mixed early = tt
early_refuses BadLayout early = tt
early_refuses NoEntry early = tt
early_refuses (MissingEntry sequence) early = tt
early_refuses (BadNode place) early = tt
early_refuses (Unsound check) early = tt
early_refuses (DeviceFault dev) early = absurd early
early_refuses NoMemory early = absurd early

pub untested : (fault : BeginFault) (told : MountFault) → told ≡ opening_fault fault → (check : ℕ) → unopened told ≡ unopened (Unsound check) → ⊥
untested fault told is check same = no_check fault check (sym is ∙ one_fault told (Unsound check) same)

-- a session that was begun
abbrev begun : ℕ → Result ℕ BeginFault
begun session = Ok session

pub is_begun : (session : ℕ) (fault : BeginFault) → begun session ≡ Err fault → ⊥
is_begun session fault is = absurd cc

-- ---- failures

rose_at : (counts : List ℕ) (dev : ℕ) → dev < length counts → RoseBy 1 (slice_index_or counts dev 0) (slice_index_or (changed dev risen counts) dev 0)
rose_at [] dev within = absurd (omega (arith, within))
rose_at (count ∷ counts) zero within = omega arith
rose_at (count ∷ counts) (suc dev) within = rose_at counts dev (omega (arith, within))

-- A device of which the last call failed has failed since the reading began.
pub failed_by_call : (device : Option ℕ) (old mid new : FaultCounts) (mirrors : ℕ) → AreNoFewer old.calls mid.calls → AreAfterCalls device mid new → AreFaultCounts mid → mirrors ≤ 8
    → IfSome device (λ dev. dev < mirrors) → IfSome device (λ dev. DeviceFailed dev old new)
failed_by_call None old mid new mirrors more is are few below = tt
failed_by_call (Some dev) old mid new mirrors more is are few below =
    let eight = are.calls in
    let rose = rose_at mid.calls dev (omega (arith, below, few, eight)) in
    let since : RoseBy 1 (slice_index_or old.calls dev 0) (slice_index_or (changed dev risen mid.calls) dev 0) = omega (arith, rose, more dev) in
    let calls : new.calls ≡ changed dev risen mid.calls = ⊎_elim (λ e. ap (λ (f : FaultCounts). f.calls) e) (λ e. ap (λ (f : FaultCounts). f.calls) e) is in
    subst (λ counts. RoseBy 1 (slice_index_or old.calls dev 0) (slice_index_or counts dev 0)) (sym calls) since

-- A device of which the last write failed is one of which the last call did.
pub after_write : (device : Option ℕ) (old new : FaultCounts) → new ≡ after_writes device old → AreAfterCalls device old new
after_write None old new is = is
after_write (Some dev) old new is = inr is

-- So at most one write failed, where no other call did.
pub write_at_most : (device : Option ℕ) (old new : FaultCounts) (mirrors : ℕ) → AreAfterCalls device old new → AreFaultCounts old → mirrors ≤ 8 → IfSome device (λ dev. dev < mirrors) → AtMostOneWriteFailed device old new
write_at_most None old new mirrors is are few below = ap (λ (f : FaultCounts). f.writes) is
write_at_most (Some dev) old new mirrors is are few below = (
  failed_by_call (Some dev) old old new mirrors (no_fewer_here old.calls) is are few below,
  ⊎_elim (λ (read : new ≡ with_read_fault dev old). inl (ap (λ (f : FaultCounts). f.writes) read)) (λ (written : new ≡ with_write_fault dev old). inr (ap (λ (f : FaultCounts). f.writes) written)) is,
)

-- The device that a fault names has failed.
pub device_failed : (device : Option ℕ) (old new : FaultCounts) → AtMostOneWriteFailed device old new → IfSome device (λ dev. DeviceFailed dev old new)
device_failed None old new failed = tt
device_failed (Some dev) old new failed = failed.0

-- A device that failed after other calls has failed since these began.
pub failed_since : (device : Option ℕ) (old mid new : FaultCounts) → AreNoFewer old.calls mid.calls → IfSome device (λ dev. DeviceFailed dev mid new) → IfSome device (λ dev. DeviceFailed dev old new)
failed_since None old mid new more failed = tt
failed_since (Some dev) old mid new more failed = omega (arith, more dev, failed)

-- What failed before has failed.
pub none_before : (old mid new : FaultCounts) → AreNoFewer mid.calls new.calls → (SomeFailed old new → ⊥) → SomeFailed old mid → ⊥
none_before old mid new more none failed = none (failed.0, (let f : DeviceFailed failed.0 old new = omega (arith, failed.1, more failed.0) in f))

-- ---- crashes

-- What was found on the disks, in order, is found on those that are the same.
pub in_order_now : (f : Found) (old mid : DevicesState) → IsInOrderOn f (now old) → DisksStay old mid → IsInOrderOn f (now mid)
in_order_now f old mid on stay = subst (λ (ds : List Disk). IsInOrderOn f ds) (sym (stay_now old mid stay)) on

means_itself : (f : Found) (image : Image) → found image ≡ Ok f → MeansTheSame f image image
means_itself f image finds = record {
  session = f.session;
  later = omega arith;
  finds = finds;
  in_order = λ order. order;
  mounts = λ volume mounts. mounts;
  unsound = λ check unsound. unsound;
}

-- What a crash leaves of disks in order is what is read.
left_means : (f : Found) (disks : List Disk) → IsInOrderOn f disks → (image : Image) → IsCrashImage disks image → MeansTheSame f (as_read disks) image
left_means f disks on image may = subst (λ (im : Image). MeansTheSame f (as_read disks) im) (sym (on.on.quiet image may)) (means_itself f (as_read disks) on.on.finds)

-- While disks stay a crash leaves what means the same,
pub stay_means : (f : Found) (old new : DevicesState) → IsInOrderOn f (now old) → DisksStay old new → KeepsMeaning f old new
stay_means f old new on stay = record {
  means = λ m lo hi image may untorn. left_means f (now old) on image (subst (λ (ds : List Disk). IsCrashImage ds image) (stay.same m lo hi) may);
  session = stay_session f old new on.on stay;
}

-- and also while what follows keeps the meaning.
pub stay_then_means : (f : Found) (old mid new : DevicesState) → IsInOrderOn f (now old) → DisksStay old mid → KeepsPast mid new → KeepsMeaning f mid new → KeepsMeaning f old new
stay_then_means f old mid new on stay past keeps = record {
  means = λ m lo hi image may untorn. ⊎_elim
      (λ (after : mid.moment < m).
      subst (λ (ds : List Disk). MeansTheSame f (as_read ds) image) (stay_now old mid stay)
      (keeps.means m (omega (arith, after)) hi image may (volume_untorn_since f old.moment mid.moment m new image later untorn)))
      (λ (earlier : m ≤ mid.moment). left_means f (now old) on image (subst (λ (ds : List Disk). IsCrashImage ds image) (past m earlier ∙ stay.same m lo earlier) may))
      (cases_lt mid.moment m);
  session = stay_then_session f old mid new on.on stay past keeps.session;
}
  where
    later : old.moment ≤ mid.moment
    later = stay.later

-- ---- what a volume has

-- What is said of a loaded volume is said of it once opened.
pub of_opened : (loaded : Loaded) (result : Result Loaded MountFault) → IfOk result (λ o. o.layout ≡ loaded.layout) → IfOk result (λ o. o.map.nodes ≡ loaded.map.nodes) → IfOk result (λ o. o.ragged ≡ loaded.ragged)
    → (P : Layout → List Levels → List ℕ → Type 0) → P loaded.layout loaded.map.nodes loaded.ragged → IfOk result (λ o. P o.layout o.map.nodes o.ragged)
of_opened loaded (Ok opened) layouts nodes ragged P p =
    subst (λ (l : Layout). P l opened.map.nodes opened.ragged) (sym layouts)
    (subst (λ (ns : List Levels). P loaded.layout ns opened.ragged) (sym nodes)
    (subst (λ (births : List ℕ). P loaded.layout loaded.map.nodes births) (sym ragged) p))
of_opened loaded (Err fault) layouts nodes ragged P p = tt

-- What is ready as it was loaded is ready as it was found.
pub ready_with : (f : Found) (session : ℕ) → f.session ≡ session → (result : Result Loaded MountFault) (disks : List Disk)
    → OnOk result (IsReady (with_session (session + 1) f) disks) → OnOk result (IsReady (with_session (f.session + 1) f) disks)
ready_with f session sessions result disks ready = subst (λ (s : ℕ). OnOk result (IsReady (with_session (s + 1) f) disks)) (sym sessions) ready
