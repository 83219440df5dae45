-- What a history says of failures, after one more entry, and while calls of devices succeed.
use Rattle.std.proofs.Common.{◌≡◌, ℕ, zero, suc, ◌+◌, ◌<◌, ◌≤◌, Bool, true, false, cond, not, List, [], ◌∷◌, ◌++◌, length, refl, ap, ◌∙◌, sym, subst, arith, Option, Some, None}
use Rattle.std.specs.Prelude.{◌&&◌, ◌||◌, ◌==◌, All, count_by, slice_index_or}
use Rattle.std.proofs.lemmas.Bool.{false≢true}
use Rattle.std.proofs.lemmas.Bool.Decides.{nat_tests}
use Rattle.std.proofs.lemmas.List.Elements.{All-nil, All-cons, All-push}
use Rattle.std.proofs.lemmas.List.Folds.{list_any-append}
use Rattle.std.proofs.lemmas.List.Sums.{sum_by-append}
use Rattle.std.proofs.lemmas.Option.{none-some as none_some}
use Rattle.vol_types.specs.declared.failure.Halt.{Halt}
use Rattle.dev_model.specs.Devices.{AreFaultCounts, DevicesState, FaultCounts, risen, with_write_fault}
use Rattle.dev_model.specs.Disk.{changed}
use Rattle.dev_model.specs.Frames.{GoOn}
use Rattle.forest_ops.specs.Classes.{class_of, is_changing}
use Rattle.forest_ops.specs.History.{History, after_all, commits, is_commit, is_done, is_idle}
use Rattle.forest_ops.specs.HistoryLaws.{EachEntry-push}
use Rattle.forest_ops.specs.declared.operation.Entry.{Entry}
use Rattle.forest_ops.specs.declared.operation.Op.{Op}
use Rattle.forest_ops.specs.declared.operation.Reply.{Reply}
use Rattle.forest_ops.specs.declared.operation.Reply.TheVariants as replies
use Rattle.image_view.specs.Found.{Found}
use Rattle.plain_forest.specs.Forest.{Forest}
use Rattle.forest_ops.specs.Failures.{AgreesWith, AreCounted, Halts, HaveCauses, device_faults, has_failed, has_halted, is_device_fault, is_fault_of, is_halted, is_sync, shows_halt}
use Rattle.vol_session.specs.Marks.{forest_found}
use Rattle.vol_types.specs.Faults.{RoseBy}
use Rattle.volume.specs.Serving.{HaltsAs, IsWriting}
use Rattle.volume.specs.States.{KeepsFailures}

-- the entry of a client
abbrev pub entry_of : ℕ → Op → Reply → Entry
entry_of client op reply = record { client = client; op = op; reply = reply }

-- the counts after a reply: one call more of a device has failed where it says so
abbrev pub faults_after : Reply → FaultCounts → FaultCounts
faults_after (replies.DeviceFault dev) faults = with_write_fault dev faults
faults_after reply faults = faults

-- What an entry more does to counts over a history.
has_failed-push : (trace : History) (entry : Entry) → has_failed (trace ++ entry ∷ []) ≡ (has_failed trace || (is_device_fault entry.reply || false))
has_failed-push trace entry = list_any-append (λ e. is_device_fault e.reply) trace (entry ∷ [])

or_false : (a b : Bool) → b ≡ false → (a || (b || false)) ≡ a
or_false true b is = refl
or_false false b is = ap (λ t. t || false) is

or_true : (a b : Bool) → b ≡ true → (a || (b || false)) ≡ true
or_true true b is = refl
or_true false b is = ap (λ t. t || false) is

has_failed-same : (trace : History) (entry : Entry) → is_device_fault entry.reply ≡ false → has_failed (trace ++ entry ∷ []) ≡ has_failed trace
has_failed-same trace entry works = has_failed-push trace entry ∙ or_false (has_failed trace) (is_device_fault entry.reply) works

count_push : (passes : Entry → Bool) (trace : History) (entry : Entry) → count_by passes (trace ++ entry ∷ []) ≡ count_by passes trace + cond (passes entry) 1 0
count_push passes trace entry = let both = sum_by-append (λ e. cond (passes e) 1 0) trace (entry ∷ []) in omega (arith, both)

-- One entry more counts where it says of the device that it failed.
device_faults-push : (dev : ℕ) (trace : History) (entry : Entry) → device_faults dev (trace ++ entry ∷ []) ≡ device_faults dev trace + cond (is_fault_of dev entry.reply) 1 0
device_faults-push dev trace entry = count_push (λ e. is_fault_of dev e.reply) trace entry

-- An entry that says of no device that it failed says so of none.
no_fault_of : (dev : ℕ) (reply : Reply) → is_device_fault reply ≡ false → is_fault_of dev reply ≡ false
no_fault_of dev (replies.DeviceFault failed) works = absurd (false≢true (sym works))
no_fault_of dev other works = refl

device_faults-same : (dev : ℕ) (trace : History) (entry : Entry) → is_device_fault entry.reply ≡ false → device_faults dev (trace ++ entry ∷ []) ≡ device_faults dev trace
device_faults-same dev trace entry works =
    let none : cond {A = ℕ} (is_fault_of dev entry.reply) 1 0 ≡ 0 = ap (λ test. cond {A = ℕ} test 1 0) (no_fault_of dev entry.reply works) in
    omega (arith, device_faults-push dev trace entry, none)

-- A count that is one more has risen by one more,
rose_once : (start n : ℕ) (counts : List ℕ) (dev : ℕ) → dev < length counts → RoseBy n start (slice_index_or counts dev 0) → RoseBy (n + 1) start (slice_index_or (changed dev risen counts) dev 0)
rose_once start n [] dev within rose = absurd (omega (arith, within))
rose_once start n (count ∷ counts) zero within rose = omega (arith, rose)
rose_once start n (count ∷ counts) (suc dev) within rose = rose_once start n counts dev (omega (arith, within)) rose

-- and none is less.
no_less : (counts : List ℕ) (dev other : ℕ) → slice_index_or counts other 0 ≤ slice_index_or (changed dev risen counts) other 0
no_less [] dev other = omega arith
no_less (count ∷ counts) zero zero = omega arith
no_less (count ∷ counts) zero (suc other) = omega arith
no_less (count ∷ counts) (suc dev) zero = omega arith
no_less (count ∷ counts) (suc dev) (suc other) = no_less counts dev other

-- So the failures that one entry more says of are counted, where its device's count is one more.
counted_once : (trace : History) (client : ℕ) (op : Op) (start counts : List ℕ) (dev : ℕ) → dev < length counts → AreCounted trace start counts → AreCounted (trace ++ entry_of client op (replies.DeviceFault dev) ∷ []) start (changed dev risen counts)
counted_once trace client op start counts dev within counted other = by (dev == other) refl
  where
    here : dev ≡ other → RoseBy (device_faults other trace + 1) (slice_index_or start other 0) (slice_index_or (changed dev risen counts) other 0)
    here same = subst (λ (d : ℕ). RoseBy (device_faults d trace + 1) (slice_index_or start d 0) (slice_index_or (changed dev risen counts) d 0)) same (rose_once (slice_index_or start dev 0) (device_faults dev trace) counts dev within (counted dev))

    by : (test : Bool) → (dev == other) ≡ test → RoseBy (device_faults other (trace ++ entry_of client op (replies.DeviceFault dev) ∷ [])) (slice_index_or start other 0) (slice_index_or (changed dev risen counts) other 0)
    by true is =
        let one : cond {A = ℕ} (dev == other) 1 0 ≡ 1 = ap (λ test. cond {A = ℕ} test 1 0) is in
        let same : dev ≡ other = grind (arith, nat_tests) in
        omega (arith, device_faults-push other trace (entry_of client op (replies.DeviceFault dev)), one, here same)
    by false is =
        let none : cond {A = ℕ} (dev == other) 1 0 ≡ 0 = ap (λ test. cond {A = ℕ} test 1 0) is in
        omega (arith, device_faults-push other trace (entry_of client op (replies.DeviceFault dev)), none, counted other, no_less counts dev other)

-- An entry that says of no device that it failed leaves the causes.
causes-same : (start now : FaultCounts) (trace : History) (entry : Entry) → is_device_fault entry.reply ≡ false → HaveCauses start now trace → HaveCauses start now (trace ++ entry ∷ [])
causes-same start now trace entry works causes = record {
  calls = λ dev. let same = device_faults-same dev trace entry works in omega (arith, same, causes.calls dev);
  writes = λ dev. let same = device_faults-same dev trace entry works in omega (arith, same, causes.writes dev);
}

has_halted-push : (trace : History) (entry : Entry) → has_halted (trace ++ entry ∷ []) ≡ (has_halted trace || (shows_halt entry || false))
has_halted-push trace entry = list_any-append shows_halt trace (entry ∷ [])

-- An entry that shows no halt agrees with any.
agrees_unshown : (halt : Halt) (op : Op) (reply : Reply) → (is_halted reply || (is_sync op && is_device_fault reply)) ≡ false → AgreesWith halt op reply
agrees_unshown halt op (replies.DeviceFault dev) none = λ sync. absurd (false≢true (sym none ∙ ap (λ test. test && true) sync))
agrees_unshown halt op (replies.Halted dev tick) none = absurd (false≢true (sym none))
agrees_unshown halt op other none = tt

agree_unshown : (halt : Halt) (trace : History) → has_halted trace ≡ false → All (λ (e : Entry). AgreesWith halt e.op e.reply) trace
agree_unshown halt [] none = All-nil (λ (e : Entry). AgreesWith halt e.op e.reply)
agree_unshown halt (entry ∷ trace) none =
    let parts = neither (shows_halt entry) (has_halted trace) none in
    All-cons (λ (e : Entry). AgreesWith halt e.op e.reply) entry trace (agrees_unshown halt entry.op entry.reply parts.0) (agree_unshown halt trace parts.1)
  where
    neither : (first rest : Bool) → (first || rest) ≡ false → (first ≡ false) × (rest ≡ false)
    neither true rest is = absurd (false≢true (sym is))
    neither false rest is = (refl, is)

-- What an entry that says of no device that it failed shows of the halt: nothing, or that halt.
abbrev IsShown : Option Halt → ℕ → Op → Reply → Type 0
IsShown None client op reply = shows_halt (entry_of client op reply) ≡ false
IsShown (Some halt) client op reply = AgreesWith halt op reply

halts-push : (halted : Option Halt) (start state : DevicesState) (trace : History) (client : ℕ) (op : Op) (reply : Reply) → Halts halted start state trace → IsShown halted client op reply → Halts halted start state (trace ++ entry_of client op reply ∷ [])
halts-push None start state trace client op reply halts shown = has_halted-push trace (entry_of client op reply) ∙ or_false (has_halted trace) (shows_halt (entry_of client op reply)) shown ∙ halts
halts-push (Some halt) start state trace client op reply halts shown = record {
  device = halts.device;
  no_sooner = halts.no_sooner;
  no_later = halts.no_later;
  cause = halts.cause;
  agree = All-push (λ (e : Entry). AgreesWith halt e.op e.reply) trace (entry_of client op reply) halts.agree shown;
}

-- What isn't done is no commit.
pub not_done : (op : Op) (reply : Reply) (forest : Forest) → is_done reply ≡ false → is_changing (class_of op) && is_done reply && not (is_idle op forest) ≡ false
not_done op reply forest not_so = ap (λ (t : Bool). is_changing (class_of op) && t && not (is_idle op forest)) not_so ∙ by (is_changing (class_of op))
  where
    by : (b : Bool) → (b && false && not (is_idle op forest)) ≡ false
    by true = refl
    by false = refl

first_of : (first second third : Bool) → (first && second && third) ≡ true → first ≡ true
first_of true second third is = refl
first_of false second third is = absurd (false≢true is)

second_of : (first second third : Bool) → (first && second && third) ≡ true → second ≡ true
second_of true true third is = refl
second_of true false third is = absurd (false≢true is)
second_of false second third is = absurd (false≢true is)

-- A commit changes the forest, and was done.
pub commit_changes : (op : Op) (reply : Reply) (forest : Forest) → commits op reply forest ≡ true → is_changing (class_of op) ≡ true
commit_changes op reply forest is = first_of (is_changing (class_of op)) (is_done reply) (not (is_idle op forest)) is

pub commit_is_done : (op : Op) (reply : Reply) (forest : Forest) → commits op reply forest ≡ true → is_done reply ≡ true
commit_is_done op reply forest is = second_of (is_changing (class_of op)) (is_done reply) (not (is_idle op forest)) is

-- What is a commit only where the session writes is none once it has halted.
no_commit_shown : (opening : Forest) (halted : Option Halt) (start state : DevicesState) (trace : History) (client : ℕ) (op : Op) (reply : Reply) → Halts halted start state trace → IsWriting op reply halted
    → has_halted trace ≡ true → is_commit (after_all opening trace) (entry_of client op reply) ≡ false
no_commit_shown opening None start state trace client op reply halts writes before = absurd (false≢true (sym halts ∙ before))
no_commit_shown opening (Some halt) start state trace client op reply halts writes before = by (commits op reply (after_all opening trace)) refl
  where
    by : (commit : Bool) → commits op reply (after_all opening trace) ≡ commit → commits op reply (after_all opening trace) ≡ false
    by true is = absurd (none_some halt (sym (writes (commit_changes op reply (after_all opening trace) is) (commit_is_done op reply (after_all opening trace) is))))
    by false is = is

-- While calls succeed, the halt stays.
halts-later : (halted : Option Halt) (start state later : DevicesState) (trace : History) → GoOn state later → later.faults ≡ state.faults → Halts halted start state trace → Halts halted start later trace
halts-later None start state later trace goes_on same halts = halts
halts-later (Some halt) start state later trace goes_on same halts = record {
  device = halts.device;
  no_sooner = halts.no_sooner;
  no_later = omega (arith, halts.no_later, goes_on.later);
  cause = subst (λ (f : FaultCounts). RoseBy 1 (slice_index_or start.faults.writes halt.dev 0) (slice_index_or f.writes halt.dev 0)) (sym same) halts.cause;
  agree = halts.agree;
}

module _ (begun : Found) (start state later : DevicesState) (trace : History) (goes_on : GoOn state later) where
  -- No call failed, and no entry was added.
  pub failures_later : (old new : Option Halt) → new ≡ old → later.faults ≡ state.faults → KeepsFailures begun start state old trace → KeepsFailures begun start later new trace
  failures_later old new same unfailed keeps = subst (λ (halted : Option Halt). KeepsFailures begun start later halted trace) (sym same) (record {
    failed = keeps.failed;
    only = unfailed ∙ keeps.only;
    halts = halts-later old start state later trace goes_on unfailed keeps.halts;
    no_commit = keeps.no_commit;
    causes = subst (λ (f : FaultCounts). HaveCauses start.faults f trace) (sym unfailed) keeps.causes;
  })

  -- No call failed, and the entry says of none; it shows no other halt.
  failures_entry : (halted : Option Halt) (client : ℕ) (op : Op) (reply : Reply) → is_device_fault reply ≡ false → IsShown halted client op reply → IsWriting op reply halted → later.faults ≡ state.faults
      → KeepsFailures begun start state halted trace → KeepsFailures begun start later halted (trace ++ entry_of client op reply ∷ [])
  failures_entry halted client op reply works shown writes unfailed keeps =
      let halts : Halts halted start later trace = halts-later halted start state later trace goes_on unfailed keeps.halts in
      let causes : HaveCauses start.faults later.faults trace = subst (λ (f : FaultCounts). HaveCauses start.faults f trace) (sym unfailed) keeps.causes in
      record {
        failed = keeps.failed ∙ sym (has_failed-same trace (entry_of client op reply) works);
        only = unfailed ∙ keeps.only;
        halts = halts-push halted start later trace client op reply halts shown;
        no_commit = EachEntry-push (λ before e. has_halted before ≡ true → is_commit (after_all (forest_found begun start) before) e ≡ false) trace (entry_of client op reply) keeps.no_commit
            (no_commit_shown (forest_found begun start) halted start later trace client op reply halts writes);
        causes = causes-same start.faults later.faults trace (entry_of client op reply) works causes;
      }

  -- A device failed, and the entry says so.
  failures_failed : (client : ℕ) (op : Op) (dev tick : ℕ) → GoOn start state → AreFaultCounts state.faults → length state.sizes ≤ 8 → dev < length state.sizes → state.moment ≤ tick → tick ≤ later.moment
      → later.faults ≡ with_write_fault dev state.faults → KeepsFailures begun start state None trace
      → KeepsFailures begun start later (Some (record { dev = dev; tick = tick })) (trace ++ entry_of client op (replies.DeviceFault dev) ∷ [])
  failures_failed client op dev tick since counts few within no_sooner no_later failed keeps =
      let halt : Halt = record { dev = dev; tick = tick } in
      let entry = entry_of client op (replies.DeviceFault dev) in
      let calls : later.faults.calls ≡ changed dev risen state.faults.calls = ap (λ (f : FaultCounts). f.calls) failed in
      let writes : later.faults.writes ≡ changed dev risen state.faults.writes = ap (λ (f : FaultCounts). f.writes) failed in
      let has_calls : dev < length state.faults.calls = omega (arith, within, few, counts.calls) in
      let has_writes : dev < length state.faults.writes = omega (arith, within, few, counts.writes) in
      let at_first : RoseBy 0 (slice_index_or start.faults.writes dev 0) (slice_index_or state.faults.writes dev 0) = omega (arith, since.writes dev) in
      record {
        failed = sym (has_failed-push trace entry ∙ or_true (has_failed trace) true refl);
        only = failed ∙ ap (with_write_fault dev) keeps.only;
        halts = record {
          device = omega (arith, within, ap length since.sizes);
          no_sooner = omega (arith, since.later, no_sooner);
          no_later = no_later;
          cause = subst (λ (c : List ℕ). RoseBy 1 (slice_index_or start.faults.writes dev 0) (slice_index_or c dev 0)) (sym writes)
              (rose_once (slice_index_or start.faults.writes dev 0) 0 state.faults.writes dev has_writes at_first);
          agree = All-push (λ (e : Entry). AgreesWith halt e.op e.reply) trace entry (agree_unshown halt trace keeps.halts) (λ sync. refl);
        };
        no_commit = EachEntry-push (λ before e. has_halted before ≡ true → is_commit (after_all (forest_found begun start) before) e ≡ false) trace entry keeps.no_commit
            (λ before. not_done op (replies.DeviceFault dev) (after_all (forest_found begun start) trace) refl);
        causes = record {
          calls = subst (λ (c : List ℕ). AreCounted (trace ++ entry ∷ []) start.faults.calls c) (sym calls) (counted_once trace client op start.faults.calls state.faults.calls dev has_calls keeps.causes.calls);
          writes = subst (λ (c : List ℕ). AreCounted (trace ++ entry ∷ []) start.faults.writes c) (sym writes) (counted_once trace client op start.faults.writes state.faults.writes dev has_writes keeps.causes.writes);
        };
      }

  -- A reply that says nothing of a device or of the halt agrees with any.
  quiet : (halted : Option Halt) (client : ℕ) (op : Op) (reply : Reply) → ((halt : Halt) → AgreesWith halt op reply) → shows_halt (entry_of client op reply) ≡ false → IsShown halted client op reply
  quiet None client op reply agrees shows = shows
  quiet (Some halt) client op reply agrees shows = agrees halt

  -- A reply that says of no device that it failed is no sync's that does.
  quiet_one : (op : Op) → (is_sync op && false) ≡ false
  quiet_one op = by (is_sync op)
    where
      by : (b : Bool) → (b && false) ≡ false
      by true = refl
      by false = refl

  same_halt : (old new : Option Halt) (client : ℕ) (op : Op) (reply : Reply) → is_device_fault reply ≡ false → new ≡ old → IsShown old client op reply → IsWriting op reply old → later.faults ≡ state.faults
      → KeepsFailures begun start state old trace → KeepsFailures begun start later new (trace ++ entry_of client op reply ∷ [])
  same_halt old new client op reply works same shown writes unfailed keeps =
      subst (λ (halted : Option Halt). KeepsFailures begun start later halted (trace ++ entry_of client op reply ∷ [])) (sym same) (failures_entry old client op reply works shown writes unfailed keeps)

  -- An operation was answered: what is kept of failures is kept.
  pub failures_served : GoOn start state → AreFaultCounts state.faults → length state.sizes ≤ 8 → (old new : Option Halt) (client : ℕ) (op : Op) (reply : Reply) → later.faults ≡ faults_after reply state.faults
      → HaltsAs reply state.moment later.moment state.sizes old new → IsWriting op reply old → KeepsFailures begun start state old trace → KeepsFailures begun start later new (trace ++ entry_of client op reply ∷ [])
  failures_served since counts few old new client op (replies.DeviceFault dev) faults halts writes keeps =
      let tick = halts.1 in
      subst (λ (halted : Option Halt). KeepsFailures begun start later halted (trace ++ entry_of client op (replies.DeviceFault dev) ∷ [])) (sym halts.2)
      (failures_failed client op dev tick since counts few halts.5 halts.3 halts.4 faults (subst (λ (halted : Option Halt). KeepsFailures begun start state halted trace) halts.0 keeps))
  failures_served since counts few old new client op (replies.Halted dev tick) faults halts writes keeps =
      same_halt old new client op (replies.Halted dev tick) refl halts.0
      (subst (λ (halted : Option Halt). IsShown halted client op (replies.Halted dev tick)) (sym halts.1 ∙ halts.0) (refl, refl)) writes faults keeps
  failures_served since counts few old new client op other faults halts writes keeps = same_halt old new client op other refl halts (quiet old client op other (λ halt. tt) (quiet_one op)) writes faults keeps
