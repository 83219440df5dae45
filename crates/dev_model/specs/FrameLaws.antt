-- Laws on frames, for whoever calls devices: nothing was done, one call was made, one part came after another.
use Rattle.std.proofs.Common.{◌≡◌, ℕ, zero, suc, ◌<◌, ◌≤◌, List, [], ◌∷◌, refl, ap, ◌∙◌, arith, Result, Ok, Err, MatchResult, ◌⊎◌, inl, inr, ⊎_elim, subst, sym}
use Rattle.std.proofs.lemmas.Bool.{cases_lt}
use Rattle.dev_model.specs.Disk.{Disk, changed}
use Rattle.dev_model.specs.Devices.{ChangesDisks, DevicesState, FaultCounts, Is, IsCall, IsRead, now, risen, with_read_fault, with_write_fault}
use Rattle.dev_model.specs.Frames.{AreNoFewer, AreOnlyRead, DisksStay, GoOn}

earlier_or_later : (m n : ℕ) → (m ≤ n) ⊎ (n < m)
earlier_or_later m n = ⊎_elim (λ (later : n < m). inr later) (λ (earlier : m ≤ n). inl earlier) (cases_lt n m)

-- Before the first call the disks are as they are.
pub stay_here : (state : DevicesState) → DisksStay state state
stay_here state = record { later = omega arith; past = λ m le. refl; same = λ m lo hi. ap state.disks (let e : m ≡ state.moment = omega (arith, lo, hi) in e) }

-- Now they are what they were.
pub stay_now : (old new : DevicesState) → DisksStay old new → now new ≡ now old
stay_now old new stay = stay.same new.moment stay.later (omega arith)

-- One part of the reading comes after another.
pub stay_then : (old mid new : DevicesState) → DisksStay old mid → DisksStay mid new → DisksStay old new
stay_then old mid new first second = record {
  later = omega (arith, first.later, second.later);
  past = λ m le. second.past m (omega (arith, le, first.later)) ∙ first.past m le;
  same = λ m lo hi. ⊎_elim
      (λ (earlier : m ≤ mid.moment). second.past m earlier ∙ first.same m lo earlier)
      (λ (later : mid.moment < m). second.same m (omega (arith, later)) hi ∙ stay_now old mid first)
      (earlier_or_later m mid.moment);
}

in_the_end : {T E : Type 0} (result : Result T E) (A : Type 0) → MatchResult result (λ _. A) (λ _. A) → A
in_the_end (Ok x) A is = is
in_the_end (Err e) A is = is

-- A call that leaves the disks keeps them so.
pub stay_by : {T E : Type 0} (result : Result T E) (old new : DevicesState) → ChangesDisks result (Is (now old)) (Is (now old)) old new → DisksStay old new
stay_by result old new changes = record {
  later = changes.later;
  past = changes.past;
  same = λ m lo hi. ⊎_elim
      (λ (earlier : m ≤ old.moment). ap new.disks (let e : m ≡ old.moment = omega (arith, lo, earlier) in e) ∙ changes.past old.moment (omega arith))
      (λ (later : old.moment < m). ⊎_elim
      (λ (before : m < new.moment). changes.inside m later before)
      (λ (end : new.moment ≤ m). ap new.disks (let e : m ≡ new.moment = omega (arith, hi, end) in e) ∙ in_the_end result (now new ≡ now old) changes.after)
      (cases_lt m new.moment))
      (earlier_or_later m old.moment);
}

-- One failure more of a device leaves no count less.
pub risen_no_fewer : (counts : List ℕ) (dev : ℕ) → AreNoFewer counts (changed dev risen counts)
risen_no_fewer [] dev d = omega arith
risen_no_fewer (count ∷ counts) zero zero = omega arith
risen_no_fewer (count ∷ counts) zero (suc d) = omega arith
risen_no_fewer (count ∷ counts) (suc dev) zero = omega arith
risen_no_fewer (count ∷ counts) (suc dev) (suc d) = risen_no_fewer counts dev d

-- No count is less than itself,
pub no_fewer_here : (counts : List ℕ) → AreNoFewer counts counts
no_fewer_here counts dev = omega arith

-- and none less than one that is no less.
pub no_fewer_then : (first second third : List ℕ) → AreNoFewer first second → AreNoFewer second third → AreNoFewer first third
no_fewer_then first second third one other dev = omega (arith, one dev, other dev)

no_fewer_by : {T E : Type 0} (result : Result T E) (with_fault : FaultCounts → FaultCounts) (seen : FaultCounts → List ℕ) (old new : FaultCounts)
    → MatchResult result (λ _. new ≡ old) (λ _. new ≡ with_fault old) → AreNoFewer (seen old) (seen (with_fault old)) → AreNoFewer (seen old) (seen new)
no_fewer_by (Ok x) with_fault seen old new is more = subst (λ (f : FaultCounts). AreNoFewer (seen old) (seen f)) (sym is) (no_fewer_here (seen old))
no_fewer_by (Err e) with_fault seen old new is more = subst (λ (f : FaultCounts). AreNoFewer (seen old) (seen f)) (sym is) more

same_by : {T E : Type 0} (result : Result T E) (with_fault : FaultCounts → FaultCounts) (seen : FaultCounts → List ℕ) (old new : FaultCounts)
    → MatchResult result (λ _. new ≡ old) (λ _. new ≡ with_fault old) → seen (with_fault old) ≡ seen old → seen new ≡ seen old
same_by (Ok x) with_fault seen old new is same = ap seen is
same_by (Err e) with_fault seen old new is same = ap seen is ∙ same

-- Nothing was read yet.
pub only_read_here : (tells : Type 0) (state : DevicesState) → AreOnlyRead tells state state
only_read_here tells state = record {
  disks = λ told. stay_here state;
  sizes = refl;
  later = omega arith;
  calls = no_fewer_here state.faults.calls;
  writes = refl;
}

-- One read.
pub only_read_by : {T E : Type 0} (tells : Type 0) (dev : ℕ) (result : Result T E) (old new : DevicesState) → IsRead tells dev result old new → new.sizes ≡ old.sizes → AreOnlyRead tells old new
only_read_by tells dev result old new call sizes = record {
  disks = λ told. stay_by result old new (call.disks told);
  sizes = sizes;
  later = call.later;
  calls = no_fewer_by result (with_read_fault dev) (λ f. f.calls) old.faults new.faults call.faults (risen_no_fewer old.faults.calls dev);
  writes = same_by result (with_read_fault dev) (λ f. f.writes) old.faults new.faults call.faults refl;
}

-- One part of the reading after another.
pub only_read_then : (tells : Type 0) (old mid new : DevicesState) → AreOnlyRead tells old mid → AreOnlyRead tells mid new → AreOnlyRead tells old new
only_read_then tells old mid new first second = record {
  disks = λ told. stay_then old mid new (first.disks told) (second.disks told);
  sizes = second.sizes ∙ first.sizes;
  later = omega (arith, first.later, second.later);
  calls = no_fewer_then old.faults.calls mid.faults.calls new.faults.calls first.calls second.calls;
  writes = second.writes ∙ first.writes;
}

-- Nothing was called yet.
pub go_on_here : (state : DevicesState) → GoOn state state
go_on_here state = record { sizes = refl; later = omega arith; calls = no_fewer_here state.faults.calls; writes = no_fewer_here state.faults.writes }

-- A read, a write or a flush.
pub go_on_by_read : {T E : Type 0} (tells : Type 0) (dev : ℕ) (result : Result T E) (partly wholly : List Disk → Type 0) (old new : DevicesState) → IsCall tells result partly wholly (with_read_fault dev) old new → new.sizes ≡ old.sizes → GoOn old new
go_on_by_read tells dev result partly wholly old new call sizes = record {
  sizes = sizes;
  later = call.later;
  calls = no_fewer_by result (with_read_fault dev) (λ f. f.calls) old.faults new.faults call.faults (risen_no_fewer old.faults.calls dev);
  writes = no_fewer_by result (with_read_fault dev) (λ f. f.writes) old.faults new.faults call.faults (no_fewer_here old.faults.writes);
}

pub go_on_by_write : {T E : Type 0} (tells : Type 0) (dev : ℕ) (result : Result T E) (partly wholly : List Disk → Type 0) (old new : DevicesState) → IsCall tells result partly wholly (with_write_fault dev) old new → new.sizes ≡ old.sizes → GoOn old new
go_on_by_write tells dev result partly wholly old new call sizes = record {
  sizes = sizes;
  later = call.later;
  calls = no_fewer_by result (with_write_fault dev) (λ f. f.calls) old.faults new.faults call.faults (risen_no_fewer old.faults.calls dev);
  writes = no_fewer_by result (with_write_fault dev) (λ f. f.writes) old.faults new.faults call.faults (risen_no_fewer old.faults.writes dev);
}

-- Reading goes on.
pub go_on_reading : (tells : Type 0) (old new : DevicesState) → AreOnlyRead tells old new → GoOn old new
go_on_reading tells old new read = record {
  sizes = read.sizes;
  later = read.later;
  calls = read.calls;
  writes = subst (λ (counts : List ℕ). AreNoFewer old.faults.writes counts) (sym read.writes) (no_fewer_here old.faults.writes);
}

-- One part after another.
pub go_on_then : (old mid new : DevicesState) → GoOn old mid → GoOn mid new → GoOn old new
go_on_then old mid new first second = record {
  sizes = second.sizes ∙ first.sizes;
  later = omega (arith, first.later, second.later);
  calls = no_fewer_then old.faults.calls mid.faults.calls new.faults.calls first.calls second.calls;
  writes = no_fewer_then old.faults.writes mid.faults.writes new.faults.writes first.writes second.writes;
}
