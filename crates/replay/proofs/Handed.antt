-- What a call that hands on the fault of another one says of the devices.
use Rattle.std.proofs.Common.{◌≡◌, ℕ, Option, Result, Ok, Err, refl, ap, ◌∙◌, sym, subst}
use Rattle.std.specs.Prelude.{OnOk}
use Rattle.std.specs.Result.{IsErrAnd}
use Rattle.dev_model.specs.Devices.{FaultCounts}
use Rattle.geometry.specs.Faults.{failed_device, fault_device}
use Rattle.geometry.specs.declared.fault.DiskFault.{DiskFault}
use Rattle.geometry.specs.declared.fault.DiskFault.TheVariants as of_disk
use Rattle.node_store.specs.Mending.{AtMostOneWriteFailed}
use Rattle.replay.specs.Beginning.{begin_fault, begin_fault_device, failed_begin_device}
use Rattle.replay.specs.declared.beginning.BeginFault.{BeginFault}

-- What is so of a result given a premise is, where it succeeds, so given the premise.
pub ok_given : {T E : Type 0} (result : Result T E) (A B : Type 0) → (A → OnOk result B) → OnOk result (A → B)
ok_given (Ok value) A B given = given
ok_given (Err fault) A B given = tt

-- What failed by a fault that is handed on failed.
pub handed_fault : {T : Type 0} (result : Result T DiskFault) (fault : DiskFault) (old new : FaultCounts) → IsErrAnd result (λ e. e ≡ fault) → AtMostOneWriteFailed (fault_device fault) old new → AtMostOneWriteFailed (failed_device result) old new
handed_fault (Ok value) fault old new is failed = absurd is
handed_fault (Err e) fault old new is failed = subst (λ (d : DiskFault). AtMostOneWriteFailed (fault_device d) old new) (sym is) failed

same_device : (fault : DiskFault) → begin_fault_device (begin_fault fault) ≡ fault_device fault
same_device (of_disk.DeviceFault dev) = refl
same_device of_disk.NoMemory = refl

handed : {T : Type 0} (result : Result T BeginFault) (fault : DiskFault) → IsErrAnd result (λ e. e ≡ begin_fault fault) → failed_begin_device result ≡ fault_device fault
handed (Ok value) fault is = absurd is
handed (Err e) fault is = ap begin_fault_device is ∙ same_device fault

-- What failed by a call's fault failed by the beginning's.
pub handed_beginning : {T : Type 0} (result : Result T BeginFault) (fault : DiskFault) (old new : FaultCounts) → IsErrAnd result (λ e. e ≡ begin_fault fault) → AtMostOneWriteFailed (fault_device fault) old new → AtMostOneWriteFailed (failed_begin_device result) old new
handed_beginning result fault old new is failed = subst (λ (dev : Option ℕ). AtMostOneWriteFailed dev old new) (sym (handed result fault is)) failed

-- So it is with a beginning's own fault.
pub handed_begun : {T : Type 0} (result : Result T BeginFault) (fault : BeginFault) (old new : FaultCounts) → IsErrAnd result (λ e. e ≡ fault) → AtMostOneWriteFailed (begin_fault_device fault) old new → AtMostOneWriteFailed (failed_begin_device result) old new
handed_begun (Ok value) fault old new is failed = absurd is
handed_begun (Err e) fault old new is failed = subst (λ (dev : Option ℕ). AtMostOneWriteFailed dev old new) (sym (ap begin_fault_device is)) failed
