-- What a result that hands on the fault of a call says of the devices.
use Rattle.std.proofs.Common.{◌≡◌, ℕ, Option, None, Some, Result, inl, inr, sym, subst}
use Rattle.std.specs.Result.{IsErrAnd}
use Rattle.dev_model.specs.Devices.{FaultCounts}
use Rattle.dev_model.specs.Frames.{AreAfterCalls, after_reads, after_writes}
use Rattle.geometry.specs.declared.fault.DiskFault.{DiskFault}
use Rattle.geometry.specs.Faults.{failed_device, fault_device}
use Rattle.geometry.specs.FaultLaws.{handed_device}

-- Reads are calls,
pub calls_by_reads : (device : Option ℕ) (old new : FaultCounts) → new ≡ after_reads device old → AreAfterCalls device old new
calls_by_reads None old new is = is
calls_by_reads (Some dev) old new is = inl is

-- and so are writes,
pub calls_by_writes : (device : Option ℕ) (old new : FaultCounts) → new ≡ after_writes device old → AreAfterCalls device old new
calls_by_writes None old new is = is
calls_by_writes (Some dev) old new is = inr is

-- where calls that succeeded came before.
pub calls_then : (device : Option ℕ) (old mid new : FaultCounts) → mid ≡ old → AreAfterCalls device mid new → AreAfterCalls device old new
calls_then device old mid new same calls = subst (λ (f : FaultCounts). AreAfterCalls device f new) same calls

-- What is said of the device that the fault names is said of the one that the result names.
pub handed_calls : {T : Type 0} (result : Result T DiskFault) (error : DiskFault) (old new : FaultCounts) → IsErrAnd result (λ e. e ≡ error) → AreAfterCalls (fault_device error) old new → AreAfterCalls (failed_device result) old new
handed_calls result error old new is calls = subst (λ (dev : Option ℕ). AreAfterCalls dev old new) (sym (handed_device result error is)) calls
