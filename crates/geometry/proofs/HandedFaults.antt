-- What a result that hands on the fault of a call says of the devices.
use Rattle.std.proofs.Common.{◌≡◌, ℕ, Option, Result, ap, ◌∙◌, sym}
use Rattle.std.specs.Result.{IsErrAnd}
use Rattle.dev_model.specs.Devices.{FaultCounts}
use Rattle.dev_model.specs.Frames.{after_reads, after_writes}
use Rattle.geometry.specs.declared.fault.DiskFault.{DiskFault}
use Rattle.geometry.specs.Faults.{failed_device, fault_device}
use Rattle.geometry.specs.FaultLaws.{handed_device}

-- After reads that succeeded the counts are those after the read that failed,
pub handed_reads : {T : Type 0} (result : Result T DiskFault) (error : DiskFault) (old mid new : FaultCounts) → IsErrAnd result (λ e. e ≡ error) → mid ≡ old → new ≡ after_reads (fault_device error) mid → new ≡ after_reads (failed_device result) old
handed_reads result error old mid new is before call = call ∙ ap (after_reads (fault_device error)) before ∙ ap (λ (dev : Option ℕ). after_reads dev old) (sym (handed_device result error is))

-- and after writes that succeeded those after the write or flush that failed.
pub handed_writes : {T : Type 0} (result : Result T DiskFault) (error : DiskFault) (old mid new : FaultCounts) → IsErrAnd result (λ e. e ≡ error) → mid ≡ old → new ≡ after_writes (fault_device error) mid → new ≡ after_writes (failed_device result) old
handed_writes result error old mid new is before call = call ∙ ap (after_writes (fault_device error)) before ∙ ap (λ (dev : Option ℕ). after_writes dev old) (sym (handed_device result error is))
