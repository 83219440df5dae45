-- What a result that hands on the fault of a call says of the devices.
use Rattle.std.proofs.Common.{◌≡◌, ℕ, ◌<◌, ◌≤◌, Option, None, Some, Result, Ok, Err, ap, sym, subst, arith}
use Rattle.std.specs.Prelude.{IfSome}
use Rattle.std.specs.Result.{IsErrAnd}
use Rattle.geometry.specs.declared.fault.DiskFault.{DiskFault}
use Rattle.geometry.specs.Faults.{failed_device, fault_device}
use Rattle.geometry.specs.Mirrors.{NamesOneOf}

-- It names the device that the fault names.
pub handed_device : {T : Type 0} (result : Result T DiskFault) (error : DiskFault) → IsErrAnd result (λ e. e ≡ error) → failed_device result ≡ fault_device error
handed_device (Ok value) error is = absurd is
handed_device (Err e) error is = ap fault_device is

-- What is said of the device that the fault names is said of the one that the result names.
pub handed_named : {T : Type 0} (result : Result T DiskFault) (error : DiskFault) (P : ℕ → Type 0) → IsErrAnd result (λ e. e ≡ error) → IfSome (fault_device error) P → IfSome (failed_device result) P
handed_named result error P is holds = subst (λ (dev : Option ℕ). IfSome dev P) (sym (handed_device result error is)) holds

-- The named device is one of so many where it is one of them.
pub named_below : (device : Option ℕ) (dev count : ℕ) → dev < count → IfSome device (λ failed. failed ≡ dev) → IfSome device (λ failed. failed < count)
named_below None dev count below is = tt
named_below (Some failed) dev count below is = omega (arith, below, is)

-- A result that names one of the first devices where it fails names one of more.
pub named_in : {T : Type 0} (result : Result T DiskFault) (few many : ℕ) → few ≤ many → NamesOneOf few result → IfSome (failed_device result) (λ failed. failed < many)
named_in (Ok value) few many more names = tt
named_in (Err fault) few many more names = subst (λ (one : DiskFault). IfSome (fault_device one) (λ failed. failed < many)) (sym names.2) (let below : names.0 < many = omega (arith, names.1, more) in below)
