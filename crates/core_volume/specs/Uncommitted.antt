-- Why updates weren't committed, or an entry wasn't put in flight.
use Rattle.std.specs.Prelude.{⊤, Bool, List}
use Rattle.vol_types.specs.declared.keys.Update.{Update}
use Rattle.core_volume.specs.declared.commit.VolumeFault.{VolumeFault}
use Rattle.core_volume.specs.declared.commit.VolumeFault.TheVariants.{NoMemory, Refused}
use Rattle.core_actors.specs.declared.answer.Refusal.TheVariants as refusals
use Rattle.core_volume.specs.Rulings.{IsRefused}
use Rattle.core_volume.specs.Sealing.{IsSealRefused}
use Rattle.journal_writer.specs.declared.writer.Why.{Why as SealFault}
use Rattle.journal_writer.specs.declared.writer.Why.TheVariants as unsealed
use Rattle.core_volume.specs.Volumes.{Volume}

-- The updates were refused for this cause; want of memory has none.
abbrev pub IsCommitFault : Volume → List Update → Bool → VolumeFault → Type 0
IsCommitFault volume updates counted (Refused refusal) = IsRefused volume updates counted refusal
IsCommitFault volume updates counted NoMemory = ⊤

-- why an entry isn't put in flight
abbrev pub fault_of : SealFault → VolumeFault
fault_of unsealed.Spent = Refused refusals.Spent
fault_of (unsealed.RingFull full) = Refused (refusals.RingFull full)
fault_of unsealed.NoMemory = NoMemory

-- The next entry wasn't put in flight for this cause; want of memory has none.
abbrev pub IsSealFault : Volume → VolumeFault → Type 0
IsSealFault volume (Refused refusal) = IsSealRefused volume refusal
IsSealFault volume NoMemory = ⊤
