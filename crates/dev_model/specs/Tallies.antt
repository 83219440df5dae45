-- The counts of faults that are kept for devices, as contracts see them.
use Rattle.dev_model.specs.Devices.{FaultCounts}
use Rattle.dev_model.specs.declared.tally.FaultTally.{FaultTally}

-- the counts of faults in a tally
abbrev pub faults_in : FaultTally → FaultCounts
faults_in tally = record { calls = tally.calls; writes = tally.writes }
