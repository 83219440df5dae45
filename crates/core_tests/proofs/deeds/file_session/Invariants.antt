-- the volume is opened with what was found on the devices, as they are then
use Rattle.core_tests.proofs.deeds.file_session.Given as goal
use Rattle.dev_model.specs.Memory.{mem_state}
use Rattle.replay.specs.Volumes.{found_in}

abbrev pub ghosts-done_from : goal.ghosts-done_from
ghosts-done_from a = record { found = found_in a.loaded; start = mem_state a.devices }
