-- the volume is opened with what was found on the devices, as they are then
use Rattle.core_tests.proofs.volume_threads.a_thread_makes_a_file.Given as goal
use Rattle.dev_model.specs.Memory.{mem_state}
use Rattle.replay.specs.Volumes.{found_in}

abbrev pub ghosts-is_made_on_a_thread : goal.ghosts-is_made_on_a_thread
ghosts-is_made_on_a_thread g a = record { found = found_in a.loaded; start = mem_state a.devices }
