use Rattle.replay.specs.Volumes.{found_in}
use Rattle.shell.proofs.run.run_script.Given as goal

-- the session is over the volume that was loaded, and begins with what the devices show then
abbrev pub ghosts-run_prepared : goal.ghosts-run_prepared
ghosts-run_prepared g a = record { found = found_in a.prepared.loaded; start = g.D.Devices.state a.devices }
