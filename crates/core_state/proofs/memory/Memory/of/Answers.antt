use Rattle.core_state.proofs.Opened.{idle-kept}
use Rattle.core_state.proofs.memory.Memory.of.Goals as goal

pub invariant_of-result : goal.invariant_of-result
invariant_of-result c = idle-kept c.in_ok-volume.volume c.in_ok-volume.ensures.sound c.in-Ok.actors.items c.in-Ok.ensures
