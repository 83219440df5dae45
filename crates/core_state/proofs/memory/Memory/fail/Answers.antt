use Rattle.std.specs.Prelude.{slice_set}
use Rattle.core_actors.specs.Actors.{with_fault}
use Rattle.core_state.proofs.Kept.{changed-kept, fault-kept, stopped-kept}
use Rattle.core_state.proofs.memory.Memory.fail.Goals as goal

pub invariant_of-self : goal.invariant_of-self
invariant_of-self c =
    let inside = c.self.inside in
    stopped-kept (record { volume = inside.volume; actors = slice_set inside.actors.items c.from.result c.note_fault.new.self; turn = inside.turn })
    (changed-kept inside.volume inside.actors.items inside.turn c.self.invariant c.args.actor c.requires c.from.result c.from.ensures c.index_mut-mine.result.now c.index_mut-mine.ensures.value (with_fault c.args.dev)
    (λ is. fault-kept inside.volume inside.turn c.args.actor c.index_mut-mine.result.now is c.args.dev) c.note_fault.new.self c.note_fault.ensures)
    (record { dev = c.args.dev; tick = c.args.tick }) c.halt.new.self c.halt.ensures
