use Rattle.std.proofs.Common.{◌≡◌, subst}
use Rattle.core_state.specs.States.{State}
use Rattle.vol_core.specs.Rested.{HasRoomAfterCheckpoint, IsRested}
use Rattle.vol_core.specs.Room.{HasRoomForNext}
use Rattle.vol_core.proofs.Rested.{rested}
use Rattle.vol_core.proofs.RoomKept.{room_for_next}
use Rattle.vol_core.proofs.machine.Core.memory.Goals as goal

pub returns-clause-may : goal.returns-clause-may
returns-clause-may g c = c.self.invariant.may

pub returns-clause-rested : goal.returns-clause-rested
returns-clause-rested g c = λ may.
    let same : c.self.inside.memory ≡ c.args.self.now.memory = λ i. (c.self.view_is i).memory in
    subst (λ (memory : State). IsRested memory.volume → HasRoomAfterCheckpoint memory.volume) same (rested c.self.inside.memory.volume c.see_kept.ensures.kept.volume (c.self.invariant.ring may))

pub returns-clause-room : goal.returns-clause-room
returns-clause-room g c = λ may.
    let same : c.self.inside.memory ≡ c.args.self.now.memory = λ i. (c.self.view_is i).memory in
    subst (λ (memory : State). HasRoomForNext memory.volume) same
    (room_for_next c.self.inside.memory.volume c.see_kept.ensures.kept.volume c.see_kept.ensures.parts c.see_kept.ensures.trees (c.self.invariant.ring may.ring) (c.self.invariant.room may))
