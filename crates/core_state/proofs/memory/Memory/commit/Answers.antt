use Rattle.std.proofs.Common.{◌∙◌, ap, subst, sym}
use Rattle.std.specs.Prelude.{slice_set}
use Rattle.core_actors.specs.declared.answer.Answer.TheVariants.{Done}
use Rattle.core_state.specs.Events.{CommitGives}
use Rattle.core_state.specs.States.{State}
use Rattle.core_volume.specs.Volumes.{Volume}
use Rattle.core_state.proofs.Committed.{commit-kept, intended-are, made-gives, refused-gives, refused-state}
use Rattle.core_state.proofs.memory.Memory.commit.Goals as goal

pub invariant_of-self : goal.invariant_of-self
invariant_of-self c =
    commit-kept c.self.inside.volume c.self.inside.actors.items c.self.inside.turn c.self.invariant c.args.actor c.requires.there c.from.result c.from.ensures c.index_mut-mine.result.now c.index_mut-mine.ensures.value
    c.in-Some.updates (sym c.take.ensures.value ∙ c.in-Some.is) c.commit.new.self c.in-Ok.ensures.sound (ap (λ (v : Volume). v.layout) c.in-Ok.ensures.made.rest) c.args.counted (record c.index_mut-mine.result.now { intended = c.take.new.self }) c.commit-in-Ok.new.self c.commit-in-Ok.ensures
    c.other_holder-self-inside.result c.other_holder-self-inside.ensures

pub returns-in-Err : goal.returns-in-Err
returns-in-Err c =
    let inside = c.self.inside in
    subst (λ (s : State). CommitGives s c.args.actor c.args.counted c.refuse.result (record { volume = c.commit.new.self; actors = slice_set inside.actors.items c.from.result c.refuse.new.mine; turn = inside.turn })) c.self.view_is
    (refused-gives inside.volume inside.actors.items inside.turn c.self.invariant c.args.actor c.requires.there c.from.result c.from.ensures c.index_mut-mine.result.now c.index_mut-mine.ensures.value
    c.in-Some.updates (sym c.take.ensures.value ∙ c.in-Some.is) c.args.counted c.in-Err.field-0.why c.in-Err.ensures.why c.commit.new.self c.in-Err.ensures.err c.in-Err.field-0.updates c.in-Err.ensures.kept c.refuse.new.mine c.refuse.ensures.noted c.refuse.result c.refuse.ensures.answer)

pub returns-in-Ok : goal.returns-in-Ok
returns-in-Ok c =
    let inside = c.self.inside in
    subst (λ (s : State). CommitGives s c.args.actor c.args.counted Done (record { volume = c.commit.new.self; actors = slice_set inside.actors.items c.from.result c.commit-in-Ok.new.self; turn = c.other_holder-self-inside.result })) c.self.view_is
    (made-gives inside.volume inside.actors.items inside.turn c.self.invariant c.args.actor c.requires.there c.from.result c.from.ensures c.index_mut-mine.result.now c.index_mut-mine.ensures.value
    c.in-Some.updates (sym c.take.ensures.value ∙ c.in-Some.is) c.args.counted c.commit.new.self c.in-Ok.ensures.allowed c.in-Ok.ensures.made c.take.new.self c.commit-in-Ok.new.self c.commit-in-Ok.ensures
    c.other_holder-self-inside.result c.other_holder-self-inside.ensures)

pub commit-requires : goal.commit-requires
commit-requires c =
    let inside = c.self.inside in
    intended-are inside.volume inside.actors.items inside.turn c.self.invariant c.args.actor c.requires.there c.from.result c.from.ensures c.index_mut-mine.result.now c.index_mut-mine.ensures.value
    c.in-Some.updates (sym c.take.ensures.value ∙ c.in-Some.is)

pub invariant_of-self-in-Err : goal.invariant_of-self-in-Err
invariant_of-self-in-Err c =
    let inside = c.self.inside in
    refused-state inside.volume inside.actors.items inside.turn c.self.invariant c.args.actor c.requires.there c.from.result c.from.ensures c.index_mut-mine.result.now c.index_mut-mine.ensures.value
    c.in-Some.updates (sym c.take.ensures.value ∙ c.in-Some.is) c.in-Err.field-0.why c.commit.new.self c.in-Err.ensures.err c.in-Err.field-0.updates c.in-Err.ensures.kept c.refuse.new.mine c.refuse.ensures.noted
