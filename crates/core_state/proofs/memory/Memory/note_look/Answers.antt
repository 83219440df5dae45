use Rattle.std.proofs.Common.{◌≡◌, ◌∙◌, ◌<◌, ℕ, List, Some, ap, sym, subst}
use Rattle.std.proofs.lemmas.List.{get_or_default}
use Rattle.std.specs.Prelude.{slice_index_or, slice_set}
use Rattle.btree_map.specs.Trees.{keys_in}
use Rattle.vol_types.specs.KeyMaps.{answer_of}
use Rattle.vol_types.specs.declared.keys.Key.{Key}
use Rattle.core_actors.specs.Actors.{idle_actor, with_look}
use Rattle.core_state.specs.States.{State, mine, other_holder}
use Rattle.core_state.specs.Events.{taken}
use Rattle.core_state.proofs.Kept.{looked-kept, taken-kept}
use Rattle.core_state.proofs.memory.Memory.note_look.Goals as goal

pub invariant_of-self-2 : goal.invariant_of-self-2
invariant_of-self-2 c =
    let inside = c.self.inside in
    taken-kept inside.volume inside.actors.items inside.turn c.self.invariant c.args.actor c.requires.there c.from.result c.from.ensures c.index_mut-mine.result.now c.index_mut-mine.ensures.value
    (with_look c.args.query.now (answer_of c.args.query.now (keys_in inside.volume.trees)))
    (ap (λ (s : State). other_holder c.args.actor s.turn) c.self.view_is ∙ c.requires.free)
    (λ is. looked-kept inside.volume inside.turn c.args.actor c.index_mut-mine.result.now is c.args.query.now) c.look.new.self
    (c.in_ok-look.ensures.ok ∙ ap (λ (keys : List Key). with_look c.args.query.now keys c.index_mut-mine.result.now) (c.requires.found ∙ ap (λ (s : State). answer_of c.args.query.now (keys_in s.volume.trees)) (sym c.self.view_is)))

pub returns-clause-ok : goal.returns-clause-ok
returns-clause-ok c =
    let inside = c.self.inside in
    let actor = c.args.actor in
    let change = with_look c.args.query.now c.args.found.now in
    let old : State = record { volume = inside.volume; actors = inside.actors.items; turn = inside.turn } in
    let new : State = record { volume = inside.volume; actors = slice_set inside.actors.items c.from.result c.look.new.self; turn = Some actor } in
    let was : mine old actor ≡ c.index_mut-mine.result.now =
    get_or_default inside.actors.items actor idle_actor c.index_mut-mine.result.now (subst (λ (n : ℕ). actor < n) (sym c.self.invariant.count) c.requires.there)
    ∙ ap (λ (n : ℕ). slice_index_or inside.actors.items n c.index_mut-mine.result.now) (sym c.from.ensures) ∙ sym c.index_mut-mine.ensures.value in
    let same : new ≡ taken actor change old = λ i. record { volume = inside.volume; actors = slice_set inside.actors.items (c.from.ensures i) ((c.in_ok-look.ensures.ok ∙ ap change (sym was)) i); turn = Some actor } in
    same ∙ ap (taken actor change) c.self.view_is
