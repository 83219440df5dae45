-- Frozen leaves may be put in place, and a volume in which they were is kept.
use Rattle.std.proofs.Common.{◌≡◌, ◌∙◌, ◌+◌, ℕ, List, None, ap, subst, sym}
use Rattle.birth_index.specs.Births.{BirthsDiffer, levels_of}
use Rattle.birth_index.specs.Exchanges.{AreBefore, AreExchanges}
use Rattle.birth_index.specs.declared.name.Exchange.{Exchange}
use Rattle.btree_map.specs.Trees.{IsTrees, Trees, with_exchanged}
use Rattle.bucket_pool.specs.Space.{emptied_all}
use Rattle.node_writeback.specs.Placing.{MayMove, exchanges_of, moved_pins, places_of}
use Rattle.node_writeback.specs.declared.node.FrozenNode.{FrozenNode}
use Rattle.journal_writer.specs.declared.stage.Stage.TheVariants.{CommitNodes}
use Rattle.tree_nodes.specs.Levels.{IsTree}
use Rattle.vol_types.specs.declared.positions.Btree.{Btree}
use Rattle.core_volume.specs.Volumes.{Volume, node_stage_of}
use Rattle.core_volume.proofs.Frozen.{idle-placing}
use Rattle.core_volume.proofs.InPlace.{in_place, in_place-kept, leaves_are, placed-told}
use Rattle.core_volume.proofs.volume.Volume.commit_nodes.Goals as goal

pub exchange-requires : goal.exchange-requires
exchange-requires c =
    let inside = c.self.inside in
    let old : Volume = record { layout = inside.layout; session = inside.session; trees = inside.keys; queue = inside.queue.queue; pins = inside.dirty.pins.numbers; marks = inside.dirty.marks.numbers; later = inside.dirty.later.numbers; space = inside.pool; writer = inside.writer; work = inside.nodes; emptied = inside.emptied; halted = inside.halted; changes = inside.changes } in
    let idle : inside.nodes.unfinished ≡ None = idle-placing old (subst (λ (v : Volume). node_stage_of v ≡ CommitNodes) (sym c.self.view_is) c.requires.stage_is) in
    let items : c.as_mut_slice-changes.result.now ≡ exchanges_of inside.nodes.finished = c.as_mut_slice-changes.ensures.value ∙ c.in-Ok.ensures ∙ ap exchanges_of c.finished.ensures in
    subst (AreExchanges inside.keys.nodes) (sym items) (c.leaves_are_put_in_place.ensures.exchanges inside.keys.nodes inside.dirty.pins.numbers inside.nodes.finished (leaves_are old c.self.invariant idle))

pub put_in_place-requires : goal.put_in_place-requires
put_in_place-requires c =
    let inside = c.self.inside in
    let old : Volume = record { layout = inside.layout; session = inside.session; trees = inside.keys; queue = inside.queue.queue; pins = inside.dirty.pins.numbers; marks = inside.dirty.marks.numbers; later = inside.dirty.later.numbers; space = inside.pool; writer = inside.writer; work = inside.nodes; emptied = inside.emptied; halted = inside.halted; changes = inside.changes } in
    let idle : inside.nodes.unfinished ≡ None = idle-placing old (subst (λ (v : Volume). node_stage_of v ≡ CommitNodes) (sym c.self.view_is) c.requires.stage_is) in
    let differ : BirthsDiffer inside.keys.nodes = subst (λ (t : Trees). BirthsDiffer t.nodes) c.map.ensures c.node_of.ensures.differ in
    let trees : (btree : Btree) → IsTree (levels_of inside.keys.nodes btree) = λ btree. ((subst IsTrees c.map-2.ensures c.height.ensures.sound).each btree).nodes in
    subst (MayMove inside.dirty.pins.numbers inside.dirty.marks.numbers) (sym c.finished-in-Ok-exchange.ensures)
    (c.leaves_are_put_in_place.ensures.may_move inside.keys.nodes inside.dirty.pins.numbers inside.dirty.marks.numbers inside.nodes.finished differ trees c.self.invariant.marked (leaves_are old c.self.invariant idle))

pub invariant_of-self-in-Ok-exchange : goal.invariant_of-self-in-Ok-exchange
invariant_of-self-in-Ok-exchange c =
    let inside = c.self.inside in
    let old : Volume = record { layout = inside.layout; session = inside.session; trees = inside.keys; queue = inside.queue.queue; pins = inside.dirty.pins.numbers; marks = inside.dirty.marks.numbers; later = inside.dirty.later.numbers; space = inside.pool; writer = inside.writer; work = inside.nodes; emptied = inside.emptied; halted = inside.halted; changes = inside.changes } in
    let stage : node_stage_of old ≡ CommitNodes = subst (λ (v : Volume). node_stage_of v ≡ CommitNodes) (sym c.self.view_is) c.requires.stage_is in
    let items : c.as_mut_slice-changes.result.now ≡ exchanges_of inside.nodes.finished = c.as_mut_slice-changes.ensures.value ∙ c.in-Ok.ensures ∙ ap exchanges_of c.finished.ensures in
    let keys = c.in-Ok-exchange.ensures.ok ∙ ap (λ (es : List Exchange). with_exchanged es inside.keys) items in
    let pins = c.put_in_place.ensures.pins ∙ ap (λ (f : List FrozenNode). moved_pins f inside.dirty.later.numbers inside.dirty.pins.numbers) c.finished-in-Ok-exchange.ensures in
    let marks = c.put_in_place.ensures.marks ∙ ap (λ (f : List FrozenNode). moved_pins f inside.dirty.later.numbers inside.dirty.marks.numbers) c.finished-in-Ok-exchange.ensures in
    let space = c.put_in_place.ensures.pool ∙ ap (λ (n : ℕ). emptied_all (places_of c.exchange.new.changes) (n + 1) inside.pool) c.after-sequence.ensures in
    let now : Volume = record old { trees = c.exchange.new.self; pins = c.put_in_place.new.dirty.pins.numbers; marks = c.put_in_place.new.dirty.marks.numbers; later = c.put_in_place.new.dirty.later.numbers; space = c.put_in_place.new.pool; work = c.end-ended.new.self; emptied = c.after-sequence.result + 1; changes = inside.changes + 1 } in
    let made : now ≡ in_place c.exchange.new.changes old = λ i. record old { trees = keys i; pins = pins i; marks = marks i; later = c.put_in_place.ensures.later i; space = space i; work = c.end-ended.ensures.ended i; emptied = c.after-sequence.ensures i + 1; changes = inside.changes + 1 } in
    let laws = c.leaves_are_put_in_place.ensures in
    in_place-kept
    (record {
      leaves = laws.leaves;
      others = laws.others;
      pins = laws.pins;
      other_pins = laws.other_pins;
      least = laws.least;
      marked = laws.marked;
      none = c.frozen_leaves_are_kept.ensures.none;
      emptied_fixed = c.nodes_keep_their_buckets.ensures.emptied_fixed;
    })
    old c.self.invariant stage
    (record {
      differ = subst (λ (t : Trees). BirthsDiffer t.nodes) c.map.ensures c.node_of.ensures.differ;
      trees = λ btree. ((subst IsTrees c.map-2.ensures c.height.ensures.sound).each btree).nodes;
      pins_rise = c.pin_of.ensures.rise.pinned;
      marks_rise = c.pin_of.ensures.rise.marked;
    })
    c.exchange.new.changes now made

pub returns-clause-sound : goal.returns-clause-sound
returns-clause-sound c =
    let inside = c.self.inside in
    let old : Volume = record { layout = inside.layout; session = inside.session; trees = inside.keys; queue = inside.queue.queue; pins = inside.dirty.pins.numbers; marks = inside.dirty.marks.numbers; later = inside.dirty.later.numbers; space = inside.pool; writer = inside.writer; work = inside.nodes; emptied = inside.emptied; halted = inside.halted; changes = inside.changes } in
    let stage : node_stage_of old ≡ CommitNodes = subst (λ (v : Volume). node_stage_of v ≡ CommitNodes) (sym c.self.view_is) c.requires.stage_is in
    let items : c.as_mut_slice-changes.result.now ≡ exchanges_of inside.nodes.finished = c.as_mut_slice-changes.ensures.value ∙ c.in-Ok.ensures ∙ ap exchanges_of c.finished.ensures in
    let keys = c.in-Ok-exchange.ensures.ok ∙ ap (λ (es : List Exchange). with_exchanged es inside.keys) items in
    let pins = c.put_in_place.ensures.pins ∙ ap (λ (f : List FrozenNode). moved_pins f inside.dirty.later.numbers inside.dirty.pins.numbers) c.finished-in-Ok-exchange.ensures in
    let marks = c.put_in_place.ensures.marks ∙ ap (λ (f : List FrozenNode). moved_pins f inside.dirty.later.numbers inside.dirty.marks.numbers) c.finished-in-Ok-exchange.ensures in
    let space = c.put_in_place.ensures.pool ∙ ap (λ (n : ℕ). emptied_all (places_of c.exchange.new.changes) (n + 1) inside.pool) c.after-sequence.ensures in
    let now : Volume = record old { trees = c.exchange.new.self; pins = c.put_in_place.new.dirty.pins.numbers; marks = c.put_in_place.new.dirty.marks.numbers; later = c.put_in_place.new.dirty.later.numbers; space = c.put_in_place.new.pool; work = c.end-ended.new.self; emptied = c.after-sequence.result + 1; changes = inside.changes + 1 } in
    let made : now ≡ in_place c.exchange.new.changes old = λ i. record old { trees = keys i; pins = pins i; marks = marks i; later = c.put_in_place.ensures.later i; space = space i; work = c.end-ended.ensures.ended i; emptied = c.after-sequence.ensures i + 1; changes = inside.changes + 1 } in
    let laws = c.leaves_are_put_in_place.ensures in
    in_place-kept
    (record {
      leaves = laws.leaves;
      others = laws.others;
      pins = laws.pins;
      other_pins = laws.other_pins;
      least = laws.least;
      marked = laws.marked;
      none = c.frozen_leaves_are_kept.ensures.none;
      emptied_fixed = c.nodes_keep_their_buckets.ensures.emptied_fixed;
    })
    old c.self.invariant stage
    (record {
      differ = subst (λ (t : Trees). BirthsDiffer t.nodes) c.map.ensures c.node_of.ensures.differ;
      trees = λ btree. ((subst IsTrees c.map-2.ensures c.height.ensures.sound).each btree).nodes;
      pins_rise = c.pin_of.ensures.rise.pinned;
      marks_rise = c.pin_of.ensures.rise.marked;
    })
    c.exchange.new.changes now made

pub returns-clause-placed : goal.returns-clause-placed
returns-clause-placed c =
    let inside = c.self.inside in
    let old : Volume = record { layout = inside.layout; session = inside.session; trees = inside.keys; queue = inside.queue.queue; pins = inside.dirty.pins.numbers; marks = inside.dirty.marks.numbers; later = inside.dirty.later.numbers; space = inside.pool; writer = inside.writer; work = inside.nodes; emptied = inside.emptied; halted = inside.halted; changes = inside.changes } in
    let stage : node_stage_of old ≡ CommitNodes = subst (λ (v : Volume). node_stage_of v ≡ CommitNodes) (sym c.self.view_is) c.requires.stage_is in
    let items : c.as_mut_slice-changes.result.now ≡ exchanges_of inside.nodes.finished = c.as_mut_slice-changes.ensures.value ∙ c.in-Ok.ensures ∙ ap exchanges_of c.finished.ensures in
    let keys = c.in-Ok-exchange.ensures.ok ∙ ap (λ (es : List Exchange). with_exchanged es inside.keys) items in
    let pins = c.put_in_place.ensures.pins ∙ ap (λ (f : List FrozenNode). moved_pins f inside.dirty.later.numbers inside.dirty.pins.numbers) c.finished-in-Ok-exchange.ensures in
    let marks = c.put_in_place.ensures.marks ∙ ap (λ (f : List FrozenNode). moved_pins f inside.dirty.later.numbers inside.dirty.marks.numbers) c.finished-in-Ok-exchange.ensures in
    let space = c.put_in_place.ensures.pool ∙ ap (λ (n : ℕ). emptied_all (places_of c.exchange.new.changes) (n + 1) inside.pool) c.after-sequence.ensures in
    let now : Volume = record old { trees = c.exchange.new.self; pins = c.put_in_place.new.dirty.pins.numbers; marks = c.put_in_place.new.dirty.marks.numbers; later = c.put_in_place.new.dirty.later.numbers; space = c.put_in_place.new.pool; work = c.end-ended.new.self; emptied = c.after-sequence.result + 1; changes = inside.changes + 1 } in
    let made : now ≡ in_place c.exchange.new.changes old = λ i. record old { trees = keys i; pins = pins i; marks = marks i; later = c.put_in_place.ensures.later i; space = space i; work = c.end-ended.ensures.ended i; emptied = c.after-sequence.ensures i + 1; changes = inside.changes + 1 } in
    let numbers = c.has_placing_numbers.ensures.0 c.if-not-has_placing_numbers.false in
    let before = subst (λ (es : List Exchange). AreBefore inside.keys.nodes es c.exchange.new.changes) items c.in-Ok-exchange.ensures.before in
    placed-told old c.args.self.now now c.self.view_is c.requires numbers c.exchange.new.changes
    before made
