-- Each node is moved, after which the others still may be.
use Rattle.std.proofs.Common.{◌≡◌, ◌∷◌, ◌∙◌, ◌+◌, ap, drop, sym}
use Rattle.std.proofs.lemmas.List.{drop_more}
use Rattle.node_writeback.specs.declared.node.FrozenNode.{FrozenNode}
use Rattle.node_writeback.proofs.Moving.{may-more, moved-more}
use Rattle.node_writeback.proofs.placing.move_all.Goals as goal

pub loop-node-preserved : goal.loop-node-preserved
loop-node-preserved c =
    let frozen = c.args.frozen.now in
    let place = c.loop-node.node-index in
    let node = c.node-item.result in
    let rest = drop (place + 1) frozen in
    let next : drop place frozen ≡ node ∷ rest = drop_more frozen place node c.loop-node-test.true ∙ ap (λ (n : FrozenNode). n ∷ rest) (sym c.node-item.is) in
    let before = c.loop-node.dirty in
    let first = c.args.dirty.now in
    let moved = c.move_node.ensures in
    record {
      pins = moved-more (drop place frozen) rest node before.later.numbers first.later.numbers before.pins.numbers c.move_node.new.dirty.pins.numbers _ next c.loop-node.invariant.later moved.pins c.loop-node.invariant.pins;
      marks = moved-more (drop place frozen) rest node before.later.numbers first.later.numbers before.marks.numbers c.move_node.new.dirty.marks.numbers _ next c.loop-node.invariant.later moved.marks c.loop-node.invariant.marks;
      later = moved.later ∙ c.loop-node.invariant.later;
      may = may-more (drop place frozen) rest node before.pins.numbers before.marks.numbers before.later.numbers c.move_node.new.dirty.pins.numbers c.move_node.new.dirty.marks.numbers next moved.pins_rise moved.marks_rise moved.pins moved.marks
          c.loop-node.invariant.may;
    }
