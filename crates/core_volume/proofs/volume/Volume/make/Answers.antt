use Rattle.std.proofs.Common.{◌≡◌, ◌∙◌, ◌+◌, List, ℕ, ap, sym, subst}
use Rattle.birth_index.specs.Births.{BirthsDiffer, levels_of}
use Rattle.btree_map.specs.Applied.{values_before}
use Rattle.btree_map.specs.Trees.{IsTrees, Trees, keys_in}
use Rattle.dirty_nodes.specs.Dirty.{changed_nodes, paths_of, with_pins}
use Rattle.journal_writer.specs.Queues.{IsSizeOf, readied}
use Rattle.std.specs.Prelude.{All}
use Rattle.tree_nodes.specs.Levels.{IsTree}
use Rattle.vol_types.specs.Widths.{PosFits}
use Rattle.vol_types.specs.declared.keys.Update.{Update}
use Rattle.vol_types.specs.declared.positions.Btree.{Btree}
use Rattle.core_volume.specs.Volumes.{Volume, changes_in}
use Rattle.core_volume.proofs.Committed.{made-kept}
use Rattle.core_volume.proofs.volume.Volume.make.Goals as goal

pub join-requires-clause-size : goal.join-requires-clause-size
join-requires-clause-size c = subst (λ (v : Volume). IsSizeOf v.queue c.args.updates c.args.size) (sym c.self.view_is) c.requires.size

pub invariant_of-self-in-Ok : goal.invariant_of-self-in-Ok
invariant_of-self-in-Ok c =
    let inside = c.self.inside in
    let updates = c.args.updates in
    let queue = inside.queue.queue in
    let seq = (readied updates queue).open_entry.after + 1 in
    let made = c.in-Ok.ensures in
    let changed : c.args.paths.now.changed.items ≡ changed_nodes inside.keys.nodes updates = subst (λ (v : Volume). c.args.paths.now.changed.items ≡ changed_nodes v.trees.nodes updates) (sym c.self.view_is) c.requires.changed in
    let over : c.args.paths.now.over.items ≡ paths_of inside.keys.nodes updates = subst (λ (v : Volume). c.args.paths.now.over.items ≡ paths_of v.trees.nodes updates) (sym c.self.view_is) c.requires.over in
    let differ : BirthsDiffer inside.keys.nodes = subst (λ (t : Trees). BirthsDiffer t.nodes) c.map.ensures c.node_of.ensures.differ in
    let trees : (btree : Btree) → IsTree (levels_of inside.keys.nodes btree) = λ btree. ((subst IsTrees c.map-2.ensures c.height.ensures.sound).each btree).nodes in
    let fit : All (λ (update : Update). PosFits update.pos) updates = subst (All (λ (update : Update). PosFits update.pos)) c.as_slice.ensures c.see_widths.ensures in
    made-kept (record {
      layout = inside.layout;
      session = inside.session;
      trees = inside.keys;
      queue = queue;
      pins = inside.dirty.pins.numbers;
      marks = inside.dirty.marks.numbers;
      later = inside.dirty.later.numbers;
      space = inside.pool;
      writer = inside.writer;
      work = inside.nodes;
      emptied = inside.emptied;
      halted = inside.halted;
      changes = inside.changes;
    }) c.self.invariant updates c.args.counted c.join.new.keys c.join.new.queue.queue c.join.new.dirty.pins.numbers c.join.new.dirty.marks.numbers c.join.new.dirty.later.numbers
    made.keys made.nodes made.queue
    (made.pins ∙ ap (λ (births : List ℕ). with_pins seq births inside.dirty.pins.numbers) changed)
    (made.marks ∙ ap (λ (births : List ℕ). with_pins seq births inside.dirty.marks.numbers) over)
    (made.later ∙ ap (λ (births : List ℕ). with_pins seq births inside.dirty.later.numbers) changed)
    (c.dirty_nodes_are_marked.ensures.more inside.keys.nodes inside.dirty.pins.numbers inside.dirty.marks.numbers updates seq differ trees fit c.self.invariant.marked)
    c.commits.ensures.sound.followed
    (λ btree root numbers alone. c.changed_pins_are_known.ensures.root inside.keys.nodes btree root updates seq numbers differ trees alone fit)
    (c.commits_leave_queues.ensures.oldest (record { updates = updates; before = values_before updates (keys_in inside.keys) }) c.args.counted queue).0
    (λ durable keys lead. c.waiting_changes_lead_from_durable_keys.ensures.joined (changes_in inside.writer.flight) queue updates c.args.counted durable keys lead)

pub returns-in-Ok-clause-sound : goal.returns-in-Ok-clause-sound
returns-in-Ok-clause-sound c = invariant_of-self-in-Ok c
