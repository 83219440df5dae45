-- A leaf that is due is the only one of its btree, and what is written of it may stand; a volume in which it was frozen is kept.
use Rattle.std.proofs.Common.{◌≡◌, ◌∙◌, ◌≤◌, ℕ, Some, None, ap, arith, subst, sym}
use Rattle.std.specs.Prelude.{IfSome, option_copied}
use denote.Bor.{Bor}
use Rattle.std.specs.Ordering.{nat_cmp}
use Rattle.birth_index.specs.Births.{levels_of}
use Rattle.btree_map.specs.Trees.{IsTrees, Trees}
use Rattle.journal_writer.specs.Queues.{AreChanges, first_with}
use Rattle.journal_writer.specs.declared.changes.Pending.{Pending}
use Rattle.journal_writer.specs.declared.stage.Stage.TheVariants.{Freeze}
use Rattle.node_writeback.specs.Due.{root_in}
use Rattle.node_writeback.specs.Durable.{durable_entries, undurable}
use Rattle.node_writeback.specs.Freezing.{HasBirth, IsFreezeFault, fresh_leaf, leaf_set, next_birth}
use Rattle.node_writeback.specs.NodeWork.{IsFrozen, with_frozen}
use Rattle.node_mem.specs.Nodes.{size_of}
use Rattle.vol_types.specs.KeyMaps.{Entries}
use Rattle.vol_types.specs.Limits.{node_limit}
use Rattle.vol_types.specs.Maps.{put_at}
use Rattle.core_volume.specs.Checkpoints.{IsLeafFrozen, IsNodeStage, due_in, durable_in}
use Rattle.core_volume.specs.Volumes.{IsVolume, Volume, node_stage_of}
use Rattle.core_volume.proofs.Frozen.{due_birth, durable-stand, frozen-kept, idle-freezing, mirrors-few, passes}
use Rattle.core_volume.proofs.volume.Volume.freeze_leaf.Goals as goal

pub freeze_leaf-requires-clause-mirrors : goal.freeze_leaf-requires-clause-mirrors
freeze_leaf-requires-clause-mirrors c =
    let inside = c.self.inside in
    let old : Volume = record { layout = inside.layout; session = inside.session; trees = inside.keys; queue = inside.queue.queue; pins = inside.dirty.pins.numbers; marks = inside.dirty.marks.numbers; later = inside.dirty.later.numbers; space = inside.pool; writer = inside.writer; work = inside.nodes; emptied = inside.emptied; halted = inside.halted; changes = inside.changes } in
    mirrors-few old c.self.invariant

pub freeze_leaf-requires-clause-alone : goal.freeze_leaf-requires-clause-alone
freeze_leaf-requires-clause-alone c =
    let inside = c.self.inside in
    let old : Volume = record { layout = inside.layout; session = inside.session; trees = inside.keys; queue = inside.queue.queue; pins = inside.dirty.pins.numbers; marks = inside.dirty.marks.numbers; later = inside.dirty.later.numbers; space = inside.pool; writer = inside.writer; work = inside.nodes; emptied = inside.emptied; halted = inside.halted; changes = inside.changes } in
    let btree = c.args.btree in
    let due : due_in old ≡ Some btree = subst (λ (v : Volume). due_in v ≡ Some btree) (sym c.self.view_is) c.requires.due in
    let tree = ((subst IsTrees c.map-2.ensures c.height.ensures.sound).each btree).nodes in
    let alone = c.frozen_leaves_are_kept.ensures.alone inside.writer.durable.sequence inside.keys.nodes inside.dirty.pins.numbers inside.nodes.finished btree tree (passes old c.self.invariant btree due) in
    (root_in inside.keys.nodes btree, ap (λ (t : Trees). levels_of t.nodes btree) c.map-3.ensures ∙ alone)

pub freeze_leaf-requires-clause-stand : goal.freeze_leaf-requires-clause-stand
freeze_leaf-requires-clause-stand c =
    let inside = c.self.inside in
    let old : Volume = record { layout = inside.layout; session = inside.session; trees = inside.keys; queue = inside.queue.queue; pins = inside.dirty.pins.numbers; marks = inside.dirty.marks.numbers; later = inside.dirty.later.numbers; space = inside.pool; writer = inside.writer; work = inside.nodes; emptied = inside.emptied; halted = inside.halted; changes = inside.changes } in
    durable-stand old c.self.invariant c.commits_are_undone.ensures.all c.args.btree c.map-3.result.now c.map-3.ensures (option_copied c.in_flight.result) c.in_flight.ensures.entry

pub invariant_of-self-2 : goal.invariant_of-self-2
invariant_of-self-2 c =
    let inside = c.self.inside in
    let old : Volume = record { layout = inside.layout; session = inside.session; trees = inside.keys; queue = inside.queue.queue; pins = inside.dirty.pins.numbers; marks = inside.dirty.marks.numbers; later = inside.dirty.later.numbers; space = inside.pool; writer = inside.writer; work = inside.nodes; emptied = inside.emptied; halted = inside.halted; changes = inside.changes } in
    let btree = c.args.btree in
    let made = c.in_default.ensures in
    let due : due_in old ≡ Some btree = subst (λ (v : Volume). due_in v ≡ Some btree) (sym c.self.view_is) c.requires.due in
    let tree = ((subst IsTrees c.map-2.ensures c.height.ensures.sound).each btree).nodes in
    let idle : inside.nodes.unfinished ≡ None = idle-freezing old c.args.node (subst (λ (v : Volume). node_stage_of v ≡ Freeze c.args.node) (sym c.self.view_is) c.requires.stage.stage_is) in
    let blocked = made.frozen.blocked in
    let fresh = fresh_leaf inside.session inside.nodes.born inside.layout.metadata_replicas inside.pool in
    let has : HasBirth inside.session inside.nodes.born inside.keys.nodes = subst (λ (t : Trees). HasBirth inside.session inside.nodes.born t.nodes) c.map-3.ensures made.birth in
    let later = made.later ∙ (λ i. put_at nat_cmp (root_in (c.map-3.ensures i).nodes btree).birth (first_with btree (undurable (c.in_flight.ensures.entry i) inside.queue.queue)) inside.dirty.later.numbers) in
    let work = made.frozen.is ∙ (λ i. with_frozen (record { btree = btree; birth = (root_in (c.map-3.ensures i).nodes btree).birth; fresh = fresh; blocked = blocked }) inside.nodes) in
    subst IsVolume (sym (λ i. record { layout = inside.layout; session = inside.session; trees = inside.keys; queue = inside.queue.queue; pins = c.freeze_leaf.ensures.pins i; marks = c.freeze_leaf.ensures.marks i; later = later i; space = made.pool i; writer = inside.writer; work = work i; emptied = inside.emptied; halted = inside.halted; changes = inside.changes }))
    (frozen-kept old c.self.invariant btree due idle c.pin_of.ensures.rise.changed blocked c.frozen_leaves_are_kept.ensures.more tree has
    (c.nodes_keep_their_buckets.ensures.taken_past_journal inside.layout inside.layout.metadata_replicas inside.pool c.self.invariant.fixed made.free (omega arith))
    ((c.nodes_keep_their_buckets.ensures.noded 0 inside.layout.metadata_replicas inside.pool).fixed inside.layout c.self.invariant.fixed)
    c.btrees_change_from_their_first_entry.ensures.later c.btrees_change_from_their_first_entry.ensures.in_turn c.commits.ensures.sound)

pub returns-clause-sound : goal.returns-clause-sound
returns-clause-sound c = invariant_of-self-2 c

pub returns-clause-frozen : goal.returns-clause-frozen
returns-clause-frozen c =
    let inside = c.self.inside in
    let old : Volume = record { layout = inside.layout; session = inside.session; trees = inside.keys; queue = inside.queue.queue; pins = inside.dirty.pins.numbers; marks = inside.dirty.marks.numbers; later = inside.dirty.later.numbers; space = inside.pool; writer = inside.writer; work = inside.nodes; emptied = inside.emptied; halted = inside.halted; changes = inside.changes } in
    let btree = c.args.btree in
    let node = c.args.node in
    let made = c.in_default.ensures in
    let due : due_in old ≡ Some btree = subst (λ (v : Volume). due_in v ≡ Some btree) (sym c.self.view_is) c.requires.due in
    let stage : node_stage_of old ≡ Freeze node = subst (λ (v : Volume). node_stage_of v ≡ Freeze node) (sym c.self.view_is) c.requires.stage.stage_is in
    let root : (root_in c.map-3.result.now.nodes btree).birth ≡ node = ap (λ (t : Trees). (root_in t.nodes btree).birth) c.map-3.ensures ∙ due_birth old btree node due (idle-freezing old node stage) stage in
    let durable : durable_entries (option_copied c.in_flight.result) inside.queue.queue c.map-3.result.now btree ≡ durable_in old btree = λ i. durable_entries (c.in_flight.ensures.entry i) inside.queue.queue (c.map-3.ensures i) btree in
    let later = made.later ∙ (λ i. put_at nat_cmp (root i) (first_with btree (undurable (c.in_flight.ensures.entry i) inside.queue.queue)) inside.dirty.later.numbers) in
    let fresh = fresh_leaf inside.session inside.nodes.born inside.layout.metadata_replicas inside.pool in
    let birth = next_birth inside.session inside.nodes.born in
    let now : Volume = record old { pins = c.freeze_leaf.new.dirty.pins.numbers; marks = c.freeze_leaf.new.dirty.marks.numbers; later = c.freeze_leaf.new.dirty.later.numbers; space = c.freeze_leaf.new.pool; work = c.freeze_leaf.new.nodes } in
    subst (λ (v : Volume). IsLeafFrozen node v now) c.self.view_is
    (record {
      stage = subst (IsNodeStage (Freeze node)) (sym c.self.view_is) c.requires.stage;
      btree = btree;
      due = due;
      birth = subst (λ (t : Trees). HasBirth inside.session inside.nodes.born t.nodes) c.map-3.ensures made.birth;
      fits = subst (λ (es : Entries). size_of es ≤ node_limit) durable made.fits;
      free = made.free;
      frozen = subst (λ (es : Entries). IsFrozen inside.layout.id inside.writer.durable.sequence node fresh (leaf_set birth btree es) inside.nodes c.freeze_leaf.new.nodes) durable
          (subst (λ (n : ℕ). IsFrozen inside.layout.id inside.writer.durable.sequence n fresh (leaf_set birth btree (durable_entries (option_copied c.in_flight.result) inside.queue.queue c.map-3.result.now btree)) inside.nodes c.freeze_leaf.new.nodes) root
          (subst (λ (s : ℕ). IsFrozen inside.layout.id s (root_in c.map-3.result.now.nodes btree).birth fresh (leaf_set birth btree (durable_entries (option_copied c.in_flight.result) inside.queue.queue c.map-3.result.now btree)) inside.nodes c.freeze_leaf.new.nodes) (λ i. (c.durable.ensures i).sequence) made.frozen));
      rest = λ i. record old { pins = c.freeze_leaf.ensures.pins i; marks = c.freeze_leaf.ensures.marks i; later = later i; space = made.pool i; work = c.freeze_leaf.new.nodes };
    })

pub freeze_leaf-requires-clause-layout : goal.freeze_leaf-requires-clause-layout
freeze_leaf-requires-clause-layout c = c.self.invariant.placed

pub freeze_leaf-requires-clause-idle : goal.freeze_leaf-requires-clause-idle
freeze_leaf-requires-clause-idle c =
    let inside = c.self.inside in
    let old : Volume = record { layout = inside.layout; session = inside.session; trees = inside.keys; queue = inside.queue.queue; pins = inside.dirty.pins.numbers; marks = inside.dirty.marks.numbers; later = inside.dirty.later.numbers; space = inside.pool; writer = inside.writer; work = inside.nodes; emptied = inside.emptied; halted = inside.halted; changes = inside.changes } in
    idle-freezing old c.args.node (subst (λ (v : Volume). node_stage_of v ≡ Freeze c.args.node) (sym c.self.view_is) c.requires.stage.stage_is)

pub freeze_leaf-requires-clause-flight : goal.freeze_leaf-requires-clause-flight
freeze_leaf-requires-clause-flight c =
    subst (λ (mirrors : ℕ). IfSome c.in_flight.result (λ (entry : Bor Pending). AreChanges mirrors entry.now.changes)) (c.self.invariant.ring.mirrors ∙ sym c.self.invariant.mirrors) c.in_flight.ensures.changes

pub freeze_leaf-requires-clause-numbered : goal.freeze_leaf-requires-clause-numbered
freeze_leaf-requires-clause-numbered c = c.in_flight.ensures.numbered

pub invariant_of-self : goal.invariant_of-self
invariant_of-self c =
    let inside = c.self.inside in
    let kept = c.in-Err.ensures in
    subst IsVolume (sym (λ i. record { layout = inside.layout; session = inside.session; trees = inside.keys; queue = inside.queue.queue; pins = c.freeze_leaf.ensures.pins i; marks = c.freeze_leaf.ensures.marks i; later = kept.later_kept i; space = kept.pool_kept i; writer = inside.writer; work = kept.nodes_kept i; emptied = inside.emptied; halted = inside.halted; changes = inside.changes })) c.self.invariant

pub returns-in-Err-clause-sound : goal.returns-in-Err-clause-sound
returns-in-Err-clause-sound c = invariant_of-self c

pub returns-in-Err-clause-err : goal.returns-in-Err-clause-err
returns-in-Err-clause-err c =
    let inside = c.self.inside in
    let kept = c.in-Err.ensures in
    let new : Volume = record { layout = inside.layout; session = inside.session; trees = inside.keys; queue = inside.queue.queue; pins = c.freeze_leaf.new.dirty.pins.numbers; marks = c.freeze_leaf.new.dirty.marks.numbers; later = c.freeze_leaf.new.dirty.later.numbers; space = c.freeze_leaf.new.pool; writer = inside.writer; work = c.freeze_leaf.new.nodes; emptied = inside.emptied; halted = inside.halted; changes = inside.changes } in
    let old : Volume = record { layout = inside.layout; session = inside.session; trees = inside.keys; queue = inside.queue.queue; pins = inside.dirty.pins.numbers; marks = inside.dirty.marks.numbers; later = inside.dirty.later.numbers; space = inside.pool; writer = inside.writer; work = inside.nodes; emptied = inside.emptied; halted = inside.halted; changes = inside.changes } in
    let same : new ≡ old = λ i. record old { pins = c.freeze_leaf.ensures.pins i; marks = c.freeze_leaf.ensures.marks i; later = kept.later_kept i; space = kept.pool_kept i; work = kept.nodes_kept i } in
    same ∙ c.self.view_is

pub returns-in-Err-clause-why : goal.returns-in-Err-clause-why
returns-in-Err-clause-why c =
    let inside = c.self.inside in
    let old : Volume = record { layout = inside.layout; session = inside.session; trees = inside.keys; queue = inside.queue.queue; pins = inside.dirty.pins.numbers; marks = inside.dirty.marks.numbers; later = inside.dirty.later.numbers; space = inside.pool; writer = inside.writer; work = inside.nodes; emptied = inside.emptied; halted = inside.halted; changes = inside.changes } in
    let btree = c.args.btree in
    let node = c.args.node in
    let fault = c.in-Err.fault in
    let trees = c.map-3.result.now in
    let due : due_in old ≡ Some btree = subst (λ (v : Volume). due_in v ≡ Some btree) (sym c.self.view_is) c.requires.due in
    let stage : node_stage_of old ≡ Freeze node = subst (λ (v : Volume). node_stage_of v ≡ Freeze node) (sym c.self.view_is) c.requires.stage.stage_is in
    let root : (root_in trees.nodes btree).birth ≡ node = ap (λ (t : Trees). (root_in t.nodes btree).birth) c.map-3.ensures ∙ due_birth old btree node due (idle-freezing old node stage) stage in
    let entries = durable_entries (option_copied c.in_flight.result) inside.queue.queue trees btree in
    let durable : entries ≡ durable_in old btree = λ i. durable_entries (c.in_flight.ensures.entry i) inside.queue.queue (c.map-3.ensures i) btree in
    subst (λ (v : Volume). IsFreezeFault v.session v.work.born node v.layout.metadata_replicas v.trees.nodes (durable_in v btree) v.space fault) c.self.view_is
    (subst (λ (es : Entries). IsFreezeFault inside.session inside.nodes.born node inside.layout.metadata_replicas inside.keys.nodes es inside.pool fault) durable
    (subst (λ (t : Trees). IsFreezeFault inside.session inside.nodes.born node inside.layout.metadata_replicas t.nodes entries inside.pool fault) c.map-3.ensures
    (subst (λ (n : ℕ). IsFreezeFault inside.session inside.nodes.born n inside.layout.metadata_replicas trees.nodes entries inside.pool fault) root c.in-Err.ensures.why)))
