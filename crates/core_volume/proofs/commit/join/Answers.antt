use Rattle.std.proofs.Common.{◌≡◌, ◌≤◌, ◌∙◌, ◌+◌, List, Option, ℕ, ap, length, sym, subst}
use Rattle.std.specs.Prelude.{All}
use Rattle.btree_map.specs.Applied.{values_before}
use Rattle.btree_map.specs.Trees.{IsTrees, keys_in}
use Rattle.dirty_nodes.specs.Dirty.{with_pins}
use Rattle.journal_writer.specs.Queues.{HasNumbers, HasRoom, IsSizeOf, Queue, blocks_with, joined, readied}
use Rattle.vol_types.specs.Ranges.{IsKeyValue}
use Rattle.vol_types.specs.declared.keys.Update.{Update}
use Rattle.vol_types.specs.declared.values.Value.{Value}
use Rattle.core_volume.proofs.commit.join.Goals as goal

pub entry_of-seq-requires-clause-size : goal.entry_of-seq-requires-clause-size
entry_of-seq-requires-clause-size c = subst (λ (us : List Update). IsSizeOf c.args.queue.now.queue us c.args.size) (sym c.as_slice.ensures) c.requires.size

pub reserve-requires : goal.reserve-requires
reserve-requires c = subst (λ (us : List Update). IsSizeOf c.args.queue.now.queue us c.args.size) (sym c.as_slice-2.ensures) c.requires.size

pub join-requires-clause-size : goal.join-requires-clause-size
join-requires-clause-size c = subst (λ (queue : Queue). IsSizeOf queue c.args.updates c.args.size) (sym c.reserve.ensures.queue) c.requires.size

pub join-requires-clause-changes : goal.join-requires-clause-changes
join-requires-clause-changes c =
    let keys = keys_in c.args.keys.now in
    let before : c.in-Ok-apply.before ≡ values_before c.args.updates keys = c.in-Ok-apply.ensures.before in
    record {
      few = subst (λ (queue : Queue). blocks_with queue.mirrors c.args.updates ≤ 64) (sym c.reserve.ensures.queue) c.requires.few;
      updates = c.requires.updates;
      pairs = ap length before ∙ c.commits_are_undone.ensures.pairs c.args.updates keys;
      before = subst (All IsKeyValue) (sym before) (c.commits_are_undone.ensures.in_range c.args.updates c.args.keys.now (subst IsTrees c.map.ensures c.height.ensures.sound) c.requires.updates);
    }

pub join-requires-clause-numbers : goal.join-requires-clause-numbers
join-requires-clause-numbers c = subst (HasNumbers c.args.updates c.args.counted) (sym c.reserve.ensures.queue) c.requires.numbers

pub returns-in-Ok-apply-clause-queue : goal.returns-in-Ok-apply-clause-queue
returns-in-Ok-apply-clause-queue c =
    c.join.ensures.joined
    ∙ ap (λ (queue : Queue). joined (record { updates = c.args.updates; before = c.in-Ok-apply.before }) c.args.counted queue) c.reserve.ensures.queue
    ∙ ap (λ (before : List (Option Value)). joined (record { updates = c.args.updates; before = before }) c.args.counted c.args.queue.now.queue) c.in-Ok-apply.ensures.before

pub returns-in-Ok-apply-clause-pins : goal.returns-in-Ok-apply-clause-pins
returns-in-Ok-apply-clause-pins c =
    let seq : c.entry_of-seq.result ≡ (readied c.args.updates c.args.queue.now.queue).open_entry.after + 1 = c.entry_of-seq.ensures ∙ ap (λ (us : List Update). (readied us c.args.queue.now.queue).open_entry.after + 1) c.as_slice.ensures in
    c.dirty.ensures.pins ∙ ap (with_pins c.entry_of-seq.result c.args.paths.now.changed.items) c.reserve.ensures.pins ∙ ap (λ (n : ℕ). with_pins n c.args.paths.now.changed.items c.args.dirty.now.pins.numbers) seq

pub returns-in-Ok-apply-clause-marks : goal.returns-in-Ok-apply-clause-marks
returns-in-Ok-apply-clause-marks c =
    let seq : c.entry_of-seq.result ≡ (readied c.args.updates c.args.queue.now.queue).open_entry.after + 1 = c.entry_of-seq.ensures ∙ ap (λ (us : List Update). (readied us c.args.queue.now.queue).open_entry.after + 1) c.as_slice.ensures in
    c.dirty.ensures.marks ∙ ap (with_pins c.entry_of-seq.result c.args.paths.now.over.items) c.reserve.ensures.marks ∙ ap (λ (n : ℕ). with_pins n c.args.paths.now.over.items c.args.dirty.now.marks.numbers) seq

pub returns-in-Ok-apply-clause-later : goal.returns-in-Ok-apply-clause-later
returns-in-Ok-apply-clause-later c =
    let seq : c.entry_of-seq.result ≡ (readied c.args.updates c.args.queue.now.queue).open_entry.after + 1 = c.entry_of-seq.ensures ∙ ap (λ (us : List Update). (readied us c.args.queue.now.queue).open_entry.after + 1) c.as_slice.ensures in
    c.dirty.ensures.later ∙ ap (with_pins c.entry_of-seq.result c.args.paths.now.changed.items) c.reserve.ensures.later ∙ ap (λ (n : ℕ). with_pins n c.args.paths.now.changed.items c.args.dirty.now.later.numbers) seq

pub entry_of-seq-requires-clause-numbers : goal.entry_of-seq-requires-clause-numbers
entry_of-seq-requires-clause-numbers c = subst (λ (us : List Update). HasNumbers us c.args.counted c.args.queue.now.queue) (sym c.as_slice.ensures) c.requires.numbers

pub apply-requires : goal.apply-requires
apply-requires c = c.requires.updates

pub join-requires-clause-room : goal.join-requires-clause-room
join-requires-clause-room c = subst (λ (us : List Update). HasRoom us c.reserve.new.queue) c.as_slice-2.ensures c.in-Ok.ensures.room

pub dirty-requires-clause-pin_room : goal.dirty-requires-clause-pin_room
dirty-requires-clause-pin_room c = c.in-Ok.ensures.pin_room

pub dirty-requires-clause-mark_room : goal.dirty-requires-clause-mark_room
dirty-requires-clause-mark_room c = c.in-Ok.ensures.mark_room

pub dirty-requires-clause-later_room : goal.dirty-requires-clause-later_room
dirty-requires-clause-later_room c = c.in-Ok.ensures.later_room

pub returns-in-Err-clause-keys_kept : goal.returns-in-Err-clause-keys_kept
returns-in-Err-clause-keys_kept c = c.in-Err.ensures.err

pub returns-in-Err-clause-queue_kept : goal.returns-in-Err-clause-queue_kept
returns-in-Err-clause-queue_kept c = c.reserve.ensures.queue

pub returns-in-Err-clause-pins_kept : goal.returns-in-Err-clause-pins_kept
returns-in-Err-clause-pins_kept c = c.reserve.ensures.pins

pub returns-in-Err-clause-marks_kept : goal.returns-in-Err-clause-marks_kept
returns-in-Err-clause-marks_kept c = c.reserve.ensures.marks

pub returns-in-Err-clause-later_kept : goal.returns-in-Err-clause-later_kept
returns-in-Err-clause-later_kept c = c.reserve.ensures.later

pub returns-in-Err-clause-kept : goal.returns-in-Err-clause-kept
returns-in-Err-clause-kept c = c.unmade-in-Err.ensures.updates

pub returns-in-Err-clause-why : goal.returns-in-Err-clause-why
returns-in-Err-clause-why c = c.unmade-in-Err.ensures.why

pub returns-in_default-clause-queue_kept : goal.returns-in_default-clause-queue_kept
returns-in_default-clause-queue_kept c = c.reserve.ensures.queue

pub returns-in_default-clause-pins_kept : goal.returns-in_default-clause-pins_kept
returns-in_default-clause-pins_kept c = c.reserve.ensures.pins

pub returns-in_default-clause-marks_kept : goal.returns-in_default-clause-marks_kept
returns-in_default-clause-marks_kept c = c.reserve.ensures.marks

pub returns-in_default-clause-later_kept : goal.returns-in_default-clause-later_kept
returns-in_default-clause-later_kept c = c.reserve.ensures.later

pub returns-in_default-clause-kept : goal.returns-in_default-clause-kept
returns-in_default-clause-kept c = c.unmade.ensures.updates

pub returns-in_default-clause-why : goal.returns-in_default-clause-why
returns-in_default-clause-why c = c.unmade.ensures.why

pub returns-in-Ok-apply-clause-keys : goal.returns-in-Ok-apply-clause-keys
returns-in-Ok-apply-clause-keys c = c.in-Ok-apply.ensures.keys

pub returns-in-Ok-apply-clause-nodes : goal.returns-in-Ok-apply-clause-nodes
returns-in-Ok-apply-clause-nodes c = c.in-Ok-apply.ensures.nodes
