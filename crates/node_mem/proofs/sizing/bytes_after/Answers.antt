use Rattle.std.proofs.Common.{◌+◌, ◌-◌, ◌^◌, ◌<◌, length, map, take, ap, sym, ◌∙◌, subst, arith}
use Rattle.std.proofs.lemmas.List.{length-map, length-take-le}
use Rattle.std.specs.Prelude.{unwrap_or}
use Rattle.vol_types.specs.Maps.{value_at, with_value}
use Rattle.vol_types.specs.Positions.{pos_cmp}
use Rattle.node_mem.specs.Counts.{length_of}
use Rattle.node_mem.proofs.Counting.{bytes-fit}
use Rattle.node_mem.specs.MergeLaws.{keys_more}
use Rattle.node_mem.proofs.Growing.{IsSizing, before-le, sizing_more}
use Rattle.node_mem.proofs.sizing.bytes_after.Goals as goal

pub overflow_add-after : goal.overflow_add-after
overflow_add-after g c =
    let added : c.borrowed_length-added.result < 2 ^ 32 = omega (arith, c.borrowed_length-added.type_inv) in
    let few : length c.args.changes.now < 2 ^ 64 = omega arith in
    omega (
      arith,
      added,
      few,
      bytes-fit c.args.entries.now.entries c.args.bytes c.borrowed_length-added.result c.requires.counted c.requires.values (omega (arith, c.len-count.ensures.small, c.len-count.ensures.len)) added,
      c.loop-change.invariant.bound,
      length-map (take c.loop-change.change-index c.args.changes.now) g.C.Change.key,
      length-take-le c.loop-change.change-index c.args.changes.now (omega (arith, c.loop-change-test.true)),
    )

pub overflow_sub-after : goal.overflow_sub-after
overflow_sub-after g c =
    before-le c.args.entries.now.entries c.requires.rises c.args.bytes (map g.C.Change.key (take c.loop-change.change-index c.args.changes.now)) c.loop-change.lengths.entries c.insert.new.self.entries c.loop-change.after c.borrowed_length-added.result
    c.length_so_far-before.result (g.C.Change.key c.change-item.result) c.loop-change.invariant (c.borrowed_length-added.ensures ∙ ap length_of c.value.ensures)
    (c.length_so_far-before.ensures ∙ ap (λ p. unwrap_or (value_at pos_cmp p c.loop-change.lengths.entries) (length_of (value_at pos_cmp p c.args.entries.now.entries))) c.pos.ensures)

pub loop-change-preserved : goal.loop-change-preserved
loop-change-preserved g c =
    subst (λ ks. IsSizing c.args.entries.now.entries c.args.bytes ks c.insert.new.self.entries (c.loop-change.after + c.borrowed_length-added.result - c.length_so_far-before.result))
    (sym (keys_more g.C.Change.key c.args.changes.now c.loop-change.change-index c.change-item.result c.loop-change-test.true c.change-item.is))
    (sizing_more c.args.entries.now.entries c.requires.rises c.args.bytes (map g.C.Change.key (take c.loop-change.change-index c.args.changes.now)) c.loop-change.lengths.entries c.insert.new.self.entries c.loop-change.after c.borrowed_length-added.result
    c.length_so_far-before.result (g.C.Change.key c.change-item.result) c.loop-change.invariant (c.borrowed_length-added.ensures ∙ ap length_of c.value.ensures)
    (c.length_so_far-before.ensures ∙ ap (λ p. unwrap_or (value_at pos_cmp p c.loop-change.lengths.entries) (length_of (value_at pos_cmp p c.args.entries.now.entries))) c.pos.ensures) (omega (arith, c.borrowed_length-added.type_inv))
    (c.in_ok-insert.ensures.entries ∙ ap (λ p. with_value pos_cmp p c.borrowed_length-added.result c.loop-change.lengths.entries) c.pos.ensures))
