use Rattle.std.proofs.Common.{◌^◌, ◌<◌, length, map, take, ap, sym, ◌∙◌, subst, arith}
use Rattle.std.specs.Prelude.{unwrap_or}
use Rattle.std.specs.Map.{keys_of}
use Rattle.std.proofs.lemmas.List.{length-map, length-take-le}
use Rattle.node_mem.specs.Counts.{length_of}
use Rattle.node_mem.specs.MergeLaws.{keys_more}
use Rattle.tree_keys.specs.Cuts.{end_of}
use Rattle.tree_keys.proofs.Counted.{cut_of}
use Rattle.tree_keys.proofs.Sized.{IsSizing, before-le, bytes-small, sizing_more}
use Rattle.vol_types.specs.Maps.{value_at, with_value}
use Rattle.vol_types.specs.Positions.{pos_cmp}
use Rattle.vol_types.specs.Ranges.{IsKeyValue}
use Rattle.vol_types.specs.Widths.{PosFits}
use Rattle.tree_keys.proofs.sizing.bytes_after.Goals as goal

pub overflow_add-bytes : goal.overflow_add-bytes
overflow_add-bytes g c =
    let added : c.borrowed_length-added.result < 2 ^ 32 = omega (arith, c.borrowed_length-added.type_inv) in
    let few : length c.args.changes.now < 2 ^ 64 = omega arith in
    let short : length (map g.C.Change.key (take c.loop-change.change-index c.args.changes.now)) < 2 ^ 64 =
    omega (
      arith,
      few,
      length-map (take c.loop-change.change-index c.args.changes.now) g.C.Change.key,
      length-take-le c.loop-change.change-index c.args.changes.now (omega (arith, c.loop-change-test.true)),
      c.loop-change-test.true,
    ) in
    omega (
      arith,
      added,
      bytes-small c.args.keys.now.entries c.args.leaves.now.entries (c.requires.cut, c.requires.counted) (omega (arith, c.len-count.ensures.small, c.len-count.ensures.len)) (map g.C.Change.key (take c.loop-change.change-index c.args.changes.now)) c.loop-change.lengths.entries c.loop-change.sizes.entries c.loop-change.invariant
          (g.C.Change.key c.change-item.result) (subst PosFits c.pos.ensures c.wide-pos.ensures.fits)
          (subst (λ x. IsKeyValue (g.C.Change.key x).value) (sym c.change-item.is) (c.requires.in_range c.loop-change.change-index c.change-item.result c.loop-change-test.true))
          c.leaf_at-counted.result.0 (c.leaf_at-counted.ensures.end ∙ ap (λ p. end_of p (keys_of c.args.leaves.now.entries)) (c.wide-pos.ensures.same ∙ c.pos.ensures)) c.leaf_at-counted.result.1 c.leaf_at-counted.ensures.bytes
          c.borrowed_length-added.result c.length_so_far-before.result c.bytes_so_far-bytes.result (c.borrowed_length-added.ensures ∙ ap length_of c.value.ensures)
          (c.length_so_far-before.ensures ∙ ap (λ p. unwrap_or (value_at pos_cmp p c.loop-change.lengths.entries) (length_of (value_at pos_cmp p c.args.keys.now.entries))) (c.wide-pos.ensures.same ∙ c.pos.ensures)) c.bytes_so_far-bytes.ensures short,
    )

pub overflow_sub-bytes : goal.overflow_sub-bytes
overflow_sub-bytes g c =
    before-le c.args.keys.now.entries c.args.leaves.now.entries (c.requires.cut, c.requires.counted) (omega (arith, c.len-count.ensures.small, c.len-count.ensures.len)) (map g.C.Change.key (take c.loop-change.change-index c.args.changes.now)) c.loop-change.lengths.entries c.loop-change.sizes.entries c.loop-change.invariant
    (g.C.Change.key c.change-item.result) (subst PosFits c.pos.ensures c.wide-pos.ensures.fits)
    (subst (λ x. IsKeyValue (g.C.Change.key x).value) (sym c.change-item.is) (c.requires.in_range c.loop-change.change-index c.change-item.result c.loop-change-test.true))
    c.leaf_at-counted.result.0 (c.leaf_at-counted.ensures.end ∙ ap (λ p. end_of p (keys_of c.args.leaves.now.entries)) (c.wide-pos.ensures.same ∙ c.pos.ensures)) c.leaf_at-counted.result.1 c.leaf_at-counted.ensures.bytes
    c.borrowed_length-added.result c.length_so_far-before.result c.bytes_so_far-bytes.result (c.borrowed_length-added.ensures ∙ ap length_of c.value.ensures)
    (c.length_so_far-before.ensures ∙ ap (λ p. unwrap_or (value_at pos_cmp p c.loop-change.lengths.entries) (length_of (value_at pos_cmp p c.args.keys.now.entries))) (c.wide-pos.ensures.same ∙ c.pos.ensures)) c.bytes_so_far-bytes.ensures

pub loop-change-preserved : goal.loop-change-preserved
loop-change-preserved g c =
    subst (λ ks. IsSizing (cut_of c.args.keys.now.entries c.args.leaves.now.entries) ks c.insert.new.self.entries c.insert-in-loop-change.new.self.entries)
    (sym (keys_more g.C.Change.key c.args.changes.now c.loop-change.change-index c.change-item.result c.loop-change-test.true c.change-item.is))
    (sizing_more c.args.keys.now.entries c.args.leaves.now.entries (c.requires.cut, c.requires.counted) (omega (arith, c.len-count.ensures.small, c.len-count.ensures.len)) (map g.C.Change.key (take c.loop-change.change-index c.args.changes.now)) c.loop-change.lengths.entries c.loop-change.sizes.entries c.loop-change.invariant
    (g.C.Change.key c.change-item.result) (subst PosFits c.pos.ensures c.wide-pos.ensures.fits)
    (subst (λ x. IsKeyValue (g.C.Change.key x).value) (sym c.change-item.is) (c.requires.in_range c.loop-change.change-index c.change-item.result c.loop-change-test.true))
    c.leaf_at-counted.result.0 (c.leaf_at-counted.ensures.end ∙ ap (λ p. end_of p (keys_of c.args.leaves.now.entries)) (c.wide-pos.ensures.same ∙ c.pos.ensures)) c.leaf_at-counted.result.1 c.leaf_at-counted.ensures.bytes
    c.borrowed_length-added.result c.length_so_far-before.result c.bytes_so_far-bytes.result (c.borrowed_length-added.ensures ∙ ap length_of c.value.ensures)
    (c.length_so_far-before.ensures ∙ ap (λ p. unwrap_or (value_at pos_cmp p c.loop-change.lengths.entries) (length_of (value_at pos_cmp p c.args.keys.now.entries))) (c.wide-pos.ensures.same ∙ c.pos.ensures)) c.bytes_so_far-bytes.ensures
    c.insert.new.self.entries c.insert-in-loop-change.new.self.entries (omega (arith, c.borrowed_length-added.type_inv))
    (c.in_ok-insert.ensures.entries ∙ ap (λ p. with_value pos_cmp p c.borrowed_length-added.result c.loop-change.lengths.entries) (c.wide-pos.ensures.same ∙ c.pos.ensures)) c.insert-in-loop-change.ensures.ordered c.in_ok-insert-2.ensures.entries)
