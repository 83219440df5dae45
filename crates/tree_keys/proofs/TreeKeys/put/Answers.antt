use Rattle.std.proofs.Common.{◌<◌, ◌^◌, sym, subst, arith}
use Rattle.node_mem.specs.CountLaws.{value_at-in_range}
use Rattle.tree_keys.proofs.Counted.{bytes-fit, kept-put_at, removed-le}
use Rattle.vol_types.specs.Ranges.{IsKeyValue}
use Rattle.vol_types.specs.Widths.{PosFits}
use Rattle.tree_keys.proofs.TreeKeys.put.Goals as goal

pub overflow_add-bytes : goal.overflow_add-bytes
overflow_add-bytes c =
    let added : c.length-added.result < 2 ^ 32 = omega (arith, c.length-added.type_inv) in
    omega (arith, added, bytes-fit c.self.inside.keys.entries c.self.inside.leaves.entries c.self.invariant c.leaf_at-bytes.result.0 c.leaf_at-bytes.result.1 c.leaf_at-bytes.ensures.bytes (omega (arith, c.len-count.ensures.small, c.len-count.ensures.len)))

pub length-requires : goal.length-requires
length-requires c = subst IsKeyValue (sym c.in_ok-before.ensures.before) (value_at-in_range c.wide-pos.result c.self.inside.keys.entries c.self.invariant.0.in_range)

pub overflow_sub-bytes : goal.overflow_sub-bytes
overflow_sub-bytes c =
    removed-le c.self.inside.keys.entries c.self.inside.leaves.entries c.self.invariant c.leaf_at-bytes.result.0 c.leaf_at-bytes.result.1 c.leaf_at-bytes.ensures.bytes c.wide-pos.result (subst PosFits (sym c.wide-pos.ensures.same) c.wide-pos.ensures.fits)
    c.leaf_at-bytes.ensures.end c.args.value c.in_ok-before.before c.length-added.result c.length.result c.in_ok-before.ensures.before c.length-added.ensures c.length.ensures

pub invariant_of-self-2 : goal.invariant_of-self-2
invariant_of-self-2 c =
    kept-put_at c.self.inside.keys.entries c.self.inside.leaves.entries c.self.invariant c.leaf_at-bytes.result.0 c.leaf_at-bytes.result.1 c.leaf_at-bytes.ensures.bytes c.wide-pos.result (subst PosFits (sym c.wide-pos.ensures.same) c.wide-pos.ensures.fits)
    c.leaf_at-bytes.ensures.end c.args.value c.in_ok-before.before c.length-added.result c.length.result c.in_ok-before.ensures.before c.length-added.ensures c.length.ensures
    c.exchange.new.entries.entries c.set_bytes.new.leaves.entries c.in_ok-before.ensures.ok c.set_bytes.ensures.bytes c.set_bytes.ensures.ends c.requires
