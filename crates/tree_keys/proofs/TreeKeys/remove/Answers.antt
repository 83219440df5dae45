use Rattle.std.proofs.Common.{◌-◌, None, refl, sym, subst, ap, ◌∙◌, add-zero, arith}
use Rattle.node_mem.specs.CountLaws.{value_at-in_range}
use Rattle.tree_keys.proofs.Counted.{kept-put_at, removed-le}
use Rattle.vol_types.specs.Maps.{with_value}
use Rattle.vol_types.specs.Positions.{pos_cmp}
use Rattle.vol_types.specs.Ranges.{IsKeyValue}
use Rattle.vol_types.specs.Widths.{PosFits}
use Rattle.tree_keys.proofs.TreeKeys.remove.Goals as goal

pub length-requires : goal.length-requires
length-requires c = subst IsKeyValue (sym c.remove-before.ensures.value) (value_at-in_range c.wide-pos.result c.self.inside.keys.entries c.self.invariant.0.in_range)

pub overflow_sub-bytes : goal.overflow_sub-bytes
overflow_sub-bytes c =
    omega (
      arith,
      removed-le c.self.inside.keys.entries c.self.inside.leaves.entries c.self.invariant c.leaf_at-bytes.result.0 c.leaf_at-bytes.result.1 c.leaf_at-bytes.ensures.bytes c.wide-pos.result (subst PosFits (sym c.wide-pos.ensures.same) c.wide-pos.ensures.fits)
          c.leaf_at-bytes.ensures.end None c.remove-before.result 0 c.length.result c.remove-before.ensures.value refl c.length.ensures,
    )

pub invariant_of-self : goal.invariant_of-self
invariant_of-self c =
    kept-put_at c.self.inside.keys.entries c.self.inside.leaves.entries c.self.invariant c.leaf_at-bytes.result.0 c.leaf_at-bytes.result.1 c.leaf_at-bytes.ensures.bytes c.wide-pos.result (subst PosFits (sym c.wide-pos.ensures.same) c.wide-pos.ensures.fits)
    c.leaf_at-bytes.ensures.end None c.remove-before.result 0 c.length.result c.remove-before.ensures.value refl c.length.ensures
    c.remove-before.new.self.entries c.set_bytes.new.leaves.entries c.remove-before.ensures.entries
    (c.set_bytes.ensures.bytes ∙ ap (λ n. with_value pos_cmp c.leaf_at-bytes.result.0 (n - c.length.result) c.self.inside.leaves.entries) (sym (add-zero c.leaf_at-bytes.result.1)))
    c.set_bytes.ensures.ends tt
