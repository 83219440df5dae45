use Rattle.std.proofs.Common.{subst, sym}
use Rattle.std.specs.Prelude.{All}
use Rattle.std.specs.Map.{keys_of}
use Rattle.vol_types.specs.Widths.{PosFits}
use Rattle.node_mem.specs.CountLaws.{keys-without}
use Rattle.node_mem.proofs.Counting.{before-in_range, taken-le, node-without, counted-without}
use Rattle.node_mem.proofs.NodeMem.remove.Goals as goal

pub length-requires : goal.length-requires
length-requires c = before-in_range c.args.pos.now c.remove-before.result _ c.self.invariant.0 c.remove-before.ensures.value

pub overflow_sub-self : goal.overflow_sub-self
overflow_sub-self c = taken-le c.args.pos.now c.remove-before.result c.self.inside.entries.entries c.self.inside.bytes c.length.result c.self.invariant.0.rises c.self.invariant.1 c.remove-before.ensures.value c.length.ensures

pub invariant_of-self : goal.invariant_of-self
invariant_of-self c = (
  node-without _ c.args.pos.now c.remove-before.new.self.entries c.self.invariant.0 c.remove-before.ensures.ordered c.remove-before.ensures.entries,
  counted-without c.args.pos.now c.remove-before.result c.self.inside.entries.entries c.remove-before.new.self.entries c.self.inside.bytes c.length.result c.self.invariant.0.rises c.self.invariant.1 c.remove-before.ensures.entries c.remove-before.ensures.value c.length.ensures,
  subst (λ es. All PosFits (keys_of es)) (sym c.remove-before.ensures.entries) (keys-without PosFits c.args.pos.now c.self.inside.entries.entries c.self.invariant.2),
)
