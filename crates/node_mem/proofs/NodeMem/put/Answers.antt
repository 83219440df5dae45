use Rattle.std.proofs.Common.{◌<◌, ◌^◌, subst, sym, arith}
use Rattle.std.specs.Prelude.{All}
use Rattle.std.specs.Map.{keys_of}
use Rattle.node_mem.specs.Nodes.{Node}
use Rattle.vol_types.specs.Positions.{IsWithin}
use Rattle.vol_types.specs.Widths.{PosFits}
use Rattle.node_mem.specs.CountLaws.{keys-put_at}
use Rattle.node_mem.proofs.Counting.{bytes-fit, before-in_range, removed-le, node-put_at, counted-put_at}
use Rattle.node_mem.proofs.NodeMem.put.Goals as goal

pub overflow_add-self : goal.overflow_add-self
overflow_add-self c =
    let added : c.length-added.result < 2 ^ 32 = omega (arith, c.length-added.type_inv) in
    omega (arith, bytes-fit c.self.inside.entries.entries c.self.inside.bytes c.length-added.result c.self.invariant.1 c.self.invariant.0.in_range (omega (arith, c.len-count.ensures.small, c.len-count.ensures.len)) added)

pub length-requires : goal.length-requires
length-requires c = before-in_range c.wide-pos.result c.in_ok-before.before _ c.self.invariant.0 c.in_ok-before.ensures.before

pub overflow_sub-self : goal.overflow_sub-self
overflow_sub-self c =
    removed-le c.wide-pos.result c.args.value c.in_ok-before.before c.self.inside.entries.entries c.self.inside.bytes c.length-added.result c.length.result c.self.invariant.0.rises c.self.invariant.1 c.in_ok-before.ensures.before c.length-added.ensures c.length.ensures

pub invariant_of-self-2 : goal.invariant_of-self-2
invariant_of-self-2 c = (
  node-put_at _ c.wide-pos.result c.args.value c.exchange.new.entries.entries c.self.invariant.0 (subst (λ p. IsWithin c.self.inside.least c.self.inside.greatest p) (sym c.wide-pos.ensures.same) (subst (λ (n : Node). IsWithin n.least n.greatest c.args.pos.now) (sym c.self.view_is) c.requires.covered)) c.requires.in_range c.exchange.ensures.rises c.in_ok-before.ensures.ok,
  counted-put_at c.wide-pos.result c.args.value c.in_ok-before.before c.self.inside.entries.entries c.exchange.new.entries.entries c.self.inside.bytes c.length-added.result c.length.result c.self.invariant.0.rises c.self.invariant.1 c.in_ok-before.ensures.ok
      c.in_ok-before.ensures.before c.length-added.ensures c.length.ensures,
  subst (λ es. All PosFits (keys_of es)) (sym c.in_ok-before.ensures.ok) (keys-put_at PosFits c.wide-pos.result c.args.value c.self.inside.entries.entries c.self.invariant.2 (subst PosFits (sym c.wide-pos.ensures.same) c.wide-pos.ensures.fits)),
)
