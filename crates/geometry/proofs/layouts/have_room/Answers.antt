use Rattle.std.proofs.Common.{sym, ◌∙◌, arith}
use Rattle.std.proofs.lemmas.Bool.{false_from_ne_true}
use Rattle.geometry.specs.LayoutFacts.{as_many}
use Rattle.geometry.proofs.Rooms.{room_here, no_room_here, room_end}
use Rattle.geometry.proofs.layouts.have_room.Goals as goal

pub returns-then-blocks-sizes : goal.returns-then-blocks-sizes
returns-then-blocks-sizes c = sym (false_from_ne_true _ (λ is. c.if-blocks-sizes.true (as_many c.args.blocks.now c.args.sizes.now is)))

pub returns-then-sizes-dev : goal.returns-then-sizes-dev
returns-then-sizes-dev c = sym (sym c.loop-dev.invariant ∙ no_room_here c.args.blocks.now c.args.sizes.now c.loop-dev.dev (omega arith) (omega arith) (omega arith))

pub loop-dev-preserved : goal.loop-dev-preserved
loop-dev-preserved c = room_here c.args.blocks.now c.args.sizes.now c.loop-dev.dev (omega arith) (omega arith) (omega arith) ∙ c.loop-dev.invariant

pub returns : goal.returns
returns c = sym (sym c.loop-dev.invariant ∙ room_end c.args.blocks.now c.args.sizes.now c.loop-dev.dev (omega arith) (omega arith))
