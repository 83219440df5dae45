use Rattle.node_mem.proofs.Halves.{middle-stay, middle-leave, has_middle}
use Rattle.node_mem.proofs.laws.middles_halve.Goals as goal

pub returns : goal.returns
returns c = record { stay = middle-stay; leave = middle-leave; two = has_middle }
