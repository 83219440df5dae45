use Rattle.std.proofs.Common.{sym, Some, IsSome, subst, refl}
use Rattle.std.proofs.lemmas.Option.{same_Some}
use Rattle.six_lock.specs.Modes.Mode.{Exclusive}
use Rattle.lock_table.specs.Nodes.{IsInUse}
use Rattle.lock_table.specs.declared.node.Node.{Node}
use Rattle.lock_table.proofs.InUse.{changes, in_use_changed, in_use_lowered, held_of}
use Rattle.lock_table.proofs.node.lower_node.Goals as goal

pub returns-clause-in_use : goal.returns-clause-in_use
returns-clause-in_use c = λ count each.
    let was : Node = c.in-Some.node.now in
    let now : Node = record { name = was.name; lock = c.lower.new.self } in
    let is = sym c.in-Some.ensures.value in
    let written = (c.get_mut.follows.holds now).3 (subst IsSome c.in-Some.ensures.value refl) in
    in_use_changed count c.args.nodes.now.entries _ c.args.birth (Some now) each (changes _ _ _ _ written.1 written.2)
    (λ n same. subst (IsInUse count) (same_Some now n same) (in_use_lowered count c.args.actor was now (each c.args.birth was is) (held_of _ was c.args.actor Exclusive is c.requires) c.lower.ensures))
