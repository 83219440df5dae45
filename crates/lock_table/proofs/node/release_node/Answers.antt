use Rattle.std.proofs.Common.{sym, ap, ◌∙◌, Some, None, IsSome, subst, refl}
use Rattle.std.proofs.lemmas.Option.{same_Some, none-some as none_some}
use Rattle.lock_table.specs.Nodes.{IsInUse, EachInUse}
use Rattle.lock_table.specs.declared.node.Node.{Node}
use Rattle.lock_table.proofs.InUse.{changes, changes_again, in_use_changed}
use Rattle.lock_table.proofs.node.release_node.Goals as goal

pub returns-in-None-clause-in_use : goal.returns-in-None-clause-in_use
returns-in-None-clause-in_use c = λ count each. subst (EachInUse count) (ap (λ m. m.entries) (sym c.get_mut.follows.holds-at-none)) each

pub returns-in-None-gone-clause-in_use : goal.returns-in-None-gone-clause-in_use
returns-in-None-gone-clause-in_use c = λ count each.
    let was : Node = c.in-Some.node.now in
    let now : Node = record { name = was.name; lock = c.release_lock-gone.new.lock } in
    let update = (c.get_mut.follows.holds now).3 (subst IsSome c.in-Some.ensures.value refl) in
    let use_of = each c.args.birth was (sym c.in-Some.ensures.value) in
    let holder = c.in-None-gone.ensures.held in
    in_use_changed count c.args.nodes.now.entries _ c.args.birth (Some now) each (changes _ _ _ _ update.1 update.2)
    (λ n same. subst (IsInUse count) (same_Some now n same) (record { sized = c.release_lock-gone.ensures.releases.actors ∙ use_of.sized; holder = holder.0; holds = holder.1 }))

pub returns-in-Some-gone-clause-in_use : goal.returns-in-Some-gone-clause-in_use
returns-in-Some-gone-clause-in_use c = λ count each.
    let was : Node = c.in-Some.node.now in
    let now : Node = record { name = was.name; lock = c.release_lock-gone.new.lock } in
    let update = (c.get_mut.follows.holds now).3 (subst IsSome c.in-Some.ensures.value refl) in
    let removed = c.remove.ensures.updates in
    in_use_changed count c.args.nodes.now.entries _ c.args.birth None each
    (changes_again _ (c.get_mut.follows.lender now).entries _ c.args.birth (Some now) None (changes _ _ _ _ update.1 update.2) (changes _ _ _ _ removed.1 removed.2))
    (λ n same. absurd (none_some n same))
