use Rattle.std.proofs.Common.{sym, ap, ◌∙◌, Some, IsSome, subst, refl, nat_cmp}
use Rattle.std.specs.BTreeMap.{is_at}
use Rattle.std.specs.Map.{set_value}
use Rattle.std.proofs.lemmas.Map.Steps.{set_value_same}
use Rattle.std.proofs.lemmas.Option.{same_Some}
use Rattle.six_lock.specs.Modes.Mode.{Exclusive}
use Rattle.lock_table.specs.Nodes.{IsInUse}
use Rattle.lock_table.specs.declared.node.Node.{Node}
use Rattle.lock_table.proofs.InUse.{changes, in_use_changed, in_use_asked, upgrades_here}
use Rattle.lock_table.proofs.node.upgrade_node.Goals as goal

pub returns-clause-answer : goal.returns-clause-answer
returns-clause-answer c =
    let was : Node = c.in-Some.node.now in
    let now : Node = record { name = was.name; lock = c.exclusive.new.self } in
    let is = sym c.in-Some.ensures.value in
    let written = c.get_mut.follows.holds now in
    let update = written.3 (subst IsSome c.in-Some.ensures.value refl) in
    upgrades_here c.args.nodes.now.entries _ c.args.birth c.args.actor c.exclusive.result was now is refl (changes _ _ _ _ update.1 update.2)
    (λ same. written.0 ∙ ap (set_value (is_at (nat_cmp c.args.birth)) c.args.nodes.now.entries) same ∙ set_value_same (is_at (nat_cmp c.args.birth)) c.args.nodes.now.entries was is)
    c.exclusive.ensures.answer c.exclusive.ensures.reader

pub returns-clause-in_use : goal.returns-clause-in_use
returns-clause-in_use c = λ count each.
    let was : Node = c.in-Some.node.now in
    let now : Node = record { name = was.name; lock = c.exclusive.new.self } in
    let is = sym c.in-Some.ensures.value in
    let update = (c.get_mut.follows.holds now).3 (subst IsSome c.in-Some.ensures.value refl) in
    in_use_changed count c.args.nodes.now.entries _ c.args.birth (Some now) each (changes _ _ _ _ update.1 update.2)
    (λ n same. subst (IsInUse count) (same_Some now n same) (in_use_asked count c.args.actor Exclusive c.exclusive.result was now (each c.args.birth was is) c.exclusive.ensures.answer))
