use Rattle.std.proofs.Common.{◌<◌, ℕ, sym, subst, refl}
use Rattle.six_lock.specs.declared.lock.Ask.{Ask}
use Rattle.six_lock.specs.declared.lock.Ask.TheVariants.{Held}
use Rattle.lock_table.specs.Calls.{mode_of}
use Rattle.lock_table.specs.Nodes.{AsksNode}
use Rattle.lock_table.proofs.Noted.{holding_same, holding_gains}
use Rattle.lock_table.proofs.holding.ask_noted.Goals as goal

pub is_held-is_new-requires : goal.is_held-is_new-requires
is_held-is_new-requires c = λ node is. subst (λ (n : ℕ). c.args.actor < n) (sym (c.requires.in_use c.args.name.now.birth node is).sized) c.requires.actor

pub returns-in_err-ask_node-clause-holding : goal.returns-in_err-ask_node-clause-holding
returns-in_err-ask_node-clause-holding c = holding_same c.args.actor c.args.nodes.now.entries _ c.args.holding.now _ c.in_err-ask_node.ensures.err c.reserve.ensures.items refl c.requires.holding

-- what the ask says at the answer that it gave
asked : (c : goal.In-Held) → AsksNode c.args.sequence c.args.nodes.now.entries c.args.actor c.args.name.now (mode_of c.args.mode) (Held c.in-Held.holder) c.ask_node.new.nodes.entries
asked c = subst (λ (answer : Ask). AsksNode c.args.sequence c.args.nodes.now.entries c.args.actor c.args.name.now (mode_of c.args.mode) answer c.ask_node.new.nodes.entries) c.in-Held.is c.in_ok-ask_node.ensures.ok

pub returns-in-Held-clause-holding : goal.returns-in-Held-clause-holding
returns-in-Held-clause-holding c = holding_same c.args.actor c.args.nodes.now.entries _ c.args.holding.now _ (asked c).1 c.reserve.ensures.items refl c.requires.holding

pub returns-in-Granted-clause-holding : goal.returns-in-Granted-clause-holding
returns-in-Granted-clause-holding c =
    let granted = subst (λ (answer : Ask). AsksNode c.args.sequence c.args.nodes.now.entries c.args.actor c.args.name.now (mode_of c.args.mode) answer c.ask_node.new.nodes.entries) c.in-Granted.is c.in_ok-ask_node.ensures.ok in
    holding_gains c.args.sequence c.args.nodes.now.entries c.ask_node.new.nodes.entries c.args.actor c.args.name.now (mode_of c.args.mode) c.args.holding.now c.add.new.self c.reserve.new.self.items c.called-called.result c.is_held-is_new.result
    granted.1 granted.2 c.called-called.ensures c.is_held-is_new.ensures.yes c.reserve.ensures.items c.add.ensures.births c.add.ensures.highest c.requires.holding
