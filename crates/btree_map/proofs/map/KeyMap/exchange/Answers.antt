use Rattle.std.proofs.Common.{sym, subst}
use Rattle.birth_index.specs.Exchanges.{AreExchanges}
use Rattle.btree_map.proofs.Carried.{kept_err, kept_ok}
use Rattle.btree_map.specs.NodeLaws.{trees-changed-or, trees-exchanged}
use Rattle.btree_map.specs.Trees.{Trees, with_exchanged}
use Rattle.btree_map.proofs.map.KeyMap.exchange.Goals as goal

pub invariant_of-self : goal.invariant_of-self
invariant_of-self c =
    let old : Trees = record { keys = c.self.inside.keys.items; nodes = c.self.inside.nodes } in
    let changes = c.args.changes.now in
    let are = subst (λ (trees : Trees). AreExchanges trees.nodes changes) (sym c.self.view_is) c.requires in
    trees-changed-or c.exchange.result old (with_exchanged changes old) old.keys c.exchange.new.self c.self.invariant (kept_ok c.exchange.result old.keys) c.exchange.ensures.ok
    (kept_err c.exchange.result old.keys) c.exchange.ensures.err (trees-exchanged changes old c.self.invariant are)
