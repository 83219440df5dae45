-- A look-up goes to the side where the node's pin would be.
use Rattle.std.proofs.Common.{◌<◌, ◌≤◌, sym, subst, ◌∙◌, arith}
use Rattle.pin_list.proofs.Around.{around, shorter, looks_left, looks_right, looks_here, left_rises, right_rises}
use Rattle.pin_list.proofs.tree.Tree.+get.Goals as goal

pub get-requires : goal.get-requires
get-requires t c =
    let at = around c.self.view_is c.in-Some.is c.deref-then-node-deref.ensures c.requires in
    let less = (shorter at).at_left in
    (omega arith, left_rises at)

pub returns-then-node-deref : goal.returns-then-node-deref
returns-then-node-deref t c =
    let at = around c.self.view_is c.in-Some.is c.deref-then-node-deref.ensures c.requires in
    c.get.ensures ∙ sym (looks_left c.args.node at (subst (λ f. c.args.node < f.node) (c.deref.ensures ∙ sym c.deref-then-node-deref.ensures) c.if-node-deref.true))

pub get-requires-then-deref-node : goal.get-requires-then-deref-node
get-requires-then-deref-node t c =
    let at = around c.self.view_is c.in-Some.is c.deref-then-deref-node.ensures c.requires in
    let less = (shorter at).at_right in
    (omega arith, right_rises at)

pub returns-then-deref-node : goal.returns-then-deref-node
returns-then-deref-node t c =
    let at = around c.self.view_is c.in-Some.is c.deref-then-deref-node.ensures c.requires in
    c.get-then-deref-node.ensures ∙ sym (looks_right c.args.node at (subst (λ f. f.node < c.args.node) (c.deref-in-Some.ensures ∙ sym c.deref-then-deref-node.ensures) c.if-deref-node.true))

pub returns-else-deref-node : goal.returns-else-deref-node
returns-else-deref-node t c =
    let at = around c.self.view_is c.in-Some.is c.deref-in-Some-2.ensures c.requires in
    let up = subst (λ f. c.args.node ≤ f.node) (c.deref-in-Some.ensures ∙ sym c.deref-in-Some-2.ensures) c.if-deref-node.false in
    let low = subst (λ f. f.node ≤ c.args.node) (c.deref.ensures ∙ sym c.deref-in-Some-2.ensures) c.if-node-deref.false in
    sym (looks_here c.args.node at (omega (arith, up, low)))
