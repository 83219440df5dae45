use Rattle.std.proofs.Common.{ap, sym, ◌∙◌, subst}
use Rattle.std.specs.Prelude.{IfSome}
use Rattle.std.specs.Map.Iter.{deref_pair}
use Rattle.std.proofs.lemmas.Bool.{true≢false}
use Rattle.std.proofs.lemmas.Option.{slice_get_within}
use Rattle.vol_types.specs.declared.pointers.NodePtr.{NodePtr}
use Rattle.vol_types.specs.declared.positions.Pos.{Pos}
use Rattle.tree_nodes.specs.Levels.{Level, Covers, node_at}
use Rattle.tree_nodes.specs.CoverLaws.{node_at-some}
use Rattle.tree_nodes.proofs.Looks.{found, missing, none_past, shown_covers, some_shown}
use Rattle.tree_nodes.proofs.tree.TreeNodes.node_at.Goals as goal

pub returns-in-None-clause-found : goal.returns-in-None-clause-found
returns-in-None-clause-found c = sym (ap (node_at c.args.pos.now) (missing c.args.self.now c.args.level (sym c.in-None.ensures.found)))

pub returns-in-None-clause-there : goal.returns-in-None-clause-there
returns-in-None-clause-there c = (λ some. absurd (true≢false (sym some)), λ lt. absurd (none_past c.args.self.now c.args.level (sym c.in-None.ensures.found) lt))

pub returns-in-Some-clause-found : goal.returns-in-Some-clause-found
returns-in-Some-clause-found c =
    c.node_at.ensures ∙ ap (λ p. node_at p c.in-Some.nodes.now) c.wide-pos.ensures.same ∙ ap (node_at c.args.pos.now) (sym (found c.args.self.now c.args.level c.in-Some.nodes.now (sym c.in-Some.ensures.found)))

pub returns-in-Some-clause-there : goal.returns-in-Some-clause-there
returns-in-Some-clause-there c = (
  λ some. slice_get_within c.args.self.now c.args.level c.in-Some.nodes.now (sym c.in-Some.ensures.found),
  λ lt. some_shown (deref_pair {K = Pos} {X = NodePtr}) c.node_at.result (node_at c.args.pos.now c.in-Some.nodes.now) (c.node_at.ensures ∙ ap (λ p. node_at p c.in-Some.nodes.now) c.wide-pos.ensures.same) (node_at-some c.args.pos.now c.in-Some.nodes.now c.in-Some.ensures.sound.ends c.wide-pos.ensures.fits),
)

pub returns-in-Some-clause-covers : goal.returns-in-Some-clause-covers
returns-in-Some-clause-covers c =
    let nodes = c.in-Some.nodes.now in
    subst (λ (nodes : Level). IfSome c.node_at.result (λ node. Covers nodes node.0.now c.args.pos.now)) (sym (found c.args.self.now c.args.level c.in-Some.nodes.now (sym c.in-Some.ensures.found)))
    (shown_covers (deref_pair {K = Pos} {X = NodePtr}) c.node_at.result c.in-Some.nodes.now c.args.pos.now c.in-Some.ensures.sound.row c.wide-pos.ensures.fits (c.node_at.ensures ∙ ap (λ p. node_at p c.in-Some.nodes.now) c.wide-pos.ensures.same))
