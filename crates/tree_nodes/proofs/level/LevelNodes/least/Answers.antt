use Rattle.std.proofs.Common.{sym, ap, ◌∙◌}
use Rattle.std.specs.Prelude.{option_map, unwrap_or}
use Rattle.std.specs.Map.Iter.{deref_pair}
use Rattle.vol_types.specs.Positions.{greatest_pos}
use Rattle.vol_types.specs.declared.pointers.NodePtr.{NodePtr}
use Rattle.vol_types.specs.declared.positions.Pos.{Pos}
use Rattle.tree_nodes.specs.Levels.{follower_of, last_of}
use Rattle.tree_nodes.proofs.Ranges.{before-range}
use Rattle.vol_types.specs.LastLaws.{last_taken}
use Rattle.tree_nodes.proofs.level.LevelNodes.least.Goals as goal

pub returns-in-None-clause-exact : goal.returns-in-None-clause-exact
returns-in-None-clause-exact c =
    rw (← c.self.view_is, ← c.wide-greatest.ensures.same)
    (ap follower_of (ap (option_map (deref_pair {K = Pos} {X = NodePtr})) (sym c.in-None.is) ∙ last_taken (deref_pair {K = Pos} {X = NodePtr}) c.range.result _ c.next_back.result c.next_back.ensures.steps
    ∙ ap last_of (c.range.ensures.between tt ∙ before-range c.wide-greatest.result c.self.inside.nodes.entries)))

pub returns-in-Some-clause-exact : goal.returns-in-Some-clause-exact
returns-in-Some-clause-exact c =
    rw (← c.self.view_is, ← c.wide-greatest.ensures.same)
    (sym (ap (λ o. unwrap_or o greatest_pos) c.follower.ensures.next)
    ∙ ap follower_of (ap (option_map (deref_pair {K = Pos} {X = NodePtr})) (sym c.in-Some.is) ∙ last_taken (deref_pair {K = Pos} {X = NodePtr}) c.range.result _ c.next_back.result c.next_back.ensures.steps
    ∙ ap last_of (c.range.ensures.between tt ∙ before-range c.wide-greatest.result c.self.inside.nodes.entries)))
