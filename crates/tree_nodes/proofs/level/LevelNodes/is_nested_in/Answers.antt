use Rattle.std.specs.Prelude.{is_some}
use Rattle.std.specs.Map.{keys_of}
use Rattle.std.proofs.Common.{sym, ◌∙◌}
use Rattle.std.proofs.lemmas.List.Sums.{AllPass-from_list_all, list_all-from_AllPass}
use Rattle.vol_types.specs.Maps.{value_at}
use Rattle.vol_types.specs.Positions.{pos_cmp}
use Rattle.tree_nodes.specs.Levels.{EndsAt}
use Rattle.tree_nodes.specs.RowLaws.{at_end, each_end}
use Rattle.tree_nodes.proofs.level.LevelNodes.is_nested_in.Goals as goal

pub returns : goal.returns
returns c =
    rw (← c.self.view_is, ← c.below.view_is) (
      λ yes at ends. at_end (EndsAt c.below.inside.nodes.entries) c.self.inside.nodes.entries at
          (AllPass-from_list_all (λ p. is_some (value_at pos_cmp p c.below.inside.nodes.entries)) (keys_of c.self.inside.nodes.entries) (sym c.all_end_in.ensures ∙ yes)) ends,
      λ nested. c.all_end_in.ensures ∙ list_all-from_AllPass (λ p. is_some (value_at pos_cmp p c.below.inside.nodes.entries)) (keys_of c.self.inside.nodes.entries)
          (each_end (EndsAt c.below.inside.nodes.entries) c.self.inside.nodes.entries nested),
    )
