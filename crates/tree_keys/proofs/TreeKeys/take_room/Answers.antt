use Rattle.std.proofs.Common.{◌≡◌, None, sym, ◌∙◌, subst}
use Rattle.std.specs.Prelude.{All}
use Rattle.tree_keys.specs.PlanLaws.{fresh-free}
use Rattle.vol_types.specs.Maps.{value_at}
use Rattle.vol_types.specs.Positions.{pos_cmp}
use Rattle.tree_keys.proofs.TreeKeys.take_room.Goals as goal

pub place-requires : goal.place-requires
place-requires c =
    subst (All (λ pos. value_at pos_cmp pos c.args.self.now.entries ≡ None)) (sym (c.as_slice.ensures.value ∙ c.in_ok-fresh.ensures)) (fresh-free c.values.inside.last.entries c.args.self.now.entries)
