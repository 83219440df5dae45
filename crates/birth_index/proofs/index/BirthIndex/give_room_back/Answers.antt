use Rattle.std.proofs.Common.{ap, ◌∙◌}
use Rattle.std.specs.Ordering.{nat_cmp}
use Rattle.birth_index.specs.Births.{Index}
use Rattle.birth_index.specs.Rooms.{cleared}
use Rattle.birth_index.proofs.Rooming.{given_back}
use Rattle.vol_types.specs.Maps.{with_value}
use Rattle.birth_index.proofs.index.BirthIndex.give_room_back.Goals as goal

pub returns : goal.returns
returns c before rises there free is =
    c.remove_all.ensures
    ∙ ap (λ (index : Index). with_value nat_cmp c.args.gone c.args.name.now (cleared c.args.gone c.args.news.now index)) (c.self.view_is ∙ is)
    ∙ given_back c.args.gone before c.args.name.now c.args.news.now rises there free
