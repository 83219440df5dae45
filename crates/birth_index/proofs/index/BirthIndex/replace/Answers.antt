use Rattle.std.proofs.Common.{ap, sym, ◌∙◌}
use Rattle.std.specs.Ordering.{nat_cmp}
use Rattle.birth_index.proofs.Rooming.{replaced-removed, replaced-reused}
use Rattle.vol_types.specs.Maps.{without}
use Rattle.birth_index.proofs.index.BirthIndex.replace.Goals as goal

pub returns-then-not-reuses : goal.returns-then-not-reuses
returns-then-not-reuses c before rises is =
    c.remove.ensures.entries ∙ ap (without nat_cmp c.args.gone) (c.self.view_is ∙ is) ∙ replaced-removed c.args.gone c.args.news.now before rises (sym c.reuses.ensures ∙ c.if-not-reuses.true)

pub returns-else-not-reuses : goal.returns-else-not-reuses
returns-else-not-reuses c before rises is = is ∙ replaced-reused c.args.gone c.args.news.now before rises (sym c.reuses.ensures ∙ c.if-not-reuses.false)
