use Rattle.std.proofs.Common.{sym, subst, ◌∙◌}
use Rattle.std.specs.Prelude.{IsSome}
use Rattle.std.specs.Ordering.{nat_cmp}
use Rattle.birth_index.specs.Births.{Index}
use Rattle.birth_index.proofs.Rooming.{cleared_there, never_refused}
use Rattle.vol_types.specs.Maps.{value_at}
use Rattle.birth_index.proofs.making.remove_all.Goals as goal

pub unreachable-requires : goal.unreachable-requires
unreachable-requires c =
    never_refused c.put.result (value_at nat_cmp c.args.gone c.clear.new.names.entries) (sym c.is_err.ensures.value ∙ c.if-is_err.true) c.put.ensures.absent
    (subst (λ (index : Index). IsSome (value_at nat_cmp c.args.gone index)) (sym c.clear.ensures) (cleared_there c.args.gone c.args.news.now c.args.names.now.entries c.requires))
