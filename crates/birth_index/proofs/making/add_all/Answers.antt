use Rattle.std.proofs.Common.{List, get_or, sym, ap, subst, take, refl, ◌∙◌}
use Rattle.std.specs.Prelude.{IsSome}
use Rattle.std.specs.Ordering.{nat_cmp}
use Rattle.std.proofs.lemmas.List.{take_more}
use Rattle.std.proofs.lemmas.List.Elements.{All-take}
use Rattle.birth_index.specs.Births.{Index, IsFreeIn, with_named}
use Rattle.birth_index.specs.Rooms.{cleared}
use Rattle.birth_index.specs.declared.name.Named.{Named}
use Rattle.birth_index.proofs.Rooming.{given_back, still_there, with_named-last}
use Rattle.vol_types.specs.Maps.{value_at, with_value}
use Rattle.vol_types.specs.declared.positions.Btree.TheVariants.{Extents}
use Rattle.birth_index.proofs.making.add_all.Goals as goal

pub remove_all-requires : goal.remove_all-requires
remove_all-requires c =
    subst (λ (index : Index). IsSome (value_at nat_cmp c.args.gone index)) (sym (c.in-Err.ensures.err ∙ c.loop-place.invariant))
    (still_there c.args.gone (take c.loop-place.place c.args.news.now) c.args.names.now.entries (subst IsSome (sym c.requires.there) refl))

pub returns-in-Err-clause-err : goal.returns-in-Err-clause-err
returns-in-Err-clause-err c =
    let news = take c.loop-place.place c.args.news.now in
    c.remove_all.ensures
    ∙ ap (λ (index : Index). with_value nat_cmp c.args.gone c.args.name.now (cleared c.args.gone news index)) (c.in-Err.ensures.err ∙ c.loop-place.invariant)
    ∙ given_back c.args.gone c.args.names.now.entries c.args.name.now news c.len.ensures.ordered c.requires.there
    (All-take (λ (new : Named). IsFreeIn c.args.names.now.entries c.args.gone new.birth) c.loop-place.place c.args.news.now c.requires.free)

pub loop-place-preserved : goal.loop-place-preserved
loop-place-preserved c =
    let none : Named = record { birth = 0; name = record { btree = Extents; level = 0; greatest = record { inode = 0; offset = 0; snapshot = 0 } } } in
    let new : Named = get_or c.args.news.now c.loop-place.place none in
    c.in_default.ensures.ok
    ∙ ap (with_value nat_cmp new.birth new.name) c.loop-place.invariant
    ∙ sym (with_named-last (take c.loop-place.place c.args.news.now) new c.args.names.now.entries)
    ∙ ap (λ (news : List Named). with_named news c.args.names.now.entries) (sym (take_more c.args.news.now c.loop-place.place none c.loop-place-test.true))
