use Rattle.std.proofs.Common.{sym, ap, ◌∙◌}
use Rattle.std.specs.Map.{set_value}
use Rattle.std.specs.BTreeMap.{is_at}
use Rattle.std.proofs.lemmas.Map.Steps.{set_value_same}
use Rattle.std.proofs.lemmas.Result.{on_ok_weaker, on_err_weaker}
use Rattle.plain_forest.specs.Maps.{name_cmp}
use Rattle.forest_ops.specs.Places.{changed}
use Rattle.forest_ops.proofs.MapLemmas.{set_value-changed_at, changed_at-none}
use Rattle.forest_ops.proofs.subvolumes.change_tree.Goals as goal

pub returns-in-Some-clause-ok : goal.returns-in-Some-clause-ok
returns-in-Some-clause-ok c =
    let old = c.args.trees.now.entries in
    on_ok_weaker c.change.result (λ done.
    (c.get_mut.follows.holds c.change.new.self).0 ∙ ap (set_value (is_at (name_cmp c.args.name.now)) old) done
    ∙ set_value-changed_at name_cmp c.args.name.now (changed c.args.change.now) old c.in-Some.tree.now (sym c.in-Some.ensures.value)) c.change.ensures.ok

pub returns-in-Some-clause-err : goal.returns-in-Some-clause-err
returns-in-Some-clause-err c =
    let old = c.args.trees.now.entries in
    on_err_weaker c.change.result (λ same.
    (c.get_mut.follows.holds c.change.new.self).0 ∙ ap (set_value (is_at (name_cmp c.args.name.now)) old) same
    ∙ set_value_same (is_at (name_cmp c.args.name.now)) old c.in-Some.tree.now (sym c.in-Some.ensures.value)) c.change.ensures.err

pub returns-in-None-clause-ok : goal.returns-in-None-clause-ok
returns-in-None-clause-ok c =
    ap (λ m. m.entries) c.get_mut.follows.holds-at-none
    ∙ sym (changed_at-none name_cmp c.args.name.now (changed c.args.change.now) c.args.trees.now.entries (sym c.in-None.ensures.value))
