use Rattle.std.proofs.Common.{sym, ap, ◌∙◌, nat_cmp}
use Rattle.std.specs.Map.{set_value}
use Rattle.std.specs.BTreeMap.{is_at}
use Rattle.std.proofs.lemmas.Map.Steps.{set_value_same}
use Rattle.std.proofs.lemmas.Result.{on_ok_weaker, on_err_weaker}
use Rattle.forest_ops.specs.Content.{resized}
use Rattle.forest_ops.proofs.MapLemmas.{set_value-changed_at, changed_at-none}
use Rattle.forest_ops.proofs.subvolume.resize_in.Goals as goal

pub returns-in-Some-clause-ok : goal.returns-in-Some-clause-ok
returns-in-Some-clause-ok c =
    let old = c.args.files.now.entries in
    on_ok_weaker c.resize.result (λ done.
    (c.get_mut.follows.holds c.resize.new.self).0 ∙ ap (set_value (is_at (nat_cmp c.args.number)) old) done
    ∙ set_value-changed_at nat_cmp c.args.number (resized c.args.size) old c.in-Some.content.now (sym c.in-Some.ensures.value)) c.resize.ensures.ok

pub returns-in-Some-clause-err : goal.returns-in-Some-clause-err
returns-in-Some-clause-err c =
    let old = c.args.files.now.entries in
    on_err_weaker c.resize.result (λ same.
    (c.get_mut.follows.holds c.resize.new.self).0 ∙ ap (set_value (is_at (nat_cmp c.args.number)) old) same
    ∙ set_value_same (is_at (nat_cmp c.args.number)) old c.in-Some.content.now (sym c.in-Some.ensures.value)) c.resize.ensures.err

pub returns-in-None-clause-ok : goal.returns-in-None-clause-ok
returns-in-None-clause-ok c =
    ap (λ m. m.entries) c.get_mut.follows.holds-at-none
    ∙ sym (changed_at-none nat_cmp c.args.number (resized c.args.size) c.args.files.now.entries (sym c.in-None.ensures.value))
