use Rattle.std.proofs.Common.{not, sym, ap, ◌∙◌, subst}
use Rattle.std.specs.Prelude.{◌==◌, ◌&&◌}
use Rattle.std.specs.Ordering.{nat_cmp}
use Rattle.vol_types.specs.Maps.{IsMap, value_at, put_at}
use Rattle.snap_tree.specs.Names.{has_pair, names}
use Rattle.snap_tree.specs.Changes.{picked, linked_if}
use Rattle.snap_tree.proofs.Settling.{unless_err, put_other, rises-put, settled_one, links_stay, links_go, not_at}
use Rattle.snap_tree.proofs.settle.settle_one.Goals as goal

pub returns-then-is_none-clause-rises : goal.returns-then-is_none-clause-rises
returns-then-is_none-clause-rises c =
    let put = unless_err c.set_record.result _ (sym c.if-is_err.ensures.value) c.set_record.ensures.ok in
    subst (IsMap nat_cmp) (sym put) (rises-put c.args.snaps.now.entries c.args.id c.picked-stays.result c.requires.rises)

pub returns-then-is_none-clause-settled : goal.returns-then-is_none-clause-settled
returns-then-is_none-clause-settled c =
    let old = c.args.snaps.now.entries in
    let change = c.in-Some.change.now in
    let put = unless_err c.set_record.result _ (sym c.if-is_err.ensures.value) c.set_record.ensures.ok in
    settled_one c.args.forth old c.set_record.new.snaps.entries c.args.pairs.now.keys c.drop_names.new.pairs.keys c.args.links.now.entries c.remove.new.self.entries c.args.id (value_at nat_cmp c.args.id c.args.changes.now.entries) change c.requires.rises (sym c.in-Some.ensures.value)
    (put ∙ ap (λ o. put_at nat_cmp c.args.id o old) c.picked-stays.ensures)
    (λ named namer. c.drop_names.ensures named namer ∙ ap (λ o. has_pair c.args.pairs.now.keys named namer && not (namer == c.args.id && names named o && not (names named c.picked-stays.result))) c.picked-gone.ensures
    ∙ ap (λ o. has_pair c.args.pairs.now.keys named namer && not (namer == c.args.id && names named (picked (not c.args.forth) change) && not (names named o))) c.picked-stays.ensures)
    (c.remove.ensures.updates.1 ∙ links_go c.picked-stays.result (value_at nat_cmp c.args.id c.args.links.now.entries) c.if-is_none.ensures ∙ ap (λ o. linked_if o (value_at nat_cmp c.args.id c.args.links.now.entries)) c.picked-stays.ensures)

pub returns-then-is_none-clause-others : goal.returns-then-is_none-clause-others
returns-then-is_none-clause-others c other differs =
    let put = unless_err c.set_record.result _ (sym c.if-is_err.ensures.value) c.set_record.ensures.ok in
    ap (value_at nat_cmp other) put ∙ put_other c.args.snaps.now.entries c.args.id other c.picked-stays.result c.requires.rises differs

pub returns-then-is_none-clause-links : goal.returns-then-is_none-clause-links
returns-then-is_none-clause-links c other differs = c.remove.ensures.updates.2 other (not_at c.args.id other differs)

pub returns-else-is_none-clause-rises : goal.returns-else-is_none-clause-rises
returns-else-is_none-clause-rises c =
    let put = unless_err c.set_record.result _ (sym c.if-is_err.ensures.value) c.set_record.ensures.ok in
    subst (IsMap nat_cmp) (sym put) (rises-put c.args.snaps.now.entries c.args.id c.picked-stays.result c.requires.rises)

pub returns-else-is_none-clause-settled : goal.returns-else-is_none-clause-settled
returns-else-is_none-clause-settled c =
    let old = c.args.snaps.now.entries in
    let change = c.in-Some.change.now in
    let put = unless_err c.set_record.result _ (sym c.if-is_err.ensures.value) c.set_record.ensures.ok in
    settled_one c.args.forth old c.set_record.new.snaps.entries c.args.pairs.now.keys c.drop_names.new.pairs.keys c.args.links.now.entries c.args.links.now.entries c.args.id (value_at nat_cmp c.args.id c.args.changes.now.entries) change c.requires.rises (sym c.in-Some.ensures.value)
    (put ∙ ap (λ o. put_at nat_cmp c.args.id o old) c.picked-stays.ensures)
    (λ named namer. c.drop_names.ensures named namer ∙ ap (λ o. has_pair c.args.pairs.now.keys named namer && not (namer == c.args.id && names named o && not (names named c.picked-stays.result))) c.picked-gone.ensures
    ∙ ap (λ o. has_pair c.args.pairs.now.keys named namer && not (namer == c.args.id && names named (picked (not c.args.forth) change) && not (names named o))) c.picked-stays.ensures)
    (links_stay c.picked-stays.result (value_at nat_cmp c.args.id c.args.links.now.entries) c.if-is_none.ensures ∙ ap (λ o. linked_if o (value_at nat_cmp c.args.id c.args.links.now.entries)) c.picked-stays.ensures)

pub returns-else-is_none-clause-others : goal.returns-else-is_none-clause-others
returns-else-is_none-clause-others c other differs =
    let put = unless_err c.set_record.result _ (sym c.if-is_err.ensures.value) c.set_record.ensures.ok in
    ap (value_at nat_cmp other) put ∙ put_other c.args.snaps.now.entries c.args.id other c.picked-stays.result c.requires.rises differs
