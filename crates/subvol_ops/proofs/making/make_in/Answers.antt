-- A subvolume of a good name is made where its slot takes it.
use Rattle.std.proofs.Common.{sym, ap, ◌∙◌}
use Rattle.plain_forest.specs.Names.{is_good_subvolume_name}
use Rattle.path_plan.specs.LookLaws.{gave_before}
use Rattle.snap_tree.specs.Snaps.{live_leaves}
use Rattle.subvol_ops.proofs.Chains.{make_goes_on, make_refused}
use Rattle.subvol_ops.specs.Plans.{made_drawn, room_among}
use Rattle.subvol_ops.proofs.making.make_in.Goals as goal

pub returns-in-Err-clause-is : goal.returns-in-Err-clause-is
returns-in-Err-clause-is g c = λ keys seen.
    let name = c.args.name.now in
    let good = sym (ap is_good_subvolume_name c.as_slice.ensures) ∙ sym c.is_subvolume_name_good.ensures ∙ c.if-not-is_subvolume_name_good.false in
    let subs_is = c.in_ok-subs.ensures.subs keys seen.gives in
    let leaves = c.live_leaves.ensures ∙ ap live_leaves (sym seen.ids) in
    make_refused keys c.args.client name c.in-Err.cause good (sym (sym c.in-Err.is ∙ c.room_among.ensures ∙ (λ i. room_among (c.as_slice-2.ensures i) ((c.as_slice-3.ensures ∙ subs_is) i) (leaves i))))

pub returns-clause-is : goal.returns-clause-is
returns-clause-is g c = λ keys seen.
    let name = c.args.name.now in
    let before = gave_before keys (g.V.View.made c.subs_at.new.view) (g.V.View.made c.counters.new.view) c.in-Ok.ensures.looks seen.gives in
    let good = sym (ap is_good_subvolume_name c.as_slice.ensures) ∙ sym c.is_subvolume_name_good.ensures ∙ c.if-not-is_subvolume_name_good.false in
    let subs_is = c.in_ok-subs.ensures.subs keys before in
    let leaves = c.live_leaves.ensures ∙ ap live_leaves (sym seen.ids) in
    let both = c.in-Ok.ensures.both keys seen.gives in
    c.in_ok-make_drawn.ensures keys (sym (λ i. (both i).0)) (sym (λ i. (both i).1))
    ∙ ap (made_drawn keys c.args.client name) subs_is
    ∙ make_goes_on keys c.args.client name good (sym (sym c.in_default.is ∙ c.room_among.ensures ∙ (λ i. room_among (c.as_slice-2.ensures i) ((c.as_slice-3.ensures ∙ subs_is) i) (leaves i))))
