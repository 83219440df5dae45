-- A snapshot is made of what is found under a good name.
use Rattle.std.proofs.Common.{sym, ap, ◌∙◌}
use Rattle.std.specs.Option.{ok_or}
use Rattle.forest_ops.specs.declared.operation.Cause.TheVariants.{NoSubvolume}
use Rattle.key_meaning.specs.Forest.{subs_in}
use Rattle.path_plan.specs.LookLaws.{carried, gave_before}
use Rattle.plain_forest.specs.Names.{is_good_subvolume_name}
use Rattle.subvol_ops.proofs.Chains.{snapshot_goes_on}
use Rattle.subvol_ops.proofs.Looked.{leaf_is_found, refused_of, then_of}
use Rattle.subvol_ops.specs.Plans.{found_copied, found_in}
use Rattle.subvol_ops.specs.Slots.{leaf_among, leaf_of}
use Rattle.vol_digest.specs.Digests.{slot_of}
use Rattle.vol_types.specs.declared.values.Snap.{Snap}
use Rattle.vol_types.specs.declared.values.Sub.{Sub}
use Rattle.subvol_ops.proofs.snapshots.snapshot_in.Goals as goal

pub returns-in_default-clause-is : goal.returns-in_default-clause-is
returns-in_default-clause-is g c = λ keys seen.
    let source = c.args.source.now in
    let copy = c.args.copy.now in
    let source_good = sym (ap is_good_subvolume_name c.as_slice.ensures) ∙ sym c.is_subvolume_name_good.ensures ∙ c.if-not-is_subvolume_name_good.false in
    let copy_good = sym (ap is_good_subvolume_name c.as_slice-2.ensures) ∙ sym c.is_subvolume_name_good-2.ensures ∙ c.if-not-is_subvolume_name_good-2.false in
    let subs_is = c.in_ok-subs.ensures.subs keys seen.gives in
    let led = sym c.in_default.is ∙ c.leaf_among.ensures ∙ (λ i. leaf_among (sym seen.ids i) (c.as_slice-4.ensures i) ((c.as_slice-3.ensures ∙ subs_is) i)) in
    refused_of (λ (found : Sub × Snap). leaf_of found.0 found.1) (found_in keys source) NoSubvolume (found_copied keys source copy c.args.locked) (ap (λ o. ok_or o NoSubvolume) led ∙ leaf_is_found _ source (subs_in keys (slot_of source)))
    ∙ snapshot_goes_on keys source copy c.args.locked source_good copy_good

pub returns-clause-is : goal.returns-clause-is
returns-clause-is g c = carried c.copy_leaf.result _ _ (λ result is keys seen.
    let source = c.args.source.now in
    let copy = c.args.copy.now in
    let before = gave_before keys (g.V.View.made c.subs_at.new.view) (g.V.View.made c.copy_leaf.new.view) c.copy_leaf.ensures.looks seen.gives in
    let source_good = sym (ap is_good_subvolume_name c.as_slice.ensures) ∙ sym c.is_subvolume_name_good.ensures ∙ c.if-not-is_subvolume_name_good.false in
    let copy_good = sym (ap is_good_subvolume_name c.as_slice-2.ensures) ∙ sym c.is_subvolume_name_good-2.ensures ∙ c.if-not-is_subvolume_name_good-2.false in
    let subs_is = c.in_ok-subs.ensures.subs keys before in
    let led = sym c.in-Some.is ∙ c.leaf_among.ensures ∙ (λ i. leaf_among (sym seen.ids i) (c.as_slice-4.ensures i) ((c.as_slice-3.ensures ∙ subs_is) i)) in
    then_of (λ (found : Sub × Snap). leaf_of found.0 found.1) (found_in keys source) c.in-Some.leaf (found_copied keys source copy c.args.locked) result (ap (λ o. ok_or o NoSubvolume) led ∙ leaf_is_found _ source (subs_in keys (slot_of source)))
    (λ found there same. is keys found.0 found.1 seen subs_is same)
    ∙ snapshot_goes_on keys source copy c.args.locked source_good copy_good)
    c.copy_leaf.ensures.is
