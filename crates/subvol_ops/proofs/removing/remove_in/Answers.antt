-- What is found under a good name goes.
use Rattle.std.proofs.Common.{sym, ap, ◌∙◌}
use Rattle.std.specs.Prelude.{Ok}
use Rattle.std.specs.Option.{ok_or}
use Rattle.forest_ops.specs.declared.operation.Cause.TheVariants.{NoSubvolume}
use Rattle.id_steps.specs.SlotLists.{without_sub}
use Rattle.id_steps.specs.Steps.{removal_updates}
use Rattle.key_meaning.specs.Forest.{subs_in}
use Rattle.plain_forest.specs.Names.{is_good_subvolume_name}
use Rattle.subvol_ops.proofs.Chains.{remove_goes_on}
use Rattle.subvol_ops.proofs.Looked.{leaf_is_found, refused_of, then_of}
use Rattle.subvol_ops.specs.Plans.{found_in, updates_to_remove}
use Rattle.subvol_ops.specs.Slots.{leaf_among, leaf_of}
use Rattle.vol_digest.specs.Digests.{slot_of}
use Rattle.vol_types.specs.declared.values.Snap.{Snap}
use Rattle.vol_types.specs.declared.values.Sub.{Sub}
use Rattle.subvol_ops.proofs.removing.remove_in.Goals as goal

pub returns-in_default-clause-is : goal.returns-in_default-clause-is
returns-in_default-clause-is g c = λ keys seen.
    let name = c.args.name.now in
    let good = sym (ap is_good_subvolume_name c.as_slice.ensures) ∙ sym c.is_subvolume_name_good.ensures ∙ c.if-not-is_subvolume_name_good.false in
    let subs_is = c.in_ok-subs.ensures.subs keys seen.gives in
    let led = sym c.in_default.is ∙ c.leaf_among.ensures ∙ (λ i. leaf_among (sym seen.ids i) (c.as_slice-3.ensures i) ((c.as_slice-2.ensures ∙ subs_is) i)) in
    refused_of (λ (found : Sub × Snap). leaf_of found.0 found.1) (found_in keys name) NoSubvolume (λ found. Ok (updates_to_remove name (subs_in keys (slot_of name)) found)) (ap (λ o. ok_or o NoSubvolume) led ∙ leaf_is_found _ name (subs_in keys (slot_of name)))
    ∙ remove_goes_on keys name good

pub returns-clause-is : goal.returns-clause-is
returns-clause-is g c = λ keys seen.
    let name = c.args.name.now in
    let good = sym (ap is_good_subvolume_name c.as_slice.ensures) ∙ sym c.is_subvolume_name_good.ensures ∙ c.if-not-is_subvolume_name_good.false in
    let subs_is = c.in_ok-subs.ensures.subs keys seen.gives in
    let led = sym c.in-Some.is ∙ c.leaf_among.ensures ∙ (λ i. leaf_among (sym seen.ids i) (c.as_slice-3.ensures i) ((c.as_slice-2.ensures ∙ subs_is) i)) in
    then_of (λ (found : Sub × Snap). leaf_of found.0 found.1) (found_in keys name) c.in-Some.leaf (λ found. Ok (updates_to_remove name (subs_in keys (slot_of name)) found)) (Ok c.in_ok-removal_updates.field-0) (ap (λ o. ok_or o NoSubvolume) led ∙ leaf_is_found _ name (subs_in keys (slot_of name)))
    (λ found there same. ap (λ us. Ok us) (c.in_ok-removal_updates.ensures found.0 (sym (λ i. (same i).id)) ∙ (λ i. removal_updates name found.0 (same i).snap (without_sub name (subs_is i)))))
    ∙ remove_goes_on keys name good
