use Rattle.std.proofs.Common.{◌++◌, ◌∷◌, [], ◌∙◌, List, refl, ap, map}
use Rattle.key_triggers.proofs.Looking.{gave_before, goes_further, goes_nowhere}
use Rattle.key_triggers.proofs.Looping.{mapped_next}
use Rattle.key_triggers.specs.Stamps.{stamped, stamped_value}
use Rattle.vol_types.specs.declared.keys.Update.{Update}
use Rattle.vol_types.specs.declared.values.Value.{Value}
use Rattle.std.specs.Prelude.{Option, option_map}
use Rattle.key_triggers.proofs.stamps.stamp_all.Goals as goal

pub loop-update-init : goal.loop-update-init
loop-update-init g c = record { stamps = λ keys gives. ap (λ (us : List Update). us ++ map (stamped keys) c.args.updates.now) c.new-stamps.ensures; looks = goes_nowhere (g.V.View.made c.args.view.now); ids = refl }

pub loop-update-preserved : goal.loop-update-preserved
loop-update-preserved g c =
    let made = g.V.View.made in
    let update = c.update-item.result in
    record {
      stamps = λ keys gives.
          mapped_next (stamped keys) c.args.updates.now c.loop-update.update-index update c.loop-update.stamps c.push.new.self (map (stamped keys) c.args.updates.now)
          c.loop-update-test.true c.update-item.is
          (c.in_ok-push.ensures.ok ∙ ap (λ (v : Option Value). c.loop-update.stamps ++ record { btree = update.btree; level = update.level; pos = update.pos; value = v } ∷ []) (c.in_ok-value.ensures.value keys gives ∙ ap (option_map (stamped_value keys)) c.as_ref.ensures.value))
          (c.loop-update.invariant.stamps keys (gave_before keys (made c.loop-update.view) (made c.stamp_value.new.view) c.stamp_value.ensures.looks gives));
      looks = goes_further (made c.args.view.now) (made c.loop-update.view) (made c.stamp_value.new.view) c.loop-update.invariant.looks c.stamp_value.ensures.looks;
      ids = c.stamp_value.ensures.ids ∙ c.loop-update.invariant.ids;
    }

pub returns-in_err-value-clause-looks : goal.returns-in_err-value-clause-looks
returns-in_err-value-clause-looks g c =
    let made = g.V.View.made in
    goes_further (made c.args.view.now) (made c.loop-update.view) (made c.stamp_value.new.view) c.loop-update.invariant.looks c.stamp_value.ensures.looks

pub returns-in_err-push-clause-looks : goal.returns-in_err-push-clause-looks
returns-in_err-push-clause-looks g c =
    let made = g.V.View.made in
    goes_further (made c.args.view.now) (made c.loop-update.view) (made c.stamp_value.new.view) c.loop-update.invariant.looks c.stamp_value.ensures.looks
