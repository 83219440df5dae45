use Rattle.std.proofs.Common.{[], ◌∙◌, ap, refl}
use Rattle.key_triggers.proofs.Looking.{gave_before, goes_further, goes_nowhere}
use Rattle.key_triggers.proofs.Looping.{before_next}
use Rattle.key_triggers.specs.Changes.{values_before}
use Rattle.key_triggers.proofs.changes.values_before.Goals as goal

pub loop-update-init : goal.loop-update-init
loop-update-init g c = record { values = λ keys gives. ap (values_before keys c.args.updates.now) c.new-values.ensures.empty; looks = goes_nowhere (g.V.View.made c.args.view.now); ids = refl }

pub loop-update-preserved : goal.loop-update-preserved
loop-update-preserved g c =
    let made = g.V.View.made in
    record {
      values = λ keys gives.
          before_next keys c.args.updates.now c.loop-update.update-index c.update-item.result c.loop-update.values.entries c.note_before.new.values.entries (values_before keys c.args.updates.now [])
          c.loop-update-test.true c.update-item.is (c.in_ok-note_before.ensures.noted keys gives)
          (c.loop-update.invariant.values keys (gave_before keys (made c.loop-update.view) (made c.note_before.new.view) c.note_before.ensures.looks gives));
      looks = goes_further (made c.args.view.now) (made c.loop-update.view) (made c.note_before.new.view) c.loop-update.invariant.looks c.note_before.ensures.looks;
      ids = c.note_before.ensures.ids ∙ c.loop-update.invariant.ids;
    }

pub returns-in_err-note_before-clause-looks : goal.returns-in_err-note_before-clause-looks
returns-in_err-note_before-clause-looks g c =
    let made = g.V.View.made in
    goes_further (made c.args.view.now) (made c.loop-update.view) (made c.note_before.new.view) c.loop-update.invariant.looks c.note_before.ensures.looks
