use Rattle.std.proofs.Common.{◌≡◌, ◌+◌, sym, ap, ◌∙◌, subst, take, arith, ℕ, ◌<◌, length, get_or, BTreeMap}
use Rattle.std.proofs.lemmas.Grind.{common_steps}
use Rattle.snap_tree.specs.Snaps.{Snaps}
use Rattle.snap_tree.specs.Updates.{IsFitting, snaps_after, with_update}
use Rattle.snap_tree.specs.Changes.{Leads}
use Rattle.snap_tree.specs.declared.change.Change.{Change}
use Rattle.snap_tree.proofs.Listing.{leads_update, leads_past}
use Rattle.snap_tree.proofs.Alike.{rises_after}
use Rattle.snap_tree.proofs.change.changes_of.Goals as goal
use Rattle.snap_tree.proofs.change.changes_of.Goals.{in-Some+in_ok-insert, in_default}

pub loop-update-preserved : goal.loop-update-preserved
loop-update-preserved c =
    let snaps = c.args.snaps.now.entries in
    let items = c.as_slice-update-items.result.now in
    let before = take c.loop-update.update-index items in
    let mid = snaps_after snaps before in
    let fitting : IsFitting c.update-item.result =
    subst IsFitting (sym (c.update-item.is ∙ ap (λ us. get_or us c.loop-update.update-index c.update-item.result) c.as_slice-update-items.ensures)) (c.requires.fitting c.loop-update.update-index c.update-item.result (subst (λ us. c.loop-update.update-index < length us) c.as_slice-update-items.ensures c.loop-update-test.true)) in
    let step : with_update mid c.update-item.result ≡ snaps_after snaps (take (c.loop-update.update-index + 1) items) = grind (arith, common_steps) in
    subst (λ (s : Snaps). Leads snaps s c.match-changed_id.changes.entries) step
    (elim c.match-changed_id.branch [
      | in-Some+in_ok-insert w ↦
          subst (λ (m : BTreeMap ℕ Change). Leads snaps (with_update mid c.update-item.result) m.entries) (sym w.changes-is)
          (leads_update snaps mid c.loop-update.changes.entries w.insert.new.self.entries c.update-item.result w.in-Some.id (record { old = w.copied-old.result; new = w.snap_in-new.result }) (rises_after snaps before c.requires.rises) c.loop-update.invariant (sym c.changed_id.ensures ∙ w.in-Some.is) fitting (cc (w.copied-old.ensures, w.get.ensures.value)) w.snap_in-new.ensures (λ q. w.in_ok-insert.ensures.updates.0 q))
      | in_default w ↦
          subst (λ (m : BTreeMap ℕ Change). Leads snaps (with_update mid c.update-item.result) m.entries) (sym w.changes-is)
          (leads_past snaps mid c.loop-update.changes.entries c.update-item.result c.loop-update.invariant (sym c.changed_id.ensures ∙ w.in_default.is))
    ])
