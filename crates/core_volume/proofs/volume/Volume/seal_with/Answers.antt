use Rattle.std.proofs.Common.{◌≡◌, ◌∙◌, ℕ, ◌+◌, List, None, ap, sym, subst}
use Rattle.journal_writer.specs.Queues.{Queue, oldest, without_oldest}
use Rattle.journal_writer.specs.declared.changes.Pending.{Pending}
use Rattle.journal_writer.specs.Writers.{IsSealed, Writer, with_entry}
use Rattle.journal_writer.specs.declared.stage.Stage.TheVariants.{Seal}
use Rattle.pin_list.specs.Pins.{smaller}
use Rattle.vol_types.specs.declared.pointers.NodePtr.{NodePtr}
use Rattle.core_volume.specs.Sealing.{HasEntryNumbers, IsFlown, IsStage, oldest_needed, roots_in}
use Rattle.core_volume.specs.Volumes.{IsVolume, Volume, needs_entry}
use Rattle.core_volume.proofs.Written.{flown-kept, sealing_is_free}
use Rattle.core_volume.proofs.volume.Volume.seal_with.Goals as goal

pub invariant_of-self : goal.invariant_of-self
invariant_of-self c =
    let inside = c.self.inside in
    let laws = c.entries_leave_in_turn.ensures in
    let queue = inside.queue.queue in
    let old : Volume = record { layout = inside.layout; session = inside.session; trees = inside.keys; queue = queue; pins = inside.dirty.pins.numbers; marks = inside.dirty.marks.numbers; later = inside.dirty.later.numbers; space = inside.pool; writer = inside.writer; work = inside.nodes; emptied = inside.emptied; halted = inside.halted; changes = inside.changes } in
    let none : inside.writer.flight ≡ None = ap (λ (v : Volume). v.writer.flight) c.self.view_is ∙ sealing_is_free c.args.self.now.writer.flight (needs_entry c.args.self.now) c.args.self.now.writer c.requires.stage.stage_is in
    let writer : Writer = c.seal.new.self in
    let needed : c.oldest_needed-oldest.result ≡ oldest_needed old =
    c.oldest_needed-oldest.ensures.exact ∙ ap (λ (entry : Pending). smaller (entry.after + 1) c.oldest.result) c.take_oldest-entry.ensures.taken ∙ ap (smaller ((oldest queue).after + 1)) c.oldest.ensures in
    subst (λ (q : Queue). IsVolume (record old { queue = q; writer = c.seal.new.self })) (sym c.take_oldest-entry.ensures.left)
    (subst (λ (w : Writer). IsVolume (record old { queue = without_oldest queue; writer = w }))
    (sym (c.in-Ok.ensures.ok.is ∙ ap (λ (entry : Pending). with_entry writer.ring.blocks entry c.oldest_needed-oldest.result inside.writer) c.take_oldest-entry.ensures.taken
    ∙ ap (λ (n : ℕ). with_entry writer.ring.blocks (oldest queue) n inside.writer) needed))
    (flown-kept old c.self.invariant none (laws.mirrors queue) (laws.sequence queue c.commits.ensures.sound) (λ durable keys lead. c.waiting_changes_lead_from_durable_keys.ensures.taken queue durable keys lead) writer.ring.blocks))

pub invariant_of-self-in-Err : goal.invariant_of-self-in-Err
invariant_of-self-in-Err c =
    let inside = c.self.inside in
    let queue = inside.queue.queue in
    let old : Volume = record { layout = inside.layout; session = inside.session; trees = inside.keys; queue = queue; pins = inside.dirty.pins.numbers; marks = inside.dirty.marks.numbers; later = inside.dirty.later.numbers; space = inside.pool; writer = inside.writer; work = inside.nodes; emptied = inside.emptied; halted = inside.halted; changes = inside.changes } in
    let back = c.put_back.ensures queue c.commits.ensures.sound (c.in-Err.ensures.kept ∙ c.take_oldest-entry.ensures.taken) c.take_oldest-entry.ensures.left in
    subst (λ (q : Queue). IsVolume (record old { queue = q; writer = c.seal.new.self })) (sym back)
    (subst (λ (w : Writer). IsVolume (record old { writer = w })) (sym c.in-Err.ensures.err) c.self.invariant)

pub returns-in-Err-clause-err : goal.returns-in-Err-clause-err
returns-in-Err-clause-err c =
    let inside = c.self.inside in
    let queue = inside.queue.queue in
    let back = c.put_back.ensures queue c.commits.ensures.sound (c.in-Err.ensures.kept ∙ c.take_oldest-entry.ensures.taken) c.take_oldest-entry.ensures.left in
    let same : record { layout = inside.layout; session = inside.session; trees = inside.keys; queue = c.put_back.new.self.queue; pins = inside.dirty.pins.numbers; marks = inside.dirty.marks.numbers; later = inside.dirty.later.numbers; space = inside.pool; writer = c.seal.new.self; work = inside.nodes; emptied = inside.emptied; halted = inside.halted; changes = inside.changes }
    ≡ record { layout = inside.layout; session = inside.session; trees = inside.keys; queue = queue; pins = inside.dirty.pins.numbers; marks = inside.dirty.marks.numbers; later = inside.dirty.later.numbers; space = inside.pool; writer = inside.writer; work = inside.nodes; emptied = inside.emptied; halted = inside.halted; changes = inside.changes } =
    λ i. record { layout = inside.layout; session = inside.session; trees = inside.keys; queue = back i; pins = inside.dirty.pins.numbers; marks = inside.dirty.marks.numbers; later = inside.dirty.later.numbers; space = inside.pool; writer = c.in-Err.ensures.err i; work = inside.nodes; emptied = inside.emptied; halted = inside.halted; changes = inside.changes } in
    same ∙ c.self.view_is

pub returns-in-Ok-clause-sound : goal.returns-in-Ok-clause-sound
returns-in-Ok-clause-sound c = invariant_of-self c

pub returns-in-Ok-clause-flown : goal.returns-in-Ok-clause-flown
returns-in-Ok-clause-flown c =
    let inside = c.self.inside in
    let queue = inside.queue.queue in
    let old : Volume = record { layout = inside.layout; session = inside.session; trees = inside.keys; queue = queue; pins = inside.dirty.pins.numbers; marks = inside.dirty.marks.numbers; later = inside.dirty.later.numbers; space = inside.pool; writer = inside.writer; work = inside.nodes; emptied = inside.emptied; halted = inside.halted; changes = inside.changes } in
    let needed : c.oldest_needed-oldest.result ≡ oldest_needed old =
    c.oldest_needed-oldest.ensures.exact ∙ ap (λ (entry : Pending). smaller (entry.after + 1) c.oldest.result) c.take_oldest-entry.ensures.taken ∙ ap (smaller ((oldest queue).after + 1)) c.oldest.ensures in
    let roots : c.args.roots ≡ roots_in inside.keys.nodes = c.requires.roots ∙ ap (λ (v : Volume). roots_in v.trees.nodes) (sym c.self.view_is) in
    subst (λ (v : Volume). IsFlown v (record old { queue = c.take_oldest-entry.new.self.queue; writer = c.seal.new.self })) c.self.view_is
    (record {
      stage = subst (IsStage Seal) (sym c.self.view_is) c.requires.stage;
      numbers = subst HasEntryNumbers (sym c.self.view_is) c.requires.numbers;
      sealed = subst (λ (rs : List NodePtr). IsSealed (oldest queue) (oldest_needed old) inside.session rs inside.writer c.seal.new.self) roots
          (subst (λ (n : ℕ). IsSealed (oldest queue) n inside.session c.args.roots inside.writer c.seal.new.self) needed
          (subst (λ (entry : Pending). IsSealed entry c.oldest_needed-oldest.result inside.session c.args.roots inside.writer c.seal.new.self) c.take_oldest-entry.ensures.taken c.in-Ok.ensures.ok));
      rest = λ i. record old { queue = c.take_oldest-entry.ensures.left i; writer = c.seal.new.self };
    })
