-- A commit for which no numbers are left is refused, and else it may draw them.
use Rattle.std.proofs.Common.{◌≡◌, ◌∙◌, ◌≤◌, ℕ, ap, false, subst, sym, true}
use Rattle.core_volume.specs.Volumes.{Volume}
use Rattle.journal_writer.specs.Queues.{IsSizeOf, blocks_with}
use Rattle.core_volume.proofs.ruling.rule_numbers.Goals as goal

pub size_of-size-requires-clause-updates : goal.size_of-size-requires-clause-updates
size_of-size-requires-clause-updates c = c.requires.intended.each

pub size_of-size-requires-clause-few : goal.size_of-size-requires-clause-few
size_of-size-requires-clause-few c =
    let mirrors : c.volume.inside.queue.queue.mirrors ≡ c.args.volume.now.layout.metadata_replicas = c.volume.invariant.mirrors ∙ ap (λ (v : Volume). v.layout.metadata_replicas) c.volume.view_is in
    subst (λ (n : ℕ). blocks_with n c.args.updates.now ≤ 64) (sym mirrors) c.requires.intended.few

pub returns-then-not-has_numbers : goal.returns-then-not-has_numbers
returns-then-not-has_numbers c =
    let size = subst (λ (v : Volume). IsSizeOf v.queue c.args.updates.now c.size_of-size.result) c.volume.view_is c.size_of-size.ensures in
    (c.requires.stays, λ has. let both : false ≡ true = sym c.if-not-has_numbers.true ∙ (c.has_numbers.ensures c.args.updates.now size).1 has in cc)

pub rule_room-requires-clause-intended : goal.rule_room-requires-clause-intended
rule_room-requires-clause-intended c = c.requires.intended

pub rule_room-requires-clause-size : goal.rule_room-requires-clause-size
rule_room-requires-clause-size c = subst (λ (v : Volume). IsSizeOf v.queue c.args.updates.now c.size_of-size.result) c.volume.view_is c.size_of-size.ensures

pub rule_room-requires-clause-draws : goal.rule_room-requires-clause-draws
rule_room-requires-clause-draws c =
    let size = subst (λ (v : Volume). IsSizeOf v.queue c.args.updates.now c.size_of-size.result) c.volume.view_is c.size_of-size.ensures in
    record { stays = c.requires.stays; numbers = (c.has_numbers.ensures c.args.updates.now size).0 c.if-not-has_numbers.false }

pub returns : goal.returns
returns c = c.rule_room.ensures
