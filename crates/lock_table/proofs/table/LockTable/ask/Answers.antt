use Rattle.std.proofs.Common.{◌≡◌, ◌<◌, length, sym, subst, ◌∙◌, rules}
use Rattle.std.proofs.lemmas.Option.{slice_get_read}
use Rattle.lock_table.specs.Tables.{Table, actors}
use Rattle.lock_table.specs.Calls.{Asks, mode_of}
use Rattle.lock_table.specs.Holdings.{IsKept}
use Rattle.lock_table.proofs.Answered.{asked_at, rules_length}
use Rattle.lock_table.proofs.Sound.{sound_asked}
use Rattle.lock_table.proofs.table.LockTable.ask.Goals as goal

abbrev before : goal.After-rule → Table
before c = record { nodes = c.self.inside.nodes.entries; waits = c.self.inside.waits.items; sequence = c.self.inside.sequence }

abbrev after : goal.After-rule → Table
after c = record { nodes = c.ask_kept.new.nodes.entries; waits = c.rule.new.waits.items; sequence = c.self.inside.sequence }

-- what was asked and answered
asks : (c : goal.After-rule) → Asks (before c) c.args.actor c.args.node.now (mode_of c.args.mode) c.rule.result (after c)
asks c =
    let inside = c.self.inside in
    let lt : c.args.actor < length inside.waits.items = subst (λ (t : Table). c.args.actor < actors t) (sym c.self.view_is) c.requires in
    let at = slice_get_read inside.holdings.items (length inside.waits.items) c.args.actor c.index.result.now (sym c.self.invariant.kept.counted) lt c.index.ensures in
    asked_at (before c) c.ask_kept.new.nodes.entries c.rule.new.waits.items c.args.actor c.args.node.now c.called-name.result (mode_of c.args.mode) c.index.result.now c.is_below-is_above.result
    c.in_ok-answer.answer c.rule.result c.called-name.ensures c.self.invariant.sound.born (c.self.invariant.kept.each c.args.actor c.index.result.now at) c.is_below-is_above.ensures c.in_ok-answer.ensures.ok c.rule.ensures

pub returns-clause-ok : goal.returns-clause-ok
returns-clause-ok c = subst (λ (t : Table). Asks t c.args.actor c.args.node.now (mode_of c.args.mode) c.rule.result (after c)) c.self.view_is (asks c)

pub invariant_of-self-2 : goal.invariant_of-self-2
invariant_of-self-2 c =
    let counted : c.len-count.result ≡ length c.self.inside.waits.items = search rules in
    let same = rules_length c.is_below-is_above.result c.args.actor c.called-name.result c.in_ok-answer.answer c.rule.result c.self.inside.waits.items c.rule.new.waits.items c.rule.ensures in
    record {
      kept = subst (IsKept c.ask_kept.new.nodes.entries c.ask_kept.new.holdings.items) (counted ∙ sym same) c.in_ok-answer.ensures.kept;
      sound = sound_asked (before c) (after c) c.args.actor c.args.node.now c.args.mode c.rule.result c.self.invariant.sound (asks c);
    }
