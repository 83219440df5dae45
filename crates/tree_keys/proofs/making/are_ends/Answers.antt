use Rattle.std.proofs.Common.{sym, ◌∙◌}
use Rattle.std.proofs.lemmas.Bool.{false≢true}
use Rattle.tree_keys.proofs.Made.{ends_from, rise_from}
use Rattle.tree_keys.proofs.making.are_ends.Goals as goal

pub returns-then-not-do_rise : goal.returns-then-not-do_rise
returns-then-not-do_rise c = (λ yes. absurd (false≢true yes), λ are. absurd (false≢true (sym c.if-not-do_rise.true ∙ c.do_rise.ensures.1 (rise_from c.args.ends.now are))))

pub returns : goal.returns
returns c = (
  λ yes. ends_from c.args.ends.now c.see_widths.ensures (c.do_rise.ensures.0 c.if-not-do_rise.false) (sym c.has_greatest.ensures ∙ yes),
  λ are. c.has_greatest.ensures ∙ are.whole,
)
