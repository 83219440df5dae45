use Rattle.std.proofs.Common.{◌≡◌, sym, ap, ◌∙◌, rules, subst}
use Rattle.std.specs.Prelude.{IfOk}
use Rattle.std.specs.Ordering.{is_le}
use Rattle.node_mem.specs.RangeLaws.{crossed-range, within-range}
use Rattle.vol_types.specs.KeyMaps.{keys_in}
use Rattle.vol_types.specs.Positions.{pos_cmp}
use Rattle.key_view.proofs.Ranges.{none_pass}
use Rattle.key_view.proofs.plain_keys.keys_within.Goals as goal

pub returns-then-gt : goal.returns-then-gt
returns-then-gt c =
    let values = c.args.values.now.entries in
    c.new.ensures ∙ ap keys_in (sym (none_pass (λ e. is_le (pos_cmp c.args.first e.0)) values) ∙ crossed-range c.args.first c.args.last values (search rules))

pub returns : goal.returns
returns c =
    subst (λ es. IfOk c.copy_keys.result (λ keys. keys ≡ keys_in es)) (c.range.ensures.between tt ∙ within-range c.args.first c.args.last c.args.values.now.entries) c.copy_keys.ensures
