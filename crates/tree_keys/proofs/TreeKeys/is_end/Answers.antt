use Rattle.std.proofs.Common.{sym, ap, ◌∙◌}
use Rattle.tree_keys.specs.Cuts.{Cut, is_end}
use Rattle.tree_keys.specs.LeafLaws.{is_end-keys}
use Rattle.tree_keys.proofs.TreeKeys.is_end.Goals as goal

pub returns : goal.returns
returns c = c.contains_key.ensures ∙ sym (is_end-keys c.args.pos.now c.self.inside.leaves.entries) ∙ ap (λ (k : Cut). is_end c.args.pos.now k.ends) c.self.view_is
