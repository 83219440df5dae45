use Rattle.std.proofs.Common.{◌∙◌, ◌++◌, ap}
use Rattle.image_reader.proofs.trees.under.Goals as goal

pub returns-clause-btree : goal.returns-clause-btree
returns-clause-btree c = λ i. record {
  entries = c.args.rest.entries;
  levels = c.in_ok-push.ensures.ok i;
  ends = (c.in_ok-append.ensures.ok ∙ ap (λ ends. ends ++ c.args.rest.ends) c.in_ok-ends.ensures) i;
}
