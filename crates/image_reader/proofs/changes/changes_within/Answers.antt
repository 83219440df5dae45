use Rattle.std.proofs.Common.{◌∙◌, rules}
use Rattle.image_reader.proofs.Ranges.{between-within, crossed-within}
use Rattle.image_reader.proofs.changes.changes_within.Goals as goal

pub returns-then-gt : goal.returns-then-gt
returns-then-gt c = c.range.ensures.between tt ∙ crossed-within c.args.least.now c.args.greatest.now c.args.changes.now.entries (search rules)

pub returns : goal.returns
returns c = c.range-2.ensures.between tt ∙ between-within c.args.least.now c.args.greatest.now c.args.changes.now.entries
