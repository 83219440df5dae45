use Rattle.std.proofs.Common.{◌∙◌}
use Rattle.forest_view.proofs.Spans.{all_within}
use Rattle.forest_view.proofs.nearest.all_keys.Goals as goal

pub returns : goal.returns
returns c = c.span.ensures ∙ all_within c.args.map.now c.args.btree c.height.ensures.sound
