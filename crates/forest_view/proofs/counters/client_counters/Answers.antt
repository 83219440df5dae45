use Rattle.std.proofs.Common.{rules}
use Rattle.std.specs.Prelude.{min}
use Rattle.std.proofs.lemmas.List.FromFn.{fill_by_all}
use Rattle.btree_map.specs.Trees.{keys_in}
use Rattle.forest_ops.specs.Steps.{numbers_per_client}
use Rattle.key_meaning.specs.Forest.{next_in}
use Rattle.forest_view.proofs.counters.client_counters.Goals as goal

pub returns : goal.returns
returns c = fill_by_all (λ client. min (next_in (keys_in c.args.keys.now) client) numbers_per_client) c.loop-client.next 16 0 c.loop-client.invariant.0 (search rules)
