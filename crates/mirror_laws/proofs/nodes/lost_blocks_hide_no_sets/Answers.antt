use Rattle.mirror_laws.proofs.DegradedNodes.{nodes_agree_still, trees_still}
use Rattle.mirror_laws.proofs.KeptSets.{agree_still, held_still}
use Rattle.mirror_laws.proofs.LostBlocks.{lost_shows}
use Rattle.mirror_laws.proofs.nodes.lost_blocks_hide_no_sets.Goals as goal

pub returns : goal.returns
returns c = record {
  sets = λ id birth one other mine found is agree lost there lacks.
      held_still id birth one other agree (lost_shows one other lost) found is (λ n x low of shows. (mine, there, lacks n x low of shows));
  copies = λ id birth one other agree lost. agree_still id birth one other agree (lost_shows one other lost);
  trees = λ f mirror one other low degraded read agree stand. trees_still f mirror low one other degraded stand read agree;
  agree = λ f mirror one other low degraded agree. nodes_agree_still f mirror low one other degraded agree;
}
