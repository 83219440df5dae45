use Rattle.extent_ops.proofs.Showing.{hidden_shows, others_stay, taken_shows}
use Rattle.extent_ops.proofs.laws.taken_blocks_show.Goals as goal

pub returns : goal.returns
returns c = record {
  taken = λ old new file id cut given takes tree there block is. taken_shows old new file id cut given takes tree there block is;
  hidden = λ old new file id cut takes tree there block is. hidden_shows old new file id cut takes tree there block is;
  stays = λ old new file id cut given takes tree there block is. others_stay old new file id cut given takes tree there block is;
}
