use Rattle.id_steps.proofs.Joined.{split_joined, split_others}
use Rattle.snap_tree.specs.SplitLaws.{chain-copy, chain-source}
use Rattle.id_steps.proofs.ids.splits_stay_joined.Goals as goal

pub returns : goal.returns
returns c = record {
  joined = λ snaps id next leaf joined found live left above. split_joined snaps id next leaf found left above live joined;
  source = λ snaps id next leaf rises found left above. chain-source snaps id next leaf rises found left above;
  copy = λ snaps id next leaf rises found left above. chain-copy snaps id next leaf rises found left above;
  others = λ snaps id next other leaf rises found left above apart also. split_others snaps id next leaf found left above rises other apart also;
}
