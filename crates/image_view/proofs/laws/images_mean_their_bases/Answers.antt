use Rattle.image_view.specs.BaseLaws.{found-again, found-newest, found-same, found-trees, mounts-same}
use Rattle.image_view.proofs.laws.images_mean_their_bases.Goals as goal

pub returns-clause-newest : goal.returns-clause-newest
returns-clause-newest c = found-newest

pub returns-clause-found : goal.returns-clause-found
returns-clause-found c = found-same

pub returns-clause-mounts : goal.returns-clause-mounts
returns-clause-mounts c = mounts-same

pub returns-clause-again : goal.returns-clause-again
returns-clause-again c = found-again

pub returns-clause-trees : goal.returns-clause-trees
returns-clause-trees c = found-trees
