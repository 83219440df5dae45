use Rattle.image_reader.proofs.trees.«+read_down».Given as goal

abbrev pub decreases-read_down : goal.decreases-read_down
decreases-read_down g l = l.level
