use Rattle.std.proofs.Common.{[]}
use Rattle.image_view.specs.Found.{sets_in}
use Rattle.btree_laws.specs.Standing.{reads_of}
use Rattle.btree_laws.proofs.NineBtrees.{btrees_read, keys_fit, keys_rise, own_value}
use Rattle.btree_laws.proofs.OneLeaf.{leaf_stands, leaves_read, leaves_stand}
use Rattle.btree_laws.proofs.Reading.{btree_read}
use Rattle.btree_laws.proofs.standing.standing_btrees_are_read.Goals as goal

pub returns : goal.returns
returns c = record {
  btree = btree_read;
  read = btrees_read;
  updated = λ layout image roots trees content updates stand leaves.
      c.updates_of_leaves_join_the_keys.ensures.trees layout image [] updates roots (reads_of content trees) (btrees_read (sets_in layout image) roots trees content stand) stand.roots_are leaves;
  maps = keys_rise;
  widths = keys_fit;
  values = λ sets btree root levels content stands pos leaf fits found. own_value sets btree root levels content stands pos leaf found;
  leaf = λ sets btree root content is comes keys. leaf_stands root sets btree content is comes keys;
  leaves = λ sets roots content are nodes keys. (leaves_stand sets roots content are nodes keys, leaves_read sets roots content are);
}
