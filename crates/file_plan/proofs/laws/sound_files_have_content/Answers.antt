use Rattle.std.proofs.Common.{ap, get_or}
use Rattle.std.specs.Prelude.{is_some}
use Rattle.vol_types.specs.declared.positions.Btree.TheVariants.{Extents}
use Rattle.file_plan.proofs.Sound.{have_places, in_range}
use Rattle.file_plan.proofs.laws.sound_files_have_content.Goals as goal

pub returns : goal.returns
returns c = λ keys nodes layout id number inode sound is_layout tidy fit leaf at. record {
  there = ap is_some leaf.found;
  in_range = record {
    each = in_range keys keys.extents (tidy.drawn.each Extents) fit;
    places = λ k d lt. have_places nodes layout (get_or keys.extents k d) is_layout (tidy.drawn.each Extents k d lt).in_range (sound.blocks.placed k d lt);
  };
  once = sound.extents.apart number id;
  ends = λ block past. tidy.ends.each id number block inode leaf at past;
}
