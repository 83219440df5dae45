use Rattle.id_steps.proofs.Slots.{put_counted, put_found, puts_only, slot_in_range}
use Rattle.vol_digest.specs.Digests.{slot_of}
use Rattle.vol_types.specs.declared.positions.Btree.TheVariants.{Subvols}
use Rattle.id_steps.proofs.entries.entries_put_subvolumes.Goals as goal

pub returns : goal.returns
returns c = record {
  found = λ keys name sub subs is puts other. put_found keys is name sub subs puts other;
  counted = λ keys name sub subs is drawn puts test. put_counted keys is name sub subs puts (slot_in_range keys keys (slot_of name) (drawn.each Subvols)) test;
  only = puts_only;
}
