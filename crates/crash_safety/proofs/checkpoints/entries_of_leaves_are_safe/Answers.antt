use Rattle.std.proofs.Common.{sym, ap, subst, ◌∙◌}
use Rattle.std.specs.Prelude.{All}
use Rattle.dev_model.specs.Devices.{now}
use Rattle.dev_model.specs.Disk.{as_read}
use Rattle.image_view.specs.Found.{IsAlike}
use Rattle.image_view.specs.Trees.{nodes_of}
use Rattle.crash_safety.proofs.CalledLeaves.{flush_kept, part_kept, read_kept}
use Rattle.crash_safety.proofs.FoundLeaves.{found_kept}
use Rattle.crash_safety.proofs.NamedLeaves.{sealed_kept}
use Rattle.crash_safety.proofs.NineRoots.{root_nodes}
use Rattle.crash_safety.proofs.PinnedMore.{pinned_more}
use Rattle.crash_safety.proofs.SameLeaves.{same_kept}
use Rattle.crash_safety.proofs.SettledLeaves.{settled_kept}
use Rattle.crash_safety.proofs.checkpoints.entries_of_leaves_are_safe.Goals as goal

pub returns : goal.returns
returns c = record {
  alike = λ f state mended alike leaves below.
      subst (All (IsAlike f (as_read (now state)))) (sym (ap nodes_of (c.found_roots_are_leaves.ensures f state mended alike leaves below).nodes ∙ root_nodes f.last.entry.roots)) alike;
  begins = λ f state l mended alike leaves below roots none layout fixed hold may pins.
      found_kept f state l (c.found_roots_are_leaves.ensures f state mended alike leaves below) roots c.nodes_hold_keys_up_to_an_entry.ensures.begins none layout fixed hold may pins;
  same = same_kept;
  pins = pinned_more c.nodes_hold_keys_up_to_an_entry.ensures.pins;
  seals = sealed_kept c.nodes_hold_keys_up_to_an_entry.ensures.lacks c.leaf_roots_are_named.ensures;
  parts = part_kept (record { leaves = c.leaves_stand.ensures.entry_parts; parts = c.node_parts_stand.ensures.entry_parts });
  flushes = flush_kept (record { leaves = c.leaves_stand.ensures.flushes; parts = c.node_parts_stand.ensures.flushes });
  reads = read_kept (record { leaves = c.leaves_stand.ensures.reads; parts = c.node_parts_stand.ensures.reads });
  settles = settled_kept (record {
    shifts = c.nodes_hold_keys_up_to_an_entry.ensures.shifts;
    keys = c.nodes_hold_keys_up_to_an_entry.ensures.shifted_keys;
    map = c.nodes_hold_keys_up_to_an_entry.ensures.shifted_map;
    space = c.nodes_keep_their_buckets.ensures.settled;
  });
}
