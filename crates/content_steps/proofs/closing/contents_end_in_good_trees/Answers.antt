use Rattle.std.proofs.Common.{Some, ap, ◌∙◌, ◌++◌, inr, subst}
use Rattle.std.specs.Prelude.{option_map}
use Rattle.content_steps.proofs.Apart.{of_no_space}
use Rattle.content_steps.proofs.Bytes.{content_taken}
use Rattle.content_steps.proofs.Chain.{all_fit, all_plain, may_change, same_inode, sized_then}
use Rattle.content_steps.proofs.Expanded.{expanded_are_steps, may_follow}
use Rattle.content_steps.proofs.Following.{leaf_then}
use Rattle.content_steps.specs.Shown.{with_blocks}
use Rattle.forest_ops.specs.Trees.{with_bytes}
use Rattle.key_meaning.specs.Forest.{counter_in, tree_of}
use Rattle.key_steps.specs.Shown.{Shown, shown_in, with_inode}
use Rattle.key_steps.specs.Steps.{inode_value}
use Rattle.key_triggers.specs.Expanding.{expanded}
use Rattle.key_view.specs.Changes.{updates_to_see}
use Rattle.shown_changes.specs.Changes.{MeansGoodTree}
use Rattle.vol_types.specs.KeyMaps.{with_updates}
use Rattle.vol_types.specs.declared.positions.Btree.TheVariants.{Inodes}
use Rattle.vol_types.specs.declared.values.FileKind.TheVariants.{File}
use Rattle.vol_types.specs.declared.values.Inode.{Inode}
use Rattle.content_steps.proofs.closing.contents_end_in_good_trees.Goals as goal

pub returns : goal.returns
returns c = record {
  sized = λ keys updates nodes layout read name sub file size old given change is sound tidy named fits changes.
      let kept = c.subvolumes_begin_good.ensures.kept keys nodes layout is sound tidy in
      let leaf = c.subvolumes_begin_good.ensures.leaf keys nodes layout name sub sound named in
      let middle = with_updates updates keys in
      let new_inode : Inode = record old { size = size } in
      let shown : Shown = with_inode file (Some new_inode) (with_blocks file given (shown_in keys sub.id)) in
      let drawn = changes.steps.drawn file (c.shown_numbers_are_drawn.ensures.drawn keys nodes layout sub.id file File kept (ap (option_map (λ (inode : Inode). inode.kind)) changes.shows ∙ ap Some changes.of_file)) in
      let second = c.inodes_are_steps.ensures middle nodes layout sub.id file (Some new_inode) changes.steps.kept
      (leaf_then keys middle nodes layout sub.id (with_blocks file given (shown_in keys sub.id)) (counter_in keys) changes.steps leaf) fits drawn
      (inr (may_change keys updates nodes layout read sub file size old given change fits changes)) in
      let planned = updates ++ updates_to_see keys Inodes 0 file sub.id (Some (inode_value new_inode)) in
      let steps = sized_then keys updates nodes layout read sub file size old given change fits changes second in
      let may_be = all_fit keys updates nodes layout read sub file size old given change fits changes in
      let plain = all_plain keys updates nodes layout read sub file size old given change fits changes in
      let done = expanded_are_steps keys planned (expanded keys planned) nodes layout kept steps.kept plain may_be (c.expanded_keys_follow.ensures.fits keys planned may_be) (c.expanded_keys_follow.ensures.expanded keys planned)
      (c.expanded_keys_follow.ensures.follows keys planned nodes layout (may_follow keys planned nodes layout sub.id shown (counter_in keys) kept sound.space plain steps)) sub.id shown (counter_in keys) steps in
      let good = content_taken keys middle read sub (tree_of keys read sub) file size old given change (c.subvolumes_begin_good.ensures.good keys nodes layout name sub is sound tidy named read) changes.shows changes.of_file changes.steps.shows changes.ends changes.content in
      let end = c.steps_end_in_good_trees.ensures.sound keys (with_updates (expanded keys planned) keys) nodes layout name sub shown (counter_in keys) (with_bytes file change (tree_of keys read sub)).directories is sound tidy named done good.means.directories good.good in
      (end.0, end.1, c.steps_end_in_good_trees.ensures.uncounted keys (with_updates (expanded keys planned) keys) nodes layout name sub shown read (with_bytes file change) sound named done good.means);
  within = λ keys updates nodes layout read name sub file old given change is sound tidy named changes.
      let kept = c.subvolumes_begin_good.ensures.kept keys nodes layout is sound tidy in
      let shown : Shown = with_blocks file given (shown_in keys sub.id) in
      let plain = of_no_space sub.id updates changes.own in
      let done = expanded_are_steps keys updates (expanded keys updates) nodes layout kept changes.steps.kept plain changes.fits (c.expanded_keys_follow.ensures.fits keys updates changes.fits) (c.expanded_keys_follow.ensures.expanded keys updates)
      (c.expanded_keys_follow.ensures.follows keys updates nodes layout (may_follow keys updates nodes layout sub.id shown (counter_in keys) kept sound.space plain changes.steps)) sub.id shown (counter_in keys) changes.steps in
      let good = subst (λ (s : Shown). MeansGoodTree read sub s (with_bytes file change (tree_of keys read sub))) (same_inode shown file old changes.shows)
      (content_taken keys (with_updates updates keys) read sub (tree_of keys read sub) file old.size old given change (c.subvolumes_begin_good.ensures.good keys nodes layout name sub is sound tidy named read) changes.shows changes.of_file changes.steps.shows changes.ends changes.content) in
      let end = c.steps_end_in_good_trees.ensures.sound keys (with_updates (expanded keys updates) keys) nodes layout name sub shown (counter_in keys) (with_bytes file change (tree_of keys read sub)).directories is sound tidy named done good.means.directories good.good in
      (end.0, end.1, c.steps_end_in_good_trees.ensures.uncounted keys (with_updates (expanded keys updates) keys) nodes layout name sub shown read (with_bytes file change) sound named done good.means);
}
