use Rattle.image_view.specs.BaseLaws.{found-trees}
use Rattle.image_view.specs.Found.{sets_in, updates_of}
use Rattle.std.proofs.lemmas.List.Elements.{recursion_from_All}
use Rattle.image_view.specs.UpdatedTrees.{IsOfLeaf}
use Rattle.btree_laws.specs.HeldContents.{held_in}
use Rattle.btree_laws.proofs.FoundRoots.{EntryLaws, nine_roots, roots_in_range}
use Rattle.btree_laws.proofs.ReadBtrees.{btrees_stand, found_read, found_stands}
use Rattle.btree_laws.proofs.SetContents.{images_come_to}
use Rattle.btree_laws.proofs.found.found_btrees_stand.Goals as goal

pub returns : goal.returns
returns c =
    let sealed = c.opened_blocks_are_sealed.ensures in
    let laws : EntryLaws = record { whole = c.leading_entries_are_needed.ensures.whole; made_of = c.whole_entries_are_made_of_blocks.ensures; sealed = sealed; exact = c.entries_are_exact.ensures } in
    let come = images_come_to sealed c.sets_are_exact.ensures in
    record {
      btree = found_read;
      updated = λ sets content btree root updates read come is leaves. found_stands sets content come updates (recursion_from_All IsOfLeaf updates leaves) btree root read is;
      btrees = λ sets content roots updates read come nine are leaves. btrees_stand sets content roots updates come nine are leaves read;
      images = come;
      roots = roots_in_range laws;
      found = λ image f is leaves.
          let stand = btrees_stand (sets_in f.layout image) (λ btree. held_in f.layout image) f.last.entry.roots (updates_of f.needed) (come f.layout image) (nine_roots laws image f is) (roots_in_range laws image f is) leaves f.trees (found-trees image f is) in
          (stand, c.entries_name_standing_btrees.ensures.found image f f.trees.nodes (λ btree. held_in f.layout image) is stand leaves);
    }
