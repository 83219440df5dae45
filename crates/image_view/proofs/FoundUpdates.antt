-- The laws on updates of leaves that come behind those of the entries that were found.
use Rattle.std.proofs.Common.{◌≡◌, ℕ, List, [], ◌∷◌, ◌++◌, length, take, drop, Ok, ◌∙◌}
use Rattle.std.specs.Prelude.{All}
use Rattle.std.proofs.lemmas.List.Elements.{recursion_from_All}
use Rattle.dev_model.specs.Disk.{Image}
use Rattle.journal_ring.specs.declared.found.FoundEntry.{FoundEntry}
use Rattle.vol_types.specs.declared.keys.Update.{Update}
use Rattle.vol_types.specs.declared.layout.Layout.{Layout}
use Rattle.vol_types.specs.declared.pointers.NodePtr.{NodePtr}
use Rattle.image_view.specs.BaseLaws.{found-trees}
use Rattle.image_view.specs.EntryUpdates.{IsIdle, updates_of-next}
use Rattle.image_view.specs.Found.{Found, found, sets_in, updates_of}
use Rattle.image_view.specs.Trees.{TreesRead, trees_of}
use Rattle.image_view.specs.UpdatedTrees.{IsOfLeaf, with_key_updates}
use Rattle.image_view.proofs.NineRoots.{EntryLaws, nine_roots}
use Rattle.image_view.proofs.SetRanges.{sets_are_ordered}
use Rattle.image_view.proofs.TreeUpdates.{trees_of-more}

-- In an image, updates of leaves behind others join the keys.
pub trees_joined : (layout : Layout) (image : Image) (updates more : List Update) (roots : List NodePtr) (read : TreesRead) → trees_of (sets_in layout image) updates roots ≡ Ok read → length roots ≡ 9 → All IsOfLeaf more
    → trees_of (sets_in layout image) (updates ++ more) roots ≡ Ok (with_key_updates more read)
trees_joined layout image updates more roots read is nine leaves = trees_of-more (sets_in layout image) updates more roots read (sets_are_ordered layout image) (recursion_from_All IsOfLeaf more leaves) nine is

-- So do those of a further entry behind the entries that were found.
pub found_joined : EntryLaws → (image : Image) (f : Found) (passed : ℕ) (next : FoundEntry) → found image ≡ Ok f → All IsIdle (take passed f.needed) → next.entry.roots ≡ f.last.entry.roots → All IsOfLeaf next.entry.updates
    → trees_of (sets_in f.layout image) (updates_of (drop passed f.needed ++ next ∷ [])) next.entry.roots ≡ Ok (with_key_updates next.entry.updates f.trees)
found_joined laws image f passed next is idle roots leaves =
    (λ i. trees_of (sets_in f.layout image) (updates_of-next passed f.needed next idle i) (roots i))
    ∙ trees_joined f.layout image (updates_of f.needed) next.entry.updates f.last.entry.roots f.trees (found-trees image f is) (nine_roots laws image f is) leaves
