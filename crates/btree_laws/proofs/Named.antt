-- What the roots of an entry mean under which btrees stand.
use Rattle.std.proofs.Common.{◌≡◌, ℕ, ◌≤◌, List, [], ◌∷◌, ◌++◌, take, drop, Ok, sym, ap, subst, ◌∙◌}
use Rattle.std.specs.Prelude.{All}
use Rattle.std.specs.List.{AllByRecursion}
use Rattle.std.proofs.lemmas.List.{append-nil, take-append-drop}
use Rattle.std.proofs.lemmas.List.Elements.{All-append, All-from_recursion, recursion_from_All}
use Rattle.dev_model.specs.Disk.{Image}
use Rattle.image_view.specs.EntryUpdates.{updates_of-append}
use Rattle.image_view.specs.Found.{Found, found, sets_in, updates_of}
use Rattle.image_view.specs.NewNodes.{over_nodes}
use Rattle.image_view.specs.Trees.{TreesRead, trees_of}
use Rattle.image_view.specs.UpdatedTrees.{IsOfLeaf, with_key_updates}
use Rattle.journal_ring.specs.declared.found.FoundEntry.{FoundEntry}
use Rattle.key_codec.specs.Combined.{ok_is}
use Rattle.tree_nodes.specs.Levels.{Levels}
use Rattle.vol_types.specs.KeyMapLaws.{with_updates-append}
use Rattle.vol_types.specs.KeyMaps.{IsKeyMap, KeyMap, with_updates}
use Rattle.vol_types.specs.declared.keys.Update.{Update}
use Rattle.vol_types.specs.declared.layout.Layout.{Layout}
use Rattle.vol_types.specs.declared.pointers.NodePtr.{NodePtr}
use Rattle.vol_types.specs.declared.positions.Btree.{Btree}
use Rattle.vol_types.specs.declared.positions.Pos.{Pos}
use Rattle.btree_laws.specs.Counts.{Counts, HaveUpTo}
use Rattle.btree_laws.specs.Standing.{Contents, StandAsBtrees, keys_in_leaves, reads_of}
use Rattle.btree_laws.proofs.NineBtrees.{keys_rise}
use Rattle.btree_laws.proofs.UpTo.{passed_again}

-- What is read of btrees that stand with updates of leaves, and of what was found.
pub record ReadLaws : Type 0 where
  pub updated : (layout : Layout) (image : Image) (roots : List NodePtr) (trees : List Levels) (content : Btree → Contents) (updates : List Update) → StandAsBtrees (sets_in layout image) roots trees content → All IsOfLeaf updates
      → trees_of (sets_in layout image) updates roots ≡ Ok (with_key_updates updates (reads_of content trees))
  pub found_is : (image : Image) (f : Found) → found image ≡ Ok f → trees_of (sets_in f.layout image) (updates_of f.needed) f.last.entry.roots ≡ Ok f.trees

-- What was found is the btrees of its newest entry with the updates of the needed ones.
pub found_stands : ReadLaws → (image : Image) (f : Found) (trees : List Levels) (content : Btree → Contents) → found image ≡ Ok f → StandAsBtrees (sets_in f.layout image) f.last.entry.roots trees content → All IsOfLeaf (updates_of f.needed)
    → f.trees ≡ with_key_updates (updates_of f.needed) (reads_of content trees)
found_stands laws image f trees content is stand leaves =
    ok_is f.trees (with_key_updates (updates_of f.needed) (reads_of content trees)) (sym (laws.found_is image f is) ∙ laws.updated f.layout image f.last.entry.roots trees content (updates_of f.needed) stand leaves)

-- ---- the next entry

-- The updates of the next entry come behind those of the entries that are left.
behind_left : (passed : ℕ) (needed : List FoundEntry) (next : FoundEntry) → updates_of (drop passed needed ++ next ∷ []) ≡ updates_of (drop passed needed) ++ next.entry.updates
behind_left passed needed next = updates_of-append (drop passed needed) (next ∷ []) ∙ ap (λ us. updates_of (drop passed needed) ++ us) (append-nil next.entry.updates)

right_all : (one other : List Update) → AllByRecursion IsOfLeaf (one ++ other) → AllByRecursion IsOfLeaf other
right_all [] other all = all
right_all (update ∷ one) other all = right_all one other all.1

-- They are of leaves, where all are.
left_leaves : (passed : ℕ) (needed : List FoundEntry) (next : FoundEntry) → All IsOfLeaf (updates_of needed) → All IsOfLeaf next.entry.updates → All IsOfLeaf (updates_of (drop passed needed ++ next ∷ []))
left_leaves passed needed next leaves more =
    let parts : updates_of needed ≡ updates_of (take passed needed) ++ updates_of (drop passed needed) = ap updates_of (sym (take-append-drop passed needed)) ∙ updates_of-append (take passed needed) (drop passed needed) in
    subst (All IsOfLeaf) (sym (behind_left passed needed next))
    (All-append IsOfLeaf (updates_of (drop passed needed)) next.entry.updates
    (All-from_recursion IsOfLeaf (updates_of (drop passed needed)) (right_all (updates_of (take passed needed)) (updates_of (drop passed needed)) (subst (AllByRecursion IsOfLeaf) parts (recursion_from_All IsOfLeaf (updates_of needed) leaves)))) more)

-- An entry that names btrees means the keys that were found with its updates, over their nodes.
pub entry_names : ReadLaws → (image : Image) (f : Found) (passed : ℕ) (next : FoundEntry) (trees : List Levels) (content : Btree → Contents) (before : KeyMap) (count : Counts) → StandAsBtrees (sets_in f.layout image) next.entry.roots trees content → IsKeyMap before
    → f.trees.keys ≡ with_updates (updates_of f.needed) before → All IsOfLeaf (updates_of f.needed) → All IsOfLeaf next.entry.updates → HaveUpTo f.needed before count (keys_in_leaves content trees) → ((btree : Btree) (pos : Pos) → passed ≤ count btree pos)
    → trees_of (sets_in f.layout image) (updates_of (drop passed f.needed ++ next ∷ [])) next.entry.roots ≡ Ok (with_key_updates next.entry.updates (over_nodes f.trees (reads_of content trees)))
entry_names laws image f passed next trees content before count stand is keys leaves more has reached =
    let read : TreesRead = reads_of content trees in
    let own : IsKeyMap (keys_in_leaves content trees) = keys_rise (sets_in f.layout image) next.entry.roots trees content stand in
    let all : with_updates (updates_of (drop passed f.needed ++ next ∷ [])) (keys_in_leaves content trees) ≡ with_updates next.entry.updates f.trees.keys =
    ap (λ us. with_updates us (keys_in_leaves content trees)) (behind_left passed f.needed next)
    ∙ with_updates-append (updates_of (drop passed f.needed)) next.entry.updates (keys_in_leaves content trees)
    ∙ ap (with_updates next.entry.updates) (passed_again f.needed before (keys_in_leaves content trees) count passed is own has reached ∙ sym keys) in
    laws.updated f.layout image next.entry.roots trees content (updates_of (drop passed f.needed ++ next ∷ [])) stand (left_leaves passed f.needed next leaves more)
    ∙ ap (λ (ks : KeyMap). Ok (record { keys = ks; nodes = read.nodes; ends = read.ends })) all

-- So it is where the keys are counted from those of the old btrees' sets.
pub entry_means : ReadLaws → (image : Image) (f : Found) (passed : ℕ) (next : FoundEntry) (old new : List Levels) (before after : Btree → Contents) (count : Counts) → found image ≡ Ok f → StandAsBtrees (sets_in f.layout image) f.last.entry.roots old before
    → StandAsBtrees (sets_in f.layout image) next.entry.roots new after → All IsOfLeaf (updates_of f.needed) → All IsOfLeaf next.entry.updates → HaveUpTo f.needed (keys_in_leaves before old) count (keys_in_leaves after new) → ((btree : Btree) (pos : Pos) → passed ≤ count btree pos)
    → trees_of (sets_in f.layout image) (updates_of (drop passed f.needed ++ next ∷ [])) next.entry.roots ≡ Ok (with_key_updates next.entry.updates (over_nodes f.trees (reads_of after new)))
entry_means laws image f passed next old new before after count is stood stand leaves more has reached =
    entry_names laws image f passed next new after (keys_in_leaves before old) count stand (keys_rise (sets_in f.layout image) f.last.entry.roots old before stood)
    (ap (λ (t : TreesRead). t.keys) (found_stands laws image f old before is stood leaves)) leaves more has reached
