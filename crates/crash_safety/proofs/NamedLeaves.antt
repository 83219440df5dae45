-- An entry that names the roots as they are is put in flight, and all is kept of the leaves.
use Rattle.std.proofs.Common.{◌≡◌, ◌+◌, ◌++◌, ◌∷◌, ℕ, List, [], drop, map, None, Option, Some, inl, refl, sym, ap, subst, ◌∙◌}
use Rattle.std.proofs.lemmas.Option.{same_Some}
use Rattle.std.specs.List.{flat_map}
use Rattle.std.specs.Prelude.{All, get_or}
use Rattle.bucket_pool.specs.NodeBuckets.{IsHeldPast, MayHoldNode}
use Rattle.btree_map.specs.Sizes.{all_btrees}
use Rattle.dev_model.specs.Devices.{DevicesState, now}
use Rattle.dev_model.specs.Disk.{Image, as_read}
use Rattle.image_view.specs.Found.{Found, node_places, updates_of}
use Rattle.image_view.specs.NextEntries.{IsNext}
use Rattle.image_view.specs.UpdatedTrees.{IsOfLeaf}
use Rattle.journal_ring.specs.EntryBlocks.{AreEntryBlocks}
use Rattle.journal_ring.specs.declared.found.FoundEntry.{FoundEntry}
use Rattle.crash_safety.specs.Safety.{IsJournalSafe}
use Rattle.crash_safety.specs.Writings.{Writing, after}
use Rattle.crash_safety.specs.Contents.{HoldsUpTo, IsFrom}
use Rattle.crash_safety.specs.Leaves.{StandAsLeaves, StandsAsLeaf, leaf_keys}
use Rattle.crash_safety.specs.Naming.{leaf_writing}
use Rattle.node_store.specs.NodeContents.{NodeContent}
use Rattle.vol_types.specs.Btrees.{btree_code}
use Rattle.vol_types.specs.KeyMapLaws.{entries_of-key_map}
use Rattle.vol_types.specs.KeyMaps.{Entries, IsKeyMap, KeyMap, entries_of, with_updates}
use Rattle.vol_types.specs.declared.pointers.NodePtr.{NodePtr}
use Rattle.vol_types.specs.declared.pointers.Place.{Place}
use Rattle.vol_types.specs.declared.positions.Btree.{Btree}
use Rattle.crash_safety.specs.KeptLeaves.{KeepsLeaves, LieWell}
use Rattle.crash_safety.specs.CheckpointLeaves.{Leaves, LieApart}
use Rattle.crash_safety.specs.LeafSteps.{IsNamed}
use Rattle.crash_safety.proofs.NineBtrees.{at_code, btree_at, each_btree, each_place, nodes_are_roots}
use Rattle.crash_safety.proofs.OwnBuckets.{roots_are_placed}

-- What the node has of the entries that are left is made again, and none that it lacks is passed.
abbrev pub LacksLaw : Type 0
LacksLaw = (needed : List FoundEntry) (before : KeyMap) (oldest passed : ℕ) (btree : Btree) (pin : Option ℕ) (entries : Entries) (content : KeyMap) → IsKeyMap before → HoldsUpTo needed before oldest btree pin entries → IsFrom pin (oldest + passed)
    → entries_of content btree ≡ entries → entries_of (with_updates (updates_of (drop passed needed)) content) btree ≡ entries_of (with_updates (updates_of needed) before) btree

-- An entry may be put in flight that names roots which stand as leaves.
abbrev pub NamedLaw : Type 0
NamedLaw = (f : Found) (image : Image) (bases : List Found) (durable : List ℕ) (first : ℕ) (state : DevicesState) (roots : List NodePtr) (content : Btree → NodeContent) (passed : ℕ) (next : FoundEntry) (blocks : List (List ℕ))
    → IsJournalSafe f image None 0 0 bases durable first state → StandAsLeaves f.layout f.session roots content state → IsNext f passed next → AreEntryBlocks f.layout.id next.number next.entry blocks → next.entry.roots ≡ roots
    → All IsOfLeaf (updates_of f.needed) → All IsOfLeaf next.entry.updates → ((btree : Btree) → entries_of (with_updates (updates_of (drop passed f.needed)) (leaf_keys content)) btree ≡ entries_of f.trees.keys btree)
    → IsJournalSafe f (as_read (now state)) (Some (leaf_writing f roots content passed next blocks)) 0 0 (bases ++ after (leaf_writing f roots content passed next blocks) f ∷ []) durable first state

module _ (f : Found) (state : DevicesState) (l : Leaves) (keeps : KeepsLeaves f None state l) where
  abbrev roots : List NodePtr
  roots = map l.root all_btrees

  stand : StandAsLeaves f.layout f.session roots keeps.content state
  stand = record {
    nine = refl;
    each = λ btree root at. subst (λ (r : NodePtr). StandsAsLeaf f.layout f.session btree r (keeps.content btree) state) (same_Some (l.root btree) root (sym (at_code l.root btree) ∙ at)) (keeps.stand btree);
    births = λ place other one same at there equal.
        let first = btree_at l.root place one at in
        let second = btree_at l.root other same there in
        let born : (l.root first.0).birth ≡ (l.root second.0).birth = ap (λ (r : NodePtr). r.birth) first.2 ∙ equal ∙ sym (ap (λ (r : NodePtr). r.birth) second.2) in
        sym first.1 ∙ ap btree_code (keeps.births first.0 second.0 born) ∙ second.1;
    apart = roots_are_placed f.layout l.root (λ btree. (keeps.stand btree).mirrored) (λ btree. (keeps.stand btree).placed) keeps.lie.roots_apart;
  }

  -- The leaves lead to the durable keys, with the entries that the next one still needs.
  still_lead : LacksLaw → (passed : ℕ) → ((btree : Btree) → IsFrom (l.pin btree) (f.last.entry.oldest + passed)) → (btree : Btree) → entries_of (with_updates (updates_of (drop passed f.needed)) (leaf_keys keeps.content)) btree ≡ entries_of f.trees.keys btree
  still_lead lacks passed pins btree =
      lacks f.needed keeps.before f.last.entry.oldest passed btree (l.pin btree) (keeps.content btree).entries (leaf_keys keeps.content) keeps.are_keys (keeps.holds btree) (pins btree) (entries_of-key_map (λ (b : Btree). (keeps.content b).entries) btree)
      ∙ ap (λ (keys : KeyMap). entries_of keys btree) (sym keeps.keys)

  module _ (passed : ℕ) (next : FoundEntry) (blocks : List (List ℕ)) where
    abbrev w : Writing
    w = leaf_writing f roots keeps.content passed next blocks

    -- What holds of each root's places holds of those of all nodes of the entry.
    each_named : (P : Place → Type 0) → ((btree : Btree) → All P (l.root btree).places) → All P (node_places (after w f))
    each_named P each = subst (λ (ns : List NodePtr). All P (flat_map (λ (node : NodePtr). node.places) ns)) (sym (nodes_are_roots roots)) (each_place P roots (each_btree l.root (λ node. All P node.places) each))

    named_lie : LieWell f (Some w) l
    named_lie = record {
      fixed = keeps.lie.fixed;
      roots = keeps.lie.roots;
      fresh = keeps.lie.fresh;
      found = keeps.lie.found;
      next = each_named (IsHeldPast next.entry.sequence l.space) (λ btree k d within. inl (keeps.lie.roots btree k d within));
      roots_placed = keeps.lie.roots_placed;
      found_placed = keeps.lie.found_placed;
      next_placed = each_named (MayHoldNode f.layout) keeps.lie.roots_placed;
      roots_apart = keeps.lie.roots_apart;
      fresh_apart = keeps.lie.fresh_apart;
      apart_roots = keeps.lie.apart_roots;
      apart_found = keeps.lie.apart_found;
      apart_next = λ k d within. subst (All (LieApart (get_or l.fresh k d).node)) (sym (nodes_are_roots roots)) (each_btree l.root (LieApart (get_or l.fresh k d).node) (keeps.lie.apart_roots k d within));
    }

    named_kept : KeepsLeaves f (Some w) state l
    named_kept = record {
      layout = keeps.layout;
      before = keeps.before;
      are_keys = keeps.are_keys;
      keys = keeps.keys;
      of_leaves = keeps.of_leaves;
      content = keeps.content;
      stand = keeps.stand;
      births = keeps.births;
      holds = keeps.holds;
      fresh = keeps.fresh;
      lie = named_lie;
    }

-- An entry that is put in flight over the leaves: it has the durable keys, with its updates.
pub sealed_kept : LacksLaw → NamedLaw → (f : Found) (image : Image) (bases : List Found) (durable : List ℕ) (first : ℕ) (state : DevicesState) (passed : ℕ) (next : FoundEntry) (blocks : List (List ℕ)) (l : Leaves)
    → IsJournalSafe f image None 0 0 bases durable first state → KeepsLeaves f None state l → IsNamed f passed next blocks l
    → (w : Writing) × (w.passed ≡ passed) × (w.next ≡ next) × (w.blocks ≡ blocks) × (w.trees.keys ≡ with_updates next.entry.updates f.trees.keys)
    × IsJournalSafe f (as_read (now state)) (Some w) 0 0 (bases ++ after w f ∷ []) durable first state × KeepsLeaves f (Some w) state l
sealed_kept lacks names f image bases durable first state passed next blocks l safe keeps named = (
  w f state l keeps passed next blocks,
  refl,
  refl,
  refl,
  refl,
  names f image bases durable first state (roots f state l keeps) keeps.content passed next blocks safe (stand f state l keeps) named.is_next named.sealed named.roots keeps.of_leaves named.of_leaves (still_lead f state l keeps lacks passed named.pins),
  named_kept f state l keeps passed next blocks,
)
