-- What is known of journals that are written, of leaves, of pins and of entries that wait: the laws that the core calls.
use Rattle.birth_index.specs.Births.{BirthsDiffer, levels_of}
use Rattle.birth_index.specs.Exchanges.{HaveOneNode, IsOfRoot, exchanged, one_node}
use Rattle.birth_index.specs.declared.name.Exchange.{Exchange}
use Rattle.btree_map.specs.Trees.{IsTrees}
use Rattle.bucket_pool.specs.NodeBuckets.{AreFixed, HoldsNode, MayHoldNode}
use Rattle.bucket_pool.specs.Opening.{space_of}
use Rattle.crash_safety.specs.CheckpointLaws.{EntryLaws, LeafLaws}
use Rattle.crash_safety.specs.JournalLaws.{FlagLaws, JournalLaws}
use Rattle.dirty_nodes.specs.Dirty.{with_pins}
use Rattle.dev_model.specs.Crashes.{SameBut}
use Rattle.dev_model.specs.Disk.{Image}
use Rattle.journal_writer.specs.Changes.{LeadTo, changes_of}
use Rattle.journal_writer.specs.Queues.{Queue, durable_keys, empty_queue, joined, oldest, waiting, without_oldest}
use Rattle.journal_writer.specs.declared.changes.KeyChanges.{KeyChanges}
use Rattle.image_view.specs.Bases.{AgreeOnBase}
use Rattle.image_view.specs.Found.{Found, IsInOrder, found, node_places as places_found}
use Rattle.image_view.specs.Mends.{IsPlaceOf}
use Rattle.image_view.specs.NextEntries.{IsNext}
use Rattle.journal_ring.specs.Counting.{needed_by, newest}
use Rattle.journal_ring.specs.Entries.{IsWhole}
use Rattle.journal_ring.specs.EntryBlocks.{parts_of}
use Rattle.journal_ring.specs.Parts.{Area}
use Rattle.journal_ring.specs.declared.found.FoundEntry.{FoundEntry}
use Rattle.key_meaning.specs.Checks.{AreNodesPlaced}
use Rattle.node_mem.specs.Nodes.{with_keys}
use Rattle.node_writeback.specs.Placing.{AreFrozenLeaves, exchanges_of, moved_pins}
use Rattle.node_writeback.specs.declared.node.FrozenNode.{FrozenNode}
use Rattle.pin_list.specs.Pins.{smaller}
use Rattle.replay.specs.NodeUpdates.{ChangesNode, EachUpdate, IsBelowRoot}
use Rattle.replay.specs.Volumes.{trees_read}
use Rattle.std.specs.List.{list_any}
use Rattle.std.specs.Ordering.{nat_cmp}
use Rattle.std.specs.Prelude.{All, Bool, List, Ok, Some, [], if◌then◌else◌, length, map, slice_index_or, true, ℕ, ◌++◌, ◌+◌, ◌-◌, ◌<◌, ◌==◌, ◌↔◌, ◌∷◌, ◌≡◌, ◌≢◌, ◌≤◌}
use Rattle.tree_nodes.specs.Levels.{Levels}
use Rattle.vol_types.specs.KeyMaps.{Entries, IsKeyMap, KeyMap, keys_in, with_updates}
use Rattle.vol_types.specs.Layouts.{is_layout}
use Rattle.vol_types.specs.Maps.{IsMap, value_at}
use Rattle.vol_types.specs.Positions.{pos_cmp}
use Rattle.vol_types.specs.declared.keys.Key.{Key}
use Rattle.vol_types.specs.declared.keys.Update.{Update}
use Rattle.vol_types.specs.declared.layout.Layout.{Layout}
use Rattle.vol_types.specs.declared.pointers.Place.{Place}
use Rattle.vol_types.specs.declared.positions.Btree.{Btree}

-- Needed entries end where the last of their parts does, and no place of the next entry is one that what was found hangs on.
pub record EntryPlaceLaws : Type 0 where
  pub ends : (image : Image) (f : Found) → found image ≡ Ok f → (index : ℕ) → index < length f.needed → (slice_index_or f.needed index f.last).end ≡ (slice_index_or f.needed index f.last).number + parts_of (slice_index_or f.needed index f.last).entry
  pub base : (one other : Image) (f : Found) (passed : ℕ) (next : FoundEntry) (count : ℕ) → found one ≡ Ok f → IsInOrder f one → AreNodesPlaced (places_found f) f.layout → IsNext f passed next → count ≤ parts_of next.entry → map (λ blocks. length blocks) one ≡ map (λ blocks. length blocks) other → SameBut (IsPlaceOf f.layout next count) one other → AgreeOnBase f one other

-- Changes that wait lead from the durable keys to those in memory.
pub record KeyLaws : Type 0 where
  pub empty : (mirrors after behind commits : ℕ) (keys : KeyMap) → LeadTo (waiting (empty_queue mirrors after behind commits)) keys keys
  pub joined : (in_flight : List KeyChanges) (queue : Queue) (updates : List Update) (counted : Bool) (durable keys : KeyMap) → LeadTo (in_flight ++ waiting queue) durable keys → LeadTo (in_flight ++ waiting (joined (changes_of updates keys) counted queue)) durable (with_updates updates keys)
  pub taken : (queue : Queue) (durable keys : KeyMap) → LeadTo (waiting queue) durable keys → LeadTo ((oldest queue).changes ∷ waiting (without_oldest queue)) durable keys
  pub settled : (changes : KeyChanges) (later : List KeyChanges) (durable keys : KeyMap) → LeadTo (changes ∷ later) durable keys → LeadTo later (with_updates changes.updates durable) keys
  pub durable : (in_flight : List KeyChanges) (queue : Queue) (durable keys : KeyMap) → IsKeyMap durable → LeadTo (in_flight ++ waiting queue) durable keys → durable_keys in_flight queue keys ≡ durable

-- What nodes pin once updates changed them.
pub record PinLaws : Type 0 where
  pub each : (seq birth : ℕ) (births : List ℕ) (numbers : List (ℕ × ℕ)) → value_at nat_cmp birth (with_pins seq births numbers) ≡ (if list_any (λ b. b == birth) births then Some (smaller seq (value_at nat_cmp birth numbers)) else value_at nat_cmp birth numbers)

-- What frozen leaves are once they are in place.
pub record PlaceLaws : Type 0 where
  pub of_roots : (frozen : List FrozenNode) → All IsOfRoot (exchanges_of frozen)
  pub leaves : (nodes : List Levels) (pins : List (ℕ × ℕ)) (frozen : List FrozenNode) → AreFrozenLeaves nodes pins frozen → All (λ node. levels_of (exchanged (exchanges_of frozen) nodes) node.btree ≡ one_node node.fresh) frozen
  pub others : (nodes : List Levels) (frozen : List FrozenNode) (btree : Btree) → All (λ node. node.btree ≢ btree) frozen → levels_of (exchanged (exchanges_of frozen) nodes) btree ≡ levels_of nodes btree
  pub pins : (nodes : List Levels) (pins later : List (ℕ × ℕ)) (frozen : List FrozenNode) → IsMap nat_cmp pins → BirthsDiffer nodes → AreFrozenLeaves nodes pins frozen → All (λ node. value_at nat_cmp node.fresh.birth (moved_pins frozen later pins) ≡ value_at nat_cmp node.birth later) frozen
  pub other_pins : (pins later : List (ℕ × ℕ)) (frozen : List FrozenNode) (birth : ℕ) → IsMap nat_cmp pins → All (λ node. (node.birth ≢ birth) × (node.fresh.birth ≢ birth)) frozen → value_at nat_cmp birth (moved_pins frozen later pins) ≡ value_at nat_cmp birth pins

-- What is kept of buckets at the opening.
pub record BucketLaws : Type 0 where
  pub opened_fixed : (layout : Layout) (live : List Key) (nodes : List Place) → is_layout layout ≡ true → AreFixed layout (space_of layout live nodes)
  pub opened_hold : (layout : Layout) (live : List Key) (nodes : List Place) → is_layout layout ≡ true → All (λ place. MayHoldNode layout place → HoldsNode (space_of layout live nodes) place) nodes

-- What nodes are once pointers were exchanged.
pub record ExchangeLaws : Type 0 where
  pub stay : (nodes : List Levels) (changes : List Exchange) → HaveOneNode nodes → All IsOfRoot changes → HaveOneNode (exchanged changes nodes)

-- What was found has as many needed entries as its newest one needs, each of them whole, a root for each btree, and btrees whose nodes are trees.
pub record FoundLaws : Type 0 where
  pub oldest : (image : Image) (f : Found) → found image ≡ Ok f → f.last.entry.oldest ≤ f.last.entry.sequence
  pub count : (image : Image) (f : Found) → found image ≡ Ok f → length f.needed ≡ f.last.entry.sequence - f.last.entry.oldest + 1
  pub roots : (image : Image) (f : Found) → found image ≡ Ok f → length f.last.entry.roots ≡ 9
  pub trees : (image : Image) (f : Found) → found image ≡ Ok f → IsTrees (trees_read f.trees)
  pub whole : (layout : Layout) (area : Area) (last : FoundEntry) (needed : List FoundEntry) → 0 < layout.journal → newest layout area ≡ Some last → needed_by layout area last ≡ Ok needed → All (IsWhole layout area) needed
  pub changed : (image : Image) (f : Found) → found image ≡ Ok f → EachUpdate f (λ update. ChangesNode f.trees.nodes update ↔ IsBelowRoot f.last.entry.roots update)

-- The keys of a map make it from nothing.
pub record MergeLaws : Type 0 where
  pub whole : (entries : Entries) → IsMap pos_cmp entries → with_keys (keys_in entries) [] ≡ entries

-- All that the events of an open volume hang on.
pub record CoreLaws : Type 0 where
  pub journal : JournalLaws
  pub places_of_entries : EntryPlaceLaws
  pub flags : FlagLaws
  pub keys : KeyLaws
  pub entries : EntryLaws
  pub leaves : LeafLaws
  pub pins : PinLaws
  pub places : PlaceLaws
  pub buckets : BucketLaws
  pub exchanges : ExchangeLaws
  pub merges : MergeLaws
