-- What happens to a volume of leaves: what each step of a checkpoint, and of an entry, makes of it.
use Rattle.std.specs.Prelude.{◌≡◌, ◌≢◌, ℕ, ◌+◌, Option, Some, List, [], ◌∷◌, ◌++◌, All, length, map, slice_get}
use Rattle.std.specs.List.{AllPairs}
use Rattle.bucket_pool.specs.Space.{emptied_all, noded, settled_space}
use Rattle.btree_map.specs.Sizes.{all_btrees}
use Rattle.image_view.specs.Found.{Found}
use Rattle.journal_ring.specs.EntryBlocks.{AreEntryBlocks}
use Rattle.journal_ring.specs.declared.found.FoundEntry.{FoundEntry}
use Rattle.image_view.specs.NextEntries.{IsNext}
use Rattle.image_view.specs.UpdatedTrees.{IsOfLeaf}
use Rattle.crash_safety.specs.Writings.{Writing}
use Rattle.crash_safety.specs.Contents.{ChangesBtree, IsFrom, IsPinnedUpTo}
use Rattle.vol_types.specs.declared.positions.Btree.{Btree}
use Rattle.crash_safety.specs.CheckpointLeaves.{FreshLeaf, Leaves, placed_pins, placed_roots, places_of_fresh, replaced_places}

-- Whatever the one pin holds back, the other does too.
abbrev pub PinsAsMuch : Option ℕ → Option ℕ → Type 0
PinsAsMuch one other = (sequence : ℕ) → IsPinnedUpTo one sequence → IsPinnedUpTo other sequence

-- They are the same leaves, in the same space.
pub record AreSameLeaves (one other : Leaves) : Type 0 where
  pub root : (btree : Btree) → other.root btree ≡ one.root btree
  pub pin : (btree : Btree) → other.pin btree ≡ one.pin btree
  pub fresh : other.fresh ≡ one.fresh
  pub space : other.space ≡ one.space

-- the leaf with what else it lacks
abbrev pub lacking : Option ℕ → FreshLeaf → FreshLeaf
lacking later fresh = record fresh { later = later }

-- The leaves differ in what is pinned: as much as before at least.
pub record ArePinnedMore (old new : Leaves) : Type 0 where
  pub root : (btree : Btree) → new.root btree ≡ old.root btree
  pub space : new.space ≡ old.space
  pub pins : (btree : Btree) → PinsAsMuch (old.pin btree) (new.pin btree)
  pub count : length new.fresh ≡ length old.fresh
  pub fresh : (index : ℕ) (one other : FreshLeaf) → slice_get old.fresh index ≡ Some one → slice_get new.fresh index ≡ Some other → (other ≡ lacking other.later one) × PinsAsMuch one.later other.later

-- A next entry names the roots as they are: it is put in flight, and needs the entries from the least pin on.
pub record IsNamed (f : Found) (passed : ℕ) (next : FoundEntry) (blocks : List (List ℕ)) (l : Leaves) : Type 0 where
  pub is_next : IsNext f passed next
  pub sealed : AreEntryBlocks f.layout.id next.number next.entry blocks
  pub roots : next.entry.roots ≡ map l.root all_btrees
  pub of_leaves : All IsOfLeaf next.entry.updates
  pub pins : (btree : Btree) → IsFrom (l.pin btree) (f.last.entry.oldest + passed)

-- The pins hold the entries back that the one that becomes durable needs, and that one where it changes a btree.
pub record HoldBack (f : Found) (w : Writing) (l : Leaves) : Type 0 where
  pub pins : (btree : Btree) → IsFrom (l.pin btree) (f.last.entry.oldest + w.passed)
  pub changes : (btree : Btree) → ChangesBtree btree w.next.entry.updates → IsPinnedUpTo (l.pin btree) w.next.entry.sequence
  pub later : All (λ (fresh : FreshLeaf). IsFrom fresh.later (f.last.entry.oldest + w.passed)) l.fresh
  pub later_changes : All (λ (fresh : FreshLeaf). ChangesBtree fresh.btree w.next.entry.updates → IsPinnedUpTo fresh.later w.next.entry.sequence) l.fresh

-- the leaves once an entry of this sequence is durable
abbrev pub settled_leaves : ℕ → Leaves → Leaves
settled_leaves sequence l = record l { space = settled_space sequence l.space }

-- the leaves with one more that is to be written
abbrev pub with_fresh : ℕ → FreshLeaf → Leaves → Leaves
with_fresh mirrors fresh l = record l { fresh = l.fresh ++ fresh ∷ []; space = noded mirrors l.space }

-- the leaf with so many of its blocks written
abbrev pub with_written : ℕ → FreshLeaf → FreshLeaf
with_written written fresh = record fresh { written = written }

-- the leaves, of which the last one has so many of its blocks written
abbrev pub with_last : List FreshLeaf → FreshLeaf → ℕ → Leaves → Leaves
with_last earlier fresh written l = record l { fresh = earlier ++ with_written written fresh ∷ [] }

-- the leaves with those in place that were written: the buckets of the roots that they replace wait for an entry
abbrev pub placed : ℕ → Leaves → Leaves
placed seq l = record {
  root = placed_roots l.fresh l.root;
  pin = placed_pins l.fresh l.pin;
  fresh = [];
  space = emptied_all (replaced_places l.fresh l.root) seq l.space;
}

-- The leaves that were written may be put in place: they are of different btrees, and no two nodes have one birth.
pub record MayBePlaced (l : Leaves) : Type 0 where
  pub btrees : AllPairs (λ (one other : FreshLeaf). (one.btree ≢ other.btree) × (one.node.birth ≢ other.node.birth)) l.fresh
  pub births : All (λ (fresh : FreshLeaf). (btree : Btree) → (l.root btree).birth ≢ fresh.node.birth) l.fresh

-- the leaves where those that were written are given up: their buckets are free again
abbrev pub given_up : ℕ → Leaves → Leaves
given_up durable l = record l { fresh = []; space = settled_space durable (emptied_all (places_of_fresh l.fresh) durable l.space) }
