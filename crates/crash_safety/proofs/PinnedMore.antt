-- What is kept of leaves is kept where more is pinned.
use Rattle.std.proofs.Common.{◌≡◌, ◌<◌, ℕ, List, length, get_or, Option, None, Some, sym, ap, subst, ◌∙◌, arith}
use Rattle.std.proofs.lemmas.Option.{slice_get-get_or}
use Rattle.std.specs.List.{AllPairs}
use Rattle.std.specs.Prelude.{All, IfSome}
use Rattle.bucket_pool.specs.NodeBuckets.{AreFixed, IsHeldPast, MayHoldNode}
use Rattle.bucket_pool.specs.Space.{Space}
use Rattle.dev_model.specs.Devices.{DevicesState}
use Rattle.image_view.specs.Found.{Found, node_places}
use Rattle.image_view.specs.Trees.{nodes_of}
use Rattle.journal_ring.specs.declared.found.FoundEntry.{FoundEntry}
use Rattle.crash_safety.specs.Writings.{Writing, after}
use Rattle.crash_safety.specs.Contents.{HoldsUpTo}
use Rattle.crash_safety.specs.Leaves.{StandsAsLeaf}
use Rattle.vol_types.specs.KeyMaps.{Entries, KeyMap}
use Rattle.vol_types.specs.declared.pointers.NodePtr.{NodePtr}
use Rattle.vol_types.specs.declared.positions.Btree.{Btree}
use Rattle.crash_safety.specs.KeptLeaves.{HoldsOwn, IsFreshKept, KeepsLeaves, LiesApartFrom, LieWell}
use Rattle.crash_safety.specs.CheckpointLeaves.{FreshLeaf, Leaves, LieApart}
use Rattle.crash_safety.specs.LeafSteps.{ArePinnedMore, PinsAsMuch, lacking}

-- A node that holds its keys up to an entry does so with another pin that pins as much.
abbrev pub PinsLaw : Type 0
PinsLaw = (needed : List FoundEntry) (before : KeyMap) (oldest : ℕ) (btree : Btree) (pin other : Option ℕ) (entries : Entries) → PinsAsMuch pin other → HoldsUpTo needed before oldest btree pin entries → HoldsUpTo needed before oldest btree other entries

module _ (old new : Leaves) (more : ArePinnedMore old new) where
  -- Each leaf that is written is the old one with what else it lacks.
  was : (k : ℕ) (d : FreshLeaf) → k < length new.fresh → (k < length old.fresh) × (get_or new.fresh k d ≡ lacking (get_or new.fresh k d).later (get_or old.fresh k d)) × PinsAsMuch (get_or old.fresh k d).later (get_or new.fresh k d).later
  was k d within =
      let count = more.count in
      let before : k < length old.fresh = omega (arith, within, count) in
      let is = more.fresh k (get_or old.fresh k d) (get_or new.fresh k d) (slice_get-get_or old.fresh k d before) (slice_get-get_or new.fresh k d within) in
      (before, is.0, is.1)

  node_was : (k : ℕ) (d : FreshLeaf) → k < length new.fresh → (get_or old.fresh k d).node ≡ (get_or new.fresh k d).node
  node_was k d within = ap (λ (leaf : FreshLeaf). leaf.node) (sym (was k d within).1)

  -- What holds of the nodes of all that are written still does, and what holds of each two.
  each_node : (P : NodePtr → Type 0) → All (λ (leaf : FreshLeaf). P leaf.node) old.fresh → All (λ (leaf : FreshLeaf). P leaf.node) new.fresh
  each_node P all k d within = subst P (node_was k d within) (all k d (was k d within).0)

  each_two : AllPairs (λ (one other : FreshLeaf). LieApart one.node other.node) old.fresh → AllPairs (λ (one other : FreshLeaf). LieApart one.node other.node) new.fresh
  each_two pairs i j d less within =
      let first : i < length new.fresh = omega (arith, less, within) in
      subst (λ (node : NodePtr). LieApart node (get_or new.fresh j d).node) (node_was i d first)
      (subst (λ (node : NodePtr). LieApart (get_or old.fresh i d).node node) (node_was j d within) (pairs i j d less (was j d within).0))

  root_is : (P : NodePtr → Type 0) (btree : Btree) → P (old.root btree) → P (new.root btree)
  root_is P btree holds = subst P (sym (more.root btree)) holds

  lie_more : (f : Found) (writing : Option Writing) → LieWell f writing old → LieWell f writing new
  lie_more f writing lie = record {
    fixed = in_space (λ space. AreFixed f.layout space) lie.fixed;
    roots = λ btree. root_is (HoldsOwn new.space) btree (in_space (λ space. HoldsOwn space (old.root btree)) (lie.roots btree));
    fresh = each_node (HoldsOwn new.space) (in_space (λ space. All (λ (leaf : FreshLeaf). HoldsOwn space leaf.node) old.fresh) lie.fresh);
    found = in_space (λ space. All (IsHeldPast f.last.entry.sequence space) (node_places f)) lie.found;
    next = in_space (λ space. IfSome writing (λ w. All (IsHeldPast w.next.entry.sequence space) (node_places (after w f)))) lie.next;
    roots_placed = λ btree. root_is (λ node. All (MayHoldNode f.layout) node.places) btree (lie.roots_placed btree);
    found_placed = lie.found_placed;
    next_placed = lie.next_placed;
    roots_apart = λ one other differ. root_is (λ node. LieApart node (new.root other)) one (root_is (LieApart (old.root one)) other (lie.roots_apart one other differ));
    fresh_apart = each_two lie.fresh_apart;
    apart_roots = each_node (λ node. (btree : Btree) → LieApart node (new.root btree)) (λ k d within btree. root_is (LieApart (get_or old.fresh k d).node) btree (lie.apart_roots k d within btree));
    apart_found = each_node (λ node. All (LieApart node) (nodes_of f.trees.nodes)) lie.apart_found;
    apart_next = next_apart writing lie.apart_next;
  }
    where
      in_space : (P : Space → Type 0) → P old.space → P new.space
      in_space P holds = subst P (sym more.space) holds

      next_apart : (writing : Option Writing) → IfSome writing (λ w. All (LiesApartFrom (nodes_of (after w f).trees.nodes)) old.fresh) → IfSome writing (λ w. All (LiesApartFrom (nodes_of (after w f).trees.nodes)) new.fresh)
      next_apart None apart = tt
      next_apart (Some w) apart = each_node (λ node. All (LieApart node) (nodes_of (after w f).trees.nodes)) apart

  fresh_more : PinsLaw → (f : Found) (before : KeyMap) (state : DevicesState) → All (IsFreshKept f before state) old.fresh → All (IsFreshKept f before state) new.fresh
  fresh_more pins f before state all k d within =
      let is = was k d within in
      subst (IsFreshKept f before state) (sym is.1) (lacks_more (get_or old.fresh k d) (get_or new.fresh k d).later is.2 (all k d is.0))
    where
      lacks_more : (leaf : FreshLeaf) (later : Option ℕ) → PinsAsMuch leaf.later later → IsFreshKept f before state leaf → IsFreshKept f before state (lacking later leaf)
      lacks_more leaf later as_much kept = record {
        leaf = kept.leaf;
        mirrored = kept.mirrored;
        placed = kept.placed;
        born = kept.born;
        entries = kept.entries;
        planned = record { places = kept.planned.places; first = kept.planned.first; whole = kept.planned.whole; holds = kept.planned.holds; entries_are = kept.planned.entries_are };
        holds = pins f.needed before f.last.entry.oldest leaf.btree leaf.later later kept.entries as_much kept.holds;
        few = kept.few;
        stand = kept.stand;
      }

pub pinned_more : PinsLaw → (f : Found) (writing : Option Writing) (state : DevicesState) (old new : Leaves) → KeepsLeaves f writing state old → ArePinnedMore old new → KeepsLeaves f writing state new
pinned_more pins f writing state old new keeps more = record {
  layout = keeps.layout;
  before = keeps.before;
  are_keys = keeps.are_keys;
  keys = keeps.keys;
  of_leaves = keeps.of_leaves;
  content = keeps.content;
  stand = λ btree. root_is old new more (λ node. StandsAsLeaf f.layout f.session btree node (keeps.content btree) state) btree (keeps.stand btree);
  births = λ one other same. keeps.births one other (sym (birth one) ∙ same ∙ birth other);
  holds = λ btree. pins f.needed keeps.before f.last.entry.oldest btree (old.pin btree) (new.pin btree) (keeps.content btree).entries (more.pins btree) (keeps.holds btree);
  fresh = fresh_more old new more pins f keeps.before state keeps.fresh;
  lie = lie_more old new more f writing keeps.lie;
}
  where
    birth : (btree : Btree) → (new.root btree).birth ≡ (old.root btree).birth
    birth btree = ap (λ (node : NodePtr). node.birth) (more.root btree)
