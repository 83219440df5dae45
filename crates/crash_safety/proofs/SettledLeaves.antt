-- Once an entry is durable, all is kept of the leaves: the needed entries are those that it still needs, and it.
use Rattle.std.proofs.Common.{◌≡◌, ◌+◌, ◌++◌, ◌∷◌, ◌≤◌, ℕ, List, [], drop, length, get_or, None, Option, Some, sym, ap, subst, ◌∙◌, arith}
use Rattle.std.proofs.lemmas.List.{append-nil, take-append-drop}
use Rattle.std.proofs.lemmas.List.Elements.{All-append, All-tail}
use Rattle.std.specs.Prelude.{All, take}
use Rattle.bucket_pool.specs.NodeBuckets.{KeepsNodes}
use Rattle.bucket_pool.specs.Space.{Space, settled_space}
use Rattle.dev_model.specs.Devices.{DevicesState}
use Rattle.image_view.specs.EntryUpdates.{updates_of-append}
use Rattle.image_view.specs.Found.{Found, node_places, updates_of}
use Rattle.image_view.specs.UpdatedTrees.{IsOfLeaf}
use Rattle.journal_ring.specs.declared.found.FoundEntry.{FoundEntry}
use Rattle.crash_safety.specs.Writings.{Writing, after}
use Rattle.crash_safety.specs.Contents.{ChangesBtree, HoldsUpTo, IsFrom, IsPinnedUpTo}
use Rattle.vol_types.specs.KeyMaps.{Entries, IsKeyMap, KeyMap, with_updates}
use Rattle.vol_types.specs.declared.keys.Update.{Update}
use Rattle.vol_types.specs.declared.positions.Btree.{Btree}
use Rattle.crash_safety.specs.KeptLeaves.{IsFreshKept, KeepsLeaves, LieWell}
use Rattle.crash_safety.specs.CheckpointLeaves.{FreshLeaf, Leaves}
use Rattle.crash_safety.specs.LeafSteps.{HoldBack, settled_leaves}

-- What a btree's node holds, and the keys, once the first needed entries are passed and a next one is durable; and the buckets then.
pub record SettleLaws : Type 0 where
  pub shifts : (needed : List FoundEntry) (before : KeyMap) (oldest passed : ℕ) (btree : Btree) (pin : Option ℕ) (entries : Entries) (next : FoundEntry) → HoldsUpTo needed before oldest btree pin entries → passed ≤ length needed
      → IsFrom pin (oldest + passed) → (ChangesBtree btree next.entry.updates → IsPinnedUpTo pin (oldest + length needed))
      → HoldsUpTo (drop passed needed ++ next ∷ []) (with_updates (updates_of (take passed needed)) before) (oldest + passed) btree pin entries
  pub keys : (needed : List FoundEntry) (before : KeyMap) (passed : ℕ) (next : FoundEntry)
      → with_updates next.entry.updates (with_updates (updates_of needed) before) ≡ with_updates (updates_of (drop passed needed ++ next ∷ [])) (with_updates (updates_of (take passed needed)) before)
  pub map : (needed : List FoundEntry) (before : KeyMap) (passed : ℕ) → IsKeyMap before → IsKeyMap (with_updates (updates_of (take passed needed)) before)
  pub space : (past seq : ℕ) (space : Space) → seq ≤ past → KeepsNodes past space (settled_space seq space)

-- What holds of all members holds of the later ones.
all_right : {X : Type 0} (P : X → Type 0) (xs ys : List X) → All P (xs ++ ys) → All P ys
all_right P [] ys all = all
all_right P (x ∷ xs) ys all = all_right P xs ys (All-tail P x (xs ++ ys) all)

-- The updates of the entries that are needed then are of leaves.
left_of_leaves : (passed : ℕ) (needed : List FoundEntry) (next : FoundEntry) → All IsOfLeaf (updates_of needed) → All IsOfLeaf next.entry.updates → All IsOfLeaf (updates_of (drop passed needed ++ next ∷ []))
left_of_leaves passed needed next leaves others =
    let all : updates_of (drop passed needed ++ next ∷ []) ≡ updates_of (drop passed needed) ++ next.entry.updates = updates_of-append (drop passed needed) (next ∷ []) ∙ ap (λ (us : List Update). updates_of (drop passed needed) ++ us) (append-nil next.entry.updates) in
    let split : updates_of needed ≡ updates_of (take passed needed) ++ updates_of (drop passed needed) = ap updates_of (sym (take-append-drop passed needed)) ∙ updates_of-append (take passed needed) (drop passed needed) in
    subst (All IsOfLeaf) (sym all) (All-append IsOfLeaf (updates_of (drop passed needed)) next.entry.updates
    (all_right IsOfLeaf (updates_of (take passed needed)) (updates_of (drop passed needed)) (subst (All IsOfLeaf) split leaves)) others)

module _ (laws : SettleLaws) (f : Found) (w : Writing) (state : DevicesState) (l : Leaves) (keeps : KeepsLeaves f (Some w) state l) where
  abbrev sequence : ℕ
  sequence = w.next.entry.sequence

  -- What held nodes still does, and so does what is held past the entry.
  nodes_kept : KeepsNodes sequence l.space (settled_space sequence l.space)
  nodes_kept = laws.space sequence sequence l.space (omega arith)

  settled_lie : LieWell (after w f) None (settled_leaves sequence l)
  settled_lie = record {
    fixed = nodes_kept.fixed f.layout keeps.lie.fixed;
    roots = λ btree k d within. nodes_kept.nodes (get_or (l.root btree).places k d) (keeps.lie.roots btree k d within);
    fresh = λ n leaf lower k d within. nodes_kept.nodes (get_or (get_or l.fresh n leaf).node.places k d) (keeps.lie.fresh n leaf lower k d within);
    found = λ k d within. nodes_kept.held (get_or (node_places (after w f)) k d) (keeps.lie.next k d within);
    next = tt;
    roots_placed = keeps.lie.roots_placed;
    found_placed = keeps.lie.next_placed;
    next_placed = tt;
    roots_apart = keeps.lie.roots_apart;
    fresh_apart = keeps.lie.fresh_apart;
    apart_roots = keeps.lie.apart_roots;
    apart_found = keeps.lie.apart_next;
    apart_next = tt;
  }

  module _ (within : w.passed ≤ length f.needed) (oldest : w.next.entry.oldest ≡ f.last.entry.oldest + w.passed) (behind : sequence ≡ f.last.entry.oldest + length f.needed) where
    abbrev before : KeyMap
    before = with_updates (updates_of (take w.passed f.needed)) keeps.before

    -- A node that held the keys up to an entry still does.
    shifted : (btree : Btree) (pin : Option ℕ) (entries : Entries) → HoldsUpTo f.needed keeps.before f.last.entry.oldest btree pin entries → IsFrom pin (f.last.entry.oldest + w.passed)
        → (ChangesBtree btree w.next.entry.updates → IsPinnedUpTo pin sequence) → HoldsUpTo (after w f).needed before w.next.entry.oldest btree pin entries
    shifted btree pin entries holds from changes =
        subst (λ (n : ℕ). HoldsUpTo (after w f).needed before n btree pin entries) (sym oldest)
        (laws.shifts f.needed keeps.before f.last.entry.oldest w.passed btree pin entries w.next holds within from (λ changed. subst (IsPinnedUpTo pin) behind (changes changed)))

    settled_fresh : (fresh : FreshLeaf) → IsFreshKept f keeps.before state fresh → IsFrom fresh.later (f.last.entry.oldest + w.passed) → (ChangesBtree fresh.btree w.next.entry.updates → IsPinnedUpTo fresh.later sequence)
        → IsFreshKept (after w f) before state fresh
    settled_fresh fresh kept from changes = record {
      leaf = kept.leaf;
      mirrored = kept.mirrored;
      placed = kept.placed;
      born = kept.born;
      entries = kept.entries;
      planned = kept.planned;
      holds = shifted fresh.btree fresh.later kept.entries kept.holds from changes;
      few = kept.few;
      stand = kept.stand;
    }

    settled_state : HoldBack f w l → w.trees.keys ≡ with_updates w.next.entry.updates f.trees.keys → All IsOfLeaf w.next.entry.updates → KeepsLeaves (after w f) None state (settled_leaves sequence l)
    settled_state back keys leaves = record {
      layout = keeps.layout;
      before = before;
      are_keys = laws.map f.needed keeps.before w.passed keeps.are_keys;
      keys = keys ∙ ap (with_updates w.next.entry.updates) keeps.keys ∙ laws.keys f.needed keeps.before w.passed w.next;
      of_leaves = left_of_leaves w.passed f.needed w.next keeps.of_leaves leaves;
      content = keeps.content;
      stand = keeps.stand;
      births = keeps.births;
      holds = λ btree. shifted btree (l.pin btree) (keeps.content btree).entries (keeps.holds btree) (back.pins btree) (back.changes btree);
      fresh = λ k d lower. settled_fresh (get_or l.fresh k d) (keeps.fresh k d lower) (back.later k d lower) (back.later_changes k d lower);
      lie = settled_lie;
    }

pub settled_kept : SettleLaws → (f : Found) (w : Writing) (state : DevicesState) (l : Leaves) → KeepsLeaves f (Some w) state l → HoldBack f w l → w.passed ≤ length f.needed → w.next.entry.oldest ≡ f.last.entry.oldest + w.passed
    → w.next.entry.sequence ≡ f.last.entry.sequence + 1 → f.last.entry.oldest + length f.needed ≡ f.last.entry.sequence + 1 → w.trees.keys ≡ with_updates w.next.entry.updates f.trees.keys → All IsOfLeaf w.next.entry.updates
    → KeepsLeaves (after w f) None state (settled_leaves w.next.entry.sequence l)
settled_kept laws f w state l keeps back within oldest follows all keys leaves = settled_state laws f w state l keeps within oldest (follows ∙ sym all) back keys leaves
