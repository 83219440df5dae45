-- All that is kept of btrees is kept while the buckets of their nodes stay, and where more is pinned.
use Rattle.std.proofs.Common.{◌≡◌, ℕ, List, ◌++◌, length, map, get_or, Option, None, Some, refl, sym, subst, arith, ◌<◌, ap}
use Rattle.std.specs.List.{AllPairs}
use Rattle.std.specs.Prelude.{All, IfSome, slice_get}
use Rattle.std.proofs.lemmas.Option.{slice_get-get_or}
use Rattle.dev_model.specs.Devices.{DevicesState}
use Rattle.image_view.specs.Found.{Found}
use Rattle.image_view.specs.Trees.{nodes_of}
use Rattle.key_meaning.specs.Checks.{IsNodePlaced}
use Rattle.vol_types.specs.declared.pointers.NodePtr.{NodePtr}
use Rattle.crash_safety.specs.Writings.{Writing, after}
use Rattle.btree_safety.specs.CheckpointBtrees.{Btrees, FreshNode, NotesAsMuch, own_places}
use Rattle.btree_safety.specs.FreshNodes.{content_of_set}
use Rattle.btree_safety.specs.KeptBtrees.{ArePlacesApart, ArePlacesTaken, IsFreshKept, KeepsBtrees, LieApartFrom}
use Rattle.btree_safety.specs.KeptKeys.{PinNoLess, Pins}
use Rattle.btree_safety.specs.StayingNodes.{StayAsRead, StaysAsRead}
use Rattle.btree_safety.proofs.OwnPlaces.{noted_places}
use Rattle.btree_safety.proofs.Pinned.{CountLaws, moves}
use Rattle.btree_safety.proofs.StayingBtrees.{StayLaw, all_stay, btrees_stay}
use Rattle.btree_safety.proofs.WrittenNodes.{written_stay}

-- ---- calls

module _ (law : StayLaw) (f : Found) (writing : Option Writing) (old new : DevicesState) (b : Btrees) (keeps : KeepsBtrees f writing old b) where
  -- All is kept where the buckets of all nodes stay, also of those that are written.
  pub stays_kept : StayAsRead old new b.trees → All (λ (fresh : FreshNode). StaysAsRead old new fresh.wanted.pointer) b.fresh → KeepsBtrees f writing new b
  stays_kept nodes fresh = record {
    layout = keeps.layout;
    before = keeps.before;
    are_keys = keeps.are_keys;
    widths = keeps.widths;
    keys = keeps.keys;
    of_leaves = keeps.of_leaves;
    content = keeps.content;
    stand = btrees_stay law f.layout f.session b.roots b.trees keeps.content old new nodes keeps.stand;
    holds = keeps.holds;
    fresh = λ k d within.
        let one = get_or b.fresh k d in
        let kept = keeps.fresh k d within in
        record { stands = written_stay f.layout f.session one.wanted one.set one.blocked one.written old new (fresh k d within) kept.stands; holds = kept.holds };
    lie = keeps.lie;
  }

  -- So it is where those of each node do that lies where nodes may.
  pub called_kept : ((node : NodePtr) → All (IsNodePlaced f.layout) node.places → StaysAsRead old new node) → KeepsBtrees f writing new b
  called_kept so = stays_kept (all_stay f.layout f.session b.roots b.trees keeps.content old new keeps.stand so) (λ k d within. so (get_or b.fresh k d).wanted.pointer (keeps.fresh k d within).stands.planned.placed)

-- ---- pins

module _ (counts : CountLaws) (f : Found) (writing : Option Writing) (state : DevicesState) (b : Btrees) (pin : Pins) (fresh : List FreshNode) (keeps : KeepsBtrees f writing state b) (more : PinNoLess b.trees b.pin pin) (count : length fresh ≡ length b.fresh)
    (notes : (index : ℕ) (one other : FreshNode) → slice_get b.fresh index ≡ Some one → slice_get fresh index ≡ Some other → NotesAsMuch one other) where
  -- Each node that is written is the one that was at its index, but for what it lacks.
  noted : (k : ℕ) (d : FreshNode) → k < length fresh → NotesAsMuch (get_or b.fresh k d) (get_or fresh k d)
  noted k d within = notes k (get_or b.fresh k d) (get_or fresh k d) (slice_get-get_or b.fresh k d (omega (arith, within, count))) (slice_get-get_or fresh k d within)

  -- They have the same places.
  same_places : map (λ (one : FreshNode). one.wanted.pointer.places) fresh ++ b.taken ≡ own_places b
  same_places = noted_places b fresh count (λ k one other at there. ap (λ (node : FreshNode). node.wanted.pointer.places) (notes k one other at there).0)

  fresh_noted : (one other : FreshNode) → NotesAsMuch one other → IsFreshKept f keeps.before state one → IsFreshKept f keeps.before state other
  fresh_noted one other more kept = subst (IsFreshKept f keeps.before state) (sym more.0) (record {
    stands = kept.stands;
    holds = λ pos own. moves counts f.needed keeps.before f.last.entry.oldest one.wanted.btree one.later (content_of_set one.set).entries pos (kept.holds pos (record { leaf = own.leaf; fits = own.fits; within = own.within })) other.later (content_of_set one.set).entries more.1 refl;
  })

  pub pinned_kept : KeepsBtrees f writing state (record b { pin = pin; fresh = fresh })
  pinned_kept = record {
    layout = keeps.layout;
    before = keeps.before;
    are_keys = keeps.are_keys;
    widths = keeps.widths;
    keys = keeps.keys;
    of_leaves = keeps.of_leaves;
    content = keeps.content;
    stand = keeps.stand;
    holds = λ btree pos leaf fits covers. moves counts f.needed keeps.before f.last.entry.oldest btree (b.pin leaf.1.birth) (keeps.content btree leaf.1).entries pos (keeps.holds btree pos leaf fits covers) (pin leaf.1.birth) (keeps.content btree leaf.1).entries (more btree pos leaf covers) refl;
    fresh = λ k d within. fresh_noted (get_or b.fresh k d) (get_or fresh k d) (noted k d within) (keeps.fresh k d (omega (arith, within, count)));
    lie = record {
      fixed = keeps.lie.fixed;
      nodes = keeps.lie.nodes;
      own = subst (All (ArePlacesTaken f.layout b.space)) (sym same_places) keeps.lie.own;
      found = keeps.lie.found;
      next = keeps.lie.next;
      nodes_placed = keeps.lie.nodes_placed;
      found_placed = keeps.lie.found_placed;
      next_placed = keeps.lie.next_placed;
      own_apart = subst (AllPairs ArePlacesApart) (sym same_places) keeps.lie.own_apart;
      apart_nodes = subst (All (LieApartFrom (nodes_of b.trees))) (sym same_places) keeps.lie.apart_nodes;
      apart_found = subst (All (LieApartFrom (nodes_of f.trees.nodes))) (sym same_places) keeps.lie.apart_found;
      apart_next = next_apart writing keeps.lie.apart_next;
    };
  }
    where
      next_apart : (o : Option Writing) → IfSome o (λ w. All (LieApartFrom (nodes_of (after w f).trees.nodes)) (own_places b)) → IfSome o (λ w. All (LieApartFrom (nodes_of (after w f).trees.nodes)) (map (λ (one : FreshNode). one.wanted.pointer.places) fresh ++ b.taken))
      next_apart None apart = tt
      next_apart (Some w) apart = subst (All (LieApartFrom (nodes_of (after w f).trees.nodes))) (sym same_places) apart
