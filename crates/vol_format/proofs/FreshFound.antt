-- An image that holds the blocks of a fresh volume is the fresh volume.
use Rattle.std.proofs.Common.{◌≡◌, ℕ, zero, suc, ◌+◌, ◌*◌, ◌/◌, ◌%◌, ◌^◌, ◌<◌, ◌≤◌, inl, true, List, [], ◌∷◌, Some, None, Ok, refl, ap, ◌∙◌, sym, subst, arith, All}
use Rattle.std.specs.Prelude.{Contains, option_and_then, slice_index, slice_index_or}
use Rattle.std.proofs.lemmas.List.Elements.{All-cons, All-contains, All-nil}
use Rattle.dev_model.specs.Disk.{Image, block_at, zeros}
use Rattle.vol_types.specs.declared.layout.Layout.{Layout}
use Rattle.vol_types.specs.Btrees.{btree_code}
use Rattle.vol_types.specs.KeyMaps.{entries_of, keys_in}
use Rattle.vol_types.specs.Limits.{bucket_blocks}
use Rattle.vol_types.specs.Sets.{set_length_of}
use Rattle.vol_types.specs.declared.pointers.NodePtr.{NodePtr}
use Rattle.vol_types.specs.declared.pointers.Place.{Place}
use Rattle.vol_types.specs.declared.positions.Btree.{Btree}
use Rattle.vol_types.specs.declared.positions.Btree.TheVariants.{Extents, Inodes, Dirents, Subvols, Snapshots, Alloc, Backptrs, Deleted, Counters}
use Rattle.geometry.specs.LayoutFacts.{HasPlaces, has_places}
use Rattle.geometry.specs.Layouts.{is_layout_of}
use Rattle.geometry.specs.Sessions.{greater, greatest_session, session_at, session_block, session_in, session_named}
use Rattle.geometry.specs.Superblocks.{layout_in}
use Rattle.journal_ring.specs.Leading.{IsBehind}
use Rattle.journal_ring.specs.declared.found.FoundEntry.{FoundEntry}
use Rattle.key_meaning.specs.Fresh.{fresh_keys}
use Rattle.node_mem.specs.Nodes.{with_keys}
use Rattle.node_store.specs.Plans.{HoldBlocks, blocks_for, part_bytes}
use Rattle.node_store.specs.declared.planning.Blocked.{Blocked}
use Rattle.record_codec.specs.Entries.{IsEntry}
use Rattle.record_codec.specs.Sets.{set_format}
use Rattle.image_view.specs.BaseLaws.{mirrored-passes, sets_in-comes}
use Rattle.image_view.specs.CopyLaws.{copies_agree}
use Rattle.image_view.specs.Found.{IsBelowRoots, IsInOrder, PlacesAgree, found, node_places, read_in, sets_in}
use Rattle.image_view.specs.NewNodes.{AreLeafRoots, HoldSame, wanted_root}
use Rattle.vol_format.specs.declared.fresh.FreshBlocks.{FreshBlocks}
use Rattle.vol_format.specs.Fresh.{AreFreshBlocks, IsRootPlan, first_entry, first_found, fresh_content, fresh_found, fresh_root, fresh_roots, no_bucket, root_set}
use Rattle.vol_format.specs.Formatting.{IsFresh}
use Rattle.vol_format.specs.Laws.{FoundLaws}
use Rattle.vol_format.proofs.Copies.{zeros_closed}
use Rattle.vol_format.proofs.FirstEntry.{HoldsEntry, needed_first, newest_first, only_made, owned_first}
use Rattle.vol_format.proofs.Roots.{All-places, All-roots, is_mirrored, root_at, root_placed, roots_placed}
use Rattle.vol_format.proofs.SameMeaning.{found_of}

-- An image has the layout, and holds on each metadata device session 1, the first entry, and the roots.
pub record HoldsFresh (layout : Layout) (fresh : FreshBlocks) (image : Image) : Type 0 where
  pub layout_is : layout_in image ≡ Ok layout
  pub even : (dev : ℕ) → dev < layout.metadata_replicas → block_at image dev 4 ≡ Some zeros
  pub odd : (dev : ℕ) → dev < layout.metadata_replicas → block_at image dev 5 ≡ Some (session_block layout.id 1)
  pub entry : HoldsEntry layout fresh image
  pub roots : (dev n : ℕ) → dev < layout.metadata_replicas → n < 144 → block_at image dev (16 + layout.journal + n) ≡ Some (part_bytes (slice_index_or fresh.roots (n / 16) no_bucket) (n % 16))

-- ---- the session

named_none : (id : List ℕ) (block : ℕ) → session_named id block zeros ≡ None
unfolding session_named
named_none id block = ap (option_and_then _) zeros_closed

module _ (layout : Layout) (image : Image) (named : session_named layout.id 5 (session_block layout.id 1) ≡ Some 1)
    (even : (dev : ℕ) → dev < layout.metadata_replicas → block_at image dev 4 ≡ Some zeros) (odd : (dev : ℕ) → dev < layout.metadata_replicas → block_at image dev 5 ≡ Some (session_block layout.id 1)) where
  -- Each device names session 1.
  own_session : (dev : ℕ) → dev < layout.metadata_replicas → greater (session_at layout.id image dev 4) (session_at layout.id image dev 5) ≡ Some 1
  own_session dev mirror =
      ap (λ s. greater s (session_at layout.id image dev 5)) (ap (option_and_then (session_named layout.id 4)) (even dev mirror) ∙ named_none layout.id 4)
      ∙ ap (option_and_then (session_named layout.id 5)) (odd dev mirror) ∙ named

  first_session : (count : ℕ) → count < layout.metadata_replicas → greatest_session layout.id image (suc count) ≡ Some 1
  first_session zero mirror = own_session 0 mirror
  first_session (suc count) mirror = ap (λ s. greater s (greater (session_at layout.id image (suc count) 4) (session_at layout.id image (suc count) 5))) (first_session count (omega (arith, mirror))) ∙ ap (greater (Some 1)) (own_session (suc count) mirror)

  named_first : 1 ≤ layout.metadata_replicas → session_in layout image ≡ Some 1
  named_first some = by layout.metadata_replicas refl some
    where
      by : (count : ℕ) → layout.metadata_replicas ≡ count → 1 ≤ count → greatest_session layout.id image count ≡ Some 1
      by zero is some = absurd (omega (arith, some))
      by (suc count) is some = first_session count (omega (arith, is))

-- ---- what the roots hold

-- The keys of each root, one after the other, are its entries; and they take one block.
entries_are : (btree : Btree) → with_keys (keys_in (entries_of fresh_keys btree)) [] ≡ entries_of fresh_keys btree
entries_are Extents = refl
entries_are Inodes = refl
entries_are Dirents = refl
entries_are Subvols = refl
entries_are Snapshots = refl
entries_are Alloc = refl
entries_are Backptrs = refl
entries_are Deleted = refl
entries_are Counters = refl

short_set : (btree : Btree) → (set_length_of (keys_in (entries_of fresh_keys btree)) + 3967) / 3968 ≡ 1
short_set Extents = refl
short_set Inodes = refl
short_set Dirents = refl
short_set Subvols = refl
short_set Snapshots = refl
short_set Alloc = refl
short_set Backptrs = refl
short_set Deleted = refl
short_set Counters = refl

-- The btree with the number of one is this one.
root_set_is : (btree : Btree) → (root_set (btree_code btree)).btree ≡ btree
root_set_is Extents = refl
root_set_is Inodes = refl
root_set_is Dirents = refl
root_set_is Subvols = refl
root_set_is Snapshots = refl
root_set_is Alloc = refl
root_set_is Backptrs = refl
root_set_is Deleted = refl
root_set_is Counters = refl

few_btrees : (btree : Btree) → btree_code btree < 9
few_btrees Extents = omega arith
few_btrees Inodes = omega arith
few_btrees Dirents = omega arith
few_btrees Subvols = omega arith
few_btrees Snapshots = omega arith
few_btrees Alloc = omega arith
few_btrees Backptrs = omega arith
few_btrees Deleted = omega arith
few_btrees Counters = omega arith

-- ---- what is found

module _ (laws : FoundLaws) (layout : Layout) (sizes : List ℕ) (fits : is_layout_of sizes layout ≡ true) (fresh : FreshBlocks) (image : Image) (named : session_named layout.id 5 (session_block layout.id 1) ≡ Some 1) (entry_is : IsEntry (first_entry layout)) (blocks : AreFreshBlocks layout fresh) (holds : HoldsFresh layout fresh image) where
  has : HasPlaces sizes layout
  has = has_places sizes layout fits

  -- the bucket of a root
  abbrev bucket : ℕ → Blocked
  bucket number = slice_index_or fresh.roots number no_bucket

  plan : (number : ℕ) → number < 9 → IsRootPlan layout number (bucket number)
  plan number low = blocks.roots.each number low

  part_stands : (number part dev : ℕ) → number < 9 → part < 16 → dev < layout.metadata_replicas → block_at image dev (16 + layout.journal + 16 * number + part) ≡ Some (part_bytes (bucket number) part)
  part_stands number part dev low within mirror =
      let n : ℕ = 16 * number + part in
      let place : 16 + layout.journal + 16 * number + part ≡ 16 + layout.journal + n = omega arith in
      let quotient : n / 16 ≡ number = omega (arith, within) in
      let rest : n % 16 ≡ part = omega (arith, within) in
      ap (block_at image dev) place ∙ holds.roots dev n mirror (omega (arith, low, within))
      ∙ ap (λ q. Some (part_bytes (bucket q) (n % 16))) quotient ∙ ap (λ r. Some (part_bytes (bucket number) r)) rest

  -- Each place of a root holds its blocks.
  root_holds : (number : ℕ) → number < 9 → HoldBlocks (block_at image) (bucket number)
  root_holds number low place there part within =
      let p = plan number low in
      All-contains (λ (q : Place). block_at image q.dev (q.block + ((bucket number).block + part)) ≡ Some (part_bytes (bucket number) part)) (fresh_root layout number).places place
      (All-places (λ (q : Place). block_at image q.dev (q.block + ((bucket number).block + part)) ≡ Some (part_bytes (bucket number) part)) layout number
      (λ dev mirror. ap (λ first. block_at image dev (16 + layout.journal + 16 * number + (first + part))) p.first ∙ ap (block_at image dev) (let e : 16 + layout.journal + 16 * number + (0 + part) ≡ 16 + layout.journal + 16 * number + part = omega arith in e) ∙ part_stands number part dev low (omega (arith, within, p.whole)) mirror))
      (subst (λ (places : List Place). Contains places place) p.places there)

  -- So its sets come to what it holds.
  root_comes : (btree : Btree) → sets_in layout image (wanted_root btree (fresh_root layout (btree_code btree))) ≡ Ok (fresh_content btree)
  root_comes btree =
      let number : ℕ = btree_code btree in
      let root : NodePtr = fresh_root layout number in
      let is : (root_set number).btree ≡ btree = root_set_is btree in
      let content = (plan number (few_btrees btree)).holds (block_at image) (root_holds number (few_btrees btree)) in
      let length_is : blocks_for (set_format.encode (root_set number)) ≡ 1 = ap (λ n. (n + 3967) / 3968) (laws.set_lengths (root_set number) ∙ ap (λ b. set_length_of (keys_in (entries_of fresh_keys b))) is) ∙ short_set btree in
      let inside : All (λ (place : Place). place.block + bucket_blocks ≤ slice_index layout.blocks place.dev) root.places =
      All-places (λ (place : Place). place.block + bucket_blocks ≤ slice_index layout.blocks place.dev) layout number (λ dev mirror. (root_placed sizes layout fits number dev (few_btrees btree) mirror).on_device) in
      ap (λ b. sets_in layout image (wanted_root b root)) (sym is)
      ∙ sets_in-comes layout image (wanted_root (root_set number).btree root)
      (record { entries = with_keys (keys_in (entries_of fresh_keys (root_set number).btree)) []; end = blocks_for (set_format.encode (root_set number)) })
      (mirrored-passes layout root (is_mirrored layout number) inside) content
      ∙ ap (λ b. Ok (record { entries = with_keys (keys_in (entries_of fresh_keys b)) []; end = blocks_for (set_format.encode (root_set number)) })) is
      ∙ ap (λ end. Ok (record { entries = with_keys (keys_in (entries_of fresh_keys btree)) []; end = end })) length_is
      ∙ ap (λ entries. Ok (record { entries = entries; end = 1 })) (entries_are btree)

  leaf_roots : AreLeafRoots (sets_in layout image) (fresh_roots layout) fresh_content
  leaf_roots = record {
    nine = refl;
    leaves = All-roots (λ (root : NodePtr). root.level ≡ 0) layout (λ number low. refl);
    each = λ btree root is. subst (λ (r : NodePtr). sets_in layout image (wanted_root btree r) ≡ Ok (fresh_content btree)) (sym (root_at layout (btree_code btree) root is).1) (root_comes btree);
    births = λ place other one same at there birth.
        let first = ap (λ (r : NodePtr). r.birth) (root_at layout place one at).1 in
        let second = ap (λ (r : NodePtr). r.birth) (root_at layout other same there).1 in
        omega (arith, birth, first, second);
  }

  -- What is found is the fresh volume.
  pub finds_fresh : found image ≡ Ok (fresh_found layout)
  finds_fresh = found_of image (fresh_found layout) holds.layout_is
      (named_first layout image named holds.even holds.odd has.mirrored)
      (newest_first laws.entries layout fresh image has.least has.mirrored has.mirrors_few entry_is blocks holds.entry)
      (needed_first laws.entries layout fresh image has.least has.mirrored has.mirrors_few entry_is blocks holds.entry)
      (laws.leaves layout image (fresh_roots layout) fresh_content leaf_roots)

  -- The places of a root hold the same.
  same_places : (number : ℕ) → number < 9 → HoldSame image (fresh_root layout number)
  same_places number low one other there here n few =
      let holds_at : (place : Place) → Contains (fresh_root layout number).places place → block_at image place.dev (place.block + n) ≡ Some (part_bytes (bucket number) n) = λ place at.
      All-contains (λ (q : Place). block_at image q.dev (q.block + n) ≡ Some (part_bytes (bucket number) n)) (fresh_root layout number).places place
      (All-places (λ (q : Place). block_at image q.dev (q.block + n) ≡ Some (part_bytes (bucket number) n)) layout number (λ dev mirror. part_stands number n dev low few mirror)) at in
      holds_at one there ∙ sym (holds_at other here)

  -- It is in order.
  pub fresh_in_order : IsInOrder (fresh_found layout) image
  fresh_in_order = record {
    entries = tt;
    fits = All-cons (λ (one : FoundEntry). All (λ (other : FoundEntry). other.end ≤ one.number + layout.journal) (first_found layout ∷ [])) (first_found layout) []
        (All-cons (λ (other : FoundEntry). other.end ≤ 0 + layout.journal) (first_found layout) [] (omega (arith, has.least)) (All-nil (λ (other : FoundEntry). other.end ≤ 0 + layout.journal)))
        (All-nil (λ (one : FoundEntry). All (λ (other : FoundEntry). other.end ≤ one.number + layout.journal) (first_found layout ∷ [])));
    others = λ entry bs made.
        let is = only_made laws.entries layout fresh image has.least has.mirrored has.mirrors_few entry_is blocks holds.entry entry bs made in
        record {
          sequence = omega (arith, ap (λ (e : FoundEntry). e.entry.sequence) is);
          behind = All-cons (λ (needed : FoundEntry). entry.entry.sequence ≡ needed.entry.sequence → IsBehind entry needed) (first_found layout) [] (λ same. inl is) (All-nil (λ (needed : FoundEntry). entry.entry.sequence ≡ needed.entry.sequence → IsBehind entry needed));
        };
    owners = owned_first laws.entries layout fresh image has.least has.mirrored has.mirrors_few entry_is blocks holds.entry;
    levels = All-cons (λ (one : FoundEntry). IsBelowRoots one.entry) (first_found layout) [] (All-nil _) (All-nil (λ (one : FoundEntry). IsBelowRoots one.entry));
    agree = record { each = All-roots (PlacesAgree layout.id image) layout (λ number low. copies_agree layout.id image (fresh_root layout number) (same_places number low)) };
    births = All-roots (λ (node : NodePtr). node.birth < (1 + 1) * 2 ^ 32) layout (λ number low. omega (arith, low));
  }

  -- So the image is the fresh volume.
  pub is_fresh : IsFresh layout image
  is_fresh =
      let placed = roots_placed sizes layout fits in
      record {
        finds = finds_fresh;
        placed = placed;
        mounts = record {
          f = fresh_found layout;
          finds = finds_fresh;
          sound = laws.sound (node_places (fresh_found layout)) layout placed;
          volume_is = ap (λ forest. record { layout = layout; commits = 0; forest = forest }) (sym (laws.means (read_in image)));
        };
        in_order = fresh_in_order;
      }
