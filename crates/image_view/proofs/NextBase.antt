-- The places of the next entry are none that what was found hangs on: it begins behind the needed entries and ends before the place of any of
-- them comes again.
use Rattle.std.proofs.Common.{◌≡◌, ◌≢◌, ⊎_elim, ℕ, zero, suc, ◌+◌, ◌/◌, ◌%◌, ◌<◌, ◌≤◌, Bool, true, cond, List, [], ◌∷◌, ◌++◌, length, map, drop, get_or, Ok, sym, ap, subst, arith}
use Rattle.std.proofs.lemmas.Bool.{cases_lt, lt-ltb}
use Rattle.std.proofs.lemmas.List.{drop-append-le, drop_all, length_push}
use Rattle.std.proofs.lemmas.List.Elements.{All-cons, All-from_get_or, All-head, All-nil, All-tail, All-weaker}
use Rattle.std.proofs.lemmas.Nat.{div-add-mod', mul-le, row_fits}
use Rattle.std.specs.List.{flat_map}
use Rattle.std.specs.Prelude.{All, nat_lt}
use Rattle.dev_model.specs.Crashes.{SameBut}
use Rattle.dev_model.specs.Disk.{Image}
use Rattle.key_meaning.specs.Checks.{AreNodesPlaced, IsNodePlaced, kept_buckets}
use Rattle.journal_ring.specs.Entries.{AgreeFrom, IsWhole}
use Rattle.journal_ring.specs.EntryBlocks.{parts_of}
use Rattle.journal_ring.specs.MadeOf.{made_of}
use Rattle.journal_ring.specs.Parts.{area_of}
use Rattle.journal_ring.specs.declared.found.FoundEntry.{FoundEntry}
use Rattle.vol_types.specs.Limits.{bucket_blocks}
use Rattle.vol_types.specs.declared.pointers.NodePtr.{NodePtr}
use Rattle.vol_types.specs.declared.pointers.Place.{Place}
use Rattle.image_view.proofs.NeededEntries.{AreNeeded, are_needed, needed_whole, places_of, some_places}
use Rattle.image_view.proofs.NextBlocks.{BlockLaws}
use Rattle.image_view.proofs.OtherSession.{all_of_each}
use Rattle.image_view.specs.Bases.{AgreeAt, AgreeInBucket, AgreeOnBase, AgreeOnNode, AgreeOnNodes}
use Rattle.image_view.specs.Found.{FollowOn, Found, IsInOrder, found, node_places}
use Rattle.image_view.specs.Mends.{IsPlaceOf}
use Rattle.image_view.specs.NextEntries.{IsNext}
use Rattle.image_view.specs.Trees.{nodes_of}

-- ---- entries that follow each other

-- The entry ends no earlier than it begins.
abbrev IsLong : FoundEntry → Type 0
IsLong entry = entry.number ≤ entry.end

-- The first of them has the least number.
least_first : (first : FoundEntry) (entries : List FoundEntry) → FollowOn (first ∷ entries) → All IsLong (first ∷ entries) → All (λ (x : FoundEntry). first.number ≤ x.number) (first ∷ entries)
least_first first [] follow long = All-cons (λ (x : FoundEntry). first.number ≤ x.number) first [] (omega arith) (All-nil (λ (x : FoundEntry). first.number ≤ x.number))
least_first first (next ∷ entries) follow long =
    let at : next.number ≡ first.end = follow.0 in
    let here : first.number ≤ first.end = All-head IsLong first (next ∷ entries) long in
    All-cons (λ (x : FoundEntry). first.number ≤ x.number) first (next ∷ entries) (omega arith)
    (All-weaker (λ (x : FoundEntry). next.number ≤ x.number) (λ (x : FoundEntry). first.number ≤ x.number) (λ x less. omega (arith, at, here, less)) (next ∷ entries)
    (least_first next entries follow.1 (All-tail IsLong first (next ∷ entries) long)))

-- The last of them ends last.
last_ends : (entries : List FoundEntry) (last : FoundEntry) → FollowOn (entries ++ last ∷ []) → All IsLong (entries ++ last ∷ []) → All (λ (x : FoundEntry). x.end ≤ last.end) (entries ++ last ∷ [])
last_ends [] last follow long = All-cons (λ (x : FoundEntry). x.end ≤ last.end) last [] (omega arith) (All-nil (λ (x : FoundEntry). x.end ≤ last.end))
last_ends (x ∷ []) last follow long =
    let at : last.number ≡ x.end = follow.0 in
    let rest : All IsLong (last ∷ []) = All-tail IsLong x (last ∷ []) long in
    let here : last.number ≤ last.end = All-head IsLong last [] rest in
    All-cons (λ (y : FoundEntry). y.end ≤ last.end) x (last ∷ []) (omega (arith, at, here)) (last_ends [] last follow.1 rest)
last_ends (x ∷ y ∷ entries) last follow long =
    let at : y.number ≡ x.end = follow.0 in
    let rest : All IsLong (y ∷ entries ++ last ∷ []) = All-tail IsLong x (y ∷ entries ++ last ∷ []) long in
    let here : y.number ≤ y.end = All-head IsLong y (entries ++ last ∷ []) rest in
    let ends = last_ends (y ∷ entries) last follow.1 rest in
    let later : y.end ≤ last.end = All-head (λ (z : FoundEntry). z.end ≤ last.end) y (entries ++ last ∷ []) ends in
    All-cons (λ (z : FoundEntry). z.end ≤ last.end) x (y ∷ entries ++ last ∷ []) (omega (arith, at, here, later)) ends

-- One more that begins where the last one ends follows too.
follow_push : (entries : List FoundEntry) (last next : FoundEntry) → FollowOn (entries ++ last ∷ []) → next.number ≡ last.end → FollowOn ((entries ++ last ∷ []) ++ next ∷ [])
follow_push [] last next follow at = (at, tt)
follow_push (x ∷ []) last next follow at = (follow.0, (at, tt))
follow_push (x ∷ y ∷ entries) last next follow at = (follow.0, follow_push (y ∷ entries) last next follow.1 at)

-- What is left of them follows.
follow_drop : (n : ℕ) (entries : List FoundEntry) → FollowOn entries → FollowOn (drop n entries)
follow_drop zero entries follow = follow
follow_drop (suc n) [] follow = follow
follow_drop (suc n) (x ∷ []) follow = follow_drop n [] tt
follow_drop (suc n) (x ∷ y ∷ entries) follow = follow_drop n (y ∷ entries) follow.1

-- And so it is with what is left and one more.
pub follow_kept : (n : ℕ) (before : List FoundEntry) (last next : FoundEntry) → FollowOn (before ++ last ∷ []) → next.number ≡ last.end → FollowOn (drop n (before ++ last ∷ []) ++ next ∷ [])
follow_kept n before last next follow at = ⊎_elim
    (λ (all : length before < n). subst (λ (xs : List FoundEntry). FollowOn (xs ++ next ∷ [])) (sym (drop_all n (before ++ last ∷ []) (omega (arith, all, length_push before last)))) tt)
    (λ (some : n ≤ length before).
    let kept : drop n (before ++ last ∷ []) ≡ drop n before ++ last ∷ [] = drop-append-le n before (last ∷ []) some in
    subst (λ (xs : List FoundEntry). FollowOn (xs ++ next ∷ [])) (sym kept) (follow_push (drop n before) last next (subst FollowOn kept (follow_drop n (before ++ last ∷ []) follow)) at))
    (cases_lt (length before) n)

-- ---- places

-- Two numbers less than the length of the area apart have different places.
other_place : (journal a b : ℕ) → a < b → b < a + journal → a % journal ≢ b % journal
other_place journal a b less near same = ⊎_elim
    (λ (up : a / journal < b / journal). omega (arith, div-add-mod' a journal, div-add-mod' b journal, same, near, row_fits (a / journal) journal (b / journal) journal up (omega arith)))
    (λ (no_more : b / journal ≤ a / journal). omega (arith, div-add-mod' a journal, div-add-mod' b journal, same, less, mul-le (b / journal) journal (a / journal) journal no_more (omega arith)))
    (cases_lt (a / journal) (b / journal))

kept_mirror : (test : Bool) (count : ℕ) → test ≡ true → cond {A = ℕ} test (1 + count) 1 ≡ 1 + count
kept_mirror test count is = ap (λ b. cond {A = ℕ} b (1 + count) 1) is

-- ---- the images

module _ (laws : BlockLaws) (one : Image) (f : Found) (is : found one ≡ Ok f) (order : IsInOrder f one) (passed : ℕ) (next : FoundEntry) (is_next : IsNext f passed next) where
  needed : AreNeeded f
  needed = are_needed laws.newest.read one f is

  some : 0 < f.layout.journal
  some = some_places laws.newest.read one f is

  wide : 256 ≤ f.layout.journal
  wide = (places_of laws.newest.read one f is).least

  all_long : All IsLong f.needed
  all_long = All-weaker (IsWhole f.layout (area_of one)) IsLong (λ x whole. let m = made_of f.layout (area_of one) whole.0 x whole.1 in let end = m.1.end in omega (arith, end)) f.needed (needed_whole laws.newest.read one f is)

  -- Each needed entry ends before the next one begins,
  pub ends_before : (k : ℕ) → k < length f.needed → (get_or f.needed k f.last).end ≤ next.number
  ends_before k lower =
      let ends = last_ends needed.before f.last (subst FollowOn needed.are order.entries) (subst (All IsLong) needed.are all_long) in
      let here : (get_or f.needed k f.last).end ≤ f.last.end = (subst (All (λ (x : FoundEntry). x.end ≤ f.last.end)) (sym needed.are) ends) k f.last lower in
      let at = is_next.number in
      omega (arith, here, at)

  -- and that ends before the place of any of them comes again.
  begins_by : (entries : List FoundEntry) → FollowOn entries → All IsLong entries → (k : ℕ) → k < length entries → (get_or entries 0 f.last).number ≤ (get_or entries k f.last).number
  begins_by [] follow long k lower = absurd (omega (arith, lower))
  begins_by (x ∷ entries) follow long k lower = least_first x entries follow long k f.last lower

  pub room_for : (k : ℕ) → k < length f.needed → next.end ≤ (get_or f.needed k f.last).number + f.layout.journal
  room_for k lower =
      let first = begins_by f.needed order.entries all_long k lower in
      let room = is_next.room in
      omega (arith, first, room)

  -- ---- what is written

  module _ (other : Image) (lengths : map (λ blocks. length blocks) one ≡ map (λ blocks. length blocks) other) (count : ℕ) (few : count ≤ parts_of next.entry) (elsewhere : SameBut (IsPlaceOf f.layout next count) one other) where
    low_same : (dev block : ℕ) → block < 16 → AgreeAt one other dev block
    low_same dev block low = elsewhere dev block (λ (hit : IsPlaceOf f.layout next count dev block). let there = hit.place in omega (arith, low, there))

    bucket_same : (place : Place) → IsNodePlaced f.layout place → AgreeInBucket one other place
    bucket_same place node n low = elsewhere place.dev (place.block + n) (λ (hit : IsPlaceOf f.layout next count place.dev (place.block + n)).
        let kept : kept_buckets f.layout place.dev ≡ 1 + f.layout.journal / bucket_blocks = kept_mirror (nat_lt place.dev f.layout.metadata_replicas) (f.layout.journal / bucket_blocks) (lt-ltb place.dev f.layout.metadata_replicas hit.mirror) in
        let behind = node.behind in
        let there = hit.place in
        let whole = (places_of laws.newest.read one f is).journal_whole in
        omega (arith, kept, behind, there, whole, some))

    nodes_same : (nodes : List NodePtr) → All (IsNodePlaced f.layout) (flat_map (λ (node : NodePtr). node.places) nodes) → All (AgreeOnNode one other) nodes
    nodes_same nodes each = All-weaker (λ (node : NodePtr). All (IsNodePlaced f.layout) node.places) (AgreeOnNode one other)
        (λ node all. All-weaker (IsNodePlaced f.layout) (AgreeInBucket one other) bucket_same node.places all) nodes
        (all_of_each (IsNodePlaced f.layout) (λ (node : NodePtr). node.places) nodes each)

    -- The image agrees with the one before on the base of what was found there.
    pub base_stays : AreNodesPlaced (node_places f) f.layout → AgreeOnBase f one other
    base_stays placed = record {
      lengths = lengths;
      first_copies = λ dev. low_same dev 0 (omega arith);
      second_copies = λ dev. low_same dev 8 (omega arith);
      even_sessions = λ dev within. low_same dev 4 (omega arith);
      odd_sessions = λ dev within. low_same dev 5 (omega arith);
      entries = All-from_get_or (λ (entry : FoundEntry). AgreeFrom f.layout (area_of one) (area_of other) entry.number entry.end) f.needed f.last (λ k lower dev number mirror from before.
          elsewhere dev (16 + number % f.layout.journal) (λ (hit : IsPlaceOf f.layout next count dev (16 + number % f.layout.journal)).
          let there = hit.place in
          let within = hit.within in
          let ends = is_next.end in
          other_place f.layout.journal number (next.number + hit.part) (omega (arith, before, ends_before k lower)) (omega (arith, within, few, ends, from, room_for k lower)) (omega (arith, there))));
      nodes = nodes_same (nodes_of f.trees.nodes) placed.each;
    }

    -- It agrees on the nodes of other btrees that lie where nodes may.
    pub nodes_stay : (g : Found) → AreNodesPlaced (node_places g) f.layout → AgreeOnNodes g one other
    nodes_stay g each = record {
      lengths = lengths;
      first_copies = λ dev. low_same dev 0 (omega arith);
      second_copies = λ dev. low_same dev 8 (omega arith);
      nodes = nodes_same (nodes_of g.trees.nodes) each.each;
    }
