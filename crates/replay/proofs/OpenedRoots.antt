-- What mending its roots leaves of a volume: whatever a crash leaves means the same, and then the volume is ready.
use Rattle.std.proofs.Common.{◌≡◌, ◌⊎◌, inl, inr, ⊎_elim, ℕ, ◌+◌, ◌%◌, ◌<◌, ◌≤◌, IsTrue, true, List, length, map, get_or, Some, Ok, refl, sym, ap, subst, ◌∙◌, arith}
use Rattle.std.specs.Prelude.{All, Contains}
use Rattle.std.proofs.lemmas.Bool.{cases_lt}
use Rattle.std.proofs.lemmas.List.Elements.{All-contains, All-from_get_or, All-get_or, All-weaker, Contains-get_or}
use Rattle.std.proofs.lemmas.Nat.{mod_below}
use Rattle.std.proofs.lemmas.Option.{same_Some}
use Rattle.dev_model.specs.CrashLaws.{as_read_may_be_left}
use Rattle.dev_model.specs.Crashes.{EachCrash, IsQuiet, SameBut}
use Rattle.dev_model.specs.Devices.{DevicesState, now}
use Rattle.dev_model.specs.Disk.{Disk, Image, IsCrashImage, IsDisk, as_read, block_at}
use Rattle.dev_model.specs.HeldBlocks.{HaveHeld}
use Rattle.geometry.specs.Faults.{DeviceFailed}
use Rattle.geometry.specs.LayoutFacts.{has_places}
use Rattle.geometry.specs.Layouts.{is_layout_of}
use Rattle.geometry.specs.Mirrors.{AreAtRest}
use Rattle.geometry.specs.Sessions.{IsSessionPlace, session_in}
use Rattle.geometry.specs.SuperLaws.{layout_fits}
use Rattle.image_reader.specs.Volumes.{last_of}
use Rattle.image_view.specs.BaseLaws.{found-layout, found-session, greatest_session-same}
use Rattle.image_view.specs.CrashEntries.{opens}
use Rattle.image_view.specs.Found.{Found, IsInOrder, NodesAgree, PlacesAgree, found, node_places, with_session}
use Rattle.image_view.specs.Mends.{HasNoEqualDigest, StandsIn}
use Rattle.image_view.specs.NextEntries.{AreNumberedBelow}
use Rattle.image_view.specs.Trees.{nodes_of}
use Rattle.journal_ring.specs.Parts.{AreSame, area_of}
use Rattle.journal_ring.specs.declared.found.FoundEntry.{FoundEntry}
use Rattle.key_meaning.specs.Checks.{AreNodesPlaced}
use Rattle.node_store.specs.Answers.{AgreeOn, AreAlike}
use Rattle.node_store.specs.Copies.{copies_at}
use Rattle.node_store.specs.Mending.{ArePlaced, IsShown, KeepsRest, StayShown, WritesOnly}
use Rattle.node_store.specs.StoredSets.{sets_of}
use Rattle.node_store.specs.Writes.{IsCopyOf}
use Rattle.node_store.specs.declared.sets.StoredSets.{StoredSets}
use Rattle.record_codec.specs.Entries.{IsEntry}
use Rattle.vol_types.specs.Limits.{bucket_blocks}
use Rattle.vol_types.specs.declared.layout.Layout.{Layout}
use Rattle.vol_types.specs.declared.pointers.NodeEnd.{NodeEnd}
use Rattle.vol_types.specs.declared.pointers.NodePtr.{NodePtr}
use Rattle.vol_types.specs.declared.pointers.Place.{Place}
use Rattle.replay.specs.Beginning.{IsFoundOn, MeansTheSame}
use Rattle.replay.specs.Mending.{BringsNoBlock, ChangesJournal, HasMended, IsInOrderOn, IsJournalBlock, IsReady, IsVolumeUntorn, KeepsMeaning, KeepsPast, KeepsSession, StandsOnAll}
use Rattle.replay.specs.Roots.{AreRootsAlike, DifferInRoots, IsMendedIn, IsRootBlock, IsToMendIn, IsToMendOf, IsWantedIn, IsWantedOf, ShareNoBlock, ShowTheSame, StaysShownUpTo, listed_end, no_node}
use Rattle.replay.specs.Untorn.{volume_untorn_before, volume_untorn_in_session, volume_untorn_since}
use Rattle.replay.proofs.EndsRead.{IsIn, contained_in}
use Rattle.replay.proofs.MendedEntry.{rest_held}
use Rattle.replay.proofs.MendedRoots.{block_of_place, block_to_mend}
use Rattle.replay.proofs.NextSession.{sessions_before}
use Rattle.replay.proofs.Opened.{in_order_begun, keeps_both, means_both, means_then, past_then, unwritten}
use Rattle.replay.proofs.RootPlaces.{are_placed, buckets_same, end_found, end_listed, has_sets, on_mirror, root_far, roots_alike}
use Rattle.replay.proofs.RootsRead.{last_is, newest_entry, roots_among, roots_apart}
use Rattle.replay.proofs.RootsShown.{one_place, shown_by_alike, shown_by_held}
use Rattle.replay.proofs.ShownSets.{block_shown, sets_within}

-- What mending roots up to these ends leaves.
pub record MendsRoots (layout : Layout) (ends : List NodeEnd) (roots : List NodePtr) (old new : DevicesState) : Type 0 where
  pub writes : ShareNoBlock roots → WritesOnly (IsToMendOf layout.id ends roots (length roots) (as_read (now old)) (λ dev. DeviceFailed dev old.faults new.faults)) (IsWantedOf layout.id ends roots (length roots) (as_read (now old))) old new
  pub kept : ShareNoBlock roots → IsQuiet (now old) → EachCrash (λ _ _ image. All (StaysShownUpTo layout.id ends (as_read (now old)) image) roots) old new

-- That an image that shows the same of the roots means the same.
abbrev pub RootsLaw : Type 0
RootsLaw = (one other : Image) (f : Found) → found one ≡ Ok f → AreNodesPlaced (node_places f) f.layout → NodesAgree one f → DifferInRoots f one other → MeansTheSame f one other

-- A block of a node at a place has one number.
one_number : (layout : Layout) (node : NodePtr) → ArePlaced layout node.places → (place : Place) (n number : ℕ) → Contains node.places place → IsCopyOf node.places number place.dev (place.block + n) → number ≡ n
one_number layout node placed place n number there copy =
    let same : place ≡ copy.0 = one_place layout node.places placed place copy.0 there copy.1 copy.2 in
    let block : place.block ≡ copy.0.block = ap (λ (p : Place). p.block) same in
    let lies : place.block + n ≡ copy.0.block + number = copy.3 in
    omega (arith, block, lies)

-- ---- what crashes leave of the roots

module _ (f : Found) (old new : DevicesState) (on : IsInOrderOn f (now old)) (entry : IsEntry f.last.entry) (mends : MendsRoots f.layout f.trees.ends f.last.entry.roots old new) where
  abbrev one : Image
  one = as_read (now old)

  abbrev id : List ℕ
  id = f.layout.id

  abbrev roots : List NodePtr
  roots = f.last.entry.roots

  abbrev ends : List NodeEnd
  ends = f.trees.ends

  abbrev nodes : List NodePtr
  nodes = nodes_of f.trees.nodes

  abbrev failed : ℕ → Type 0
  failed dev = DeviceFailed dev old.faults new.faults

  apart : ShareNoBlock roots
  apart = roots_apart one f on.on.finds entry on.on.placed

  writes : WritesOnly (IsToMendOf id ends roots (length roots) one failed) (IsWantedOf id ends roots (length roots) one) old new
  writes = mends.writes apart

  kept : EachCrash (λ _ _ image. All (StaysShownUpTo id ends one image) roots) old new
  kept = mends.kept apart on.on.quiet

  pub mends_past : KeepsPast old new
  mends_past = writes.crashes.past

  pub mends_later : old.moment ≤ new.moment
  mends_later = writes.crashes.later

  -- What is written is a block of a root.
  of_root : (d b : ℕ) → IsToMendOf id ends roots (length roots) one failed d b → IsRootBlock f d b
  of_root d b at = record { root = get_or roots at.index no_node; one = Contains-get_or roots at.index no_node at.inside; of_root = block_to_mend id ends (get_or roots at.index no_node) one failed d b at.mends }

  module _ (m : ℕ) (lo : old.moment ≤ m) (hi : m ≤ new.moment) (left : Image) (may : IsCrashImage (new.disks m) left) where
    but_mended : SameBut (IsToMendOf id ends roots (length roots) one failed) one left
    but_mended d b away =
        let before = writes.crashes.each m lo hi left may in
        sym (ap (λ (i : Image). block_at i d b) (on.on.quiet before.0 before.1)) ∙ before.2 d b away

    but_roots : SameBut (IsRootBlock f) one left
    but_roots d b away = but_mended d b (λ at. away (of_root d b at))

    same_lengths : map (λ blocks. length blocks) one ≡ map (λ blocks. length blocks) left
    same_lengths =
        let before = writes.lengths m lo hi left may in
        ap (λ (i : Image). map (λ blocks. length blocks) i) (sym (on.on.quiet before.0 before.1)) ∙ before.2

    -- The first buckets and the journal areas are the same, and so is the session.
    low_same : (dev block : ℕ) → block < 16 + f.layout.journal → block_at one dev block ≡ block_at left dev block
    low_same dev block low = but_roots dev block (λ at. let far = (root_far one f on.on.finds on.on.placed entry dev block at).1 in omega (arith, low, far))

    pub session_left : session_in f.layout left ≡ Some f.session
    session_left = greatest_session-same f.layout.id one left f.layout.metadata_replicas (λ dev within. low_same dev 4 (omega arith)) (λ dev within. low_same dev 5 (omega arith)) ∙ found-session one f on.on.finds

    pub areas_left : AreSame f.layout (area_of one) (area_of left)
    areas_left dev place mirror within = low_same dev (16 + place) (omega (arith, within))

    -- ---- one root

    module _ (k : ℕ) (low : k < length roots) where
      abbrev root : NodePtr
      root = get_or roots k no_node

      there : IsIn root nodes
      there = roots_among one f on.on.finds entry k no_node low

      sets : (found : StoredSets) × (sets_of (block_at one) id root ≡ Ok found)
      sets = has_sets one f on.on.finds root there

      abbrev end : ℕ
      end = sets.0.end

      few : end ≤ bucket_blocks
      few = sets_within (copies_at (block_at one) root.places) id root.birth sets.0 sets.1

      listed : listed_end ends root.birth ≡ Some end
      listed = end_listed one f on.on.finds root there sets.0 sets.1

      agree : AgreeOn id root.birth (copies_at (block_at one) root.places)
      agree = All-contains (PlacesAgree id one) nodes root on.order.agree.each (contained_in root nodes there)

      placed : ArePlaced f.layout root.places
      placed = are_placed one f on.on.finds on.on.placed root there

      -- A block behind its end is as it was.
      still : (n : ℕ) (place : Place) → Contains root.places place → end ≤ n → n < bucket_blocks → block_at left place.dev (place.block + n) ≡ block_at one place.dev (place.block + n)
      still n place at behind below = sym (but_mended place.dev (place.block + n) (λ mended.
          let node : NodePtr = get_or roots mended.index no_node in
          let index : mended.index ≡ k = apart mended.index k place.dev (place.block + n) mended.inside low
          (block_to_mend id ends node one failed place.dev (place.block + n) mended.mends) (block_of_place root place n at below) in
          let here = subst (λ i. IsToMendIn id ends (get_or roots i no_node) one failed place.dev (place.block + n)) index mended.mends in
          let same : here.end ≡ end = same_Some here.end end (sym here.listed ∙ listed) in
          let number : here.mends.number ≡ n = one_number f.layout root placed place n here.mends.number at here.mends.copy in
          let lower = here.mends.below in
          omega (arith, lower, same, number, behind)))

      stay : StayShown id root.birth root.places end one left
      stay = All-get_or (StaysShownUpTo id ends one left) roots k no_node low (kept.each m lo hi left may) end listed few

      -- Before its end nothing opens but what stood there or what a place of it showed.
      module _ (are : All IsDisk (now old)) (untorn : IsVolumeUntorn f old.moment m new left) where
        only : (n : ℕ) (place : Place) (bytes : List ℕ) → n < end → Contains root.places place → block_at left place.dev (place.block + n) ≡ Some bytes → IsTrue (opens bytes)
            → (block_at one place.dev (place.block + n) ≡ Some bytes) ⊎ IsShown id root.birth root.places one n bytes
        only n place bytes lower at stands is_open =
            let below : n < bucket_blocks = omega (arith, lower, few) in
            let at_root : IsRootBlock f place.dev (place.block + n) = record { root = root; one = Contains-get_or roots k no_node low; of_root = block_of_place root place n at below } in
            let held = untorn.roots_left place.dev (place.block + n) at_root bytes stands is_open in
            ⊎_elim
            (λ (before : HaveHeld (now old) place.dev (place.block + n) bytes).
            inl (rest_held f.layout.metadata_replicas (now old) place.dev (place.block + n) bytes are on.rest (on_mirror one f on.on.finds on.on.placed root there place at) before))
            (λ (asked : IsWantedOf id ends roots (length roots) one place.dev (place.block + n) bytes).
            let node : NodePtr = get_or roots asked.index no_node in
            let w = asked.wanted in
            let inside : w.wanted.number < bucket_blocks = (let least = w.wanted.below in let most = w.within in omega (arith, least, most)) in
            let index : asked.index ≡ k = apart asked.index k place.dev (place.block + n) asked.inside low (record { number = w.wanted.number; below = inside; copy = w.wanted.copy }) (block_of_place root place n at below) in
            let here = subst (λ i. IsWantedIn id ends (get_or roots i no_node) one place.dev (place.block + n) bytes) index w in
            let number : here.wanted.number ≡ n = one_number f.layout root placed place n here.wanted.number at here.wanted.copy in
            inr (subst (λ i. IsShown id root.birth root.places one i bytes) number here.wanted.shown))
            (writes.asks opens m lo hi place.dev (place.block + n) (untorn.root_reads place.dev (place.block + n) at_root) bytes is_open held)

        shown_meanwhile : ShowTheSame id root.birth (copies_at (block_at one) root.places) (copies_at (block_at left) root.places)
        shown_meanwhile = shown_by_held id root.birth root.places end few one left agree still stay only

      -- Once its places show the same, they show what was shown.
      shown_then : AreAlike end (copies_at (block_at left) root.places) → ShowTheSame id root.birth (copies_at (block_at one) root.places) (copies_at (block_at left) root.places)
      shown_then alike = shown_by_alike id root.birth root.places end few one left agree still stay (block_shown id root.birth root.places one sets.0 sets.1) alike

      shown_alike : AreRootsAlike f left → ShowTheSame id root.birth (copies_at (block_at one) root.places) (copies_at (block_at left) root.places)
      shown_alike alike = shown_then (alike k no_node low (record { birth = root.birth; block = end }) (end_found one f on.on.finds root there sets.0 sets.1) refl)

    -- ---- all roots

    pub differ_meanwhile : All IsDisk (now old) → IsVolumeUntorn f old.moment m new left → DifferInRoots f one left
    differ_meanwhile are untorn = record {
      lengths = same_lengths;
      elsewhere = but_roots;
      shown = All-from_get_or (λ (root : NodePtr). ShowTheSame id root.birth (copies_at (block_at one) root.places) (copies_at (block_at left) root.places)) roots no_node (λ k low. shown_meanwhile k low are untorn);
    }

    pub differ_then : AreRootsAlike f left → DifferInRoots f one left
    differ_then alike = record {
      lengths = same_lengths;
      elsewhere = but_roots;
      shown = All-from_get_or (λ (root : NodePtr). ShowTheSame id root.birth (copies_at (block_at one) root.places) (copies_at (block_at left) root.places)) roots no_node (λ k low. shown_alike k low alike);
    }

  -- ---- once they are mended

  module _ (law : RootsLaw) (are : All IsDisk (now new)) (alike : AreRootsAlike f (as_read (now new))) (rest : KeepsRest old new) where
    abbrev mended : Image
    mended = as_read (now new)

    may_be : IsCrashImage (new.disks new.moment) mended
    may_be = as_read_may_be_left (now new) are

    means : MeansTheSame f one mended
    means = law one mended f on.on.finds on.on.placed on.order.agree (differ_then new.moment mends_later (omega arith) mended may_be alike)

    same_session : means.session ≡ f.session
    same_session = same_Some means.session f.session (sym (found-session mended (with_session means.session f) means.finds) ∙ session_left new.moment mends_later (omega arith) mended may_be)

    same_area : AreSame f.layout (area_of one) (area_of mended)
    same_area = areas_left new.moment mends_later (omega arith) mended may_be

    stood : (bytes : List ℕ) → StandsIn f.layout (area_of mended) bytes → StandsIn f.layout (area_of one) bytes
    stood bytes at = record { dev = at.dev; place = at.place; mirror = at.mirror; within = at.within; stands = same_area at.dev at.place at.mirror at.within ∙ at.stands }

    still_apart : HasNoEqualDigest f.layout (area_of mended)
    still_apart these those payload second digest standing others record_is other_is =
        on.digests these those payload second digest (All-weaker (StandsIn f.layout (area_of mended)) (StandsIn f.layout (area_of one)) stood these standing)
        (All-weaker (StandsIn f.layout (area_of mended)) (StandsIn f.layout (area_of one)) stood those others) record_is other_is

    -- What was found is found in order again.
    found_again : IsInOrderOn f (now new)
    found_again = record {
      on = record { quiet = rest.quiet on.on.quiet; finds = subst (λ s. found mended ≡ Ok (with_session s f)) same_session means.finds; placed = on.on.placed };
      rest = rest.rest f.layout.metadata_replicas on.rest;
      order = subst (λ s. IsInOrder (with_session s f) mended) same_session (means.in_order on.order);
      digests = still_apart;
    }

    stands_still : (e : FoundEntry) → StandsOnAll f.layout one e → StandsOnAll f.layout mended e
    stands_still e stands =
        let some : 0 < f.layout.journal = (let least = (has_places (map (λ blocks. length blocks) one) f.layout (layout_fits one f.layout (found-layout one f on.on.finds))).least in omega (arith, least)) in
        record {
          blocks = stands.blocks;
          sealed = stands.sealed;
          stand = λ dev p mirror lower. sym (same_area dev ((e.number + p) % f.layout.journal) mirror (mod_below (e.number + p) f.layout.journal some)) ∙ stands.stand dev p mirror lower;
        }

    -- So the volume is ready where its journal was mended.
    pub ready_then : HasMended f (length f.needed) (now old) → ((number : ℕ) → AreNumberedBelow f.layout f.session number (area_of one)) → IsReady f (now new)
    ready_then before numbered = record {
      mended = record { found_on = found_again; stand = λ index lower. stands_still (get_or f.needed index f.last) (before.stand index lower) };
      roots = alike;
      unwritten = λ number dev place bytes head mirror within stands. numbered number dev place bytes head mirror within (same_area dev place mirror within ∙ stands);
    }

-- ---- from the beginning on

-- What a session's beginning and the mending of the journal came to.
pub record HasBegun (f : Found) (layout : Layout) (session : ℕ) (needed : List FoundEntry) (old mid next : DevicesState) : Type 0 where
  pub layouts : f.layout ≡ layout
  pub sessions : f.session ≡ session
  pub needs : f.needed ≡ needed
  pub on : IsInOrderOn f (now old)
  pub crashes : EachCrash (λ _ _ image. MeansTheSame f (as_read (now old)) image) old mid
  pub session_kept : KeepsSession f old mid
  pub are_mid : All IsDisk (now mid)
  pub begun : IsFoundOn (with_session (session + 1) f) (now mid)
  pub rest : AreAtRest layout.metadata_replicas (now mid)
  pub elsewhere : SameBut (IsSessionPlace layout (session + 1)) (as_read (now old)) (as_read (now mid))
  pub changes : ChangesJournal layout mid next
  pub means : IsInOrderOn (with_session (session + 1) f) (now mid) → KeepsMeaning (with_session (session + 1) f) mid next

module _ (f : Found) (layout : Layout) (session : ℕ) (needed : List FoundEntry) (old mid next : DevicesState) (has : HasBegun f layout session needed old mid next) where
  pub order_begun : IsInOrderOn (with_session (session + 1) f) (now mid)
  order_begun = in_order_begun f layout session has.layouts has.sessions old mid has.on has.crashes has.are_mid has.begun has.rest has.elsewhere

  -- Whatever a crash leaves until the journal is mended means the same.
  pub keeps_journal : KeepsMeaning f old next
  keeps_journal = keeps_both f layout session has.layouts has.sessions old mid has.on has.crashes has.are_mid has.begun has.rest has.elsewhere next has.changes has.session_kept (has.means order_begun)

  pub past_journal : KeepsPast old next
  past_journal = past_then old mid next has.crashes.later has.crashes.past has.changes.past

  later_journal : old.moment ≤ next.moment
  later_journal = let first = has.crashes.later in let second = has.changes.later in omega (arith, first, second)

  -- ---- and its roots

  -- What was stays while these are mended.
  pub past_roots : (new : DevicesState) (roots : List NodePtr) → roots ≡ (last_of needed).entry.roots → ((image : Image) (g : Found) → found image ≡ Ok g → All (λ (e : FoundEntry). IsEntry e.entry) g.needed)
      → ((image : Image) (g : Found) → found image ≡ Ok g → 0 < length g.needed) → (ShareNoBlock roots → KeepsPast next new) → KeepsPast old new
  past_roots new roots roots_are entries some keeps =
      let finds = has.on.on.finds in
      let first = as_read (now old) in
      let apart = roots_apart first f finds (newest_entry first f finds (some first f finds) (entries first f finds)) has.on.on.placed in
      let same : f.last.entry.roots ≡ roots = ap (λ (e : FoundEntry). e.entry.roots) (last_is first f finds ∙ ap last_of has.needs) ∙ sym roots_are in
      past_then old next new later_journal past_journal (keeps (subst (λ (rs : List NodePtr). ShareNoBlock rs) same apart))

  module _ (new : DevicesState) (ends : List NodeEnd) (ends_are : f.trees.ends ≡ ends) (roots : List NodePtr) (roots_are : roots ≡ (last_of needed).entry.roots) (mends : MendsRoots layout ends roots next new)
      (entries : (image : Image) (g : Found) → found image ≡ Ok g → All (λ (e : FoundEntry). IsEntry e.entry) g.needed) (some : (image : Image) (g : Found) → found image ≡ Ok g → 0 < length g.needed)
      (are_next : All IsDisk (now next)) (mended : HasMended (with_session (session + 1) f) (length needed) (now next)) (law : RootsLaw) where
    abbrev next_found : Found
    next_found = with_session (session + 1) f

    entry : IsEntry f.last.entry
    entry = newest_entry (as_read (now old)) f has.on.on.finds (some (as_read (now old)) f has.on.on.finds) (entries (as_read (now old)) f has.on.on.finds)

    same_roots : f.last.entry.roots ≡ roots
    same_roots = ap (λ (e : FoundEntry). e.entry.roots) (last_is (as_read (now old)) f has.on.on.finds ∙ ap last_of has.needs) ∙ sym roots_are

    mends_here : MendsRoots f.layout f.trees.ends f.last.entry.roots next new
    mends_here =
        subst (λ (l : Layout). MendsRoots l f.trees.ends f.last.entry.roots next new) (sym has.layouts)
        (subst (λ (es : List NodeEnd). MendsRoots layout es f.last.entry.roots next new) (sym ends_are) (subst (λ (rs : List NodePtr). MendsRoots layout ends rs next new) (sym same_roots) mends))

    means_next : MeansTheSame f (as_read (now old)) (as_read (now next))
    means_next = means_both f layout session has.layouts has.sessions old mid has.on has.crashes has.are_mid has.begun has.rest has.elsewhere next has.changes are_next mended.found_on

    session_next : means_next.session ≡ session + 1
    session_next = same_Some means_next.session (session + 1) (sym (found-session (as_read (now next)) (with_session means_next.session f) means_next.finds) ∙ found-session (as_read (now next)) next_found mended.found_on.on.finds)

    -- Whatever a crash leaves meanwhile means the same.
    pub keeps_roots : KeepsMeaning f old new
    keeps_roots = record {
      means = λ m lo hi left may untorn. ⊎_elim
          (λ (after : next.moment < m).
          let differ = differ_meanwhile next_found next new mended.found_on entry mends_here m (omega (arith, after)) hi left may are_next
          (volume_untorn_in_session f (session + 1) next.moment m new left (volume_untorn_since f old.moment next.moment m new left later_journal untorn)) in
          means_then f (as_read (now old)) (as_read (now next)) left (session + 1) means_next session_next
          (law (as_read (now next)) left next_found mended.found_on.on.finds mended.found_on.on.placed mended.found_on.order.agree differ))
          (λ (before : m ≤ next.moment).
          keeps_journal.means m lo before left (subst (λ (ds : List Disk). IsCrashImage ds left) (mends_past next_found next new mended.found_on entry mends_here m before) may)
          (volume_untorn_before f old.moment m next new left (mends_past next_found next new mended.found_on entry mends_here) before untorn))
          (cases_lt next.moment m);
      session = λ m lo hi left may untorn s named. ⊎_elim
          (λ (after : next.moment < m).
          let same : s ≡ session + 1 = same_Some s (session + 1) (sym named ∙ session_left next_found next new mended.found_on entry mends_here m (omega (arith, after)) hi left may) in
          let is = has.sessions in
          (let e : s ≤ f.session + 1 = omega (arith, same, is) in e))
          (λ (before : m ≤ next.moment).
          keeps_journal.session m lo before left (subst (λ (ds : List Disk). IsCrashImage ds left) (mends_past next_found next new mended.found_on entry mends_here m before) may)
          (sessions_before f.layout old.moment m next new left (mends_past next_found next new mended.found_on entry mends_here) before untorn) s named)
          (cases_lt next.moment m);
    }

    -- Then the volume is ready.
    pub ready_roots : All IsDisk (now new) → AreRootsAlike f (as_read (now new)) → KeepsRest next new → BringsNoBlock layout (as_read (now mid)) (as_read (now next)) → IsReady next_found (now new)
    ready_roots are alike rest brings = ready_then next_found next new mended.found_on entry mends_here law are alike rest
        (subst (λ (es : List FoundEntry). HasMended next_found (length es) (now next)) (sym has.needs) mended)
        (unwritten f session has.sessions (as_read (now old)) (as_read (now mid)) (as_read (now next)) has.on.order.owners
        (subst (λ (l : Layout). SameBut (IsSessionPlace l (session + 1)) (as_read (now old)) (as_read (now mid))) (sym has.layouts) has.elsewhere)
        (subst (λ (l : Layout). BringsNoBlock l (as_read (now mid)) (as_read (now next))) (sym has.layouts) brings))

-- ---- roots that have the same sets everywhere

-- The roots have the same sets on every metadata device where they were mended.
pub alike_opened : (entries : (image : Image) (f : Found) → found image ≡ Ok f → All (λ (e : FoundEntry). IsEntry e.entry) f.needed) → (some : (image : Image) (f : Found) → found image ≡ Ok f → 0 < length f.needed)
    → (f : Found) (layout : Layout) (session : ℕ) (needed : List FoundEntry) (ends : List NodeEnd) → f.layout ≡ layout → f.needed ≡ needed → f.trees.ends ≡ ends → (old mid next new : Image) → found old ≡ Ok f → AreNodesPlaced (node_places f) f.layout → NodesAgree old f
    → (roots : List NodePtr) → roots ≡ (last_of needed).entry.roots → (sizes : List ℕ) → is_layout_of sizes layout ≡ true → SameBut (IsSessionPlace layout (session + 1)) old mid → SameBut (IsJournalBlock layout) mid next
    → (ShareNoBlock roots → All (IsMendedIn layout ends sizes next new) roots) → AreRootsAlike f new
alike_opened entries some f layout session needed ends layouts needs ends_are old mid next new finds placed agree roots roots_are sizes fit begun journal mended =
    let entry = newest_entry old f finds (some old f finds) (entries old f finds) in
    let same_roots : f.last.entry.roots ≡ roots = ap (λ (e : FoundEntry). e.entry.roots) (last_is old f finds ∙ ap last_of needs) ∙ sym roots_are in
    let apart = subst (λ (rs : List NodePtr). ShareNoBlock rs) same_roots (roots_apart old f finds entry placed) in
    let here = subst (λ (l : Layout). All (IsMendedIn l f.trees.ends sizes next new) f.last.entry.roots) (sym layouts)
    (subst (λ (es : List NodeEnd). All (IsMendedIn layout es sizes next new) f.last.entry.roots) (sym ends_are) (subst (λ (rs : List NodePtr). All (IsMendedIn layout ends sizes next new) rs) (sym same_roots) (mended apart))) in
    roots_alike old f finds entry placed agree sizes (subst (λ (l : Layout). is_layout_of sizes l ≡ true) (sym layouts) fit) next new
    (λ node there. buckets_same old f finds placed node there (session + 1) mid next
    (subst (λ (l : Layout). SameBut (IsSessionPlace l (session + 1)) old mid) (sym layouts) begun)
    (subst (λ (l : Layout). SameBut (IsJournalBlock l) mid next) (sym layouts) journal))
    here
