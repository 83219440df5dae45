-- What was found leaves room, and so the room in the ring is kept where a volume was opened with it.
use Rattle.std.proofs.Common.{◌≡◌, ◌≤◌, ◌<◌, ◌+◌, ◌-◌, ℕ, not, List, [], ◌∷◌, length, min, Some, Ok, refl, sym, ap, subst, ◌∙◌, arith}
use Rattle.std.proofs.lemmas.Bool.{eq-eqb, true≢false}
use Rattle.std.proofs.lemmas.List.{get_or-map, get_or_default}
use Rattle.std.proofs.lemmas.List.Elements.{All-head, All-nil, All-tail}
use Rattle.std.proofs.lemmas.Option.{get_or_from_slice_get, none-some, same_Some, slice_get_within}
use Rattle.std.specs.Prelude.{All, slice_get, slice_index_or}
use Rattle.btree_map.specs.Trees.{Trees}
use Rattle.core_state.specs.Opening.{IsOpened}
use Rattle.core_volume.specs.Opening.{opened_by}
use Rattle.core_volume.specs.Rulings.{kept_blocks}
use Rattle.core_state.specs.States.{State}
use Rattle.dev_model.specs.Devices.{DevicesState, now}
use Rattle.dev_model.specs.Disk.{as_read}
use Rattle.journal_writer.specs.Writers.{first_of, starts_of}
use Rattle.image_view.specs.Found.{FollowOn, Found, found, node_places}
use Rattle.journal_ring.specs.EntryBlocks.{parts_of}
use Rattle.journal_ring.specs.declared.found.FoundEntry.{FoundEntry}
use Rattle.image_reader.specs.Volumes.{last_of, no_entry}
use Rattle.replay.specs.Volumes.{found_in}
use Rattle.replay.specs.declared.volume.Loaded.{Loaded}
use Rattle.vol_types.specs.declared.layout.Layout.{Layout}
use Rattle.vol_types.specs.declared.pointers.Place.{Place}
use Rattle.vol_core.specs.CoreLaws.{EntryPlaceLaws}
use Rattle.vol_core.specs.Rested.{MayKeepRing}
use Rattle.vol_core.specs.Room.{AreRising, HasBlocks, IsNotedAfter, KeepsRoom, LeavesRoom, MayKeepRoom}
use Rattle.vol_core.specs.Safety.{MayBegin}

-- The last of entries that follow on one another ends no earlier than the first.
ends_later : (one : FoundEntry) (later : List FoundEntry) (entry : FoundEntry) → FollowOn (one ∷ later) → All HasBlocks (one ∷ later) → slice_get (one ∷ later) (length later) ≡ Some entry → one.end ≤ entry.end
ends_later one [] entry follow blocks last = let same : one.end ≡ entry.end = ap (λ (e : FoundEntry). e.end) (same_Some one entry last) in omega (arith, same)
ends_later one (next ∷ later) entry follow blocks last =
    let rest = ends_later next later entry follow.1 (All-tail HasBlocks one (next ∷ later) blocks) last in
    let begins = follow.0 in
    let some = All-head HasBlocks next later (All-tail HasBlocks one (next ∷ later) blocks) in
    omega (arith, rest, begins, some)

-- Their numbers rise up to the end of the last one.
rising_opened : (one : FoundEntry) (later : List FoundEntry) (entry : FoundEntry) → FollowOn (one ∷ later) → All HasBlocks (one ∷ later) → slice_get (one ∷ later) (length later) ≡ Some entry → AreRising entry.end (starts_of entry.end (one ∷ later))
rising_opened one [] entry follow blocks last =
    let same : one.end ≡ entry.end = ap (λ (e : FoundEntry). e.end) (same_Some one entry last) in
    let some = All-head HasBlocks one [] blocks in
    omega (arith, same, some)
rising_opened one (next ∷ later) entry follow blocks last =
    let rest = rising_opened next later entry follow.1 (All-tail HasBlocks one (next ∷ later) blocks) last in
    let begins = follow.0 in
    let some = All-head HasBlocks one (next ∷ later) blocks in
    let more = All-head HasBlocks next later (All-tail HasBlocks one (next ∷ later) blocks) in
    let most = ends_later next later entry follow.1 (All-tail HasBlocks one (next ∷ later) blocks) last in
    (omega (arith, begins, some, more, most), rest)

module _ (layout : Layout) (session : ℕ) (trees : Trees) (needed : List FoundEntry) (nodes : List Place) (entry : FoundEntry) (last : slice_get needed (length needed - 1) ≡ Some entry) (follow : FollowOn needed) (blocks : All HasBlocks needed)
    (room : entry.end + kept_blocks ≤ (slice_index_or needed 0 entry).number + layout.journal) where
  some_needed : 0 < length needed
  some_needed = let within = slice_get_within needed (length needed - 1) entry last in omega (arith, within)

  last_at : (one : FoundEntry) (later : List FoundEntry) → slice_get (one ∷ later) (length (one ∷ later) - 1) ≡ Some entry → slice_get (one ∷ later) (length later) ≡ Some entry
  last_at one later last = let same : length (one ∷ later) - 1 ≡ length later = omega arith in subst (λ (n : ℕ). slice_get (one ∷ later) n ≡ Some entry) same last

  rising : (entries : List FoundEntry) → FollowOn entries → All HasBlocks entries → slice_get entries (length entries - 1) ≡ Some entry → AreRising entry.end (starts_of entry.end entries)
  rising [] follow blocks last = tt
  rising (one ∷ later) follow blocks last = rising_opened one later entry follow blocks (last_at one later last)

  -- The first of them begins before the newest one ends.
  first_before : (entries : List FoundEntry) → FollowOn entries → All HasBlocks entries → slice_get entries (length entries - 1) ≡ Some entry → (slice_index_or entries 0 entry).number ≤ entry.end
  first_before [] follow blocks last = absurd (none-some entry last)
  first_before (one ∷ later) follow blocks last =
      let some = All-head HasBlocks one later blocks in
      let most = ends_later one later entry follow blocks (last_at one later last) in
      omega (arith, some, most)

  first_start : first_of (starts_of entry.end needed) ≡ min (slice_index_or needed 0 entry).number entry.end
  first_start = get_or-map (λ (found : FoundEntry). min found.number entry.end) needed 0 entry 0 some_needed

  opened_room_of : KeepsRoom (opened_by layout session trees needed nodes entry)
  opened_room_of = record {
    emptied = omega arith;
    first = refl;
    next = omega arith;
    rising = rising needed follow blocks last;
    waiting = λ waits. absurd (true≢false (sym waits ∙ ap not (eq-eqb entry.entry.commits entry.entry.commits refl)));
    flying = let first = first_start in let before = first_before needed follow blocks last in omega (arith, first, before, room);
    landed = let first = first_start in let before = first_before needed follow blocks last in omega (arith, first, before, room);
    noted = All-nil (IsNotedAfter entry.entry.sequence (opened_by layout session trees needed nodes entry).pins []);
    let_go = λ closed none waits. absurd (omega (arith, waits));
  }

-- The entries that were found have blocks.
have_blocks : EntryPlaceLaws → (f : Found) (state : DevicesState) → found (as_read (now state)) ≡ Ok f → All HasBlocks f.needed
have_blocks laws f state finds k default within =
    let at : FoundEntry = slice_index_or f.needed k f.last in
    let end : at.end ≡ at.number + parts_of at.entry = laws.ends (as_read (now state)) f finds k within in
    let here : HasBlocks at = omega (arith, end) in
    subst HasBlocks (get_or_default f.needed k f.last default within) here

-- A volume that was loaded, as it is kept in memory, has what is kept of the room, where that may be.
pub opened_room : (loaded : Loaded) (memory : State) (begun : Found) → found_in loaded ≡ begun → IsOpened loaded.layout loaded.session loaded.map loaded.needed (node_places (found_in loaded)) memory → MayKeepRoom begun → KeepsRoom memory.volume
opened_room loaded memory begun opens is may =
    let entry : FoundEntry = is.volume.newest in
    let f : Found = found_in loaded in
    let kept : MayKeepRoom f = subst MayKeepRoom (sym opens) may in
    let same : last_of loaded.needed ≡ entry = get_or_from_slice_get loaded.needed (length loaded.needed - 1) entry no_entry is.volume.last in
    let room : entry.end + kept_blocks ≤ (slice_index_or loaded.needed 0 entry).number + loaded.layout.journal =
    subst (λ (e : FoundEntry). e.end + kept_blocks ≤ (slice_index_or loaded.needed 0 e).number + loaded.layout.journal) same kept.leaves in
    subst KeepsRoom (sym is.volume.is) (opened_room_of loaded.layout loaded.session loaded.map loaded.needed (node_places f) entry is.volume.last kept.follow kept.blocks room)

-- Where the session may begin with what was found, and that left room, the room may be kept of it.
pub may_keep_room : EntryPlaceLaws → (begun : Found) (start : DevicesState) → MayBegin begun (now start) → MayKeepRing begun → LeavesRoom begun → MayKeepRoom begun
may_keep_room laws begun start begins ring leaves = record {
  ring = ring;
  follow = begins.ready.mended.found_on.order.entries;
  blocks = have_blocks laws begun start begins.ready.mended.found_on.on.finds;
  leaves = leaves;
}
