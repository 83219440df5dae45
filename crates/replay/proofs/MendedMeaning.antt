-- While the journal is mended whatever a crash leaves is what was read, but in the journal areas; so it mounts as the same volume.
use Rattle.std.proofs.Common.{◌≡◌, ℕ, ◌+◌, ◌/◌, ◌%◌, ◌<◌, ◌≤◌, ⊎_elim, Bool, true, cond, List, length, map, Ok, ap, ◌∙◌, sym, subst, arith, All}
use Rattle.std.proofs.lemmas.Bool.{cases_lt, lt-ltb}
use Rattle.std.proofs.lemmas.List.Elements.{All-map, All-weaker}
use Rattle.std.specs.Prelude.{nat_lt}
use Rattle.dev_model.specs.CrashLaws.{as_read_may_be_left, started}
use Rattle.dev_model.specs.Crashes.{IsQuiet, SameBut}
use Rattle.dev_model.specs.Devices.{DevicesState, now}
use Rattle.dev_model.specs.Disk.{Disk, Image, IsCrashImage, IsDisk, as_read, block_at}
use Rattle.geometry.specs.LayoutFacts.{has_places}
use Rattle.geometry.specs.Layouts.{is_layout_of}
use Rattle.geometry.specs.SuperLaws.{layout_fits}
use Rattle.image_view.specs.BaseLaws.{content-same, found-layout}
use Rattle.image_view.specs.Bases.{AgreeAt, AgreeOnContent, AgreeOnEntry}
use Rattle.image_view.specs.Found.{Found, IsInOrder, found, node_places, read_in, volume_of}
use Rattle.journal_ring.specs.declared.found.FoundEntry.{FoundEntry}
use Rattle.journal_ring.specs.Entries.{IsMadeOf, IsWholeOn}
use Rattle.journal_ring.specs.EntryBlocks.{AreEntryBlocks}
use Rattle.journal_ring.specs.Mending.{IsEntryBlock, IsLacking, Mends}
use Rattle.journal_ring.specs.Parts.{Area}
use Rattle.key_codec.specs.Combined.{ok_is}
use Rattle.key_meaning.specs.Blocks.{block_of, blocks_of, place_at}
use Rattle.key_meaning.specs.Checks.{HasWellPlaced, IsSound, IsWellPlaced, kept_buckets, pointers_of}
use Rattle.key_meaning.specs.ReadLaws.{forest_in-agree}
use Rattle.vol_types.specs.Limits.{bucket_blocks}
use Rattle.vol_types.specs.declared.layout.Layout.{Layout}
use Rattle.vol_types.specs.declared.pointers.Place.{Place}
use Rattle.vol_types.specs.declared.pointers.Pointer.{Pointer}
use Rattle.vol_types.specs.declared.positions.Pos.{Pos}
use Rattle.vol_types.specs.declared.values.Extent.{Extent}
use Rattle.vol_types.specs.declared.values.Value.{Value}
use Rattle.vol_types.specs.declared.values.Value.TheVariants as values
use Rattle.replay.specs.Beginning.{MeansTheSame}
use Rattle.image_reader.specs.Answers.{WasWhole}
use Rattle.replay.proofs.NextSession.{journal_session}
use Rattle.replay.specs.Mending.{ChangesJournal, IsInOrderOn, IsJournalBlock, KeepsFound, KeepsMeaning}

-- ---- what is touched

-- A part of an entry that lacks on a metadata device has its place in the journal area.
lacks_in_journal : (layout : Layout) (number : ℕ) (blocks : List (List ℕ)) (image : Image) (dev block : ℕ) → 0 < layout.journal → IsLacking (IsEntryBlock layout.metadata_replicas layout.journal number blocks) image dev block → IsJournalBlock layout dev block
lacks_in_journal layout number blocks image dev block some lacks =
    let place = lacks.1.place in
    record { mirror = lacks.1.mirror; behind = omega (arith, place); within = omega (arith, place, some) }

-- Nothing was mended yet.
pub journal_here : (layout : Layout) (state : DevicesState) → IsQuiet (now state) → ChangesJournal layout state state
journal_here layout state quiet =
    started (λ _ _ image. SameBut (IsJournalBlock layout) (as_read (now state)) image) state (λ image may d b away. sym (ap (λ (i : Image). block_at i d b) (quiet image may)))

-- One entry more.
pub journal_then : (layout : Layout) (number : ℕ) (blocks : List (List ℕ)) (first mid new : DevicesState) → 0 < layout.journal → ChangesJournal layout first mid → IsQuiet (now mid) → All IsDisk (now mid)
    → Mends (IsEntryBlock layout.metadata_replicas layout.journal number blocks) mid new → ChangesJournal layout first new
journal_then layout number blocks first mid new some before quiet are mends = record {
  later = omega (arith, before.later, mends.crashes.later);
  past = λ m le. mends.crashes.past m (omega (arith, le, before.later)) ∙ before.past m le;
  each = λ m lo hi image may. ⊎_elim
      (λ (after : mid.moment < m). λ d b away.
      let left = mends.crashes.each m (omega (arith, after)) hi image may in
      before.each mid.moment before.later (omega arith) (as_read (now mid)) (as_read_may_be_left (now mid) are) d b away
      ∙ sym (ap (λ (i : Image). block_at i d b) (quiet left.0 left.1))
      ∙ left.2 d b (λ lacks. away (lacks_in_journal layout number blocks (as_read (now mid)) d b some lacks)))
      (λ (earlier : m ≤ mid.moment). before.each m lo earlier image (subst (λ (ds : List Disk). IsCrashImage ds image) (mends.crashes.past m earlier) may))
      (cases_lt mid.moment m);
}

-- The same of an entry that was whole where it was read.
pub journal_more : (made : (layout : Layout) (area : Area) (dev : ℕ) (found : FoundEntry) → IsWholeOn layout area dev found → (blocks : List (List ℕ)) × IsMadeOf layout area found blocks)
    → (sealed : (layout : Layout) (area : Area) (found : FoundEntry) (blocks : List (List ℕ)) → IsMadeOf layout area found blocks → AreEntryBlocks layout.id found.number found.entry blocks)
    → (layout : Layout) (sizes : List ℕ) → is_layout_of sizes layout ≡ true → (entry : FoundEntry) → WasWhole layout entry → (first mid new : DevicesState) → ChangesJournal layout first mid → IsQuiet (now mid) → All IsDisk (now mid)
    → ((blocks : List (List ℕ)) → AreEntryBlocks layout.id entry.number entry.entry blocks → Mends (IsEntryBlock layout.metadata_replicas layout.journal entry.number blocks) mid new) → ChangesJournal layout first new
journal_more made sealed layout sizes fits entry was first mid new before quiet are mends =
    let m = made layout was.0 was.1.0 entry was.1.1 in
    let least = (has_places sizes layout fits).least in
    journal_then layout entry.number m.0 first mid new (omega (arith, least)) before quiet are (mends m.0 (sealed layout was.0 entry m.0 m.1))

-- ---- what isn't

kept_mirror : (test : Bool) (count : ℕ) → test ≡ true → cond {A = ℕ} test (1 + count) 1 ≡ 1 + count
kept_mirror test count is = ap (λ b. cond {A = ℕ} b (1 + count) 1) is

-- On a metadata device the buckets that aren't kept are behind the journal area.
pub behind_journal : (layout : Layout) (dev block : ℕ) → layout.journal % bucket_blocks ≡ 0 → dev < layout.metadata_replicas → kept_buckets layout dev ≤ block / bucket_blocks → 16 + layout.journal ≤ block
behind_journal layout dev block whole mirror behind =
    let kept : kept_buckets layout dev ≡ 1 + layout.journal / bucket_blocks = kept_mirror (nat_lt dev layout.metadata_replicas) (layout.journal / bucket_blocks) (lt-ltb dev layout.metadata_replicas mirror) in
    omega (arith, behind, kept, whole)

module _ (f : Found) (one other : Image) (whole : f.layout.journal % bucket_blocks ≡ 0) (same : SameBut (IsJournalBlock f.layout) one other) where
  far_same : (dev block index : ℕ) → kept_buckets f.layout dev ≤ block / bucket_blocks → AgreeAt one other dev (block + index)
  far_same dev block index behind = same dev (block + index) (λ at.
      let far : 16 + f.layout.journal ≤ block = behind_journal f.layout dev block whole at.mirror behind in
      let within = at.within in
      omega (arith, far, within))

  extent_same : (nodes : List Place) (extent : Extent) (count index : ℕ) → All (IsWellPlaced nodes f.layout count) extent.pointers → All (λ place. AgreeAt one other place.dev place.block) (block_of extent index).places
  extent_same nodes extent count index all = All-map (λ place. AgreeAt one other place.dev place.block) (place_at index) extent.pointers
      (All-weaker (IsWellPlaced nodes f.layout count) (λ (pointer : Pointer). AgreeAt one other (place_at index pointer).dev (place_at index pointer).block)
      (λ pointer placed. far_same pointer.place.dev pointer.place.block index placed.for_users) extent.pointers all)

  -- The blocks of extents that are well placed are the same.
  content_same : (nodes : List Place) → All (HasWellPlaced nodes f.layout) f.trees.keys.extents → AgreeOnContent f one other
  content_same nodes all = record {
    extents = All-weaker (HasWellPlaced nodes f.layout) (AgreeOnEntry one other)
        (λ (entry : Pos × Value) placed extent is index lower.
        extent_same nodes extent (blocks_of (values.Extent extent)) index (subst (λ (v : Value). All (IsWellPlaced nodes f.layout (blocks_of v)) (pointers_of v)) is placed))
        f.trees.keys.extents all;
  }

-- ---- what it means

-- An image in which the same is found, in order where it was, and whose files have the same blocks where it is sound, means the same.
pub means_by_content : (f : Found) (one other : Image) → found one ≡ Ok f → found other ≡ Ok f → (IsInOrder f one → IsInOrder f other) → (IsSound f.trees.keys (node_places f) f.layout → AgreeOnContent f one other) → MeansTheSame f one other
means_by_content f one other is again order content = record {
  session = f.session;
  later = omega arith;
  finds = again;
  in_order = order;
  mounts = λ volume mounts.
      let e : f ≡ mounts.f = ok_is f mounts.f (sym is ∙ mounts.finds) in
      let sound : IsSound f.trees.keys (node_places f) f.layout = subst (λ (g : Found). IsSound g.trees.keys (node_places g) g.layout) (sym e) mounts.sound in
      record {
        f = f;
        finds = again;
        sound = sound;
        volume_is = mounts.volume_is ∙ ap (volume_of one) (sym e)
            ∙ ap (λ forest. record { layout = f.layout; commits = f.last.entry.commits; forest = forest })
            (forest_in-agree f.trees.keys (read_in one) (read_in other) (content-same f one other (content sound)));
      };
  unsound = λ check unsound. record { f = unsound.f; finds = again ∙ ap (λ (g : Found). Ok g) (ok_is f unsound.f (sym is ∙ unsound.finds)); fails = unsound.fails };
}

-- So does one in which the same is found in order, and that differs in the journal areas alone.
pub means_the_same : (f : Found) (one other : Image) → found one ≡ Ok f → found other ≡ Ok f → IsInOrder f other → SameBut (IsJournalBlock f.layout) one other → MeansTheSame f one other
means_the_same f one other is again order same =
    let whole = (has_places (map (λ blocks. length blocks) one) f.layout (layout_fits one f.layout (found-layout one f is))).journal_whole in
    means_by_content f one other is again (λ before. order) (λ sound. content_same f one other whole same (node_places f) sound.blocks.placed)

-- Whatever a crash leaves while the journal is mended means the same.
pub keeps_meaning : (f : Found) (layout : Layout) (old new : DevicesState) → f.layout ≡ layout → IsInOrderOn f (now old) → KeepsFound f old new → ChangesJournal layout old new → KeepsMeaning f old new
keeps_meaning f layout old new layouts on keeps changes =
    let here : ChangesJournal f.layout old new = subst (λ (l : Layout). ChangesJournal l old new) (sym layouts) changes in
    record {
      means = λ m lo hi image may untorn.
          let kept = keeps m lo hi image may untorn.journal in
          means_the_same f (as_read (now old)) image on.on.finds kept.0 kept.1 (here.each m lo hi image may);
      session = λ m lo hi image may untorn session named.
          let same : session ≡ f.session = journal_session f (as_read (now old)) image on.on.finds (here.each m lo hi image may) session named in
          omega (arith, same);
    }
