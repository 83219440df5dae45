-- While an entry is written, an image that is left and degraded means what was found, or that with the entry.
use Rattle.std.proofs.Common.{◌≡◌, ◌⊎◌, inl, inr, ⊎_elim, ℕ, ◌+◌, ◌%◌, ◌<◌, true, List, [], ◌∷◌, ◌++◌, length, map, drop, get_or, slice_get, Option, Some, None, Ok, refl, sym, ap, subst, ◌∙◌, arith}
use Rattle.std.proofs.lemmas.Bool.{cases_eq}
use Rattle.std.proofs.lemmas.List.{get_or_push, length_push}
use Rattle.std.proofs.lemmas.Option.{none-some, slice_get-map}
use Rattle.std.specs.Prelude.{Contains, is_some, option_and_then, option_map}
use Rattle.dev_model.specs.Disk.{Asked, Disk, Image, at_rest, block_at}
use Rattle.dev_model.specs.HeldBlocks.{HasHeld, HaveHeld}
use Rattle.geometry.specs.LayoutFacts.{HasPlaces, has_places}
use Rattle.geometry.specs.SuperLaws.{layout_fits}
use Rattle.image_view.specs.BaseLaws.{found-layout, found-newest}
use Rattle.image_view.specs.Bases.{AgreeAt, AgreeOnBase, AgreeOnNodes}
use Rattle.image_view.specs.CrashEntries.{OnlyHeldEntriesOpen, opens}
use Rattle.image_view.specs.Found.{Found, IsInOrder, found, sets_in, updates_of}
use Rattle.image_view.specs.NewNodes.{AreNodesInOrder}
use Rattle.image_view.specs.NextEntries.{AreNumberedBelow, HoldOldOrNext, IsNext, with_entry}
use Rattle.image_view.specs.Trees.{TreesRead, trees_of}
use Rattle.image_view.proofs.CrashNewest.{AreWhole}
use Rattle.journal_ring.specs.Entries.{IsWhole}
use Rattle.journal_ring.specs.EntryBlocks.{AreEntryBlocks, part_head, part_payload}
use Rattle.journal_ring.specs.MadeOf.{made_of}
use Rattle.journal_ring.specs.Mending.{IsEntryBlock}
use Rattle.journal_ring.specs.Parts.{area_of, numbered}
use Rattle.journal_ring.specs.declared.found.FoundEntry.{FoundEntry}
use Rattle.record_codec.specs.Entries.{entry_format}
use Rattle.replay.proofs.ShownSets.{map_some}
use Rattle.sealed_block.specs.Opening.{opened}
use Rattle.sealed_block.specs.declared.heads.Head.{Head}
use Rattle.crash_safety.specs.Writings.{Writing, after}
use Rattle.mirror_laws.specs.Degraded.{IsDegradedTo}
use Rattle.crash_safety.specs.Flight.{AreJournalsLost, IsFoundIn, IsLeftWriting, PartsStand, PartsStandOn, StandsWriting}
use Rattle.mirror_laws.proofs.DegradedJournal.{some_places, stood}
use Rattle.mirror_laws.proofs.DegradedMeaning.{found_still, order_still}
use Rattle.mirror_laws.proofs.DegradedNodes.{nodes_agree_still, own_block, trees_still}
use Rattle.mirror_laws.proofs.MergedImages.{merged, merged_degraded, merged_same}
use Rattle.crash_safety.proofs.PartsMade.{PartLaws, parts_made}

-- What is said of images that a crash leaves while an entry is written, and that needed entries are whole.
pub record FlightLaws : Type 0 where
  pub parts : PartLaws
  pub whole : AreWhole
  pub crashed : (one other : Image) (f : Found) (disks : List Disk) (passed : ℕ) (next : FoundEntry) (blocks : List (List ℕ)) (trees : TreesRead) → found one ≡ Ok f → IsInOrder f one → IsNext f passed next → AreEntryBlocks f.layout.id next.number next.entry blocks
      → AreNumberedBelow f.layout f.session f.last.end (area_of one) → HoldOldOrNext f.layout one next blocks disks → AgreeOnBase f one other → AgreeOnNodes (with_entry passed next trees f) one other → AreNodesInOrder (with_entry passed next trees f) one
      → OnlyHeldEntriesOpen f.layout disks other → trees_of (sets_in f.layout one) (updates_of (drop passed f.needed ++ next ∷ [])) next.entry.roots ≡ Ok trees
      → ((found other ≡ Ok f) × IsInOrder f other) ⊎ ((found other ≡ Ok (with_entry passed next trees f)) × IsInOrder (with_entry passed next trees f) other)

-- ---- disks that are at rest

-- What disks at rest have held is what they hold.
rested_held : (image : Image) (dev block : ℕ) (bytes : List ℕ) → HaveHeld (map at_rest image) dev block bytes → block_at image dev block ≡ Some bytes
rested_held image dev block bytes (disk, there, held) =
    let at = map_some at_rest (slice_get image dev) disk (sym (slice_get-map {B = Disk} at_rest image dev) ∙ there) in
    let has : HasHeld (at_rest at.0) block bytes = subst (λ (d : Disk). HasHeld d block bytes) (sym at.2) held in
    ⊎_elim
    (λ (settled : slice_get at.0 block ≡ Some bytes). ap (option_and_then (λ (blocks : List (List ℕ)). slice_get blocks block)) at.1 ∙ settled)
    (λ (asked : Contains {X = Asked} [] (record { block = block; bytes = bytes })). absurd (let low = asked.1 in omega (arith, low)))
    has

-- And what they hold they have held.
held_rested : (image : Image) (dev block : ℕ) (bytes : List ℕ) → block_at image dev block ≡ Some bytes → HaveHeld (map at_rest image) dev block bytes
held_rested image dev block bytes holds = by (slice_get image dev) refl holds
  where
    by : (o : Option (List (List ℕ))) → slice_get image dev ≡ o → option_and_then (λ (blocks : List (List ℕ)). slice_get blocks block) o ≡ Some bytes → HaveHeld (map at_rest image) dev block bytes
    by None at is = absurd (none-some bytes is)
    by (Some blocks) at is = (at_rest blocks, slice_get-map {B = Disk} at_rest image dev ∙ ap (option_map at_rest) at, inl is)

opened_so : (o : Option Head) → is_some o ≡ true → (head : Head) × (o ≡ Some head)
opened_so None is = cc
opened_so (Some head) is = (head, refl)

module _ (laws : FlightLaws) (f : Found) (w : Writing) (mirror : ℕ) (image other alone : Image) (left : IsLeftWriting f w image other) (stands : StandsWriting f w mirror image) (degraded : IsDegradedTo f.layout mirror other alone) where
  abbrev low : mirror < f.layout.metadata_replicas
  low = stands.found.on_mirror

  -- ---- the image in which this was found, degraded where the other one is

  abbrev base : Image
  base = merged image other alone

  base_degraded : IsDegradedTo f.layout mirror image base
  base_degraded = merged_degraded f.layout mirror image other alone left.base.lengths degraded

  same_there : (dev block : ℕ) → AgreeAt image other dev block → AgreeAt base alone dev block
  same_there = merged_same f.layout mirror image other alone left.base.lengths degraded

  base_found : found base ≡ Ok f
  base_found = found_still laws.parts.entries f mirror image base base_degraded left.before.finds left.before.in_order.others left.before.in_order.agree stands.found

  base_order : IsInOrder f base
  base_order = order_still laws.parts.entries f mirror image base base_degraded low left.before.in_order

  base_read : trees_of (sets_in f.layout base) (updates_of (drop w.passed f.needed ++ w.next ∷ [])) w.next.entry.roots ≡ Ok w.trees
  base_read = trees_still (after w f) mirror low image base base_degraded stands.next left.is.trees left.is.in_order.agree

  base_nodes : AreNodesInOrder (after w f) base
  base_nodes = record {
    places = left.is.in_order.places;
    agree = nodes_agree_still (after w f) mirror low image base base_degraded left.is.in_order.agree;
    births = left.is.in_order.births;
  }

  base_numbered : AreNumberedBelow f.layout f.session f.last.end (area_of base)
  base_numbered dev place bytes head within lower there opens = left.numbered dev place bytes head within lower (stood f.layout mirror image base base_degraded dev (16 + place) bytes head there opens) opens

  base_agree : AgreeOnBase f base alone
  base_agree = record {
    lengths = sym base_degraded.lengths ∙ left.base.lengths ∙ degraded.lengths;
    first_copies = λ dev. same_there dev 0 (left.base.first_copies dev);
    second_copies = λ dev. same_there dev 8 (left.base.second_copies dev);
    even_sessions = λ dev within. same_there dev 4 (left.base.even_sessions dev within);
    odd_sessions = λ dev within. same_there dev 5 (left.base.odd_sessions dev within);
    entries = λ k d lower dev number within from end. same_there dev (16 + number % f.layout.journal) (left.base.entries k d lower dev number within from end);
    nodes = λ k d lower j e less n few. same_there _ _ (left.base.nodes k d lower j e less n few);
  }

  base_agree_nodes : AgreeOnNodes (after w f) base alone
  base_agree_nodes = record {
    lengths = base_agree.lengths;
    first_copies = base_agree.first_copies;
    second_copies = base_agree.second_copies;
    nodes = λ k d lower j e less n few. same_there _ _ (left.nodes.nodes k d lower j e less n few);
  }

  -- ---- what opens in the degraded one

  only : OnlyHeldEntriesOpen f.layout (map at_rest alone) alone
  only dev place within lower bytes holds is_open = held_rested alone dev (16 + place) bytes holds

  hold : HoldOldOrNext f.layout base w.next w.blocks (map at_rest alone)
  hold dev place bytes within lower is_open held =
      let holds = rested_held alone dev (16 + place) bytes held in
      let head = opened_so (opened bytes) is_open in
      let before = stood f.layout mirror other alone degraded dev (16 + place) bytes head.0 holds head.1 in
      ⊎_elim
      (λ (old : area_of image dev place ≡ Some bytes). inl (same_there dev (16 + place) (old ∙ sym before) ∙ holds))
      (λ (own : IsEntryBlock f.layout.metadata_replicas f.layout.journal w.next.number w.blocks dev (16 + place) bytes). inr own)
      (left.blocks dev place bytes head.0 within lower before head.1)

  -- It means what was found, or that with the entry,
  pub either : IsFoundIn f alone ⊎ IsFoundIn (after w f) alone
  either = ⊎_elim
      (λ (old : (found alone ≡ Ok f) × IsInOrder f alone). inl (record { finds = old.0; in_order = old.1 }))
      (λ (new : (found alone ≡ Ok (after w f)) × IsInOrder (after w f) alone). inr (record { finds = new.0; in_order = new.1 }))
      (laws.crashed base alone f (map at_rest alone) w.passed w.next w.blocks w.trees base_found base_order left.is.next left.is.sealed base_numbered hold base_agree base_agree_nodes base_nodes only base_read)

  -- ---- which of both

  has : HasPlaces (map (λ blocks. length blocks) image) f.layout
  has = has_places (map (λ blocks. length blocks) image) f.layout (layout_fits image f.layout (found-layout image f left.before.finds))

  -- with the entry where each part of it stands on some metadata device,
  pub with_it : PartsStand f.layout alone w.next.number w.blocks → IsFoundIn (after w f) alone
  with_it stand = ⊎_elim
      (λ (old : IsFoundIn f alone).
      let next = left.is.next in
      let least = has.least in
      let mirrored = has.mirrored in
      let made = parts_made laws.parts f.layout w.next w.blocks left.is.sealed next.entry next.parts next.end next.end_fits least mirrored (area_of alone) stand in
      let passes = (old.in_order.others w.next w.blocks made).sequence in
      let later = next.sequence in
      absurd (omega (arith, passes, later)))
      (λ (new : IsFoundIn (after w f) alone). new)
      either

  -- and without it where some part stands on none.
  pub without_it : ¬ PartsStand f.layout alone w.next.number w.blocks → IsFoundIn f alone
  without_it lacks = ⊎_elim
      (λ (old : IsFoundIn f alone). old)
      (λ (new : IsFoundIn (after w f) alone).
      let newest = found-newest alone (after w f) new.finds in
      let all = laws.whole f.layout (area_of alone) w.next (drop w.passed f.needed ++ w.next ∷ []) (some_places image f left.before.finds) newest.last newest.needed in
      let kept : List FoundEntry = drop w.passed f.needed in
      let is : IsWhole f.layout (area_of alone) w.next = subst (IsWhole f.layout (area_of alone)) (get_or_push kept w.next w.next (length kept) refl) (all (length kept) w.next (let long = length_push kept w.next in omega (arith, long))) in
      let made = made_of f.layout (area_of alone) is.0 w.next is.1 in
      let same : made.0 ≡ w.blocks = laws.parts.entries.one f.layout.id w.next.number w.next.entry made.0 w.blocks (laws.parts.entries.sealed f.layout (area_of alone) w.next made.0 made.1) left.is.sealed in
      absurd (lacks (subst (λ (blocks : List (List ℕ)). PartsStand f.layout alone w.next.number blocks) same made.1.stand)))
      either

  -- Parts that stand on the device that is left go on standing there.
  pub own_parts : PartsStandOn f.layout mirror other w.next.number w.blocks → PartsStand f.layout alone w.next.number w.blocks
  own_parts stand p lower = (mirror, low, own_block f.layout mirror low other alone degraded (16 + (w.next.number + p) % f.layout.journal) ∙ stand p lower)

  -- Where no other device shows a block of the journal, they stand there alone.
  pub parts_own : AreJournalsLost f.layout mirror alone → PartsStand f.layout alone w.next.number w.blocks → PartsStandOn f.layout mirror other w.next.number w.blocks
  parts_own lost stand p lower =
      let there = stand p lower in
      let number : ℕ = w.next.number + p in
      let count = left.is.sealed.count in
      let some = some_places image f left.before.finds in
      let part = left.is.sealed.parts p (omega (arith, lower, count)) in
      let block : List ℕ = get_or w.blocks p [] in
      let head : Head = part_head f.layout.id w.next.number w.next.entry (entry_format.encode w.next.entry) p in
      let opens : opened block ≡ Some head = laws.parts.opens.head block head (part_payload (entry_format.encode w.next.entry) p) part.opens in
      ⊎_elim
      (λ (own : there.0 ≡ mirror). sym (own_block f.layout mirror low other alone degraded (16 + number % f.layout.journal)) ∙ subst (λ (dev : ℕ). numbered f.layout (area_of alone) dev number ≡ Some block) own there.2)
      (λ (another : ¬ (there.0 ≡ mirror)).
      absurd (lost there.0 (number % f.layout.journal) there.1 another (omega (arith, some)) (record { head = head; opens = ap (option_and_then opened) there.2 ∙ opens; kind = inl refl })))
      (cases_eq there.0 mirror)
