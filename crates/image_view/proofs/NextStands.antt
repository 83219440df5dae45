-- What stands in an image of old blocks and of the next entry's: what these make up passes none that was found or is the next entry, which
-- then is whole.
use Rattle.std.proofs.Common.{◌≡◌, ◌≢◌, ◌⊎◌, inl, inr, ⊎_elim, ℕ, zero, suc, ◌+◌, ◌%◌, ◌<◌, ◌≤◌, List, [], length, get_or, Some, sym, ap, subst, ◌∙◌, arith}
use Rattle.std.proofs.lemmas.Bool.{cases_eq, cases_lt}
use Rattle.std.proofs.lemmas.Option.{same_Some}
use Rattle.std.specs.Prelude.{is_some}
use Rattle.dev_model.specs.Disk.{Disk, Image}
use Rattle.journal_ring.specs.Entries.{IsMadeOf, IsWhole}
use Rattle.journal_ring.specs.EntryBlocks.{AreEntryBlocks, part_head}
use Rattle.journal_ring.specs.EntryLaws.{entry_head_is}
use Rattle.journal_ring.specs.MadeOf.{made_of}
use Rattle.journal_ring.specs.Mending.{IsEntryBlock}
use Rattle.journal_ring.specs.Parts.{area_of, numbered}
use Rattle.journal_ring.specs.declared.found.FoundEntry.{FoundEntry}
use Rattle.record_codec.specs.Entries.{entry_format}
use Rattle.sealed_block.specs.declared.heads.Head.{Head}
use Rattle.sealed_block.specs.Opening.{opened}
use Rattle.sealed_block.specs.Records.{Continues}
use Rattle.vol_types.specs.declared.layout.Layout.{Layout}
use Rattle.image_view.proofs.MadeWhole.{made_whole}
use Rattle.image_view.proofs.NextBlocks.{BlockLaws, IsOld, IsOwn, old_or_next, opens_so}
use Rattle.image_view.proofs.NextNewest.{EachPasses}
use Rattle.image_view.specs.CrashEntries.{OnlyHeldEntriesOpen}
use Rattle.image_view.specs.Found.{AreOwned, Found, IsInOrder, PassesNone}
use Rattle.image_view.specs.Mends.{IsPlaceOf}
use Rattle.image_view.specs.NextEntries.{AreNumberedBelow, AreOldOrNext, HoldOldOrNext, IsNext, IsToldApart, IsWritten}

-- A place is one of the first so many from a number on, or it isn't.
pub is_place : (journal number place count : ℕ) → ((p : ℕ) × (p < count) × (place ≡ (number + p) % journal)) ⊎ ((p : ℕ) → p < count → place ≢ (number + p) % journal)
is_place journal number place zero = inr (λ p low. absurd (omega (arith, low)))
is_place journal number place (suc count) = ⊎_elim
    (λ (found : (p : ℕ) × (p < count) × (place ≡ (number + p) % journal)). let low = found.1 in inl (found.0, omega (arith, low), found.2))
    (λ (none : (p : ℕ) → p < count → place ≢ (number + p) % journal). ⊎_elim
    (λ (here : place ≡ (number + count) % journal). inl (count, omega arith, here))
    (λ (away : ¬ (place ≡ (number + count) % journal)). inr (λ p low. ⊎_elim (λ (less : p < count). none p less) (λ (more : count ≤ p). subst (λ n. place ≢ (number + n) % journal) (let e : count ≡ p = omega (arith, low, more) in e) away) (cases_lt p count)))
    (cases_eq place ((number + count) % journal)))
    (is_place journal number place count)

-- Where the entry is written, a block stood there, or it is one of the entry's, at its place.
pub stood : (layout : Layout) (next : FoundEntry) (blocks : List (List ℕ)) (one other : Image) → IsWritten layout next blocks one other → (dev place : ℕ) (bytes : List ℕ) → dev < layout.metadata_replicas → place < layout.journal → area_of other dev place ≡ Some bytes
    → (area_of one dev place ≡ Some bytes) ⊎ IsEntryBlock layout.metadata_replicas layout.journal next.number blocks dev (16 + place) bytes
stood layout next blocks one other written dev place bytes mirror within stands = ⊎_elim
    (λ (found : (p : ℕ) × (p < length blocks) × (place ≡ (next.number + p) % layout.journal)). inr (record {
      part = found.0;
      within = found.1;
      mirror = mirror;
      place = ap (λ n. 16 + n) found.2;
      bytes_are = same_Some bytes (get_or blocks found.0 []) (sym stands ∙ ap (area_of other dev) found.2 ∙ written.stands dev found.0 mirror found.1);
    }))
    (λ (away : (p : ℕ) → p < length blocks → place ≢ (next.number + p) % layout.journal). inl (
    written.elsewhere dev place mirror within (λ (hit : IsPlaceOf layout next (length blocks) dev (16 + place)). let there = hit.place in away hit.part hit.within (omega (arith, there)))
    ∙ stands))
    (is_place layout.journal next.number place (length blocks))

pub written_old_or_next : (layout : Layout) (next : FoundEntry) (blocks : List (List ℕ)) (one other : Image) → IsWritten layout next blocks one other → AreOldOrNext layout next blocks one other
written_old_or_next layout next blocks one other written dev place bytes head mirror within stands opens = stood layout next blocks one other written dev place bytes mirror within stands

-- Where only held blocks open, so it is where these are old or the entry's.
pub held_old_or_next : (layout : Layout) (next : FoundEntry) (blocks : List (List ℕ)) (disks : List Disk) (one other : Image) → HoldOldOrNext layout one next blocks disks → OnlyHeldEntriesOpen layout disks other → AreOldOrNext layout next blocks one other
held_old_or_next layout next blocks disks one other hold only dev place bytes head mirror within stands is_head =
    let open_so = ap is_some is_head in
    hold dev place bytes mirror within open_so (only dev place mirror within bytes stands open_so)

module _ (laws : BlockLaws) (f : Found) (some : 0 < f.layout.journal) (passed : ℕ) (next : FoundEntry) (is_next : IsNext f passed next) (blocks : List (List ℕ)) (sealed : AreEntryBlocks f.layout.id next.number next.entry blocks) (one other : Image)
    (old_or : AreOldOrNext f.layout next blocks one other) where
  -- Its own blocks have their heads.
  pub own_head : (bytes : List ℕ) (head : Head) (p : ℕ) → p < length blocks → bytes ≡ get_or blocks p [] → opened bytes ≡ Some head → head ≡ part_head f.layout.id next.number next.entry (entry_format.encode next.entry) p
  own_head bytes head p lower same opens = same_Some head (part_head f.layout.id next.number next.entry (entry_format.encode next.entry) p) (sym opens ∙ ap opened same ∙ opens_so laws f passed next is_next blocks sealed p lower)

  -- What its blocks make up passes none that was found, or is the next entry.
  pub made_or_next : IsInOrder f one → IsToldApart f (area_of one) blocks → (x : FoundEntry) (parts : List (List ℕ)) → IsMadeOf f.layout (area_of other) x parts → PassesNone f x ⊎ (x ≡ next)
  made_or_next order told x parts made = old_or_next laws f passed next is_next blocks sealed one order some (area_of other) x parts made each told
    where
      each : (p : ℕ) → p < length parts → IsOld laws f passed next is_next blocks sealed one x parts p ⊎ IsOwn laws f passed next is_next blocks sealed one parts p
      each p lower =
          let there = made.stand p lower in
          let count = made.record_is.parts.count in
          let part = made.record_is.parts.parts p (omega (arith, lower, count)) in
          ⊎_elim
          (λ old. inl (there.0, there.1, old))
          (λ own. inr (own.part, own.within, own.bytes_are))
          (old_or there.0 ((x.number + p) % f.layout.journal) (get_or parts p []) part.head there.1 (omega (arith, some)) there.2 part.opens)

  pub each_passes : IsInOrder f one → IsToldApart f (area_of one) blocks → EachPasses f next (area_of other)
  each_passes order told dev x whole = let m = made_of f.layout (area_of other) dev x whole in made_or_next order told x m.0 m.1

  -- Its blocks are of the session, as all that stood there were up to it.
  pub owners_stay : AreOwned f.layout f.session (area_of one) → AreOwned f.layout f.session (area_of other)
  owners_stay owned dev place bytes head mirror within stands opens kind id = ⊎_elim
      (λ old. owned dev place bytes head mirror within old opens kind id)
      (λ own.
      let here : head.owner ≡ next.entry.session = ap (λ (h : Head). h.owner) (own_head bytes head own.part own.within own.bytes_are opens) in
      let session = is_next.session in
      omega (arith, here, session))
      (old_or dev place bytes head mirror within stands opens)

  -- Blocks of this session have numbers below its end.
  pub numbers_stay : AreNumberedBelow f.layout f.session f.last.end (area_of one) → AreNumberedBelow f.layout f.session next.end (area_of other)
  numbers_stay below dev place bytes head mirror within stands opens kind id owner = ⊎_elim
      (λ old.
      let less = below dev place bytes head mirror within old opens kind id owner in
      let at = is_next.number in
      let end = is_next.end in
      omega (arith, less, at, end))
      (λ own.
      let here : head.number ≡ next.number + own.part = ap (λ (h : Head). h.number) (own_head bytes head own.part own.within own.bytes_are opens) in
      let low = own.within in
      let many = sealed.count in
      let end = is_next.end in
      omega (arith, here, low, many, end))
      (old_or dev place bytes head mirror within stands opens)

  -- Where the entry can be made of blocks, it is whole, if no block of the session that stood there has a number behind the newest entry.
  pub next_made_whole : AreNumberedBelow f.layout f.session f.last.end (area_of one) → (parts : List (List ℕ)) → IsMadeOf f.layout (area_of other) next parts → IsWhole f.layout (area_of other) next
  next_made_whole below parts made = made_whole f.layout (area_of other) next parts made only
    where
      same_parts : parts ≡ blocks
      same_parts = laws.one_sealed f.layout.id next.number next.entry parts blocks (laws.made_sealed f.layout (area_of other) next parts made) sealed

      only : (d p : ℕ) (block : List ℕ) (head : Head) → d < f.layout.metadata_replicas → p < length parts → numbered f.layout (area_of other) d (next.number + p) ≡ Some block → opened block ≡ Some head → Continues made.first p head → block ≡ get_or parts p []
      only d p block head mirror lower stands opens continues = ⊎_elim
          (λ old.
          let named = entry_head_is f.layout.id next.number made.first made.is_head in
          let less = below d ((next.number + p) % f.layout.journal) block head mirror (omega (arith, some)) old opens (continues.record_is.kind ∙ named.kind) (continues.record_is.id ∙ named.id_is) (continues.record_is.owner ∙ sym made.session ∙ is_next.session) in
          let at = continues.number in
          let first_at = named.number_is in
          let ends = is_next.number in
          absurd (omega (arith, less, at, first_at, ends)))
          (λ own.
          let at : own.part ≡ p = sym (ap (λ (h : Head). h.part) (own_head block head own.part own.within own.bytes_are opens)) ∙ continues.part in
          own.bytes_are ∙ ap (λ n. get_or blocks n []) at ∙ ap (λ (bs : List (List ℕ)). get_or bs p []) (sym same_parts))
          (old_or d ((next.number + p) % f.layout.journal) block head mirror (omega (arith, some)) stands opens)
