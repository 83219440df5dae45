-- The journal of an image is that of the degraded one, where each needed entry stands whole on the device that is left.
use Rattle.std.proofs.Common.{◌≡◌, ⊎_elim, ℕ, zero, suc, ◌+◌, ◌%◌, ◌<◌, List, [], length, map, get_or, Some, Ok, refl, sym, ap, ◌∙◌, arith}
use Rattle.std.proofs.lemmas.List.Elements.{All-get_or}
use Rattle.std.proofs.lemmas.Option.{none-some, same_Some}
use Rattle.std.specs.Prelude.{All, option_and_then}
use Rattle.dev_model.specs.Disk.{Image, block_at}
use Rattle.geometry.specs.LayoutFacts.{has_places}
use Rattle.geometry.specs.SuperLaws.{layout_fits}
use Rattle.image_view.specs.BaseLaws.{found-layout, found-newest}
use Rattle.image_view.specs.Bases.{AgreeAt, IsNewest}
use Rattle.image_view.specs.Found.{Found, found}
use Rattle.image_view.proofs.CrashNewest.{Again}
use Rattle.image_view.proofs.MadeWhole.{made_whole}
use Rattle.journal_ring.specs.Entries.{IsMadeOf, IsWhole, IsWholeOn}
use Rattle.journal_ring.specs.EntryBlocks.{AreEntryBlocks}
use Rattle.journal_ring.specs.EntryLaws.{Begins, begins, begun, entry_head_is, opens_some_parts}
use Rattle.journal_ring.specs.Leading.{IsBehind}
use Rattle.journal_ring.specs.MadeOf.{made_of, made_with}
use Rattle.journal_ring.specs.Parts.{Area, area_of, joined, numbered, part_in, part_of, with_next}
use Rattle.journal_ring.specs.declared.found.FoundEntry.{FoundEntry}
use Rattle.record_codec.specs.declared.entries.EntryRecord.{EntryRecord}
use Rattle.sealed_block.specs.Opening.{opened}
use Rattle.sealed_block.specs.declared.heads.Head.{Head}
use Rattle.vol_types.specs.declared.layout.Layout.{Layout}
use Rattle.mirror_laws.specs.Degraded.{IsDegradedTo, IsLostAt}
use Rattle.mirror_laws.specs.Standing.{EntryStandsOn, NonePassed}
use Rattle.mirror_laws.proofs.DegradedNodes.{own_block}

-- What the laws of the journal say: which entries are needed again, what makes an entry are its sealed blocks, and of these there is one list.
pub record EntryLaws : Type 0 where
  pub again : Again
  pub sealed : (layout : Layout) (area : Area) (found : FoundEntry) (blocks : List (List ℕ)) → IsMadeOf layout area found blocks → AreEntryBlocks layout.id found.number found.entry blocks
  pub one : (id : List ℕ) (number : ℕ) (entry : EntryRecord) (one other : List (List ℕ)) → AreEntryBlocks id number entry one → AreEntryBlocks id number entry other → one ≡ other

-- ---- entries that stand whole

-- The device from which part 0 is taken counts for that part alone.
joined_from : (layout : Layout) (area : Area) (one other : ℕ) (first : Head) → numbered layout area one (first.number + 0) ≡ numbered layout area other (first.number + 0) → (count : ℕ) → joined layout area one first count ≡ joined layout area other first count
joined_from layout area one other first same zero = refl
joined_from layout area one other first same (suc zero) = ap (λ held. with_next (Some []) (option_and_then (part_in first 0) held)) same
joined_from layout area one other first same (suc (suc p)) = ap (λ o. with_next o (part_of layout area one first (suc p))) (joined_from layout area one other first same (suc p))

module _ (laws : EntryLaws) (layout : Layout) (mirror : ℕ) (area : Area) (entry : FoundEntry) (low : mirror < layout.metadata_replicas) (stands : EntryStandsOn layout mirror area entry) where
  -- An entry that stands whole on a device is whole,
  somewhere : IsWhole layout area entry
  somewhere = made_whole layout area entry stands.blocks stands.made stands.agree

  abbrev b : Begins layout area somewhere.0 entry.number entry
  b = begins layout area somewhere.0 entry.number entry somewhere.1.whole

  zeroth : numbered layout area mirror entry.number ≡ Some b.block
  zeroth =
      let m = made_with layout area somewhere.0 entry somewhere.1 in
      let same : m.blocks ≡ stands.blocks = laws.one layout.id entry.number entry.entry m.blocks stands.blocks (laws.sealed layout area entry m.blocks m.made) (laws.sealed layout area entry stands.blocks stands.made) in
      let count = stands.made.record_is.parts.count in
      let begins_so : stands.made.record_is.first ≡ stands.made.first = same_Some stands.made.record_is.first stands.made.first (sym stands.made.record_is.parts.begins ∙ stands.made.begins) in
      let parts : stands.made.record_is.first.parts ≡ stands.made.first.parts = ap (λ (h : Head). h.parts) begins_so in
      let some = opens_some_parts (get_or stands.blocks 0 []) stands.made.first stands.made.begins in
      ap (numbered layout area mirror) (let e : entry.number ≡ entry.number + 0 = omega arith in e) ∙ stands.stand 0 (omega (arith, some, parts, count))
      ∙ ap (λ (bs : List (List ℕ)). Some (get_or bs 0 [])) (sym same) ∙ ap Some (sym m.zeroth)

  -- with its part 0 there.
  pub whole_there : IsWholeOn layout area mirror entry
  whole_there =
      let number : b.head.number + 0 ≡ entry.number = let is = (entry_head_is layout.id entry.number b.head b.is).number_is in omega (arith, is) in
      let same : numbered layout area mirror (b.head.number + 0) ≡ numbered layout area somewhere.0 (b.head.number + 0) =
      ap (numbered layout area mirror) number ∙ zeroth ∙ sym b.stands ∙ ap (numbered layout area somewhere.0) (sym number) in
      record {
        mirror = low;
        whole = begun layout area mirror entry.number entry (record {
          block = b.block;
          head = b.head;
          payload = b.payload;
          stands = zeroth;
          opens = b.opens;
          is = b.is;
          all = joined_from layout area mirror somewhere.0 b.head same b.head.parts ∙ b.all;
          under = b.under;
          here = b.here;
        });
      }

-- ---- degraded images

module _ (layout : Layout) (mirror : ℕ) (one other : Image) (degraded : IsDegradedTo layout mirror one other) where
  -- What opens in the degraded image stood there.
  pub stood : (dev block : ℕ) (bytes : List ℕ) (head : Head) → block_at other dev block ≡ Some bytes → opened bytes ≡ Some head → block_at one dev block ≡ Some bytes
  stood dev block bytes head stands opens = ⊎_elim
      (λ (same : AgreeAt one other dev block). same ∙ stands)
      (λ (lost : IsLostAt layout mirror one other dev block). absurd (none-some head (sym lost.lost ∙ ap (option_and_then opened) stands ∙ opens)))
      (degraded.each dev block)

  -- What is made up there was before.
  pub made_before : (entry : FoundEntry) (blocks : List (List ℕ)) → IsMadeOf layout (area_of other) entry blocks → IsMadeOf layout (area_of one) entry blocks
  made_before entry blocks made = record {
    first = made.first;
    payload = made.payload;
    begins = made.begins;
    is_head = made.is_head;
    session = made.session;
    sequence = made.sequence;
    end = made.end;
    stand = λ p lower.
        let at = made.stand p lower in
        let count = made.record_is.parts.count in
        let part = made.record_is.parts.parts p (omega (arith, lower, count)) in
        (at.0, at.1, stood at.0 (16 + (entry.number + p) % layout.journal) (get_or blocks p []) part.head at.2 part.opens);
    record_is = made.record_is;
    read = made.read;
  }

  module _ (low : mirror < layout.metadata_replicas) where
    -- An entry that stands whole on the device that is left does so there.
    pub entry_stands : (entry : FoundEntry) → EntryStandsOn layout mirror (area_of one) entry → EntryStandsOn layout mirror (area_of other) entry
    entry_stands entry stands =
        let own : (p : ℕ) → p < length stands.blocks → numbered layout (area_of other) mirror (entry.number + p) ≡ Some (get_or stands.blocks p []) =
        λ p lower. own_block layout mirror low one other degraded (16 + (entry.number + p) % layout.journal) ∙ stands.stand p lower in
        record {
          blocks = stands.blocks;
          made = record {
            first = stands.made.first;
            payload = stands.made.payload;
            begins = stands.made.begins;
            is_head = stands.made.is_head;
            session = stands.made.session;
            sequence = stands.made.sequence;
            end = stands.made.end;
            stand = λ p lower. (mirror, low, own p lower);
            record_is = stands.made.record_is;
            read = stands.made.read;
          };
          stand = own;
          agree = λ dev p block head within lower there opens continues.
              stands.agree dev p block head within lower (stood dev (16 + (entry.number + p) % layout.journal) block head there opens) opens continues;
        }

-- The journal has places.
pub some_places : (image : Image) (f : Found) → found image ≡ Ok f → 0 < f.layout.journal
some_places image f is =
    let least = (has_places (map (λ blocks. length blocks) image) f.layout (layout_fits image f.layout (found-layout image f is))).least in
    omega (arith, least)

-- The newest entry stays, and so do the needed ones.
pub newest_still : EntryLaws → (f : Found) (mirror : ℕ) → mirror < f.layout.metadata_replicas → (one other : Image) → IsDegradedTo f.layout mirror one other → found one ≡ Ok f → NonePassed f one → All (EntryStandsOn f.layout mirror (area_of one)) f.needed → IsNewest f other
newest_still laws f mirror low one other degraded is none stand =
    let new = found-newest one f is in
    let still = laws.again f.layout (area_of one) (area_of other) f.last f.needed (some_places one f is) new.last new.needed
    (λ k d lower. record {
      whole = (mirror, whole_there laws f.layout mirror (area_of other) (get_or f.needed k d) low (entry_stands f.layout mirror one other degraded low (get_or f.needed k d) (stand k d lower)));
      others = λ dev x whole named.
          let m = made_of f.layout (area_of other) dev x whole in
          All-get_or (λ (needed : FoundEntry). x.entry.sequence ≡ needed.entry.sequence → IsBehind x needed) f.needed k d lower (none x m.0 (made_before f.layout mirror one other degraded x m.0 m.1)).behind named;
    })
    (λ dev x whole. let m = made_of f.layout (area_of other) dev x whole in (none x m.0 (made_before f.layout mirror one other degraded x m.0 m.1)).sequence) in
    record { last = still.0; needed = still.1 }
