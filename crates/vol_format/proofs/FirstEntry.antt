-- The first entry of a fresh volume: it is the only one that the journal areas hold, and so the newest, and needs itself alone.
use Rattle.std.proofs.Common.{◌≡◌, ℕ, ◌+◌, ◌/◌, ◌%◌, ◌<◌, ◌≤◌, inl, ⊎_elim, List, [], ◌∷◌, length, get_or, Some, Ok, refl, ap, ◌∙◌, sym, subst, arith, All}
use Rattle.std.specs.Prelude.{slice_index_or}
use Rattle.std.specs.List.{flat_map}
use Rattle.std.proofs.Math.Nat.{mod-eq_of_lt, mod-lt}
use Rattle.std.proofs.lemmas.Bool.{cases_lt}
use Rattle.std.proofs.lemmas.List.Elements.{All-head, All-nil}
use Rattle.std.proofs.lemmas.Option.{none-some, same_Some}
use Rattle.dev_model.specs.Disk.{Image, block_at, zeros}
use Rattle.vol_types.specs.declared.layout.Layout.{Layout}
use Rattle.key_codec.specs.Combined.{ok_is}
use Rattle.sealed_block.specs.Opening.{opened, payload_in}
use Rattle.sealed_block.specs.Records.{IsRecord}
use Rattle.sealed_block.specs.declared.heads.Head.{Head}
use Rattle.record_codec.specs.Entries.{IsEntry, entry_format, entry_in}
use Rattle.journal_ring.specs.Counting.{needed_by, newest}
use Rattle.journal_ring.specs.Entries.{IsMadeOf, IsWholeOn}
use Rattle.journal_ring.specs.EntryBlocks.{HoldBlocks, part_head, part_payload, parts_of}
use Rattle.journal_ring.specs.EntryLaws.{entry_head_is, opens_some_parts}
use Rattle.journal_ring.specs.Leading.{Leads}
use Rattle.journal_ring.specs.MadeOf.{made_of}
use Rattle.journal_ring.specs.Parts.{area_of}
use Rattle.journal_ring.specs.declared.found.FoundEntry.{FoundEntry}
use Rattle.image_view.specs.Found.{AreOwned}
use Rattle.image_view.specs.Mends.{HasNoEqualDigest, StandsIn}
use Rattle.vol_format.specs.declared.fresh.FreshBlocks.{FreshBlocks}
use Rattle.vol_format.specs.Fresh.{AreFreshBlocks, first_entry, first_found}
use Rattle.vol_format.specs.Laws.{EntryLaws}
use Rattle.vol_format.proofs.Copies.{zeros_closed}
use Rattle.vol_format.proofs.Roots.{short_roots}

-- The journal areas hold the first entry in their first block, and zeros in the others.
pub record HoldsEntry (layout : Layout) (fresh : FreshBlocks) (image : Image) : Type 0 where
  pub entry : (dev : ℕ) → dev < layout.metadata_replicas → block_at image dev 16 ≡ Some fresh.entry
  pub rest : (dev place : ℕ) → dev < layout.metadata_replicas → 0 < place → place < layout.journal → block_at image dev (16 + place) ≡ Some zeros

-- A list of one member is that member's.
single : (blocks : List (List ℕ)) (block : List ℕ) → length blocks ≡ 1 → get_or blocks 0 [] ≡ block → blocks ≡ block ∷ []
single [] block one is = absurd (omega (arith, one))
single (x ∷ []) block one is = ap (λ (b : List ℕ). b ∷ []) is
single (x ∷ y ∷ blocks) block one is = absurd (omega (arith, one))

-- The first entry takes one block.
pub one_part : (layout : Layout) → layout.metadata_replicas ≤ 3 → parts_of (first_entry layout) ≡ 1
one_part layout few = omega (arith, short_roots layout few)

module _ (laws : EntryLaws) (layout : Layout) (fresh : FreshBlocks) (image : Image) (some : 256 ≤ layout.journal) (mirrored : 1 ≤ layout.metadata_replicas) (few : layout.metadata_replicas ≤ 3) (entry_is : IsEntry (first_entry layout)) (blocks : AreFreshBlocks layout fresh) (holds : HoldsEntry layout fresh image) where
  -- the payload of the entry, and the head of its block
  abbrev payload : List ℕ
  payload = entry_format.encode (first_entry layout)

  abbrev head : Head
  head = part_head layout.id 0 (first_entry layout) payload 0

  entry_opens : opened fresh.entry ≡ Some head
  entry_opens = laws.opens fresh.entry head (part_payload payload 0) (blocks.entry.parts 0 (omega (arith, one_part layout few))).opens

  head_parts : head.parts ≡ 1
  head_parts = ap (λ n. (n + 3967) / 3968) (laws.lengths (first_entry layout)) ∙ one_part layout few

  -- What opens in the journal areas is the block of the entry, in its place.
  abbrev IsFirst : ℕ → List ℕ → Head → Type 0
  IsFirst place bytes h = (place ≡ 0) × (bytes ≡ fresh.entry) × (h ≡ head)

  is_first : (dev place : ℕ) (bytes : List ℕ) (h : Head) → dev < layout.metadata_replicas → place < layout.journal → area_of image dev place ≡ Some bytes → opened bytes ≡ Some h → IsFirst place bytes h
  is_first dev place bytes h mirror within stands opens = ⊎_elim
      (λ (later : 0 < place). absurd (none-some h (sym zeros_closed ∙ ap opened (same_Some zeros bytes (sym (holds.rest dev place mirror later within) ∙ stands)) ∙ opens)))
      (λ (least : place ≤ 0).
      let here : place ≡ 0 = omega (arith, least) in
      let bytes_are : bytes ≡ fresh.entry = same_Some bytes fresh.entry (sym stands ∙ ap (area_of image dev) here ∙ holds.entry dev mirror) in
      (here, bytes_are, same_Some h head (sym opens ∙ ap opened bytes_are ∙ entry_opens)))
      (cases_lt 0 place)

  -- An entry that blocks of the areas make up has the entry's block alone.
  record IsMadeOfFirst (entry : FoundEntry) (made_blocks : List (List ℕ)) (read_payload : List ℕ) : Type 0 where
    pub number : entry.number ≡ 0
    pub end : entry.end ≡ 1
    pub blocks_are : made_blocks ≡ fresh.entry ∷ []
    pub payload_is : read_payload ≡ flat_map payload_in (fresh.entry ∷ [])

  made_first : (entry : FoundEntry) (bs : List (List ℕ)) (made : IsMadeOf layout (area_of image) entry bs) → IsMadeOfFirst entry bs made.payload
  made_first entry bs made =
      let record_first : Head = made.record_is.first in
      let same_first : record_first ≡ made.first = same_Some record_first made.first (sym made.record_is.parts.begins ∙ made.begins) in
      let any : made.first.part < made.first.parts = opens_some_parts (get_or bs 0 []) made.first made.begins in
      let count : length bs ≡ made.first.parts = made.record_is.parts.count ∙ ap (λ (h : Head). h.parts) same_first in
      let lower : 0 < length bs = omega (arith, count, any) in
      let stands = made.stand 0 lower in
      let first = is_first stands.0 ((entry.number + 0) % layout.journal) (get_or bs 0 []) made.first stands.1 (mod-lt (entry.number + 0) (omega (arith, some))) stands.2 made.begins in
      let parts : made.first.parts ≡ 1 = ap (λ (h : Head). h.parts) first.2 ∙ head_parts in
      let number : entry.number ≡ 0 = sym (entry_head_is layout.id entry.number made.first made.is_head).number_is ∙ ap (λ (h : Head). h.number) first.2 in
      let alone : bs ≡ fresh.entry ∷ [] = single bs fresh.entry (count ∙ parts) first.1 in
      record {
        number = number;
        end = omega (arith, made.end, number, count, parts);
        blocks_are = alone;
        payload_is = made.record_is.joined ∙ ap (flat_map payload_in) alone;
      }

  -- The first entry is whole on each metadata device.
  pub stands_first : HoldBlocks layout.metadata_replicas layout.journal 0 (fresh.entry ∷ []) 1 image
  stands_first dev p mirror lower =
      let none : p ≡ 0 = omega (arith, lower) in
      subst (λ q. block_at image dev (16 + (0 + q) % layout.journal) ≡ Some (slice_index_or (fresh.entry ∷ []) q [])) (sym none)
      (ap (λ place. block_at image dev (16 + place)) (mod-eq_of_lt (let e : 0 < layout.journal = omega (arith, some) in e)) ∙ holds.entry dev mirror)

  pub whole_first : (dev : ℕ) → dev < layout.metadata_replicas → IsWholeOn layout (area_of image) dev (first_found layout)
  whole_first dev mirror = record {
    mirror = mirror;
    whole = laws.whole layout image 0 (first_entry layout) (fresh.entry ∷ []) entry_is (omega (arith, one_part layout few)) blocks.entry stands_first dev mirror
        ∙ ap (λ n. Some (record { number = 0; end = 0 + n; entry = first_entry layout })) (one_part layout few);
  }

  -- So it is the only entry that blocks of the areas make up,
  pub only_made : (entry : FoundEntry) (bs : List (List ℕ)) → IsMadeOf layout (area_of image) entry bs → entry ≡ first_found layout
  only_made entry bs made =
      let mine = made_of layout (area_of image) 0 (first_found layout) (whole_first 0 mirrored) in
      let one = made_first entry bs made in
      let two = made_first (first_found layout) mine.0 mine.1 in
      let same : entry.entry ≡ first_entry layout = ok_is entry.entry (first_entry layout) (sym made.read ∙ ap entry_in (one.payload_is ∙ sym two.payload_is) ∙ mine.1.read) in
      λ i. record { number = one.number i; end = one.end i; entry = same i }

  -- and the only whole one.
  only_whole : (dev : ℕ) (entry : FoundEntry) → IsWholeOn layout (area_of image) dev entry → entry ≡ first_found layout
  only_whole dev entry whole = let made = made_of layout (area_of image) dev entry whole in only_made entry made.0 made.1

  leads_first : Leads layout (area_of image) (first_found layout)
  leads_first = record { whole = (0, whole_first 0 mirrored); others = λ dev other whole same. inl (only_whole dev other whole) }

  pub newest_first : newest layout (area_of image) ≡ Some (first_found layout)
  newest_first = laws.newest_is layout (area_of image) (first_found layout) (omega (arith, some)) leads_first
      (λ dev other whole. omega (arith, ap (λ (e : FoundEntry). e.entry.sequence) (only_whole dev other whole)))

  pub needed_first : needed_by layout (area_of image) (first_found layout) ≡ Ok (first_found layout ∷ [])
  needed_first = laws.needed_are layout (area_of image) (first_found layout) [] (omega (arith, some)) tt refl (All-nil (Leads layout (area_of image)))

  -- It passes no other one, and the areas have blocks of no later session.
  pub owned_first : AreOwned layout 1 (area_of image)
  owned_first dev place bytes h mirror within stands opens kind id =
      let first = is_first dev place bytes h mirror within stands opens in
      omega (arith, ap (λ (x : Head). x.owner) first.2)

  -- The blocks of a record in the areas are that block alone.
  record_first : (bs : List (List ℕ)) (joined : List ℕ) → All (StandsIn layout (area_of image)) bs → IsRecord bs joined → joined ≡ flat_map payload_in (fresh.entry ∷ [])
  record_first [] joined stand is = let none = is.parts.count in let any = opens_some_parts [] is.first is.parts.begins in absurd (omega (arith, none, any))
  record_first (b ∷ bs) joined stand is =
      let at = All-head (StandsIn layout (area_of image)) b bs stand in
      let first = is_first at.dev at.place b is.first at.mirror at.within at.stands is.parts.begins in
      let parts : is.first.parts ≡ 1 = ap (λ (h : Head). h.parts) first.2 ∙ head_parts in
      is.joined ∙ ap (flat_map payload_in) (single (b ∷ bs) fresh.entry (is.parts.count ∙ parts) first.1)

  -- So no two records have one digest.
  pub no_equal_digest : HasNoEqualDigest layout (area_of image)
  no_equal_digest one other joined second digest stand again is also = record_first one joined stand is.0 ∙ sym (record_first other second again also.0)
