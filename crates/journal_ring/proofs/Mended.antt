-- An entry that is whole stays so while it is mended.
use Rattle.std.proofs.Common.{◌≡◌, ◌≢◌, cond, ℕ, zero, suc, ◌+◌, ◌%◌, ◌<◌, ◌≤◌, ◌⊎◌, inl, inr, ⊎_elim, List, [], length, get_or, Option, Some, None, refl, ap, ◌∙◌, sym, subst, arith}
use Rattle.std.proofs.lemmas.Option.{none-some, same_Some}
use Rattle.std.specs.Prelude.{option_and_then}
use Rattle.sealed_block.specs.declared.heads.Head.{Head}
use Rattle.sealed_block.specs.Blocks.{Opens, encoding}
use Rattle.sealed_block.specs.Opening.{opened, payload_in}
use Rattle.sealed_block.specs.Parts.{continues, continues-true}
use Rattle.sealed_block.specs.Records.{Continues}
use Rattle.vol_types.specs.declared.layout.Layout.{Layout}
use Rattle.journal_ring.specs.declared.found.FoundEntry.{FoundEntry}
use Rattle.journal_ring.specs.Parts.{Area, first_of_two, first_on, joined, numbered, part_in, part_of, part_on, with_next}
use Rattle.journal_ring.specs.PartLaws.{part_opens, taken_on}
use Rattle.journal_ring.specs.Entries.{AgreeFrom, IsMadeOf, IsWholeOn}
use Rattle.record_codec.specs.Entries.{entry_format}
use Rattle.journal_ring.specs.EntryBlocks.{AreEntryBlocks, part_count, part_head, part_payload, parts_of}
use Rattle.journal_ring.proofs.Takes.{parts_continue}
use Rattle.journal_ring.proofs.Written.{SealedOpen}
use Rattle.journal_ring.specs.EntryLaws.{Begins, begins, begun, entry_head_is, opens_some_parts}
use Rattle.journal_ring.specs.MadeOf.{IsMadeWith, made_with}
use Rattle.journal_ring.specs.Mending.{DoNotOverlap, HasPart, IsMended}
use Rattle.journal_ring.proofs.Places.{apart}
use Rattle.journal_ring.proofs.Sealed.{AreSealed, AreSoLong, IsExactFormat, made_sealed, one_sealed}

-- ---- what is found first

-- Each device has what it had, or what was found first, or it has nothing and had something else.
abbrev IsKept : {A : Type 0} → (ℕ → Option A) → (ℕ → Option A) → A → ℕ → Type 0
IsKept on other x dev = (other dev ≡ on dev) ⊎ ((other dev ≡ Some x) ⊎ ((other dev ≡ None) × (on dev ≢ Some x)))

first_none : {A : Type 0} (one two : Option A) → first_of_two one two ≡ None → (one ≡ None) × (two ≡ None)
first_none None two is = (refl, is)
first_none (Some y) two is = absurd (none-some y (sym is))

module _ {A : Type 0} (on other : ℕ → Option A) (x : A) where
  -- Where nothing was found first, nothing is, or it is that.
  none_kept : (count : ℕ) → ((d : ℕ) → d < count → IsKept on other x d) → first_on on count ≡ None → (first_on other count ≡ None) ⊎ (first_on other count ≡ Some x)
  none_kept zero each is = inl refl
  none_kept (suc dev) each is =
      let none = first_none (first_on on dev) (on dev) is in
      ⊎_elim
      (λ (before : first_on other dev ≡ None). ⊎_elim
      (λ (same : other dev ≡ on dev). inl (ap (λ o. first_of_two o (other dev)) before ∙ same ∙ none.1))
      (λ rest. ⊎_elim
      (λ (found : other dev ≡ Some x). inr (ap (λ o. first_of_two o (other dev)) before ∙ found))
      (λ (nothing : (other dev ≡ None) × (on dev ≢ Some x)). inl (ap (λ o. first_of_two o (other dev)) before ∙ nothing.0))
      rest)
      (each dev (omega arith)))
      (λ (before : first_on other dev ≡ Some x). inr (ap (λ o. first_of_two o (other dev)) before))
      (none_kept dev (λ d lower. each d (omega (arith, lower))) none.0)

  last_kept : (dev : ℕ) → IsKept on other x dev → on dev ≡ Some x → other dev ≡ Some x
  last_kept dev kept is = ⊎_elim
      (λ (same : other dev ≡ on dev). same ∙ is)
      (λ rest. ⊎_elim (λ (found : other dev ≡ Some x). found) (λ (nothing : (other dev ≡ None) × (on dev ≢ Some x)). absurd (nothing.1 is)) rest)
      kept

  first_by : (dev : ℕ) (before : Option A) → first_on on dev ≡ before → ((d : ℕ) → d < suc dev → IsKept on other x d) → (first_on on dev ≡ Some x → first_on other dev ≡ Some x) → first_on on (suc dev) ≡ Some x → first_on other (suc dev) ≡ Some x
  first_by dev None none each lower is =
      let here : on dev ≡ Some x = sym (ap (λ o. first_of_two o (on dev)) none) ∙ is in
      let there : other dev ≡ Some x = last_kept dev (each dev (omega arith)) here in
      ⊎_elim
      (λ (before : first_on other dev ≡ None). ap (λ o. first_of_two o (other dev)) before ∙ there)
      (λ (before : first_on other dev ≡ Some x). ap (λ o. first_of_two o (other dev)) before)
      (none_kept dev (λ d low. each d (omega (arith, low))) none)
  first_by dev (Some y) some each lower is =
      let same : y ≡ x = same_Some y x (sym (ap (λ o. first_of_two o (on dev)) some) ∙ is) in
      ap (λ o. first_of_two o (other dev)) (lower (some ∙ ap Some same))

  -- What was found first is so again.
  pub first_kept : (count : ℕ) → ((d : ℕ) → d < count → IsKept on other x d) → first_on on count ≡ Some x → first_on other count ≡ Some x
  first_kept zero each is = absurd (none-some x is)
  first_kept (suc dev) each is = first_by dev (first_on on dev) refl each (λ found. first_kept dev (λ d lower. each d (omega (arith, lower))) found) is

-- Parts that are taken alike are joined alike.
joined_alike : (layout : Layout) (one other : Area) (dev : ℕ) (first : Head) (count : ℕ) → ((p : ℕ) → p < count → part_of layout other dev first p ≡ part_of layout one dev first p) → joined layout other dev first count ≡ joined layout one dev first count
joined_alike layout one other dev first zero each = refl
joined_alike layout one other dev first (suc p) each =
    ap (λ o. with_next o (part_of layout other dev first p)) (joined_alike layout one other dev first p (λ q lower. each q (omega (arith, lower))))
    ∙ ap (with_next (joined layout one dev first p)) (each p (omega arith))

-- ---- the entry

-- Heads that continue a record at one part, with payloads of one length, are the same.
continue_alike : (first : Head) (p : ℕ) (h g : Head) → Continues first p h → Continues first p g → h.length ≡ g.length → h ≡ g
continue_alike first p h g here there long =
    let a = here.record_is in
    let b = there.record_is in
    λ i. record {
      kind = (a.kind ∙ sym b.kind) i;
      version = (a.version ∙ sym b.version) i;
      part = (here.part ∙ sym there.part) i;
      parts = (a.parts ∙ sym b.parts) i;
      id = (a.id ∙ sym b.id) i;
      owner = (a.owner ∙ sym b.owner) i;
      number = (here.number ∙ sym there.number) i;
      sequence = (a.sequence ∙ sym b.sequence) i;
      length = long i;
      whole = (a.whole ∙ sym b.whole) i;
    }

-- What doesn't open is no part.
not_open : (first : Head) (p : ℕ) (held : Option (List ℕ)) → option_and_then opened held ≡ None → option_and_then (part_in first p) held ≡ None
not_open first p None is = refl
not_open first p (Some block) is = ap (option_and_then (λ h. cond {A = Option (List ℕ)} (continues first p h) (Some (payload_in block)) None)) is

module _ (seals : SealedOpen) (sealed : AreSealed) (exact : IsExactFormat) (so_long : AreSoLong) (layout : Layout) (one other : Area) (dev : ℕ) (found : FoundEntry) (is : IsWholeOn layout one dev found)
    (blocks : List (List ℕ)) (are : AreEntryBlocks layout.id found.number found.entry blocks) (mended : IsMended layout found.number blocks one other) where
  abbrev b : Begins layout one dev found.number found
  b = begins layout one dev found.number found is.whole

  with_blocks : IsMadeWith layout one dev found b
  with_blocks = made_with layout one dev found is

  same_blocks : with_blocks.blocks ≡ blocks
  same_blocks = one_sealed layout.id found.number found.entry with_blocks.blocks blocks (made_sealed sealed exact so_long layout one found with_blocks.blocks with_blocks.made) are

  zeroth : b.block ≡ get_or blocks 0 []
  zeroth = with_blocks.zeroth ∙ ap (λ (bs : List (List ℕ)). get_or bs 0 []) same_blocks

  taken : (p : ℕ) → p < b.head.parts → part_of layout one dev b.head p ≡ Some (payload_in (get_or blocks p []))
  taken p lower = with_blocks.taken p lower ∙ ap (λ (bs : List (List ℕ)). Some (payload_in (get_or bs p []))) same_blocks

  number_is : b.head.number ≡ found.number
  number_is = (entry_head_is layout.id found.number b.head b.is).number_is

  -- the head of each part
  abbrev head_of : ℕ → Head
  head_of p = part_head layout.id found.number found.entry (entry_format.encode found.entry) p

  opens_so : (p : ℕ) → p < parts_of found.entry → opened (get_or blocks p []) ≡ Some (head_of p)
  opens_so p lower = seals.head (get_or blocks p []) (head_of p) (part_payload (entry_format.encode found.entry) p) (are.parts p lower).opens

  count_is : length blocks ≡ b.head.parts
  count_is =
      let made : IsMadeOf layout one found blocks = subst (IsMadeOf layout one found) same_blocks with_blocks.made in
      let opens : opened (get_or blocks 0 []) ≡ Some b.head = subst (λ (x : List ℕ). opened x ≡ Some b.head) zeroth b.opens in
      made.record_is.parts.count ∙ ap (λ (h : Head). h.parts) (same_Some made.record_is.first b.head (sym made.record_is.parts.begins ∙ opens))

  some : 0 < b.head.parts
  some = let within = opens_some_parts b.block b.head b.opens in omega (arith, within)

  first_is : head_of 0 ≡ b.head
  first_is =
      let opens : opened (get_or blocks 0 []) ≡ Some b.head = subst (λ (x : List ℕ). opened x ≡ Some b.head) zeroth b.opens in
      same_Some (head_of 0) b.head (sym (opens_so 0 (omega (arith, some, count_is, are.count))) ∙ opens)

  continues_so : (p : ℕ) → p < b.head.parts → Continues b.head p (head_of p)
  continues_so p lower = subst (λ (h : Head). Continues h p (head_of p)) first_is
      (parts_continue layout.id found.number found.entry (entry_format.encode found.entry) p (omega (arith, lower, count_is, are.count, ap part_count (so_long found.entry))))

  -- What stands at the place of a part of the entry is taken as that part.
  part_of_place : (area : Area) (p d : ℕ) → p < b.head.parts → HasPart layout area found.number blocks d p → part_on layout area b.head p d ≡ Some (payload_in (get_or blocks p []))
  part_of_place area p d lower has =
      ap (λ n. option_and_then (part_in b.head p) (numbered layout area d (n + p))) number_is
      ∙ ap (option_and_then (part_in b.head p)) has
      ∙ part_opens b.head p (get_or blocks p []) (head_of p) (opens_so p (omega (arith, lower, count_is, are.count))) (continues-true b.head p (head_of p) (continues_so p lower))

  -- And what is taken so is the part.
  place_of_part : (p d : ℕ) → p < b.head.parts → part_on layout one b.head p d ≡ Some (payload_in (get_or blocks p [])) → HasPart layout one found.number blocks d p
  place_of_part p d lower is_taken =
      let t = taken_on layout one b.head p d (payload_in (get_or blocks p [])) is_taken in
      let block : List ℕ = t.0 in
      let here : Opens block t.1.head (payload_in block) = sealed block t.1.head t.1.opens in
      let there : Opens (get_or blocks p []) (head_of p) (payload_in (get_or blocks p [])) = sealed (get_or blocks p []) (head_of p) (opens_so p (omega (arith, lower, count_is, are.count))) in
      let heads : t.1.head ≡ head_of p = continue_alike b.head p t.1.head (head_of p) t.1.continues_it (continues_so p lower) (sym here.fills ∙ ap length (sym t.1.payload_is) ∙ there.fills) in
      let same : block ≡ get_or blocks p [] = here.encoded ∙ ap (λ (h : Head). encoding h (payload_in block)) heads ∙ ap (encoding (head_of p)) (sym t.1.payload_is) ∙ sym there.encoded in
      ap (λ n. numbered layout one d (n + p)) (sym number_is) ∙ t.1.stands ∙ ap Some same

  -- So each device has the part that it had, or the right one.
  kept : (p : ℕ) → p < b.head.parts → (d : ℕ) → d < layout.metadata_replicas → IsKept (part_on layout one b.head p) (part_on layout other b.head p) (payload_in (get_or blocks p [])) d
  kept p lower d within = ⊎_elim
      (λ (same : numbered layout other d (found.number + p) ≡ numbered layout one d (found.number + p)). inl (
      ap (λ n. option_and_then (part_in b.head p) (numbered layout other d (n + p))) number_is
      ∙ ap (option_and_then (part_in b.head p)) same
      ∙ ap (λ n. option_and_then (part_in b.head p) (numbered layout one d (n + p))) (sym number_is)))
      (λ (lacks : ¬ HasPart layout one found.number blocks d p × (HasPart layout other found.number blocks d p ⊎ (option_and_then opened (numbered layout other d (found.number + p)) ≡ None))). ⊎_elim
      (λ (has : HasPart layout other found.number blocks d p). inr (inl (part_of_place other p d lower has)))
      (λ (torn : option_and_then opened (numbered layout other d (found.number + p)) ≡ None). inr (inr (
        ap (λ n. option_and_then (part_in b.head p) (numbered layout other d (n + p))) number_is ∙ not_open b.head p (numbered layout other d (found.number + p)) torn,
        λ taken_here. lacks.0 (place_of_part p d lower taken_here),
      )))
      lacks.1)
      (mended.parts d p within (omega (arith, lower, count_is)))

  zeroth_there : HasPart layout one found.number blocks dev 0
  zeroth_there = ap (numbered layout one dev) (let e : found.number + 0 ≡ found.number = omega arith in e) ∙ b.stands ∙ ap Some zeroth

  zeroth_stays : numbered layout other dev found.number ≡ Some b.block
  zeroth_stays = ⊎_elim
      (λ (same : numbered layout other dev (found.number + 0) ≡ numbered layout one dev (found.number + 0)). ap (numbered layout other dev) (let e : found.number ≡ found.number + 0 = omega arith in e) ∙ same ∙ zeroth_there ∙ ap Some (sym zeroth))
      (λ lacks. absurd (lacks.0 zeroth_there))
      (mended.parts dev 0 is.mirror (omega (arith, some, count_is)))

  part_kept : (p : ℕ) → p < b.head.parts → part_of layout other dev b.head p ≡ part_of layout one dev b.head p
  part_kept zero lower = last_kept (part_on layout one b.head 0) (part_on layout other b.head 0) (payload_in (get_or blocks 0 [])) dev (kept 0 lower dev is.mirror) (taken 0 lower) ∙ sym (taken 0 lower)
  part_kept (suc p) lower = first_kept (part_on layout one b.head (suc p)) (part_on layout other b.head (suc p)) (payload_in (get_or blocks (suc p) [])) layout.metadata_replicas (kept (suc p) lower) (taken (suc p) lower) ∙ sym (taken (suc p) lower)

  -- The entry is whole there too, from the same device.
  pub mended_whole : IsWholeOn layout other dev found
  mended_whole = record {
    mirror = is.mirror;
    whole = begun layout other dev found.number found (record {
      block = b.block;
      head = b.head;
      payload = b.payload;
      stands = zeroth_stays;
      opens = b.opens;
      is = b.is;
      all = joined_alike layout one other dev b.head b.head.parts part_kept ∙ b.all;
      under = b.under;
      here = b.here;
    });
  }

-- The places of an entry that is apart from the one that is mended stay.
pub places_stay : (layout : Layout) (one other : Area) (found another : FoundEntry) (blocks : List (List ℕ)) → 0 < layout.journal → found.end ≡ found.number + length blocks → DoNotOverlap layout.journal found another
    → IsMended layout found.number blocks one other → AgreeFrom layout one other another.number another.end
places_stay layout one other found another blocks some ends are_apart mended dev number mirror from before =
    mended.elsewhere dev (number % layout.journal) mirror (omega (arith, some)) (λ p lower same. ⊎_elim
    (λ (first : (found.end ≤ another.number) × (another.end ≤ found.number + layout.journal)).
    let behind = first.0 in
    let near = first.1 in
    apart layout.journal (found.number + p) number (omega (arith, lower, ends, behind, from)) (omega (arith, before, near)) (sym same))
    (λ (second : (another.end ≤ found.number) × (found.end ≤ another.number + layout.journal)).
    let behind = second.0 in
    let near = second.1 in
    apart layout.journal number (found.number + p) (omega (arith, before, behind)) (omega (arith, lower, ends, near, from)) same)
    are_apart)
