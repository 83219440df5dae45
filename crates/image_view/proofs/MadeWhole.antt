-- An entry that blocks make up is whole, where no other block continues its part 0 at the place of a part.
use Rattle.std.proofs.Common.{◌≡◌, ⊎_elim, ℕ, zero, suc, ◌+◌, ◌<◌, ◌≤◌, cond, List, [], ◌∷◌, ◌++◌, length, take, get_or, Option, Some, None, refl, sym, ap, subst, ◌∙◌, arith}
use Rattle.std.proofs.lemmas.Bool.{cases_lt, eq-eqb}
use Rattle.std.proofs.lemmas.List.{append-nil, take_all, take_more}
use Rattle.std.proofs.lemmas.List.Concat.{flat_map-append}
use Rattle.std.proofs.lemmas.Option.{none-some, same_Some}
use Rattle.std.proofs.lemmas.Slice.Eq.{bytes_eq-Decides}
use Rattle.std.specs.Cmp.Derive.{both_true}
use Rattle.std.specs.List.{flat_map}
use Rattle.std.specs.Prelude.{option_and_then}
use Rattle.std.specs.Result.{result_ok}
use Rattle.sha2.specs.Sha256.{sha256}
use Rattle.journal_ring.specs.Entries.{IsMadeOf, IsWhole, agreeing, entry_under}
use Rattle.journal_ring.specs.EntryLaws.{begun, entry_head_is, opens_some_parts}
use Rattle.journal_ring.specs.PartLaws.{first_is_on, part_opens, taken_on}
use Rattle.journal_ring.specs.Parts.{Area, first_of_two, first_on, joined, numbered, part_in, part_of, part_on, with_next}
use Rattle.journal_ring.specs.declared.found.FoundEntry.{FoundEntry}
use Rattle.record_codec.specs.declared.entries.EntryRecord.{EntryRecord}
use Rattle.record_codec.specs.Entries.{entry_in}
use Rattle.sealed_block.specs.declared.heads.Head.{Head}
use Rattle.sealed_block.specs.Opening.{opened, payload_in}
use Rattle.sealed_block.specs.Parts.{continues-true}
use Rattle.sealed_block.specs.Records.{Continues}
use Rattle.vol_types.specs.declared.layout.Layout.{Layout}

-- Where some device has it, and none has anything else, it is found first.
first_by : {A : Type 0} (on : ℕ → Option A) (x : A) (count dev : ℕ) (o : Option A) → first_on on count ≡ o → dev < suc count → on dev ≡ Some x → ((d : ℕ) (y : A) → d < suc count → on d ≡ Some y → y ≡ x) → (dev < count → first_on on count ≡ Some x) → first_on on (suc count) ≡ Some x
first_by on x count dev None none lower has only before = ⊎_elim
    (λ (earlier : dev < count). absurd (none-some x (sym none ∙ before earlier)))
    (λ (last : count ≤ dev).
    let same : dev ≡ count = omega (arith, lower, last) in
    ap (λ o. first_of_two o (on count)) none ∙ ap on (sym same) ∙ has)
    (cases_lt dev count)
first_by on x count dev (Some y) some lower has only before =
    let there = first_is_on on count y some in
    let low = there.1 in
    ap (λ o. first_of_two o (on count)) some ∙ ap Some (only there.0 y (omega (arith, low)) there.2)

found_first : {A : Type 0} (on : ℕ → Option A) (x : A) (count dev : ℕ) → dev < count → on dev ≡ Some x → ((d : ℕ) (y : A) → d < count → on d ≡ Some y → y ≡ x) → first_on on count ≡ Some x
found_first on x zero dev lower has only = absurd (omega (arith, lower))
found_first on x (suc count) dev lower has only = first_by on x count dev (first_on on count) refl lower has only (λ earlier. found_first on x count dev earlier has (λ d y low. only d y (omega (arith, low))))

module _ (layout : Layout) (area : Area) (found : FoundEntry) (blocks : List (List ℕ)) (made : IsMadeOf layout area found blocks)
    (only : (d p : ℕ) (block : List ℕ) (head : Head) → d < layout.metadata_replicas → p < length blocks → numbered layout area d (found.number + p) ≡ Some block → opened block ≡ Some head → Continues made.first p head → block ≡ get_or blocks p []) where
  abbrev first : Head
  first = made.first

  number_is : first.number ≡ found.number
  number_is = (entry_head_is layout.id found.number first made.is_head).number_is

  first_is : made.record_is.first ≡ first
  first_is = same_Some made.record_is.first first (sym made.record_is.parts.begins ∙ made.begins)

  many : length blocks ≡ first.parts
  many = made.record_is.parts.count ∙ ap (λ (h : Head). h.parts) first_is

  some : 0 < length blocks
  some = let within = opens_some_parts (get_or blocks 0 []) first made.begins in omega (arith, within, many)

  -- Where a part stands it is taken,
  taken : (p d : ℕ) → p < length blocks → numbered layout area d (found.number + p) ≡ Some (get_or blocks p []) → part_on layout area first p d ≡ Some (payload_in (get_or blocks p []))
  taken p d lower stands =
      let count = made.record_is.parts.count in
      let part = made.record_is.parts.parts p (omega (arith, lower, count)) in
      let begins : part.first ≡ first = same_Some part.first first (sym part.begins ∙ made.begins) in
      ap (λ n. option_and_then (part_in first p) (numbered layout area d (n + p))) number_is
      ∙ ap (option_and_then (part_in first p)) stands
      ∙ part_opens first p (get_or blocks p []) part.head part.opens (continues-true first p part.head (subst (λ (h : Head). Continues h p part.head) begins part.continues))

  -- and nothing else is.
  only_payload : (p d : ℕ) (y : List ℕ) → d < layout.metadata_replicas → p < length blocks → part_on layout area first p d ≡ Some y → y ≡ payload_in (get_or blocks p [])
  only_payload p d y mirror lower is =
      let t = taken_on layout area first p d y is in
      t.1.payload_is ∙ ap payload_in (only d p t.0 t.1.head mirror lower (ap (λ n. numbered layout area d (n + p)) (sym number_is) ∙ t.1.stands) t.1.opens t.1.continues_it)

  -- the device from which part 0 is taken
  abbrev dev : ℕ
  dev = (made.stand 0 some).0

  each_part : (p : ℕ) → p < length blocks → part_of layout area dev first p ≡ Some (payload_in (get_or blocks p []))
  each_part zero lower = taken 0 dev some (made.stand 0 some).2
  each_part (suc p) lower =
      let there = made.stand (suc p) lower in
      found_first (part_on layout area first (suc p)) (payload_in (get_or blocks (suc p) [])) layout.metadata_replicas there.0 there.1 (taken (suc p) there.0 lower there.2) (λ d y mirror is. only_payload (suc p) d y mirror lower is)

  joined_so : (count : ℕ) → count ≤ length blocks → joined layout area dev first count ≡ Some (flat_map payload_in (take count blocks))
  joined_so zero few = refl
  joined_so (suc p) few =
      let block : List ℕ = get_or blocks p [] in
      let more : flat_map payload_in (take (suc p) blocks) ≡ flat_map payload_in (take p blocks) ++ payload_in block =
      ap (λ n. flat_map payload_in (take n blocks)) (let e : suc p ≡ p + 1 = omega arith in e)
      ∙ ap (flat_map payload_in) (take_more blocks p [] (omega (arith, few)))
      ∙ flat_map-append payload_in (take p blocks) (block ∷ [])
      ∙ ap (λ (bs : List ℕ). flat_map payload_in (take p blocks) ++ bs) (append-nil (payload_in block)) in
      ap (λ o. with_next o (part_of layout area dev first p)) (joined_so p (omega (arith, few)))
      ∙ ap (with_next (Some (flat_map payload_in (take p blocks)))) (each_part p (omega (arith, few)))
      ∙ ap Some (sym more)

  joined_all : joined layout area dev first first.parts ≡ Some made.payload
  joined_all =
      ap (joined layout area dev first) (sym many)
      ∙ joined_so (length blocks) (omega arith)
      ∙ ap (λ (bs : List (List ℕ)). Some (flat_map payload_in bs)) (take_all (length blocks) blocks (omega arith))
      ∙ ap Some (sym made.record_is.joined)

  under : entry_under first made.payload ≡ Some found.entry
  under =
      ap (λ b. cond {A = Option EntryRecord} b (agreeing first (result_ok (entry_in made.payload))) None) ((bytes_eq-Decides (sha256 made.payload) first.whole).1 (made.record_is.digest ∙ ap (λ (h : Head). h.whole) first_is))
      ∙ ap (λ r. agreeing first (result_ok r)) made.read
      ∙ ap (λ b. cond {A = Option EntryRecord} b (Some found.entry) None) (both_true (eq-eqb found.entry.sequence first.sequence made.sequence) (eq-eqb found.entry.session first.owner made.session))

  pub made_whole : IsWhole layout area found
  made_whole =
      let end : found.number + first.parts ≡ found.end = ap (λ n. found.number + n) (sym many) ∙ sym made.end in (
        dev,
        record {
          mirror = (made.stand 0 some).1;
          whole = begun layout area dev found.number found (record {
            block = get_or blocks 0 [];
            head = first;
            payload = made.payload;
            stands = ap (numbered layout area dev) (let e : found.number ≡ found.number + 0 = omega arith in e) ∙ (made.stand 0 some).2;
            opens = made.begins;
            is = made.is_head;
            all = joined_all;
            under = under;
            here = λ i. record { number = found.number; end = end i; entry = found.entry };
          });
        },
      )
