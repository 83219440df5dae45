-- A whole entry is made of blocks that stand on the metadata devices.
use Rattle.std.proofs.Common.{◌≡◌, ℕ, zero, suc, ◌+◌, ◌<◌, ◌≤◌, ⊎_elim, Bool, true, false, cond, List, [], ◌∷◌, ◌++◌, length, get_or, Option, Some, None, Result, Ok, Err, refl, ap, ◌∙◌, sym, subst, arith}
use Rattle.std.proofs.lemmas.Bool.{and_parts, cases_lt, eqb-true}
use Rattle.std.proofs.lemmas.List.{append-nil, get_or_append_left, get_or_push, length-append}
use Rattle.std.proofs.lemmas.List.Concat.{flat_map-append}
use Rattle.std.proofs.lemmas.Option.{none-some, same_Some}
use Rattle.std.proofs.lemmas.Slice.Eq.{bytes_eq-Decides}
use Rattle.std.specs.List.{flat_map}
use Rattle.std.specs.Result.{result_ok}
use Rattle.std.specs.Str.{bytes_eq}
use Rattle.sha2.specs.Sha256.{sha256}
use Rattle.sealed_block.specs.declared.heads.Head.{Head}
use Rattle.sealed_block.specs.Opening.{opened, payload_in}
use Rattle.record_codec.specs.declared.entries.EntryRecord.{EntryRecord}
use Rattle.record_codec.specs.declared.fault.RecordFault.{RecordFault}
use Rattle.record_codec.specs.Entries.{entry_in}
use Rattle.vol_types.specs.declared.layout.Layout.{Layout}
use Rattle.journal_ring.specs.declared.found.FoundEntry.{FoundEntry}
use Rattle.journal_ring.specs.Parts.{Area, joined, numbered, part_of, with_next}
use Rattle.journal_ring.specs.PartLaws.{IsTaken, part_taken}
use Rattle.journal_ring.specs.Entries.{IsMadeOf, IsWholeOn, agreeing, agrees}
use Rattle.journal_ring.specs.EntryLaws.{Begins, begins, entry_head_is, opens_some_parts}

with_next_some : (before next : Option (List ℕ)) (bytes : List ℕ) → with_next before next ≡ Some bytes → (x : List ℕ) × (y : List ℕ) × (before ≡ Some x) × (next ≡ Some y) × (bytes ≡ x ++ y)
with_next_some None next bytes is = absurd (none-some bytes is)
with_next_some (Some x) None bytes is = absurd (none-some bytes is)
with_next_some (Some x) (Some y) bytes is = (x, y, refl, refl, sym (same_Some (x ++ y) bytes is))

module _ (layout : Layout) (area : Area) (dev : ℕ) (first : Head) (mirror : dev < layout.metadata_replicas) where
  -- The block is the one from which part p is taken: on some metadata device, and for part 0 on the given one.
  abbrev IsFrom : ℕ → List ℕ → Type 0
  IsFrom p block = (d : ℕ) × (d < layout.metadata_replicas) × (p ≡ 0 → d ≡ dev) × (payload : List ℕ) × (part_of layout area dev first p ≡ Some payload) × IsTaken layout area first p d block payload

  -- What the joined payloads of the first so many parts come from.
  record IsJoinedOf (count : ℕ) (bytes : List ℕ) : Type 0 where
    pub blocks : List (List ℕ)
    pub as_many : length blocks ≡ count
    pub bytes_are : bytes ≡ flat_map payload_in blocks
    pub each : (p : ℕ) → p < count → IsFrom p (get_or blocks p [])

  joined_of : (count : ℕ) (bytes : List ℕ) → joined layout area dev first count ≡ Some bytes → IsJoinedOf count bytes
  joined_of zero bytes is = record { blocks = []; as_many = refl; bytes_are = sym (same_Some [] bytes is); each = λ p lower. absurd (omega (arith, lower)) }
  joined_of (suc count) bytes is =
      let parts = with_next_some (joined layout area dev first count) (part_of layout area dev first count) bytes is in
      let before = joined_of count parts.0 parts.2 in
      let next = part_taken layout area dev first count parts.1 mirror parts.3 in
      let block : List ℕ = next.3 in
      let last : IsFrom count block = (next.0, next.1, next.2, parts.1, parts.3, next.4) in
      record {
        blocks = before.blocks ++ block ∷ [];
        as_many = length-append before.blocks (block ∷ []) ∙ ap (λ n. n + 1) before.as_many ∙ (let e : count + 1 ≡ suc count = omega arith in e);
        bytes_are =
            parts.4
            ∙ ap (λ (bs : List ℕ). bs ++ parts.1) before.bytes_are
            ∙ ap (λ (bs : List ℕ). flat_map payload_in before.blocks ++ bs) (next.4.payload_is ∙ sym (append-nil (payload_in block)))
            ∙ sym (flat_map-append payload_in before.blocks (block ∷ []));
        each = λ p lower. ⊎_elim
            (λ (earlier : p < count). subst (IsFrom p) (sym (get_or_append_left before.blocks (block ∷ []) [] p (omega (arith, earlier, before.as_many)))) (before.each p earlier))
            (λ (here : count ≤ p).
            let same : count ≡ p = omega (arith, here, lower) in
            subst (λ n. IsFrom n (get_or (before.blocks ++ block ∷ []) n [])) same (subst (IsFrom count) (sym (get_or_push before.blocks block [] count before.as_many)) last))
            (cases_lt p count);
      }

cond_found : {A : Type 0} (test : Bool) (o : Option A) (y : A) → cond {A = Option A} test o None ≡ Some y → (test ≡ true) × (o ≡ Some y)
cond_found true o y is = (refl, is)
cond_found false o y is = absurd (none-some y is)

-- An entry under a head was read, and agrees with it.
agreeing_is : (head : Head) (read : Result EntryRecord RecordFault) (entry : EntryRecord) → agreeing head (result_ok read) ≡ Some entry → (read ≡ Ok entry) × (entry.sequence ≡ head.sequence) × (entry.session ≡ head.owner)
agreeing_is head (Err fault) entry is = absurd (none-some entry is)
agreeing_is head (Ok e) entry is =
    let found = cond_found (agrees head e) (Some e) entry is in
    let same : e ≡ entry = same_Some e entry found.1 in
    let tests = and_parts _ _ found.0 in
    (ap Ok same, subst (λ (x : EntryRecord). x.sequence ≡ head.sequence) same (eqb-true e.sequence head.sequence tests.0), subst (λ (x : EntryRecord). x.session ≡ head.owner) same (eqb-true e.session head.owner tests.1))

-- The entry that begins so is made of these blocks, and each part of it is taken from one of them.
pub record IsMadeWith (layout : Layout) (area : Area) (dev : ℕ) (found : FoundEntry) (b : Begins layout area dev found.number found) : Type 0 where
  pub blocks : List (List ℕ)
  pub made : IsMadeOf layout area found blocks
  pub zeroth : b.block ≡ get_or blocks 0 []
  pub taken : (p : ℕ) → p < b.head.parts → part_of layout area dev b.head p ≡ Some (payload_in (get_or blocks p []))

-- A whole entry is made of blocks, from which its parts are taken.
pub made_with : (layout : Layout) (area : Area) (dev : ℕ) (found : FoundEntry) (is : IsWholeOn layout area dev found) → IsMadeWith layout area dev found (begins layout area dev found.number found is.whole)
made_with layout area dev found is =
    let b = begins layout area dev found.number found is.whole in
    let head_is = entry_head_is layout.id found.number b.head b.is in
    let some : 0 < b.head.parts = omega (arith, opens_some_parts b.block b.head b.opens) in
    let j = joined_of layout area dev b.head is.mirror b.head.parts b.payload b.all in
    let zeroth = j.each 0 some in
    let number : b.head.number + 0 ≡ found.number = omega (arith, head_is.number_is) in
    let same_block : b.block ≡ get_or j.blocks 0 [] = same_Some b.block (get_or j.blocks 0 []) (sym b.stands ∙ subst (λ n. numbered layout area dev n ≡ Some (get_or j.blocks 0 [])) number (subst (λ d. numbered layout area d (b.head.number + 0) ≡ Some (get_or j.blocks 0 [])) (zeroth.2 refl) zeroth.5.stands)) in
    let opens : opened (get_or j.blocks 0 []) ≡ Some b.head = subst (λ (x : List ℕ). opened x ≡ Some b.head) same_block b.opens in
    let under = cond_found (bytes_eq (sha256 b.payload) b.head.whole) (agreeing b.head (result_ok (entry_in b.payload))) found.entry b.under in
    let agree = agreeing_is b.head (entry_in b.payload) found.entry under.1 in
    record {
      blocks = j.blocks;
      made = record {
        first = b.head;
        payload = b.payload;
        begins = opens;
        is_head = b.is;
        session = agree.2;
        sequence = agree.1;
        end = sym (ap (λ (f : FoundEntry). f.end) b.here) ∙ ap (λ n. found.number + n) (sym j.as_many);
        stand = λ p lower.
            let from = j.each p (omega (arith, lower, j.as_many)) in
            (from.0, from.1, subst (λ n. numbered layout area from.0 (n + p) ≡ Some (get_or j.blocks p [])) head_is.number_is from.5.stands);
        record_is = record {
          first = b.head;
          parts = record {
            begins = opens;
            count = j.as_many;
            parts = λ k lower.
                let from = j.each k lower in
                record { first = b.head; head = from.5.head; begins = opens; opens = from.5.opens; continues = from.5.continues_it };
          };
          joined = j.bytes_are;
          digest = (bytes_eq-Decides (sha256 b.payload) b.head.whole).0 under.0;
        };
        read = agree.0;
      };
      zeroth = same_block;
      taken = λ p lower. let from = j.each p lower in from.4 ∙ ap Some from.5.payload_is;
    }

-- A whole entry is made of blocks.
pub made_of : (layout : Layout) (area : Area) (dev : ℕ) (found : FoundEntry) → IsWholeOn layout area dev found → (blocks : List (List ℕ)) × IsMadeOf layout area found blocks
made_of layout area dev found is = let made = made_with layout area dev found is in (made.blocks, made.made)
