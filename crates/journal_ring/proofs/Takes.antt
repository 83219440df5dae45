-- The parts of an entry's record continue one another, and their payloads joined are its payload.
use Rattle.std.proofs.Common.{◌≡◌, ℕ, zero, suc, ◌+◌, ◌*◌, ◌-◌, ◌<◌, ◌≤◌, ⊎_elim, min, List, ◌++◌, length, take, drop, Option, Some, None, refl, ap, ◌∙◌, sym, subst, arith}
use Rattle.std.proofs.lemmas.Bool.{cases_lt}
use Rattle.std.proofs.lemmas.List.{take-append-drop, drop-take, take-take, length-take, length-drop}
use Rattle.sealed_block.specs.Records.{Continues}
use Rattle.record_codec.specs.declared.entries.EntryRecord.{EntryRecord}
use Rattle.journal_ring.specs.Parts.{Area, first_of_two, first_on, joined, part_of, with_next}
use Rattle.sealed_block.specs.declared.heads.Head.{Head}
use Rattle.vol_types.specs.declared.layout.Layout.{Layout}
use Rattle.journal_ring.specs.EntryBlocks.{part_count, part_head, part_payload}

-- so many elements, and then so many more
pub take_then : (xs : List ℕ) (n m : ℕ) → take (n + m) xs ≡ take n xs ++ take m (drop n xs)
take_then xs n m =
    sym (take-append-drop n (take (n + m) xs))
    ∙ ap (λ (ys : List ℕ). ys ++ drop n (take (n + m) xs)) (take-take n (n + m) xs (omega arith))
    ∙ ap (λ (ys : List ℕ). take n xs ++ ys) (drop-take n m xs)

-- A part before the last begins inside the payload, and so does the one behind a full one.
pub part_within : (bytes p : ℕ) → p < part_count bytes → 3968 * p < bytes
part_within bytes p lower = omega (arith, lower)

pub all_parts : (bytes : ℕ) → bytes ≤ 3968 * part_count bytes
all_parts bytes = omega arith

pub some_parts : (bytes : ℕ) → 0 < bytes → 0 < part_count bytes
some_parts bytes some = omega (arith, some)

-- how long a part is
part_length : (payload : List ℕ) (p : ℕ) → length (part_payload payload p) ≡ min 3968 (length payload - 3968 * p)
part_length payload p = length-take 3968 (drop (3968 * p) payload) ∙ ap (min 3968) (length-drop (3968 * p) payload)

pub part_filled : (payload : List ℕ) (p : ℕ) → p < part_count (length payload) → 0 < length (part_payload payload p)
part_filled payload p lower = omega (arith, part_length payload p, part_within (length payload) p lower)

pub part_full : (payload : List ℕ) (p : ℕ) → p + 1 < part_count (length payload) → length (part_payload payload p) ≡ 3968
part_full payload p lower = omega (arith, part_length payload p, part_within (length payload) (p + 1) lower)

-- What each device has, the first one has.
pub first_of_all : {A : Type 0} (on : ℕ → Option A) (x : A) (count : ℕ) → 0 < count → ((dev : ℕ) → dev < count → on dev ≡ Some x) → first_on on count ≡ Some x
first_of_all on x zero some each = absurd (omega (arith, some))
first_of_all on x (suc zero) some each = each 0 (omega arith)
first_of_all on x (suc (suc dev)) some each = ap (λ o. first_of_two o (on (suc dev))) (first_of_all on x (suc dev) (omega arith) (λ d lower. each d (omega (arith, lower))))

-- The head of each part of an entry continues that of part 0.
pub parts_continue : (id : List ℕ) (number : ℕ) (entry : EntryRecord) (payload : List ℕ) (p : ℕ) → p < part_count (length payload) → Continues (part_head id number entry payload 0) p (part_head id number entry payload p)
parts_continue id number entry payload p lower = record {
  record_is = record { kind = refl; version = refl; parts = refl; id = refl; owner = refl; sequence = refl; whole = refl };
  part = refl;
  number = omega arith;
  filled = part_filled payload p lower;
  full = λ more. part_full payload p more;
}

-- What a device has where no lower one has it, is found first.
pub first_found : {A : Type 0} (on : ℕ → Option A) (dev count : ℕ) (x : A) → dev < count → first_on on dev ≡ None → on dev ≡ Some x → first_on on count ≡ Some x
first_found on dev zero x lower none is = absurd (omega (arith, lower))
first_found on dev (suc count) x lower none is = ⊎_elim
    (λ (earlier : dev < count). ap (λ o. first_of_two o (on count)) (first_found on dev count x earlier none is))
    (λ (here : count ≤ dev).
    let same : dev ≡ count = omega (arith, lower, here) in
    subst (λ n. first_on on (suc n) ≡ Some x) same (ap (λ o. first_of_two o (on dev)) none ∙ is))
    (cases_lt dev count)

-- Where a part is missing, nothing is joined.
with_none : (before : Option (List ℕ)) → with_next before None ≡ None
with_none None = refl
with_none (Some bytes) = refl

pub joined_short : (layout : Layout) (area : Area) (dev : ℕ) (first : Head) (p count : ℕ) → p < count → part_of layout area dev first p ≡ None → joined layout area dev first count ≡ None
joined_short layout area dev first p zero lower none = absurd (omega (arith, lower))
joined_short layout area dev first p (suc count) lower none = ⊎_elim
    (λ (earlier : p < count). ap (λ o. with_next o (part_of layout area dev first count)) (joined_short layout area dev first p count earlier none))
    (λ (here : count ≤ p).
    let same : p ≡ count = omega (arith, lower, here) in
    ap (with_next (joined layout area dev first count)) (subst (λ n. part_of layout area dev first n ≡ None) same none) ∙ with_none (joined layout area dev first count))
    (cases_lt p count)
