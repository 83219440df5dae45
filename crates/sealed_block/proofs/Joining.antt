-- Blocks as the parts of a record: which is the first fault, and that there is one or none.
use Rattle.std.proofs.Common.{◌≡◌, ◌≢◌, ℕ, zero, suc, ◌-◌, ◌≤◌, ◌<◌, ◌⊎◌, List, [], length, Option, Some, None, Result, Ok, Err, refl, sym, ◌∙◌, ap, subst, arith, inl, inr}
use Rattle.std.proofs.lemmas.List.{get_or_past}
use Rattle.std.specs.Prelude.{MatchOption, IfOk, IfErr}
use Rattle.sha2.specs.Sha256.{sha256}
use Rattle.sealed_block.specs.declared.heads.Head.{Head}
use Rattle.sealed_block.specs.declared.records.JoinFault.{JoinFault}
use Rattle.sealed_block.specs.declared.records.JoinFault.TheVariants.{NotSealed, Foreign, Digest, NoMemory}
use Rattle.sealed_block.specs.Opening.{opened}
use Rattle.sealed_block.specs.Records.{AreAllParts, ArePartsBelow, Continues, IsFirstFault, IsForeign, IsPart, IsRecord, IsUnlessNoMemory, block_at}
use Rattle.sealed_block.proofs.Opened.{length-block, opens_from_opened}

-- A part of a record is before part 64.
pub part_end : (blocks : List (List ℕ)) (p : ℕ) → IsPart blocks p → p < 64
part_end blocks p part =
    let ranges = (opens_from_opened (block_at blocks p) part.head part.opens).ranges in
    omega (arith, ranges.part, ranges.parts, part.continues.part)

-- So there are at most 64 parts.
pub parts_end : (blocks : List (List ℕ)) (p : ℕ) → ArePartsBelow blocks p → p ≤ 64
parts_end blocks zero below = omega arith
parts_end blocks (suc p) below = omega (arith, part_end blocks p (below p (omega arith)))

-- What judging block p against the first head says of the result.
abbrev pub Judges : Head → ℕ → Option Head → Result Head JoinFault → Type 0
Judges first p head result = MatchOption head (result ≡ Err (NotSealed p)) (λ h. (Continues first p h × (result ≡ Ok h)) ⊎ ((Continues first p h → ⊥) × (result ≡ Err (Foreign p))))

-- A fault of judging the next block is the first fault.
pub first_fault : (blocks : List (List ℕ)) (first : Head) (p : ℕ) (head : Option Head) (result : Result Head JoinFault) (fault : JoinFault) → opened (block_at blocks 0) ≡ Some first → opened (block_at blocks p) ≡ head → p < length blocks → ArePartsBelow blocks p → Judges first p head result → result ≡ Err fault → IsFirstFault blocks fault
first_fault blocks first p None result fault begins opens within below judged fails =
    let is : fault ≡ NotSealed p = cc in
    subst (IsFirstFault blocks) (sym is) (below, within, opens)
first_fault blocks first p (Some h) result fault begins opens within below (inl good) fails = cc
first_fault blocks first p (Some h) result fault begins opens within below (inr bad) fails =
    let is : fault ≡ Foreign p = cc in
    subst (IsFirstFault blocks) (sym is) (below, inl (within, record { first = first; head = h; begins = begins; opens = opens; breaks = bad.0 }))

same_head : (block : List ℕ) (g h : Head) → opened block ≡ Some g → opened block ≡ Some h → g ≡ h
same_head block g h opens also = cc

-- There is no part after the blocks.
no_part_after : (blocks : List (List ℕ)) → IsPart blocks (length blocks) → ⊥
no_part_after blocks part =
    let o = opens_from_opened (block_at blocks (length blocks)) part.head part.opens in
    let empty : block_at blocks (length blocks) ≡ [] = get_or_past blocks (length blocks) [] (omega arith) in
    let size = length-block (block_at blocks (length blocks)) _ _ o in
    absurd (omega (arith, size, ap length empty))

-- The blocks are parts up to p and no further.
record StopsAt (blocks : List (List ℕ)) (p : ℕ) : Type 0 where
  below : ArePartsBelow blocks p
  ends : IsPart blocks p → ⊥

one_stop : (blocks : List (List ℕ)) (p q : ℕ) → StopsAt blocks p → StopsAt blocks q → p ≡ q
one_stop blocks p q s t =
    let not_before : p < q → ⊥ = λ lt. s.ends (t.below p lt) in
    let not_after : q < p → ⊥ = λ lt. t.ends (s.below q lt) in
    omega (arith, not_before, not_after)

stops_not_sealed : (blocks : List (List ℕ)) (p : ℕ) → IsFirstFault blocks (NotSealed p) → StopsAt blocks p
stops_not_sealed blocks p fault = record { below = fault.0; ends = λ part. let opens = part.opens in let shut = fault.2 in cc }

-- A foreign block is no part.
foreign_part : (blocks : List (List ℕ)) (p : ℕ) → IsForeign blocks p → IsPart blocks p → ⊥
foreign_part blocks p foreign part =
    let first = same_head _ _ _ part.begins foreign.begins in
    let head = same_head _ _ _ part.opens foreign.opens in
    foreign.breaks (subst (λ g. Continues g p foreign.head) first (subst (λ h. Continues part.first p h) head part.continues))

stops_foreign : (blocks : List (List ℕ)) (p : ℕ) → IsFirstFault blocks (Foreign p) → StopsAt blocks p
stops_foreign blocks p (below, inl foreign) = record { below = below; ends = foreign_part blocks p foreign.1 }
stops_foreign blocks p (below, inr missing) = record { below = below; ends = subst (λ k. IsPart blocks k → ⊥) (sym missing.ends) (no_part_after blocks) }

stops_all : (blocks : List (List ℕ)) (first : Head) → AreAllParts blocks first → StopsAt blocks (length blocks)
stops_all blocks first all = record { below = subst (ArePartsBelow blocks) (sym all.count) all.parts; ends = no_part_after blocks }

all_not_sealed : (blocks : List (List ℕ)) (first : Head) (p : ℕ) → AreAllParts blocks first → IsFirstFault blocks (NotSealed p) → ⊥
all_not_sealed blocks first p all fault =
    let same = one_stop blocks p (length blocks) (stops_not_sealed blocks p fault) (stops_all blocks first all) in
    let within = fault.1 in
    absurd (omega (arith, same, within))

all_foreign : (blocks : List (List ℕ)) (first : Head) (p : ℕ) → AreAllParts blocks first → IsFirstFault blocks (Foreign p) → ⊥
all_foreign blocks first p all (below, inl foreign) =
    let same = one_stop blocks p (length blocks) (stops_foreign blocks p (below, inl foreign)) (stops_all blocks first all) in
    let within = foreign.0 in
    absurd (omega (arith, same, within))
all_foreign blocks first p all (below, inr missing) =
    let same = same_head _ _ _ all.begins missing.begins in
    absurd (omega (arith, all.count, missing.ends, missing.wanted, ap (λ h. h.parts) same))

not_sealed_foreign : (blocks : List (List ℕ)) (p q : ℕ) → IsFirstFault blocks (NotSealed p) → IsFirstFault blocks (Foreign q) → ⊥
not_sealed_foreign blocks p q fault (below, inl foreign) =
    let same = one_stop blocks p q (stops_not_sealed blocks p fault) (stops_foreign blocks q (below, inl foreign)) in
    let shut : opened (block_at blocks q) ≡ None = subst (λ k. opened (block_at blocks k) ≡ None) same fault.2 in
    let opens = foreign.1.opens in
    cc
not_sealed_foreign blocks p q fault (below, inr missing) =
    let same = one_stop blocks p q (stops_not_sealed blocks p fault) (stops_foreign blocks q (below, inr missing)) in
    let within = fault.1 in
    absurd (omega (arith, same, within, missing.ends))

-- There is one first fault.
pub one_fault : (blocks : List (List ℕ)) (fault other : JoinFault) → IsFirstFault blocks fault → IsFirstFault blocks other → fault ≡ other
one_fault blocks (NotSealed p) (NotSealed q) f g = ap (λ k. NotSealed k) (one_stop blocks p q (stops_not_sealed blocks p f) (stops_not_sealed blocks q g))
one_fault blocks (NotSealed p) (Foreign q) f g = absurd (not_sealed_foreign blocks p q f g)
one_fault blocks (NotSealed p) Digest f g = absurd (all_not_sealed blocks g.first p g.parts f)
one_fault blocks (Foreign p) (NotSealed q) f g = absurd (not_sealed_foreign blocks q p g f)
one_fault blocks (Foreign p) (Foreign q) f g = ap (λ k. Foreign k) (one_stop blocks p q (stops_foreign blocks p f) (stops_foreign blocks q g))
one_fault blocks (Foreign p) Digest f g = absurd (all_foreign blocks g.first p g.parts f)
one_fault blocks Digest (NotSealed q) f g = absurd (all_not_sealed blocks f.first q f.parts g)
one_fault blocks Digest (Foreign q) f g = absurd (all_foreign blocks f.first q f.parts g)
one_fault blocks Digest Digest f g = refl
one_fault blocks NoMemory other f g = absurd f
one_fault blocks fault NoMemory f g = absurd g

-- A record has no fault.
pub no_fault : (blocks : List (List ℕ)) (payload : List ℕ) (fault : JoinFault) → IsRecord blocks payload → IsFirstFault blocks fault → ⊥
no_fault blocks payload (NotSealed p) whole f = all_not_sealed blocks whole.first p whole.parts f
no_fault blocks payload (Foreign p) whole f = all_foreign blocks whole.first p whole.parts f
no_fault blocks payload Digest whole f =
    let same : whole.first ≡ f.first = same_head _ _ _ whole.parts.begins f.parts.begins in
    f.differs (ap sha256 (sym whole.joined) ∙ whole.digest ∙ ap (λ h. h.whole) same)
no_fault blocks payload NoMemory whole f = f

-- whether a fault is that of memory
is_memory : (fault : JoinFault) → (fault ≡ NoMemory) ⊎ (fault ≢ NoMemory)
is_memory (NotSealed p) = inr (λ e. cc)
is_memory (Foreign p) = inr (λ e. cc)
is_memory Digest = inr (λ e. cc)
is_memory NoMemory = inl refl

-- A result that is a record, or the first fault, or out of memory.
pub each_record : (blocks : List (List ℕ)) (result : Result (List ℕ) JoinFault) → IfOk result (IsRecord blocks) → IfErr result (λ fault. fault ≢ NoMemory → IsFirstFault blocks fault) → (payload : List ℕ) → IsRecord blocks payload → IsUnlessNoMemory result (Ok payload)
each_record blocks (Ok joined) is fails payload whole = inl (ap (λ xs. Ok xs) (is.joined ∙ sym whole.joined))
each_record blocks (Err fault) is fails payload whole =
    elim (is_memory fault) [ inl memory ↦ inr (ap (λ e. Err e) memory) | inr other ↦ absurd (no_fault blocks payload fault whole (fails other)) ]

pub each_fault : (blocks : List (List ℕ)) (result : Result (List ℕ) JoinFault) → IfOk result (IsRecord blocks) → IfErr result (λ fault. fault ≢ NoMemory → IsFirstFault blocks fault) → (fault : JoinFault) → IsFirstFault blocks fault → IsUnlessNoMemory result (Err fault)
each_fault blocks (Ok joined) is fails fault first = absurd (no_fault blocks joined fault is first)
each_fault blocks (Err found) is fails fault first =
    elim (is_memory found) [ inl memory ↦ inr (ap (λ e. Err e) memory) | inr other ↦ inl (ap (λ e. Err e) (one_fault blocks found fault (fails other) first)) ]

-- Blocks that are parts of one record, and no fewer than its parts, are all of them.
pub all_parts : (blocks : List (List ℕ)) (first : Head) → opened (block_at blocks 0) ≡ Some first → 0 < length blocks → ArePartsBelow blocks (length blocks) → first.parts ≤ length blocks → AreAllParts blocks first
all_parts blocks first begins some below enough =
    let last = below (length blocks - 1) (omega arith) in
    let ranges = (opens_from_opened (block_at blocks (length blocks - 1)) last.head last.opens).ranges in
    let same = same_head _ _ _ last.begins begins in
    let count : length blocks ≡ first.parts = omega (arith, ranges.part, last.continues.part, last.continues.record_is.parts, ap (λ h. h.parts) same) in
    record { begins = begins; count = count; parts = subst (ArePartsBelow blocks) count below }
