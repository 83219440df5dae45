-- What the fields of an encoded head are, and how long it is.
use Rattle.std.proofs.Common.{◌≡◌, ℕ, ◌+◌, ◌<◌, ◌++◌, List, [], ◌∷◌, length, take, drop, codes, refl, sym, ◌∙◌, ap, append_assoc, append-nil, length-append, arith}
use Rattle.std.proofs.lemmas.List.{take_at, drop_at, drop-drop}
use Rattle.std.proofs.lemmas.List.Elements.{All-append, All-cons}
use Rattle.std.proofs.lemmas.Nat.{from_le_bytes-to_le_bytes_2, from_le_bytes-to_le_bytes_4, from_le_bytes-to_le_bytes_8}
use Rattle.std.specs.Int.{w16, w32, w64, to_le_bytes, from_le_bytes}
use Rattle.sealed_block.specs.declared.heads.Head.{Head}
use Rattle.sealed_block.specs.Blocks.{AreBytes, HasWidths, IsInRanges, head_bytes}
use Rattle.sealed_block.specs.Opening.{field, head_in}
use Rattle.sealed_block.proofs.Bytes.{AreBytes-bytes_low_first, AreBytes-from_test}

-- the fields before the volume id
abbrev before_id : Head → List ℕ
before_id h = codes "bvolseal" ++ h.kind ∷ h.version ∷ 0 ∷ 0 ∷ [] ++ to_le_bytes w16 h.part ++ to_le_bytes w16 h.parts

-- the fields after the volume id, and what follows
abbrev after_id : Head → List ℕ → List ℕ
after_id h rest = to_le_bytes w64 h.owner ++ (to_le_bytes w64 h.number ++ (to_le_bytes w64 h.sequence ++ (to_le_bytes w32 h.length ++ (0 ∷ 0 ∷ 0 ∷ 0 ∷ [] ++ (h.whole ++ rest)))))

regrouped : (prefix i o n s l z w rest : List ℕ) → prefix ++ i ++ o ++ n ++ s ++ l ++ z ++ w ++ rest ≡ prefix ++ i ++ (o ++ (n ++ (s ++ (l ++ (z ++ (w ++ rest))))))
regrouped prefix i o n s l z w rest = simp append_assoc

head_bytes-regrouped : (h : Head) (rest : List ℕ) → head_bytes h ++ rest ≡ before_id h ++ h.id ++ after_id h rest
unfolding head_bytes
head_bytes-regrouped h rest = regrouped (before_id h) h.id (to_le_bytes w64 h.owner) (to_le_bytes w64 h.number) (to_le_bytes w64 h.sequence) (to_le_bytes w32 h.length) (0 ∷ 0 ∷ 0 ∷ 0 ∷ []) h.whole rest

-- The head that an encoded head names is that head.
pub head_in-head_bytes : (h : Head) (rest : List ℕ) → HasWidths h → IsInRanges h → head_in (head_bytes h ++ rest) ≡ h
unfolding head_in head_bytes
head_in-head_bytes h rest widths ranges =
    let block = head_bytes h ++ rest in
    let later = after_id h rest in
    let from_id : drop 16 block ≡ h.id ++ later = ap (drop 16) (head_bytes-regrouped h rest) ∙ ap (drop 16) (append_assoc (before_id h) h.id later) in
    let from_owner : drop 32 block ≡ later = ap (drop 32) (head_bytes-regrouped h rest) ∙ drop_at (before_id h ++ h.id) later 32 (omega (arith, widths.id)) in
    let id : field block 16 16 ≡ h.id = ap (take 16) from_id ∙ take_at h.id later 16 widths.id in
    let later : (n size : ℕ) → field block (32 + n) size ≡ take size (drop n later) = λ n size. ap (take size) (sym (drop-drop n 32 block) ∙ ap (drop n) from_owner) in
    let owner : from_le_bytes w64 (field block 32 8) ≡ h.owner = ap (from_le_bytes w64) (later 0 8) ∙ from_le_bytes-to_le_bytes_8 h.owner widths.owner in
    let number : from_le_bytes w64 (field block 40 8) ≡ h.number = ap (from_le_bytes w64) (later 8 8) ∙ from_le_bytes-to_le_bytes_8 h.number widths.number in
    let sequence : from_le_bytes w64 (field block 48 8) ≡ h.sequence = ap (from_le_bytes w64) (later 16 8) ∙ from_le_bytes-to_le_bytes_8 h.sequence widths.sequence in
    let size : from_le_bytes w32 (field block 56 4) ≡ h.length = ap (from_le_bytes w32) (later 24 4) ∙ from_le_bytes-to_le_bytes_4 h.length (omega (arith, ranges.length)) in
    let whole : field block 64 32 ≡ h.whole = later 32 32 ∙ take_at h.whole rest 32 widths.whole in
    let part : from_le_bytes w16 (field block 12 2) ≡ h.part = from_le_bytes-to_le_bytes_2 h.part (omega (arith, ranges.part, ranges.parts)) in
    let parts : from_le_bytes w16 (field block 14 2) ≡ h.parts = from_le_bytes-to_le_bytes_2 h.parts (omega (arith, ranges.parts)) in
    λ i. record { kind = h.kind; version = h.version; part = part i; parts = parts i; id = id i; owner = owner i; number = number i; sequence = sequence i; length = size i; whole = whole i }

-- An encoded head has 96 bytes.
pub length-head_bytes : (h : Head) → HasWidths h → length (head_bytes h) ≡ 96
length-head_bytes h widths =
    let whole : length (head_bytes h) ≡ length (before_id h ++ h.id ++ after_id h []) = ap length (sym (append-nil (head_bytes h)) ∙ head_bytes-regrouped h []) in
    let parts : length (before_id h ++ h.id ++ after_id h []) ≡ length (before_id h ++ h.id) + length (after_id h []) = length-append (before_id h ++ h.id) (after_id h []) in
    omega (arith, whole, parts, length-append h.whole [], widths.id, widths.whole)

-- `AreBytes` as a record, so that its list is found from a proof.
record IsByteList (bytes : List ℕ) : Type 0 where
  are : AreBytes bytes

followed_by : {some : List ℕ} (others : List ℕ) → IsByteList some → AreBytes others → IsByteList (some ++ others)
followed_by {some} others first more = record { are = All-append (λ b. b < 256) some others first.are more }

AreBytes-cons : (b : ℕ) (bytes : List ℕ) → b < 256 → AreBytes bytes → AreBytes (b ∷ bytes)
AreBytes-cons = All-cons (λ b. b < 256)

-- An encoded head is bytes.
pub AreBytes-head_bytes : (h : Head) → HasWidths h → IsInRanges h → AreBytes (head_bytes h)
unfolding head_bytes
AreBytes-head_bytes h widths ranges =
    let zeros : AreBytes (0 ∷ 0 ∷ []) = AreBytes-from_test (0 ∷ 0 ∷ []) refl in
    let more_zeros : AreBytes (0 ∷ 0 ∷ 0 ∷ 0 ∷ []) = AreBytes-from_test (0 ∷ 0 ∷ 0 ∷ 0 ∷ []) refl in
    let marks : AreBytes (h.kind ∷ h.version ∷ 0 ∷ 0 ∷ []) = AreBytes-cons h.kind (h.version ∷ 0 ∷ 0 ∷ []) (omega (arith, ranges.kind.1)) (AreBytes-cons h.version (0 ∷ 0 ∷ []) (omega (arith, ranges.version.1)) zeros) in
    let magic : IsByteList (codes "bvolseal") = record { are = AreBytes-from_test (codes "bvolseal") refl } in
    let with_marks : IsByteList (codes "bvolseal" ++ h.kind ∷ h.version ∷ 0 ∷ 0 ∷ []) = followed_by (h.kind ∷ h.version ∷ 0 ∷ 0 ∷ []) magic marks in
    let with_part = followed_by (to_le_bytes w16 h.part) with_marks (AreBytes-bytes_low_first 0 2 h.part) in
    let with_parts = followed_by (to_le_bytes w16 h.parts) with_part (AreBytes-bytes_low_first 0 2 h.parts) in
    let with_id = followed_by h.id with_parts widths.id_bytes in
    let with_owner = followed_by (to_le_bytes w64 h.owner) with_id (AreBytes-bytes_low_first 0 8 h.owner) in
    let with_number = followed_by (to_le_bytes w64 h.number) with_owner (AreBytes-bytes_low_first 0 8 h.number) in
    let with_sequence = followed_by (to_le_bytes w64 h.sequence) with_number (AreBytes-bytes_low_first 0 8 h.sequence) in
    let with_length = followed_by (to_le_bytes w32 h.length) with_sequence (AreBytes-bytes_low_first 0 4 h.length) in
    let with_zeros = followed_by (0 ∷ 0 ∷ 0 ∷ 0 ∷ []) with_length more_zeros in
    let whole = followed_by h.whole with_zeros widths.whole_bytes in
    whole.are
