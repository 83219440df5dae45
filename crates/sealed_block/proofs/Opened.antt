-- Sealed blocks open, and what opens is sealed.
use Rattle.std.proofs.Common.{◌≡◌, ℕ, ◌+◌, ◌-◌, ◌≤◌, ◌<◌, ◌++◌, List, length, take, drop, replicate, refl, sym, ◌∙◌, ap, subst, append_assoc, length-append, arith, Some, None, Bool, true, false, ◌&&◌, cond, nat_lt, nat_le, ◌==◌}
use Rattle.std.proofs.lemmas.List.{take_at, drop_at, length-replicate, length-take-le, length-drop}
use Rattle.std.proofs.lemmas.List.Elements.{All-append, All-replicate, All-same, All-take, All-drop}
use Rattle.std.proofs.lemmas.Bool.Decides.{Decides-and, Decides-like, Decides-eqb, Decides-ltb}
use Rattle.std.proofs.lemmas.Bool.{leb-true, le-leb}
use Rattle.std.proofs.lemmas.Slice.Eq.{bytes_eq-Decides}
use Rattle.std.specs.Bool.{Decides}
use Rattle.std.specs.List.{list_all}
use Rattle.std.specs.Str.{bytes_eq}
use Rattle.sha2.specs.Sha256.{sha256}
use Rattle.sha2.proofs.Facts256.{length-sha256}
use Rattle.sealed_block.specs.declared.heads.Head.{Head}
use Rattle.sealed_block.specs.Blocks.{AreBytes, HasWidths, IsInRanges, Opens, covered, head_bytes, encoding}
use Rattle.sealed_block.specs.Opening.{field, head_in, is_in_ranges, opened, payload_in}
use Rattle.sealed_block.proofs.Bytes.{AreBytes-Decides, AreBytes-sha256, from_le_bytes-lt_8}
use Rattle.sealed_block.proofs.Fields.{AreBytes-head_bytes, head_in-head_bytes, length-head_bytes}

-- the zeros after a payload
abbrev zeros_after : List ℕ → List ℕ
zeros_after payload = replicate (3968 - length payload) 0

-- What the digest covers is 4,064 bytes.
pub length-covered : (h : Head) (payload : List ℕ) → HasWidths h → length payload ≤ 3968 → length (covered h payload) ≡ 4064
unfolding covered
length-covered h payload widths fits =
    omega (arith, length-append (head_bytes h ++ payload) (zeros_after payload), length-append (head_bytes h) payload, length-head_bytes h widths, length-replicate {A = ℕ} (3968 - length payload) 0)

-- An encoded block is 4,096 bytes.
pub length-encoding : (h : Head) (payload : List ℕ) → HasWidths h → length payload ≤ 3968 → length (encoding h payload) ≡ 4096
unfolding encoding
length-encoding h payload widths fits =
    omega (arith, length-append (covered h payload) (sha256 (covered h payload)), length-covered h payload widths fits, length-sha256 (covered h payload))

AreBytes-covered : (h : Head) (payload : List ℕ) → HasWidths h → IsInRanges h → AreBytes payload → AreBytes (covered h payload)
unfolding covered
AreBytes-covered h payload widths ranges are =
    All-append (λ b. b < 256) (head_bytes h ++ payload) (zeros_after payload)
    (All-append (λ b. b < 256) (head_bytes h) payload (AreBytes-head_bytes h widths ranges) are)
    (All-replicate (λ b. b < 256) (3968 - length payload) 0 (omega arith))

-- A sealed block is bytes.
pub AreBytes-block : (block : List ℕ) (h : Head) (payload : List ℕ) → Opens block h payload → AreBytes block
unfolding encoding
AreBytes-block block h payload o =
    All-same (λ b. b < 256) block _ o.encoded
    (All-append (λ b. b < 256) (covered h payload) (sha256 (covered h payload)) (AreBytes-covered h payload o.widths o.ranges o.bytes) (AreBytes-sha256 (covered h payload)))

-- A sealed block is 4,096 bytes.
pub length-block : (block : List ℕ) (h : Head) (payload : List ℕ) → Opens block h payload → length block ≡ 4096
length-block block h payload o = ap length o.encoded ∙ length-encoding h payload o.widths (omega (arith, o.fills, o.ranges.length))

regrouped : (prefix payload zeros digest : List ℕ) → prefix ++ payload ++ zeros ++ digest ≡ prefix ++ (payload ++ (zeros ++ digest))
regrouped prefix payload zeros digest = simp append_assoc

-- an encoded block is its head and the rest
encoding-regrouped : (h : Head) (payload : List ℕ) → encoding h payload ≡ head_bytes h ++ (payload ++ (zeros_after payload ++ sha256 (covered h payload)))
unfolding encoding covered
encoding-regrouped h payload = regrouped (head_bytes h) payload (zeros_after payload) (sha256 (covered h payload))

-- The head that a sealed block names is its own.
pub head_in-block : (block : List ℕ) (h : Head) (payload : List ℕ) → Opens block h payload → head_in block ≡ h
head_in-block block h payload o =
    ap head_in (o.encoded ∙ encoding-regrouped h payload) ∙ head_in-head_bytes h (payload ++ (zeros_after payload ++ sha256 (covered h payload))) o.widths o.ranges

-- The payload that a sealed block names is its own.
pub payload_in-block : (block : List ℕ) (h : Head) (payload : List ℕ) → Opens block h payload → payload_in block ≡ payload
unfolding payload_in
payload_in-block block h payload o =
    let size : (head_in block).length ≡ length payload = ap (λ g. g.length) (head_in-block block h payload o) ∙ sym o.fills in
    let rest = zeros_after payload ++ sha256 (covered h payload) in
    let later : drop 96 block ≡ payload ++ rest = ap (drop 96) (o.encoded ∙ encoding-regrouped h payload) ∙ drop_at (head_bytes h) (payload ++ rest) 96 (length-head_bytes h o.widths) in
    ap (λ n. take n (drop 96 block)) size ∙ ap (take (length payload)) later ∙ take_at payload rest (length payload) refl

-- A sealed block is sealed with the head and the payload that it names.
pub opens_as_named : (block : List ℕ) (h : Head) (payload : List ℕ) → Opens block h payload → Opens block (head_in block) (payload_in block)
opens_as_named block h payload o =
    subst (λ g. Opens block g (payload_in block)) (sym (head_in-block block h payload o))
    (subst (λ p. Opens block h p) (sym (payload_in-block block h payload o)) o)

-- The fields that 4,096 bytes name have their widths.
pub HasWidths-head_in : (block : List ℕ) → length block ≡ 4096 → AreBytes block → HasWidths (head_in block)
unfolding head_in
HasWidths-head_in block size are =
    let long : (at n : ℕ) → at + n ≤ 4096 → length (field block at n) ≡ n = λ at n room. length-take-le n (drop at block) (omega (arith, length-drop at block)) in
    let bytes : (at n : ℕ) → AreBytes (field block at n) = λ at n. All-take (λ b. b < 256) n (drop at block) (All-drop (λ b. b < 256) at block are) in
    record {
      id = long 16 16 (omega arith);
      id_bytes = bytes 16 16;
      owner = from_le_bytes-lt_8 (field block 32 8) (long 32 8 (omega arith)) (bytes 32 8);
      number = from_le_bytes-lt_8 (field block 40 8) (long 40 8 (omega arith)) (bytes 40 8);
      sequence = from_le_bytes-lt_8 (field block 48 8) (long 48 8 (omega arith)) (bytes 48 8);
      whole = long 64 32 (omega arith);
      whole_bytes = bytes 64 32;
    }

Decides-leb : (a b : ℕ) → Decides (nat_le a b) (a ≤ b)
Decides-leb a b = (leb-true a b, le-leb a b)

-- The test of the ranges says whether they hold.
pub is_in_ranges-Decides : (h : Head) → Decides (is_in_ranges h) (IsInRanges h)
is_in_ranges-Decides h =
    Decides-like (is_in_ranges h)
    (λ p. record { kind = p.0.0.0.0; version = p.0.0.0.1; part = p.0.0.1; parts = p.0.1; length = p.1 })
    (λ r. (((((r.kind), r.version), r.part), r.parts), r.length))
    (Decides-and _ _ (Decides-and _ _ (Decides-and _ _ (Decides-and _ _ (Decides-and _ _ (Decides-leb 1 h.kind) (Decides-leb h.kind 4)) (Decides-and _ _ (Decides-leb 1 h.version) (Decides-leb h.version 255))) (Decides-ltb h.part h.parts)) (Decides-leb h.parts 64)) (Decides-leb h.length 3968))

-- the test of a block
abbrev is_sealed : List ℕ → Bool
is_sealed block = length block == 4096 && list_all (λ b. nat_lt b 256) block && is_in_ranges (head_in block) && bytes_eq block (encoding (head_in block) (payload_in block))

-- 4,096 bytes hold the payload that their head names, where its length is in range.
fills-payload_in : (block : List ℕ) → length block ≡ 4096 → (head_in block).length ≤ 3968 → length (payload_in block) ≡ (head_in block).length
unfolding payload_in
fills-payload_in block size fits = length-take-le (head_in block).length (drop 96 block) (omega (arith, length-drop 96 block))

AreBytes-payload_in : (block : List ℕ) → AreBytes block → AreBytes (payload_in block)
unfolding payload_in
AreBytes-payload_in block are = All-take (λ b. b < 256) (head_in block).length (drop 96 block) (All-drop (λ b. b < 256) 96 block are)

-- Bytes in the form of a block are sealed as they name.
pub opens_where : (block : List ℕ) → length block ≡ 4096 → AreBytes block → IsInRanges (head_in block) → block ≡ encoding (head_in block) (payload_in block) → Opens block (head_in block) (payload_in block)
opens_where block size are ranges encoded = record {
  widths = HasWidths-head_in block size are;
  ranges = ranges;
  bytes = AreBytes-payload_in block are;
  fills = fills-payload_in block size ranges.length;
  encoded = encoded;
}

-- The test of a block says whether it is sealed with the head and the payload that it names.
is_sealed-Decides : (block : List ℕ) → Decides (is_sealed block) (Opens block (head_in block) (payload_in block))
is_sealed-Decides block =
    Decides-like (is_sealed block)
    (λ facts. opens_where block facts.0.0.0 facts.0.0.1 facts.0.1 facts.1)
    (λ o. (((length-block block _ _ o, AreBytes-block block _ _ o), o.ranges), o.encoded))
    (Decides-and _ _ (Decides-and _ _ (Decides-and _ _ (Decides-eqb (length block) 4096) (AreBytes-Decides block)) (is_in_ranges-Decides (head_in block))) (bytes_eq-Decides block (encoding (head_in block) (payload_in block))))

-- A sealed block opens with its head.
pub opened-block : (block : List ℕ) (h : Head) (payload : List ℕ) → Opens block h payload → opened block ≡ Some h
unfolding opened
opened-block block h payload o =
    ap (λ b. cond b (Some (head_in block)) None) ((is_sealed-Decides block).1 (opens_as_named block h payload o)) ∙ ap (λ g. Some g) (head_in-block block h payload o)

chosen : (b : Bool) (x h : Head) → cond b (Some x) None ≡ Some h → (b ≡ true) × (x ≡ h)
chosen true x h e = (refl, cc)
chosen false x h e = cc

-- What opens with a head is sealed with it.
pub opens_from_opened : (block : List ℕ) (h : Head) → opened block ≡ Some h → Opens block h (payload_in block)
unfolding opened
opens_from_opened block h e =
    let found = chosen (is_sealed block) (head_in block) h e in
    subst (λ g. Opens block g (payload_in block)) found.1 ((is_sealed-Decides block).0 found.0)

none : (b : Bool) (x : Head) → (b ≡ true → ⊥) → cond b (Some x) None ≡ None
none true x never = absurd (never refl)
none false x never = refl

-- What isn't sealed as it names doesn't open.
pub opened-None : (block : List ℕ) → (Opens block (head_in block) (payload_in block) → ⊥) → opened block ≡ None
unfolding opened
opened-None block shut = none (is_sealed block) (head_in block) (λ yes. shut ((is_sealed-Decides block).0 yes))

-- What isn't sealed as it names isn't sealed.
pub shut_where : (block : List ℕ) → (Opens block (head_in block) (payload_in block) → ⊥) → (h : Head) (payload : List ℕ) → Opens block h payload → ⊥
shut_where block shut h payload o = shut (opens_as_named block h payload o)
