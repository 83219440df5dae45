-- Which session a block names.
use Rattle.std.proofs.Common.{◌≡◌, ◌≢◌, ℕ, zero, suc, ◌^◌, ◌<◌, true, false, cond, ◌&&◌, List, [], ◌∷◌, length, get_or, arith, Option, Some, None, refl, ap, ◌∙◌, sym}
use Rattle.std.proofs.lemmas.Bool.{and_parts, eq-eqb, false_from_ne_true}
use Rattle.std.proofs.lemmas.List.Elements.{All-head, All-tail}
use Rattle.std.proofs.lemmas.Nat.{from_le_bytes-to_le_bytes_8, le_bytes_8}
use Rattle.std.proofs.lemmas.Slice.Eq.{bytes_eq-Decides}
use Rattle.std.specs.Cmp.Derive.{both_true}
use Rattle.std.specs.Prelude.{option_and_then}
use Rattle.std.specs.Int.{w64, to_le_bytes, from_le_bytes}
use Rattle.std.specs.Str.{bytes_eq}
use Rattle.sha2.specs.Sha256.{sha256}
use Rattle.sealed_block.specs.declared.heads.Head.{Head}
use Rattle.sealed_block.specs.Blocks.{AreBytes}
use Rattle.sealed_block.specs.Opening.{opened, payload_in}
use Rattle.geometry.specs.Sessions.{is_session_head, session_head, session_named, session_place}

-- the session that a payload encodes, under this head
abbrev named_under : List ℕ → ℕ → ℕ → List ℕ → Head → Option ℕ
named_under id block session payload head = cond (is_session_head id block session head && bytes_eq payload (to_le_bytes w64 session)) (Some session) None

-- A block that isn't sealed names no session.
pub shut_names_none : (id : List ℕ) (block : ℕ) (bytes : List ℕ) → opened bytes ≡ None → session_named id block bytes ≡ None
unfolding session_named
shut_names_none id block bytes shut = ap (option_and_then (named_under id block (from_le_bytes w64 (payload_in bytes)) (payload_in bytes))) shut

named_by : (id : List ℕ) (block : ℕ) (bytes : List ℕ) (head : Head) → opened bytes ≡ Some head → session_named id block bytes ≡ named_under id block (from_le_bytes w64 (payload_in bytes)) (payload_in bytes) head
unfolding session_named
named_by id block bytes head opens = ap (option_and_then (named_under id block (from_le_bytes w64 (payload_in bytes)) (payload_in bytes))) opens

-- A payload of another length names no session.
pub other_length_names_none : (id : List ℕ) (block : ℕ) (bytes : List ℕ) (head : Head) → opened bytes ≡ Some head → length (payload_in bytes) ≢ 8 → session_named id block bytes ≡ None
other_length_names_none id block bytes head opens differs =
    let session : ℕ = from_le_bytes w64 (payload_in bytes) in
    let test : (is_session_head id block session head && bytes_eq (payload_in bytes) (to_le_bytes w64 session)) ≡ false =
    false_from_ne_true _ (λ is. differs (ap (λ (b : List ℕ). length b) ((bytes_eq-Decides (payload_in bytes) (to_le_bytes w64 session)).0 (and_parts _ _ is).1))) in
    named_by id block bytes head opens ∙ ap (λ b. cond {A = Option ℕ} b (Some session) None) test

-- Nor does a block under another head.
pub other_head_names_none : (id : List ℕ) (block : ℕ) (bytes : List ℕ) (head : Head) → opened bytes ≡ Some head → is_session_head id block (from_le_bytes w64 (payload_in bytes)) head ≡ false → session_named id block bytes ≡ None
other_head_names_none id block bytes head opens differs =
    let session : ℕ = from_le_bytes w64 (payload_in bytes) in
    named_by id block bytes head opens ∙ ap (λ b. cond {A = Option ℕ} (b && bytes_eq (payload_in bytes) (to_le_bytes w64 session)) (Some session) None) differs

-- A payload of eight bytes under the right head names the session that they encode.
pub right_head_names : (id : List ℕ) (block : ℕ) (bytes : List ℕ) (head : Head) → opened bytes ≡ Some head → to_le_bytes w64 (from_le_bytes w64 (payload_in bytes)) ≡ payload_in bytes
    → is_session_head id block (from_le_bytes w64 (payload_in bytes)) head ≡ true → session_named id block bytes ≡ Some (from_le_bytes w64 (payload_in bytes))
right_head_names id block bytes head opens encoded is =
    let session : ℕ = from_le_bytes w64 (payload_in bytes) in
    named_by id block bytes head opens
    ∙ ap (λ b. cond {A = Option ℕ} b (Some session) None) (both_true is ((bytes_eq-Decides (payload_in bytes) (to_le_bytes w64 session)).1 (sym encoded)))

bytes_below : (bytes : List ℕ) → AreBytes bytes → (i : ℕ) → get_or bytes i 0 < 256
bytes_below [] are i = omega arith
bytes_below (b ∷ bytes) are zero = All-head (λ n. n < 256) b bytes are
bytes_below (b ∷ bytes) are (suc i) = bytes_below bytes (All-tail (λ n. n < 256) b bytes are) i

-- Eight bytes are the encoding of the number that they encode.
pub encoded_back : (bytes : List ℕ) → length bytes ≡ 8 → AreBytes bytes → to_le_bytes w64 (from_le_bytes w64 bytes) ≡ bytes
encoded_back bytes eight are = le_bytes_8 bytes (from_le_bytes w64 bytes) eight (bytes_below bytes are) refl

same_bytes : (bytes : List ℕ) → bytes_eq bytes bytes ≡ true
same_bytes bytes = (bytes_eq-Decides bytes bytes).1 refl

-- The head of a session's block is the right one.
pub is_its_head : (id : List ℕ) (session : ℕ) → is_session_head id (session_place session) session (session_head id session) ≡ true
is_its_head id session =
    both_true (both_true (both_true (both_true (both_true (both_true {s = true} refl (same_bytes id)) (eq-eqb session session refl)) (eq-eqb (session_place session) (session_place session) refl)) (eq-eqb (session_place session) (session_place session) refl)) (eq-eqb session session refl)) (same_bytes (sha256 (to_le_bytes w64 session)))

-- A session's block names it.
pub names_itself : (id : List ℕ) (session : ℕ) (bytes : List ℕ) → session < 2 ^ 64 → opened bytes ≡ Some (session_head id session) → payload_in bytes ≡ to_le_bytes w64 session → session_named id (session_place session) bytes ≡ Some session
names_itself id session bytes fits opens payload =
    let back : from_le_bytes w64 (payload_in bytes) ≡ session = ap (from_le_bytes w64) payload ∙ from_le_bytes-to_le_bytes_8 session fits in
    right_head_names id (session_place session) bytes (session_head id session) opens (ap (to_le_bytes w64) back ∙ sym payload)
    (ap (λ n. is_session_head id (session_place session) n (session_head id session)) back ∙ is_its_head id session)
    ∙ ap Some back
