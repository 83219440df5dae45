use Rattle.std.proofs.Common.{◌≡◌, ℕ, List, length, Some, true, false, ap, ◌∙◌, sym}
use Rattle.std.specs.Int.{w64, from_le_bytes}
use Rattle.sealed_block.specs.Opening.{payload_in}
use Rattle.geometry.specs.Sessions.{is_session_head}
use Rattle.geometry.proofs.NamedSessions.{shut_names_none, other_length_names_none, other_head_names_none, right_head_names, encoded_back}
use Rattle.geometry.proofs.sessions.session_named.Goals as goal

pub returns-in_default : goal.returns-in_default
returns-in_default c = sym (shut_names_none c.args.id.now c.args.block c.args.bytes.now (sym c.unseal.ensures.head ∙ c.in_default.is))

pub returns-in_default-number_in : goal.returns-in_default-number_in
returns-in_default-number_in c = sym (other_length_names_none c.args.id.now c.args.block c.args.bytes.now c.in-Some.head (sym c.unseal.ensures.head ∙ c.in-Some.is)
    (λ eight. c.in_default-number_in.ensures (ap (λ (b : List ℕ). length b) c.payload.ensures ∙ eight)))

pub returns-then-not-is_session_head : goal.returns-then-not-is_session_head
returns-then-not-is_session_head c =
    let bytes : List ℕ = c.args.bytes.now in
    let number : c.in-Some-number_in.session ≡ from_le_bytes w64 (payload_in bytes) = c.in-Some-number_in.ensures.1 ∙ ap (from_le_bytes w64) c.payload.ensures in
    let other : is_session_head c.args.id.now c.args.block (from_le_bytes w64 (payload_in bytes)) c.in-Some.head ≡ false =
    ap (λ n. is_session_head c.args.id.now c.args.block n c.in-Some.head) (sym number) ∙ sym c.is_session_head.ensures ∙ c.if-not-is_session_head.true in
    sym (other_head_names_none c.args.id.now c.args.block bytes c.in-Some.head (sym c.unseal.ensures.head ∙ c.in-Some.is) other)

pub returns : goal.returns
returns c =
    let bytes : List ℕ = c.args.bytes.now in
    let number : c.in-Some-number_in.session ≡ from_le_bytes w64 (payload_in bytes) = c.in-Some-number_in.ensures.1 ∙ ap (from_le_bytes w64) c.payload.ensures in
    let right : is_session_head c.args.id.now c.args.block (from_le_bytes w64 (payload_in bytes)) c.in-Some.head ≡ true =
    ap (λ n. is_session_head c.args.id.now c.args.block n c.in-Some.head) (sym number) ∙ sym c.is_session_head.ensures ∙ c.if-not-is_session_head.false in
    let eight : length (payload_in bytes) ≡ 8 = sym (ap (λ (b : List ℕ). length b) c.payload.ensures) ∙ c.in-Some-number_in.ensures.0 in
    ap Some number
    ∙ sym (right_head_names c.args.id.now c.args.block bytes c.in-Some.head (sym c.unseal.ensures.head ∙ c.in-Some.is) (encoded_back (payload_in bytes) eight c.in-Some.ensures.open.bytes) right)
