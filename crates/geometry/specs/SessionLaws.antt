-- What stays of the session that a volume names; laws for whoever changes its devices.
use Rattle.std.proofs.Common.{◌≡◌, ℕ, zero, suc, ◌%◌, ◌<◌, ◌≤◌, ◌⊎◌, inl, inr, ⊎_elim, Bool, true, false, cond, ◌&&◌, ◌==◌, List, max, Option, Some, None, refl, ap, ◌∙◌, sym, subst, arith}
use Rattle.std.proofs.lemmas.Bool.{and_parts, cases_eq, eqb-true, false≢true}
use Rattle.std.proofs.lemmas.Option.{same_Some, none-some, option_and_then_some}
use Rattle.std.specs.Prelude.{option_and_then}
use Rattle.std.specs.Option.{is_some, IsSome}
use Rattle.std.specs.Int.{w64, to_le_bytes, from_le_bytes}
use Rattle.std.specs.Str.{bytes_eq}
use Rattle.sealed_block.specs.declared.heads.Head.{Head}
use Rattle.sealed_block.specs.Opening.{opened, payload_in}
use Rattle.dev_model.specs.Disk.{Image, block_at}
use Rattle.vol_types.specs.declared.layout.Layout.{Layout}
use Rattle.geometry.specs.Sessions.{greatest_session, greater, is_session_head, session_at, session_in, session_named, session_place}

chosen : (test : Bool) (named session : ℕ) → cond {A = Option ℕ} test (Some named) None ≡ Some session → (test ≡ true) × (named ≡ session)
chosen true named session is = (refl, same_Some named session is)
chosen false named session is = absurd (none-some session is)

-- A session that a block names is sealed in this block.
pub named_in_place : (id : List ℕ) (block : ℕ) (bytes : List ℕ) (session : ℕ) → session_named id block bytes ≡ Some session → session_place session ≡ block
unfolding session_named
named_in_place id block bytes session is =
    let named : ℕ = from_le_bytes w64 (payload_in bytes) in
    option_and_then_some _ (opened bytes) session is (λ (head : Head) at found.
    let parts = chosen (is_session_head id block named head && bytes_eq (payload_in bytes) (to_le_bytes w64 named)) named session found in
    let here : is_session_head id block named head ≡ true = (and_parts _ _ parts.0).0 in
    let place : (session_place named == block) ≡ true = (and_parts _ _ (and_parts _ _ (and_parts _ _ here).0).0).1 in
    ap session_place (sym parts.1) ∙ eqb-true (session_place named) block place)

-- So is one that a block of a device names.
pub found_in_place : (id : List ℕ) (image : Image) (dev block session : ℕ) → session_at id image dev block ≡ Some session → session_place session ≡ block
found_in_place id image dev block session is =
    option_and_then_some (session_named id block) (block_at image dev block) session is (λ bytes at named. named_in_place id block bytes session named)

-- The greater of two sessions is one of them.
greater_is_one : (one other : Option ℕ) (session : ℕ) → greater one other ≡ Some session → (one ≡ Some session) ⊎ (other ≡ Some session)
greater_is_one None other session is = inr is
greater_is_one (Some a) None session is = inl is
greater_is_one (Some a) (Some b) session is =
    let is_max : max a b ≡ session = same_Some (max a b) session is in
    ⊎_elim (λ (same : a ≡ session). inl (ap Some same)) (λ (differs : ¬ (a ≡ session)). inr (ap Some (let same : b ≡ session = omega (arith, is_max, differs) in same))) (cases_eq a session)

-- Where one of two is there, the greater is.
greater_some : (one other : Option ℕ) → IsSome one ⊎ IsSome other → IsSome (greater one other)
greater_some None other (inl is) = absurd (false≢true is)
greater_some None other (inr is) = is
greater_some (Some a) None is = refl
greater_some (Some a) (Some b) is = refl

-- A device names this session, in its own block.
pub record IsNamedBelow (id : List ℕ) (image : Image) (devices session : ℕ) : Type 0 where
  pub dev : ℕ
  pub within : dev < devices
  pub named : session_at id image dev (session_place session) ≡ Some session

one_more : (id : List ℕ) (image : Image) (devices session : ℕ) → IsNamedBelow id image devices session → IsNamedBelow id image (suc devices) session
one_more id image devices session is = record { dev = is.dev; within = omega (arith, is.within); named = is.named }

last_one : (id : List ℕ) (image : Image) (devices session block : ℕ) → session_at id image devices block ≡ Some session → IsNamedBelow id image (suc devices) session
last_one id image devices session block is = record {
  dev = devices;
  within = omega arith;
  named = subst (λ b. session_at id image devices b ≡ Some session) (sym (found_in_place id image devices block session is)) is;
}

-- The greatest session is named by a device.
pub greatest_is_named : (id : List ℕ) (image : Image) (devices session : ℕ) → greatest_session id image devices ≡ Some session → IsNamedBelow id image devices session
greatest_is_named id image zero session is = absurd (none-some session is)
greatest_is_named id image (suc devices) session is = ⊎_elim
    (λ below. one_more id image devices session (greatest_is_named id image devices session below))
    (λ here. ⊎_elim (λ even. last_one id image devices session 4 even) (λ odd. last_one id image devices session 5 odd)
    (greater_is_one (session_at id image devices 4) (session_at id image devices 5) session here))
    (greater_is_one (greatest_session id image devices) (greater (session_at id image devices 4) (session_at id image devices 5)) session is)

-- A session is sealed in block 4 or 5.
pub four_or_five : (session : ℕ) → (session_place session ≡ 4) ⊎ (session_place session ≡ 5)
four_or_five session = ⊎_elim (λ (even : session % 2 ≡ 0). inl (omega (arith, even))) (λ (odd : ¬ (session % 2 ≡ 0)). inr (omega (arith, odd))) (cases_eq (session % 2) 0)

-- It is one of the first blocks.
pub place_is_low : (session : ℕ) → session_place session ≤ 5
place_is_low session = ⊎_elim (λ (four : session_place session ≡ 4). omega (arith, four)) (λ (five : session_place session ≡ 5). omega (arith, five)) (four_or_five session)

-- Where a device names a session, there is a greatest one.
pub some_greatest : (id : List ℕ) (image : Image) (devices session : ℕ) → IsNamedBelow id image devices session → IsSome (greatest_session id image devices)
some_greatest id image zero session is = absurd (omega (arith, is.within))
some_greatest id image (suc devices) session is =
    let before = greatest_session id image devices in
    let even = session_at id image devices 4 in
    let odd = session_at id image devices 5 in
    ⊎_elim
    (λ (last : is.dev ≡ devices).
    let here : session_at id image devices (session_place session) ≡ Some session = subst (λ d. session_at id image d (session_place session) ≡ Some session) last is.named in
    greater_some before (greater even odd) (inr (greater_some even odd (⊎_elim
    (λ four. inl (ap is_some (subst (λ b. session_at id image devices b ≡ Some session) four here)))
    (λ five. inr (ap is_some (subst (λ b. session_at id image devices b ≡ Some session) five here)))
    (four_or_five session)))))
    (λ (earlier : ¬ (is.dev ≡ devices)). greater_some before (greater even odd) (inl (some_greatest id image devices session (record { dev = is.dev; within = omega (arith, is.within, earlier); named = is.named }))))
    (cases_eq is.dev devices)

-- Where a metadata device names a session in its own block, the volume names one.
pub session_is_there : (layout : Layout) (image : Image) (dev session : ℕ) → dev < layout.metadata_replicas → session_at layout.id image dev (session_place session) ≡ Some session → IsSome (session_in layout image)
session_is_there layout image dev session within named = some_greatest layout.id image layout.metadata_replicas session (record { dev = dev; within = within; named = named })

-- While the blocks of its greatest session stay, a volume names a session.
pub session_remains : (layout : Layout) (before image : Image) (session : ℕ) → session_in layout before ≡ Some session
    → ((dev : ℕ) → dev < layout.metadata_replicas → block_at image dev (session_place session) ≡ block_at before dev (session_place session))
    → IsSome (session_in layout image)
session_remains layout before image session is stays =
    let named = greatest_is_named layout.id before layout.metadata_replicas session is in
    session_is_there layout image named.dev session named.within (ap (option_and_then (session_named layout.id (session_place session))) (stays named.dev named.within) ∙ named.named)
