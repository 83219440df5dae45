-- Which blocks the parts of a record are taken from; laws for whoever looks at images.
use Rattle.std.proofs.Common.{◌≡◌, ℕ, zero, suc, ◌+◌, ◌<◌, Bool, true, false, cond, List, Option, Some, None, refl, ap, ◌∙◌, sym, arith}
use Rattle.std.proofs.lemmas.Option.{none-some, same_Some, option_and_then_some}
use Rattle.std.specs.Prelude.{option_and_then}
use Rattle.sealed_block.specs.declared.heads.Head.{Head}
use Rattle.sealed_block.specs.Opening.{opened, payload_in}
use Rattle.sealed_block.specs.Parts.{continues, continues-is}
use Rattle.sealed_block.specs.Records.{Continues}
use Rattle.vol_types.specs.declared.layout.Layout.{Layout}
use Rattle.journal_ring.specs.Parts.{Area, first_of_two, first_on, numbered, part_in, part_of, part_on}

-- A block that opens as a part gives its payload.
pub part_opens : (first : Head) (p : ℕ) (block : List ℕ) (head : Head) → opened block ≡ Some head → continues first p head ≡ true → part_in first p block ≡ Some (payload_in block)
part_opens first p block head opens is =
    ap (option_and_then (λ h. cond {A = Option (List ℕ)} (continues first p h) (Some (payload_in block)) None)) opens
    ∙ ap (λ b. cond {A = Option (List ℕ)} b (Some (payload_in block)) None) is

-- A part is taken from such a block of a device, at the place of its number.
pub record IsTaken (layout : Layout) (area : Area) (first : Head) (p dev : ℕ) (block payload : List ℕ) : Type 0 where
  pub head : Head
  pub stands : numbered layout area dev (first.number + p) ≡ Some block
  pub opens : opened block ≡ Some head
  pub continues_it : Continues first p head
  pub payload_is : payload ≡ payload_in block

cond_found : {A : Type 0} (test : Bool) (x y : A) → cond {A = Option A} test (Some x) None ≡ Some y → (test ≡ true) × (x ≡ y)
cond_found true x y is = (refl, same_Some x y is)
cond_found false x y is = absurd (none-some y is)

pub taken_on : (layout : Layout) (area : Area) (first : Head) (p dev : ℕ) (payload : List ℕ) → part_on layout area first p dev ≡ Some payload → (block : List ℕ) × IsTaken layout area first p dev block payload
taken_on layout area first p dev payload is =
    option_and_then_some (part_in first p) (numbered layout area dev (first.number + p)) payload is (λ (block : List ℕ) stands part.
    option_and_then_some (λ h. cond {A = Option (List ℕ)} (continues first p h) (Some (payload_in block)) None) (opened block) payload part (λ (head : Head) opens found.
    let parts = cond_found (continues first p head) (payload_in block) payload found in
    (block, record { head = head; stands = stands; opens = opens; continues_it = continues-is first p head parts.0; payload_is = sym parts.1 })))

first_by : {A : Type 0} (on : ℕ → Option A) (count : ℕ) (x : A) (before : Option A) → first_on on count ≡ before → first_on on (suc count) ≡ Some x
    → (first_on on count ≡ Some x → (dev : ℕ) × (dev < count) × (on dev ≡ Some x)) → (dev : ℕ) × (dev < suc count) × (on dev ≡ Some x)
first_by on count x None none is lower = (count, omega arith, sym (ap (λ o. first_of_two o (on count)) none) ∙ is)
first_by on count x (Some y) some is lower =
    let same : y ≡ x = same_Some y x (sym (ap (λ o. first_of_two o (on count)) some) ∙ is) in
    let earlier = lower (some ∙ ap Some same) in
    (earlier.0, omega (arith, earlier.1), earlier.2)

-- What is found first is on some device.
pub first_is_on : {A : Type 0} (on : ℕ → Option A) (count : ℕ) (x : A) → first_on on count ≡ Some x → (dev : ℕ) × (dev < count) × (on dev ≡ Some x)
first_is_on on zero x is = absurd (none-some x is)
first_is_on on (suc count) x is = first_by on count x (first_on on count) refl is (λ lower. first_is_on on count x lower)

-- Each part is taken so from some metadata device, and part 0 from the given one.
pub part_taken : (layout : Layout) (area : Area) (dev : ℕ) (first : Head) (p : ℕ) (payload : List ℕ) → dev < layout.metadata_replicas → part_of layout area dev first p ≡ Some payload
    → (d : ℕ) × (d < layout.metadata_replicas) × (p ≡ 0 → d ≡ dev) × (block : List ℕ) × IsTaken layout area first p d block payload
part_taken layout area dev first zero payload mirror is = let t = taken_on layout area first 0 dev payload is in (dev, mirror, (λ none. refl), t.0, t.1)
part_taken layout area dev first (suc p) payload mirror is =
    let on = first_is_on (part_on layout area first (suc p)) layout.metadata_replicas payload is in
    let t = taken_on layout area first (suc p) on.0 payload on.2 in
    (on.0, on.1, (λ none. absurd (omega (arith, none))), t.0, t.1)
