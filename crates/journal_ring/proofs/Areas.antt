-- The areas that were read so far, block by block and device by device.
use Rattle.std.proofs.Common.{◌≡◌, ℕ, zero, suc, ◌+◌, ◌<◌, ◌≤◌, ⊎_elim, List, [], ◌∷◌, ◌++◌, length, Option, Some, refl, ap, ◌∙◌, sym, subst, arith}
use Rattle.std.proofs.lemmas.Bool.{cases_lt}
use Rattle.std.specs.Prelude.{option_and_then, slice_get}
use Rattle.journal_ring.specs.Parts.{area_in}

-- What stands before the last member, and the last member.
get_before : {A : Type 0} (xs : List A) (x : A) (i : ℕ) → i < length xs → slice_get (xs ++ x ∷ []) i ≡ slice_get xs i
get_before [] x i lower = absurd (omega (arith, lower))
get_before (y ∷ xs) x zero lower = refl
get_before (y ∷ xs) x (suc i) lower = get_before xs x i (omega (arith, lower))

get_end : {A : Type 0} (xs : List A) (x : A) → slice_get (xs ++ x ∷ []) (length xs) ≡ Some x
get_end [] x = refl
get_end (y ∷ xs) x = get_end xs x

get_last : {A : Type 0} (xs : List A) (x : A) (i : ℕ) → i ≡ length xs → slice_get (xs ++ x ∷ []) i ≡ Some x
get_last xs x i same = subst (λ n. slice_get (xs ++ x ∷ []) n ≡ Some x) (sym same) (get_end xs x)

-- One block more.
pub block_more : (blocks new : List (List ℕ)) (block : List ℕ) (at : ℕ → Option (List ℕ)) (count : ℕ) → new ≡ blocks ++ block ∷ [] → length blocks ≡ count → ((place : ℕ) → place < count → slice_get blocks place ≡ at place) → at count ≡ Some block
    → (place : ℕ) → place < count + 1 → slice_get new place ≡ at place
block_more blocks new block at count pushed size before here place within = ap (λ (list : List (List ℕ)). slice_get list place) pushed ∙ ⊎_elim
    (λ (lower : place < count). get_before blocks block place (omega (arith, lower, size)) ∙ before place lower)
    (λ (past : count ≤ place).
    let same : place ≡ count = omega (arith, within, past) in
    get_last blocks block place (omega (arith, same, size)) ∙ sym here ∙ ap at (sym same))
    (cases_lt place count)

-- One device more.
pub area_more : (areas new : List (List (List ℕ))) (blocks : List (List ℕ)) (at : ℕ → ℕ → Option (List ℕ)) (count places : ℕ) → new ≡ areas ++ blocks ∷ [] → length areas ≡ count → ((dev place : ℕ) → dev < count → place < places → area_in areas dev place ≡ at dev place)
    → ((place : ℕ) → place < places → slice_get blocks place ≡ at count place) → (dev place : ℕ) → dev < count + 1 → place < places → area_in new dev place ≡ at dev place
area_more areas new blocks at count places pushed size before here dev place mirror within =
    ap (λ (list : List (List (List ℕ))). option_and_then (λ bs. slice_get bs place) (slice_get list dev)) pushed ∙ ⊎_elim
    (λ (lower : dev < count). ap (option_and_then (λ (bs : List (List ℕ)). slice_get bs place)) (get_before areas blocks dev (omega (arith, lower, size))) ∙ before dev place lower within)
    (λ (past : count ≤ dev).
    let same : dev ≡ count = omega (arith, mirror, past) in
    ap (option_and_then (λ (bs : List (List ℕ)). slice_get bs place)) (get_last areas blocks dev (omega (arith, same, size))) ∙ here place within ∙ ap (λ d. at d place) (sym same))
    (cases_lt dev count)
