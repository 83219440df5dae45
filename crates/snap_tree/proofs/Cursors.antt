-- Going from the greatest id downwards: its measure, and what holds of all ids that are past.
use Rattle.std.proofs.Common.{◌≡◌, ℕ, ◌+◌, ◌<◌, ◌≤◌, Option, Some, None, sym, subst, arith, ⊎_elim}
use Rattle.std.proofs.lemmas.Bool.{cases_lt, cases_eq}
use Rattle.snap_tree.specs.Links.{IsPast}

-- how many numbers are left up to the next id
abbrev pub left : Option ℕ → ℕ
left None = 0
left (Some next) = next + 1

-- what held of all ids above one, holds of it, and of those between it and the next, holds of all above the next
pub step_down : (P : ℕ → Type 0) (next later : Option ℕ) (id : ℕ) → next ≡ Some id → ((x : ℕ) → IsPast next x → P x) → P id → ((x : ℕ) → x < id → IsPast later x → P x) → (x : ℕ) → IsPast later x → P x
step_down P next later id is above here between x past =
    ⊎_elim (λ (lt : x < id). between x lt past)
    (λ (le : id ≤ x). ⊎_elim (λ (e : x ≡ id). subst P (sym e) here) (λ (ne : x ≡ id → ⊥). above x (subst (λ o. IsPast o x) (sym is) (greater x le ne))) (cases_eq x id)) (cases_lt x id)
  where
    greater : (x : ℕ) → id ≤ x → (x ≡ id → ⊥) → id < x
    greater x le ne = ⊎_elim (λ (lt : id < x). lt) (λ (ge : x ≤ id). absurd (ne (omega (arith, le, ge)))) (cases_lt id x)
