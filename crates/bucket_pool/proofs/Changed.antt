-- A list with one member changed, as it is written at its place.
use Rattle.std.proofs.Common.{◌≡◌, ℕ, zero, suc, ◌<◌, ◌≤◌, List, [], ◌∷◌, length, get_or, set, refl, ap, ◌∙◌, arith}
use Rattle.bucket_pool.specs.Places.{changed}

pub changed_at : {X : Type 0} (f : X → X) (at : ℕ) (xs : List X) (x y : X) → at < length xs → x ≡ get_or xs at x → y ≡ f x → set xs at y ≡ changed f at xs
changed_at f at [] x y lt read is = absurd (omega (arith, lt))
changed_at f zero (z ∷ zs) x y lt read is = ap (λ b. b ∷ zs) (is ∙ ap f read)
changed_at f (suc at) (z ∷ zs) x y lt read is = ap (λ rest. z ∷ rest) (changed_at f at zs x y (let less : at < length zs = omega (arith, lt) in less) read is)

pub changed_past : {X : Type 0} (f : X → X) (at : ℕ) (xs : List X) → length xs ≤ at → xs ≡ changed f at xs
changed_past f at [] le = refl
changed_past f zero (z ∷ zs) le = absurd (omega (arith, le))
changed_past f (suc at) (z ∷ zs) le = ap (λ rest. z ∷ rest) (changed_past f at zs (let less : length zs ≤ at = omega (arith, le) in less))

pub changed_there : {X : Type 0} (f : X → X) (at : ℕ) (xs : List X) (d y : X) → at < length xs → y ≡ f (get_or xs at d) → set xs at y ≡ changed f at xs
changed_there f at [] d y lt is = absurd (omega (arith, lt))
changed_there f zero (z ∷ zs) d y lt is = ap (λ b. b ∷ zs) is
changed_there f (suc at) (z ∷ zs) d y lt is = ap (λ rest. z ∷ rest) (changed_there f at zs d y (let less : at < length zs = omega (arith, lt) in less) is)
