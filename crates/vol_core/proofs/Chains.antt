-- Bases to which entries lead, with a further one behind the last; and none is earlier than one before it, or has fewer commits.
use Rattle.std.proofs.Common.{◌≡◌, ◌≤◌, ◌<◌, ℕ, zero, suc, List, [], ◌∷◌, ◌++◌, length, Option, Some, None, refl, sym, ap, subst, ◌∙◌, arith}
use Rattle.std.proofs.lemmas.Option.{same_Some, slice_get-get_or}
use Rattle.std.specs.Prelude.{slice_get}
use Rattle.image_view.specs.Found.{Found}
use Rattle.crash_safety.specs.Safety.{AreBases}
use Rattle.crash_safety.specs.Writings.{Writing, meant_by}
use Rattle.vol_core.specs.Safety.{AreLed, IsLed}

led_push : (before : List Found) (one other : Found) → AreLed (before ++ one ∷ []) → IsLed one other → AreLed ((before ++ one ∷ []) ++ other ∷ [])
led_push [] one other are led = (led, tt)
led_push (base ∷ []) one other are led = (are.0, (led, tt))
led_push (base ∷ next ∷ before) one other are led = (are.0, led_push (next ∷ before) one other are.1 led)

-- Where nothing is written, an entry leads on from the last base, which is what was found.
pub chain_push : (f other : Found) (bases : List Found) (durable : List ℕ) → AreBases f None bases durable → AreLed bases → IsLed f other → AreLed (bases ++ other ∷ [])
chain_push f other bases durable are chain led =
    subst (λ (bs : List Found). AreLed (bs ++ other ∷ [])) (sym are.are) (led_push are.before f other (subst AreLed are.are chain) led)

-- The first base stays.
pub first_stays : (bases more : List Found) (begun : Found) → slice_get bases 0 ≡ Some begun → slice_get (bases ++ more) 0 ≡ Some begun
first_stays [] more begun first = absurd cc
first_stays (base ∷ bases) more begun first = first

at_length : (before : List Found) (base : Found) (rest : List Found) → slice_get (before ++ base ∷ rest) (length before) ≡ Some base
at_length [] base rest = refl
at_length (other ∷ before) base rest = at_length before base rest

-- What was found stands behind as many bases as became durable.
pub last_durable : (f : Found) (writing : Option Writing) (bases : List Found) (durable : List ℕ) → AreBases f writing bases durable → slice_get bases (length durable) ≡ Some f
last_durable f None bases durable are = ap (λ (bs : List Found). slice_get bs (length durable)) are.are ∙ ap (slice_get (are.before ++ f ∷ [])) (sym are.count) ∙ at_length are.before f []
last_durable f (Some w) bases durable are =
    ap (λ (bs : List Found). slice_get bs (length durable)) are.are ∙ ap (slice_get (are.before ++ meant_by f (Some w))) (sym are.count) ∙ at_length are.before f _

-- The second base has no earlier sequence than the first one, and no fewer commits.
pub record IsNoEarlier (one other : Found) : Type 0 where
  pub sequence : one.last.entry.sequence ≤ other.last.entry.sequence
  pub commits : one.last.entry.commits ≤ other.last.entry.commits

itself : (one other : Found) → one ≡ other → IsNoEarlier one other
itself one other same = subst (IsNoEarlier one) same (record { sequence = omega arith; commits = omega arith })

led_later : (one other : Found) → IsLed one other → IsNoEarlier one other
led_later one other led = subst (IsNoEarlier one) (sym led.is) (record { sequence = let next = led.sequence in omega (arith, next); commits = led.commits })

-- Of two bases the one behind is no earlier.
pub led_on : (bases : List Found) → AreLed bases → (first index : ℕ) (one other : Found) → slice_get bases first ≡ Some one → slice_get bases index ≡ Some other → first ≤ index → IsNoEarlier one other
led_on [] chain first index one other here there order = absurd cc
led_on (base ∷ bases) chain zero zero one other here there order = itself one other (sym (same_Some base one here) ∙ same_Some base other there)
led_on (base ∷ bases) chain (suc first) zero one other here there order = absurd (omega (arith, order))
led_on (base ∷ []) chain zero (suc index) one other here there order = absurd cc
led_on (base ∷ []) chain (suc first) (suc index) one other here there order = absurd cc
led_on (base ∷ next ∷ bases) chain zero (suc index) one other here there order =
    let step : IsNoEarlier one next = subst (λ (f : Found). IsNoEarlier f next) (same_Some base one here) (led_later base next chain.0) in
    let rest : IsNoEarlier next other = led_on (next ∷ bases) chain.1 zero index next other refl there (omega arith) in
    record {
      sequence = let low = step.sequence in let high = rest.sequence in omega (arith, low, high);
      commits = let low = step.commits in let high = rest.commits in omega (arith, low, high);
    }
led_on (base ∷ next ∷ bases) chain (suc first) (suc index) one other here there order = led_on (next ∷ bases) chain.1 first index one other here there (omega (arith, order))

-- A number above the index of each of the moments is at least their count.
pub all_below : (moments : List ℕ) (index : ℕ) → ((k m : ℕ) → slice_get moments k ≡ Some m → k < index) → length moments ≤ index
all_below [] index each = omega arith
all_below (moment ∷ moments) index each =
    let last = each (length moments) _ (slice_get-get_or (moment ∷ moments) (length moments) 0 (omega arith)) in
    omega (arith, last)
