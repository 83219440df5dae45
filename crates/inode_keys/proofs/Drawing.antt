-- What a client draws from a key map, and what the update of its counter makes of it.
use Rattle.std.proofs.Common.{◌≡◌, ℕ, ◌+◌, ◌*◌, ◌<◌, ◌≤◌, Bool, true, false, cond, List, [], ◌∷◌, refl, sym, ap, arith}
use Rattle.std.specs.Prelude.{◌↔◌, All, nat_le, slice_index}
use Rattle.std.proofs.lemmas.Bool.{leb-true, leb-false, le-leb, true≢false}
use Rattle.std.proofs.lemmas.List.Elements.{All-cons, All-nil}
use Rattle.std.proofs.lemmas.List.FromFn.{get_or-map-range_with_len}
use Rattle.inode_keys.specs.Draws.{IfDrawn, counter_update, draw_at, draw_in}
use Rattle.inode_keys.specs.declared.numbers.Draw.{Draw}
use Rattle.inode_keys.specs.declared.numbers.Draw.TheVariants.{Drawn, Spent}
use Rattle.key_meaning.specs.Forest.{Read, forest_in, next_in}
use Rattle.key_meaning.specs.Numbers.{MayCountTo, SetsCounter}
use Rattle.key_meaning.specs.Tidy.{AreKeysDrawn}
use Rattle.plain_forest.specs.Steps.{numbers_per_client}
use Rattle.vol_types.specs.KeyMaps.{KeyMap}
use Rattle.vol_types.specs.Standing.{IsUpdate}
use Rattle.vol_types.specs.declared.keys.Update.{Update}

-- the forest's next number of a client is what its counter stands at
pub next_in-forest : (keys : KeyMap) (client : ℕ) (read : Read) → client < 16 → slice_index (forest_in keys read).next client ≡ next_in keys client
next_in-forest keys client read lt = get_or-map-range_with_len (next_in keys) 0 16 client client 0 lt (omega arith)

-- what holds of the number that a counter stands at, where it isn't spent, holds of what is drawn
pub if_drawn : (client next : ℕ) (P : ℕ → List Update → Type 0) → (next < numbers_per_client → P (client * numbers_per_client + next) (counter_update client (next + 1) ∷ [])) → IfDrawn (draw_at client next) P
if_drawn client next P drawn = by (nat_le numbers_per_client next) refl
  where
    by : (b : Bool) → nat_le numbers_per_client next ≡ b → IfDrawn (cond b Spent (Drawn (client * numbers_per_client + next) (counter_update client (next + 1) ∷ []))) P
    by true spent = tt
    by false more = drawn (leb-false numbers_per_client next more)

abbrev is_spent : Draw → Bool
is_spent Spent = true
is_spent (Drawn number updates) = false

-- nothing is drawn exactly where the counter has passed the last number
pub spent_where : (client next : ℕ) → (draw_at client next ≡ Spent) ↔ (nat_le numbers_per_client next ≡ true)
spent_where client next = by (nat_le numbers_per_client next)
  where
    by : (b : Bool) → (cond b Spent (Drawn (client * numbers_per_client + next) (counter_update client (next + 1) ∷ [])) ≡ Spent) ↔ (b ≡ true)
    by true = (λ _. refl, λ _. refl)
    by false = (λ same. ap is_spent same, λ same. absurd (true≢false (sym same)))

-- the counter of drawn keys stands at the end then
pub spent_at_end : (keys : KeyMap) (client : ℕ) → client < 16 → AreKeysDrawn keys → (draw_in keys client ≡ Spent) ↔ (next_in keys client ≡ numbers_per_client)
spent_at_end keys client lt drawn = (
  λ spent. let passed : numbers_per_client ≤ next_in keys client = leb-true numbers_per_client (next_in keys client) ((spent_where client (next_in keys client)).0 spent) in
      let last : next_in keys client ≤ numbers_per_client = (drawn.clients client lt).in_range.1 in omega (arith, passed, last),
  λ end. (spent_where client (next_in keys client)).1 (le-leb numbers_per_client (next_in keys client) (omega (arith, end))),
)

-- the update of a drawn number sets the counter
pub sets_counter : (client next : ℕ) → SetsCounter (counter_update client next) client next
sets_counter client next = record { of_counters = refl; place = refl; value = refl }

-- and may be made
pub counts_to : (keys : KeyMap) (client : ℕ) → client < 16 → next_in keys client < numbers_per_client → MayCountTo keys client (next_in keys client + 1)
counts_to keys client lt more = record { client_fits = lt; raised = omega arith; in_range = (omega arith, omega (arith, more)) }

pub counter_fits : (client next : ℕ) → All IsUpdate (counter_update client next ∷ [])
counter_fits client next = All-cons IsUpdate (counter_update client next) [] (record { stands = record { in_leaf = λ leaf. refl; above = λ (up : 0 < 0). absurd (omega (arith, up)) }; in_range = tt }) (All-nil IsUpdate)
