-- Which inode number a client draws, and what drawing it changes.
use Rattle.std.specs.Prelude.{◌≡◌, ◌↔◌, true, ◌≢◌, ℕ, ◌+◌, ◌*◌, nat_le, Option, Some, List, [], ◌∷◌, ⊤, slice_index, slice_set, option_and_then, unwrap_or, if◌then◌else◌}
use Rattle.inode_keys.specs.declared.numbers.Draw.{Draw}
use Rattle.inode_keys.specs.declared.numbers.Draw.TheVariants.{Drawn, Spent}
use Rattle.key_meaning.specs.Forest.{Read, counter_in, counter_of, forest_in, next_in}
use Rattle.key_meaning.specs.Numbers.{IsUnused, ShowSame, ShowsNowhere}
use Rattle.plain_forest.specs.Forest.{Forest}
use Rattle.plain_forest.specs.Steps.{next_number, numbers_per_client}
use Rattle.vol_types.specs.KeyMaps.{KeyMap}
use Rattle.vol_types.specs.declared.keys.Key.{Key}
use Rattle.vol_types.specs.declared.keys.Update.{Update}
use Rattle.vol_types.specs.declared.positions.Btree.TheVariants.{Counters}
use Rattle.vol_types.specs.declared.positions.Pos.{Pos}
use Rattle.vol_types.specs.declared.values.Value.TheVariants.{Counter}

-- where a counter stands
abbrev pub counter_pos : ℕ → Pos
counter_pos counter = record { inode = 0; offset = counter; snapshot = 0 }

-- the update after which a counter stands at a number
abbrev pub counter_update : ℕ → ℕ → Update
counter_update counter next = record { btree = Counters; level = 0; pos = counter_pos counter; value = Some (Counter next) }

-- what a key says that a counter stands at, which is 0 where there is no key
abbrev pub count_in_key : Option Key → ℕ
count_in_key key = unwrap_or (counter_of (option_and_then (λ (k : Key). k.value) key)) 0

-- what a client draws whose counter stands at a number: the number of its range with that place, after which the counter
-- stands at the next one; or nothing, where its numbers are spent
abbrev pub draw_at : ℕ → ℕ → Draw
draw_at client next = if nat_le numbers_per_client next then Spent else Drawn (client * numbers_per_client + next) (counter_update client (next + 1) ∷ [])

-- what a client draws
abbrev pub draw_in : KeyMap → ℕ → Draw
draw_in keys client = draw_at client (next_in keys client)

-- If a number was drawn, it and the updates after which it is are so.
abbrev pub IfDrawn : Draw → (ℕ → List Update → Type 0) → Type 0
IfDrawn (Drawn number updates) P = P number updates
IfDrawn Spent P = ⊤

-- The number is new: no key names it, and nothing shows of it.
pub record IsNewNumber (keys : KeyMap) (number : ℕ) : Type 0 where
  pub unused : IsUnused keys number
  pub nowhere : ShowsNowhere keys number

-- The client's counter stands at one more and each other one where it stood, each id shows the same, and in the forest the
-- client's next number alone is another.
pub record CountsOne (keys new : KeyMap) (client : ℕ) : Type 0 where
  pub counter : counter_in new client ≡ Some (next_in keys client + 1)
  pub others : (other : ℕ) → other ≢ client → counter_in new other ≡ counter_in keys other
  pub shows : ShowSame keys new
  pub forest : (read : Read) → forest_in new read ≡ record (forest_in keys read) { next = slice_set (forest_in keys read).next client (slice_index (forest_in keys read).next client + 1) }

-- The draw is what the forest has for a client: its next number, or nothing exactly where its numbers are spent.
pub record IsNextOf (forest : Forest) (client : ℕ) (draw : Draw) : Type 0 where
  pub number : IfDrawn draw (λ number _. number ≡ next_number client forest)
  pub spent : (draw ≡ Spent) ↔ (nat_le numbers_per_client (slice_index forest.next client) ≡ true)
