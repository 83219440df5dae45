-- Looks that go on, and what a key map that gives them has.
use Rattle.std.proofs.Common.{◌≡◌, Option, Some, None, List, [], ◌∷◌, ◌++◌, refl, sym, ap, ◌∙◌, subst, append_assoc, append-nil}
use Rattle.std.specs.Prelude.{◌-◌, All, length, option_map, slice_get}
use Rattle.std.specs.List.{AllByRecursion}
use Rattle.std.specs.Option.{option_to_list}
use Rattle.std.proofs.lemmas.List.Elements.{All-from_recursion, recursion_from_All}
use Rattle.key_triggers.specs.Changes.{value_in_key}
use Rattle.key_view.specs.Seen.{GoesOn}
use Rattle.vol_types.specs.KeyMaps.{GivesLooks, IsLook, KeyMap, keys_in, value_in}
use Rattle.vol_types.specs.declared.keys.Key.{Key}
use Rattle.vol_types.specs.declared.positions.Btree.{Btree}
use Rattle.vol_types.specs.declared.positions.Pos.{Pos}
use Rattle.vol_types.specs.declared.queries.Look.{Look}
use Rattle.vol_types.specs.declared.queries.Query.TheVariants.{At}
use Rattle.vol_types.specs.declared.values.Value.{Value}

-- No look was made,
pub goes_nowhere : (looks : List Look) → GoesOn looks looks
goes_nowhere looks = record { more = []; is = sym (append-nil looks) }

-- or some were, and then others.
pub goes_further : (first second third : List Look) → GoesOn first second → GoesOn second third → GoesOn first third
goes_further first second third one two = record { more = one.more ++ two.more; is = two.is ∙ ap (λ l. l ++ two.more) one.is ∙ append_assoc first one.more two.more }

all_first : {X : Type 0} (P : X → Type 0) (first second : List X) → AllByRecursion P (first ++ second) → AllByRecursion P first
all_first P [] second all = tt
all_first P (x ∷ first) second all = (all.0, all_first P first second all.1)

all_last : {X : Type 0} (P : X → Type 0) (first : List X) (x : X) → AllByRecursion P (first ++ x ∷ []) → P x
all_last P [] x all = all.0
all_last P (y ∷ first) x all = all_last P first x all.1

-- A key map that gives looks gives the earlier ones,
pub gave_before : (keys : KeyMap) (old new : List Look) → GoesOn old new → GivesLooks keys new → GivesLooks keys old
gave_before keys old new on gives = record { each = All-from_recursion (IsLook keys) old (all_first (IsLook keys) old on.more (recursion_from_All (IsLook keys) (old ++ on.more) (subst (All (IsLook keys)) on.is gives.each))) }

-- and the last one.
pub gives_last : (keys : KeyMap) (old new : List Look) (look : Look) → new ≡ old ++ look ∷ [] → GivesLooks keys new → IsLook keys look
gives_last keys old new look is gives = all_last (IsLook keys) old look (recursion_from_All (IsLook keys) (old ++ look ∷ []) (subst (All (IsLook keys)) is gives.each))

-- The key at a position has the value there.
answer_shows : (pos : Pos) (value : Option Value) → value_in_key (slice_get (keys_in (option_to_list (option_map (λ (v : Value). (pos, v)) value))) (length (keys_in (option_to_list (option_map (λ (v : Value). (pos, v)) value))) - 1)) ≡ value
answer_shows pos None = refl
answer_shows pos (Some value) = refl

-- What a look at a position answers is the value there.
pub looked_up : (keys : KeyMap) (btree : Btree) (pos : Pos) (answer : List Key) → IsLook keys (record { query = At btree pos; answer = answer }) → value_in_key (slice_get answer (length answer - 1)) ≡ value_in keys btree pos
looked_up keys btree pos answer is = ap (λ (ks : List Key). value_in_key (slice_get ks (length ks - 1))) is ∙ answer_shows pos (value_in keys btree pos)
