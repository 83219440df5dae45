-- What stood at changed positions before updates, and what stands there after them.
use Rattle.std.proofs.Common.{◌≡◌, ℕ, ◌+◌, ◌≤◌, Bool, true, false, cond, List, [], ◌∷◌, Option, Some, None, refl, sym, ap, ◌∙◌, arith}
use Rattle.std.specs.Prelude.{◌&&◌, is_some}
use Rattle.std.specs.BTreeMap.{is_at}
use Rattle.std.proofs.lemmas.Option.{none-some, same_Some}
use Rattle.key_triggers.specs.Changes.{Values, values_after, values_before}
use Rattle.key_triggers.proofs.Counting.{same_pos}
use Rattle.key_triggers.proofs.Sums.{StandIn, no_entries, sum_of, total, total-without_all, turned, without_all}
use Rattle.vol_types.specs.KeyMapLaws.{IsKeyMap-with_update, value_in-with_update}
use Rattle.vol_types.specs.KeyMaps.{Entries, IsKeyMap, KeyMap, is_update_of, value_in, with_update, with_updates}
use Rattle.vol_types.specs.MapLaws.{IsMap-with_value, IsMap-without, same_maps, value_at-with_value, value_at-without}
use Rattle.vol_types.specs.Maps.{IsMap, value_at, with_value, without}
use Rattle.vol_types.specs.PositionLaws.{pos_exact, pos_total}
use Rattle.vol_types.specs.Positions.{pos_cmp}
use Rattle.vol_types.specs.declared.keys.Update.{Update}
use Rattle.vol_types.specs.declared.positions.Btree.TheVariants.{Extents}
use Rattle.vol_types.specs.declared.positions.Pos.{Pos}
use Rattle.vol_types.specs.declared.values.Value.{Value}

-- At the positions that have changed from one key map to another, these values stood, and these stand.
pub record AreChanges (first now : KeyMap) (before after : Values) : Type 0 where
  pub before_map : IsMap pos_cmp before
  pub after_map : IsMap pos_cmp after
  pub was : (pos : Pos) (value : Option Value) → value_at pos_cmp pos before ≡ Some value → value_in first Extents pos ≡ value
  pub is : (pos : Pos) (value : Option Value) → value_at pos_cmp pos after ≡ Some value → value_in now Extents pos ≡ value
  pub stays : (pos : Pos) → value_at pos_cmp pos after ≡ None → value_in now Extents pos ≡ value_in first Extents pos
  pub same : (pos : Pos) → is_some (value_at pos_cmp pos before) ≡ is_some (value_at pos_cmp pos after)

-- what one update leaves to be put
abbrev put_one : Bool → Pos → Option Value → Values → Values
put_one of pos value values = cond {A = Values} of (with_value pos_cmp pos value values) values

module _ (first now : KeyMap) (update : Update) (before after : Values) (is : IsKeyMap now) (changes : AreChanges first now before after) where
  -- One update more.
  changes_once : (of : Bool) → is_update_of Extents update ≡ of → AreChanges first (with_update update now) (put_one of update.pos (value_in first Extents update.pos) before) (put_one of update.pos update.value after)
  changes_once false of = record {
    before_map = changes.before_map;
    after_map = changes.after_map;
    was = changes.was;
    is = λ pos value there. still pos ∙ changes.is pos value there;
    stays = λ pos none. still pos ∙ changes.stays pos none;
    same = changes.same;
  }
    where
      still : (pos : Pos) → value_in (with_update update now) Extents pos ≡ value_in now Extents pos
      still pos = value_in-with_update update now Extents pos is ∙ ap (λ b. cond (b && is_at (pos_cmp update.pos) pos) update.value (value_in now Extents pos)) of
  changes_once true of = record {
    before_map = IsMap-with_value pos_total update.pos (value_in first Extents update.pos) before changes.before_map;
    after_map = IsMap-with_value pos_total update.pos update.value after changes.after_map;
    was = λ pos value there. was_by pos value (is_at (pos_cmp update.pos) pos) refl (sym (value_at-with_value pos_total update.pos (value_in first Extents update.pos) pos before) ∙ there);
    is = λ pos value there. put pos ∙ is_by pos value (is_at (pos_cmp update.pos) pos) (sym (value_at-with_value pos_total update.pos update.value pos after) ∙ there);
    stays = λ pos none. put pos ∙ stays_by pos (is_at (pos_cmp update.pos) pos) (sym (value_at-with_value pos_total update.pos update.value pos after) ∙ none);
    same = λ pos.
        ap (λ (o : Option (Option Value)). is_some o) (value_at-with_value pos_total update.pos (value_in first Extents update.pos) pos before)
        ∙ same_by pos (is_at (pos_cmp update.pos) pos)
        ∙ sym (ap (λ (o : Option (Option Value)). is_some o) (value_at-with_value pos_total update.pos update.value pos after));
  }
    where
      put : (pos : Pos) → value_in (with_update update now) Extents pos ≡ cond (is_at (pos_cmp update.pos) pos) update.value (value_in now Extents pos)
      put pos = value_in-with_update update now Extents pos is ∙ ap (λ b. cond (b && is_at (pos_cmp update.pos) pos) update.value (value_in now Extents pos)) of

      was_by : (pos : Pos) (value : Option Value) (b : Bool) → is_at (pos_cmp update.pos) pos ≡ b → cond b (Some (value_in first Extents update.pos)) (value_at pos_cmp pos before) ≡ Some value → value_in first Extents pos ≡ value
      was_by pos value true at there = ap (value_in first Extents) (sym (same_pos update.pos pos at)) ∙ same_Some (value_in first Extents update.pos) value there
      was_by pos value false at there = changes.was pos value there

      is_by : (pos : Pos) (value : Option Value) (b : Bool) → cond b (Some update.value) (value_at pos_cmp pos after) ≡ Some value → cond b update.value (value_in now Extents pos) ≡ value
      is_by pos value true there = same_Some update.value value there
      is_by pos value false there = changes.is pos value there

      stays_by : (pos : Pos) (b : Bool) → cond b (Some update.value) (value_at pos_cmp pos after) ≡ None → cond b update.value (value_in now Extents pos) ≡ value_in first Extents pos
      stays_by pos true none = absurd (none-some update.value (sym none))
      stays_by pos false none = changes.stays pos none

      same_by : (pos : Pos) (b : Bool) → is_some (cond b (Some (value_in first Extents update.pos)) (value_at pos_cmp pos before)) ≡ is_some (cond b (Some update.value) (value_at pos_cmp pos after))
      same_by pos true = refl
      same_by pos false = changes.same pos

-- All updates.
changes_on : (first now : KeyMap) (updates : List Update) (before after : Values) → IsKeyMap now → AreChanges first now before after
    → AreChanges first (with_updates updates now) (values_before first updates before) (values_after updates after)
changes_on first now [] before after is changes = changes
changes_on first now (update ∷ updates) before after is changes =
    changes_on first (with_update update now) updates
    (put_one (is_update_of Extents update) update.pos (value_in first Extents update.pos) before) (put_one (is_update_of Extents update) update.pos update.value after)
    (IsKeyMap-with_update update now is) (changes_once first now update before after is changes (is_update_of Extents update) refl)

-- The values before and after updates are what they change.
pub updates_change : (keys : KeyMap) (updates : List Update) → IsKeyMap keys → AreChanges keys (with_updates updates keys) (values_before keys updates []) (values_after updates [])
updates_change keys updates is = changes_on keys keys updates [] [] is (record {
  before_map = no_entries (Option Value);
  after_map = no_entries (Option Value);
  was = λ pos value there. absurd (none-some value there);
  is = λ pos value there. absurd (none-some value there);
  stays = λ pos none. refl;
  same = λ pos. refl;
})

-- What stands in a map without some positions.
without_all-map : (values : Values) (entries : Entries) → IsMap pos_cmp entries → IsMap pos_cmp (without_all values entries)
without_all-map [] entries is = is
without_all-map (entry ∷ values) entries is = without_all-map values (without pos_cmp entry.0 entries) (IsMap-without pos_total entry.0 entries is)

value_at-without_all : (values : Values) (entries : Entries) → IsMap pos_cmp entries → (pos : Pos) → value_at pos_cmp pos (without_all values entries) ≡ cond (is_some (value_at pos_cmp pos values)) None (value_at pos_cmp pos entries)
value_at-without_all [] entries is pos = refl
value_at-without_all (entry ∷ values) entries is pos =
    value_at-without_all values (without pos_cmp entry.0 entries) (IsMap-without pos_total entry.0 entries is) pos
    ∙ ap (λ (o : Option Value). cond (is_some (value_at pos_cmp pos values)) None o) (value_at-without pos_total entry.0 pos entries is ∙ ap (λ b. cond b None (value_at pos_cmp pos entries)) (turned entry.0 pos))
    ∙ by (is_at (pos_cmp pos) entry.0) (is_some (value_at pos_cmp pos values)) refl
  where
    by : (b c : Bool) → is_some (value_at pos_cmp pos values) ≡ c → cond c None (cond b None (value_at pos_cmp pos entries)) ≡ cond (is_some (cond b (Some entry.1) (value_at pos_cmp pos values))) None (value_at pos_cmp pos entries)
    by true true is = refl
    by true false is = refl
    by false true is = sym (ap (λ d. cond d None (value_at pos_cmp pos entries)) is)
    by false false is = sym (ap (λ d. cond d None (value_at pos_cmp pos entries)) is)

module _ (first now : KeyMap) (before after : Values) (is_map : IsKeyMap first) (now_map : IsKeyMap now) (changes : AreChanges first now before after) where
  -- Without the positions that have changed both are one.
  same_rest : without_all before first.extents ≡ without_all after now.extents
  same_rest = same_maps pos_total pos_exact (without_all before first.extents) (without_all after now.extents)
      (without_all-map before first.extents (is_map.rises Extents)) (without_all-map after now.extents (now_map.rises Extents))
      (λ pos.
      value_at-without_all before first.extents (is_map.rises Extents) pos
      ∙ ap (λ b. cond b None (value_in first Extents pos)) (changes.same pos)
      ∙ by pos (value_at pos_cmp pos after) refl
      ∙ sym (value_at-without_all after now.extents (now_map.rises Extents) pos))
    where
      by : (pos : Pos) (there : Option (Option Value)) → value_at pos_cmp pos after ≡ there
          → cond (is_some (value_at pos_cmp pos after)) None (value_in first Extents pos) ≡ cond (is_some (value_at pos_cmp pos after)) None (value_in now Extents pos)
      by pos None none =
          ap (λ (o : Option Value). cond (is_some (value_at pos_cmp pos after)) None o) (sym (changes.stays pos none))
      by pos (Some value) there =
          let is : is_some (value_at pos_cmp pos after) ≡ true = ap (λ (o : Option (Option Value)). is_some o) there in
          ap (λ b. cond b None (value_in first Extents pos)) is ∙ sym (ap (λ b. cond b None (value_in now Extents pos)) is)

  stood : StandIn first.extents before
  stood = record { is_map = is_map.rises Extents; positions = changes.before_map; each = changes.was }

  stand : StandIn now.extents after
  stand = record { is_map = now_map.rises Extents; positions = changes.after_map; each = changes.is }

  -- What values count for before and after the changes: as much less as those that stood, and as much more as those that stand.
  pub counts_change : (count : Value → ℕ) → total count now.extents + sum_of count before ≡ total count first.extents + sum_of count after
  counts_change count =
      let one = total-without_all count before first.extents stood in
      let other = total-without_all count after now.extents stand in
      omega (arith, one, other, ap (total count) same_rest)

  -- Those that stood count for no more than all did,
  pub stood_within : (count : Value → ℕ) → sum_of count before ≤ total count first.extents
  stood_within count = omega (arith, total-without_all count before first.extents stood)

  -- and those that stand for no more than all do.
  pub stand_within : (count : Value → ℕ) → sum_of count after ≤ total count now.extents
  stand_within count = omega (arith, total-without_all count after now.extents stand)
