-- What all three steps have in common: which ids and names are drawn and good after an update, and how trees stay.
use Rattle.std.proofs.Common.{◌≡◌, ℕ, zero, suc, ◌+◌, ◌<◌, ◌≤◌, Bool, true, false, cond, Option, Some, None, List, [], ◌∷◌, refl, sym, ap, ◌∙◌, subst, arith, map, inl, inr}
use Rattle.std.specs.Prelude.{◌/◌, All, IsSome, count_by, option_map, unwrap_or}
use Rattle.std.specs.BTreeMap.{is_at}
use Rattle.std.specs.Int.{IsInRange}
use Rattle.std.specs.List.{range_with_len}
use Rattle.std.proofs.lemmas.Cmp.{nat_list_cmp_total}
use Rattle.std.proofs.lemmas.List.Elements.{All-weaker}
use Rattle.std.proofs.lemmas.List.Sums.{sum_by-cons}
use Rattle.std.proofs.lemmas.Map.Lookups.{exact_bytes}
use Rattle.id_steps.proofs.Slots.{held}
use Rattle.id_steps.specs.Entries.{subs_update, subs_value}
use Rattle.key_meaning.specs.Alike.{ShowAlike}
use Rattle.key_meaning.specs.AlikeLaws.{tree_of-alike}
use Rattle.key_meaning.specs.CounterLaws.{entries_other}
use Rattle.key_meaning.specs.EntryLaws.{all-with_update}
use Rattle.key_meaning.specs.Forest.{Read, all_subs, counter_in, forest_in, next_in, subs_of, tree_named, tree_of}
use Rattle.key_meaning.specs.ForestLaws.{trees_within}
use Rattle.key_meaning.specs.SoundLaws.{IsIn}
use Rattle.key_meaning.specs.TableLaws.{map_over-changed}
use Rattle.key_meaning.specs.Tidy.{AreNamesGood, HasGoodNames, HasGoodSubvolumes, IsCounterFrom, IsDrawn}
use Rattle.plain_forest.specs.Names.{is_good_subvolume_name}
use Rattle.plain_forest.specs.Steps.{numbers_per_client}
use Rattle.vol_digest.specs.Digests.{slot_of}
use Rattle.vol_types.specs.KeyMapLaws.{entries_of-with_update, same_key_maps}
use Rattle.vol_types.specs.KeyMaps.{Entries, IsKeyMap, KeyMap, entries_of, is_update_of, updated_entries, with_update}
use Rattle.vol_types.specs.MapLaws.{IsMap-put_at, same_maps, value_at-put_at}
use Rattle.vol_types.specs.Maps.{IsMap, put_at, value_at}
use Rattle.vol_types.specs.PositionLaws.{pos_exact, pos_total}
use Rattle.vol_types.specs.Positions.{pos_cmp}
use Rattle.vol_types.specs.Ranges.{name_cmp}
use Rattle.vol_types.specs.declared.keys.Update.{Update}
use Rattle.vol_types.specs.declared.positions.Btree.TheVariants.{Dirents, Snapshots, Subvols}
use Rattle.vol_types.specs.declared.positions.Pos.{Pos}
use Rattle.vol_types.specs.declared.values.Sub.{Sub}
use Rattle.vol_types.specs.declared.values.Value.{Value}

-- All records are of ids above a number.
abbrev pub AreAbove : ℕ → KeyMap → Type 0
AreAbove bound keys = All (λ (entry : Pos × Value). bound < entry.0.offset) keys.snapshots

-- They are so after an update of an id above it,
pub above_then : (bound : ℕ) (update : Update) (keys : KeyMap) → bound < update.pos.offset → AreAbove bound keys → AreAbove bound (with_update update keys)
above_then bound update keys lt was = all-with_update (λ (entry : Pos × Value). bound < entry.0.offset) update keys Snapshots (λ of put at. lt) was

-- or of something else.
pub above_other : (bound : ℕ) (update : Update) (keys : KeyMap) → is_update_of Snapshots update ≡ false → AreAbove bound keys → AreAbove bound (with_update update keys)
above_other bound update keys other was = subst (All (λ (entry : Pos × Value). bound < entry.0.offset)) (sym (entries_other update keys Snapshots other)) was

-- Records that are above a number are above a smaller one.
pub above_less : (bound less : ℕ) (keys : KeyMap) → less ≤ bound → AreAbove bound keys → AreAbove less keys
above_less bound less keys le was = All-weaker (λ (entry : Pos × Value). bound < entry.0.offset) (λ (entry : Pos × Value). less < entry.0.offset) (λ (entry : Pos × Value) (lt : bound < entry.0.offset). omega (arith, lt, le)) keys.snapshots was

-- The name of the subvolume is good, and has this slot.
abbrev pub IsGoodIn : ℕ → Sub → Type 0
IsGoodIn slot sub = (slot_of sub.name ≡ slot) × (is_good_subvolume_name sub.name ≡ true)

-- Names stay good where a slot has subvolumes of good names of this slot,
pub named_then : (slot : ℕ) (subs : List Sub) (keys : KeyMap) → All (IsGoodIn slot) subs → AreNamesGood keys → AreNamesGood (with_update (subs_update slot subs) keys)
named_then slot subs keys good was = record {
  subvolumes = all-with_update HasGoodSubvolumes (subs_update slot subs) keys Subvols (λ of put at. subst (All (IsGoodIn slot)) (sym (ap subs_of (sym at) ∙ held subs)) good) was.subvolumes;
  names = subst (All HasGoodNames) (sym (entries_other (subs_update slot subs) keys Dirents refl)) was.names;
}

-- and where something else changes.
pub named_other : (update : Update) (keys : KeyMap) → is_update_of Subvols update ≡ false → is_update_of Dirents update ≡ false → AreNamesGood keys → AreNamesGood (with_update update keys)
named_other update keys subvols dirents was = record {
  subvolumes = subst (All HasGoodSubvolumes) (sym (entries_other update keys Subvols subvols)) was.subvolumes;
  names = subst (All HasGoodNames) (sym (entries_other update keys Dirents dirents)) was.names;
}

-- A counter that stands where it stood is in its range still.
pub counter_stays : (keys new : KeyMap) (first last counter : ℕ) → counter_in new counter ≡ counter_in keys counter → IsCounterFrom keys first last counter → IsCounterFrom new first last counter
counter_stays keys new first last counter same was = record { there = subst IsSome (sym same) was.there; in_range = subst (λ (o : Option ℕ). IsInRange first last (unwrap_or o 0)) (sym same) was.in_range }

-- What is drawn is drawn where the clients' counters stand where they stood.
pub drawn_where : (keys new : KeyMap) → ((client : ℕ) → client < 16 → counter_in new client ≡ counter_in keys client) → (number : ℕ) → IsDrawn keys number → IsDrawn new number
drawn_where keys new counts number was = record { client = was.client; count = let same : next_in new (number / numbers_per_client) ≡ next_in keys (number / numbers_per_client) = ap (λ o. unwrap_or o 0) (counts (number / numbers_per_client) was.client) in omega (arith, same, was.count) }

-- A subvolume that may be none has the tree that it had, where its id shows what it showed.
pub trees_same : (keys new : KeyMap) (read : Read) (sub : Option Sub) → ((s : Sub) → sub ≡ Some s → ShowAlike new s.id keys s.id) → option_map (tree_of new read) sub ≡ option_map (tree_of keys read) sub
trees_same keys new read None alike = refl
trees_same keys new read (Some sub) alike = ap Some (tree_of-alike new keys read sub sub (alike sub refl) refl refl)

-- Where all other names have the trees that they had, the forest has the tree of one put.
pub subvolumes_put : (keys new : KeyMap) (read : Read) (name : List ℕ) → ((other : List ℕ) → is_at (name_cmp name) other ≡ false → tree_named new read other ≡ tree_named keys read other) → (forest_in new read).subvolumes ≡ put_at name_cmp name (tree_named new read name) (forest_in keys read).subvolumes
subvolumes_put keys new read name same = map_over-changed nat_list_cmp_total exact_bytes (tree_named keys read) (tree_named new read) (map (λ (sub : Sub). sub.name) (all_subs keys)) (map (λ (sub : Sub). sub.name) (all_subs new)) name (trees_within keys read) (trees_within new read) same

-- a test counts one for a member that passes
pub count_one : {X : Type 0} (test : X → Bool) (x : X) → test x ≡ true → count_by test (x ∷ []) ≡ 1
count_one test x passes = let whole : count_by test (x ∷ []) ≡ cond {A = ℕ} (test x) 1 0 + count_by test [] = sum_by-cons (λ y. cond {A = ℕ} (test y) 1 0) x [] in let none : count_by test [] ≡ 0 = refl in let one : cond {A = ℕ} (test x) 1 0 ≡ 1 = ap (λ b. cond {A = ℕ} b 1 0) passes in omega (arith, whole, none, one)

-- and nothing for one that fails
pub count_fails : {X : Type 0} (test : X → Bool) (x : X) → test x ≡ false → count_by test (x ∷ []) ≡ 0
count_fails test x fails = let whole : count_by test (x ∷ []) ≡ cond {A = ℕ} (test x) 1 0 + count_by test [] = sum_by-cons (λ y. cond {A = ℕ} (test y) 1 0) x [] in let none : count_by test [] ≡ 0 = refl in let zero : cond {A = ℕ} (test x) 1 0 ≡ 0 = ap (λ b. cond {A = ℕ} b 1 0) fails in omega (arith, whole, none, zero)

-- Where no member passes, a test counts nothing.
pub count_none : {X : Type 0} (test : X → Bool) (xs : List X) → ((x : X) → IsIn x xs → test x ≡ false) → count_by test xs ≡ 0
count_none test [] fails = refl
count_none test (x ∷ xs) fails =
    let whole : count_by test (x ∷ xs) ≡ cond {A = ℕ} (test x) 1 0 + count_by test xs = sum_by-cons (λ y. cond {A = ℕ} (test y) 1 0) x xs in
    let head : cond {A = ℕ} (test x) 1 0 ≡ 0 = ap (λ b. cond {A = ℕ} b 1 0) (fails x (inl refl)) in
    let rest : count_by test xs ≡ 0 = count_none test xs (λ y is. fails y (inr is)) in
    omega (arith, whole, head, rest)

-- Functions that agree on some numbers give the same list of them.
pub map_same : (new old : ℕ → ℕ) (count first : ℕ) → ((m : ℕ) → m < first + count → new m ≡ old m) → map new (range_with_len first count) ≡ map old (range_with_len first count)
map_same new old zero first same = refl
map_same new old (suc count) first same = λ i. same first (omega arith) i ∷ map_same new old count (first + 1) (λ m (lt : m < first + 1 + count). same m (omega (arith, lt))) i

put_again : (b : Bool) (pos : Pos) (one other : Option Value) (entries : Entries) → IsMap pos_cmp entries → cond b (put_at pos_cmp pos other (cond b (put_at pos_cmp pos one entries) entries)) (cond b (put_at pos_cmp pos one entries) entries) ≡ cond b (put_at pos_cmp pos other entries) entries
put_again false pos one other entries rises = refl
put_again true pos one other entries rises =
    same_maps pos_total pos_exact (put_at pos_cmp pos other (put_at pos_cmp pos one entries)) (put_at pos_cmp pos other entries) (IsMap-put_at pos_total pos other (put_at pos_cmp pos one entries) (IsMap-put_at pos_total pos one entries rises)) (IsMap-put_at pos_total pos other entries rises)
    (λ q. value_at-put_at pos_total pos other q (put_at pos_cmp pos one entries) (IsMap-put_at pos_total pos one entries rises) ∙ ap (cond (is_at (pos_cmp pos) q) other) (value_at-put_at pos_total pos one q entries rises)
    ∙ by (is_at (pos_cmp pos) q) (value_at pos_cmp q entries) ∙ sym (value_at-put_at pos_total pos other q entries rises))
  where
    by : (c : Bool) (o : Option Value) → cond c other (cond c one o) ≡ cond c other o
    by true o = refl
    by false o = refl

-- Where a slot gets subvolumes twice, it has the second ones.
pub put_twice : (slot : ℕ) (first second : List Sub) (keys : KeyMap) → IsKeyMap keys → with_update (subs_update slot second) (with_update (subs_update slot first) keys) ≡ with_update (subs_update slot second) keys
put_twice slot first second keys is = same_key_maps (with_update (subs_update slot second) (with_update (subs_update slot first) keys)) (with_update (subs_update slot second) keys)
    (λ btree. entries_of-with_update (subs_update slot second) (with_update (subs_update slot first) keys) btree
    ∙ ap (updated_entries btree (subs_update slot second)) (entries_of-with_update (subs_update slot first) keys btree)
    ∙ put_again (is_update_of btree (subs_update slot second)) (record { inode = 0; offset = slot; snapshot = 0 }) (subs_value first) (subs_value second) (entries_of keys btree) (is.rises btree)
    ∙ sym (entries_of-with_update (subs_update slot second) keys btree))
