-- What updates come to, noted one after another.
use Rattle.std.proofs.Common.{◌≡◌, ℕ, ◌+◌, ◌<◌, Bool, true, false, cond, ◌&&◌, Option, Some, None, List, [], ◌∷◌, ◌++◌, length, map, take, refl, sym, ap, ◌∙◌, subst}
use Rattle.std.specs.Prelude.{◌==◌, slice_index_or, slice_set, unwrap_or}
use Rattle.std.specs.BTreeMap.{is_at}
use Rattle.std.proofs.lemmas.Bool.{true≢false, eqb-true, eq-eqb}
use Rattle.std.proofs.lemmas.List.Elements.{All-nil}
use Rattle.std.specs.List.Sorted.{IsStrictlySortedBy}
use Rattle.std.proofs.lemmas.List.{get_or-set_same, get_or-set_other, length-map, length-set, take_more}
use Rattle.std.proofs.Math.ListN.{get_or-map}
use Rattle.btree_map.specs.Applied.{ArePlanned, Last, last_in, noted, value_noted, value_under, values_before}
use Rattle.btree_map.specs.FreshLaws.{code-lt}
use Rattle.btree_map.specs.Trees.{no_cut}
use Rattle.tree_keys.specs.Changes.{AreLast}
use Rattle.tree_keys.specs.Cuts.{Cut}
use Rattle.tree_keys.specs.PlanLaws.{last_more}
use Rattle.vol_types.specs.Btrees.{btree_code}
use Rattle.vol_types.specs.KeyMaps.{IsKeyMap, KeyMap, value_in, with_update, with_updates}
use Rattle.vol_types.specs.KeyMapLaws.{IsKeyMap-with_updates, value_in-with_update, with_updates-append}
use Rattle.vol_types.specs.MapLaws.{value_at-with_value}
use Rattle.vol_types.specs.Maps.{value_at, with_value}
use Rattle.vol_types.specs.PositionLaws.{pos_total}
use Rattle.vol_types.specs.Positions.{pos_cmp}
use Rattle.vol_types.specs.Ranges.{IsKeyValue}
use Rattle.vol_types.specs.declared.keys.Update.{Update}
use Rattle.vol_types.specs.declared.positions.Btree.{Btree}
use Rattle.vol_types.specs.declared.positions.Pos.{Pos}
use Rattle.vol_types.specs.declared.values.Value.{Value}

-- the elements up to one that was read
pub take_read : {X : Type 0} (xs : List X) (i : ℕ) (x : X) → i < length xs → x ≡ slice_index_or xs i x → take (i + 1) xs ≡ take i xs ++ x ∷ []
take_read xs i x lt is = take_more xs i x lt ∙ ap (λ y. take i xs ++ y ∷ []) (sym is)

last_none : AreLast []
unfolding IsStrictlySortedBy
last_none = record { rises = tt; in_range = All-nil IsKeyValue }

-- before any update nothing is noted
pub planned_none : (keys : KeyMap) (cuts : List Cut) (last : List Last) (before : List (Option Value)) → length cuts ≡ 9 → last ≡ map (λ _. []) cuts → before ≡ [] → ArePlanned keys [] last before
planned_none keys cuts last before nine none empty = record {
  count = ap length none ∙ length-map cuts (λ _. []) ∙ nine;
  each = λ btree. subst AreLast (sym (no_last btree)) last_none;
  known = λ btree pos. ap (λ (l : Last). unwrap_or (value_at pos_cmp pos l) (value_in keys btree pos)) (no_last btree);
  earlier = empty;
}
  where
    no_last : (btree : Btree) → last_in last btree ≡ []
    no_last btree = ap (λ (ls : List Last). last_in ls btree) none ∙ get_or-map (λ (_ : Cut). []) cuts (btree_code btree) no_cut

-- the values before updates and one more
before-append : (done : List Update) (update : Update) (keys : KeyMap) → values_before (done ++ update ∷ []) keys ≡ values_before done keys ++ value_under update (with_updates done keys) ∷ []
before-append [] update keys = refl
before-append (first ∷ done) update keys = ap (λ vs. value_under first keys ∷ vs) (before-append done update (with_update first keys))

module _ (keys : KeyMap) (done : List Update) (last : List Last) (before : List (Option Value)) (update : Update) (rise : IsKeyMap keys) (range : IsKeyValue update.value) (planned : ArePlanned keys done last before) where
  abbrev now : KeyMap
  now = with_updates done keys

  -- the last values with that of the update
  abbrev set : List Last
  set = slice_set last (btree_code update.btree) (with_value pos_cmp update.pos update.value (last_in last update.btree))

  -- what is known of a btree once an update of level 0 is noted
  known_set : (btree : Btree) (pos : Pos) → unwrap_or (value_at pos_cmp pos (last_in set btree)) (value_in keys btree pos) ≡ cond (btree_code update.btree == btree_code btree && is_at (pos_cmp update.pos) pos) update.value (value_in now btree pos)
  known_set btree pos = by (btree_code update.btree == btree_code btree) refl
    where
      there : btree_code update.btree < length last
      there = subst (λ n. btree_code update.btree < n) (sym planned.count) (code-lt update.btree)

      at : (a : Bool) → last_in last update.btree ≡ last_in last btree
          → unwrap_or (cond a (Some update.value) (value_at pos_cmp pos (last_in last update.btree))) (value_in keys btree pos) ≡ cond a update.value (value_in now btree pos)
      at true same = refl
      at false same = ap (λ (l : Last). unwrap_or (value_at pos_cmp pos l) (value_in keys btree pos)) same ∙ planned.known btree pos

      by : (b : Bool) → (btree_code update.btree == btree_code btree) ≡ b
          → unwrap_or (value_at pos_cmp pos (last_in set btree)) (value_in keys btree pos) ≡ cond (b && is_at (pos_cmp update.pos) pos) update.value (value_in now btree pos)
      by true is =
          let same = eqb-true (btree_code update.btree) (btree_code btree) is in
          let here : last_in set btree ≡ with_value pos_cmp update.pos update.value (last_in last update.btree) =
          ap (λ n. slice_index_or set n []) (sym same) ∙ get_or-set_same last (btree_code update.btree) (with_value pos_cmp update.pos update.value (last_in last update.btree)) [] there in
          ap (λ (l : Last). unwrap_or (value_at pos_cmp pos l) (value_in keys btree pos)) here
          ∙ ap (λ o. unwrap_or o (value_in keys btree pos)) (value_at-with_value pos_total update.pos update.value pos (last_in last update.btree))
          ∙ at (is_at (pos_cmp update.pos) pos) (ap (λ n. slice_index_or last n []) same)
      by false is =
          ap (λ (l : Last). unwrap_or (value_at pos_cmp pos l) (value_in keys btree pos)) (get_or-set_other last (btree_code update.btree) (btree_code btree) (with_value pos_cmp update.pos update.value (last_in last update.btree)) [] (λ same. true≢false (sym (eq-eqb (btree_code update.btree) (btree_code btree) (sym same)) ∙ is)))
          ∙ planned.known btree pos

  last_set : (btree : Btree) → AreLast (last_in set btree)
  last_set btree = by (btree_code update.btree == btree_code btree) refl
    where
      there : btree_code update.btree < length last
      there = subst (λ n. btree_code update.btree < n) (sym planned.count) (code-lt update.btree)

      by : (b : Bool) → (btree_code update.btree == btree_code btree) ≡ b → AreLast (last_in set btree)
      by true is =
          let same = eqb-true (btree_code update.btree) (btree_code btree) is in
          let here : last_in set btree ≡ with_value pos_cmp update.pos update.value (last_in last update.btree) =
          ap (λ n. slice_index_or set n []) (sym same) ∙ get_or-set_same last (btree_code update.btree) (with_value pos_cmp update.pos update.value (last_in last update.btree)) [] there in
          subst AreLast (sym here) (last_more (last_in last update.btree) update.pos update.value (planned.each update.btree) range)
      by false is =
          subst AreLast (sym (get_or-set_other last (btree_code update.btree) (btree_code btree) (with_value pos_cmp update.pos update.value (last_in last update.btree)) [] (λ same. true≢false (sym (eq-eqb (btree_code update.btree) (btree_code btree) (sym same)) ∙ is))))
          (planned.each btree)

  each_noted : (b : Bool) (btree : Btree) → AreLast (last_in (cond b set last) btree)
  each_noted true btree = last_set btree
  each_noted false btree = planned.each btree

  known_noted : (b : Bool) (btree : Btree) (pos : Pos) → unwrap_or (value_at pos_cmp pos (last_in (cond b set last) btree)) (value_in keys btree pos) ≡ cond ((b && btree_code update.btree == btree_code btree) && is_at (pos_cmp update.pos) pos) update.value (value_in now btree pos)
  known_noted true btree pos = known_set btree pos
  known_noted false btree pos = planned.known btree pos

  count_noted : (b : Bool) → length (cond b set last) ≡ 9
  count_noted true = length-set last (btree_code update.btree) (with_value pos_cmp update.pos update.value (last_in last update.btree)) ∙ planned.count
  count_noted false = planned.count

  under_noted : (b : Bool) → cond b (unwrap_or (value_at pos_cmp update.pos (last_in last update.btree)) (value_in keys update.btree update.pos)) None ≡ cond b (value_in now update.btree update.pos) None
  under_noted true = planned.known update.btree update.pos
  under_noted false = refl

  -- one update more
  pub planned_more : (new : List Last) (was : Option Value) (later : List (Option Value)) → new ≡ noted update last → was ≡ value_noted update last keys → later ≡ before ++ was ∷ []
      → ArePlanned keys (done ++ update ∷ []) new later
  planned_more new was later note is push = record {
    count = ap length note ∙ count_noted (update.level == 0);
    each = λ btree. subst (λ (ls : List Last). AreLast (last_in ls btree)) (sym note) (each_noted (update.level == 0) btree);
    known = λ btree pos.
        ap (λ (ls : List Last). unwrap_or (value_at pos_cmp pos (last_in ls btree)) (value_in keys btree pos)) note
        ∙ known_noted (update.level == 0) btree pos
        ∙ sym (value_in-with_update update now btree pos (IsKeyMap-with_updates done keys rise))
        ∙ ap (λ (k : KeyMap). value_in k btree pos) (sym (with_updates-append done (update ∷ []) keys));
    earlier =
        push ∙ ap (λ vs. vs ++ was ∷ []) planned.earlier ∙ ap (λ v. values_before done keys ++ v ∷ []) (is ∙ under_noted (update.level == 0))
        ∙ sym (before-append done update keys);
  }
