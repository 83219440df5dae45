-- The entries of all leaves, in the order of their ends, are the entries.
use Rattle.std.proofs.Common.{◌≡◌, Bool, true, false, cond, not, ◌&&◌, ◌||◌, List, [], ◌∷◌, ◌++◌, refl, sym, ap, ◌∙◌, subst}
use Rattle.std.specs.Prelude.{All}
use Rattle.std.specs.BTreeMap.{is_at}
use Rattle.std.specs.List.{AllByRecursion, filter, flat_map}
use Rattle.std.specs.List.Sorted.{IsStrictlySortedBy}
use Rattle.std.specs.Map.{keys_of}
use Rattle.std.specs.Ordering.{is_le, is_lt}
use Rattle.std.specs.declared.cmp.Ordering.TheVariants.{Less}
use Rattle.std.proofs.lemmas.Bool.{false≢true, or_left, or_right}
use Rattle.std.proofs.lemmas.List.Elements.{All-head, All-weaker}
use Rattle.std.proofs.lemmas.Map.Keys.{sorted_head, sorted_tail}
use Rattle.node_mem.specs.Nodes.{entries_after, entries_up_to}
use Rattle.node_mem.specs.RangeLaws.{All-part, same_part}
use Rattle.tree_keys.specs.CutLaws.{after_test, filter_filter}
use Rattle.tree_keys.specs.Cuts.{Cut, IsCut, end_of, is_end, leaf_entries}
use Rattle.tree_keys.specs.LeafLaws.{end_of-after, end_of-end, leaf_entries-covered}
use Rattle.tree_keys.specs.OrderLaws
use Rattle.tree_keys.specs.PartLaws.{IsMap-part}
use Rattle.vol_types.specs.KeyMaps.{Entries}
use Rattle.vol_types.specs.Maps.{IsMap}
use Rattle.vol_types.specs.PositionLaws.{pos_total}
use Rattle.vol_types.specs.Positions.{pos_cmp}
use Rattle.vol_types.specs.Widths.{PosFits}
use Rattle.vol_types.specs.declared.positions.Pos.{Pos}
use Rattle.vol_types.specs.declared.values.Value.{Value}

-- functions that agree at each position of a list join the same
flat_map-agree : (P : Pos → Type 0) (f g : Pos → Entries) → ((p : Pos) → P p → f p ≡ g p) → (ends : List Pos) → AllByRecursion P ends → flat_map f ends ≡ flat_map g ends
flat_map-agree P f g agree [] all = refl
flat_map-agree P f g agree (e ∷ ends) all = ap (λ es. es ++ flat_map f ends) (agree e all.0) ∙ ap (λ es. g e ++ es) (flat_map-agree P f g agree ends all.1)

none_up_to : (at x : Pos) (entries : Entries) → pos_cmp at x ≡ Less → AllByRecursion (λ y. pos_cmp x y ≡ Less) (keys_of entries) → entries_up_to at entries ≡ []
none_up_to at x [] less above = refl
none_up_to at x (e ∷ entries) less above =
    ap (λ b. cond b (e ∷ entries_up_to at entries) (entries_up_to at entries)) (OrderLaws.not_le_from_before at e.0 (pos_total.trans at x e.0 less above.0)) ∙ none_up_to at x entries less above.1

-- What stands up to a position and what stands after it are all entries.
pub parts_joined : (at : Pos) (entries : Entries) → IsMap pos_cmp entries → entries_up_to at entries ++ entries_after at entries ≡ entries
parts_joined at [] rises = refl
parts_joined at (e ∷ entries) rises =
    ap (λ b. entries_up_to at (e ∷ entries) ++ cond b (e ∷ entries_after at entries) (entries_after at entries)) (sym (after_test e.0 at))
    ∙ by (is_le (pos_cmp e.0 at)) refl (parts_joined at entries (sorted_tail pos_cmp e.0 (keys_of entries) rises))
  where
    by : (b : Bool) → is_le (pos_cmp e.0 at) ≡ b → entries_up_to at entries ++ entries_after at entries ≡ entries
        → cond b (e ∷ entries_up_to at entries) (entries_up_to at entries) ++ cond (not b) (e ∷ entries_after at entries) (entries_after at entries) ≡ e ∷ entries
    by true le later = ap (λ es. e ∷ es) later
    by false le later =
        let none = none_up_to at e.0 entries (OrderLaws.before_from_not_le e.0 at le) (sorted_head pos_cmp e.0 (keys_of entries) rises) in
        ap (λ es. es ++ e ∷ entries_after at entries) none ∙ ap (λ es. e ∷ es) (sym (ap (λ es. es ++ entries_after at entries) none) ∙ later)

module _ (e : Pos) (ends : List Pos) where
  first_test : (p : Pos) → PosFits p → is_at (pos_cmp e) (end_of p (e ∷ ends)) ≡ is_le (pos_cmp p e)
  first_test p fits = by (is_le (pos_cmp p e)) refl
    where
      by : (b : Bool) → is_le (pos_cmp p e) ≡ b → is_at (pos_cmp e) (cond b e (end_of p ends)) ≡ b
      by true le = OrderLaws.at_itself e
      by false le = OrderLaws.not_at_from_before e (end_of p ends) (OrderLaws.before_from_before_le e p (end_of p ends) (OrderLaws.before_from_not_le p e le) (end_of-after p ends (OrderLaws.le_greatest p fits)))

  later_test : (y : Pos) → pos_cmp e y ≡ Less → (p : Pos) → PosFits p → is_at (pos_cmp y) (end_of p (e ∷ ends)) ≡ (is_lt (pos_cmp e p) && is_at (pos_cmp y) (end_of p ends))
  later_test y less p fits = by (is_le (pos_cmp p e)) ∙ ap (λ b. b && is_at (pos_cmp y) (end_of p ends)) (after_test p e)
    where
      by : (b : Bool) → is_at (pos_cmp y) (cond b e (end_of p ends)) ≡ (not b && is_at (pos_cmp y) (end_of p ends))
      by true = OrderLaws.not_at_from_after e y less
      by false = refl

  still_covered : (p : Pos) → PosFits p → is_lt (pos_cmp e p) ≡ true → is_end (end_of p (e ∷ ends)) (e ∷ ends) ≡ true → is_end (end_of p ends) ends ≡ true
  still_covered p fits after has = by (is_le (pos_cmp p e)) refl has
    where
      by : (b : Bool) → is_le (pos_cmp p e) ≡ b → (is_at (pos_cmp (cond b e (end_of p ends))) e || is_end (cond b e (end_of p ends)) ends) ≡ true → is_end (end_of p ends) ends ≡ true
      by true le has = absurd (false≢true (ap not (sym le) ∙ after_test p e ∙ after))
      by false le has =
          let above = OrderLaws.not_at_from_after e (end_of p ends) (OrderLaws.before_from_before_le e p (end_of p ends) (OrderLaws.before_from_not_le p e le) (end_of-after p ends (OrderLaws.le_greatest p fits))) in
          subst (λ t. (t || is_end (end_of p ends) ends) ≡ true) above has

covered_joined : (ends : List Pos) (entries : Entries) → IsStrictlySortedBy pos_cmp ends → IsMap pos_cmp entries → All (λ p. PosFits p × (is_end (end_of p ends) ends ≡ true)) (keys_of entries)
    → flat_map (λ end. filter (λ entry. is_at (pos_cmp end) (end_of entry.0 ends)) entries) ends ≡ entries
covered_joined [] [] rise rises all = refl
covered_joined [] (x ∷ entries) rise rises all = absurd (false≢true ((All-head (λ p. PosFits p × (is_end (end_of p []) [] ≡ true)) x.0 (keys_of entries) all).1))
covered_joined (e ∷ ends) entries rise rises all =
    let fit = All-weaker (λ p. PosFits p × (is_end (end_of p (e ∷ ends)) (e ∷ ends) ≡ true)) PosFits (λ p both. both.0) (keys_of entries) all in
    let left = All-part (λ (x : Pos × Value). x.0) (λ p. PosFits p × (is_end (end_of p (e ∷ ends)) (e ∷ ends) ≡ true)) (λ p. PosFits p × (is_end (end_of p ends) ends ≡ true)) (λ x. is_lt (pos_cmp e x.0))
    (λ x after both. (both.0, still_covered e ends x.0 both.0 after both.1)) entries all in
    ap (λ es. es ++ flat_map (λ end. filter (λ entry. is_at (pos_cmp end) (end_of entry.0 (e ∷ ends))) entries) ends)
    (same_part (λ p. is_at (pos_cmp e) (end_of p (e ∷ ends))) (λ p. is_le (pos_cmp p e)) (first_test e ends) entries fit)
    ∙ ap (λ es. entries_up_to e entries ++ es)
    (flat_map-agree (λ y. pos_cmp e y ≡ Less) (λ end. filter (λ entry. is_at (pos_cmp end) (end_of entry.0 (e ∷ ends))) entries) (λ end. filter (λ entry. is_at (pos_cmp end) (end_of entry.0 ends)) (entries_after e entries))
    (λ y less.
    same_part (λ p. is_at (pos_cmp y) (end_of p (e ∷ ends))) (λ p. is_lt (pos_cmp e p) && is_at (pos_cmp y) (end_of p ends)) (later_test e ends y less) entries fit
    ∙ sym (filter_filter (λ p. is_lt (pos_cmp e p)) (λ p. is_at (pos_cmp y) (end_of p ends)) entries))
    ends (sorted_head pos_cmp e ends rise)
    ∙ covered_joined ends (entries_after e entries) (sorted_tail pos_cmp e ends rise) (IsMap-part (λ p. is_lt (pos_cmp e p)) entries rises) left)
    ∙ parts_joined e entries rises

weaker : (P Q : Pos → Type 0) → ((p : Pos) → P p → Q p) → (ends : List Pos) → AllByRecursion P ends → AllByRecursion Q ends
weaker P Q so [] all = tt
weaker P Q so (e ∷ ends) all = (so e all.0, weaker P Q so ends all.1)

all_ends : (ends : List Pos) → AllByRecursion (λ y. is_end y ends ≡ true) ends
all_ends [] = tt
all_ends (e ∷ ends) = (
  or_left (is_at (pos_cmp e) e) (is_end e ends) (OrderLaws.at_itself e),
  weaker (λ y. is_end y ends ≡ true) (λ y. is_end y (e ∷ ends) ≡ true) (λ y has. or_right (is_at (pos_cmp y) e) (is_end y ends) has) ends (all_ends ends),
)

-- The entries of all leaves, joined in the order of their ends, are the entries.
pub leaves_joined : (cut : Cut) → IsCut cut → flat_map (λ end. leaf_entries end cut) cut.ends ≡ cut.entries
leaves_joined cut is =
    flat_map-agree (λ end. is_end end cut.ends ≡ true) (λ end. leaf_entries end cut) (λ end. filter (λ entry. is_at (pos_cmp end) (end_of entry.0 cut.ends)) cut.entries)
    (λ end has. leaf_entries-covered end cut is has) cut.ends (all_ends cut.ends)
    ∙ covered_joined cut.ends cut.entries is.ends.rise is.rises
    (All-weaker PosFits (λ p. PosFits p × (is_end (end_of p cut.ends) cut.ends ≡ true)) (λ p fits. (fits, end_of-end p cut.ends (OrderLaws.le_greatest p fits) is.ends.whole)) (keys_of cut.entries) is.fit)
