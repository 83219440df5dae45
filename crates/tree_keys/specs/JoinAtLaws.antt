-- Joining a leaf with the next one undoes a cut, and what the leaves have then.
use Rattle.std.proofs.Common.{◌≡◌, Bool, true, false, cond, ◌||◌, List, [], ◌∷◌, ◌++◌, refl, sym, ap, ◌∙◌, subst}
use Rattle.std.specs.BTreeMap.{is_at}
use Rattle.std.specs.BTreeSet.{insert_key}
use Rattle.std.specs.List.{AllByRecursion}
use Rattle.std.specs.List.Sorted.{IsStrictlySortedBy}
use Rattle.std.specs.Ordering.{is_eq, match_ordering}
use Rattle.std.specs.Set.{remove_key}
use Rattle.std.specs.declared.cmp.Ordering.{Ordering}
use Rattle.std.specs.declared.cmp.Ordering.TheVariants.{Less, Equal, Greater}
use Rattle.std.proofs.lemmas.Bool.{false≢true}
use Rattle.std.proofs.lemmas.List.Elements.{recursion_from_All}
use Rattle.std.proofs.lemmas.Map.Keys.{sorted_head, sorted_tail}
use Rattle.std.proofs.lemmas.Map.Views.{All-remove_key}
use Rattle.node_mem.specs.Nodes.{entries_after, entries_up_to}
use Rattle.tree_keys.specs.CutLaws.{leaf_entries-first, leaf_entries-other, leaf_entries-second}
use Rattle.tree_keys.specs.Cuts.{Cut, IsCut, cut_at, end_of, is_end, joined_at, leaf_entries, start_of}
use Rattle.tree_keys.specs.JoinLaws.{parts_joined}
use Rattle.tree_keys.specs.LeafLaws.{at_end}
use Rattle.tree_keys.specs.OrderLaws
use Rattle.tree_keys.specs.PartLaws.{IsMap-part}
use Rattle.vol_types.specs.KeyMaps.{Entries}
use Rattle.vol_types.specs.PositionLaws.{pos_exact, pos_total}
use Rattle.vol_types.specs.Positions.{IsBefore, greatest_pos, is_within, pos_cmp}
use Rattle.vol_types.specs.Widths.{PosFits}
use Rattle.vol_types.specs.declared.positions.Pos.{Pos}

module _ (at : Pos) where
  -- the ends without the position
  abbrev left : List Pos → List Pos
  left ends = remove_key (is_at (pos_cmp at)) ends

  all-left : (P : Pos → Type 0) (ends : List Pos) → AllByRecursion P ends → AllByRecursion P (left ends)
  all-left P [] all = all
  all-left P (e ∷ ends) all = by (is_at (pos_cmp at) e) (all-left P ends all.1)
    where
      by : (b : Bool) → AllByRecursion P (left ends) → AllByRecursion P (cond b ends (e ∷ left ends))
      by true later = all.1
      by false later = (all.0, later)

  sorted-left : (ends : List Pos) → IsStrictlySortedBy pos_cmp ends → IsStrictlySortedBy pos_cmp (left ends)
  unfolding IsStrictlySortedBy
  sorted-left [] rise = rise
  sorted-left (e ∷ ends) rise = by (is_at (pos_cmp at) e) (sorted-left ends rise.1)
    where
      by : (b : Bool) → IsStrictlySortedBy pos_cmp (left ends) → IsStrictlySortedBy pos_cmp (cond b ends (e ∷ left ends))
      by true later = rise.1
      by false later = (all-left (λ y. pos_cmp e y ≡ Less) ends rise.0, later)

  none_below : (ends : List Pos) → AllByRecursion (λ y. pos_cmp at y ≡ Less) ends → is_end at ends ≡ false
  none_below [] above = refl
  none_below (e ∷ ends) above = ap (λ b. b || is_end at ends) (OrderLaws.not_at_from_before at e above.0) ∙ none_below ends above.1

  -- Once a leaf was joined with the next, none ends where it did.
  pub is_end-gone : (ends : List Pos) → IsStrictlySortedBy pos_cmp ends → is_end at (left ends) ≡ false
  is_end-gone [] rise = refl
  is_end-gone (e ∷ ends) rise = by (is_at (pos_cmp at) e) refl (is_end-gone ends (sorted_tail pos_cmp e ends rise))
    where
      by : (b : Bool) → is_at (pos_cmp at) e ≡ b → is_end at (left ends) ≡ false → is_end at (cond b ends (e ∷ left ends)) ≡ false
      by true is later = none_below ends (subst (λ p. AllByRecursion (λ y. pos_cmp p y ≡ Less) ends) (sym (OrderLaws.same_from_at at e is)) (sorted_head pos_cmp e ends rise))
      by false is later = ap (λ b. b || is_end at (left ends)) is ∙ later

  -- And each other leaf ends where it did.
  pub is_end-stays : (p : Pos) → is_at (pos_cmp p) at ≡ false → (ends : List Pos) → is_end p (left ends) ≡ is_end p ends
  is_end-stays p other [] = refl
  is_end-stays p other (e ∷ ends) = by (is_at (pos_cmp at) e) refl (is_end-stays p other ends)
    where
      by : (b : Bool) → is_at (pos_cmp at) e ≡ b → is_end p (left ends) ≡ is_end p ends → is_end p (cond b ends (e ∷ left ends)) ≡ (is_at (pos_cmp p) e || is_end p ends)
      by true is later = ap (λ b. b || is_end p ends) (sym other ∙ ap (is_at (pos_cmp p)) (OrderLaws.same_from_at at e is))
      by false is later = ap (λ b. is_at (pos_cmp p) e || b) later

  undone : (ends : List Pos) → is_end at ends ≡ false → left (insert_key pos_cmp ends at) ≡ ends
  undone [] isnt = ap (λ b. cond b [] (at ∷ [])) (OrderLaws.at_itself at)
  undone (e ∷ ends) isnt = by (pos_cmp at e) refl isnt (undone ends)
    where
      by : (r : Ordering) → pos_cmp at e ≡ r → (is_eq (pos_cmp at e) || is_end at ends) ≡ false → (is_end at ends ≡ false → left (insert_key pos_cmp ends at) ≡ ends)
          → left (match_ordering r (at ∷ e ∷ ends) (e ∷ ends) (e ∷ insert_key pos_cmp ends at)) ≡ e ∷ ends
      by Less is isnt later = ap (λ b. cond b (e ∷ ends) (at ∷ left (e ∷ ends))) (OrderLaws.at_itself at)
      by Equal is isnt later = absurd (false≢true (sym isnt ∙ ap (λ o. is_eq o || is_end at ends) is))
      by Greater is isnt later =
          ap (λ o. cond (is_eq o) (insert_key pos_cmp ends at) (e ∷ left (insert_key pos_cmp ends at))) is ∙ ap (λ es. e ∷ es) (later (subst (λ o. (is_eq o || is_end at ends) ≡ false) is isnt))

  at_front : (ends : List Pos) → AllByRecursion (λ y. pos_cmp at y ≡ Less) ends → insert_key pos_cmp ends at ≡ at ∷ ends
  at_front [] above = refl
  at_front (e ∷ ends) above = ap (λ r. match_ordering r (at ∷ e ∷ ends) (e ∷ ends) (e ∷ insert_key pos_cmp ends at)) above.0

  above_lower : (e : Pos) (ends : List Pos) → pos_cmp at e ≡ Less → AllByRecursion (λ y. pos_cmp e y ≡ Less) ends → AllByRecursion (λ y. pos_cmp at y ≡ Less) ends
  above_lower e [] less all = tt
  above_lower e (y ∷ ends) less all = (pos_total.trans at e y less all.0, above_lower e ends less all.1)

  again : (ends : List Pos) → IsStrictlySortedBy pos_cmp ends → is_end at ends ≡ true → insert_key pos_cmp (left ends) at ≡ ends
  again [] rise has = absurd (false≢true has)
  again (e ∷ ends) rise has = by (pos_cmp at e) refl has (again ends (sorted_tail pos_cmp e ends rise))
    where
      above : AllByRecursion (λ y. pos_cmp e y ≡ Less) ends
      above = sorted_head pos_cmp e ends rise

      by : (r : Ordering) → pos_cmp at e ≡ r → (is_eq (pos_cmp at e) || is_end at ends) ≡ true → (is_end at ends ≡ true → insert_key pos_cmp (left ends) at ≡ ends)
          → insert_key pos_cmp (cond (is_eq (pos_cmp at e)) ends (e ∷ left ends)) at ≡ e ∷ ends
      by Less is has later = absurd (false≢true (sym (none_below ends (above_lower e ends is above)) ∙ subst (λ o. (is_eq o || is_end at ends) ≡ true) is has))
      by Equal is has later =
          let same = pos_exact at e is in
          ap (λ o. insert_key pos_cmp (cond (is_eq o) ends (e ∷ left ends)) at) is
          ∙ at_front ends (subst (λ p. AllByRecursion (λ y. pos_cmp p y ≡ Less) ends) (sym same) above) ∙ ap (λ (p : Pos). p ∷ ends) same
      by Greater is has later =
          ap (λ o. insert_key pos_cmp (cond (is_eq o) ends (e ∷ left ends)) at) is
          ∙ ap (λ r. match_ordering r (at ∷ e ∷ left ends) (e ∷ left ends) (e ∷ insert_key pos_cmp (left ends) at)) is
          ∙ ap (λ (es : List Pos). e ∷ es) (later (subst (λ o. (is_eq o || is_end at ends) ≡ true) is has))

-- Joining undoes a cut.
pub joined-cut : (cut : Cut) (at : Pos) → is_end at cut.ends ≡ false → joined_at at (cut_at at cut) ≡ cut
joined-cut cut at isnt = λ i. record { entries = cut.entries; ends = undone at cut.ends isnt i }

-- And a cut undoes joining.
pub cut-joined : (cut : Cut) (at : Pos) → IsCut cut → is_end at cut.ends ≡ true → cut_at at (joined_at at cut) ≡ cut
cut-joined cut at is has = λ i. record { entries = cut.entries; ends = again at cut.ends is.ends.rise has i }

module _ (cut : Cut) (is : IsCut cut) (at : Pos) (has : is_end at cut.ends ≡ true) (inner : IsBefore at greatest_pos) where
  fits : PosFits at
  fits = at_end PosFits at cut.ends (recursion_from_All PosFits cut.ends is.ends.fit) has

  -- Keys of which a leaf was joined with the next one are cut into leaves.
  pub IsCut-joined : IsCut (joined_at at cut)
  IsCut-joined = record {
    rises = is.rises;
    fit = is.fit;
    in_range = is.in_range;
    ends = record {
      rise = sorted-left at cut.ends is.ends.rise;
      fit = All-remove_key (is_at (pos_cmp at)) PosFits cut.ends is.ends.fit;
      whole = is_end-stays at greatest_pos (OrderLaws.not_at_from_after at greatest_pos inner) cut.ends ∙ is.ends.whole;
    };
  }

  isnt : is_end at (joined_at at cut).ends ≡ false
  isnt = is_end-gone at cut.ends is.ends.rise

  -- the end of the leaf that is made of two
  abbrev next : Pos
  next = end_of at (joined_at at cut).ends

  -- The leaf that is made of two has what both had, in their order.
  pub leaf_entries-joined : leaf_entries (end_of at (joined_at at cut).ends) (joined_at at cut) ≡ leaf_entries at cut ++ leaf_entries (end_of at (joined_at at cut).ends) cut
  leaf_entries-joined =
      let whole = leaf_entries next (joined_at at cut) in
      let first : entries_up_to at whole ≡ leaf_entries at cut =
      sym (leaf_entries-first (joined_at at cut) IsCut-joined at fits isnt) ∙ ap (leaf_entries at) (cut-joined cut at is has) in
      let second : entries_after at whole ≡ leaf_entries next cut =
      sym (leaf_entries-second (joined_at at cut) IsCut-joined at fits isnt) ∙ ap (leaf_entries next) (cut-joined cut at is has) in
      sym (parts_joined at whole (IsMap-part (is_within (start_of next (joined_at at cut).ends) next) cut.entries is.rises))
      ∙ ap (λ (es : Entries). es ++ entries_after at whole) first ∙ ap (λ (es : Entries). leaf_entries at cut ++ es) second

  -- And each other leaf has what it had.
  pub leaf_entries-apart : (e : Pos) → is_end e (joined_at at cut).ends ≡ true → is_at (pos_cmp e) (end_of at (joined_at at cut).ends) ≡ false → leaf_entries e (joined_at at cut) ≡ leaf_entries e cut
  leaf_entries-apart e there other = sym (leaf_entries-other (joined_at at cut) IsCut-joined at fits isnt e there other) ∙ ap (leaf_entries e) (cut-joined cut at is has)
