-- What the nodes of a level hold after a change of the level below.
use Rattle.std.proofs.Common.{◌≡◌, ℕ, ◌+◌, ◌-◌, ◌<◌, Bool, true, false, cond, Some, List, [], ◌∷◌, ◌++◌, length, map, refl, sym, ap, ◌∙◌, arith}
use Rattle.std.specs.Prelude.{slice_set}
use Rattle.std.specs.List.{filter}
use Rattle.vol_types.specs.KeyMaps.{Entries}
use Rattle.vol_types.specs.MapLaws.{IsMap-with_value}
use Rattle.vol_types.specs.Maps.{IsMap, put_at, with_value}
use Rattle.vol_types.specs.PositionLaws.{pos_total}
use Rattle.vol_types.specs.Positions.{pos_cmp, is_within}
use Rattle.vol_types.specs.declared.keys.Update.{Update}
use Rattle.vol_types.specs.declared.pointers.NodePtr.{NodePtr}
use Rattle.vol_types.specs.declared.positions.Btree.{Btree}
use Rattle.vol_types.specs.declared.positions.Pos.{Pos}
use Rattle.vol_types.specs.declared.values.Value.TheVariants as values
use Rattle.tree_nodes.specs.Levels.{Level, Levels, IsTree, children_of, divided, halved, least_of, level_of, with_node}
use Rattle.tree_nodes.specs.RangeLaws.{kept-put}
use Rattle.tree_nodes.specs.TreeLaws.{set-here, set-other}
use Rattle.interior.specs.Contents.{Turn, content_of, entries_after, entry_of, node_update, updates_within}
use Rattle.interior.proofs.Putting.{entries-put}

-- updates of which the first may be left out
after_first : (b : Bool) (update : Update) (updates : List Update) (entries : Entries) → entries_after (cond b (update ∷ updates) updates) entries ≡ entries_after updates (cond b (put_at pos_cmp update.pos update.value entries) entries)
after_first true update updates entries = refl
after_first false update updates entries = refl

-- what the nodes of a range hold after one was put: it, where it lies in the range
held-put : (least at q : Pos) (node : NodePtr) (nodes : Level) → IsMap pos_cmp nodes
    → map entry_of (filter (λ e. is_within least at e.0) (with_value pos_cmp q node nodes)) ≡ cond (is_within least at q) (put_at pos_cmp q (Some (values.Node node)) (map entry_of (filter (λ e. is_within least at e.0) nodes))) (map entry_of (filter (λ e. is_within least at e.0) nodes))
held-put least at q node nodes rises = ap (map entry_of) (kept-put (is_within least at) q node nodes rises) ∙ by (is_within least at q) (filter (λ e. is_within least at e.0) nodes)
  where
    by : (b : Bool) (kept : Level) → map entry_of (cond b (with_value pos_cmp q node kept) kept) ≡ cond b (put_at pos_cmp q (Some (values.Node node)) (map entry_of kept)) (map entry_of kept)
    by true kept = entries-put q node kept
    by false kept = refl

module _ (levels : Levels) (level : ℕ) (tree : IsTree levels) (there : level < length levels) (at : Pos) where
  -- what a node of the level above held
  held : content_of levels (level + 1) at ≡ map entry_of (children_of at (level_of levels (level + 1)) (level_of levels level))
  held = let down : level + 1 - 1 ≡ level = omega arith in ap (λ n. map entry_of (children_of at (level_of levels (level + 1)) (level_of levels n))) down

  -- and what it holds where the level has other nodes
  holds : (nodes : Level) → content_of (slice_set levels level nodes) (level + 1) at ≡ map entry_of (children_of at (level_of levels (level + 1)) nodes)
  holds nodes =
      let down : level + 1 - 1 ≡ level = omega arith in
      ap (λ xs. map entry_of (children_of at xs (level_of (slice_set levels level nodes) (level + 1 - 1)))) (set-other levels level nodes there (level + 1) (λ is. omega (arith, is)))
      ∙ ap (λ xs. map entry_of (children_of at (level_of levels (level + 1)) xs)) (set-here levels level nodes there (level + 1 - 1) down)

module _ (btree : Btree) (levels : Levels) (level : ℕ) (tree : IsTree levels) (there : level < length levels) where
  rises : IsMap pos_cmp (level_of levels level)
  rises = (tree.each level there).row.rises

  -- a pointer in the place of one is the update of the node above
  pub turn_rewrite : (greatest : Pos) (fresh : NodePtr) (updates : List Update) → updates ≡ node_update btree (level + 1) greatest fresh ∷ [] → Turn (level + 1) updates levels (with_node level greatest fresh levels)
  turn_rewrite greatest fresh updates are at ends =
      holds levels level tree there at (with_value pos_cmp greatest fresh (level_of levels level))
      ∙ held-put (least_of at (level_of levels (level + 1))) at greatest fresh (level_of levels level) rises
      ∙ ap (λ es. cond (is_within (least_of at (level_of levels (level + 1))) at greatest) (put_at pos_cmp greatest (Some (values.Node fresh)) es) es) (sym (held levels level tree there at))
      ∙ sym (after_first (is_within (least_of at (level_of levels (level + 1))) at greatest) (node_update btree (level + 1) greatest fresh) [] (content_of levels (level + 1) at))
      ∙ ap (λ us. entries_after (updates_within at (level_of levels (level + 1)) us) (content_of levels (level + 1) at)) (sym are)

  -- two nodes in the place of one are two updates of the node above
  pub turn_split : (greatest at : Pos) (first second : NodePtr) (updates : List Update) → updates ≡ node_update btree (level + 1) at first ∷ node_update btree (level + 1) greatest second ∷ []
      → Turn (level + 1) updates levels (divided level greatest at first second levels)
  turn_split greatest at first second updates are p ends =
      holds levels level tree there p (halved greatest at first second (level_of levels level))
      ∙ held-put (least_of p (level_of levels (level + 1))) p greatest second (with_value pos_cmp at first (level_of levels level)) (IsMap-with_value pos_total at first (level_of levels level) rises)
      ∙ ap (λ es. cond (is_within (least_of p (level_of levels (level + 1))) p greatest) (put_at pos_cmp greatest (Some (values.Node second)) es) es)
      (held-put (least_of p (level_of levels (level + 1))) p at first (level_of levels level) rises
      ∙ ap (λ es. cond (is_within (least_of p (level_of levels (level + 1))) p at) (put_at pos_cmp at (Some (values.Node first)) es) es) (sym (held levels level tree there p)))
      ∙ sym (after_first (is_within (least_of p (level_of levels (level + 1))) p greatest) (node_update btree (level + 1) greatest second) []
      (cond (is_within (least_of p (level_of levels (level + 1))) p at) (put_at pos_cmp at (Some (values.Node first)) (content_of levels (level + 1) p)) (content_of levels (level + 1) p)))
      ∙ sym (after_first (is_within (least_of p (level_of levels (level + 1))) p at) (node_update btree (level + 1) at first) (updates_within p (level_of levels (level + 1)) (node_update btree (level + 1) greatest second ∷ [])) (content_of levels (level + 1) p))
      ∙ ap (λ us. entries_after (updates_within p (level_of levels (level + 1)) us) (content_of levels (level + 1) p)) (sym are)

-- lists that were pushed to
pub one_pushed : (zero one : List Update) (f u : Update) → zero ≡ [] → one ≡ zero ++ f ∷ [] → f ≡ u → one ≡ u ∷ []
one_pushed zero one f u none is same = is ∙ ap (λ us. us ++ f ∷ []) none ∙ ap (λ x. x ∷ []) same

pub two_pushed : (zero one two : List Update) (f g u v : Update) → zero ≡ [] → one ≡ zero ++ f ∷ [] → two ≡ one ++ g ∷ [] → f ≡ u → g ≡ v → two ≡ u ∷ v ∷ []
two_pushed zero one two f g u v none is then same other = then ∙ ap (λ us. us ++ g ∷ []) (one_pushed zero one f u none is same) ∙ ap (λ x. u ∷ x ∷ []) other
