-- Where the nodes of a level end where others did, each begins where the other one began; so a node that stays over the same nodes is kept.
use Rattle.std.proofs.Common.{◌≡◌, ℕ, suc, ◌-◌, Bool, true, false, cond, [], ◌∷◌, length, map, Option, None, Some, refl, sym, ap, subst, ◌∙◌}
use Rattle.std.specs.Prelude.{◌↔◌, is_some, option_map, slice_get}
use Rattle.std.specs.BTreeMap.{is_at}
use Rattle.std.specs.List.Sorted.{IsStrictlySortedBy}
use Rattle.std.specs.Map.{keys_of}
use Rattle.std.specs.Ordering.{is_lt}
use Rattle.std.proofs.lemmas.Bool.{true≢false}
use Rattle.std.proofs.lemmas.List.{length-map}
use Rattle.std.proofs.lemmas.Map.Made.{lookup-map_values}
use Rattle.std.proofs.lemmas.Option.{slice_get-map}
use Rattle.tree_nodes.specs.Levels.{EndsAt, Level, Levels, follower_of, last_of, least_of, level_of, nodes_before}
use Rattle.vol_types.specs.MapLaws.{same_maps}
use Rattle.vol_types.specs.Maps.{IsMap, value_at}
use Rattle.vol_types.specs.PositionLaws.{pos_exact, pos_total}
use Rattle.vol_types.specs.Positions.{IsWithin, pos_cmp}
use Rattle.vol_types.specs.Widths.{PosFits}
use Rattle.vol_types.specs.declared.pointers.NodePtr.{NodePtr}
use Rattle.vol_types.specs.declared.positions.Pos.{Pos}
use Rattle.btree_laws.specs.Exchanges.{IsKept}
use Rattle.btree_laws.specs.Standing.{IsNodeIn}

-- a node of which only its end is known
abbrev bare : NodePtr
bare = record { birth = 0; level = 0; places = [] }

abbrev ends_only : Pos × NodePtr → Pos × NodePtr
ends_only e = (e.0, bare)

-- the ends of a level's nodes
abbrev ends_of : Level → Level
ends_of nodes = map (λ e. (e.0, bare)) nodes

same_keys : (nodes : Level) → keys_of (ends_of nodes) ≡ keys_of nodes
same_keys [] = refl
same_keys (e ∷ es) = ap (λ ks. e.0 ∷ ks) (same_keys es)

ends_before : (at : Pos) (nodes : Level) → nodes_before at (ends_of nodes) ≡ ends_of (nodes_before at nodes)
ends_before at [] = refl
ends_before at (e ∷ es) = by (is_lt (pos_cmp e.0 at)) (ends_before at es)
  where
    by : (b : Bool) → nodes_before at (ends_of es) ≡ ends_of (nodes_before at es) → cond b ((e.0, bare) ∷ nodes_before at (ends_of es)) (nodes_before at (ends_of es)) ≡ ends_of (cond b (e ∷ nodes_before at es) (nodes_before at es))
    by true later = ap (λ (rest : Level). (e.0, bare) ∷ rest) later
    by false later = later

last_end : (nodes : Level) → last_of (ends_of nodes) ≡ option_map ends_only (last_of nodes)
last_end nodes = ap (λ n. slice_get (ends_of nodes) (n - 1)) (length-map nodes ends_only) ∙ slice_get-map ends_only nodes (length nodes - 1)

follower_end : (o : Option (Pos × NodePtr)) → follower_of (option_map ends_only o) ≡ follower_of o
follower_end None = refl
follower_end (Some e) = refl

-- Where a node begins hangs on the ends alone.
least_by_ends : (at : Pos) (nodes : Level) → least_of at (ends_of nodes) ≡ least_of at nodes
least_by_ends at nodes = ap (λ (ns : Level). follower_of (last_of ns)) (ends_before at nodes) ∙ ap follower_of (last_end (nodes_before at nodes)) ∙ follower_end (last_of (nodes_before at nodes))

-- Levels with the same ends.
abbrev HaveSameEnds : Level → Level → Type 0
HaveSameEnds old new = (at : Pos) → EndsAt new at ↔ EndsAt old at

same_ends : (old new : Level) → IsMap pos_cmp old → IsMap pos_cmp new → HaveSameEnds old new → ends_of new ≡ ends_of old
same_ends old new rises fresh same =
    same_maps pos_total pos_exact (ends_of new) (ends_of old) (subst (IsStrictlySortedBy pos_cmp) (sym (same_keys new)) fresh) (subst (IsStrictlySortedBy pos_cmp) (sym (same_keys old)) rises)
    (λ q. lookup-map_values (λ (node : NodePtr). bare) (is_at (pos_cmp q)) new ∙ by (value_at pos_cmp q new) (value_at pos_cmp q old) (same q) ∙ sym (lookup-map_values (λ (node : NodePtr). bare) (is_at (pos_cmp q)) old))
  where
    by : (one other : Option NodePtr) → ((is_some one ≡ true) ↔ (is_some other ≡ true)) → option_map (λ (node : NodePtr). bare) one ≡ option_map (λ (node : NodePtr). bare) other
    by None None both = refl
    by None (Some y) both = absurd (true≢false (sym (both.1 refl)))
    by (Some x) None both = absurd (true≢false (sym (both.0 refl)))
    by (Some x) (Some y) both = refl

-- So a node begins where it began, and where it stays over the same nodes of the level below it is kept.
pub kept_in_place : (old new : Levels) (level : ℕ) → IsMap pos_cmp (level_of old level) → IsMap pos_cmp (level_of new level) → HaveSameEnds (level_of old level) (level_of new level) → (at : Pos) (node : NodePtr) → IsNodeIn old level at node
    → ((lower : ℕ) → level ≡ suc lower → (pos : Pos) → PosFits pos → IsWithin (least_of at (level_of old level)) at pos → value_at pos_cmp pos (level_of new lower) ≡ value_at pos_cmp pos (level_of old lower)) → IsKept old new level at node
kept_in_place old new level rises fresh same at node stood below = record {
  stood = stood;
  least = sym (least_by_ends at (level_of new level)) ∙ ap (least_of at) (same_ends (level_of old level) (level_of new level) rises fresh same) ∙ least_by_ends at (level_of old level);
  below = below;
}
