-- Nodes by their births: none is above a root, a leaf is one of the keys, and children that are counted or copied one by one.
use Rattle.std.proofs.Common.{◌≡◌, ℕ, ◌+◌, ◌*◌, ◌^◌, ◌<◌, ◌≤◌, Bool, true, false, cond, Some, None, List, [], ◌∷◌, length, map, refl, sym, ap, ◌∙◌, subst, arith}
use Rattle.std.specs.Prelude.{All, option_map, slice_get, sum_by}
use Rattle.std.specs.List.{filter}
use Rattle.std.specs.Map.{values_of}
use Rattle.std.proofs.lemmas.List.{get_or_past}
use Rattle.std.proofs.lemmas.List.Sums.{sum_by-cons}
use Rattle.std.proofs.lemmas.Option.{get_or_from_slice_get, none-some as none_some, slice_get-get_or}
use Rattle.std.proofs.lemmas.List.Elements.{All-cons, All-head, All-nil, All-tail}
use Rattle.birth_index.specs.Births.{levels_of}
use Rattle.birth_index.specs.declared.name.NodeName.{NodeName}
use Rattle.btree_map.specs.Births.{parent_birth}
use Rattle.btree_map.specs.Trees.{IsTrees, Trees, cut_in, levels_in}
use Rattle.interior.specs.Contents.{entry_of}
use Rattle.tree_keys.specs.Cuts.{is_end}
use Rattle.tree_keys.specs.LeafLaws.{is_end-keys}
use Rattle.tree_nodes.specs.Levels.{EndsAt, IsNodeOf, Level, Levels, level_of, node_at}
use Rattle.vol_types.specs.KeyMaps.{key_of, keys_in}
use Rattle.vol_types.specs.Lengths.{key_length_of}
use Rattle.vol_types.specs.Ranges.{IsNode}
use Rattle.vol_types.specs.Sets.{set_length_of}
use Rattle.vol_types.specs.declared.keys.Key.{Key}
use Rattle.vol_types.specs.declared.pointers.NodePtr.{NodePtr}
use Rattle.vol_types.specs.declared.positions.Pos.{Pos}
use Rattle.vol_types.specs.declared.values.Value.TheVariants as values

-- no node is above the last level
pub no_parent : (nodes : List Levels) (name : NodeName) → length (levels_of nodes name.btree) ≤ name.level → parent_birth nodes name ≡ None
no_parent nodes name top =
    ap (λ (es : Level). option_map (λ (node : Pos × NodePtr). node.1.birth) (node_at name.greatest es)) (get_or_past (levels_of nodes name.btree) (name.level + 1) [] (omega (arith, top)))

-- a node of level 0 is a leaf of the keys
pub leaf_there : (trees : Trees) (name : NodeName) → IsTrees trees → name.level ≡ 0 → EndsAt (level_of (levels_in trees name.btree) name.level) name.greatest → is_end name.greatest (cut_in trees name.btree).ends ≡ true
leaf_there trees name is leaf ends =
    ap (is_end name.greatest) (is.each name.btree).leaves ∙ is_end-keys name.greatest (level_of (levels_in trees name.btree) 0)
    ∙ subst (λ (k : ℕ). EndsAt (level_of (levels_in trees name.btree) k) name.greatest) leaf ends

-- what holds of all values holds of those that pass a test
pub kept_values : (P : NodePtr → Type 0) (t : Pos × NodePtr → Bool) (nodes : Level) → All P (values_of nodes) → All P (values_of (filter t nodes))
kept_values P t [] all = All-nil P
kept_values P t (e ∷ es) all = by (t e) (kept_values P t es (All-tail P e.1 (values_of es) all))
  where
    by : (b : Bool) → All P (values_of (filter t es)) → All P (values_of (cond b (e ∷ filter t es) (filter t es)))
    by true later = All-cons P e.1 (values_of (filter t es)) (All-head P e.1 (values_of es) all) later
    by false later = later

-- and they are no more
pub kept_few : (t : Pos × NodePtr → Bool) (nodes : Level) → length (filter t nodes) ≤ length nodes
kept_few t [] = omega arith
kept_few t (e ∷ es) = by (t e) (kept_few t es)
  where
    by : (b : Bool) → length (filter t es) ≤ length es → length (cond b (e ∷ filter t es) (filter t es)) ≤ length (e ∷ es)
    by true later = omega (arith, later)
    by false later = omega (arith, later)

-- a level that is there
pub level_found : (levels : Levels) (level : ℕ) (nodes : Level) → slice_get levels level ≡ Some nodes → level_of levels level ≡ nodes
level_found levels level nodes is = get_or_from_slice_get levels level nodes [] is

-- a level below the last one is there
pub level_missing : (levels : Levels) (level : ℕ) → slice_get levels level ≡ None → level < length levels → ⊥
level_missing levels level none lt = none_some (level_of levels level) (sym none ∙ slice_get-get_or levels level [] lt)

-- nodes of a level are in range
pub nodes_in_range : (level : ℕ) (nodes : List NodePtr) → All (IsNodeOf level) nodes → All IsNode nodes
nodes_in_range level [] all = All-nil IsNode
nodes_in_range level (n ∷ nodes) all = All-cons IsNode n nodes (All-head (IsNodeOf level) n nodes all).in_range (nodes_in_range level nodes (All-tail (IsNodeOf level) n nodes all))

-- the bytes of children as keys
abbrev pub lengths : Level → ℕ
lengths nodes = sum_by (λ (key : Key). key_length_of key.value) (keys_in (map entry_of nodes))

-- The bytes so far and those of the children that are left are those of all.
pub record IsSizing (all rest : Level) (bytes : ℕ) : Type 0 where
  pub counted : bytes + lengths rest ≡ 56 + lengths all
  pub few : bytes + 64 * length rest ≤ 56 + 64 * 2 ^ 64
  pub each : All IsNode (values_of rest)

pub sizing_none : (all rest : Level) → rest ≡ all → length all < 2 ^ 64 → All IsNode (values_of all) → IsSizing all rest 56
sizing_none all rest same few each = subst (λ (r : Level). IsSizing all r 56) (sym same) (record { counted = refl; few = omega (arith, few); each = each })

module _ (all rest later : Level) (bytes : ℕ) (pos : Pos) (node : NodePtr) (sizing : IsSizing all rest bytes) (next : rest ≡ (pos, node) ∷ later) where
  rest_few : bytes + 64 * (length later + 1) ≤ 56 + 64 * 2 ^ 64
  rest_few = omega (arith, sizing.few, ap length next)

  -- the next child is in range
  pub next_in_range : IsNode node
  next_in_range = All-head IsNode node (values_of later) (subst (λ (r : Level). All IsNode (values_of r)) next sizing.each)

  -- there is room for its bytes
  pub sizing_fits : (length_of : ℕ) → length_of < 64 → bytes + length_of < 2 ^ 128
  sizing_fits length_of small = omega (arith, rest_few, small)

  -- once it was counted, the others are left
  pub sizing_more : (length_of : ℕ) → length_of ≡ key_length_of (Some (values.Node node)) → length_of < 64 → IsSizing all later (bytes + length_of)
  sizing_more length_of is small = record {
    counted = let left : lengths rest ≡ key_length_of (Some (values.Node node)) + lengths later = ap lengths next ∙ sum_by-cons (λ (key : Key). key_length_of key.value) (key_of (entry_of (pos, node))) (keys_in (map entry_of later)) in
        omega (arith, is, sizing.counted, left);
    few = omega (arith, rest_few, small);
    each = All-tail IsNode node (values_of later) (subst (λ (r : Level). All IsNode (values_of r)) next sizing.each);
  }

-- with none left all are counted
pub sizing_all : (all rest : Level) (bytes : ℕ) → IsSizing all rest bytes → rest ≡ [] → bytes ≡ set_length_of (keys_in (map entry_of all))
sizing_all all rest bytes sizing none = omega (arith, sizing.counted, ap lengths none)
