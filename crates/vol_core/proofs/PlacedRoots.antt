-- What the roots are, and what they pin, once frozen leaves are in place; and which places the old ones had.
use Rattle.std.proofs.Common.{◌≡◌, ◌≢◌, ◌⊎◌, inl, inr, ℕ, suc, Bool, cond, Option, Some, List, [], ◌∷◌, ◌++◌, drop, length, map, refl, sym, ap, ◌∙◌, ⊎_elim, arith}
use Rattle.std.proofs.lemmas.Bool.Decides.{eqb_tells}
use Rattle.std.proofs.lemmas.List.Elements.{All-cons, All-head, All-map, All-nil, All-tail}
use Rattle.std.proofs.lemmas.List.Kept.{AllPairs-cons}
use Rattle.std.proofs.lemmas.Option.{same_Some}
use Rattle.std.specs.List.{AllPairs}
use Rattle.std.specs.Ordering.{nat_cmp}
use Rattle.std.specs.Prelude.{All, slice_get}
use Rattle.birth_index.specs.Births.{node_of}
use Rattle.birth_index.specs.Exchanges.{name_of, only_name}
use Rattle.birth_index.specs.declared.name.Exchange.{Exchange}
use Rattle.birth_index.specs.declared.name.NodeName.{NodeName}
use Rattle.btree_map.specs.StandLaws.{same_btree}
use Rattle.crash_safety.specs.CheckpointLeaves.{FreshLeaf, placed_pins, placed_roots, replaced_places, with_btree}
use Rattle.node_writeback.specs.Placing.{exchanges_of, places_of}
use Rattle.node_writeback.specs.declared.node.FrozenNode.{FrozenNode}
use Rattle.tree_nodes.specs.Levels.{Levels}
use Rattle.vol_types.specs.Btrees.{btree_code}
use Rattle.vol_types.specs.Limits.{bucket_blocks}
use Rattle.vol_types.specs.Maps.{value_at}
use Rattle.vol_types.specs.declared.pointers.NodePtr.{NodePtr}
use Rattle.vol_types.specs.declared.pointers.Place.{Place}
use Rattle.vol_types.specs.declared.positions.Btree.{Btree}
use Rattle.vol_core.specs.VolumeLeaves.{fresh_leaf}

-- What holds of each two holds of each two of what is made of them.
pub pairs_map : {X Y : Type 0} (R : Y → Y → Type 0) (f : X → Y) (xs : List X) → AllPairs (λ (one other : X). R (f one) (f other)) xs → AllPairs R (map f xs)
pairs_map R f [] pairs = λ i j d less within. absurd (omega (arith, within))
pairs_map R f (x ∷ xs) pairs =
    AllPairs-cons R (f x) (map f xs) (All-map (R (f x)) f xs (λ k d within. pairs 0 (suc k) d (omega arith) (omega (arith, within))))
    (pairs_map R f xs (λ i j d less within. pairs (suc i) (suc j) d (omega (arith, less)) (omega (arith, within))))

module _ (later : List (ℕ × ℕ)) (P : FrozenNode → Type 0) where
  -- the leaves that are written whole
  abbrev pub whole : List FrozenNode → List FreshLeaf
  whole frozen = map (fresh_leaf later bucket_blocks) frozen

  -- A frozen leaf is the root of the btree then, and pins what was noted of it.
  pub record IsPlacedRoot (frozen : List FrozenNode) (root : Btree → NodePtr) (pin : Btree → Option ℕ) (btree : Btree) : Type 0 where
    pub node : FrozenNode
    pub known : P node
    pub of : node.btree ≡ btree
    pub root_is : placed_roots (whole frozen) root btree ≡ node.fresh
    pub pin_is : placed_pins (whole frozen) pin btree ≡ value_at nat_cmp node.birth later

  -- No leaf of the btree is frozen, and its root is as it was.
  pub record IsLeftRoot (frozen : List FrozenNode) (root : Btree → NodePtr) (pin : Btree → Option ℕ) (btree : Btree) : Type 0 where
    pub others : All (λ (node : FrozenNode). node.btree ≢ btree) frozen
    pub root_is : placed_roots (whole frozen) root btree ≡ root btree
    pub pin_is : placed_pins (whole frozen) pin btree ≡ pin btree

  -- The one or the other holds.
  pub placed_or_left : (frozen : List FrozenNode) (root : Btree → NodePtr) (pin : Btree → Option ℕ) (btree : Btree) → All P frozen → IsPlacedRoot frozen root pin btree ⊎ IsLeftRoot frozen root pin btree
  placed_or_left [] root pin btree all = inr (record { others = All-nil (λ (node : FrozenNode). node.btree ≢ btree); root_is = refl; pin_is = refl })
  placed_or_left (node ∷ frozen) root pin btree all = ⊎_elim
      (λ is. inl (record { node = is.node; known = is.known; of = is.of; root_is = is.root_is; pin_is = is.pin_is }))
      (λ is. ⊎_elim
      (λ same. inl (record {
        node = node;
        known = All-head P node frozen all;
        of = sym (same_btree btree node.btree same.1);
        root_is = is.root_is ∙ ap (λ (b : Bool). cond b node.fresh (root btree)) same.0;
        pin_is = is.pin_is ∙ ap (λ (b : Bool). cond b (value_at nat_cmp node.birth later) (pin btree)) same.0;
      }))
      (λ other. inr (record {
        others = All-cons (λ (n : FrozenNode). n.btree ≢ btree) node frozen (λ same. other.1 (sym (ap btree_code same))) is.others;
        root_is = is.root_is ∙ ap (λ (b : Bool). cond b node.fresh (root btree)) other.0;
        pin_is = is.pin_is ∙ ap (λ (b : Bool). cond b (value_at nat_cmp node.birth later) (pin btree)) other.0;
      }))
      (eqb_tells (btree_code btree) (btree_code node.btree)))
      (placed_or_left frozen (with_btree node.btree node.fresh root) (with_btree node.btree (value_at nat_cmp node.birth later) pin) btree (All-tail P node frozen all))

-- The places of what leaves replace are those of the roots.
pub replaced_are : (later : List (ℕ × ℕ)) (nodes : List Levels) (root : Btree → NodePtr) → ((btree : Btree) → node_of nodes (only_name btree) ≡ Some (root btree)) → (frozen : List FrozenNode) (replaced : List Exchange)
    → map name_of replaced ≡ map name_of (exchanges_of frozen) → All (λ (before : Exchange). node_of nodes before.name ≡ Some before.pointer) replaced → places_of replaced ≡ replaced_places (map (fresh_leaf later bucket_blocks) frozen) root
replaced_are later nodes root named [] [] names pointers = refl
replaced_are later nodes root named [] (before ∷ replaced) names pointers = let none = ap length names in absurd (omega (arith, none))
replaced_are later nodes root named (node ∷ frozen) [] names pointers = let none = ap length names in absurd (omega (arith, none))
replaced_are later nodes root named (node ∷ frozen) (before ∷ replaced) names pointers =
    let P : Exchange → Type 0 = λ b. node_of nodes b.name ≡ Some b.pointer in
    let name : before.name ≡ only_name node.btree = same_Some before.name (only_name node.btree) (ap (λ (ns : List NodeName). slice_get ns 0) names) in
    let pointer : before.pointer ≡ root node.btree = same_Some before.pointer (root node.btree) (sym (All-head P before replaced pointers) ∙ ap (node_of nodes) name ∙ named node.btree) in
    ap (λ (p : NodePtr). p.places ++ places_of replaced) pointer
    ∙ ap (λ (places : List Place). (root node.btree).places ++ places) (replaced_are later nodes root named frozen replaced (ap (drop 1) names) (All-tail P before replaced pointers))
