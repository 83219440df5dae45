-- Nine btrees that stand are read from their roots, their keys are a key map, and at each position stands what its leaf has.
use Rattle.std.proofs.Common.{◌≡◌, ℕ, zero, suc, ◌<◌, List, [], ◌∷◌, length, map, Bool, true, false, ◌-◌, Some, Result, Ok, Err, refl, sym, ap, subst, ◌∙◌, arith}
use Rattle.std.specs.Prelude.{All, nat_lt, slice_get, unwrap_or}
use Rattle.std.proofs.lemmas.Bool.{ltb-false, ltb-true}
use Rattle.std.proofs.lemmas.Option.{slice_get_past, unwrap_or-slice_get}
use Rattle.std.specs.List.{AllByRecursion}
use Rattle.std.specs.Map.{keys_of}
use Rattle.std.specs.Option.{option_map_or}
use Rattle.birth_index.specs.Births.{levels_of}
use Rattle.birth_index.specs.NameLaws.{code-below}
use Rattle.image_view.specs.Trees.{BtreeRead, SetsOf, all_btrees, btree_of, each_of, first_place, joined, trees_of, with_own_births, with_roots}
use Rattle.key_codec.specs.Formats.{◌>>=◌}
use Rattle.tree_nodes.specs.Levels.{IsRow, Levels, level_of, node_at}
use Rattle.vol_types.specs.Btrees.{btree_code}
use Rattle.vol_types.specs.KeyMapLaws.{entries_of-key_map}
use Rattle.vol_types.specs.KeyMaps.{Entries, IsKeyMap}
use Rattle.vol_types.specs.Maps.{IsMap, value_at}
use Rattle.vol_types.specs.Positions.{pos_cmp}
use Rattle.vol_types.specs.Widths.{PosFits}
use Rattle.vol_types.specs.declared.pointers.NodePtr.{NodePtr}
use Rattle.vol_types.specs.declared.pointers.Place.{Place}
use Rattle.vol_types.specs.declared.positions.Btree.{Btree}
use Rattle.vol_types.specs.declared.positions.Btree.TheVariants.{Extents, Inodes, Dirents, Subvols, Snapshots, Alloc, Backptrs, Deleted, Counters}
use Rattle.vol_types.specs.declared.positions.Pos.{Pos}
use Rattle.btree_laws.specs.Standing.{Contents, HaveWidths, StandAsBtrees, StandsAsBtree, keys_in_leaves, leaf_entries, read_of, reads_of}
use Rattle.btree_laws.proofs.LeafKeys.{leaf_value, leaves_fit, leaves_rise}
use Rattle.btree_laws.proofs.Reading.{btree_read}
use Rattle.btree_laws.proofs.Twins.{no_nodes, no_twins}

-- ---- the leaves of one btree

module _ (sets : SetsOf) (btree : Btree) (root : NodePtr) (levels : Levels) (content : Contents) (stands : StandsAsBtree sets btree root levels content) where
  -- A btree has a level of leaves.
  pub some_levels : 0 < length levels
  some_levels = by levels stands.tree.root
    where
      by : (ls : Levels) → length (level_of ls (length ls - 1)) ≡ 1 → 0 < length ls
      by [] one = absurd (omega (arith, one))
      by (nodes ∷ ls) one = omega arith

  pub leaf_row : IsRow (level_of levels 0)
  leaf_row = (stands.tree.each 0 some_levels).row

  pub own_rise : IsMap pos_cmp (leaf_entries content levels)
  own_rise = leaves_rise (λ node. (content node).entries) (level_of levels 0) leaf_row (λ at node is. (stands.each 0 at node is).entries)

  pub own_fit : All PosFits (keys_of (leaf_entries content levels))
  own_fit = leaves_fit (λ node. (content node).entries) (level_of levels 0) leaf_row (λ at node is. (stands.each 0 at node is).entries)

  pub own_value : (pos : Pos) (leaf : Pos × NodePtr) → node_at pos (level_of levels 0) ≡ Some leaf → value_at pos_cmp pos (leaf_entries content levels) ≡ value_at pos_cmp pos (content leaf.1).entries
  own_value pos leaf found = leaf_value (λ node. (content node).entries) (level_of levels 0) leaf_row (λ at node is. (stands.each 0 at node is).entries) pos leaf found

-- ---- all btrees

-- btrees that were read, and no fault
abbrev were_read : List BtreeRead → Result (List BtreeRead) Place
were_read reads = Ok reads

module _ (sets : SetsOf) (trees : List Levels) (content : Btree → Contents) where
  -- what is read of a btree
  abbrev read_in : Btree → BtreeRead
  read_in btree = read_of (content btree) (levels_of trees btree)

  -- The btree stands under its root.
  abbrev IsStanding : Btree × NodePtr → Type 0
  IsStanding pair = StandsAsBtree sets pair.0 pair.1 (levels_of trees pair.0) (content pair.0)

  -- Btrees with their roots are read.
  pairs_read : (pairs : List (Btree × NodePtr)) → AllByRecursion IsStanding pairs → each_of (btree_of sets []) pairs ≡ were_read (map (λ pair. read_in pair.0) pairs)
  pairs_read [] stand = refl
  pairs_read (pair ∷ pairs) stand =
      ap (λ r. r >>= (λ read. each_of (btree_of sets []) pairs >>= (λ rest. were_read (read ∷ rest)))) (btree_read sets pair.0 pair.1 (levels_of trees pair.0) (content pair.0) stand.0)
      ∙ ap (λ r. r >>= (λ rest. were_read (read_in pair.0 ∷ rest))) (pairs_read pairs stand.1)

-- Nine roots are those of the btrees in their order.
nine_roots : (trees : List Levels) (content : Btree → Contents) (roots : List NodePtr) → length roots ≡ 9 → map (λ (pair : Btree × NodePtr). read_of (content pair.0) (levels_of trees pair.0)) (with_roots roots) ≡ map (λ btree. read_of (content btree) (levels_of trees btree)) all_btrees
nine_roots trees content [] nine = absurd (omega (arith, nine))
nine_roots trees content (a ∷ []) nine = absurd (omega (arith, nine))
nine_roots trees content (a ∷ b ∷ []) nine = absurd (omega (arith, nine))
nine_roots trees content (a ∷ b ∷ c ∷ []) nine = absurd (omega (arith, nine))
nine_roots trees content (a ∷ b ∷ c ∷ d ∷ []) nine = absurd (omega (arith, nine))
nine_roots trees content (a ∷ b ∷ c ∷ d ∷ e ∷ []) nine = absurd (omega (arith, nine))
nine_roots trees content (a ∷ b ∷ c ∷ d ∷ e ∷ f ∷ []) nine = absurd (omega (arith, nine))
nine_roots trees content (a ∷ b ∷ c ∷ d ∷ e ∷ f ∷ g ∷ []) nine = absurd (omega (arith, nine))
nine_roots trees content (a ∷ b ∷ c ∷ d ∷ e ∷ f ∷ g ∷ h ∷ []) nine = absurd (omega (arith, nine))
nine_roots trees content (a ∷ b ∷ c ∷ d ∷ e ∷ f ∷ g ∷ h ∷ i ∷ []) nine = refl
nine_roots trees content (a ∷ b ∷ c ∷ d ∷ e ∷ f ∷ g ∷ h ∷ i ∷ j ∷ more) nine = absurd (omega (arith, nine))

-- Each of them stands with its root.
each_stands : (sets : SetsOf) (trees : List Levels) (content : Btree → Contents) (roots : List NodePtr) → length roots ≡ 9 → ((btree : Btree) (root : NodePtr) → slice_get roots (btree_code btree) ≡ Some root → StandsAsBtree sets btree root (levels_of trees btree) (content btree))
    → AllByRecursion (IsStanding sets trees content) (with_roots roots)
each_stands sets trees content [] nine each = absurd (omega (arith, nine))
each_stands sets trees content (a ∷ []) nine each = absurd (omega (arith, nine))
each_stands sets trees content (a ∷ b ∷ []) nine each = absurd (omega (arith, nine))
each_stands sets trees content (a ∷ b ∷ c ∷ []) nine each = absurd (omega (arith, nine))
each_stands sets trees content (a ∷ b ∷ c ∷ d ∷ []) nine each = absurd (omega (arith, nine))
each_stands sets trees content (a ∷ b ∷ c ∷ d ∷ e ∷ []) nine each = absurd (omega (arith, nine))
each_stands sets trees content (a ∷ b ∷ c ∷ d ∷ e ∷ f ∷ []) nine each = absurd (omega (arith, nine))
each_stands sets trees content (a ∷ b ∷ c ∷ d ∷ e ∷ f ∷ g ∷ []) nine each = absurd (omega (arith, nine))
each_stands sets trees content (a ∷ b ∷ c ∷ d ∷ e ∷ f ∷ g ∷ h ∷ []) nine each = absurd (omega (arith, nine))
each_stands sets trees content (a ∷ b ∷ c ∷ d ∷ e ∷ f ∷ g ∷ h ∷ i ∷ more) nine each =
    (each Extents a refl, (each Inodes b refl, (each Dirents c refl, (each Subvols d refl, (each Snapshots e refl, (each Alloc f refl, (each Backptrs g refl, (each Deleted h refl, (each Counters i refl, tt)))))))))

-- What was read of nine btrees, together.
nine_joined : (content : Btree → Contents) (trees : List Levels) → length trees ≡ 9 → joined (map (λ btree. read_of (content btree) (levels_of trees btree)) all_btrees) ≡ reads_of content trees
nine_joined content [] nine = absurd (omega (arith, nine))
nine_joined content (a ∷ []) nine = absurd (omega (arith, nine))
nine_joined content (a ∷ b ∷ []) nine = absurd (omega (arith, nine))
nine_joined content (a ∷ b ∷ c ∷ []) nine = absurd (omega (arith, nine))
nine_joined content (a ∷ b ∷ c ∷ d ∷ []) nine = absurd (omega (arith, nine))
nine_joined content (a ∷ b ∷ c ∷ d ∷ e ∷ []) nine = absurd (omega (arith, nine))
nine_joined content (a ∷ b ∷ c ∷ d ∷ e ∷ f ∷ []) nine = absurd (omega (arith, nine))
nine_joined content (a ∷ b ∷ c ∷ d ∷ e ∷ f ∷ g ∷ []) nine = absurd (omega (arith, nine))
nine_joined content (a ∷ b ∷ c ∷ d ∷ e ∷ f ∷ g ∷ h ∷ []) nine = absurd (omega (arith, nine))
nine_joined content (a ∷ b ∷ c ∷ d ∷ e ∷ f ∷ g ∷ h ∷ i ∷ []) nine = refl
nine_joined content (a ∷ b ∷ c ∷ d ∷ e ∷ f ∷ g ∷ h ∷ i ∷ j ∷ more) nine = absurd (omega (arith, nine))

-- The root at a place.
pub root_at : (roots : List NodePtr) (place : ℕ) → place < length roots → (root : NodePtr) × (slice_get roots place ≡ Some root)
root_at [] place less = absurd (omega (arith, less))
root_at (root ∷ roots) zero less = (root, refl)
root_at (root ∷ roots) (suc place) less = root_at roots place (omega (arith, less))

module _ (sets : SetsOf) (roots : List NodePtr) (trees : List Levels) (content : Btree → Contents) (stand : StandAsBtrees sets roots trees content) where
  -- a btree with its root
  pub rooted : (btree : Btree) → (root : NodePtr) × StandsAsBtree sets btree root (levels_of trees btree) (content btree)
  rooted btree =
      let nine = stand.roots_are in
      let less = code-below btree in
      let root = root_at roots (btree_code btree) (omega (arith, nine, less)) in
      (root.0, stand.each btree root.0 root.1)

  -- The levels of each btree rise.
  levels_rise : (btree : Btree) (level : ℕ) → IsMap pos_cmp (level_of (levels_of trees btree) level)
  levels_rise btree level = by (nat_lt level (length (levels_of trees btree))) refl
    where
      by : (b : Bool) → nat_lt level (length (levels_of trees btree)) ≡ b → IsMap pos_cmp (level_of (levels_of trees btree) level)
      by true is = ((rooted btree).1.tree.each level (ltb-true level (length (levels_of trees btree)) is)).row.rises
      by false is =
          let past = ltb-false level (length (levels_of trees btree)) is in
          subst (IsMap pos_cmp) (sym (sym (unwrap_or-slice_get (levels_of trees btree) level []) ∙ ap (λ o. unwrap_or o []) (slice_get_past (levels_of trees btree) level past))) no_nodes

  -- They are read from their roots.
  pub btrees_read : trees_of sets [] roots ≡ Ok (reads_of content trees)
  unfolding trees_of
  btrees_read =
      ap (λ r. r >>= (λ btrees. with_own_births (joined btrees)))
      (pairs_read sets trees content (with_roots roots) (each_stands sets trees content roots stand.roots_are stand.each) ∙ ap were_read (nine_roots trees content roots stand.roots_are))
      ∙ ap with_own_births (nine_joined content trees stand.trees_are)
      ∙ ap (λ twin. option_map_or (λ (node : NodePtr). Err (first_place node)) twin (Ok (reads_of content trees))) (no_twins trees stand.trees_are levels_rise stand.births)

  -- Their keys are a key map.
  pub keys_rise : IsKeyMap (keys_in_leaves content trees)
  keys_rise = record {
    rises = λ btree.
        let own = rooted btree in
        subst (IsMap pos_cmp) (sym (entries_of-key_map (λ b. leaf_entries (content b) (levels_of trees b)) btree)) (own_rise sets btree own.0 (levels_of trees btree) (content btree) own.1);
  }

  -- They have their widths.
  pub keys_fit : HaveWidths (keys_in_leaves content trees)
  keys_fit btree =
      let own = rooted btree in
      subst (λ (es : Entries). All PosFits (keys_of es)) (sym (entries_of-key_map (λ b. leaf_entries (content b) (levels_of trees b)) btree)) (own_fit sets btree own.0 (levels_of trees btree) (content btree) own.1)
