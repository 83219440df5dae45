-- What the leaves of btrees hold up to entries: the keys to which they lead, and leaves that take the place of others.
use Rattle.std.proofs.Common.{◌≡◌, ◌⊎◌, inl, ⊎_elim, ℕ, ◌+◌, ◌-◌, ◌<◌, ◌≤◌, List, [], ◌∷◌, length, drop, max, Option, None, Some, refl, sym, ap, subst, ◌∙◌, zero, suc, true, arith}
use Rattle.std.specs.Prelude.{◌↔◌, All, IsSome}
use Rattle.std.specs.BTreeMap.{is_at}
use Rattle.std.proofs.lemmas.Bool.{cases_lt, true≢false}
use Rattle.std.proofs.lemmas.List.{take_all}
use Rattle.std.proofs.lemmas.Map.Entries.{lookup-filter-keys}
use Rattle.std.proofs.lemmas.Option.{same_Some}
use Rattle.birth_index.specs.Births.{levels_of}
use Rattle.birth_index.specs.declared.name.NodeName.{NodeName}
use Rattle.dev_model.specs.Devices.{DevicesState}
use Rattle.image_view.specs.Found.{updates_of}
use Rattle.image_view.specs.Trees.{SetsOf}
use Rattle.image_view.specs.UpdatedTrees.{IsOfLeaf}
use Rattle.journal_ring.specs.declared.found.FoundEntry.{FoundEntry}
use Rattle.node_store.specs.NodeContents.{NodeContent}
use Rattle.tree_nodes.specs.CoverLaws.{covered-once, first-value, node_at-covers, node_at-some}
use Rattle.tree_nodes.specs.Levels.{Covers, IsRow, Level, Levels, least_of, level_of, node_at}
use Rattle.tree_nodes.specs.RowLaws.{same_at}
use Rattle.vol_types.specs.KeyMapLaws.{entries_of-key_map}
use Rattle.vol_types.specs.KeyMaps.{Entries, IsKeyMap, KeyMap, entries_within, value_in, with_updates}
use Rattle.vol_types.specs.Maps.{value_at}
use Rattle.vol_types.specs.PositionLaws.{is_within-iff}
use Rattle.vol_types.specs.Positions.{IsWithin, is_within, pos_cmp}
use Rattle.vol_types.specs.Widths.{PosFits}
use Rattle.vol_types.specs.declared.layout.Layout.{Layout}
use Rattle.vol_types.specs.declared.pointers.NodePtr.{NodePtr}
use Rattle.vol_types.specs.declared.positions.Btree.{Btree}
use Rattle.vol_types.specs.declared.positions.Pos.{Pos}
use Rattle.btree_laws.specs.Counts.{Counts, HasUpTo, HaveUpTo}
use Rattle.btree_laws.specs.Exchanges.{IsExchange, IsKept}
use Rattle.btree_laws.specs.Standing.{Contents, HaveWidths, StandAsBtrees, StandsAsBtree, keys_in_leaves, leaf_entries}
use Rattle.crash_safety.specs.LeafSteps.{PinsAsMuch}
use Rattle.btree_safety.specs.FreshNodes.{AreLeavesPinned, AreNodesExchanged, IsFresh, IsKeptAs}
use Rattle.btree_safety.specs.KeptKeys.{AreExchangedAt, ArePinsFrom, HoldUpTo, HoldsAt, Inherits, IsLeafAt, Pins}
use Rattle.btree_safety.proofs.AllNodes.{rooted}
use Rattle.btree_safety.proofs.Pinned.{CountLaws, moves, reached_value}
use Rattle.btree_safety.proofs.WidePositions.{fits_or_not, no_key, updates_fit}

-- What is known of the keys of btrees that stand.
pub record ReadLaws : Type 0 where
  pub maps : (sets : SetsOf) (roots : List NodePtr) (trees : List Levels) (content : Btree → Contents) → StandAsBtrees sets roots trees content → IsKeyMap (keys_in_leaves content trees)
  pub widths : (sets : SetsOf) (roots : List NodePtr) (trees : List Levels) (content : Btree → Contents) → StandAsBtrees sets roots trees content → HaveWidths (keys_in_leaves content trees)
  pub values : (sets : SetsOf) (btree : Btree) (root : NodePtr) (levels : Levels) (content : Contents) → StandsAsBtree sets btree root levels content → (pos : Pos) (leaf : Pos × NodePtr) → PosFits pos → node_at pos (level_of levels 0) ≡ Some leaf
      → value_at pos_cmp pos (leaf_entries content levels) ≡ value_at pos_cmp pos (content leaf.1).entries

-- Keys that have the entries that are passed lead to the current ones with the others.
abbrev pub PassedLaw : Type 0
PassedLaw = (needed : List FoundEntry) (before keys : KeyMap) (count : Counts) (passed : ℕ) → IsKeyMap before → IsKeyMap keys → HaveUpTo needed before count keys → ((btree : Btree) (pos : Pos) → passed ≤ count btree pos)
    → with_updates (updates_of (drop passed needed)) keys ≡ with_updates (updates_of needed) before

-- Nothing is left of a list without more members than it has.
drop_past : {X : Type 0} (n : ℕ) (xs : List X) → length xs ≤ n → drop n xs ≡ []
drop_past zero [] past = refl
drop_past zero (x ∷ xs) past = absurd (omega (arith, past))
drop_past (suc n) [] past = refl
drop_past (suc n) (x ∷ xs) past = drop_past n xs (omega (arith, past))

-- ---- the leaf that covers a position

-- A btree has a level of leaves.
pub some_levels : (levels : Levels) → length (level_of levels (length levels - 1)) ≡ 1 → 0 < length levels
some_levels [] one = absurd (omega (arith, one))
some_levels (nodes ∷ levels) one = omega arith

module _ (sets : SetsOf) (roots : List NodePtr) (trees : List Levels) (content : Btree → Contents) (stand : StandAsBtrees sets roots trees content) where
  pub leaf_row : (btree : Btree) → IsRow (level_of (levels_of trees btree) 0)
  leaf_row btree = let own = rooted sets roots trees content stand btree in (own.1.tree.each 0 (some_levels (levels_of trees btree) own.1.tree.root)).row

  -- Some leaf covers each position.
  pub covering : (btree : Btree) (pos : Pos) → PosFits pos → (leaf : Pos × NodePtr) × IsLeafAt trees btree pos leaf
  covering btree pos fits =
      let own = rooted sets roots trees content stand btree in
      by (node_at pos (level_of (levels_of trees btree) 0)) refl (node_at-some pos (level_of (levels_of trees btree) 0) (own.1.tree.each 0 (some_levels (levels_of trees btree) own.1.tree.root)).ends fits)
    where
      by : (o : Option (Pos × NodePtr)) → node_at pos (level_of (levels_of trees btree) 0) ≡ o → IsSome o → (leaf : Pos × NodePtr) × IsLeafAt trees btree pos leaf
      by (Some leaf) is there = (leaf, is)
      by None is there = absurd (true≢false (sym there))

-- ---- the keys to which leaves lead

-- A position has the value that the leaf has which covers it.
pub own_value : ReadLaws → (sets : SetsOf) (roots : List NodePtr) (trees : List Levels) (content : Btree → Contents) → StandAsBtrees sets roots trees content → (btree : Btree) (pos : Pos) (leaf : Pos × NodePtr) → PosFits pos → IsLeafAt trees btree pos leaf
    → value_in (keys_in_leaves content trees) btree pos ≡ value_at pos_cmp pos (content btree leaf.1).entries
own_value reads sets roots trees content stand btree pos leaf fits covers =
    let own = rooted sets roots trees content stand btree in
    ap (value_at pos_cmp pos) (entries_of-key_map (λ b. leaf_entries (content b) (levels_of trees b)) btree)
    ∙ reads.values sets btree own.0 (levels_of trees btree) (content btree) own.1 pos leaf fits covers

module _ (reads : ReadLaws) (counts : CountLaws) (passed_law : PassedLaw) (sets : SetsOf) (roots : List NodePtr) (trees : List Levels) (content : Btree → Contents) (stand : StandAsBtrees sets roots trees content)
    (needed : List FoundEntry) (before : KeyMap) (oldest : ℕ) (pin : Pins) (rises : IsKeyMap before) (widths : HaveWidths before) (leaves : All IsOfLeaf (updates_of needed)) (hold : HoldUpTo needed before oldest trees pin content) where
  -- Each position has the entries that are passed.
  has_passed : (passed : ℕ) → passed ≤ length needed → ArePinsFrom trees pin (oldest + passed) → (btree : Btree) (pos : Pos) → (count : ℕ) × (passed ≤ count) × HasUpTo needed before (keys_in_leaves content trees) btree pos count
  has_passed passed within from btree pos = fits_or_not pos ((count : ℕ) × (passed ≤ count) × HasUpTo needed before (keys_in_leaves content trees) btree pos count)
      (λ fits.
      let leaf = covering sets roots trees content stand btree pos fits in
      let holds : HoldsAt needed before oldest btree (pin leaf.0.1.birth) (content btree leaf.0.1).entries pos = hold btree pos leaf.0 fits leaf.1 in
      let some = holds.within in (
        max holds.count passed,
        omega arith,
        record {
          within = omega (arith, some, within);
          value = own_value reads sets roots trees content stand btree pos leaf.0 fits leaf.1 ∙ reached_value counts needed before oldest btree (pin leaf.0.1.birth) (content btree leaf.0.1).entries pos holds rises passed within (from btree pos leaf.0 leaf.1);
        },
      ))
      (λ wide. (
        length needed,
        within,
        record {
          within = omega arith;
          value = no_key (keys_in_leaves content trees) (reads.widths sets roots trees content stand) btree pos wide
              ∙ sym (no_key (with_updates (updates_of needed) before) (updates_fit (updates_of needed) before rises widths leaves) btree pos wide)
              ∙ ap (λ (es : List FoundEntry). value_in (with_updates (updates_of es) before) btree pos) (sym (take_all (length needed) needed (omega arith)));
        },
      ))

  leads_within : (passed : ℕ) → passed ≤ length needed → ArePinsFrom trees pin (oldest + passed) → with_updates (updates_of (drop passed needed)) (keys_in_leaves content trees) ≡ with_updates (updates_of needed) before
  leads_within passed within from = passed_law needed before (keys_in_leaves content trees) (λ btree pos. (has_passed passed within from btree pos).0) passed rises (reads.maps sets roots trees content stand)
      (λ btree pos. (has_passed passed within from btree pos).2) (λ btree pos. (has_passed passed within from btree pos).1)

  -- So with the entries that are left the leaves lead to the keys to which all led.
  pub leads : (passed : ℕ) → ArePinsFrom trees pin (oldest + passed) → with_updates (updates_of (drop passed needed)) (keys_in_leaves content trees) ≡ with_updates (updates_of needed) before
  leads passed from = ⊎_elim
      (λ (past : length needed < passed).
      ap (λ es. with_updates (updates_of es) (keys_in_leaves content trees)) (drop_past passed needed (omega (arith, past)) ∙ sym (drop_past (length needed) needed (omega arith)))
      ∙ leads_within (length needed) (omega arith) (λ btree pos leaf covers p pins. let least = from btree pos leaf covers p pins in omega (arith, least, past)))
      (λ (within : passed ≤ length needed). leads_within passed within from)
      (cases_lt (length needed) passed)

-- ---- leaves in the place of others

-- What is known of a level in which nodes were exchanged.
pub record RangeLaws : Type 0 where
  pub outside : (old new : Level) (first last at : Pos) (node : NodePtr) → IsRow old → IsRow new → IsExchange first last old new → value_at pos_cmp at new ≡ Some node → ¬ IsWithin first last at → (value_at pos_cmp at old ≡ Some node) × (least_of at new ≡ least_of at old)
  pub range : (old new : Level) (first last at pos : Pos) → IsRow old → IsRow new → IsExchange first last old new → PosFits pos → Covers old at pos ⊎ Covers new at pos → IsWithin first last pos ↔ IsWithin first last at

-- Outside of the range of an exchange the same leaf covers a position.
pub same_leaf : RangeLaws → (old new : Level) (first last pos : Pos) (leaf : Pos × NodePtr) → IsRow old → IsRow new → IsExchange first last old new → PosFits pos → ¬ IsWithin first last pos → node_at pos old ≡ Some leaf → node_at pos new ≡ Some leaf
same_leaf laws old new first last pos leaf row fresh exchange fits away at =
    let covers : Covers old leaf.0 pos = node_at-covers pos old leaf row fits at in
    let apart : ¬ IsWithin first last leaf.0 = λ within. away ((laws.range old new first last leaf.0 pos row fresh exchange fits (inl covers)).1 within) in
    let there : value_at pos_cmp leaf.0 new ≡ Some leaf.1 = exchange.elsewhere leaf.0 apart ∙ first-value _ old leaf row.rises at in
    let begins = (laws.outside old new first last leaf.0 leaf.1 row fresh exchange there apart).1 in
    covered-once pos leaf.0 leaf.1 new fresh fits there (subst (λ (least : Pos). IsWithin least leaf.0 pos) (sym begins) covers.within)

-- A leaf that is kept covered a position before.
kept_leaf : (old new : Levels) (pos : Pos) (leaf : Pos × NodePtr) → IsRow (level_of old 0) → IsRow (level_of new 0) → IsKept old new 0 leaf.0 leaf.1 → PosFits pos → node_at pos (level_of new 0) ≡ Some leaf → node_at pos (level_of old 0) ≡ Some leaf
kept_leaf old new pos leaf row fresh kept fits at =
    let covers : Covers (level_of new 0) leaf.0 pos = node_at-covers pos (level_of new 0) leaf fresh fits at in
    covered-once pos leaf.0 leaf.1 (level_of old 0) row fits kept.stood (subst (λ (least : Pos). IsWithin least leaf.0 pos) kept.least covers.within)

-- The entries of a range have its values.
range_value : (first last pos : Pos) (entries : Entries) → IsWithin first last pos → value_at pos_cmp pos (entries_within first last entries) ≡ value_at pos_cmp pos entries
range_value first last pos entries within =
    lookup-filter-keys (is_at (pos_cmp pos)) (is_within first last) true (λ k is. ap (is_within first last) (sym (same_at pos k is)) ∙ (is_within-iff first last pos).1 within) entries

-- Entries that are the same in a range have the same values there.
pub same_within : (first last pos : Pos) (one other : Entries) → IsWithin first last pos → entries_within first last one ≡ entries_within first last other → value_at pos_cmp pos one ≡ value_at pos_cmp pos other
same_within first last pos one other within same = sym (range_value first last pos one within) ∙ ap (value_at pos_cmp pos) same ∙ range_value first last pos other within

module _ (counts : CountLaws) (one : SetsOf) (roots : List NodePtr) (old new : List Levels) (before after : Btree → Contents) (stood : StandAsBtrees one roots old before) (needed : List FoundEntry) (begun : KeyMap) (oldest : ℕ) (pin other : Pins) where
  -- Where leaves took the place of others, and inherit from them or hold up to an entry of their own, they hold the keys up to entries again.
  pub exchanged_hold : HoldUpTo needed begun oldest old pin before → AreExchangedAt needed begun oldest old new pin other before after → HoldUpTo needed begun oldest new other after
  exchanged_hold hold exchanged btree pos fresh fits is =
      let leaf = covering one roots old before stood btree pos fits in
      ⊎_elim
      (λ (inherits : Inherits pin other (before btree) (after btree) pos leaf.0.1 fresh.1).
      moves counts needed begun oldest btree (pin leaf.0.1.birth) (before btree leaf.0.1).entries pos (hold btree pos leaf.0 fits leaf.1) (other fresh.1.birth) (after btree fresh.1).entries inherits.pins inherits.value)
      (λ (holds : HoldsAt needed begun oldest btree (other fresh.1.birth) (after btree fresh.1).entries pos). holds)
      (exchanged btree pos leaf.0 fresh fits leaf.1 is)

  -- Fresh leaves inherit so, or hold up to an entry of their own; and a leaf that is kept inherits from itself.
  pub exchanged_at : (layout : Layout) (session : ℕ) (fresh : List NodePtr) (state : DevicesState) → AreNodesExchanged layout session old new fresh before after state → AreLeavesPinned layout session needed begun oldest old new pin other before after state
      → AreExchangedAt needed begun oldest old new pin other before after
  exchanged_at layout session fresh state exchanged pinned btree pos leaf node fits was is =
      let name : NodeName = record { btree = btree; level = 0; greatest = node.0 } in
      let row : IsRow (level_of (levels_of new btree) 0) = ((exchanged.trees btree).each 0 (some_levels (levels_of new btree) (exchanged.trees btree).root)).row in
      ⊎_elim
      (λ (kept : IsKeptAs old new before after name node.1).
      let same : leaf ≡ node = same_Some leaf node (sym was ∙ kept_leaf (levels_of old btree) (levels_of new btree) pos node (leaf_row one roots old before stood btree) row kept.kept fits is) in
      let value : value_at pos_cmp pos (after btree node.1).entries ≡ value_at pos_cmp pos (before btree leaf.1).entries =
      ap (λ (c : NodeContent). value_at pos_cmp pos c.entries) kept.content_is ∙ ap (λ (l : Pos × NodePtr). value_at pos_cmp pos (before btree l.1).entries) (sym same) in
      let pins : PinsAsMuch (pin leaf.1.birth) (other node.1.birth) = subst (λ (l : Pos × NodePtr). PinsAsMuch (pin l.1.birth) (other node.1.birth)) (sym same) (pinned.kept btree node.0 node.1 (first-value _ (level_of (levels_of new btree) 0) node row.rises is) kept) in
      inl (record { value = value; pins = pins }))
      (λ (new_one : IsFresh layout session old new after state name node.1). pinned.fresh btree pos leaf node fits was is new_one)
      (exchanged.each name node.1 (first-value _ (level_of (levels_of new btree) 0) node row.rises is))
