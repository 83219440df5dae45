-- What is kept of a volume stays so where frozen leaves are put in place.
use Rattle.std.proofs.Common.{◌≡◌, ℕ, suc, ◌+◌, ◌<◌, ◌≤◌, Bool, true, false, cond, Option, Some, None, List, [], ◌∷◌, ◌++◌, length, refl, sym, ap, ◌∙◌, subst, arith, append-nil, inl, inr}
use Rattle.std.specs.Prelude.{◌≢◌, ◌==◌, ◌⊎◌, All, IfSome, IsSome, option_map, slice_index_or}
use Rattle.std.specs.BTreeMap.{is_at}
use Rattle.std.specs.Ordering.{is_eq, nat_cmp, ordering_then}
use Rattle.std.proofs.lemmas.Bool.{eq-eqb, eqb-true, true≢false}
use Rattle.std.proofs.lemmas.Cmp.{nat_cmp_total, tied_itself}
use Rattle.std.proofs.lemmas.List.Elements.{All-cons, All-nil}
use Rattle.birth_index.specs.Births.{BirthsDiffer, birth_of, levels_of}
use Rattle.birth_index.specs.Exchanges.{AreBefore, exchanged, one_node, only_name}
use Rattle.birth_index.specs.NameLaws.{one_btree}
use Rattle.birth_index.specs.declared.name.Exchange.{Exchange}
use Rattle.birth_index.specs.declared.name.NodeName.{NodeName}
use Rattle.btree_map.specs.Trees.{with_exchanged}
use Rattle.bucket_pool.specs.Space.{emptied_all}
use Rattle.dirty_nodes.specs.Dirty.{AreMarked}
use Rattle.journal_writer.specs.Queues.{first_with}
use Rattle.journal_writer.specs.declared.stage.Stage.TheVariants.{CommitNodes}
use Rattle.journal_writer.specs.declared.writer.Flight.{Flight}
use Rattle.node_writeback.specs.Due.{root_of}
use Rattle.node_writeback.specs.Placing.{AreFrozenLeaves, exchanges_of, moved_pins, places_of}
use Rattle.node_writeback.specs.NodeWork.{frozen_nodes, left_nodes, no_work}
use Rattle.node_writeback.specs.declared.node.FrozenNode.{FrozenNode}
use Rattle.node_writeback.specs.declared.node.UnfinishedNode.{UnfinishedNode}
use Rattle.tree_nodes.specs.Levels.{IsTree, Levels, level_of}
use Rattle.vol_types.specs.Btrees.{btree_code}
use Rattle.vol_types.specs.Maps.{IsMap, value_at}
use Rattle.vol_types.specs.Positions.{greatest_pos, pos_cmp}
use Rattle.vol_types.specs.declared.pointers.NodePtr.{NodePtr}
use Rattle.vol_types.specs.declared.positions.Btree.{Btree}
use Rattle.core_volume.specs.Checkpoints.{AreInPlace, HasPlacingNumbers, IsNodeStage}
use Rattle.core_volume.specs.HoldLaws.{pinned-each}
use Rattle.core_volume.specs.Volumes.{ArePinnedFrom, HoldsBack, IsFlightHeld, IsFrozenKept, IsPinnedBy, IsVolume, Volume, needed_by, node_stage_of, undurable_in}
use Rattle.core_volume.proofs.Frozen.{EmptiedFixed, fixed-emptied_all, idle-placing, length-emptied_all}

-- The frozen leaf isn't that of a btree.
abbrev IsOfOther : Btree → FrozenNode → Type 0
IsOfOther btree node = node.btree ≢ btree

-- One of the frozen leaves is that of a btree.
record HasLeafOf (btree : Btree) (frozen : List FrozenNode) : Type 0 where
  node : FrozenNode
  place : ℕ
  there : place < length frozen
  at : slice_index_or frozen place node ≡ node
  same : node.btree ≡ btree

-- A frozen leaf is that of a btree, or none is.
leaf_of : (btree : Btree) (frozen : List FrozenNode) → HasLeafOf btree frozen ⊎ All (IsOfOther btree) frozen
leaf_of btree [] = inr (All-nil (IsOfOther btree))
leaf_of btree (node ∷ frozen) = by (btree_code node.btree == btree_code btree) refl (leaf_of btree frozen)
  where
    by : (b : Bool) → (btree_code node.btree == btree_code btree) ≡ b → HasLeafOf btree frozen ⊎ All (IsOfOther btree) frozen → HasLeafOf btree (node ∷ frozen) ⊎ All (IsOfOther btree) (node ∷ frozen)
    by true same rest = inl (record { node = node; place = 0; there = omega arith; at = refl; same = one_btree node.btree btree (eqb-true (btree_code node.btree) (btree_code btree) same) })
    by false apart (inl has) = let lt = has.there in inl (record { node = has.node; place = suc has.place; there = omega (arith, lt); at = has.at; same = has.same })
    by false apart (inr others) =
        inr (All-cons (IsOfOther btree) node frozen (λ same. true≢false (sym (eq-eqb (btree_code node.btree) (btree_code btree) (ap btree_code same)) ∙ apart)) others)

-- The greatest position is at itself.
at_greatest : is_at (pos_cmp greatest_pos) greatest_pos ≡ true
at_greatest =
    ap is_eq (λ i. ordering_then (tied_itself nat_cmp_total greatest_pos.inode i) (ordering_then (tied_itself nat_cmp_total greatest_pos.offset i) (tied_itself nat_cmp_total greatest_pos.snapshot i)))

-- The root of a btree that is one node has the birth of its only name.
root_born : (nodes : List Levels) (btree : Btree) (root : NodePtr) → levels_of nodes btree ≡ one_node root → birth_of nodes (only_name btree) ≡ Some root.birth
root_born nodes btree root alone =
    ap (λ (levels : Levels). option_map (λ (n : NodePtr). n.birth) (value_at pos_cmp greatest_pos (level_of levels 0))) alone
    ∙ ap (λ (b : Bool). option_map (λ (n : NodePtr). n.birth) (cond b (Some root) None)) at_greatest

module _ (old : Volume) (is : IsVolume old) (idle : old.work.unfinished ≡ None) where
  finished_all : frozen_nodes old.work ≡ old.work.finished
  finished_all = ap (λ (u : Option UnfinishedNode). old.work.finished ++ left_nodes u) idle ∙ append-nil old.work.finished

  -- Those that are written are all frozen leaves.
  pub leaves_are : AreFrozenLeaves old.trees.nodes old.pins old.work.finished
  leaves_are = subst (AreFrozenLeaves old.trees.nodes old.pins) finished_all is.work.leaves

  each_are : All (IsFrozenKept old) old.work.finished
  each_are = subst (All (IsFrozenKept old)) finished_all is.work.each

  abbrev pub nodes_now : List Levels
  nodes_now = exchanged (exchanges_of old.work.finished) old.trees.nodes

  abbrev pub pins_now : List (ℕ × ℕ)
  pins_now = moved_pins old.work.finished old.later old.pins

  -- No entry before the first one that is pinned changed a frozen leaf since it was frozen.
  later_from : (first : ℕ) → ArePinnedFrom first old.pins → All (λ (node : FrozenNode). IfSome (value_at nat_cmp node.birth old.later) (λ pin. first ≤ pin)) old.work.finished
  later_from first from place none lt = by (value_at nat_cmp birth old.later) refl (value_at nat_cmp birth old.pins) refl (leaves_are.each place none lt).pinned
    where
      birth : ℕ
      birth = (slice_index_or old.work.finished place none).birth

      by : (l : Option ℕ) → value_at nat_cmp birth old.later ≡ l → (p : Option ℕ) → value_at nat_cmp birth old.pins ≡ p → IsSome p → IfSome l (λ pin. first ≤ pin)
      by None later_is p pins_is some = tt
      by (Some l) later_is None pins_is some = absurd (true≢false (sym some))
      by (Some l) later_is (Some p) pins_is some =
          let le = (each_are place none lt).since p l pins_is later_is in let least = pinned-each first birth p old.pins from pins_is in omega (arith, le, least)

  -- no node pins an older entry than one, where none did
  abbrev pub KeepsLeast : Type 0
  KeepsLeast = (first : ℕ) → All (λ (node : FrozenNode). IfSome (value_at nat_cmp node.birth old.later) (λ pin. first ≤ pin)) old.work.finished → ArePinnedFrom first old.pins → ArePinnedFrom first pins_now

  held_now : KeepsLeast → HoldsBack old.writer pins_now
  held_now least = record {
    durable = least (needed_by old.writer.durable) (later_from (needed_by old.writer.durable) is.held_back.durable) is.held_back.durable;
    flight = by old.writer.flight is.held_back.flight;
  }
    where
      by : (o : Option Flight) → IfSome o (IsFlightHeld old.writer.durable old.pins) → IfSome o (IsFlightHeld old.writer.durable pins_now)
      by None held = tt
      by (Some flight) held = record { from = held.from; to = held.to; pinned = least flight.oldest (later_from flight.oldest held.pinned) held.pinned }

  -- what becomes of nodes and of what they pin
  pub record ArePlaced : Type 0 where
    pub leaves : All (λ (node : FrozenNode). levels_of nodes_now node.btree ≡ one_node node.fresh) old.work.finished
    pub others : (btree : Btree) → All (λ (node : FrozenNode). node.btree ≢ btree) old.work.finished → levels_of nodes_now btree ≡ levels_of old.trees.nodes btree
    pub pins : All (λ (node : FrozenNode). value_at nat_cmp node.fresh.birth pins_now ≡ value_at nat_cmp node.birth old.later) old.work.finished
    pub other_pins : (birth : ℕ) → All (λ (node : FrozenNode). (node.birth ≢ birth) × (node.fresh.birth ≢ birth)) old.work.finished → value_at nat_cmp birth pins_now ≡ value_at nat_cmp birth old.pins
    pub least : KeepsLeast

  module _ (differ : BirthsDiffer old.trees.nodes) (placed : ArePlaced) (btree : Btree) (root : NodePtr) (alone : levels_of nodes_now btree ≡ one_node root) where
    -- A root that was frozen pins what changed it since, and any other what it did.
    root_pinned : HasLeafOf btree old.work.finished ⊎ All (IsOfOther btree) old.work.finished → IsPinnedBy (first_with btree (undurable_in old)) (value_at nat_cmp root.birth pins_now)
    root_pinned (inl has) =
        let node = has.node in
        let here : levels_of nodes_now node.btree ≡ one_node node.fresh =
        subst (λ (n : FrozenNode). levels_of nodes_now n.btree ≡ one_node n.fresh) has.at (placed.leaves has.place node has.there) in
        let root_is : node.fresh ≡ root = ap root_of (sym here ∙ ap (levels_of nodes_now) has.same ∙ alone) in
        let kept : IsFrozenKept old node = subst (IsFrozenKept old) has.at (each_are has.place node has.there) in
        let pins_is : value_at nat_cmp node.fresh.birth pins_now ≡ value_at nat_cmp node.birth old.later =
        subst (λ (n : FrozenNode). value_at nat_cmp n.fresh.birth pins_now ≡ value_at nat_cmp n.birth old.later) has.at (placed.pins has.place node has.there) in
        subst (λ (r : NodePtr). IsPinnedBy (first_with btree (undurable_in old)) (value_at nat_cmp r.birth pins_now)) root_is
        (subst (IsPinnedBy (first_with btree (undurable_in old))) (sym pins_is)
        (subst (λ (b : Btree). IsPinnedBy (first_with b (undurable_in old)) (value_at nat_cmp node.birth old.later)) has.same kept.later))
    root_pinned (inr apart) =
        let before : levels_of old.trees.nodes btree ≡ one_node root = sym (placed.others btree apart) ∙ alone in
        let own : birth_of old.trees.nodes (only_name btree) ≡ Some root.birth = root_born old.trees.nodes btree root before in
        let stays : value_at nat_cmp root.birth pins_now ≡ value_at nat_cmp root.birth old.pins = placed.other_pins root.birth
        (λ place none lt.
        let node = slice_index_or old.work.finished place none in
        let leaf = leaves_are.each place none lt in (
          (λ same. apart place none lt (ap (λ (n : NodeName). n.btree) (differ (only_name node.btree) (only_name btree) root.birth (root_born old.trees.nodes node.btree leaf.root leaf.alone ∙ ap Some (leaf.birth ∙ same)) own))),
          (λ same. leaf.unused (only_name btree) (own ∙ ap Some (sym same))),
        )) in
        subst (IsPinnedBy (first_with btree (undurable_in old))) (sym stays) (is.pinned btree root before)

  -- A volume in which frozen leaves were put in place is kept.
  pub placed-kept : BirthsDiffer old.trees.nodes → ArePlaced → AreMarked nodes_now pins_now (moved_pins old.work.finished old.later old.marks)
      → ((nodes : List Levels) (pins : List (ℕ × ℕ)) → AreFrozenLeaves nodes pins []) → EmptiedFixed → (replaced : List Exchange) (sequence changes : ℕ)
      → IsVolume (record old {
        trees = with_exchanged (exchanges_of old.work.finished) old.trees;
        pins = pins_now;
        marks = moved_pins old.work.finished old.later old.marks;
        later = [];
        space = emptied_all (places_of replaced) sequence old.space;
        work = no_work old.work.born;
        emptied = sequence;
        changes = changes;
      })
  placed-kept differ placed marked none emptied_fixed replaced sequence changes = record {
    placed = is.placed;
    mirrors = is.mirrors;
    devices = length-emptied_all (places_of replaced) sequence old.space ∙ is.devices;
    fixed = fixed-emptied_all emptied_fixed old.layout (places_of replaced) sequence old.space is.fixed;
    ring = is.ring;
    in_turn = is.in_turn;
    marked = marked;
    held_back = held_now placed.least;
    pinned = λ btree root alone. root_pinned differ placed btree root alone (leaf_of btree old.work.finished);
    work = record { leaves = none nodes_now pins_now; each = All-nil (IsFrozenKept _) };
    durable_keys = is.durable_keys;
    are_keys = is.are_keys;
    stand = is.stand;
    lead = is.lead;
  }

-- the laws of frozen leaves that are put in place
pub record PlacingLaws : Type 0 where
  pub leaves : (nodes : List Levels) (pins : List (ℕ × ℕ)) (frozen : List FrozenNode) → AreFrozenLeaves nodes pins frozen → All (λ (node : FrozenNode). levels_of (exchanged (exchanges_of frozen) nodes) node.btree ≡ one_node node.fresh) frozen
  pub others : (nodes : List Levels) (frozen : List FrozenNode) (btree : Btree) → All (λ (node : FrozenNode). node.btree ≢ btree) frozen → levels_of (exchanged (exchanges_of frozen) nodes) btree ≡ levels_of nodes btree
  pub pins : (nodes : List Levels) (pins later : List (ℕ × ℕ)) (frozen : List FrozenNode) → IsMap nat_cmp pins → BirthsDiffer nodes → AreFrozenLeaves nodes pins frozen
      → All (λ (node : FrozenNode). value_at nat_cmp node.fresh.birth (moved_pins frozen later pins) ≡ value_at nat_cmp node.birth later) frozen
  pub other_pins : (pins later : List (ℕ × ℕ)) (frozen : List FrozenNode) (birth : ℕ) → IsMap nat_cmp pins → All (λ (node : FrozenNode). (node.birth ≢ birth) × (node.fresh.birth ≢ birth)) frozen
      → value_at nat_cmp birth (moved_pins frozen later pins) ≡ value_at nat_cmp birth pins
  pub least : (first : ℕ) (pins later : List (ℕ × ℕ)) (frozen : List FrozenNode) → All (λ (node : FrozenNode). IfSome (value_at nat_cmp node.birth later) (λ pin. first ≤ pin)) frozen → ArePinnedFrom first pins → ArePinnedFrom first (moved_pins frozen later pins)
  pub marked : (nodes : List Levels) (pins marks later : List (ℕ × ℕ)) (frozen : List FrozenNode) → BirthsDiffer nodes → ((btree : Btree) → IsTree (levels_of nodes btree)) → IsMap nat_cmp pins → IsMap nat_cmp marks → AreMarked nodes pins marks
      → AreFrozenLeaves nodes pins frozen → AreMarked (exchanged (exchanges_of frozen) nodes) (moved_pins frozen later pins) (moved_pins frozen later marks)
  pub none : (nodes : List Levels) (pins : List (ℕ × ℕ)) → AreFrozenLeaves nodes pins []
  pub emptied_fixed : EmptiedFixed

-- What is known of a volume's nodes and pins beside what is kept.
pub record AreKnown (old : Volume) : Type 0 where
  pub differ : BirthsDiffer old.trees.nodes
  pub trees : (btree : Btree) → IsTree (levels_of old.trees.nodes btree)
  pub pins_rise : IsMap nat_cmp old.pins
  pub marks_rise : IsMap nat_cmp old.marks

-- a volume in which frozen leaves are in place, and others were replaced
abbrev pub in_place : List Exchange → Volume → Volume
in_place replaced old = record old {
  trees = with_exchanged (exchanges_of old.work.finished) old.trees;
  pins = moved_pins old.work.finished old.later old.pins;
  marks = moved_pins old.work.finished old.later old.marks;
  later = [];
  space = emptied_all (places_of replaced) (old.queue.open_entry.after + 1) old.space;
  work = no_work old.work.born;
  emptied = old.queue.open_entry.after + 1;
  changes = old.changes + 1;
}

-- Such a volume is kept.
pub in_place-kept : PlacingLaws → (old : Volume) → IsVolume old → node_stage_of old ≡ CommitNodes → AreKnown old → (replaced : List Exchange) (new : Volume) → new ≡ in_place replaced old → IsVolume new
in_place-kept laws old is stage known replaced new made =
    let idle = idle-placing old stage in
    let leaves = leaves_are old is idle in
    let frozen = old.work.finished in
    subst IsVolume (sym made)
    (placed-kept old is idle known.differ
    (record {
      leaves = laws.leaves old.trees.nodes old.pins frozen leaves;
      others = λ btree apart. laws.others old.trees.nodes frozen btree apart;
      pins = laws.pins old.trees.nodes old.pins old.later frozen known.pins_rise known.differ leaves;
      other_pins = λ birth apart. laws.other_pins old.pins old.later frozen birth known.pins_rise apart;
      least = λ first each from. laws.least first old.pins old.later frozen each from;
    })
    (laws.marked old.trees.nodes old.pins old.marks old.later frozen known.differ known.trees known.pins_rise known.marks_rise is.marked leaves)
    laws.none laws.emptied_fixed replaced (old.queue.open_entry.after + 1) (old.changes + 1))

-- What putting in place made is told of the volume as it was seen.
pub placed-told : (old seen new : Volume) → old ≡ seen → IsNodeStage CommitNodes seen → HasPlacingNumbers seen → (replaced : List Exchange) → AreBefore old.trees.nodes (exchanges_of old.work.finished) replaced
    → new ≡ in_place replaced old → AreInPlace seen new
placed-told old seen new same stage numbers replaced before rest =
    subst (λ (v : Volume). IsNodeStage CommitNodes v → HasPlacingNumbers v → AreInPlace v new) same (λ s n. record { stage = s; numbers = n; replaced = replaced; before = before; rest = rest }) stage numbers
