-- Nodes that are put in place keep the births of all nodes below a bound, where their own are.
use Rattle.std.proofs.Common.{◌≡◌, ◌<◌, ◌++◌, ℕ, Bool, true, false, Option, Some, None, List, [], ◌∷◌, refl, sym, ap, subst, ◌∙◌}
use Rattle.std.specs.Prelude.{All, option_map}
use Rattle.std.proofs.lemmas.List.{append-nil}
use Rattle.std.proofs.lemmas.List.Elements.{All-cons, All-head, All-nil, All-tail}
use Rattle.std.proofs.lemmas.Option.{same_Some}
use Rattle.birth_index.specs.Births.{node_of}
use Rattle.birth_index.specs.ExchangeLaws.{exchanges-cons, exchanges-head, exchanges-later, exchanges-none, node_of-named, other-with_pointer}
use Rattle.birth_index.specs.Exchanges.{AreOfOtherNodes, AreExchanges, IsExchange, exchanged, with_pointer}
use Rattle.birth_index.specs.NameLaws.{names_apart, one_name, same_name}
use Rattle.birth_index.specs.declared.name.Exchange.{Exchange}
use Rattle.birth_index.specs.declared.name.NodeName.{NodeName}
use Rattle.core_volume.specs.Volumes.{IsFrozenKept, IsWorkKept, Volume}
use Rattle.node_writeback.specs.Freezing.{next_birth}
use Rattle.node_writeback.specs.Placing.{AreFrozenLeaves, exchange_of, exchanges_of}
use Rattle.node_writeback.specs.NodeWork.{frozen_nodes, left_nodes}
use Rattle.node_writeback.specs.declared.node.FrozenNode.{FrozenNode}
use Rattle.node_writeback.specs.declared.node.UnfinishedNode.{UnfinishedNode}
use Rattle.tree_nodes.specs.Levels.{Levels}
use Rattle.vol_types.specs.declared.pointers.NodePtr.{NodePtr}
use Rattle.vol_session.specs.Numbers.{AreBornBefore}

-- the birth of a node, if there is one
abbrev birth_in : Option NodePtr → Option ℕ
birth_in o = option_map (λ (node : NodePtr). node.birth) o

-- The pointer that comes was born before.
abbrev IsBornBefore : ℕ → Exchange → Type 0
IsBornBefore bound change = change.pointer.birth < bound

module _ (nodes : List Levels) (change : Exchange) (is : IsExchange nodes change) (bound : ℕ) (own : IsBornBefore bound change) (before : AreBornBefore nodes bound) where
  pointed : node_of (with_pointer change nodes) change.name ≡ Some change.pointer
  pointed =
      All-head (λ (c : Exchange). node_of (with_pointer change nodes) c.name ≡ Some c.pointer) change []
      (node_of-named nodes (change ∷ []) (exchanges-cons nodes change [] is (All-nil (AreOfOtherNodes change)) (exchanges-none nodes)))

  born-one : AreBornBefore (with_pointer change nodes) bound
  born-one name birth has = by (same_name change.name name) refl
    where
      by : (same : Bool) → same_name change.name name ≡ same → birth < bound
      by true same =
          let here : change.pointer.birth ≡ birth =
          same_Some change.pointer.birth birth (ap birth_in (sym pointed) ∙ ap (λ (n : NodeName). birth_in (node_of (with_pointer change nodes) n)) (one_name change.name name same) ∙ has) in
          subst (λ (n : ℕ). n < bound) here own
      by false apart = before name birth (ap birth_in (sym (other-with_pointer nodes change is name (names_apart change.name name apart))) ∙ has)

born-exchanged : (changes : List Exchange) (nodes : List Levels) (bound : ℕ) → AreExchanges nodes changes → All (IsBornBefore bound) changes → AreBornBefore nodes bound → AreBornBefore (exchanged changes nodes) bound
born-exchanged [] nodes bound are own before = before
born-exchanged (change ∷ changes) nodes bound are own before =
    born-exchanged changes (with_pointer change nodes) bound (exchanges-later nodes change changes are) (All-tail (IsBornBefore bound) change changes own)
    (born-one nodes change (exchanges-head nodes change changes are) bound (All-head (IsBornBefore bound) change changes own) before)

-- What frozen nodes are exchanged for was born before, where they were.
born-frozen : (frozen : List FrozenNode) (bound : ℕ) → All (λ (node : FrozenNode). node.fresh.birth < bound) frozen → All (IsBornBefore bound) (exchanges_of frozen)
born-frozen [] bound all = All-nil (IsBornBefore bound)
born-frozen (node ∷ frozen) bound all =
    let P : FrozenNode → Type 0 = λ node. node.fresh.birth < bound in
    All-cons (IsBornBefore bound) (exchange_of node) (exchanges_of frozen) (All-head P node frozen all) (born-frozen frozen bound (All-tail P node frozen all))

-- Frozen leaves may be exchanged for what was written of them: the clause `exchanges` of `leaves_are_put_in_place`.
abbrev pub MayBeExchanged : Type 0
MayBeExchanged = (nodes : List Levels) (pins : List (ℕ × ℕ)) (frozen : List FrozenNode) → AreFrozenLeaves nodes pins frozen → AreExchanges nodes (exchanges_of frozen)

-- Where no node is left to be written, all frozen nodes are written.
all_finished : (volume : Volume) → volume.work.unfinished ≡ None → frozen_nodes volume.work ≡ volume.work.finished
all_finished volume none = ap (λ (u : Option UnfinishedNode). volume.work.finished ++ left_nodes u) none ∙ append-nil volume.work.finished

-- The nodes of a volume are born before its next one, and so they are once the frozen leaves are in place.
pub born-placed : (laws : MayBeExchanged) (volume : Volume) → IsWorkKept volume → volume.work.unfinished ≡ None → AreBornBefore volume.trees.nodes (next_birth volume.session volume.work.born)
    → AreBornBefore (exchanged (exchanges_of volume.work.finished) volume.trees.nodes) (next_birth volume.session volume.work.born)
born-placed laws volume kept none before =
    let bound : ℕ = next_birth volume.session volume.work.born in
    let all : frozen_nodes volume.work ≡ volume.work.finished = all_finished volume none in
    born-exchanged (exchanges_of volume.work.finished) volume.trees.nodes bound
    (laws volume.trees.nodes volume.pins volume.work.finished (subst (AreFrozenLeaves volume.trees.nodes volume.pins) all kept.leaves))
    (born-frozen volume.work.finished bound (λ place none lt. (subst (All (IsFrozenKept volume)) all kept.each place none lt).born))
    before
