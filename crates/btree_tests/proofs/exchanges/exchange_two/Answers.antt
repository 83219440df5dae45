use Rattle.std.proofs.Common.{◌≡◌, ◌+◌, [], ◌∷◌, Some, ap, sym, ◌∙◌, arith}
use Rattle.std.proofs.lemmas.List.Elements.{All-cons, All-nil}
use Rattle.birth_index.specs.ExchangeLaws.{exchange-named, exchanges-cons, exchanges-none}
use Rattle.birth_index.specs.Exchanges.{AreOfOtherNodes, only_name}
use Rattle.birth_index.specs.declared.name.NodeName.{NodeName}
use Rattle.vol_types.specs.Btrees.{btree_code}
use Rattle.vol_types.specs.declared.positions.Btree.TheVariants.{Counters, Dirents}
use Rattle.btree_tests.proofs.exchanges.exchange_two.Goals as goal

pub exchange-requires : goal.exchange-requires
exchange-requires c =
    let nodes = c.args.map.now.nodes in
    let birth = c.args.birth in
    let first = c.in_ok-first.first in
    let second = c.in_ok-second.second in
    let unused = c.are_unused.ensures.free c.if-not-are_unused.false in
    let codes = λ (same : first.name ≡ second.name). ap (λ (name : NodeName). btree_code name.btree) (sym c.in_ok-first.ensures.name ∙ same ∙ c.in_ok-second.ensures.name) in
    let apart : AreOfOtherNodes first second = record {
      names = λ same. omega (arith, codes same);
      births = λ same. omega (arith, same, c.in_ok-first.ensures.born, c.in_ok-second.ensures.born);
    } in
    exchanges-cons nodes first (second ∷ [])
    (exchange-named nodes (only_name Dirents) birth first c.in_ok-first.ensures.name c.in_ok-first.ensures.node c.in_ok-first.ensures.born (c.has_node.ensures c.if-not-has_node.false) (λ other has. unused other 0 (omega arith) (has ∙ ap Some (omega arith))))
    (All-cons (AreOfOtherNodes first) second [] apart (All-nil (AreOfOtherNodes first)))
    (exchanges-cons nodes second []
    (exchange-named nodes (only_name Counters) (birth + 1) second c.in_ok-second.ensures.name c.in_ok-second.ensures.node c.in_ok-second.ensures.born (c.has_node-2.ensures c.if-not-has_node-2.false) (λ other has. unused other 1 (omega arith) has))
    (All-nil (AreOfOtherNodes second)) (exchanges-none nodes))
