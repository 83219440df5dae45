use Rattle.std.proofs.Common.{◌≡◌, [], ◌∷◌, ap, sym, ◌∙◌, arith}
use Rattle.std.proofs.lemmas.List.Elements.{All-cons, All-nil}
use Rattle.birth_index.specs.ExchangeLaws.{exchange-named, exchanges-cons, exchanges-none}
use Rattle.birth_index.specs.Exchanges.{AreOfOtherNodes, only_name}
use Rattle.birth_index.specs.declared.name.NodeName.{NodeName}
use Rattle.vol_types.specs.Btrees.{btree_code}
use Rattle.btree_tests.proofs.births.exchange_two.Goals as goal

pub exchange-requires : goal.exchange-requires
exchange-requires c =
    let nodes = c.args.nodes.now in
    let first = c.in_ok-first.first in
    let second = c.in_ok-second.second in
    let codes = λ (same : first.name ≡ second.name). ap (λ (name : NodeName). btree_code name.btree) (sym c.in_ok-first.ensures.name ∙ same ∙ c.in_ok-second.ensures.name) in
    let apart : AreOfOtherNodes first second = record {
      names = λ same. omega (arith, codes same, c.if-code.false, c.code.ensures, c.code-2.ensures);
      births = λ same. omega (arith, same, c.in_ok-first.ensures.born, c.in_ok-second.ensures.born);
    } in
    exchanges-cons nodes first (second ∷ [])
    (exchange-named nodes (only_name c.args.one) 31 first c.in_ok-first.ensures.name c.in_ok-first.ensures.node c.in_ok-first.ensures.born (c.may_get.ensures.there c.if-not-may_get.false) (c.may_get.ensures.free c.if-not-may_get.false))
    (All-cons (AreOfOtherNodes first) second [] apart (All-nil (AreOfOtherNodes first)))
    (exchanges-cons nodes second []
    (exchange-named nodes (only_name c.args.other) 32 second c.in_ok-second.ensures.name c.in_ok-second.ensures.node c.in_ok-second.ensures.born (c.may_get-2.ensures.there c.if-not-may_get-2.false) (c.may_get-2.ensures.free c.if-not-may_get-2.false))
    (All-nil (AreOfOtherNodes second)) (exchanges-none nodes))
