-- Each root is that of its number.
use Rattle.std.proofs.Common.{◌∷◌, [], ◌++◌, ℕ, List, map, ap, sym, ◌∙◌, arith}
use Rattle.std.specs.List.{range_with_len}
use Rattle.std.proofs.lemmas.List.FromFn.{map-range_with_len_more}
use Rattle.vol_types.specs.declared.pointers.NodePtr.{NodePtr}
use Rattle.vol_format.specs.Fresh.{fresh_root}
use Rattle.vol_format.proofs.fresh.roots_of.Goals as goal

pub loop-number-preserved : goal.loop-number-preserved
loop-number-preserved c =
    let root : ℕ → NodePtr = fresh_root c.args.layout.now in
    let number : ℕ = c.loop-number.number in
    record {
      roots = c.in_ok-push.ensures.ok
          ∙ ap (λ (roots : List NodePtr). roots ++ c.in_ok-root_of.field-0 ∷ []) c.loop-number.invariant.roots
          ∙ ap (λ (one : NodePtr). map root (range_with_len 0 number) ++ one ∷ []) c.in_ok-root_of.ensures.root
          ∙ sym (map-range_with_len_more root 0 number number (omega arith));
      few = omega (arith, c.loop-number-test.true);
    }
