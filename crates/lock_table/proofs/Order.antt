-- The order of nodes is total, and no node stands above itself.
use Rattle.std.proofs.Common.{◌≡◌, sym, ◌∙◌}
use Rattle.std.specs.Cmp.{IsTotalOrder}
use Rattle.std.proofs.lemmas.Cmp.{on_total, then_total, back_total, nat_cmp_total, tied_itself}
use Rattle.std.specs.declared.cmp.Ordering.TheVariants.{Less, Equal}
use Rattle.vol_types.specs.PositionLaws.{pos_total}
use Rattle.vol_types.specs.Btrees.{btree_code}
use Rattle.lock_table.specs.Names.{name_cmp, IsBelow}
use Rattle.lock_table.specs.declared.name.NodeName.{NodeName}

-- nodes are in a total order
pub name_total : IsTotalOrder name_cmp
name_total =
    then_total (on_total (λ n. btree_code n.btree) nat_cmp_total)
    (then_total (on_total (λ n. n.level) (back_total nat_cmp_total)) (then_total (on_total (λ n. n.greatest) pos_total) (on_total (λ n. n.birth) nat_cmp_total)))

-- from one node to a higher one, and from there on
pub below_trans : (l n m : NodeName) → IsBelow l n → IsBelow n m → IsBelow l m
below_trans l n m first second = name_total.trans l n m first second

-- no node stands above itself
pub not_below_itself : (n : NodeName) → IsBelow n n → ⊥
not_below_itself n below = let e : Less ≡ Equal = sym below ∙ tied_itself name_total n in cc
