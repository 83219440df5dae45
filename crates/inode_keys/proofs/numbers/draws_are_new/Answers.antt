use Rattle.std.proofs.Common.{◌≡◌, ◌+◌, ◌*◌, sym, ap, subst, true, arith}
use Rattle.std.specs.Prelude.{◌↔◌, nat_le}
use Rattle.inode_keys.proofs.Drawing.{if_drawn, next_in-forest, spent_at_end, spent_where}
use Rattle.inode_keys.specs.Draws.{IsNewNumber, draw_in}
use Rattle.inode_keys.specs.declared.numbers.Draw.TheVariants.{Spent}
use Rattle.key_meaning.specs.Forest.{forest_in, next_in}
use Rattle.plain_forest.specs.Steps.{next_number, numbers_per_client}
use Rattle.inode_keys.proofs.numbers.draws_are_new.Goals as goal

pub returns : goal.returns
returns c = record {
  forest = λ keys client read lt. record {
    number = if_drawn client (next_in keys client) (λ number _. number ≡ next_number client (forest_in keys read)) (λ more. ap (λ n. client * numbers_per_client + n) (sym (next_in-forest keys client read lt)));
    spent = subst (λ n. (draw_in keys client ≡ Spent) ↔ (nat_le numbers_per_client n ≡ true)) (sym (next_in-forest keys client read lt)) (spent_where client (next_in keys client));
  };
  at_end = spent_at_end;
  new = λ keys client drawn. if_drawn client (next_in keys client) (λ number _. IsNewNumber keys number)
      (λ more. let unused = c.numbers_are_drawn_upwards.ensures.unused keys client (next_in keys client) drawn (omega arith) more in
      record { unused = unused; nowhere = c.numbers_are_drawn_upwards.ensures.nowhere keys (client * numbers_per_client + next_in keys client) unused });
}
