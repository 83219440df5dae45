use Rattle.std.proofs.Common.{◌+◌, ◌*◌, cond, Some, refl, sym, ap, ◌∙◌, arith}
use Rattle.std.specs.Prelude.{slice_set}
use Rattle.std.proofs.lemmas.Bool.{eq-eqb, ne_eqb}
use Rattle.inode_keys.proofs.Drawing.{counts_to, if_drawn, next_in-forest, sets_counter}
use Rattle.inode_keys.specs.Draws.{CountsOne, IsNewNumber, counter_update}
use Rattle.key_meaning.specs.Forest.{counter_in, forest_in, next_in}
use Rattle.key_meaning.specs.Tidy.{IsDrawn}
use Rattle.plain_forest.specs.Steps.{numbers_per_client}
use Rattle.vol_types.specs.KeyMaps.{with_update, with_updates}
use Rattle.inode_keys.proofs.numbers.draws_are_counted.Goals as goal

pub returns : goal.returns
returns c = record {
  counts = λ keys client lt is.
      let next = next_in keys client in
      let update = counter_update client (next + 1) in
      let put = c.counters_are_updated.ensures.put update keys is refl client (next + 1) refl refl in
      if_drawn client next (λ _ updates. CountsOne keys (with_updates updates keys) client) (λ more. record {
        counter = put client ∙ ap (λ b. cond b (Some (next + 1)) (counter_in keys client)) (eq-eqb client client refl);
        others = λ other apart. put other ∙ ap (λ b. cond b (Some (next + 1)) (counter_in keys other)) (ne_eqb client other (λ same. apart (sym same)));
        shows = c.counters_are_raised.ensures.shows update keys is client (next + 1) (sets_counter client (next + 1));
        forest = λ read. c.counters_are_updated.ensures.client update keys is refl client (next + 1) refl refl read lt
            ∙ ap (λ n. record (forest_in keys read) { next = slice_set (forest_in keys read).next client (n + 1) }) (sym (next_in-forest keys client read lt));
      });
  drawn = λ keys client lt is. if_drawn client (next_in keys client) (λ number updates. IsDrawn (with_updates updates keys) number)
      (λ more. c.counters_are_raised.ensures.now (counter_update client (next_in keys client + 1)) keys is client (next_in keys client + 1) (sets_counter client (next_in keys client + 1)) (counts_to keys client lt more) (next_in keys client) (omega arith));
  new = λ keys client lt is drawn. if_drawn client (next_in keys client) (λ number updates. IsNewNumber (with_updates updates keys) number)
      (λ more.
      let update = counter_update client (next_in keys client + 1) in
      let number = client * numbers_per_client + next_in keys client in
      let unused = c.counters_are_raised.ensures.unused update keys is client (next_in keys client + 1) (sets_counter client (next_in keys client + 1)) number (c.numbers_are_drawn_upwards.ensures.unused keys client (next_in keys client) drawn (omega arith) more) in
      record { unused = unused; nowhere = c.numbers_are_drawn_upwards.ensures.nowhere (with_update update keys) number unused });
}
