-- Each key is that of its number, and all are those of the fresh keys.
use Rattle.std.proofs.Common.{◌≡◌, ◌∷◌, [], ◌++◌, ℕ, List, map, ap, sym, ◌∙◌, arith}
use Rattle.std.specs.List.{range_with_len}
use Rattle.std.proofs.lemmas.List.FromFn.{map-range_with_len_more}
use Rattle.vol_types.specs.KeyMaps.{key_of}
use Rattle.vol_types.specs.declared.keys.Key.{Key}
use Rattle.vol_types.specs.declared.values.Value.TheVariants as values
use Rattle.key_meaning.specs.Fresh.{at_offset}
use Rattle.vol_format.proofs.CounterKeys.{all_counters, counter_key}
use Rattle.vol_format.proofs.fresh.counter_keys.Goals as goal

pub loop-counter-init : goal.loop-counter-init
loop-counter-init c = record { keys = c.new-keys.ensures; few = omega arith }

pub loop-counter-preserved : goal.loop-counter-preserved
loop-counter-preserved c =
    let counter : ℕ = c.loop-counter.counter in
    let before : List Key = map counter_key (range_with_len 0 counter) in
    record {
      keys = c.in_ok-push.ensures.ok
          ∙ ap (λ (keys : List Key). keys ++ c.key_at.result ∷ []) c.loop-counter.invariant.keys
          ∙ ap (λ (key : Key). before ++ key ∷ []) c.key_at.ensures
          ∙ ap (λ (next : ℕ). before ++ key_of (at_offset counter (values.Counter next)) ∷ []) c.first_count.ensures
          ∙ sym (map-range_with_len_more counter_key 0 counter counter (omega arith));
      few = omega (arith, c.loop-counter-test.true);
    }

pub returns : goal.returns
returns c = c.loop-counter.invariant.keys ∙ ap (λ (n : ℕ). map counter_key (range_with_len 0 n)) (let e : c.loop-counter.counter ≡ 17 = omega (arith, c.loop-counter-test.false, c.loop-counter.invariant.few) in e) ∙ all_counters
