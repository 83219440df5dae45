use Rattle.std.proofs.Common.{◌∙◌, ◌++◌, ◌∷◌, [], List, ℕ, map, ap, sym, arith}
use Rattle.std.proofs.lemmas.List.FromFn.{map-range_with_len_more}
use Rattle.std.specs.List.{range_with_len}
use Rattle.core_volume.specs.Volumes.{held_on}
use Rattle.core_volume.proofs.space.held_counts.Goals as goal

pub loop-dev-preserved : goal.loop-dev-preserved
loop-dev-preserved c =
    let dev = c.loop-dev.dev in
    c.in_ok-push.ensures.ok ∙ ap (λ (list : List ℕ). list ++ c.held_on.result ∷ []) c.loop-dev.invariant
    ∙ ap (λ (n : ℕ). map (held_on c.args.volume.now) (range_with_len 0 dev) ++ n ∷ []) c.held_on.ensures
    ∙ sym (map-range_with_len_more (held_on c.args.volume.now) 0 dev dev (omega arith))
