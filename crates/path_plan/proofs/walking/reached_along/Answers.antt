-- The walk from the root of the subvolume of the path, or why there is none.
use Rattle.std.proofs.Common.{◌∙◌, ap, sym, ℕ}
use Rattle.std.specs.Prelude.{Ok, Result}
use Rattle.forest_ops.specs.Refusals.{◌>>=◌}
use Rattle.forest_ops.specs.declared.operation.Cause.{Cause}
use Rattle.path_plan.specs.LookLaws.{gave_before}
use Rattle.path_plan.specs.Looking.{lead_to}
use Rattle.vol_types.specs.declared.values.Sub.{Sub}
use Rattle.path_plan.proofs.walking.reached_along.Goals as goal

pub returns-in-Err-clause-found : goal.returns-in-Err-clause-found
returns-in-Err-clause-found g c = λ keys seen.
    ap (λ (r : Result Sub Cause). r >>= (λ sub. lead_to keys sub.id c.args.names.now sub.root >>= (λ number. Ok (record { sub = sub; number = number })))) (sym c.in-Err.is ∙ c.in_ok-sub.ensures.found keys seen.gives)

pub returns-in-Ok-2-clause-found : goal.returns-in-Ok-2-clause-found
returns-in-Ok-2-clause-found g c = λ keys seen.
    let made = g.V.View.made in
    let before = gave_before keys (made c.subvolume_of.new.view) (made c.walk.new.view) c.in_ok-number.ensures.looks seen.gives in
    ap (λ (r : Result ℕ Cause). r >>= (λ number. Ok (record { sub = c.in-Ok.sub; number = number }))) (sym c.in-Ok-2.is ∙ c.in_ok-number.ensures.found keys seen)
    ∙ ap (λ (r : Result Sub Cause). r >>= (λ sub. lead_to keys sub.id c.args.names.now sub.root >>= (λ number. Ok (record { sub = sub; number = number })))) (sym c.in-Ok.is ∙ c.in_ok-sub.ensures.found keys before)

pub returns-in-Err-2-clause-found : goal.returns-in-Err-2-clause-found
returns-in-Err-2-clause-found g c = λ keys seen.
    let made = g.V.View.made in
    let before = gave_before keys (made c.subvolume_of.new.view) (made c.walk.new.view) c.in_ok-number.ensures.looks seen.gives in
    ap (λ (r : Result ℕ Cause). r >>= (λ number. Ok (record { sub = c.in-Ok.sub; number = number }))) (sym c.in-Err-2.is ∙ c.in_ok-number.ensures.found keys seen)
    ∙ ap (λ (r : Result Sub Cause). r >>= (λ sub. lead_to keys sub.id c.args.names.now sub.root >>= (λ number. Ok (record { sub = sub; number = number })))) (sym c.in-Ok.is ∙ c.in_ok-sub.ensures.found keys before)
