-- Each name leads on, or the walk ends where it leads nowhere.
use Rattle.std.proofs.Common.{◌∙◌, ◌+◌, sym, ap, ℕ, drop, arith}
use Rattle.std.specs.Prelude.{Result}
use Rattle.forest_ops.specs.Refusals.{◌>>=◌}
use Rattle.forest_ops.specs.declared.operation.Cause.{Cause}
use Rattle.path_plan.specs.LookLaws.{looks_then, seen_before}
use Rattle.path_plan.specs.PathLaws.{walk_step}
use Rattle.path_plan.specs.Looking.{lead_to}
use Rattle.path_plan.proofs.walking.walk.Goals as goal

pub returns-in-Err-clause-found : goal.returns-in-Err-clause-found
returns-in-Err-clause-found g c = λ keys seen.
    let made = g.V.View.made in
    let a = c.args in
    let before = seen_before keys (made c.loop-name.view) (made c.named.new.view) a.tree.now c.in_ok-next.ensures.looks seen in
    ap (λ (to : Result ℕ Cause). to >>= (λ next. lead_to keys a.sub.now.id (drop (c.loop-name.name-index + 1) a.names.now) next)) (sym c.in-Err.is ∙ c.in_ok-next.ensures.found keys seen)
    ∙ sym (walk_step keys a.sub.now.id a.names.now c.loop-name.name-index (c.loop-name.name-index + 1) c.loop-name.number c.name-item.result c.loop-name-test.true (omega arith) c.name-item.is)
    ∙ c.loop-name.invariant.0 keys before

pub loop-name-preserved : goal.loop-name-preserved
loop-name-preserved g c =
    let made = g.V.View.made in
    let a = c.args in
    let looks = c.in_ok-next.ensures.looks in (
      (λ keys seen.
          let before = seen_before keys (made c.loop-name.view) (made c.named.new.view) a.tree.now looks seen in
          ap (λ (to : Result ℕ Cause). to >>= (λ next. lead_to keys a.sub.now.id (drop (c.loop-name.name-index + 1) a.names.now) next)) (sym c.in-Ok.is ∙ c.in_ok-next.ensures.found keys seen)
          ∙ sym (walk_step keys a.sub.now.id a.names.now c.loop-name.name-index (c.loop-name.name-index + 1) c.loop-name.number c.name-item.result c.loop-name-test.true (omega arith) c.name-item.is)
          ∙ c.loop-name.invariant.0 keys before),
      looks_then (made a.view.now) (made c.loop-name.view) (made c.named.new.view) c.loop-name.invariant.1 looks,
      c.in_ok-next.ensures.ids ∙ c.loop-name.invariant.2,
    )

pub returns-in-Err-clause-looks : goal.returns-in-Err-clause-looks
returns-in-Err-clause-looks g c =
    let made = g.V.View.made in
    looks_then (made c.args.view.now) (made c.loop-name.view) (made c.named.new.view) c.loop-name.invariant.1 c.in_ok-next.ensures.looks

pub returns-in_err-next-clause-looks : goal.returns-in_err-next-clause-looks
returns-in_err-next-clause-looks g c =
    let made = g.V.View.made in
    looks_then (made c.args.view.now) (made c.loop-name.view) (made c.named.new.view) c.loop-name.invariant.1 c.in_err-next.ensures.looks
