use Rattle.std.proofs.Common.{◌≡◌, ◌++◌, ◌∷◌, [], ◌∙◌, ℕ, List, refl, ap, get_or, map, sym}
use Rattle.std.proofs.lemmas.List.{get_or_default}
use Rattle.key_triggers.proofs.Looking.{gave_before, goes_further, goes_nowhere}
use Rattle.key_triggers.proofs.Looping.{mapped_next, no_pointer}
use Rattle.key_triggers.specs.Stamps.{stamped_pointer}
use Rattle.vol_types.specs.declared.pointers.Pointer.{Pointer}
use Rattle.key_triggers.proofs.stamps.stamp_pointers.Goals as goal

pub loop-pointer-init : goal.loop-pointer-init
loop-pointer-init g c = record { stamps = λ keys gives. ap (λ (ps : List Pointer). ps ++ map (stamped_pointer keys) c.args.pointers.now) c.new-stamps.ensures; looks = goes_nowhere (g.V.View.made c.args.view.now); ids = refl }

pub loop-pointer-preserved : goal.loop-pointer-preserved
loop-pointer-preserved g c =
    let made = g.V.View.made in
    let pointers = c.args.pointers.now in
    let i = c.loop-pointer.pointer-index in
    let pointer : Pointer = get_or pointers i no_pointer in
    let at : get_or pointers i pointer ≡ pointer = get_or_default pointers i pointer no_pointer c.loop-pointer-test.true in
    record {
      stamps = λ keys gives.
          mapped_next (stamped_pointer keys) pointers i pointer c.loop-pointer.stamps c.push.new.self (map (stamped_pointer keys) pointers)
          c.loop-pointer-test.true (sym at)
          (c.in_ok-push.ensures.ok ∙ ap (λ (n : ℕ). c.loop-pointer.stamps ++ record { place = pointer.place; generation = n } ∷ []) (c.in_ok-generation.ensures.generation keys gives))
          (c.loop-pointer.invariant.stamps keys (gave_before keys (made c.loop-pointer.view) (made c.generation_at.new.view) c.generation_at.ensures.looks gives));
      looks = goes_further (made c.args.view.now) (made c.loop-pointer.view) (made c.generation_at.new.view) c.loop-pointer.invariant.looks c.generation_at.ensures.looks;
      ids = c.generation_at.ensures.ids ∙ c.loop-pointer.invariant.ids;
    }

pub returns-in_err-generation-clause-looks : goal.returns-in_err-generation-clause-looks
returns-in_err-generation-clause-looks g c =
    let made = g.V.View.made in
    goes_further (made c.args.view.now) (made c.loop-pointer.view) (made c.generation_at.new.view) c.loop-pointer.invariant.looks c.generation_at.ensures.looks

pub returns-in_err-push-clause-looks : goal.returns-in_err-push-clause-looks
returns-in_err-push-clause-looks g c =
    let made = g.V.View.made in
    goes_further (made c.args.view.now) (made c.loop-pointer.view) (made c.generation_at.new.view) c.loop-pointer.invariant.looks c.generation_at.ensures.looks
