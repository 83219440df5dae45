use Rattle.std.proofs.Common.{◌-◌, ◌^◌, Some, None, cond, sym, ap, ◌∙◌}
use Rattle.std.specs.Prelude.{is_some, min}
use Rattle.std.specs.Map.{keys_of}
use Rattle.tree_keys.specs.Counts.{leaf_size}
use Rattle.tree_keys.specs.LeafLaws.{is_end-keys}
use Rattle.tree_keys.proofs.TreeKeys.size.Goals as goal

pub returns-in-None : goal.returns-in-None
returns-in-None c =
    rw (← c.self.view_is)
    (sym (ap (λ b. cond b (Some (leaf_size c.args.end.now (record { entries = c.self.inside.keys.entries; ends = keys_of c.self.inside.leaves.entries }))) None) (is_end-keys c.args.end.now c.self.inside.leaves.entries ∙ ap is_some (sym c.in-None.ensures.value))))

pub returns-in-Some : goal.returns-in-Some
returns-in-Some c =
    rw (← c.self.view_is)
    (ap Some (c.clamped.ensures ∙ ap (λ n. min n (2 ^ 32 - 1)) (c.self.invariant.1.each c.args.end.now c.in-Some.bytes.now (sym c.in-Some.ensures.value))) ∙ sym (ap (λ b. cond b (Some (leaf_size c.args.end.now (record { entries = c.self.inside.keys.entries; ends = keys_of c.self.inside.leaves.entries }))) None) (is_end-keys c.args.end.now c.self.inside.leaves.entries ∙ ap is_some (sym c.in-Some.ensures.value))))
