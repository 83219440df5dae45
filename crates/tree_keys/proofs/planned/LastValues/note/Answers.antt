use Rattle.std.proofs.Common.{sym, subst}
use Rattle.tree_keys.specs.Changes.{AreLast}
use Rattle.tree_keys.specs.PlanLaws.{last_more}
use Rattle.vol_types.specs.Ranges.{IsKeyValue}
use Rattle.tree_keys.proofs.planned.LastValues.note.Goals as goal

pub invariant_of-self-2 : goal.invariant_of-self-2
invariant_of-self-2 c =
    let range = subst IsKeyValue (sym c.in_ok-value.ensures) c.requires in
    subst AreLast (sym c.in_ok-put_last.ensures.ok) (last_more c.self.inside.last.entries c.args.pos.now c.in_ok-value.value c.self.invariant range)
