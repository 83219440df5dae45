use Rattle.std.proofs.Common.{All, subst, sym}
use Rattle.std.specs.Map.{values_of}
use Rattle.std.proofs.lemmas.Map.Views.{All-values-insert_entry}
use Rattle.vol_types.specs.Positions.{pos_cmp}
use Rattle.vol_types.specs.Ranges.{IsKeyValue}
use Rattle.image_reader.specs.Changes.{Changes}
use Rattle.image_reader.proofs.changes.note.Goals as goal

pub returns-clause-in_range : goal.returns-clause-in_range
returns-clause-in_range c =
    subst (λ (cs : Changes). All IsKeyValue (values_of cs)) (sym c.in_ok-insert.ensures.entries)
    (All-values-insert_entry pos_cmp c.args.update.now.pos c.in_ok-value.value IsKeyValue c.args.changes.now.entries c.requires.before (subst IsKeyValue (sym c.in_ok-value.ensures) c.requires.update.in_range))
