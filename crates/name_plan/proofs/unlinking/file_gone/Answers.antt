-- The updates of the inode and the note may be made.
use Rattle.std.proofs.Common.{sym, subst}
use Rattle.std.specs.Prelude.{All}
use Rattle.std.proofs.lemmas.List.Elements.{All-append}
use Rattle.vol_types.specs.Standing.{IsUpdate}
use Rattle.name_plan.proofs.unlinking.file_gone.Goals as goal

pub returns-clause-fits : goal.returns-clause-fits
returns-clause-fits g c = subst (All IsUpdate) (sym c.in_ok-joined.ensures) (All-append IsUpdate c.in_ok-gone.gone c.in_ok-noted.noted (c.in_ok-gone.ensures.fits tt) c.in_ok-noted.ensures.fits)
