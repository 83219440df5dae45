-- The names that were gathered are those of the forest's subvolumes.
use Rattle.std.proofs.Common.{◌∙◌}
use Rattle.subvol_ops.proofs.Gathered.{listed_names}
use Rattle.subvol_ops.proofs.listing.list_subvolumes.Goals as goal

pub returns-clause-names : goal.returns-clause-names
returns-clause-names g c = λ keys read gives is tidy.
    c.in_ok-list_of.ensures.list ∙ listed_names keys read c.in_ok-flags.flags.entries c.list_of.ensures.rises (c.in_ok-flags.ensures.flags keys gives is tidy.drawn tidy.named)
