use Rattle.std.proofs.Common.{◌≡◌, ◌++◌, map}
use Rattle.subvol_ops.specs.Listing.{flagged_name}
use Rattle.subvol_ops.proofs.listing.list_of.Given as goal

abbrev pub invariant-loop-name : goal.invariant-loop-name
invariant-loop-name l = l.list ++ map flagged_name l.name-iterator ≡ map flagged_name l.fn.flags.entries
