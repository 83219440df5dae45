use Rattle.snap_tree.specs.ChainLaws.{chain_of-rises}
use Rattle.snap_tree.specs.Places.{chain_begins, chain_of_member, member_there, ancestor_above}
use Rattle.snap_tree.proofs.laws.chains_rise.Goals as goal

pub returns : goal.returns
returns c = record { rises = chain_of-rises; begins = chain_begins; goes_on = chain_of_member; members = member_there; above = ancestor_above }
