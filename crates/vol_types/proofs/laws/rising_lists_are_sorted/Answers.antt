use Rattle.vol_types.specs.Rising.{Rise-from_sorted, sorted-from_Rise}
use Rattle.vol_types.proofs.laws.rising_lists_are_sorted.Goals as goal

pub returns : goal.returns
returns g c = λ members. (sorted-from_Rise _ g.met.T.Ord.total members, Rise-from_sorted _ members)
