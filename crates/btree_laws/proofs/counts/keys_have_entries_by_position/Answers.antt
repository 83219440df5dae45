use Rattle.std.proofs.Common.{ap}
use Rattle.vol_types.specs.Maps.{value_at}
use Rattle.vol_types.specs.Positions.{pos_cmp}
use Rattle.btree_laws.proofs.UpTo.{leaf_has, left_out, made_again, moved_value, one_more, passed_again, raised_count, range_has, with_widths}
use Rattle.btree_laws.proofs.counts.keys_have_entries_by_position.Goals as goal

pub returns : goal.returns
returns c = record {
  again = made_again;
  passed = passed_again;
  dropped = left_out;
  more = one_more;
  raised = raised_count;
  moved = moved_value;
  btree = λ needed before keys btree count less same pos. record { within = less; value = ap (value_at pos_cmp pos) same };
  range = range_has;
  leaf = leaf_has;
  widths = with_widths;
}
