use Rattle.content_steps.proofs.Apart.{of_no_other_btree, of_no_other_place, of_no_space, seen_of_no_other, seen_of_no_space}
use Rattle.content_steps.proofs.Planned.{updates_leave}
use Rattle.content_steps.proofs.plain.plans_leave_space.Goals as goal

pub returns : goal.returns
returns c = record {
  content = of_no_space;
  others = λ id updates btree own differ. of_no_other_btree id updates own btree differ;
  places = λ id updates btree inode offset own differ. of_no_other_place id updates own btree inode offset differ;
  seen_others = seen_of_no_other;
  seen = seen_of_no_space;
  stay = λ keys updates btree none. updates_leave btree updates keys none;
}
