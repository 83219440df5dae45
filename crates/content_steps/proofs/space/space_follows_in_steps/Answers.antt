use Rattle.content_steps.proofs.Expanded.{expanded_are_steps, may_follow}
use Rattle.key_triggers.specs.Expanding.{expanded}
use Rattle.content_steps.proofs.space.space_follows_in_steps.Goals as goal

pub returns : goal.returns
returns c = record {
  may = may_follow;
  steps = λ keys updates all nodes layout id shown counters kept plain fits all_fit is steps follows.
      expanded_are_steps keys updates all nodes layout kept steps.kept plain fits all_fit is follows id shown counters steps;
  expanded = λ keys updates nodes layout id shown counters kept counted plain fits steps.
      expanded_are_steps keys updates (expanded keys updates) nodes layout kept steps.kept plain fits (c.expanded_keys_follow.ensures.fits keys updates fits) (c.expanded_keys_follow.ensures.expanded keys updates)
      (c.expanded_keys_follow.ensures.follows keys updates nodes layout (may_follow keys updates nodes layout id shown counters kept counted plain steps)) id shown counters steps;
}
