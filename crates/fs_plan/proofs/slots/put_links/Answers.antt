-- The last name is put first.
use Rattle.std.proofs.Common.{◌∙◌, sym, ap, List}
use Rattle.fs_plan.proofs.Gathered.{with_links-last}
use Rattle.fs_plan.specs.Listing.{with_links}
use Rattle.vol_types.specs.declared.values.Link.{Link}
use Rattle.fs_plan.proofs.slots.put_links.Goals as goal

pub loop-link-preserved : goal.loop-link-preserved
loop-link-preserved c =
    ap (with_links c.pop.new.self) c.in_ok-put_link.ensures ∙ sym (with_links-last c.pop.new.self c.in-Some.link c.loop-link.flags.entries)
    ∙ ap (λ (ls : List Link). with_links ls c.loop-link.flags.entries) (sym c.in-Some.ensures.last) ∙ c.loop-link.invariant
