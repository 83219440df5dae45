-- The last subvolume is put first.
use Rattle.std.proofs.Common.{◌∙◌, sym, ap, List}
use Rattle.subvol_ops.proofs.Gathered.{with_subs-last}
use Rattle.subvol_ops.specs.Listing.{with_subs}
use Rattle.vol_types.specs.declared.values.Sub.{Sub}
use Rattle.subvol_ops.proofs.listing.put_subs.Goals as goal

pub loop-sub-preserved : goal.loop-sub-preserved
loop-sub-preserved c =
    ap (with_subs c.pop.new.self) c.in_ok-put_sub.ensures ∙ sym (with_subs-last c.pop.new.self c.in-Some.sub c.loop-sub.flags.entries)
    ∙ ap (λ (l : List Sub). with_subs l c.loop-sub.flags.entries) (sym c.in-Some.ensures.last) ∙ c.loop-sub.invariant
