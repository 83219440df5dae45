use Rattle.std.proofs.Common.{◌≡◌, ◌∙◌}
use Rattle.std.specs.List.{insert, position_or_len}
use Rattle.std.specs.Ordering.{is_lt}
use Rattle.subvol_ops.proofs.Listed.{inserted}
use Rattle.vol_types.specs.Ranges.{name_cmp}
use Rattle.vol_types.specs.declared.values.Sub.{Sub}
use Rattle.subvol_ops.proofs.slots.with_sub.Goals as goal

pub returns : goal.returns
returns c =
    let place : c.place_among-place.result ≡ position_or_len (λ (other : Sub). is_lt (name_cmp c.args.sub.name other.name)) c.args.subs = c.place_among-place.ensures.place ∙ (λ i. position_or_len (λ (other : Sub). is_lt (name_cmp (c.as_slice.ensures i) other.name)) (c.as_slice-2.ensures i)) in
    c.from.ensures
    ∙ c.in_ok-insert.ensures.items
    ∙ (λ i. insert (c.from-members.ensures i) (place i) c.args.sub)
    ∙ inserted c.args.sub c.args.subs
