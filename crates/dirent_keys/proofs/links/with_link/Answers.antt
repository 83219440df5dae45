use Rattle.std.proofs.Common.{◌≡◌, ◌∙◌}
use Rattle.std.specs.List.{insert, position_or_len}
use Rattle.std.specs.Ordering.{is_lt}
use Rattle.dirent_keys.proofs.Listed.{inserted}
use Rattle.vol_types.specs.Ranges.{name_cmp}
use Rattle.vol_types.specs.declared.values.Link.{Link}
use Rattle.dirent_keys.proofs.links.with_link.Goals as goal

pub returns : goal.returns
returns c =
    let place : c.place_among-place.result ≡ position_or_len (λ (other : Link). is_lt (name_cmp c.args.link.name other.name)) c.args.links = c.place_among-place.ensures.place ∙ (λ i. position_or_len (λ (other : Link). is_lt (name_cmp (c.as_slice.ensures i) other.name)) (c.as_slice-2.ensures i)) in
    c.from.ensures
    ∙ c.in_ok-insert.ensures.items
    ∙ (λ i. insert (c.from-members.ensures i) (place i) c.args.link)
    ∙ inserted c.args.link c.args.links
