use Rattle.std.proofs.Common.{◌≡◌, None, Ok, option_copied, subst}
use Rattle.std.proofs.lemmas.Result.{err_from_is_err_and}
use Rattle.key_codec.specs.Formats.{items, read_items}
use Rattle.key_codec.specs.ItemLoop.{last_of, last_of-slice, goes_on, is_done}
use Rattle.record_codec.specs.Reading.{Fails}
use Rattle.record_codec.proofs.Carried.{ends}
use Rattle.record_codec.proofs.members.members_at.Goals as goal

pub returns-in_err-member : goal.returns-in_err-member
unfolding items
returns-in_err-member g c =
    let format = g.T.Member.format c.args.head.now in
    let whole = read_items format None c.args.count c.args.bytes.now in
    let before : option_copied c.last.result ≡ last_of c.loop.members = last_of-slice (option_copied c.last.result) c.as_slice.result.now c.loop.members c.last.ensures.value c.as_slice.ensures in
    let p = err_from_is_err_and c.from_residual.result c.from_residual.ensures.1 in
    rw (p.1, p.2) (ends c.in_err-member.field-0.0 format c.loop.members c.args.count c.loop.counter c.loop.rest.now whole c.loop-test.true (subst (λ b. Fails c.in_err-member.field-0.0 ((format b).read c.loop.rest.now)) before c.in_err-member.ensures) c.loop.invariant)

pub loop-preserved : goal.loop-preserved
loop-preserved g c =
    let format = g.T.Member.format c.args.head.now in
    let whole = read_items format None c.args.count c.args.bytes.now in
    let before : option_copied c.last.result ≡ last_of c.loop.members = last_of-slice (option_copied c.last.result) c.as_slice.result.now c.loop.members c.last.ensures.value c.as_slice.ensures in
    rw c.in_ok-push.ensures.ok (goes_on format c.loop.members c.args.count c.loop.counter c.loop.rest.now c.in_ok-member.after.now c.in_ok-member.member whole c.loop-test.true (subst (λ b. (format b).read c.loop.rest.now ≡ Ok (c.in_ok-member.member, c.in_ok-member.after.now)) before c.in_ok-member.ensures) c.loop.invariant)

pub returns : goal.returns
unfolding items
returns g c =
    let format = g.T.Member.format c.args.head.now in
    is_done format c.loop.members c.args.count c.loop.counter c.loop.rest.now (read_items format None c.args.count c.args.bytes.now) c.loop-test.false c.loop.invariant
