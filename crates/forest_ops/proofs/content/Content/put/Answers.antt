use Rattle.std.proofs.Common.{◌≡◌, ◌+◌, ◌-◌, ◌++◌, length, take, drop, replicate, ◌∙◌, ap}
use Rattle.forest_ops.specs.Content.{put_at}
use Rattle.forest_ops.proofs.Putting.{put_over}
use Rattle.forest_ops.proofs.content.Content.put.Goals as goal

pub returns-clause-ok : goal.returns-clause-ok
returns-clause-ok c =
    let offset = c.args.offset in
    let put = c.args.put.now in
    let bytes = c.self.inside.bytes.items in
    let grown = c.grow.new.bytes.items in
    let longer : grown ≡ bytes ++ replicate (offset + length put - length bytes) 0 = c.in_ok-grow.ensures.ok ∙ ap (λ n. bytes ++ replicate (offset + n - length bytes) 0) c.len.ensures in
    c.overwrite.ensures
    ∙ ap (λ p. take offset grown ++ p ++ drop (offset + length p) grown) c.as_slice.ensures
    ∙ ap (λ b. take offset b ++ put ++ drop (offset + length put) b) longer
    ∙ put_over offset put bytes
    ∙ ap (put_at offset put) c.self.view_is
