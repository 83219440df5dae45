use Rattle.std.proofs.Common.{◌≡◌, ◌∙◌, ap, arith}
use Rattle.journal_ring.specs.Counting.{counting, counting_below}
use Rattle.journal_ring.specs.Parts.{area_in}
use Rattle.journal_ring.proofs.counting.counting_entries.Goals as goal

pub returns : goal.returns
unfolding counting
returns c sequence =
    let layout = c.args.layout.now in
    c.loop-dev.invariant sequence ∙ ap (counting_below layout (area_in c.args.areas.now) sequence) (let e : c.loop-dev.dev ≡ layout.metadata_replicas = omega (arith, c.loop-dev-test.false, c.loop-dev.auto.dev-end) in e)
