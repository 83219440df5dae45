use Rattle.std.proofs.Common.{◌≡◌, ◌∙◌, ◌+◌, Bool, List, ℕ, suc, slice_set, true, ap, arith}
use Rattle.journal_writer.specs.Writers.{with_flags}
use Rattle.journal_writer.proofs.SetFlags.{set_next}
use Rattle.journal_writer.proofs.flags.set_flags.Goals as goal

pub loop-flag-preserved : goal.loop-flag-preserved
loop-flag-preserved c =
    let before = c.args.flags.now in
    let one_more : suc c.loop-flag.flag ≡ c.loop-flag.flag + 1 = omega arith in
    ap (λ (n : ℕ). slice_set c.loop-flag.flags n true) c.from.ensures
    ∙ ap (λ (flags : List Bool). slice_set flags c.loop-flag.flag true) c.loop-flag.invariant
    ∙ set_next c.loop-flag.flag before (omega (arith, c.loop-flag-test.true, c.requires, c.told-flags))
    ∙ ap (λ (n : ℕ). with_flags n before) one_more
