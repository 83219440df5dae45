use Rattle.std.proofs.Common.{◌≡◌, ◌<◌, ◌≤◌, ◌∙◌, ⊎_elim, List, Ok, Some, ℕ, ap, arith, subst, sym}
use Rattle.std.proofs.lemmas.Bool.{cases_lt}
use Rattle.dev_model.specs.Devices.{now}
use Rattle.dev_model.specs.Disk.{as_read, block_at}
use Rattle.dev_model.specs.FrameLaws.{go_on_then, only_read_then}
use Rattle.geometry.specs.Mirrors.{IsMirrorBlock}
use Rattle.journal_ring.specs.Mending.{IsBlockAt, IsLacking}
use Rattle.journal_ring.proofs.Frames.{mends_then}
use Rattle.journal_ring.proofs.mending.mend_mirrors.Goals as goal

-- A block of one mirror is a block of the mirrors.
one_mirror : (mirrors block dev : ℕ) (bytes : List ℕ) → dev < mirrors → (d b : ℕ) (x : List ℕ) → IsBlockAt dev block bytes d b x → IsMirrorBlock mirrors block bytes d b x
one_mirror mirrors block dev bytes within d b x is = ((subst (λ n. n < mirrors) (sym is.0.0) within, is.0.1), is.1)

pub returns-in_err-mended-clause-mends : goal.returns-in_err-mended-clause-mends
returns-in_err-mended-clause-mends g c tells =
    let D = g.D.Devices in
    mends_then (IsMirrorBlock c.args.mirrors c.args.block c.args.bytes.now) (IsBlockAt c.loop-dev.dev c.args.block c.args.bytes.now) (λ d b x y one other. one.1 ∙ sym other.1)
    (one_mirror c.args.mirrors c.args.block c.loop-dev.dev c.args.bytes.now c.loop-dev-test.true)
    (D.state c.args.devices.now) (D.state c.loop-dev.devices) (D.state c.mend_block.new.devices) c.loop-dev.invariant.goes_on.later (c.loop-dev.invariant.mends tells) (c.mend_block.ensures.mends tells)

pub loop-dev-preserved : goal.loop-dev-preserved
loop-dev-preserved g c =
    let D = g.D.Devices in
    let first = D.state c.args.devices.now in
    let mid = D.state c.loop-dev.devices in
    let new = D.state c.mend_block.new.devices in
    let so_far = c.loop-dev.invariant in
    let bytes = c.args.bytes.now in
    let block = c.args.block in
    record {
      mends = λ tells. mends_then (IsMirrorBlock c.args.mirrors block bytes) (IsBlockAt c.loop-dev.dev block bytes) (λ d b x y one other. one.1 ∙ sym other.1)
          (one_mirror c.args.mirrors block c.loop-dev.dev bytes c.loop-dev-test.true) first mid new so_far.goes_on.later (so_far.mends tells) (c.mend_block.ensures.mends tells);
      held = λ tells dev lower. ⊎_elim
          (λ (earlier : dev < c.loop-dev.dev).
          let away : ¬ IsLacking (IsBlockAt c.loop-dev.dev block bytes) (as_read (now mid)) dev block = λ lacking. omega (arith, earlier, lacking.1.0.0) in
          sym ((c.mend_block.ensures.mends tells).elsewhere dev block away) ∙ so_far.held tells dev earlier)
          (λ (last : c.loop-dev.dev ≤ dev).
          let same : c.loop-dev.dev ≡ dev = omega (arith, last, lower) in
          subst (λ n. block_at (as_read (now new)) n block ≡ Some bytes) same (c.in_ok-mended.ensures.held tells))
          (cases_lt dev c.loop-dev.dev);
      idle = λ none.
          let both = c.either-has_written.ensures none in
          only_read_then D.tells first mid new (so_far.idle both.0) (c.in_ok-mended.ensures.idle (ap Ok both.1));
      goes_on = go_on_then first mid new so_far.goes_on c.mend_block.ensures.goes_on;
      faults = c.in_ok-mended.ensures.cause ∙ so_far.faults;
    }
