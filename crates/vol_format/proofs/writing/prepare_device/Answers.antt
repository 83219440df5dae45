-- The blocks of a device are written one after the other.
use Rattle.std.proofs.Common.{◌≡◌, ◌∙◌, true, arith, subst, sym, refl}
use Rattle.geometry.specs.LayoutFacts.{has_places}
use Rattle.geometry.specs.Layouts.{is_layout_of}
use Rattle.vol_format.specs.Formatting.{prepared}
use Rattle.dev_model.specs.FrameLaws.{go_on_here, go_on_then}
use Rattle.vol_format.proofs.Written.{all_blocks, failed_part, fewer_blocks, no_block, one_block_more, one_of_blocks, writes_all, wrote_alike, wrote_none, wrote_next}
use Rattle.vol_format.proofs.Preparing.{prepared_none, prepared_past}
use Rattle.vol_format.proofs.writing.prepare_device.Goals as goal

pub overflow_add-block-end : goal.overflow_add-block-end
overflow_add-block-end g c = omega (arith, (has_places (g.D.Devices.state c.args.devices.now).sizes c.args.layout.now c.requires.fits).journal)

pub loop-block-init : goal.loop-block-init
loop-block-init g c = record {
  started = omega arith;
  wrote = λ tells. wrote_none _ _ (no_block c.args.dev (prepared c.args.layout.now c.args.fresh.now) 1 (prepared_none c.args.layout.now c.args.fresh.now));
  goes_on = go_on_here (g.D.Devices.state c.args.devices.now);
  faults = refl;
}

pub loop-block-preserved : goal.loop-block-preserved
loop-block-preserved g c =
    let so_far = c.loop-block.invariant in
    record {
      started = omega arith;
      wrote = λ tells. wrote_next _ _ _ _ _ _ (one_block_more c.args.dev c.loop-block.block (prepared c.args.layout.now c.args.fresh.now)) (so_far.wrote tells) (c.prepare_block.ensures.writes tells).touches (c.prepare_block.ensures.writes tells).asks (c.in_ok-prepare_block.ensures.writes tells).reads;
      goes_on = go_on_then _ _ _ so_far.goes_on c.prepare_block.ensures.goes_on;
      faults = c.in_ok-prepare_block.ensures.cause ∙ so_far.faults;
    }

pub prepare_block-requires-clause-fits : goal.prepare_block-requires-clause-fits
prepare_block-requires-clause-fits g c = subst (λ sizes. is_layout_of sizes c.args.layout.now ≡ true) (sym c.loop-block.invariant.goes_on.sizes) c.requires.fits

pub returns-clause-writes : goal.returns-clause-writes
returns-clause-writes g c tells =
    writes_all _ _ _ _ (wrote_alike _ _ _ _ (all_blocks c.args.dev (prepared c.args.layout.now c.args.fresh.now) c.loop-block.block (λ b le. prepared_past c.args.layout.now c.args.fresh.now b (omega arith))) (c.loop-block.invariant.wrote tells))

pub returns-in_err-prepare_block-clause-writes : goal.returns-in_err-prepare_block-clause-writes
returns-in_err-prepare_block-clause-writes g c tells =
    failed_part c.from_residual.result c.prepare_block.result _ _ _ _ _ _ c.from_residual.ensures.0 (fewer_blocks c.args.dev c.loop-block.block (prepared c.args.layout.now c.args.fresh.now)) (one_of_blocks c.args.dev c.loop-block.block (prepared c.args.layout.now c.args.fresh.now))
    (c.loop-block.invariant.wrote tells) (c.prepare_block.ensures.writes tells)
