use Rattle.std.proofs.Common.{◌<◌, ◌+◌, ◌∷◌, [], ◌∙◌, ℕ, List, length, ap, sym, arith, map, drop, length-append}
use Rattle.dev_model.specs.Disk.{as_read, blocks_of}
use Rattle.dev_model.specs.Devices.{now}
use Rattle.dev_model.specs.FrameLaws.{only_read_then, stay_now}
use Rattle.geometry.specs.declared.copies.SuperCopy.{SuperCopy}
use Rattle.geometry.specs.Superblocks.{counting}
use Rattle.geometry.proofs.CopiesThere.{with_rest, copy_more, copy_missing}
use Rattle.geometry.proofs.ReadImages.{as_many_read}
use Rattle.geometry.proofs.superblocks.read_copies.Goals as goal

pub returns-in-None-clause-found : goal.returns-in-None-clause-found
returns-in-None-clause-found g c tells =
    let D = g.D.Devices in
    let disks = now (D.state c.args.devices.now) in
    let image = as_read disks in
    let dev = c.loop-dev.dev in
    let within : dev < length image = omega (arith, as_many_read disks, ap (λ (s : List ℕ). length s) (g.met.D.Devices.agree tells c.args.devices.now), c.count-count.ensures.count, c.loop-dev-test.true) in
    let found = c.in_ok-copy.ensures.found tells in
    let same = ap (λ ds. counting (blocks_of (as_read ds) dev)) (stay_now (D.state c.args.devices.now) (D.state c.loop-dev.devices) (c.loop-dev.invariant.read.disks tells)) in
    copy_missing image dev c.loop-dev.copies.items within (c.loop-dev.invariant.so_far tells) (sym same ∙ sym found ∙ c.in-None.is)

pub loop-dev-preserved : goal.loop-dev-preserved
loop-dev-preserved g c =
    let D = g.D.Devices in
    record {
      so_far = λ tells.
          let disks = now (D.state c.args.devices.now) in
          let image = as_read disks in
          let dev = c.loop-dev.dev in
          let within : dev < length image = omega (arith, as_many_read disks, ap (λ (s : List ℕ). length s) (g.met.D.Devices.agree tells c.args.devices.now), c.count-count.ensures.count, c.loop-dev-test.true) in
          let found = c.in_ok-copy.ensures.found tells in
          let same = ap (λ ds. counting (blocks_of (as_read ds) dev)) (stay_now (D.state c.args.devices.now) (D.state c.loop-dev.devices) (c.loop-dev.invariant.read.disks tells)) in
          ap (λ items. with_rest items (drop (dev + 1) (map counting image))) c.in_ok-push-in-Some.ensures.items
          ∙ copy_more image dev c.loop-dev.copies.items within (c.loop-dev.invariant.so_far tells) c.in-Some.copy (sym same ∙ sym found ∙ c.in-Some.is);
      each = omega (arith, c.loop-dev.invariant.each, ap (λ (items : List SuperCopy). length items) c.in_ok-push-in-Some.ensures.items, length-append c.loop-dev.copies.items (c.in-Some.copy ∷ []));
      read = only_read_then D.tells (D.state c.args.devices.now) (D.state c.loop-dev.devices) (D.state c.read_counting.new.devices) c.loop-dev.invariant.read c.read_counting.ensures.read;
      faults = c.in_ok-copy.ensures.cause ∙ c.loop-dev.invariant.faults;
    }

pub returns-in_err-copy-clause-read : goal.returns-in_err-copy-clause-read
returns-in_err-copy-clause-read g c =
    let D = g.D.Devices in
    only_read_then D.tells (D.state c.args.devices.now) (D.state c.loop-dev.devices) (D.state c.read_counting.new.devices) c.loop-dev.invariant.read c.read_counting.ensures.read

pub returns-in_err-push-in-Some-clause-read : goal.returns-in_err-push-in-Some-clause-read
returns-in_err-push-in-Some-clause-read g c =
    let D = g.D.Devices in
    only_read_then D.tells (D.state c.args.devices.now) (D.state c.loop-dev.devices) (D.state c.read_counting.new.devices) c.loop-dev.invariant.read c.read_counting.ensures.read

pub returns-in-None-clause-read : goal.returns-in-None-clause-read
returns-in-None-clause-read g c =
    let D = g.D.Devices in
    only_read_then D.tells (D.state c.args.devices.now) (D.state c.loop-dev.devices) (D.state c.read_counting.new.devices) c.loop-dev.invariant.read c.read_counting.ensures.read
