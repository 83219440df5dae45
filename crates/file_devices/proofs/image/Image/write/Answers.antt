use Rattle.std.proofs.Common.{◌≡◌, ◌∙◌, ap, sym, length}
use Rattle.dev_model.specs.Disk.{Disk, written}
use Rattle.file_devices.specs.Files.{IsDiskNow, MayHold}
use Rattle.file_devices.proofs.FileCalls.{changed_by, in_any_case, as_many_partly, as_many_wholly}
use Rattle.file_devices.proofs.image.Image.write.Goals as goal

pub invariant_of-self : goal.invariant_of-self
invariant_of-self g c =
    let old = g.F.ImageFile.state c.args.self.now.file in
    let new = g.F.ImageFile.state c.write_block-result.new.self in
    let disk : Disk = old.story c.args.moment in
    let partly = MayHold c.args.block c.args.from.now disk in
    let wholly = IsDiskNow (written c.args.block c.args.from.now disk) in
    let call = λ (told : g.F.ImageFile.tells). c.write_block-result.ensures.call told c.args.block c.offset_of.ensures in
    let made = λ (told : g.F.ImageFile.tells). changed_by c.write_block-result.result partly wholly c.args.moment c.moment_after-self.result old.story new.story (c.requires.counted told) (call told).changes c.moment_after-self.ensures in
    record {
      size = λ told.
          c.args.self.now.size told
          ∙ sym (ap (λ (d : Disk). length d.blocks) ((c.args.self.now.ready told).still.since c.args.moment c.requires.later))
          ∙ sym (in_any_case c.write_block-result.result partly wholly (λ d. length d.blocks ≡ length disk.blocks) (new.story c.moment_after-self.result) (made told).changes.after (as_many_partly c.args.block c.args.from.now disk) (as_many_wholly c.args.block c.args.from.now disk));
      ready = λ told. record { locked = (call told).beside.locked ∙ (c.args.self.now.ready told).locked; still = (made told).still };
      counted = λ told. (made told).counted;
    }

pub returns-clause-changes : goal.returns-clause-changes
returns-clause-changes g c = λ told.
    (changed_by _ _ _ c.args.moment c.moment_after-self.result _ _ (c.requires.counted told) (c.write_block-result.ensures.call told c.args.block c.offset_of.ensures).changes c.moment_after-self.ensures).changes
