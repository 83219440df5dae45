use Rattle.std.proofs.Common.{◌∙◌, ap, subst, arith, length}
use Rattle.dev_model.specs.Disk.{extended}
use Rattle.file_devices.specs.Files.{IsDiskNow, MayReach, Story}
use Rattle.file_devices.specs.Images.{ChangesImage}
use Rattle.file_devices.proofs.FileCalls.{changed_by, as_many_after}
use Rattle.file_devices.proofs.image.Image.extend.Goals as goal

pub invariant_of-self : goal.invariant_of-self
invariant_of-self g c =
    let old : Story = (g.F.ImageFile.state c.cut.new.self.file).story in
    let new : Story = (g.F.ImageFile.state c.lengthen-result.new.self).story in
    let partly = MayReach c.args.blocks (old c.args.moment) in
    let wholly = IsDiskNow (extended c.args.blocks (old c.args.moment)) in
    let call = λ (told : g.F.ImageFile.tells). c.lengthen-result.ensures.call told c.args.blocks c.offset_of.ensures in
    let made = λ (told : g.F.ImageFile.tells). changed_by c.lengthen-result.result partly wholly c.args.moment c.moment_after-self.result old new (c.requires.counted told) (call told).changes c.moment_after-self.ensures in
    let size = λ (told : g.F.ImageFile.tells). c.cut.new.self.size told ∙ ap (λ n. length (old n).blocks) c.cut.ensures.last in
    record {
      size = λ told. as_many_after c.args.blocks c.cut.new.self.blocks c.args.moment c.moment_after-self.result old new (omega (arith, c.cut.ensures.others, c.requires.longer)) (size told) c.lengthen-result.result c.blocks_after-self.result c.blocks_after-self.ensures (call told).changes c.moment_after-self.ensures (made told).changes (c.lengthen-result.ensures.failed told);
      ready = λ told. record { locked = (call told).beside.locked ∙ (c.cut.new.self.ready told).locked; still = (made told).still };
      counted = λ told. (made told).counted;
    }

pub returns-clause-changes : goal.returns-clause-changes
returns-clause-changes g c = λ told.
    let new : Story = (g.F.ImageFile.state c.lengthen-result.new.self).story in
    let P : Story → Type 0 = λ s. ChangesImage c.lengthen-result.result (MayReach c.args.blocks (s c.args.moment)) (IsDiskNow (extended c.args.blocks (s c.args.moment))) c.args.moment c.moment_after-self.result s new in
    subst P (c.cut.ensures.story told)
    (changed_by _ _ _ c.args.moment c.moment_after-self.result _ _ (c.requires.counted told) (c.lengthen-result.ensures.call told c.args.blocks c.offset_of.ensures).changes c.moment_after-self.ensures).changes
