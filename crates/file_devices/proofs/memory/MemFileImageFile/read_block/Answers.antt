use Rattle.std.proofs.Common.{◌≡◌, ◌++◌, ◌∷◌, [], ◌∙◌, List, ap, refl, arith, length}
use Rattle.dev_model.specs.Disk.{Disk}
use Rattle.dev_model.specs.Devices.{Is, now}
use Rattle.dev_model.specs.Memory.{mem_state}
use Rattle.file_devices.specs.Files.{IsDiskNow}
use Rattle.file_devices.specs.MemFiles.{file_state}
use Rattle.file_devices.specs.Recalled.{disk_in}
use Rattle.file_devices.proofs.Recalling.{held_here, mem_changes, mem_ends, mem_past, only_bytes, only_one, only_same}
use Rattle.file_devices.proofs.memory.MemFileImageFile.read_block.Goals as goal

pub invariant_of-self-2 : goal.invariant_of-self-2
invariant_of-self-2 c =
    let file = c.args.self.now in
    let marked : c.push.new.self.members ≡ c.args.self.now.marks.members ++ record { at = c.args.moment; before = (mem_state c.args.self.now.devices).moment; behind = (mem_state c.read-result.new.self).moment } ∷ [] =
    c.push.ensures.members ∙ (λ i. c.make_room.ensures.marks i ++ record { at = c.args.moment; before = c.moment-before.ensures.moment i; behind = c.moment-behind.ensures.moment i } ∷ []) in
    record {
      one = ap length c.read-result.ensures.sizes ∙ file.one;
      few = file.few;
      start_past = omega (arith, file.start_past, c.read-result.ensures.call.later);
      past = mem_past c.read-result.result file.devices c.read-result.new.self file.marks.members c.push.new.self.members file.start c.args.moment marked c.read-result.ensures.call.later file.past;
      ends = mem_ends c.read-result.result file.devices c.read-result.new.self file.marks.members c.push.new.self.members file.start c.args.moment marked;
    }

pub returns-clause-bytes : goal.returns-clause-bytes
returns-clause-bytes c = λ _.
    let file = c.args.self.now in
    let disks : List Disk = now (mem_state file.devices) in
    let disk : Disk = (file_state file).story c.args.moment in
    let some = only_one file.devices file.one in
    let here : disk ≡ disk_in disks = held_here file.devices file.marks.members file.start c.args.moment file.ends (c.requires.ready tt).still in
    only_bytes c.read-result.result disks disk c.in_ok-block.block c.args.offset c.read-result.new.into here some c.in_ok-block.ensures.block c.read-result.ensures.bytes

pub returns-clause-call : goal.returns-clause-call
returns-clause-call c = λ _.
    let file = c.args.self.now in
    let disks : List Disk = now (mem_state file.devices) in
    let disk : Disk = (file_state file).story c.args.moment in
    let some = only_one file.devices file.one in
    let here : disk ≡ disk_in disks = held_here file.devices file.marks.members file.start c.args.moment file.ends (c.requires.ready tt).still in
    let marked : c.push.new.self.members ≡ c.args.self.now.marks.members ++ record { at = c.args.moment; before = (mem_state c.args.self.now.devices).moment; behind = (mem_state c.read-result.new.self).moment } ∷ [] =
    c.push.ensures.members ∙ (λ i. c.make_room.ensures.marks i ++ record { at = c.args.moment; before = c.moment-before.ensures.moment i; behind = c.moment-behind.ensures.moment i } ∷ []) in
    record {
      changes = mem_changes c.read-result.result file.devices c.read-result.new.self file.marks.members c.push.new.self.members file.start c.args.moment marked
          (IsDiskNow disk) (IsDiskNow disk) (Is disks) (Is disks)
          c.in_ok-make_room.ensures.soon file.start_past file.past (c.read-result.ensures.call.disks tt)
          (λ ds is. only_same disks disk here some ds is)
          (λ ds is. only_same disks disk here some ds is);
      beside = record { rest = refl; locked = refl };
    }
