use Rattle.std.proofs.Common.{◌≡◌, ◌++◌, ◌∷◌, [], ◌∙◌, List, ap, subst, refl, arith, length}
use Rattle.dev_model.specs.Disk.{Disk, changed, written}
use Rattle.dev_model.specs.Devices.{Is, MayBeWritten, now}
use Rattle.dev_model.specs.Memory.{mem_state}
use Rattle.file_devices.specs.Files.{IsDiskNow, IsFileCall, MayHold}
use Rattle.file_devices.specs.MemFiles.{file_state}
use Rattle.file_devices.specs.Recalled.{disk_in, recalled}
use Rattle.file_devices.proofs.Recalling.{held_here, mem_changes, mem_ends, mem_past, only_changed, only_held, only_one}
use Rattle.file_devices.proofs.memory.MemFileImageFile.write_block.Goals as goal

pub invariant_of-self-2 : goal.invariant_of-self-2
invariant_of-self-2 c =
    let file = c.args.self.now in
    let marked : c.push.new.self.members ≡ c.args.self.now.marks.members ++ record { at = c.args.moment; before = (mem_state c.args.self.now.devices).moment; behind = (mem_state c.write-result.new.self).moment } ∷ [] =
    c.push.ensures.members ∙ (λ i. c.make_room.ensures.marks i ++ record { at = c.args.moment; before = c.moment-before.ensures.moment i; behind = c.moment-behind.ensures.moment i } ∷ []) in
    record {
      one = ap length c.write-result.ensures.sizes ∙ file.one;
      few = file.few;
      start_past = omega (arith, file.start_past, c.write-result.ensures.call.later);
      past = mem_past c.write-result.result file.devices c.write-result.new.self file.marks.members c.push.new.self.members file.start c.args.moment marked c.write-result.ensures.call.later file.past;
      ends = mem_ends c.write-result.result file.devices c.write-result.new.self file.marks.members c.push.new.self.members file.start c.args.moment marked;
    }

pub returns : goal.returns
returns c =
    let file = c.args.self.now in
    let disks : List Disk = now (mem_state file.devices) in
    let disk : Disk = (file_state file).story c.args.moment in
    let some = only_one file.devices file.one in
    let here : disk ≡ disk_in disks = held_here file.devices file.marks.members file.start c.args.moment file.ends (c.requires.ready tt).still in
    let marked : c.push.new.self.members ≡ c.args.self.now.marks.members ++ record { at = c.args.moment; before = (mem_state c.args.self.now.devices).moment; behind = (mem_state c.write-result.new.self).moment } ∷ [] =
    c.push.ensures.members ∙ (λ i. c.make_room.ensures.marks i ++ record { at = c.args.moment; before = c.moment-before.ensures.moment i; behind = c.moment-behind.ensures.moment i } ∷ []) in
    let n = c.in_ok-block.block in
    let bytes = c.args.from.now in
    let made : IsFileCall c.write-result.result (MayHold n bytes disk) (IsDiskNow (written n bytes disk)) c.args.moment (file_state file) (record { story = recalled (mem_state c.write-result.new.self).disks c.push.new.self.members file.start; rest = file.rest; free = file.free; locked = file.locked }) = record {
      changes = mem_changes c.write-result.result file.devices c.write-result.new.self file.marks.members c.push.new.self.members file.start c.args.moment marked
          (MayHold n bytes disk) (IsDiskNow (written n bytes disk)) (MayBeWritten 0 n bytes disks) (Is (changed 0 (written n bytes) disks))
          c.in_ok-make_room.ensures.soon file.start_past file.past (c.write-result.ensures.call.disks tt)
          (λ ds may. only_held disks disk here some n bytes ds may)
          (λ ds is. only_changed disks disk here some (written n bytes) ds is);
      beside = record { rest = refl; locked = refl };
    } in
    record { call = λ _ block at. subst (λ k. IsFileCall c.write-result.result (MayHold k bytes disk) (IsDiskNow (written k bytes disk)) c.args.moment (file_state file) (record { story = recalled (mem_state c.write-result.new.self).disks c.push.new.self.members file.start; rest = file.rest; free = file.free; locked = file.locked })) (c.in_ok-block.ensures.block block at) made }
