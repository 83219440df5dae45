use Rattle.std.proofs.Common.{◌≡◌, ◌+◌, ◌++◌, ◌∷◌, [], ◌∙◌, List, subst, refl, arith}
use Rattle.dev_model.specs.Disk.{Disk, changed, extended}
use Rattle.dev_model.specs.Devices.{Is, MayBeExtended, now}
use Rattle.dev_model.specs.Memory.{mem_state}
use Rattle.file_devices.specs.Files.{IsDiskNow, IsFileCall, MayReach}
use Rattle.file_devices.specs.MemFiles.{file_state}
use Rattle.file_devices.specs.Recalled.{disk_in, recalled}
use Rattle.file_devices.proofs.Recalling.{as_long, as_many_sizes, held_here, mem_behind, mem_changes, mem_ends, mem_past, only_changed, only_one, only_reached}
use Rattle.file_devices.proofs.memory.MemFileImageFile.lengthen.Goals as goal

pub invariant_of-self-2 : goal.invariant_of-self-2
invariant_of-self-2 c =
    let file = c.args.self.now in
    let marked : c.push.new.self.members ≡ c.args.self.now.marks.members ++ record { at = c.args.moment; before = (mem_state c.args.self.now.devices).moment; behind = (mem_state c.extend-result.new.self).moment } ∷ [] =
    c.push.ensures.members ∙ (λ i. c.make_room.ensures.marks i ++ record { at = c.args.moment; before = c.moment-before.ensures.moment i; behind = c.moment-behind.ensures.moment i } ∷ []) in
    record {
      one = as_many_sizes c.extend-result.result (mem_state file.devices).sizes (mem_state c.extend-result.new.self).sizes c.in_ok-blocks.blocks c.extend-result.ensures.sizes c.extend-result.ensures.grows ∙ file.one;
      few = file.few;
      start_past = omega (arith, file.start_past, c.extend-result.ensures.call.later);
      past = mem_past c.extend-result.result file.devices c.extend-result.new.self file.marks.members c.push.new.self.members file.start c.args.moment marked c.extend-result.ensures.call.later file.past;
      ends = mem_ends c.extend-result.result file.devices c.extend-result.new.self file.marks.members c.push.new.self.members file.start c.args.moment marked;
    }

pub returns-clause-call : goal.returns-clause-call
returns-clause-call c =
    let file = c.args.self.now in
    let disks : List Disk = now (mem_state file.devices) in
    let disk : Disk = (file_state file).story c.args.moment in
    let some = only_one file.devices file.one in
    let here : disk ≡ disk_in disks = held_here file.devices file.marks.members file.start c.args.moment file.ends (c.requires.ready tt).still in
    let marked : c.push.new.self.members ≡ c.args.self.now.marks.members ++ record { at = c.args.moment; before = (mem_state c.args.self.now.devices).moment; behind = (mem_state c.extend-result.new.self).moment } ∷ [] =
    c.push.ensures.members ∙ (λ i. c.make_room.ensures.marks i ++ record { at = c.args.moment; before = c.moment-before.ensures.moment i; behind = c.moment-behind.ensures.moment i } ∷ []) in
    let n = c.in_ok-blocks.blocks in
    let made : IsFileCall c.extend-result.result (MayReach n disk) (IsDiskNow (extended n disk)) c.args.moment (file_state file) (record { story = recalled (mem_state c.extend-result.new.self).disks c.push.new.self.members file.start; rest = file.rest; free = file.free; locked = file.locked }) = record {
      changes = mem_changes c.extend-result.result file.devices c.extend-result.new.self file.marks.members c.push.new.self.members file.start c.args.moment marked
          (MayReach n disk) (IsDiskNow (extended n disk)) (MayBeExtended 0 n disks) (Is (changed 0 (extended n) disks))
          c.in_ok-make_room.ensures.soon file.start_past file.past (c.extend-result.ensures.call.disks tt)
          (λ ds may. only_reached disks disk here some n ds may)
          (λ ds is. only_changed disks disk here some (extended n) ds is);
      beside = record { rest = refl; locked = refl };
    } in
    λ _ blocks at. subst (λ k. IsFileCall c.extend-result.result (MayReach k disk) (IsDiskNow (extended k disk)) c.args.moment (file_state file) (record { story = recalled (mem_state c.extend-result.new.self).disks c.push.new.self.members file.start; rest = file.rest; free = file.free; locked = file.locked })) (c.in_ok-blocks.ensures.blocks blocks at) made

pub returns-clause-failed : goal.returns-clause-failed
returns-clause-failed c = λ _.
    let file = c.args.self.now in
    let disks : List Disk = now (mem_state file.devices) in
    let disk : Disk = (file_state file).story c.args.moment in
    let some = only_one file.devices file.one in
    let here : disk ≡ disk_in disks = held_here file.devices file.marks.members file.start c.args.moment file.ends (c.requires.ready tt).still in
    let marked : c.push.new.self.members ≡ c.args.self.now.marks.members ++ record { at = c.args.moment; before = (mem_state c.args.self.now.devices).moment; behind = (mem_state c.extend-result.new.self).moment } ∷ [] =
    c.push.ensures.members ∙ (λ i. c.make_room.ensures.marks i ++ record { at = c.args.moment; before = c.moment-before.ensures.moment i; behind = c.moment-behind.ensures.moment i } ∷ []) in
    as_long c.extend-result.result disk (recalled (mem_state c.extend-result.new.self).disks c.push.new.self.members file.start (c.args.moment + 2)) disks (now (mem_state c.extend-result.new.self)) here
    (mem_behind c.extend-result.result file.devices c.extend-result.new.self file.marks.members c.push.new.self.members file.start c.args.moment marked)
    c.extend-result.ensures.failed
