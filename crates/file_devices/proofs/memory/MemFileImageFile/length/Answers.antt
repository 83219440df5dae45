use Rattle.std.proofs.Common.{◌+◌, ◌*◌, ◌/◌, ◌∙◌, sym}
use Rattle.file_devices.specs.MemFiles.{file_state}
use Rattle.file_devices.proofs.Recalling.{held_here, mem_length, only_one}
use Rattle.file_devices.proofs.memory.MemFileImageFile.length.Goals as goal

pub returns-clause-length : goal.returns-clause-length
returns-clause-length c = λ _ moment still.
    let file = c.args.self.now in
    mem_length file.devices ((file_state file).story moment) file.rest (held_here file.devices file.marks.members file.start moment file.ends still) (only_one file.devices file.one) file.few
    ∙ (λ i. (sym (c.from.ensures ∙ c.blocks-2.ensures) i * 4096 + sym c.from-2.ensures i) / 4096)
