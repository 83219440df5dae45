-- Where a file in memory was left alone, it is what its device holds now.
use Rattle.std.proofs.Common.{◌≡◌, ℕ, ◌+◌, ◌<◌, ◌≤◌, cond, max, min, List, [], ◌∷◌, length, refl, ap, ◌∙◌, sym, subst, arith, All}
use Rattle.std.specs.Prelude.{nat_le}
use Rattle.std.proofs.lemmas.Bool.{le-leb, lt-leb}
use Rattle.std.proofs.lemmas.List.Elements.{All-get_or}
use Rattle.std.proofs.lemmas.List.{length-map}
use Rattle.dev_model.specs.Disk.{Disk, IsDisk, blank}
use Rattle.dev_model.specs.Devices.{now}
use Rattle.dev_model.specs.Memory.{mem_state}
use Rattle.dev_model.specs.declared.memory.MemDevices.{MemDevices}
use Rattle.file_devices.specs.MemDisks.{mem_are_disks, mem_sizes_agree}
use Rattle.file_devices.specs.Files.{IsStill}
use Rattle.file_devices.specs.Recalled.{after_mark, disk_in, own_at, own_end, recalled}
use Rattle.file_devices.specs.declared.mark.Mark.{Mark}

-- Before a call it wasn't made,
pub mark_before : (mark : Mark) (own m : ℕ) → m ≤ mark.at → after_mark mark own m ≡ own
mark_before mark own m le = ap (λ b. cond b own (cond (nat_le m (mark.at + 1)) (min (mark.before + 1) mark.behind) mark.behind)) (le-leb m mark.at le)

-- a moment later the device was inside it,
pub mark_inside : (mark : Mark) (own m : ℕ) → m ≡ mark.at + 1 → after_mark mark own m ≡ min (mark.before + 1) mark.behind
mark_inside mark own m is =
    ap (λ b. cond b own (cond (nat_le m (mark.at + 1)) (min (mark.before + 1) mark.behind) mark.behind)) (lt-leb m mark.at (omega (arith, is)))
    ∙ ap (λ b. cond b (min (mark.before + 1) mark.behind) mark.behind) (le-leb m (mark.at + 1) (omega (arith, is)))

-- and from the next moment on behind it.
pub mark_behind : (mark : Mark) (own m : ℕ) → mark.at + 2 ≤ m → after_mark mark own m ≡ mark.behind
mark_behind mark own m le =
    ap (λ b. cond b own (cond (nat_le m (mark.at + 1)) (min (mark.before + 1) mark.behind) mark.behind)) (lt-leb m mark.at (omega (arith, le)))
    ∙ ap (λ b. cond b (min (mark.before + 1) mark.behind) mark.behind) (lt-leb m (mark.at + 1) (omega (arith, le)))

-- a moment behind all calls
abbrev bound_of : List Mark → ℕ
bound_of [] = 0
bound_of (mark ∷ marks) = max (mark.at + 2) (bound_of marks)

own_late : (marks : List Mark) (own m : ℕ) → bound_of marks ≤ m → own_at marks own m ≡ own_end marks own
own_late [] own m le = refl
own_late (mark ∷ marks) own m le =
    ap (λ n. own_at marks n m) (mark_behind mark own m (omega (arith, le))) ∙ own_late marks mark.behind m (omega (arith, le))

-- Where it was left alone since some moment, it was then what its device holds in the end.
pub recalled_still : (disks : ℕ → List Disk) (marks : List Mark) (start moment : ℕ) → IsStill (recalled disks marks start) moment → recalled disks marks start moment ≡ disk_in (disks (own_end marks start))
recalled_still disks marks start moment still =
    let late : ℕ = max moment (bound_of marks) in
    sym (still.since late (omega arith)) ∙ ap (λ n. disk_in (disks n)) (own_late marks start late (omega arith))

-- So it was a disk then.
pub recalled_is_disk : (disks : ℕ → List Disk) (marks : List Mark) (start top moment : ℕ) → own_end marks start ≡ top → All IsDisk (disks top) → 0 < length (disks top) → IsStill (recalled disks marks start) moment → IsDisk (recalled disks marks start moment)
recalled_is_disk disks marks start top moment ends are some still =
    subst IsDisk (sym (recalled_still disks marks start moment still ∙ ap (λ n. disk_in (disks n)) ends)) (All-get_or IsDisk (disks top) 0 (blank 0) some are)

-- It is so over a device in memory.
pub mem_is_disk : (devices : MemDevices) (marks : List Mark) (start moment : ℕ) → own_end marks start ≡ (mem_state devices).moment → length (mem_state devices).sizes ≡ 1 → IsStill (recalled (mem_state devices).disks marks start) moment → IsDisk (recalled (mem_state devices).disks marks start moment)
mem_is_disk devices marks start moment ends one still =
    recalled_is_disk (mem_state devices).disks marks start (mem_state devices).moment moment ends (mem_are_disks devices)
    (omega (arith, one, ap length (mem_sizes_agree devices), length-map (now (mem_state devices)) (λ (disk : Disk). length disk.blocks)))
    still
