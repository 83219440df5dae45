-- Images that hold the same blocks are the same, so that disks of which each place is settled are quiet.
use Rattle.std.proofs.Common.{◌≡◌, ℕ, suc, List, [], ◌∷◌, length, slice_get, refl, ◌∙◌, sym, arith}
use Rattle.std.proofs.lemmas.Option.{none-some, same_Some}
use Rattle.dev_model.specs.Crashes.{IsQuiet}
use Rattle.dev_model.specs.Disk.{Disk, Image, as_read, block_at}
use Rattle.vol_format.specs.Steps.{AllSettled}
use Rattle.vol_format.proofs.Stepping.{read_count}
use Rattle.vol_format.proofs.Written.{left_count}

-- Devices that hold the same blocks are the same.
same_blocks : (one other : List (List ℕ)) → ((block : ℕ) → slice_get one block ≡ slice_get other block) → one ≡ other
same_blocks [] [] same = refl
same_blocks [] (b ∷ other) same = absurd (none-some b (same 0))
same_blocks (a ∷ one) [] same = absurd (none-some a (sym (same 0)))
same_blocks (a ∷ one) (b ∷ other) same = let head : a ≡ b = same_Some a b (same 0) in let tail : one ≡ other = same_blocks one other (λ block. same (suc block)) in λ i. head i ∷ tail i

same_image : (one other : Image) → length one ≡ length other → ((dev block : ℕ) → block_at one dev block ≡ block_at other dev block) → one ≡ other
same_image [] [] count same = refl
same_image [] (b ∷ other) count same = absurd (omega (arith, count))
same_image (a ∷ one) [] count same = absurd (omega (arith, count))
same_image (a ∷ one) (b ∷ other) count same = let head : a ≡ b = same_blocks a b (same 0) in let tail : one ≡ other = same_image one other (omega (arith, count)) (λ dev. same (suc dev)) in λ i. head i ∷ tail i

-- Where a crash leaves each place as it is read, nothing is pending.
pub is_quiet : (disks : List Disk) → AllSettled disks → IsQuiet disks
is_quiet disks settled image may = same_image image (as_read disks) (left_count disks image may ∙ sym (read_count disks)) (settled image may)
