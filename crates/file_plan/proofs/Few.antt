-- How many updates a write or a truncation makes at most, as numbers.
use Rattle.std.proofs.Common.{◌≡◌, ℕ, ◌+◌, ◌-◌, ◌*◌, ◌/◌, ◌<◌, ◌≤◌, Bool, true, false, cond, List, [], ◌∷◌, ◌++◌, length, refl, sym, ap, ◌∙◌, arith}
use Rattle.std.specs.Prelude.{nat_le}
use Rattle.std.proofs.lemmas.Bool.{leb-true}
use Rattle.std.proofs.lemmas.List.{length-append}
use Rattle.vol_types.specs.Limits.{block_size}
use Rattle.vol_types.specs.declared.keys.Key.{Key}
use Rattle.vol_types.specs.declared.positions.Pos.{Pos}
use Rattle.extent_ops.specs.Above.{blocks_maybe}
use Rattle.extent_ops.specs.Bounds.{blocks_in_all}
use Rattle.file_plan.specs.Bounds.{most_updates}
use Rattle.file_plan.specs.Ends.{IsEndWritten}
use Rattle.file_plan.specs.Runs.{AreCut, IsExtentKey, IsRun, IsWritten, blocks_in, extent_of}
use Rattle.file_plan.specs.Sizes.{blocks_up_to, most_cut}
use Rattle.file_plan.specs.declared.block_io.BlockIo.{BlockIo}
use Rattle.file_plan.specs.declared.change.Change.TheVariants.{Cut, Put}

module _ (file id : ℕ) where
  key_blocks : (first : ℕ) (key : Key) → IsExtentKey file id first key → (blocks_maybe key.value ≡ blocks_in key) × (key.pos.offset ≡ first + blocks_in key) × (1 ≤ blocks_in key)
  key_blocks first key is = let same : blocks_in key ≡ length is.extent.digests = ap (λ v. length (extent_of v).digests) is.is in
      (ap blocks_maybe is.is ∙ sym same, ap (λ (p : Pos). p.offset) is.at ∙ ap (λ n. first + n) (sym same), omega (arith, same, is.blocks.0))

  -- A run has its blocks,
  run_blocks : (first end : ℕ) (keys : List Key) → IsRun file id first end keys → first + blocks_in_all keys ≡ end
  run_blocks first end [] run = omega (arith, run)
  run_blocks first end (key ∷ keys) run = let here = key_blocks first key run.0 in let later = run_blocks key.pos.offset end keys run.1 in omega (arith, here.0, here.1, later)

  -- in as few extents as may be.
  run_cut : (first end : ℕ) (keys : List Key) → IsRun file id first end keys → AreCut keys → 16 * length keys ≤ blocks_in_all keys + 15
  run_cut first end [] run cut = omega arith
  run_cut first end (key ∷ []) run cut = let here = key_blocks first key run.0 in omega (arith, here.0, here.2)
  run_cut first end (key ∷ next ∷ keys) run cut = let here = key_blocks first key run.0 in let later = run_cut key.pos.offset end (next ∷ keys) run.1 cut.1 in omega (arith, here.0, cut.0, later)

  -- So what is written takes few extents and updates,
  written_few : (first : ℕ) (blocks : List (List ℕ)) (keys : List Key) (old new : BlockIo) → IsWritten file id first blocks keys old new → (blocks_in_all keys ≡ length blocks) × (16 * length keys ≤ length blocks + 15)
  written_few first blocks keys old new is = let all = run_blocks first (first + length blocks) keys is.run in
      let same : blocks_in_all keys ≡ length blocks = omega (arith, all) in
      let few = run_cut first (first + length blocks) keys is.run is.cut in
      (same, omega (arith, same, few))

  pub put_few : (size first : ℕ) (blocks : List (List ℕ)) (keys : List Key) (old new : BlockIo) → IsWritten file id first blocks keys old new → length blocks ≤ 17 → most_updates size (Put first keys) ≤ 21
  put_few size first blocks keys old new is few = let are = written_few first blocks keys old new is in omega (arith, are.0, are.1, few)

  all_append : (one other : List Key) → blocks_in_all (one ++ other) ≡ blocks_in_all one + blocks_in_all other
  all_append [] other = omega arith
  all_append (key ∷ one) other = let later = all_append one other in omega (arith, later)

  -- also behind the block of the old end.
  pub put_with_end_few : (size first : ℕ) (end : List Key) (before after : BlockIo) (blocks : List (List ℕ)) (keys : List Key) (old new : BlockIo) → IsEndWritten file id size end before after → IsWritten file id first blocks keys old new → length blocks ≤ 17
      → most_updates size (Put (size / block_size) (end ++ keys)) ≤ 24
  put_with_end_few size first end before after blocks keys old new ended is few =
      let are = written_few first blocks keys old new is in
      let last = written_few (size / block_size) ended.blocks end ended.after_reads after ended.written in
      omega (arith, are.0, are.1, few, last.0, last.1, ended.one, all_append end keys, length-append end keys)

-- One truncation cuts at most 256 blocks.
pub cut_few : (size new : ℕ) → most_updates size (Cut new) ≤ 258
cut_few size new = by (nat_le (blocks_up_to size) (blocks_up_to new + most_cut)) refl
  where
    whole : (n : ℕ) → blocks_up_to (n * block_size) ≡ n
    whole n = omega arith

    by : (b : Bool) → nat_le (blocks_up_to size) (blocks_up_to new + most_cut) ≡ b → (blocks_up_to size - blocks_up_to (cond b new ((blocks_up_to size - most_cut) * block_size))) + 2 ≤ 258
    by true is = let le = leb-true (blocks_up_to size) (blocks_up_to new + most_cut) is in omega (arith, le)
    by false is = let same = whole (blocks_up_to size - most_cut) in omega (arith, same)

-- So many bytes lie over 17 blocks at most.
pub write_few : (offset count : ℕ) → 0 < count → count ≤ 65536 → blocks_up_to (offset + count) - offset / block_size ≤ 17
write_few offset count some few = omega (arith, some, few)
