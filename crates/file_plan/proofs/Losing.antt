-- What a file has after it lost the blocks behind a size.
use Rattle.std.proofs.Common.{◌≡◌, ℕ, ◌*◌, ◌/◌, ◌%◌, ◌<◌, ◌≤◌, true, false, None, List, [], refl, sym, ap, ◌∙◌, subst, inl, inr, arith}
use Rattle.std.specs.Prelude.{◌⊎◌, ◌&&◌, nat_le, nat_lt, slice_index}
use Rattle.std.proofs.lemmas.Bool.{true≢false}
use Rattle.std.proofs.lemmas.Bool.Decides.{nat_tests}
use Rattle.vol_types.specs.KeyMaps.{KeyMap, with_updates}
use Rattle.vol_types.specs.Limits.{block_size}
use Rattle.vol_types.specs.declared.keys.Update.{Update}
use Rattle.key_meaning.specs.Blocks.{block_in}
use Rattle.key_meaning.specs.Forest.{Read, byte_at, byte_in, content_of}
use Rattle.extent_ops.specs.Content.{TakesBlocks, hidden_if, is_covered_above}
use Rattle.file_plan.specs.Content.{HasFile, IsCutTo, LosesBlocks, MayReach}
use Rattle.file_plan.specs.Runs.{bytes_of}
use Rattle.file_plan.specs.Sizes.{blocks_up_to}
use Rattle.file_plan.proofs.Bytes.{LiesIn, blocks_reach, byte_below, byte_past, lies_in, same_bytes}
use Rattle.file_plan.proofs.Fresh.{lt_or_le}
use Rattle.file_plan.proofs.Putting.{past_end}
use Rattle.file_plan.proofs.Taking.{empty_range, nothing_taken}

-- What an id shows where it lost these blocks: nothing of them, and else what it showed.
pub record ShowsLess (old new : KeyMap) (id number size new_size : ℕ) : Type 0 where
  pub hidden : (block : ℕ) → (nat_le (blocks_up_to new_size) block && nat_lt block (blocks_up_to size)) ≡ true → block_in new id number block ≡ None
  pub stays : (block : ℕ) → (nat_le (blocks_up_to new_size) block && nat_lt block (blocks_up_to size)) ≡ false → block_in new id number block ≡ block_in old id number block

outside : (first end block : ℕ) → block < first → (nat_le first block && nat_lt block end) ≡ false
outside first end block lt = grind (arith, nat_tests)

behind : (first end block : ℕ) → end ≤ block → (nat_le first block && nat_lt block end) ≡ false
behind first end block le = grind (arith, nat_tests)

inside : (first end block : ℕ) → first ≤ block → block < end → (nat_le first block && nat_lt block end) ≡ true
inside first end block le lt = grind (arith, nat_tests)

module _ (keys new : KeyMap) (read : Read) (id number size new_size : ℕ) (had : HasFile keys id number size) (shows : ShowsLess keys new id number size new_size) where
  -- Bytes before the new end stay, and there are zeros behind the old one.
  each_byte : (i : ℕ) → MayReach keys id number size [] new_size → i < new_size → byte_in new read id number i ≡ slice_index (content_of keys read id number size) i
  each_byte i may lt = by (lt_or_le i size)
    where
      stays : block_in new id number (i / block_size) ≡ block_in keys id number (i / block_size)
      stays = let here : LiesIn i = lies_in i in let at = here.is in let reach = blocks_reach new_size in
          shows.stays (i / block_size) (outside (blocks_up_to new_size) (blocks_up_to size) (i / block_size) (omega (arith, at, reach.0, lt)))

      by : (i < size) ⊎ (size ≤ i) → byte_in new read id number i ≡ slice_index (content_of keys read id number size) i
      by (inl below) = ap (λ o. byte_at (bytes_of read o) (i % block_size)) stays ∙ sym (byte_below keys read id number size i below)
      by (inr past) = ap (λ o. byte_at (bytes_of read o) (i % block_size)) (stays ∙ past_end keys id number size [] had i new_size may lt past refl) ∙ sym (byte_past keys read id number size i past)

  pub cut_bytes : IsCutTo keys new read id number size new_size
  cut_bytes may = same_bytes (byte_in new read id number) (slice_index (content_of keys read id number size)) new_size (λ i lt. each_byte i may lt)

-- No block shows behind the new end.
pub cut_blocks : (keys new : KeyMap) (id number size new_size : ℕ) → HasFile keys id number size → ShowsLess keys new id number size new_size
    → TakesBlocks keys new number id (λ block. nat_le (blocks_up_to new_size) block && nat_lt block (blocks_up_to size)) (λ block. hidden_if (is_covered_above keys id number block))
    → LosesBlocks keys new number id size new_size
cut_blocks keys new id number size new_size had shows takes = record { blocks = takes; ends = λ block past. by block past (lt_or_le block (blocks_up_to size)) }
  where
    by : (block : ℕ) → new_size ≤ block * block_size → (block < blocks_up_to size) ⊎ (blocks_up_to size ≤ block) → block_in new id number block ≡ None
    by block past (inl lt) = shows.hidden block (inside (blocks_up_to new_size) (blocks_up_to size) block (let reach = blocks_reach new_size in omega (arith, reach.1, past)) lt)
    by block past (inr le) = shows.stays block (behind (blocks_up_to new_size) (blocks_up_to size) block le) ∙ had.ends block (let reach = blocks_reach size in omega (arith, reach.0, le))

-- Where no block is to be lost, nothing changes.
pub nothing_less : (keys : KeyMap) (id number size new_size : ℕ) (updates : List Update) → blocks_up_to size ≤ blocks_up_to new_size → updates ≡ [] → ShowsLess keys (with_updates updates keys) id number size new_size
nothing_less keys id number size new_size updates le none = record {
  hidden = λ block is. absurd (true≢false (sym is ∙ empty_range (blocks_up_to new_size) (blocks_up_to size) block le));
  stays = λ block is. ap (λ us. block_in (with_updates us keys) id number block) none;
}

pub nothing_lost : (keys : KeyMap) (id number size new_size : ℕ) (updates : List Update) → blocks_up_to size ≤ blocks_up_to new_size → updates ≡ [] → HasFile keys id number size
    → TakesBlocks keys (with_updates updates keys) number id (λ block. nat_le (blocks_up_to new_size) block && nat_lt block (blocks_up_to size)) (λ block. hidden_if (is_covered_above keys id number block))
nothing_lost keys id number size new_size updates le none had =
    subst (λ us. TakesBlocks keys (with_updates us keys) number id (λ block. nat_le (blocks_up_to new_size) block && nat_lt block (blocks_up_to size)) (λ block. hidden_if (is_covered_above keys id number block))) (sym none)
    (nothing_taken keys number id (λ block. nat_le (blocks_up_to new_size) block && nat_lt block (blocks_up_to size)) (λ block. hidden_if (is_covered_above keys id number block)) (λ block. empty_range (blocks_up_to new_size) (blocks_up_to size) block le) had.once)
