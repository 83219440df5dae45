-- The block of a file's end that is written anew changes no byte.
use Rattle.std.proofs.Common.{◌≡◌, ℕ, ◌+◌, ◌/◌, ◌%◌, ◌<◌, ◌≤◌, Bool, true, false, cond, Option, Some, None, List, ◌++◌, length, refl, sym, ap, ◌∙◌, inl, inr, arith}
use Rattle.std.specs.Prelude.{◌≢◌, ◌⊎◌, ◌&&◌, ◌==◌, not, All, is_some, option_and_then, option_map, slice_index}
use Rattle.std.specs.Option.{option_or}
use Rattle.std.proofs.lemmas.Bool.{eqb-false, eqb-true, true≢false}
use Rattle.std.proofs.lemmas.Option.{none-some as none_some}
use Rattle.vol_types.specs.KeyMaps.{KeyMap}
use Rattle.vol_types.specs.Limits.{block_size}
use Rattle.vol_types.specs.declared.keys.Key.{Key}
use Rattle.key_meaning.specs.Blocks.{Block, block_in}
use Rattle.key_meaning.specs.Forest.{Read, byte_at, bytes_in, content_of}
use Rattle.extent_ops.specs.Content.{AreFresh, given_by}
use Rattle.file_plan.specs.Content.{MayReach, byte_from, written_over}
use Rattle.file_plan.specs.Ends.{IsEndWritten, end_bytes, has_end, zeroed}
use Rattle.file_plan.specs.Runs.{bytes_of}
use Rattle.file_plan.specs.declared.block_io.BlockIo.{BlockIo}
use Rattle.file_plan.proofs.Bytes.{LiesIn, byte_below, byte_past, lies_in, same_below, same_bytes, zero_from}
use Rattle.file_plan.proofs.Fresh.{fresh_then, lt_or_le}
use Rattle.file_plan.proofs.Giving.{fresh_below, given_behind, given_by-append, run_fresh, run_within}

-- The end's keys give no other block.
pub gives_no_other : (id number size : ℕ) (end : List Key) (before after : BlockIo) → IsEndWritten number id size end before after → (block : ℕ) → block ≢ size / block_size → given_by end block ≡ None
gives_no_other id number size end before after written block apart = by (lt_or_le block (size / block_size))
  where
    above : size / block_size ≤ block → (size / block_size < block) ⊎ (block ≤ size / block_size) → size / block_size < block
    above le (inl is) = is
    above le (inr ge) = absurd (apart (let same : block ≡ size / block_size = omega (arith, le, ge) in same))

    within : size / block_size < block → All (λ (key : Key). key.pos.offset ≤ block) end
    within past = λ k d le. let ends = (run_within number id (size / block_size) (size / block_size + length written.blocks) end written.written.run).1 k d le in omega (arith, ends, written.one, past)

    by : (block < size / block_size) ⊎ (size / block_size ≤ block) → given_by end block ≡ None
    by (inl below) = fresh_below number id (size / block_size) end block (run_fresh number id (size / block_size) (size / block_size + length written.blocks) end written.written.run) below
    by (inr le) = given_behind end block (within (above le (lt_or_le (size / block_size) block)))

-- They may go first.
pub end_fresh : (id number size first : ℕ) (end extents : List Key) (before after : BlockIo) → IsEndWritten number id size end before after → size / block_size < first → AreFresh number id first extents → AreFresh number id (size / block_size) (end ++ extents)
end_fresh id number size first end extents before after written lt fresh =
    fresh_then number id (size / block_size) (size / block_size + length written.blocks) first end extents written.written.run (omega (arith, written.one, lt)) fresh

-- Then the file may be as long as is wanted.
pub end_reaches : (keys : KeyMap) (id number size new_size : ℕ) (end extents : List Key) → is_some (given_by end (size / block_size)) ≡ has_end keys id number size → MayReach keys id number size (end ++ extents) new_size
end_reaches keys id number size new_size end extents there longer has =
    ap is_some (given_by-append end extents (size / block_size)) ∙ or_some (given_by end (size / block_size)) (given_by extents (size / block_size)) (there ∙ has)
  where
    or_some : (a b : Option (Option Block)) → is_some a ≡ true → is_some (option_or a b) ≡ true
    or_some None b some = absurd (true≢false (sym some))
    or_some (Some x) b some = refl

module _ (keys : KeyMap) (read : Read) (id number size first : ℕ) (end extents : List Key) (before after : BlockIo) (written : IsEndWritten number id size end before after)
    (is_there : is_some (given_by end (size / block_size)) ≡ has_end keys id number size) (end_read : option_and_then (bytes_of read) (given_by end (size / block_size)) ≡ end_bytes keys read id number size)
    (behind : size / block_size < first) (fresh : AreFresh number id first extents) where
  -- what the file has
  abbrev old : List ℕ
  old = content_of keys read id number size

  -- what the end gives lies in its block, and the extents don't give it
  end_is : (block : ℕ) (shown : Option Block) → given_by end block ≡ Some shown → block ≡ size / block_size
  end_is block shown gives = by (block == size / block_size) refl
    where
      by : (b : Bool) → (block == size / block_size) ≡ b → block ≡ size / block_size
      by true is = eqb-true block (size / block_size) is
      by false is = absurd (none_some shown (sym (gives_no_other id number size end before after written block (eqb-false block (size / block_size) is)) ∙ gives))

  both_true : (a b : Bool) → (not a && b) ≡ true → a ≡ false
  both_true true b is = absurd (true≢false (sym is))
  both_true false b is = refl

  -- a byte of the end's block
  zeroed_byte : (i : ℕ) (found : Option (List ℕ)) → i / block_size ≡ size / block_size → bytes_in keys read id number (size / block_size) ≡ found
      → byte_at (option_map (zeroed (size % block_size)) found) (i % block_size) ≡ slice_index old i
  zeroed_byte i found at is = by (lt_or_le i size) found is
    where
      here : LiesIn i
      here = lies_in i

      there : LiesIn size
      there = lies_in size

      was : (found : Option (List ℕ)) → bytes_in keys read id number (size / block_size) ≡ found → i < size → byte_at found (i % block_size) ≡ slice_index old i
      was found is lt = ap (λ o. byte_at o (i % block_size)) (sym is) ∙ ap (λ b. byte_at (bytes_in keys read id number b) (i % block_size)) (sym at) ∙ sym (byte_below keys read id number size i lt)

      by : (i < size) ⊎ (size ≤ i) → (found : Option (List ℕ)) → bytes_in keys read id number (size / block_size) ≡ found → byte_at (option_map (zeroed (size % block_size)) found) (i % block_size) ≡ slice_index old i
      by (inl lt) None is = was None is lt
      by (inl lt) (Some bytes) is = same_below (size % block_size) (i % block_size) bytes (let a = here.is in let b = there.is in omega (arith, a, b, at, lt)) ∙ was (Some bytes) is lt
      by (inr le) None is = sym (byte_past keys read id number size i le)
      by (inr le) (Some bytes) is = zero_from (size % block_size) (i % block_size) bytes (let a = here.is in let b = there.is in omega (arith, a, b, at, le)) ∙ sym (byte_past keys read id number size i le)

  end_case : (i : ℕ) (shown : Option Block) → given_by end (i / block_size) ≡ Some shown → byte_at (bytes_of read shown) (i % block_size) ≡ slice_index old i
  end_case i shown gives =
      let at : i / block_size ≡ size / block_size = end_is (i / block_size) shown gives in
      let given_there : given_by end (size / block_size) ≡ Some shown = ap (given_by end) (sym at) ∙ gives in
      let has : has_end keys id number size ≡ true = sym is_there ∙ ap is_some given_there in
      ap (λ o. byte_at o (i % block_size))
      (ap (option_and_then (bytes_of read)) (sym given_there) ∙ end_read
      ∙ ap (λ b. cond b None (option_map (zeroed (size % block_size)) (bytes_in keys read id number (size / block_size)))) (both_true (size % block_size == 0) (is_some (block_in keys id number (size / block_size))) has))
      ∙ zeroed_byte i (bytes_in keys read id number (size / block_size)) at refl

  each_byte : (i : ℕ) → byte_from read old i (given_by (end ++ extents) (i / block_size)) ≡ byte_from read old i (given_by extents (i / block_size))
  each_byte i = ap (byte_from read old i) (given_by-append end extents (i / block_size)) ∙ by (given_by end (i / block_size)) refl
    where
      by : (g : Option (Option Block)) → given_by end (i / block_size) ≡ g → byte_from read old i (option_or g (given_by extents (i / block_size))) ≡ byte_from read old i (given_by extents (i / block_size))
      by None is = refl
      by (Some shown) is = end_case i shown is ∙ ap (byte_from read old i) (sym (fresh_below number id first extents (i / block_size) fresh (let at : i / block_size ≡ size / block_size = end_is (i / block_size) shown is in omega (arith, at, behind))))

  -- So the end's block adds nothing.
  pub end_adds_nothing : (new_size : ℕ) → written_over read (end ++ extents) old new_size ≡ written_over read extents old new_size
  end_adds_nothing new_size = same_bytes (λ i. byte_from read old i (given_by (end ++ extents) (i / block_size))) (λ i. byte_from read old i (given_by extents (i / block_size))) new_size (λ i lt. each_byte i)
