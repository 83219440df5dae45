-- What a file has after it took extents over.
use Rattle.std.proofs.Common.{◌≡◌, ℕ, ◌*◌, ◌/◌, ◌%◌, ◌<◌, ◌≤◌, Bool, true, false, Option, Some, None, List, [], refl, sym, ap, ◌∙◌, subst, inl, inr, arith}
use Rattle.std.specs.Prelude.{◌⊎◌, ◌&&◌, ◌==◌, not, IfNone, is_some, slice_index}
use Rattle.std.proofs.lemmas.Bool.{eqb-true, true≢false}
use Rattle.std.proofs.lemmas.Option.{none-some as none_some}
use Rattle.vol_types.specs.KeyMaps.{KeyMap, with_updates}
use Rattle.vol_types.specs.Limits.{block_size}
use Rattle.vol_types.specs.declared.keys.Key.{Key}
use Rattle.vol_types.specs.declared.keys.Update.{Update}
use Rattle.key_meaning.specs.Blocks.{Block, block_in}
use Rattle.key_meaning.specs.Forest.{Read, byte_at, byte_in, content_of}
use Rattle.extent_ops.specs.Content.{TakesBlocks, block_above, given_by, shown_over}
use Rattle.file_plan.specs.Content.{HasFile, IsPut, MayReach, TakesExtents, byte_from}
use Rattle.file_plan.specs.Ends.{has_end}
use Rattle.file_plan.specs.Runs.{bytes_of}
use Rattle.file_plan.proofs.Bytes.{LiesIn, byte_below, byte_past, lies_in, same_bytes}
use Rattle.file_plan.proofs.Fresh.{lt_or_le}
use Rattle.file_plan.proofs.Giving.{given_behind}
use Rattle.file_plan.proofs.Taking.{nothing_taken}

-- What an id shows where it took what fresh keys give: that, and else what it showed.
pub record Shows (old new : KeyMap) (id number : ℕ) (fresh : List Key) : Type 0 where
  pub taken : (block : ℕ) (shown : Option Block) → given_by fresh block ≡ Some shown → block_in new id number block ≡ shown
  pub stays : (block : ℕ) → given_by fresh block ≡ None → block_in new id number block ≡ block_in old id number block

module _ (keys : KeyMap) (id number size : ℕ) (extents : List Key) (had : HasFile keys id number size) where
  not_there : (a : Bool) (o : Option Block) → a ≡ false → (not a && is_some o) ≡ false → o ≡ None
  not_there true o is none = absurd (true≢false is)
  not_there false None is none = refl
  not_there false (Some x) is none = absurd (true≢false none)

  -- Behind the end nothing shows where nothing is given, as far as the file may reach.
  pub past_end : (i new_size : ℕ) → MayReach keys id number size extents new_size → i < new_size → size ≤ i → given_by extents (i / block_size) ≡ None → block_in keys id number (i / block_size) ≡ None
  past_end i new_size may lt le none = by (lt_or_le (i / block_size * block_size) size)
    where
      here : LiesIn i
      here = lies_in i

      there : LiesIn size
      there = lies_in size

      in_end : i / block_size * block_size < size → i / block_size ≡ size / block_size
      in_end below = let a = here.is in let b = there.is in let x = here.below in let y = there.below in omega (arith, a, b, x, y, le, below)

      inside : i / block_size * block_size < size → (size % block_size == 0) ≡ false
      inside below = by_test (size % block_size == 0) refl
        where
          by_test : (b : Bool) → (size % block_size == 0) ≡ b → (size % block_size == 0) ≡ false
          by_test true is = let zero_left : size % block_size ≡ 0 = eqb-true (size % block_size) 0 is in let b = there.is in let same = in_end below in absurd (omega (arith, zero_left, b, same, below))
          by_test false is = is

      not_given : (block : ℕ) → i / block_size ≡ block → given_by extents block ≡ None
      not_given block at = ap (given_by extents) (sym at) ∙ none

      shut : i / block_size * block_size < size → (b : Bool) → has_end keys id number size ≡ b → block_in keys id number (size / block_size) ≡ None
      shut below true has = absurd (true≢false (sym (may (omega (arith, lt, le)) has) ∙ ap is_some (not_given (size / block_size) (in_end below))))
      shut below false has = not_there (size % block_size == 0) (block_in keys id number (size / block_size)) (inside below) has

      by : (i / block_size * block_size < size) ⊎ (size ≤ i / block_size * block_size) → block_in keys id number (i / block_size) ≡ None
      by (inl below) = ap (block_in keys id number) (in_end below) ∙ shut below (has_end keys id number size) refl
      by (inr past) = had.ends (i / block_size) past

module _ (keys new : KeyMap) (read : Read) (id number size : ℕ) (extents : List Key) (shows : Shows keys new id number extents) (had : HasFile keys id number size) where
  -- what the file has
  abbrev old : List ℕ
  old = content_of keys read id number size

  -- Each byte is what is given to its block, and else what it was.
  each_byte : (new_size i : ℕ) → MayReach keys id number size extents new_size → i < new_size → byte_in new read id number i ≡ byte_from read old i (given_by extents (i / block_size))
  each_byte new_size i may lt = by (given_by extents (i / block_size)) refl
    where
      shown_there : (o : Option Block) → block_in new id number (i / block_size) ≡ o → byte_in new read id number i ≡ byte_at (bytes_of read o) (i % block_size)
      shown_there o is = ap (λ x. byte_at (bytes_of read x) (i % block_size)) is

      as_it_was : block_in new id number (i / block_size) ≡ block_in keys id number (i / block_size) → given_by extents (i / block_size) ≡ None → (i < size) ⊎ (size ≤ i) → byte_in new read id number i ≡ slice_index old i
      as_it_was stays none (inl below) = shown_there (block_in keys id number (i / block_size)) stays ∙ sym (byte_below keys read id number size i below)
      as_it_was stays none (inr past) = shown_there None (stays ∙ past_end keys id number size extents had i new_size may lt past none) ∙ sym (byte_past keys read id number size i past)

      by : (g : Option (Option Block)) → given_by extents (i / block_size) ≡ g → byte_in new read id number i ≡ byte_from read old i g
      by (Some shown) is = shown_there shown (shows.taken (i / block_size) shown is)
      by None is = as_it_was (shows.stays (i / block_size) is) is (lt_or_le i size)

  -- So it is put.
  pub put_bytes : IsPut keys new read id number size extents
  put_bytes new_size may = same_bytes (byte_in new read id number) (λ i. byte_from read old i (given_by extents (i / block_size))) new_size (λ i lt. each_byte new_size i may lt)

-- The blocks that it has then.
pub put_blocks : (keys new : KeyMap) (id number size : ℕ) (extents : List Key) → Shows keys new id number extents → HasFile keys id number size
    → TakesBlocks keys new number id (λ block. is_some (given_by extents block)) (given_by extents) → TakesExtents keys new number id size extents
put_blocks keys new id number size extents shows had takes = record {
  blocks = takes;
  ends = λ block past behind. shows.stays block (given_behind extents block behind) ∙ had.ends block past;
}

-- What the laws say of blocks that were taken, of those that fresh keys give.
pub fresh_show : (old new : KeyMap) (id number : ℕ) (fresh : List Key)
    → ((block : ℕ) → is_some (given_by fresh block) ≡ true → block_in new id number block ≡ shown_over (given_by fresh block) (block_above old id number block))
    → ((block : ℕ) → is_some (given_by fresh block) ≡ false → block_in new id number block ≡ block_in old id number block)
    → Shows old new id number fresh
fresh_show old new id number fresh taken stays = record {
  taken = λ block shown is. taken block (ap is_some is) ∙ ap (λ o. shown_over o (block_above old id number block)) is;
  stays = λ block is. stays block (ap is_some is);
}

-- What holds where there is nothing.
pub if_none : {X : Type 0} (o : Option X) (P : Type 0) → o ≡ None → IfNone o P → P
if_none None P is holds = holds
if_none (Some x) P is holds = absurd (none_some x (sym is))

-- Where no extents are put, nothing changes.
pub nothing_shows : (keys : KeyMap) (id number : ℕ) (extents : List Key) (updates : List Update) → extents ≡ [] → updates ≡ [] → Shows keys (with_updates updates keys) id number extents
nothing_shows keys id number extents updates empty none = record {
  taken = λ block shown is. absurd (none_some shown (sym (ap (λ ks. given_by ks block) empty) ∙ is));
  stays = λ block is. ap (λ us. block_in (with_updates us keys) id number block) none;
}

pub nothing_put : (keys : KeyMap) (id number size : ℕ) (extents : List Key) (updates : List Update) → extents ≡ [] → updates ≡ [] → HasFile keys id number size
    → TakesBlocks keys (with_updates updates keys) number id (λ block. is_some (given_by extents block)) (given_by extents)
nothing_put keys id number size extents updates empty none had =
    subst (λ us. TakesBlocks keys (with_updates us keys) number id (λ block. is_some (given_by extents block)) (given_by extents)) (sym none)
    (nothing_taken keys number id (λ block. is_some (given_by extents block)) (given_by extents) (λ block. ap (λ ks. is_some (given_by ks block)) empty) had.once)
