-- How many blocks of each bucket are used after updates were expanded, and which generation it has.
use Rattle.std.proofs.Common.{◌≡◌, ℕ, ◌+◌, ◌-◌, ◌^◌, ◌≤◌, Bool, true, false, cond, min, List, [], ◌∷◌, ◌++◌, map, Option, Some, None, refl, sym, ap, ◌∙◌, arith, All}
use Rattle.std.specs.Prelude.{◌==◌, ◌&&◌, nat_lt, option_map, unwrap_or}
use Rattle.std.specs.BTreeMap.{is_at}
use Rattle.std.proofs.lemmas.Bool.{eqb-true, ltb-true}
use Rattle.std.proofs.lemmas.List.Elements.{All-cons, All-head, All-nil, All-tail, All-weaker}
use Rattle.key_meaning.specs.Checks.{count_in_bucket, live_blocks, live_in, live_of, used_places}
use Rattle.key_triggers.specs.declared.tallies.Tally.{Tally}
use Rattle.key_triggers.specs.Changes.{values_after, values_before}
use Rattle.key_triggers.specs.Expanding.{expanded, owners_of, tallies_of}
use Rattle.key_triggers.specs.Follows.{HasGeneration, IsNoSpaceUpdate, MayFollow, generation_in, is_emptied}
use Rattle.key_triggers.specs.Owners.{owner_update}
use Rattle.key_triggers.specs.Stamps.{stamped}
use Rattle.key_triggers.specs.Tallies.{blocks_after, counted_values, live_after, live_update, tally_at}
use Rattle.key_triggers.proofs.Changing.{AreChanges, counts_change, stand_within, stood_within, updates_change}
use Rattle.key_triggers.proofs.Counting.{last, used, values_are_map, values_other, values_side}
use Rattle.key_triggers.proofs.Emitted.{emitted_elsewhere, emitted_here, put_by}
use Rattle.key_triggers.proofs.Counting.{same_pos}
use Rattle.key_triggers.proofs.Placing.{bucket_full, pos_of, used-entries}
use Rattle.key_triggers.proofs.Sums.{no_entries, sum_of, total}
use Rattle.vol_types.specs.KeyMapLaws.{IsKeyMap-with_updates, IsKeyMap-with_update, value_in-with_update, with_updates-append}
use Rattle.vol_types.specs.KeyMaps.{IsKeyMap, KeyMap, is_update_of, value_in, with_update, with_updates}
use Rattle.vol_types.specs.Maps.{IsMap, value_at}
use Rattle.vol_types.specs.Positions.{pos_cmp}
use Rattle.vol_types.specs.declared.keys.Update.{Update}
use Rattle.vol_types.specs.declared.layout.Layout.{Layout}
use Rattle.vol_types.specs.declared.pointers.Place.{Place}
use Rattle.vol_types.specs.declared.positions.Btree.{Btree}
use Rattle.vol_types.specs.declared.positions.Btree.TheVariants.{Alloc, Backptrs}
use Rattle.vol_types.specs.declared.positions.Pos.{Pos}
use Rattle.vol_types.specs.declared.values.Live.{Live}
use Rattle.vol_types.specs.declared.values.Value.{Value}
use Rattle.vol_types.specs.declared.values.Value.TheVariants as values

-- What is counted exactly is what is used then.
exact : (before now taken_sum given_sum given taken end : ℕ) → given ≡ min (0 + given_sum) end → taken ≡ min (0 + taken_sum) end → now + taken_sum ≡ before + given_sum → taken_sum ≤ before → given_sum ≤ now → before ≤ 16 → now ≤ 16 → 64 ≤ end
    → min (min (before + given) end - taken) 16 ≡ now
exact before now taken_sum given_sum given taken end g t sums few more b n e = omega (arith, g, t, sums, few, more, b, n, e)

-- Nothing is used in addition or no longer where nothing is counted.
none_counted : (sum end : ℕ) → 0 ≡ min (0 + sum) end → 1 ≤ end → sum ≡ 0
none_counted sum end none e = omega (arith, none, e)

-- the state of a bucket by its tally, if it has one
abbrev state_by : Option Live → Option Tally → Option Live
state_by live None = live
state_by live (Some tally) = Some (live_after live tally)

-- the value that a bucket with a tally gets
abbrev pub bucket_value : KeyMap → Pos → Tally → Option Value
bucket_value keys bucket tally = Some (values.Live (live_after (live_of (value_in keys Alloc bucket)) tally))

-- Updates of other btrees leave what stands in one.
pub others_stay : (btree : Btree) (updates : List Update) (keys : KeyMap) → IsKeyMap keys → All (λ update. is_update_of btree update ≡ false) updates → (pos : Pos) → value_in (with_updates updates keys) btree pos ≡ value_in keys btree pos
others_stay btree [] keys is apart pos = refl
others_stay btree (update ∷ updates) keys is apart pos =
    others_stay btree updates (with_update update keys) (IsKeyMap-with_update update keys is) (All-tail (λ u. is_update_of btree u ≡ false) update updates apart) pos
    ∙ value_in-with_update update keys btree pos is
    ∙ ap (λ b. cond (b && is_at (pos_cmp update.pos) pos) update.value (value_in keys btree pos)) (All-head (λ u. is_update_of btree u ≡ false) update updates apart)

-- The stamps change no position.
pub stamps_apart : (keys : KeyMap) (btree : Btree) (updates : List Update) → All (λ update. is_update_of btree update ≡ false) updates → All (λ update. is_update_of btree update ≡ false) (map (stamped keys) updates)
stamps_apart keys btree [] apart = All-nil (λ update. is_update_of btree update ≡ false)
stamps_apart keys btree (update ∷ updates) apart =
    All-cons (λ u. is_update_of btree u ≡ false) (stamped keys update) (map (stamped keys) updates) (All-head (λ u. is_update_of btree u ≡ false) update updates apart) (stamps_apart keys btree updates (All-tail (λ u. is_update_of btree u ≡ false) update updates apart))

module _ (keys : KeyMap) (updates : List Update) (nodes : List Place) (layout : Layout) (may : MayFollow keys updates nodes layout) where
  pub planned_map : IsKeyMap (with_updates updates keys)
  planned_map = IsKeyMap-with_updates updates keys may.is_map

  pub changes : AreChanges keys (with_updates updates keys) (values_before keys updates []) (values_after updates [])
  changes = updates_change keys updates may.is_map

  -- What was taken from a bucket is counted,
  taken_is : (bucket : Pos) → (tally_at bucket (tallies_of keys updates)).taken ≡ min (0 + sum_of (used bucket) (values_before keys updates [])) last
  taken_is bucket =
      values_other true (values_after updates []) (counted_values false (values_before keys updates []) []) bucket
      ∙ values_side false (values_before keys updates []) [] bucket 0 (let e : 0 ≡ min 0 last = omega arith in e)

  -- and what was given to it.
  given_is : (bucket : Pos) → (tally_at bucket (tallies_of keys updates)).given ≡ min (0 + sum_of (used bucket) (values_after updates [])) last
  given_is bucket =
      values_side true (values_after updates []) (counted_values false (values_before keys updates []) []) bucket 0
      (values_other false (values_before keys updates []) [] bucket ∙ (let e : 0 ≡ min 0 last = omega arith in e))

  -- How many blocks are used before,
  used_before : (dev bucket : ℕ) → live_blocks keys dev bucket ≡ total (used (pos_of dev bucket)) keys.extents
  used_before dev bucket = may.counted.blocks dev bucket ∙ used-entries dev bucket nodes layout keys.extents may.placed.placed

  few_before : (dev bucket : ℕ) → live_blocks keys dev bucket ≤ 16
  few_before dev bucket = omega (arith, may.counted.blocks dev bucket, bucket_full dev bucket (used_places keys) may.placed.blocks)

  -- and how many after the plan.
  pub used_after : (dev bucket : ℕ) → count_in_bucket (used_places (with_updates updates keys)) dev bucket ≡ total (used (pos_of dev bucket)) (with_updates updates keys).extents
  used_after dev bucket = used-entries dev bucket nodes layout (with_updates updates keys).extents may.planned.placed

  few_after : (dev bucket : ℕ) → count_in_bucket (used_places (with_updates updates keys)) dev bucket ≤ 16
  few_after dev bucket = bucket_full dev bucket (used_places (with_updates updates keys)) may.planned.blocks

  -- The tally leads from the one to the other.
  exactly : (dev bucket : ℕ) → blocks_after (live_blocks keys dev bucket) (tally_at (pos_of dev bucket) (tallies_of keys updates)) ≡ count_in_bucket (used_places (with_updates updates keys)) dev bucket
  exactly dev bucket =
      let q = pos_of dev bucket in
      let first = used_before dev bucket in
      let later = used_after dev bucket in
      let sums = counts_change keys (with_updates updates keys) (values_before keys updates []) (values_after updates []) may.is_map planned_map changes (used q) in
      let stood = stood_within keys (with_updates updates keys) (values_before keys updates []) (values_after updates []) may.is_map planned_map changes (used q) in
      let stand = stand_within keys (with_updates updates keys) (values_before keys updates []) (values_after updates []) may.is_map planned_map changes (used q) in
      exact (live_blocks keys dev bucket) (count_in_bucket (used_places (with_updates updates keys)) dev bucket) (sum_of (used q) (values_before keys updates [])) (sum_of (used q) (values_after updates []))
      (tally_at q (tallies_of keys updates)).given (tally_at q (tallies_of keys updates)).taken last (given_is q) (taken_is q)
      (omega (arith, first, later, sums)) (omega (arith, first, stood)) (omega (arith, later, stand)) (few_before dev bucket) (few_after dev bucket) (omega arith)

  -- Where nothing was counted, nothing changes.
  unchanged : (dev bucket : ℕ) → value_at pos_cmp (pos_of dev bucket) (tallies_of keys updates) ≡ None → live_blocks keys dev bucket ≡ count_in_bucket (used_places (with_updates updates keys)) dev bucket
  unchanged dev bucket none =
      let q = pos_of dev bucket in
      let nothing = ap (λ (o : Option Tally). unwrap_or o (record { taken = 0; given = 0 })) none in
      let g = none_counted (sum_of (used q) (values_after updates [])) last (sym (ap (λ (t : Tally). t.given) nothing) ∙ given_is q) (omega arith) in
      let t = none_counted (sum_of (used q) (values_before keys updates [])) last (sym (ap (λ (t : Tally). t.taken) nothing) ∙ taken_is q) (omega arith) in
      let sums = counts_change keys (with_updates updates keys) (values_before keys updates []) (values_after updates []) may.is_map planned_map changes (used q) in
      omega (arith, g, t, sums, used_before dev bucket, used_after dev bucket)

  -- The tallies are a map.
  pub tallies_map : IsMap pos_cmp (tallies_of keys updates)
  tallies_map = values_are_map true (values_after updates []) (counted_values false (values_before keys updates []) []) (values_are_map false (values_before keys updates []) [] (no_entries Tally))

  alloc_apart : All (λ update. is_update_of Alloc update ≡ false) updates
  alloc_apart = All-weaker IsNoSpaceUpdate (λ update. is_update_of Alloc update ≡ false) (λ update apart. apart.bucket) updates may.apart

  -- What stands at a bucket's position after all updates.
  alloc_at : (bucket : Pos) → value_in (with_updates (expanded keys updates) keys) Alloc bucket ≡ put_by (bucket_value keys) bucket (value_at pos_cmp bucket (tallies_of keys updates)) (value_in keys Alloc bucket)
  alloc_at bucket =
      ap (λ (k : KeyMap). value_in k Alloc bucket) (with_updates-append (map (stamped keys) updates ++ map (live_update keys) (tallies_of keys updates)) (map owner_update (owners_of keys updates)) keys)
      ∙ emitted_elsewhere Backptrs (λ pos owner. option_map values.Back owner) (owners_of keys updates) (with_updates (map (stamped keys) updates ++ map (live_update keys) (tallies_of keys updates)) keys)
      (IsKeyMap-with_updates (map (stamped keys) updates ++ map (live_update keys) (tallies_of keys updates)) keys may.is_map) Alloc bucket refl
      ∙ ap (λ (k : KeyMap). value_in k Alloc bucket) (with_updates-append (map (stamped keys) updates) (map (live_update keys) (tallies_of keys updates)) keys)
      ∙ emitted_here Alloc (bucket_value keys) same_pos refl (tallies_of keys updates) (with_updates (map (stamped keys) updates) keys) (IsKeyMap-with_updates (map (stamped keys) updates) keys may.is_map) tallies_map bucket
      ∙ ap (put_by (bucket_value keys) bucket (value_at pos_cmp bucket (tallies_of keys updates))) (others_stay Alloc (map (stamped keys) updates) keys may.is_map (stamps_apart keys Alloc updates alloc_apart) bucket)

  -- The state of a bucket after all updates.
  pub live_new : (dev bucket : ℕ) → live_in (with_updates (expanded keys updates) keys) dev bucket ≡ state_by (live_in keys dev bucket) (value_at pos_cmp (pos_of dev bucket) (tallies_of keys updates))
  live_new dev bucket = ap live_of (alloc_at (pos_of dev bucket)) ∙ by (value_at pos_cmp (pos_of dev bucket) (tallies_of keys updates))
    where
      by : (tally : Option Tally) → live_of (put_by (bucket_value keys) (pos_of dev bucket) tally (value_in keys Alloc (pos_of dev bucket))) ≡ state_by (live_in keys dev bucket) tally
      by None = refl
      by (Some tally) = refl

  blocks_of_state : (live : Option Live) (tally : Tally) → unwrap_or (option_map (λ (l : Live). l.blocks) (state_by live (Some tally))) 0 ≡ blocks_after (unwrap_or (option_map (λ (l : Live). l.blocks) live) 0) tally
  blocks_of_state None tally = refl
  blocks_of_state (Some live) tally = refl

  -- Each bucket's key says how many of its blocks are used after the plan.
  pub blocks_new : (dev bucket : ℕ) → live_blocks (with_updates (expanded keys updates) keys) dev bucket ≡ count_in_bucket (used_places (with_updates updates keys)) dev bucket
  blocks_new dev bucket = ap (λ (o : Option Live). unwrap_or (option_map (λ (l : Live). l.blocks) o) 0) (live_new dev bucket) ∙ by (value_at pos_cmp (pos_of dev bucket) (tallies_of keys updates)) refl
    where
      by : (tally : Option Tally) → value_at pos_cmp (pos_of dev bucket) (tallies_of keys updates) ≡ tally
          → unwrap_or (option_map (λ (l : Live). l.blocks) (state_by (live_in keys dev bucket) tally)) 0 ≡ count_in_bucket (used_places (with_updates updates keys)) dev bucket
      by None none = unchanged dev bucket none
      by (Some tally) there =
          blocks_of_state (live_in keys dev bucket) tally
          ∙ ap (λ (o : Option Tally). blocks_after (live_blocks keys dev bucket) (unwrap_or o (record { taken = 0; given = 0 }))) (sym there)
          ∙ exactly dev bucket

  generation_of_state : (live : Option Live) (tally : Tally) → unwrap_or (option_map (λ (l : Live). l.generation) (state_by live (Some tally))) 0
      ≡ cond (nat_lt 0 (unwrap_or (option_map (λ (l : Live). l.blocks) live) 0) && (blocks_after (unwrap_or (option_map (λ (l : Live). l.blocks) live) 0) tally == 0))
      (min (unwrap_or (option_map (λ (l : Live). l.generation) live) 0 + 1) (2 ^ 32 - 1)) (unwrap_or (option_map (λ (l : Live). l.generation) live) 0)
  generation_of_state None tally = refl
  generation_of_state (Some live) tally = refl

  never_both : (blocks : ℕ) → (nat_lt 0 blocks && (blocks == 0)) ≡ false
  never_both blocks = by (nat_lt 0 blocks) (blocks == 0) refl refl
    where
      by : (s t : Bool) → nat_lt 0 blocks ≡ s → (blocks == 0) ≡ t → (s && t) ≡ false
      by true true some none = absurd (omega (arith, ltb-true 0 blocks some, eqb-true blocks 0 none))
      by true false some none = refl
      by false true some none = refl
      by false false some none = refl

  -- A bucket that was emptied has the next generation, and every other one its own.
  pub generations_new : (dev bucket : ℕ) → HasGeneration keys (with_updates (expanded keys updates) keys) dev bucket
  generations_new dev bucket = ap (λ (o : Option Live). unwrap_or (option_map (λ (l : Live). l.generation) o) 0) (live_new dev bucket) ∙ by (value_at pos_cmp (pos_of dev bucket) (tallies_of keys updates)) refl
    where
      by : (tally : Option Tally) → value_at pos_cmp (pos_of dev bucket) (tallies_of keys updates) ≡ tally
          → unwrap_or (option_map (λ (l : Live). l.generation) (state_by (live_in keys dev bucket) tally)) 0
          ≡ cond {A = ℕ} (is_emptied keys (with_updates (expanded keys updates) keys) dev bucket) (min (generation_in keys dev bucket + 1) (2 ^ 32 - 1)) (generation_in keys dev bucket)
      by None none =
          sym (ap (λ b. cond {A = ℕ} b (min (generation_in keys dev bucket + 1) (2 ^ 32 - 1)) (generation_in keys dev bucket))
          (ap (λ n. nat_lt 0 (live_blocks keys dev bucket) && (n == 0)) (blocks_new dev bucket ∙ sym (unchanged dev bucket none)) ∙ never_both (live_blocks keys dev bucket)))
      by (Some tally) there =
          generation_of_state (live_in keys dev bucket) tally
          ∙ ap (λ n. cond {A = ℕ} (nat_lt 0 (live_blocks keys dev bucket) && (n == 0)) (min (generation_in keys dev bucket + 1) (2 ^ 32 - 1)) (generation_in keys dev bucket))
          (ap (λ (o : Option Tally). blocks_after (live_blocks keys dev bucket) (unwrap_or o (record { taken = 0; given = 0 }))) (sym there) ∙ exactly dev bucket ∙ sym (blocks_new dev bucket))
