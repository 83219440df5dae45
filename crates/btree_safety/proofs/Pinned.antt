-- What a leaf holds at a position up to an entry while entries are passed and a next one comes, and while more is pinned.
use Rattle.std.proofs.Common.{◌≡◌, ◌⊎◌, inl, inr, ⊎_elim, ℕ, zero, suc, ◌+◌, ◌-◌, ◌<◌, ◌≤◌, List, [], ◌∷◌, ◌++◌, length, take, drop, max, Option, Some, refl, sym, ap, subst, ◌∙◌, arith}
use Rattle.std.specs.Prelude.{Contains, slice_get}
use Rattle.std.proofs.lemmas.Bool.{cases_lt}
use Rattle.std.proofs.lemmas.List.{length-drop, take_all}
use Rattle.std.proofs.lemmas.Option.{get_or_from_slice_get, slice_get_within}
use Rattle.image_view.specs.Found.{updates_of}
use Rattle.journal_ring.specs.declared.found.FoundEntry.{FoundEntry}
use Rattle.vol_types.specs.KeyMapLaws.{entries_of-key_map}
use Rattle.vol_types.specs.KeyMaps.{Entries, IsKeyMap, KeyMap, key_map, value_in, with_updates}
use Rattle.vol_types.specs.Maps.{value_at}
use Rattle.vol_types.specs.Positions.{pos_cmp}
use Rattle.vol_types.specs.declared.positions.Btree.{Btree}
use Rattle.vol_types.specs.declared.positions.Pos.{Pos}
use Rattle.btree_laws.specs.Counts.{ChangeKey, HasUpTo, NoneChanges}
use Rattle.crash_safety.specs.Contents.{IsFrom, IsPinnedUpTo}
use Rattle.crash_safety.specs.LeafSteps.{PinsAsMuch}
use Rattle.btree_safety.specs.KeptKeys.{HoldsAt}

-- What is known of keys that have entries at a position.
pub record CountLaws : Type 0 where
  pub dropped : (needed : List FoundEntry) (before keys : KeyMap) (btree : Btree) (pos : Pos) (count passed : ℕ) → HasUpTo needed before keys btree pos count → passed ≤ count
      → HasUpTo (drop passed needed) (with_updates (updates_of (take passed needed)) before) keys btree pos (count - passed)
  pub more : (needed : List FoundEntry) (next : FoundEntry) (before keys : KeyMap) (btree : Btree) (pos : Pos) (count : ℕ) → HasUpTo needed before keys btree pos count → HasUpTo (needed ++ next ∷ []) before keys btree pos count
  pub raised : (needed : List FoundEntry) (before keys : KeyMap) (btree : Btree) (pos : Pos) (count more : ℕ) → IsKeyMap before → HasUpTo needed before keys btree pos count → count ≤ more → more ≤ length needed → NoneChanges needed count more btree pos
      → HasUpTo needed before keys btree pos more

-- ---- places in lists

-- A place of a list without its first members is a later one of the whole.
slice_get-drop : {X : Type 0} (n : ℕ) (xs : List X) (k : ℕ) → slice_get (drop n xs) k ≡ slice_get xs (n + k)
slice_get-drop zero xs k = let same : k ≡ 0 + k = omega arith in ap (slice_get xs) same
slice_get-drop (suc n) [] k = refl
slice_get-drop (suc n) (x ∷ xs) k = let same : suc (n + k) ≡ suc n + k = omega arith in slice_get-drop n xs k ∙ ap (slice_get (x ∷ xs)) same

-- What stands in a list with one more member behind stands in the list, or is that member.
slice_get-pushed : {X : Type 0} (xs : List X) (y : X) (k : ℕ) (x : X) → slice_get (xs ++ y ∷ []) k ≡ Some x → (slice_get xs k ≡ Some x) ⊎ ((k ≡ length xs) × (y ≡ x))
slice_get-pushed [] y zero x is = inr (refl, cc)
slice_get-pushed [] y (suc k) x is = absurd cc
slice_get-pushed (z ∷ xs) y zero x is = inl is
slice_get-pushed (z ∷ xs) y (suc k) x is = ⊎_elim
    (λ (here : slice_get xs k ≡ Some x). inl here)
    (λ (last : (k ≡ length xs) × (y ≡ x)). inr (ap suc last.0, last.1))
    (slice_get-pushed xs y k x is)

-- ---- entries and a key map

-- the key map each of whose btrees has these entries
abbrev keys_of_all : Entries → KeyMap
keys_of_all entries = key_map (λ btree. entries)

value_of : (btree : Btree) (pos : Pos) (entries : Entries) → value_in (keys_of_all entries) btree pos ≡ value_at pos_cmp pos entries
value_of btree pos entries = ap (value_at pos_cmp pos) (entries_of-key_map (λ (b : Btree). entries) btree)

module _ (laws : CountLaws) (needed : List FoundEntry) (before : KeyMap) (oldest : ℕ) (btree : Btree) (pin : Option ℕ) (entries : Entries) (pos : Pos) (holds : HoldsAt needed before oldest btree pin entries pos) where
  has_here : HasUpTo needed before (keys_of_all entries) btree pos holds.count
  has_here = record { within = holds.within; value = value_of btree pos entries ∙ holds.value }

  -- A position has the entries that aren't pinned, or they don't change it.
  reached : IsKeyMap before → (passed : ℕ) → passed ≤ length needed → IsFrom pin (oldest + passed) → HasUpTo needed before (keys_of_all entries) btree pos (max holds.count passed)
  reached is passed within from = ⊎_elim
      (λ (below : holds.count < passed).
      let most : passed ≡ max holds.count passed = omega (arith, below) in
      subst (HasUpTo needed before (keys_of_all entries) btree pos) most (laws.raised needed before (keys_of_all entries) btree pos holds.count passed is has_here (omega (arith, below)) within none))
      (λ (above : passed ≤ holds.count). let most : holds.count ≡ max holds.count passed = omega (arith, above) in subst (HasUpTo needed before (keys_of_all entries) btree pos) most has_here)
      (cases_lt holds.count passed)
    where
      none : NoneChanges needed holds.count passed btree pos
      none index found above less there changes =
          let pinned : IsPinnedUpTo pin (oldest + index) = holds.pinned index found above there changes in
          let least = from pinned.0 pinned.1 in
          let most = pinned.2 in
          omega (arith, least, most, less)

  pub reached_value : IsKeyMap before → (passed : ℕ) → passed ≤ length needed → IsFrom pin (oldest + passed) → value_at pos_cmp pos entries ≡ value_in (with_updates (updates_of (take (max holds.count passed) needed)) before) btree pos
  reached_value is passed within from = sym (value_of btree pos entries) ∙ (reached is passed within from).value

  -- The entries hold up to an entry also of those that are left with a next one behind.
  pub shifts : (passed : ℕ) (next : FoundEntry) → IsKeyMap before → passed ≤ length needed → IsFrom pin (oldest + passed) → (ChangeKey btree pos next.entry.updates → IsPinnedUpTo pin (oldest + length needed))
      → HoldsAt (drop passed needed ++ next ∷ []) (with_updates (updates_of (take passed needed)) before) (oldest + passed) btree pin entries pos
  shifts passed next is within from last =
      let left : List FoundEntry = drop passed needed in
      let long : length left ≡ length needed - passed = length-drop passed needed in
      let begun : KeyMap = with_updates (updates_of (take passed needed)) before in
      let has : HasUpTo (left ++ next ∷ []) begun (keys_of_all entries) btree pos (max holds.count passed - passed) =
      laws.more left next begun (keys_of_all entries) btree pos (max holds.count passed - passed) (laws.dropped needed before (keys_of_all entries) btree pos (max holds.count passed) passed (reached is passed within from) (omega arith)) in
      record {
        count = max holds.count passed - passed;
        within = has.within;
        value = sym (value_of btree pos entries) ∙ has.value;
        pinned = λ k found above there changes. ⊎_elim
            (λ (here : slice_get left k ≡ Some found).
            let pinned : IsPinnedUpTo pin (oldest + (passed + k)) = holds.pinned (passed + k) found (omega (arith, above)) (sym (slice_get-drop passed needed k) ∙ here) changes in
            let most = pinned.2 in
            (pinned.0, pinned.1, omega (arith, most)))
            (λ (behind : (k ≡ length left) × (next ≡ found)).
            let at = behind.0 in
            let pinned : IsPinnedUpTo pin (oldest + length needed) = last (subst (λ (f : FoundEntry). ChangeKey btree pos f.entry.updates) (sym behind.1) changes) in
            let most = pinned.2 in
            (pinned.0, pinned.1, omega (arith, most, at, long, within)))
            (slice_get-pushed left next k found there);
      }

  -- Other entries with the same value hold it too, where they pin no less.
  pub moves : (other : Option ℕ) (others : Entries) → PinsAsMuch pin other → value_at pos_cmp pos others ≡ value_at pos_cmp pos entries → HoldsAt needed before oldest btree other others pos
  moves other others more same = record {
    count = holds.count;
    within = holds.within;
    value = same ∙ holds.value;
    pinned = λ k found above there changes. more (oldest + k) (holds.pinned k found above there changes);
  }

module _ (needed : List FoundEntry) (before : KeyMap) (oldest : ℕ) (btree : Btree) (pin : Option ℕ) (entries : Entries) (pos : Pos) where
  -- Entries that have none of the needed ones pin the oldest where one of these changes the position.
  pub begins : value_at pos_cmp pos entries ≡ value_in before btree pos → ((found : FoundEntry) → Contains needed found → ChangeKey btree pos found.entry.updates → IsPinnedUpTo pin oldest) → HoldsAt needed before oldest btree pin entries pos
  begins same pins = record {
    count = 0;
    within = omega arith;
    value = same;
    pinned = λ k found above there changes.
        let pinned : IsPinnedUpTo pin oldest = pins found (k, slice_get_within needed k found there, get_or_from_slice_get needed k found found there) changes in
        let most = pinned.2 in
        (pinned.0, pinned.1, omega (arith, most));
  }

  -- A durable value needs no pin.
  pub durable : value_at pos_cmp pos entries ≡ value_in (with_updates (updates_of needed) before) btree pos → HoldsAt needed before oldest btree pin entries pos
  durable same = record {
    count = length needed;
    within = omega arith;
    value = same ∙ ap (λ (es : List FoundEntry). value_in (with_updates (updates_of es) before) btree pos) (sym (take_all (length needed) needed (omega arith)));
    pinned = λ k found above there changes. absurd (let within = slice_get_within needed k found there in omega (arith, above, within));
  }
