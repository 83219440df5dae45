-- A node that holds the keys up to an entry, where entries are passed and a next one comes.
use Rattle.std.proofs.Common.{◌≡◌, ℕ, ◌+◌, ◌-◌, ◌<◌, ◌≤◌, List, [], ◌∷◌, ◌++◌, length, take, drop, max, Option, Some, ⊎_elim, sym, ap, subst, ◌∙◌, arith}
use Rattle.std.proofs.Math.Seq.{take-add}
use Rattle.std.proofs.lemmas.Bool.{cases_lt}
use Rattle.std.proofs.lemmas.List.{append-nil, length-append, length-drop, length-take, take-append-drop, take-append-le, take_all}
use Rattle.std.proofs.lemmas.Option.{get_or_from_slice_get, slice_get_within}
use Rattle.std.specs.Prelude.{Contains, slice_get}
use Rattle.image_view.specs.EntryUpdates.{updates_of-append}
use Rattle.image_view.specs.Found.{updates_of}
use Rattle.image_view.specs.NewNodes.{HoldsPassed}
use Rattle.journal_ring.specs.declared.found.FoundEntry.{FoundEntry}
use Rattle.vol_types.specs.KeyMapLaws.{with_updates-append}
use Rattle.vol_types.specs.KeyMaps.{Entries, IsKeyMap, KeyMap, entries_of, with_updates}
use Rattle.vol_types.specs.declared.keys.Update.{Update}
use Rattle.vol_types.specs.declared.positions.Btree.{Btree}
use Rattle.crash_safety.specs.Contents.{ChangesBtree, HoldsUpTo, IsFrom, IsPinnedUpTo, IsUpTo}
use Rattle.crash_safety.proofs.OneBtree.{MadeAgain, btree_again, entries_leave, same_with}
use Rattle.crash_safety.proofs.Places.{slice_get-drop, slice_get-pushed, slice_get-take}

-- ---- updates of the first entries and of the others

-- The updates of the first so many entries, and of some more of them.
updates_of-more : (needed : List FoundEntry) (first more : ℕ) → updates_of (take (first + more) needed) ≡ updates_of (take first needed) ++ updates_of (take more (drop first needed))
updates_of-more needed first more = ap updates_of (take-add first more needed) ∙ updates_of-append (take first needed) (take more (drop first needed))

-- The first entries and then the others make of keys what all make.
pub parts_lead : (needed : List FoundEntry) (count : ℕ) (keys : KeyMap) → with_updates (updates_of (drop count needed)) (with_updates (updates_of (take count needed)) keys) ≡ with_updates (updates_of needed) keys
parts_lead needed count keys =
    sym (with_updates-append (updates_of (take count needed)) (updates_of (drop count needed)) keys)
    ∙ ap (λ (us : List Update). with_updates us keys) (sym (updates_of-append (take count needed) (drop count needed)) ∙ ap updates_of (take-append-drop count needed))

-- The keys with a next entry, from the first entry on that is left.
pub shifted_keys : (needed : List FoundEntry) (before : KeyMap) (passed : ℕ) (next : FoundEntry)
    → with_updates next.entry.updates (with_updates (updates_of needed) before) ≡ with_updates (updates_of (drop passed needed ++ next ∷ [])) (with_updates (updates_of (take passed needed)) before)
shifted_keys needed before passed next =
    let begun : KeyMap = with_updates (updates_of (take passed needed)) before in
    ap (with_updates next.entry.updates) (sym (parts_lead needed passed before))
    ∙ sym (with_updates-append (updates_of (drop passed needed)) next.entry.updates begun)
    ∙ ap (λ (us : List Update). with_updates us begun)
    (ap (λ (us : List Update). updates_of (drop passed needed) ++ us) (sym (append-nil next.entry.updates)) ∙ sym (updates_of-append (drop passed needed) (next ∷ [])))

-- ---- up to a later entry

module _ (needed : List FoundEntry) (before : KeyMap) (oldest : ℕ) (btree : Btree) (pin : Option ℕ) (entries : Entries) (has : HoldsUpTo needed before oldest btree pin entries) where
  -- No entry between the index and the pin changes the btree.
  none_between : (passed : ℕ) → IsFrom pin (oldest + passed) → has.index < passed → (k : ℕ) (found : FoundEntry) → slice_get (take (passed - has.index) (drop has.index needed)) k ≡ Some found → ChangesBtree btree found.entry.updates → ⊥
  none_between passed from below k found is changes =
      let within : k < length (take (passed - has.index) (drop has.index needed)) = slice_get_within (take (passed - has.index) (drop has.index needed)) k found is in
      let taken = length-take (passed - has.index) (drop has.index needed) in
      let stands : slice_get needed (has.index + k) ≡ Some found = sym (slice_get-drop has.index needed k) ∙ slice_get-take (passed - has.index) (drop has.index needed) k found is in
      let pinned : IsPinnedUpTo pin (oldest + (has.index + k)) = has.pinned (has.index + k) found (omega arith) stands changes in
      let least : oldest + passed ≤ pinned.0 = from pinned.0 pinned.1 in
      let most : pinned.0 ≤ oldest + (has.index + k) = pinned.2 in
      omega (arith, within, taken, least, most, below)

  -- So the node holds the keys up to each entry that isn't above the pin.
  up_to_later : (passed : ℕ) → IsFrom pin (oldest + passed) → has.index < passed → IsUpTo needed before passed btree entries
  up_to_later passed from below =
      let more : ℕ = passed - has.index in
      let count : has.index + more ≡ passed = omega arith in
      let begun : KeyMap = with_updates (updates_of (take has.index needed)) before in
      has.is
      ∙ sym (entries_leave (take more (drop has.index needed)) begun btree (none_between passed from below))
      ∙ ap (λ (made : KeyMap). entries_of made btree) (sym (with_updates-append (updates_of (take has.index needed)) (updates_of (take more (drop has.index needed))) before))
      ∙ ap (λ (us : List Update). entries_of (with_updates us before) btree) (sym (updates_of-more needed has.index more) ∙ ap (λ n. updates_of (take n needed)) count)

  -- Up to the entries that are passed, or further.
  pub reached : (passed : ℕ) → IsFrom pin (oldest + passed) → IsUpTo needed before (max has.index passed) btree entries
  reached passed from = ⊎_elim
      (λ (below : has.index < passed). let most : passed ≡ max has.index passed = omega arith in subst (λ n. IsUpTo needed before n btree entries) most (up_to_later passed from below))
      (λ (above : passed ≤ has.index). let most : has.index ≡ max has.index passed = omega arith in subst (λ n. IsUpTo needed before n btree entries) most has.is)
      (cases_lt has.index passed)

-- ---- entries that are passed

-- The first entries, made over keys that hold a btree up to one of them, make of it what they make of the keys before all.
made_over : MadeAgain → (needed : List FoundEntry) (before old : KeyMap) (index count : ℕ) (btree : Btree) → IsKeyMap before → index ≤ count → IsUpTo needed before index btree (entries_of old btree)
    → entries_of (with_updates (updates_of (take count needed)) old) btree ≡ entries_of (with_updates (updates_of (take count needed)) before) btree
made_over law needed before old index count btree is within holds =
    let more : ℕ = count - index in
    let first : List Update = updates_of (take index needed) in
    let second : List Update = updates_of (take more (drop index needed)) in
    let sum : count ≡ index + more = omega arith in
    let taken : updates_of (take count needed) ≡ first ++ second = ap (λ n. updates_of (take n needed)) sum ∙ updates_of-more needed index more in
    let lead : (keys : KeyMap) → with_updates (updates_of (take count needed)) keys ≡ with_updates second (with_updates first keys) =
    λ keys. ap (λ (us : List Update). with_updates us keys) taken ∙ with_updates-append first second keys in
    ap (λ (made : KeyMap). entries_of made btree) (lead old)
    ∙ same_with second (with_updates first old) (with_updates first before) btree (btree_again law [] first before old btree is holds)
    ∙ ap (λ (made : KeyMap). entries_of made btree) (sym (lead before))

-- A node that is kept has the entries that are passed, or they don't change it.
pub kept_passes : MadeAgain → (needed : List FoundEntry) (before : KeyMap) (oldest passed : ℕ) (btree : Btree) (pin : Option ℕ) (old new : KeyMap) → IsKeyMap before
    → HoldsUpTo needed before oldest btree pin (entries_of old btree) → IsFrom pin (oldest + passed) → entries_of new btree ≡ entries_of old btree → HoldsPassed needed passed old new btree
kept_passes law needed before oldest passed btree pin old new is has from same = record {
  count = max has.index passed;
  none_lacks = omega arith;
  holds = same
      ∙ reached needed before oldest btree pin (entries_of old btree) has passed from
      ∙ sym (made_over law needed before old has.index (max has.index passed) btree is (omega arith) has.is);
}

-- A node that was written again, with the durable keys, has all entries.
pub rewritten_passes : MadeAgain → (needed : List FoundEntry) (before : KeyMap) (oldest passed : ℕ) (btree : Btree) (pin : Option ℕ) (old new : KeyMap) → IsKeyMap before
    → HoldsUpTo needed before oldest btree pin (entries_of old btree) → passed ≤ length needed → entries_of new btree ≡ entries_of (with_updates (updates_of needed) before) btree → HoldsPassed needed passed old new btree
rewritten_passes law needed before oldest passed btree pin old new is has within same = record {
  count = length needed;
  none_lacks = within;
  holds = same
      ∙ ap (λ (es : List FoundEntry). entries_of (with_updates (updates_of es) before) btree) (sym (take_all (length needed) needed (omega arith)))
      ∙ sym (made_over law needed before old has.index (length needed) btree is has.within has.is);
}

-- What is left makes of the node's keys what all entries make.
pub left_leads : MadeAgain → (needed : List FoundEntry) (before : KeyMap) (oldest passed : ℕ) (btree : Btree) (pin : Option ℕ) (entries : Entries) (content : KeyMap) → IsKeyMap before
    → HoldsUpTo needed before oldest btree pin entries → IsFrom pin (oldest + passed) → entries_of content btree ≡ entries
    → entries_of (with_updates (updates_of (drop passed needed)) content) btree ≡ entries_of (with_updates (updates_of needed) before) btree
left_leads law needed before oldest passed btree pin entries content is has from same =
    let more : ℕ = max has.index passed - passed in
    let left : List FoundEntry = drop passed needed in
    let count : max has.index passed ≡ passed + more = omega arith in
    let first : List Update = updates_of (take passed needed) in
    let second : List Update = updates_of (take more left) in
    let third : List Update = updates_of (drop more left) in
    let held : entries_of content btree ≡ entries_of (with_updates (first ++ second) before) btree =
    same ∙ reached needed before oldest btree pin entries has passed from ∙ ap (λ (us : List Update). entries_of (with_updates us before) btree) (ap (λ n. updates_of (take n needed)) count ∙ updates_of-more needed passed more) in
    let again : entries_of (with_updates second content) btree ≡ entries_of (with_updates second (with_updates first before)) btree =
    btree_again law first second before content btree is held ∙ ap (λ (made : KeyMap). entries_of made btree) (with_updates-append first second before) in
    ap (λ (made : KeyMap). entries_of made btree) (sym (parts_lead left more content))
    ∙ same_with third (with_updates second content) (with_updates second (with_updates first before)) btree again
    ∙ ap (λ (made : KeyMap). entries_of made btree) (parts_lead left more (with_updates first before) ∙ parts_lead needed passed before)

-- The node holds the keys up to an entry also of those that are left with a next one behind.
pub shifted : (needed : List FoundEntry) (before : KeyMap) (oldest passed : ℕ) (btree : Btree) (pin : Option ℕ) (entries : Entries) (next : FoundEntry) → HoldsUpTo needed before oldest btree pin entries → passed ≤ length needed
    → IsFrom pin (oldest + passed) → (ChangesBtree btree next.entry.updates → IsPinnedUpTo pin (oldest + length needed))
    → HoldsUpTo (drop passed needed ++ next ∷ []) (with_updates (updates_of (take passed needed)) before) (oldest + passed) btree pin entries
shifted needed before oldest passed btree pin entries next has within from last =
    let more : ℕ = max has.index passed - passed in
    let left : List FoundEntry = drop passed needed in
    let begun : KeyMap = with_updates (updates_of (take passed needed)) before in
    let count : max has.index passed ≡ passed + more = omega arith in
    let long : length left ≡ length needed - passed = length-drop passed needed in
    let inside = has.within in
    let fits : more ≤ length left = omega arith in
    record {
      index = more;
      within = omega (arith, length-append left (next ∷ []));
      is = reached needed before oldest btree pin entries has passed from
          ∙ ap (λ (us : List Update). entries_of (with_updates us before) btree) (ap (λ n. updates_of (take n needed)) count ∙ updates_of-more needed passed more)
          ∙ ap (λ (made : KeyMap). entries_of made btree) (with_updates-append (updates_of (take passed needed)) (updates_of (take more left)) before)
          ∙ ap (λ (es : List FoundEntry). entries_of (with_updates (updates_of es) begun) btree) (sym (take-append-le more left (next ∷ []) fits));
      pinned = λ k found above is changes. ⊎_elim
          (λ (here : slice_get left k ≡ Some found).
          let pinned : IsPinnedUpTo pin (oldest + (passed + k)) = has.pinned (passed + k) found (omega arith) (sym (slice_get-drop passed needed k) ∙ here) changes in
          (pinned.0, pinned.1, omega arith))
          (λ (behind : (k ≡ length left) × (next ≡ found)).
          let pinned : IsPinnedUpTo pin (oldest + length needed) = last (subst (λ (f : FoundEntry). ChangesBtree btree f.entry.updates) (sym behind.1) changes) in
          (pinned.0, pinned.1, omega arith))
          (slice_get-pushed left next k found is);
    }

-- ---- other pins, and none

pub pinned_more : (needed : List FoundEntry) (before : KeyMap) (oldest : ℕ) (btree : Btree) (pin other : Option ℕ) (entries : Entries) → ((sequence : ℕ) → IsPinnedUpTo pin sequence → IsPinnedUpTo other sequence)
    → HoldsUpTo needed before oldest btree pin entries → HoldsUpTo needed before oldest btree other entries
pinned_more needed before oldest btree pin other entries more has = record {
  index = has.index;
  within = has.within;
  is = has.is;
  pinned = λ k found above is changes. more (oldest + k) (has.pinned k found above is changes);
}

-- A node with the durable keys holds those up to the last entry.
pub durable_holds : (needed : List FoundEntry) (before : KeyMap) (oldest : ℕ) (btree : Btree) (pin : Option ℕ) (entries : Entries) → entries ≡ entries_of (with_updates (updates_of needed) before) btree
    → HoldsUpTo needed before oldest btree pin entries
durable_holds needed before oldest btree pin entries same = record {
  index = length needed;
  within = omega arith;
  is = same ∙ ap (λ (es : List FoundEntry). entries_of (with_updates (updates_of es) before) btree) (sym (take_all (length needed) needed (omega arith)));
  pinned = λ k found above is changes. absurd (omega (arith, above, slice_get_within needed k found is));
}

-- A node with the keys before all entries pins the oldest, or none of them changes its btree.
pub begun_holds : (needed : List FoundEntry) (before : KeyMap) (oldest : ℕ) (btree : Btree) (pin : Option ℕ) (entries : Entries) → entries ≡ entries_of before btree
    → ((found : FoundEntry) → Contains needed found → ChangesBtree btree found.entry.updates → IsPinnedUpTo pin oldest) → HoldsUpTo needed before oldest btree pin entries
begun_holds needed before oldest btree pin entries same pins = record {
  index = 0;
  within = omega arith;
  is = same;
  pinned = λ k found above is changes.
      let pinned : IsPinnedUpTo pin oldest = pins found (k, slice_get_within needed k found is, get_or_from_slice_get needed k found found is) changes in
      (pinned.0, pinned.1, omega arith);
}
