-- An id takes holes over by their updates, and else nothing.
use Rattle.std.proofs.Common.{◌≡◌, ◌⊎◌, inl, inr, ℕ, ◌+◌, ◌<◌, ◌≤◌, Bool, true, false, Option, Some, None, List, [], ◌∷◌, ◌++◌, slice_get, refl, sym, ap, ◌∙◌, subst, arith}
use Rattle.std.specs.Prelude.{◌&&◌, ◌||◌, ◌==◌, All, IfOk, Result, nat_le, nat_lt, option_map}
use Rattle.std.specs.List.{list_any}
use Rattle.std.proofs.lemmas.Bool.{and_parts, true≢false}
use Rattle.std.proofs.lemmas.Bool.Decides.{nat_tests}
use Rattle.std.proofs.lemmas.Option.{none-some as none_some, same_Some}
use Rattle.snap_tree.specs.Snaps.{Snaps, chain_of_maybe, parent_of}
use Rattle.vol_types.specs.KeyMaps.{Entries, IsKeyMap, KeyMap, with_updates}
use Rattle.vol_types.specs.declared.keys.Key.{Key}
use Rattle.vol_types.specs.declared.keys.Update.{Update}
use Rattle.vol_types.specs.declared.positions.Pos.{Pos}
use Rattle.vol_types.specs.declared.values.Value.{Value}
use Rattle.key_meaning.specs.Blocks.{Block, covers}
use Rattle.key_meaning.specs.Checks.{IsCoveredOnce}
use Rattle.key_meaning.specs.Visible.{snaps_of}
use Rattle.extent_ops.specs.Above.{holes_to_hide}
use Rattle.extent_ops.specs.Content.{AreLookedAt, HavePlaces, TakesBlocks, hidden_if, is_covered_above, is_extent, is_extent_over}
use Rattle.extent_ops.specs.Cutting.{cut_all, updates_of}
use Rattle.extent_ops.specs.Stretches.{RiseFrom, has_block, is_within}
use Rattle.extent_ops.specs.declared.cutting.Change.{Change}
use Rattle.extent_ops.specs.declared.stretches.Stretch.{Stretch}
use Rattle.extent_ops.proofs.Fresh.{all-member, ok_later, taken_nothing}
use Rattle.extent_ops.proofs.Hiding.{hiding, entry_of}
use Rattle.extent_ops.proofs.Members.{Has, any-has}
use Rattle.extent_ops.proofs.Taken.{AreGiven, taken}

-- No id has no extents.
none_above : (file block : ℕ) (entries : Entries) → list_any (is_extent_over file [] block) entries ≡ false
none_above file block entries = by (list_any (is_extent_over file [] block) entries) refl
  where
    by : (b : Bool) → list_any (is_extent_over file [] block) entries ≡ b → b ≡ false
    by false is = refl
    by true any =
        let e = any-has (is_extent_over file [] block) entries any in
        let four = and_parts (e.0.0.inode == file && false && covers e.0.0.offset e.0.1 block) (is_extent e.0.1) e.1.1 in
        let three = and_parts (e.0.0.inode == file && false) (covers e.0.0.offset e.0.1 block) four.0 in
        absurd (true≢false (sym (and_parts (e.0.0.inode == file) false three.0).1))

-- the stretch from a first to a last block
abbrev pub stretch_to : ℕ → ℕ → Stretch
stretch_to first last = record { first = first; end = last + 1 }

-- it has the blocks between them
cut_between : (first last block : ℕ) → is_within (stretch_to first last ∷ []) block ≡ (nat_le first block && nat_le block last)
cut_between first last block = or_false (has_block block (stretch_to first last)) ∙ same
  where
    or_false : (b : Bool) → (b || false) ≡ b
    or_false true = refl
    or_false false = refl

    same : (nat_le first block && nat_lt block (last + 1)) ≡ (nat_le first block && nat_le block last)
    same = grind (arith, nat_tests)

none_between : (first last block : ℕ) → last < first → false ≡ (nat_le first block && nat_le block last)
none_between first last block lt = grind (arith, nat_tests)

module _ (keys_map : KeyMap) (is : IsKeyMap keys_map) (file id first last : ℕ) (keys : List Key) (looked : AreLookedAt keys_map file first last keys) (fit : (entry : Pos × Value) → Has entry keys_map.extents → HavePlaces entry.1) (forward : first ≤ last) where
  -- The holes hide what ancestors have, if there are some.
  given_above : (parent : Option ℕ) → parent_of (snaps_of keys_map) id ≡ parent → AreGiven (stretch_to first last ∷ []) (holes_to_hide (snaps_of keys_map) parent (stretch_to first last) keys) (λ block. hidden_if (is_covered_above keys_map id file block))
  given_above None none = record {
    inside = λ change block has over. elim has [ ];
    last = λ change has. elim has [ ];
    once = λ one other block has has' over over'. elim has [ ];
    gives = λ change block has over. elim has [ ];
    given = λ block within. inl (ap hidden_if (ap (λ o. list_any (is_extent_over file (chain_of_maybe (snaps_of keys_map) o) block) keys_map.extents) none ∙ none_above file block keys_map.extents));
  }
  given_above (Some parent) at = subst (λ o. AreGiven (stretch_to first last ∷ []) (holes_to_hide (snaps_of keys_map) (Some parent) (stretch_to first last) keys) (λ block. hidden_if (list_any (is_extent_over file (chain_of_maybe (snaps_of keys_map) o) block) keys_map.extents)))
      (sym at) (hiding keys_map is file id first last keys looked fit (omega (arith, forward)) parent)

  -- So the id takes them over.
  pub taken_holes : IsCoveredOnce keys_map file id → TakesBlocks keys_map (with_updates (updates_of file id (cut_all id (stretch_to first last ∷ []) keys ++ holes_to_hide (snaps_of keys_map) (parent_of (snaps_of keys_map) id) (stretch_to first last) keys)) keys_map) file id
      (λ block. nat_le first block && nat_le block last) (λ block. hidden_if (is_covered_above keys_map id file block))
  taken_holes apart = subst (λ (cut : ℕ → Bool). TakesBlocks keys_map (with_updates (updates_of file id (cut_all id (stretch_to first last ∷ []) keys ++ holes_to_hide (snaps_of keys_map) (parent_of (snaps_of keys_map) id) (stretch_to first last) keys)) keys_map) file id cut (λ block. hidden_if (is_covered_above keys_map id file block)))
      (λ i. λ block. cut_between first last block i)
      (taken keys_map is file id first last keys looked apart fit (stretch_to first last ∷ []) (omega arith, omega (arith, forward), tt)
      (λ block within. let lies = and_parts (nat_le first block) (nat_le block last) (sym (cut_between first last block) ∙ within) in window block lies.0 lies.1)
      (holes_to_hide (snaps_of keys_map) (parent_of (snaps_of keys_map) id) (stretch_to first last) keys) (λ block. hidden_if (is_covered_above keys_map id file block)) (given_above (parent_of (snaps_of keys_map) id) refl))
    where
      window : (block : ℕ) → nat_le first block ≡ true → nat_le block last ≡ true → (first ≤ block) × (block ≤ last)
      window block a b = (grind (arith, nat_tests), grind (arith, nat_tests))

  -- The first key is of the file.
  pub looked_file : (number : ℕ) → option_map (λ (key : Key). key.pos.inode) (slice_get keys 0) ≡ Some number → number ≡ file
  looked_file number at = by keys refl at
    where
      by : (ks : List Key) → keys ≡ ks → option_map (λ (key : Key). key.pos.inode) (slice_get ks 0) ≡ Some number → number ≡ file
      by [] same at = absurd (none_some number at)
      by (key ∷ rest) same at =
          let e = entry_of keys_map is file id first last keys looked fit (omega (arith, forward)) key (subst (Has key) (sym same) (inl refl)) in
          sym (same_Some key.pos.inode number at) ∙ ap (λ (k : Key). k.pos.inode) e.1.2 ∙ e.1.1

-- Nothing is cut out where the last block is before the first.
pub taken_backwards : (keys_map : KeyMap) (file id first last : ℕ) (give : ℕ → Option (Option Block)) → IsCoveredOnce keys_map file id → last < first → TakesBlocks keys_map keys_map file id (λ block. nat_le first block && nat_le block last) give
taken_backwards keys_map file id first last give apart lt = subst (λ (cut : ℕ → Bool). TakesBlocks keys_map keys_map file id cut give) (λ i. λ block. none_between first last block lt i) (taken_nothing keys_map file id give apart)

-- what punching promises of updates
abbrev pub Punches : Snaps → ℕ → ℕ → ℕ → List Key → List Update → Type 0
Punches tree id first last keys updates = (keys_map : KeyMap) (file : ℕ) → IsKeyMap keys_map → snaps_of keys_map ≡ tree → IsCoveredOnce keys_map file id → All (λ (entry : Pos × Value). HavePlaces entry.1) keys_map.extents → last < 18446744073709551615
    → AreLookedAt keys_map file first last keys → TakesBlocks keys_map (with_updates updates keys_map) file id (λ block. nat_le first block && nat_le block last) (λ block. hidden_if (is_covered_above keys_map id file block))

pub punched_by : (tree : Snaps) (id first last number : ℕ) (keys : List Key) (updates : List Update) → first ≤ last → ((option_map (λ (key : Key). key.pos.inode) (slice_get keys 0) ≡ Some number) ⊎ (keys ≡ []))
    → updates ≡ updates_of number id (cut_all id (stretch_to first last ∷ []) keys ++ holes_to_hide tree (parent_of tree id) (stretch_to first last) keys) → Punches tree id first last keys updates
punched_by tree id first last number keys updates forward of_file are keys_map file is snaps apart fit small looked =
    subst (λ (u : List Update). TakesBlocks keys_map (with_updates u keys_map) file id (λ block. nat_le first block && nat_le block last) (λ block. hidden_if (is_covered_above keys_map id file block)))
    (sym (are ∙ of_the_file of_file ∙ (λ i. updates_of file id (cut_all id (stretch_to first last ∷ []) keys ++ holes_to_hide (sym snaps i) (parent_of (sym snaps i) id) (stretch_to first last) keys))))
    (taken_holes keys_map is file id first last keys looked fits forward apart)
  where
    fits : (entry : Pos × Value) → Has entry keys_map.extents → HavePlaces entry.1
    fits entry has = all-member (λ (entry : Pos × Value). HavePlaces entry.1) entry keys_map.extents fit has

    none : (parent : Option ℕ) → updates_of number id (holes_to_hide tree parent (stretch_to first last) []) ≡ updates_of file id (holes_to_hide tree parent (stretch_to first last) [])
    none None = refl
    none (Some parent) = refl

    of_the_file : (option_map (λ (key : Key). key.pos.inode) (slice_get keys 0) ≡ Some number) ⊎ (keys ≡ []) → updates_of number id (cut_all id (stretch_to first last ∷ []) keys ++ holes_to_hide tree (parent_of tree id) (stretch_to first last) keys) ≡ updates_of file id (cut_all id (stretch_to first last ∷ []) keys ++ holes_to_hide tree (parent_of tree id) (stretch_to first last) keys)
    of_the_file (inl at) = ap (λ n. updates_of n id (cut_all id (stretch_to first last ∷ []) keys ++ holes_to_hide tree (parent_of tree id) (stretch_to first last) keys)) (looked_file keys_map is file id first last keys looked fits forward number at)
    of_the_file (inr empty) = subst (λ (ks : List Key). updates_of number id (cut_all id (stretch_to first last ∷ []) ks ++ holes_to_hide tree (parent_of tree id) (stretch_to first last) ks) ≡ updates_of file id (cut_all id (stretch_to first last ∷ []) ks ++ holes_to_hide tree (parent_of tree id) (stretch_to first last) ks)) (sym empty) (none (parent_of tree id))

-- Where there is no key there is nothing to do.
pub punched_none : (tree : Snaps) (id first last : ℕ) (keys : List Key) → first ≤ last → None ≡ option_map (λ (key : Key). key.pos.inode) (slice_get keys 0) → Punches tree id first last keys []
punched_none tree id first last [] forward none = punched_by tree id first last 0 [] [] forward (inr refl) (sym (nothing (parent_of tree id)))
  where
    nothing : (parent : Option ℕ) → updates_of 0 id (holes_to_hide tree parent (stretch_to first last) []) ≡ []
    nothing None = refl
    nothing (Some parent) = refl
punched_none tree id first last (key ∷ keys) forward none = absurd (none_some key.pos.inode none)

-- What punching promises, by what it calls.
pub punched_call : {E : Type 0} (tree : Snaps) (id first last number end : ℕ) (keys looked : List Key) (stretches : List Stretch) (given : List Change) (result : Result (List Update) E)
    → first ≤ last → option_map (λ (key : Key). key.pos.inode) (slice_get keys 0) ≡ Some number → looked ≡ keys → (last < 18446744073709551615 → end ≡ last + 1) → stretches ≡ record { first = first; end = end } ∷ []
    → given ≡ holes_to_hide tree (parent_of tree id) (record { first = first; end = end }) keys
    → (RiseFrom 0 stretches → IfOk result (λ updates. updates ≡ updates_of number id (cut_all id stretches looked ++ given)))
    → IfOk result (Punches tree id first last keys)
punched_call tree id first last number end keys looked stretches given result forward of_file same_keys ends same_stretches same_given are = ok_later
    (λ (updates : List Update). updates ≡ updates_of number id (cut_all id stretches looked ++ given)) (Punches tree id first last keys) result are
    (λ updates at keys_map file is snaps apart fit small seen.
    let up = ends small in
    let w : stretches ≡ stretch_to first last ∷ [] = same_stretches ∙ (λ i. record { first = first; end = up i } ∷ []) in
    punched_by tree id first last number keys updates forward (inl of_file)
    (at (subst (RiseFrom 0) (sym w) (omega arith, omega (arith, forward), tt))
    ∙ (λ i. updates_of number id (cut_all id (w i) (same_keys i) ++ (same_given ∙ (λ j. holes_to_hide tree (parent_of tree id) (record { first = first; end = up j }) keys)) i)))
    keys_map file is snaps apart fit small seen)
