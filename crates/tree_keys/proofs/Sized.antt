-- How many bytes the leaves that changes touch would take, change by change.
use Rattle.std.proofs.Common.{◌≡◌, ℕ, ◌+◌, ◌-◌, ◌*◌, ◌^◌, ◌<◌, ◌≤◌, Bool, true, false, cond, ◌&&◌, ◌||◌, Option, Some, None, List, [], ◌∷◌, ◌++◌, length, map, refl, sym, ap, ◌∙◌, subst, arith}
use Rattle.std.specs.Prelude.{min, is_some, unwrap_or}
use Rattle.std.specs.BTreeMap.{is_at}
use Rattle.std.specs.List.{filter}
use Rattle.std.specs.List.Sorted.{IsStrictlySortedBy}
use Rattle.std.specs.Map.{keys_of}
use Rattle.std.proofs.lemmas.Bool.{or_parts}
use Rattle.std.proofs.lemmas.List.{length-append}
use Rattle.std.proofs.lemmas.List.Folds.{list_any-append}
use Rattle.std.proofs.lemmas.List.Kept.{IsStrictlySortedBy-filter}
use Rattle.std.proofs.lemmas.Option.{none-some as none_some, same_Some}
use Rattle.std.proofs.lemmas.Simd.{map-map}
use Rattle.node_mem.specs.Counts.{length_of}
use Rattle.node_mem.specs.MergeLaws.{with_keys-append}
use Rattle.node_mem.specs.Nodes.{with_keys}
use Rattle.tree_keys.specs.Counts.{leaf_bytes}
use Rattle.tree_keys.specs.Cuts.{Cut, IsCut, end_of, is_end, with_entries}
use Rattle.tree_keys.specs.LeafLaws.{IsCut-put_at, leaf_bytes-put_at, leaf_bytes-untouched}
use Rattle.tree_keys.specs.OrderLaws.{at_turned, same_from_at}
use Rattle.tree_keys.specs.Sizes.{IsSized, sizes_after, touches}
use Rattle.tree_keys.proofs.Counted.{IsKept, bytes-fit, counted_end, cut_of}
use Rattle.vol_types.specs.KeyMaps.{Entries}
use Rattle.vol_types.specs.MapLaws.{same_maps, value_at-put_at, value_at-with_value}
use Rattle.vol_types.specs.Maps.{IsMap, value_at, with_value}
use Rattle.vol_types.specs.PositionLaws.{pos_exact, pos_total}
use Rattle.vol_types.specs.Positions.{pos_cmp}
use Rattle.vol_types.specs.Ranges.{IsKeyValue}
use Rattle.vol_types.specs.Widths.{PosFits}
use Rattle.vol_types.specs.declared.keys.Key.{Key}
use Rattle.vol_types.specs.declared.positions.Pos.{Pos}

-- the keys after some changes
abbrev pub after : Cut → List Key → Cut
after cut keys = with_entries cut (with_keys keys cut.entries)

-- After some changes the length of the key at each changed position is known, and the bytes of each leaf that was touched.
pub record IsSizing (cut : Cut) (done : List Key) (lengths sizes : List (Pos × ℕ)) : Type 0 where
  pub still : IsCut (after cut done)
  pub known : (q : Pos) → unwrap_or (value_at pos_cmp q lengths) (length_of (value_at pos_cmp q cut.entries)) ≡ length_of (value_at pos_cmp q (with_keys done cut.entries))
  pub rise : IsMap pos_cmp sizes
  pub sized : (q : Pos) (n : ℕ) → value_at pos_cmp q sizes ≡ Some n → (n ≡ leaf_bytes q (after cut done)) × (n ≤ 2 ^ 96 + 2 ^ 32 * length done) × (is_end q cut.ends ≡ true)
  pub touched : (q : Pos) → is_some (value_at pos_cmp q sizes) ≡ touches q done cut.ends
  pub others : (q : Pos) → is_end q cut.ends ≡ true → touches q done cut.ends ≡ false → leaf_bytes q (after cut done) ≡ leaf_bytes q cut

-- before the first change
pub sizing_none : (cut : Cut) (lengths sizes : List (Pos × ℕ)) → IsCut cut → lengths ≡ [] → sizes ≡ [] → IsMap pos_cmp sizes → IsSizing cut [] lengths sizes
sizing_none cut lengths sizes is none empty rise = record {
  still = is;
  known = λ q. ap (λ ls. unwrap_or (value_at pos_cmp q ls) (length_of (value_at pos_cmp q cut.entries))) none;
  rise = rise;
  sized = λ q n found. absurd (none_some n (sym (ap (value_at pos_cmp q) empty) ∙ found));
  touched = λ q. ap (λ ss. is_some (value_at pos_cmp q ss)) empty;
  others = λ q has un. refl;
}

module _ (entries : Entries) (leaves : List (Pos × ℕ)) (kept : IsKept entries leaves) (few : length entries < 2 ^ 63) (done : List Key) (lengths sizes : List (Pos × ℕ)) (sizing : IsSizing (cut_of entries leaves) done lengths sizes)
    (key : Key) (fits : PosFits key.pos) (range : IsKeyValue key.value) (end : Pos) (covers : end ≡ end_of key.pos (keys_of leaves)) (counted : ℕ) (found : value_at pos_cmp end leaves ≡ Some counted)
    (added before bytes : ℕ) (adds : added ≡ length_of key.value) (was : before ≡ unwrap_or (value_at pos_cmp key.pos lengths) (length_of (value_at pos_cmp key.pos entries)))
    (so_far : bytes ≡ unwrap_or (value_at pos_cmp end sizes) counted) where
  has : is_end end (keys_of leaves) ≡ true
  has = counted_end end counted leaves found

  -- the bytes of the leaf so far
  bytes_now : (bytes ≡ leaf_bytes end (after (cut_of entries leaves) done)) × (bytes ≤ 2 ^ 96 + 2 ^ 32 * length done)
  bytes_now = by (value_at pos_cmp end sizes) refl so_far
    where
      by : (o : Option ℕ) → value_at pos_cmp end sizes ≡ o → bytes ≡ unwrap_or o counted → (bytes ≡ leaf_bytes end (after (cut_of entries leaves) done)) × (bytes ≤ 2 ^ 96 + 2 ^ 32 * length done)
      by (Some n) is eq = let sized = sizing.sized end n is in (eq ∙ sized.0, omega (arith, eq, sized.1))
      by None is eq = (
        eq ∙ kept.1.each end counted found ∙ sym (sizing.others end has (sym (sizing.touched end) ∙ ap is_some is)),
        omega (arith, eq, bytes-fit entries leaves kept end counted found few),
      )

  after_more : after (cut_of entries leaves) (done ++ key ∷ []) ≡ with_entries (after (cut_of entries leaves) done) (Rattle.vol_types.specs.Maps.put_at pos_cmp key.pos key.value (with_keys done entries))
  after_more = ap (with_entries (cut_of entries leaves)) (with_keys-append done (key ∷ []) entries)

  changed : leaf_bytes end (after (cut_of entries leaves) (done ++ key ∷ [])) + before ≡ bytes + added
  changed =
      omega
      (arith, bytes_now.0, adds, was, sizing.known key.pos, ap (leaf_bytes end) after_more, leaf_bytes-put_at (after (cut_of entries leaves) done) sizing.still key.pos fits key.value end has (sym covers))

  -- what was there weighs no more than all
  pub before-le : before ≤ bytes + added
  before-le = omega (arith, changed)

  -- and all fits
  pub bytes-small : length done < 2 ^ 64 → bytes < 2 ^ 98
  bytes-small short = omega (arith, short, bytes_now.1)

  unchanged : (q : Pos) → is_end q (keys_of leaves) ≡ true → is_at (pos_cmp end) q ≡ false → leaf_bytes q (after (cut_of entries leaves) (done ++ key ∷ [])) ≡ leaf_bytes q (after (cut_of entries leaves) done)
  unchanged q is_q other =
      ap (leaf_bytes q) after_more
      ∙ leaf_bytes-untouched (after (cut_of entries leaves) done) sizing.still key.pos fits key.value q is_q (ap (is_at (pos_cmp q)) (sym covers) ∙ at_turned q end ∙ other)

  -- one change more
  module _ (new_lengths new_sizes : List (Pos × ℕ)) (small : added < 2 ^ 32) (learnt : new_lengths ≡ with_value pos_cmp key.pos added lengths) (rise : IsMap pos_cmp new_sizes) (resized : new_sizes ≡ with_value pos_cmp end (bytes + added - before) sizes) where
    known_at : (q : Pos) (here : Bool) → unwrap_or (cond here (Some added) (value_at pos_cmp q lengths)) (length_of (value_at pos_cmp q entries)) ≡ length_of (cond here key.value (value_at pos_cmp q (with_keys done entries)))
    known_at q true = adds
    known_at q false = sizing.known q

    resized_at : (q : Pos) → value_at pos_cmp q new_sizes ≡ cond (is_at (pos_cmp end) q) (Some (bytes + added - before)) (value_at pos_cmp q sizes)
    resized_at q = ap (value_at pos_cmp q) resized ∙ value_at-with_value pos_total end (bytes + added - before) q sizes

    sized_at : (q : Pos) (n : ℕ) (here : Bool) → is_at (pos_cmp end) q ≡ here → cond here (Some (bytes + added - before)) (value_at pos_cmp q sizes) ≡ Some n
        → (n ≡ leaf_bytes q (after (cut_of entries leaves) (done ++ key ∷ []))) × (n ≤ 2 ^ 96 + 2 ^ 32 * length (done ++ key ∷ [])) × (is_end q (keys_of leaves) ≡ true)
    sized_at q n true at is =
        let same = same_from_at end q at in
        let n_is = same_Some (bytes + added - before) n is in (
          omega (arith, n_is, changed) ∙ ap (λ p. leaf_bytes p (after (cut_of entries leaves) (done ++ key ∷ []))) same,
          omega (arith, n_is, bytes_now.1, small, length-append done (key ∷ [])),
          ap (λ p. is_end p (keys_of leaves)) (sym same) ∙ has,
        )
    sized_at q n false at is =
        let sized = sizing.sized q n is in
        (sized.0 ∙ sym (unchanged q sized.2 at), omega (arith, sized.1, length-append done (key ∷ [])), sized.2)

    touched_at : (q : Pos) (here : Bool) (o : Option ℕ) → is_some (cond here (Some (bytes + added - before)) o) ≡ (is_some o || (here || false))
    touched_at q true None = refl
    touched_at q true (Some n) = refl
    touched_at q false None = refl
    touched_at q false (Some n) = refl

    touches_more : (q : Pos) → touches q (done ++ key ∷ []) (keys_of leaves) ≡ (touches q done (keys_of leaves) || (is_at (pos_cmp q) (end_of key.pos (keys_of leaves)) || false))
    touches_more q = list_any-append (λ k. is_at (pos_cmp q) (end_of k.pos (keys_of leaves))) done (key ∷ [])

    here_turned : (q : Pos) → is_at (pos_cmp end) q ≡ is_at (pos_cmp q) (end_of key.pos (keys_of leaves))
    here_turned q = at_turned end q ∙ ap (is_at (pos_cmp q)) covers

    or_false : (b : Bool) → (b || false) ≡ b
    or_false true = refl
    or_false false = refl

    pub sizing_more : IsSizing (cut_of entries leaves) (done ++ key ∷ []) new_lengths new_sizes
    sizing_more = record {
      still = subst IsCut (sym after_more) (IsCut-put_at (after (cut_of entries leaves) done) sizing.still key.pos fits key.value range);
      known = λ q.
          ap (λ ls. unwrap_or (value_at pos_cmp q ls) (length_of (value_at pos_cmp q entries))) learnt
          ∙ ap (λ o. unwrap_or o (length_of (value_at pos_cmp q entries))) (value_at-with_value pos_total key.pos added q lengths)
          ∙ known_at q (is_at (pos_cmp key.pos) q)
          ∙ ap length_of (sym (value_at-put_at pos_total key.pos key.value q (with_keys done entries) sizing.still.rises))
          ∙ ap (λ es. length_of (value_at pos_cmp q es)) (sym (with_keys-append done (key ∷ []) entries));
      rise = rise;
      sized = λ q n is. sized_at q n (is_at (pos_cmp end) q) refl (sym (resized_at q) ∙ is);
      touched = λ q.
          ap is_some (resized_at q) ∙ touched_at q (is_at (pos_cmp end) q) (value_at pos_cmp q sizes)
          ∙ ap (λ b. b || (is_at (pos_cmp end) q || false)) (sizing.touched q)
          ∙ ap (λ b. touches q done (keys_of leaves) || (b || false)) (here_turned q)
          ∙ sym (touches_more q);
      others = λ q is_q un.
          let parts = or_parts (touches q done (keys_of leaves)) (is_at (pos_cmp q) (end_of key.pos (keys_of leaves)) || false) (sym (touches_more q) ∙ un) in
          unchanged q is_q (here_turned q ∙ sym (or_false (is_at (pos_cmp q) (end_of key.pos (keys_of leaves)))) ∙ parts.1) ∙ sizing.others q is_q parts.0;
    }

-- in the end the leaves that are touched are sized
pub sizing_all : (cut : Cut) (keys : List Key) (lengths sizes : List (Pos × ℕ)) → IsSizing cut keys lengths sizes → IsSized cut keys sizes
sizing_all cut keys lengths sizes sizing = record {
  rise = sizing.rise;
  sized = λ q n is. let sized = sizing.sized q n is in (sized.0, sized.2);
  touched = sizing.touched;
}

module _ (f : Pos → ℕ) where
  value_at-listed : (q : Pos) (ends : List Pos) → value_at pos_cmp q (map (λ end. (end, f end)) ends) ≡ cond (is_end q ends) (Some (f q)) None
  value_at-listed q [] = refl
  value_at-listed q (e ∷ ends) = by (is_at (pos_cmp q) e) refl (value_at-listed q ends)
    where
      by : (b : Bool) → is_at (pos_cmp q) e ≡ b → value_at pos_cmp q (map (λ end. (end, f end)) ends) ≡ cond (is_end q ends) (Some (f q)) None
          → cond b (Some (f e)) (value_at pos_cmp q (map (λ end. (end, f end)) ends)) ≡ cond (b || is_end q ends) (Some (f q)) None
      by true at later = ap (λ p. Some (f p)) (sym (same_from_at q e at))
      by false at later = later

  keys_of-listed : (ends : List Pos) → keys_of (map (λ end. (end, f end)) ends) ≡ ends
  keys_of-listed [] = refl
  keys_of-listed (e ∷ ends) = ap (λ es. e ∷ es) (keys_of-listed ends)

is_end-filter : (p : Pos → Bool) (q : Pos) (ends : List Pos) → is_end q (filter p ends) ≡ (p q && is_end q ends)
is_end-filter p q [] = no_false (p q)
  where
    no_false : (b : Bool) → false ≡ (b && false)
    no_false true = refl
    no_false false = refl
is_end-filter p q (e ∷ ends) = by (p e) refl (is_at (pos_cmp q) e) refl (is_end-filter p q ends)
  where
    by : (b : Bool) → p e ≡ b → (a : Bool) → is_at (pos_cmp q) e ≡ a → is_end q (filter p ends) ≡ (p q && is_end q ends) → is_end q (cond b (e ∷ filter p ends) (filter p ends)) ≡ (p q && (a || is_end q ends))
    by true is true at later = ap (λ t. t || is_end q (filter p ends)) at ∙ sym (ap (λ t. t && true) (ap p (same_from_at q e at) ∙ is))
    by true is false at later = ap (λ t. t || is_end q (filter p ends)) at ∙ later
    by false is true at later =
        let out : p q ≡ false = ap p (same_from_at q e at) ∙ is in
        later ∙ ap (λ t. t && is_end q ends) out ∙ sym (ap (λ t. t && true) out)
    by false is false at later = later

-- the sized leaves are those that are touched, in order
pub sized_list : (cut : Cut) (keys : List Key) (sizes : List (Pos × ℕ)) → IsCut cut → IsSized cut keys sizes → map (λ entry. record { end = entry.0; size = min entry.1 (2 ^ 32 - 1) }) sizes ≡ sizes_after keys cut
sized_list cut keys sizes is sized =
    let f : Pos → ℕ = λ end. leaf_bytes end (after cut keys) in
    let ends : List Pos = filter (λ end. touches end keys cut.ends) cut.ends in
    ap (map (λ entry. record { end = entry.0; size = min entry.1 (2 ^ 32 - 1) }))
    (same_maps pos_total pos_exact sizes (map (λ end. (end, f end)) ends) sized.rise
    (subst (IsStrictlySortedBy pos_cmp) (sym (keys_of-listed f ends)) (IsStrictlySortedBy-filter pos_cmp (λ end. touches end keys cut.ends) cut.ends is.ends.rise))
    (λ q. at q (value_at pos_cmp q sizes) refl ∙ sym (value_at-listed f q ends ∙ ap (λ b. cond b (Some (f q)) None) (is_end-filter (λ end. touches end keys cut.ends) q cut.ends))))
    ∙ map-map (λ (entry : Pos × ℕ). record { end = entry.0; size = min entry.1 (2 ^ 32 - 1) }) (λ end. (end, f end)) ends
  where
    at : (q : Pos) (o : Option ℕ) → value_at pos_cmp q sizes ≡ o → o ≡ cond (touches q keys cut.ends && is_end q cut.ends) (Some (leaf_bytes q (after cut keys))) None
    at q None found = sym (ap (λ b. cond (b && is_end q cut.ends) (Some (leaf_bytes q (after cut keys))) None) (sym (sized.touched q) ∙ ap is_some found))
    at q (Some n) found =
        let is_sized = sized.sized q n found in
        ap Some is_sized.0
        ∙ sym
        (ap (λ b. cond (b && is_end q cut.ends) (Some (leaf_bytes q (after cut keys))) None) (sym (sized.touched q) ∙ ap is_some found)
        ∙ ap (λ b. cond b (Some (leaf_bytes q (after cut keys))) None) is_sized.1)
