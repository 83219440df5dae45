-- A block at fault is one of the bucket.
use Rattle.std.proofs.Common.{◌≡◌, ℕ, zero, suc, ◌+◌, ◌-◌, ◌<◌, Bool, true, false, cond, List, [], ◌∷◌, Option, Some, None, Result, Ok, Err, refl, ap, sym, ◌∙◌, arith}
use Rattle.std.specs.Option.{option_map_or}
use Rattle.std.specs.List.{list_any}
use Rattle.vol_types.specs.KeyMaps.{Entries}
use Rattle.vol_types.specs.declared.keys.Key.{Key}
use Rattle.record_codec.specs.declared.sets.SetHead.{SetHead}
use Rattle.node_mem.specs.Nodes.{with_keys}
use Rattle.node_store.specs.declared.sets.StoredSet.{StoredSet}
use Rattle.node_store.specs.declared.sets.StoredSets.{StoredSets}
use Rattle.node_store.specs.NodeContents.{content_if, content_in, content_with, entries_after, keys_of}
use Rattle.node_store.specs.StoredSets.{Copies, first_head, if_some, set_at, sets_from, sets_in, shows_head, with_set}
use Rattle.node_store.proofs.Stored.{if_some_is, set_at_is}

head_within : (copies : Copies) (id : List ℕ) (birth more n k : ℕ) → first_head copies id birth more n ≡ Some k → k < n + more
head_within copies id birth zero n k is = cc
head_within copies id birth (suc more) n k is = by (list_any (shows_head id birth n) copies) is (head_within copies id birth more (suc n) k)
  where
    by : (b : Bool) → cond b (Some n) (first_head copies id birth more (suc n)) ≡ Some k → (first_head copies id birth more (suc n) ≡ Some k → k < suc n + more) → k < n + suc more
    by true at further = let e : n ≡ k = cc in omega (arith, e)
    by false at further = omega (arith, further at)

entries_within : (wanted : SetHead) (copies : Copies) (id : List ℕ) (birth more n : ℕ) (entries : Entries) (k : ℕ) → entries_after wanted (sets_from copies id birth more n).sets entries ≡ Err k → k < 16
entries_within wanted copies id birth zero n entries k is = cc
entries_within wanted copies id birth (suc more) n entries k is = by (set_at copies id birth n) refl is (entries_within wanted copies id birth more)
  where
    by : (o : Option StoredSet) → set_at copies id birth n ≡ o
        → entries_after wanted (option_map_or (λ set. with_set set (sets_from copies id birth more (n + set.blocks))) o (record { sets = []; end = n })).sets entries ≡ Err k
        → ((m : ℕ) (es : Entries) (j : ℕ) → entries_after wanted (sets_from copies id birth more m).sets es ≡ Err j → j < 16) → k < 16
    by None at given further = cc
    by (Some set) at given further = keyed (keys_of wanted set) given
      where
        keyed : (keys : Option (List Key)) → option_map_or (λ ks. entries_after wanted (sets_from copies id birth more (n + set.blocks)).sets (with_keys ks entries)) keys (Err set.block) ≡ Err k → k < 16
        keyed None bad =
            let begun = (set_at_is copies id birth n set at).1 in
            let e : set.block ≡ k = cc in
            omega (arith, e, begun.block, begun.some, begun.fits)
        keyed (Some keys) bad = further (n + set.blocks) (with_keys keys entries) k bad

if_some_within : (copies : Copies) (id : List ℕ) (birth end : ℕ) (found : StoredSets) (sets : List StoredSet) (k : ℕ) → if_some found (first_head copies id birth (16 - suc end) (suc end)) sets ≡ Err k → k < 16
if_some_within copies id birth end found [] k is = let e : 0 ≡ k = cc in omega (arith, e)
if_some_within copies id birth end found (set ∷ sets) k is = by (first_head copies id birth (16 - suc end) (suc end)) refl is
  where
    far : (j : ℕ) → first_head copies id birth (16 - suc end) (suc end) ≡ Some j → 16 - suc end ≡ zero → ⊥
    far j at none = let both : None ≡ Some j = ap (λ m. first_head copies id birth m (suc end)) (sym none) ∙ at in cc

    by : (o : Option ℕ) → first_head copies id birth (16 - suc end) (suc end) ≡ o → if_some found o (set ∷ sets) ≡ Err k → k < 16
    by None at given = cc
    by (Some j) at given =
        let e : j ≡ k = cc in
        let some : 16 - suc end ≡ zero → ⊥ = far j at in
        omega (arith, e, head_within copies id birth (16 - suc end) (suc end) j at, some)

abbrev all_found : Copies → List ℕ → ℕ → StoredSets
all_found copies id birth = sets_from copies id birth 16 0

pub bad_within : (copies : Copies) (id : List ℕ) (wanted : SetHead) (k : ℕ) → content_in copies id wanted ≡ Err k → k < 16
unfolding sets_in
bad_within copies id wanted k is =
    by (if_some (all_found copies id wanted.birth) (first_head copies id wanted.birth (16 - suc (all_found copies id wanted.birth).end) (suc (all_found copies id wanted.birth).end)) (all_found copies id wanted.birth).sets) refl is
  where
    made : (entries : Result Entries ℕ) → content_with (all_found copies id wanted.birth).end entries ≡ Err k → entries ≡ Err k
    made (Ok entries) given = cc
    made (Err n) given = let e : n ≡ k = cc in ap Err e

    by : (o : Result StoredSets ℕ) → if_some (all_found copies id wanted.birth) (first_head copies id wanted.birth (16 - suc (all_found copies id wanted.birth).end) (suc (all_found copies id wanted.birth).end)) (all_found copies id wanted.birth).sets ≡ o → content_if wanted o ≡ Err k → k < 16
    by (Err n) at given = let e : n ≡ k = cc in if_some_within copies id wanted.birth (all_found copies id wanted.birth).end (all_found copies id wanted.birth) (all_found copies id wanted.birth).sets k (at ∙ ap Err e)
    by (Ok found) at given = is_found found at given
      where
        is_found : (found : StoredSets) → if_some (all_found copies id wanted.birth) (first_head copies id wanted.birth (16 - suc (all_found copies id wanted.birth).end) (suc (all_found copies id wanted.birth).end)) (all_found copies id wanted.birth).sets ≡ Ok found → content_if wanted (Ok found) ≡ Err k → k < 16
        is_found found same wrong =
            let sets : (all_found copies id wanted.birth) ≡ found = (if_some_is (all_found copies id wanted.birth) (first_head copies id wanted.birth (16 - suc (all_found copies id wanted.birth).end) (suc (all_found copies id wanted.birth).end)) (all_found copies id wanted.birth).sets found same).0 in
            entries_within wanted copies id wanted.birth 16 0 [] k
            (made (entries_after wanted (all_found copies id wanted.birth).sets []) (ap (λ (f : StoredSets). content_with f.end (entries_after wanted f.sets [])) sets ∙ wrong))
