-- What entries are after keys were put, and which keys they have after one was put or removed.
use Rattle.std.proofs.Common.{◌≡◌, ℕ, ◌+◌, ◌<◌, Bool, true, false, cond, List, [], ◌∷◌, ◌++◌, length, map, take, get_or, refl, sym, ap, ◌∙◌}
use Rattle.std.specs.BTreeMap.{insert_entry, is_at}
use Rattle.std.specs.BTreeSet.{insert_key}
use Rattle.std.specs.Map.{keys_of, remove_entry}
use Rattle.std.specs.Ordering.{match_ordering}
use Rattle.std.specs.Set.{remove_key}
use Rattle.std.specs.declared.cmp.Ordering.{Ordering}
use Rattle.std.specs.declared.cmp.Ordering.TheVariants.{Less, Equal, Greater}
use Rattle.std.proofs.lemmas.List.{map-append, take_more}
use Rattle.vol_types.specs.KeyMaps.{Entries}
use Rattle.vol_types.specs.MapLaws.{IsMap-put_at}
use Rattle.vol_types.specs.Maps.{IsMap, put_at}
use Rattle.vol_types.specs.PositionLaws.{pos_total}
use Rattle.vol_types.specs.Positions.{pos_cmp}
use Rattle.vol_types.specs.declared.keys.Key.{Key}
use Rattle.node_mem.specs.Nodes.{with_keys}

-- Keys put one after another are joined keys.
pub with_keys-append : (first second : List Key) (entries : Entries) → with_keys (first ++ second) entries ≡ with_keys second (with_keys first entries)
with_keys-append [] second entries = refl
with_keys-append (key ∷ first) second entries = with_keys-append first second (put_at pos_cmp key.pos key.value entries)

-- With keys put, entries are a map still.
pub IsMap-with_keys : (keys : List Key) (entries : Entries) → IsMap pos_cmp entries → IsMap pos_cmp (with_keys keys entries)
IsMap-with_keys [] entries rises = rises
IsMap-with_keys (key ∷ keys) entries rises = IsMap-with_keys keys (put_at pos_cmp key.pos key.value entries) (IsMap-put_at pos_total key.pos key.value entries rises)

module _ {K X : Type 0} (cmp : K → K → Ordering) (key : K) where
  -- The keys after a value was put.
  pub keys_of-insert_entry : (value : X) (entries : List (K × X)) → keys_of (insert_entry cmp entries key value) ≡ insert_key cmp (keys_of entries) key
  keys_of-insert_entry value [] = refl
  keys_of-insert_entry value (e ∷ entries) = by (cmp key e.0) (keys_of-insert_entry value entries)
    where
      by : (r : Ordering) → keys_of (insert_entry cmp entries key value) ≡ insert_key cmp (keys_of entries) key
          → keys_of (match_ordering r ((key, value) ∷ e ∷ entries) ((e.0, value) ∷ entries) (e ∷ insert_entry cmp entries key value)) ≡ match_ordering r (key ∷ e.0 ∷ keys_of entries) (e.0 ∷ keys_of entries) (e.0 ∷ insert_key cmp (keys_of entries) key)
      by Less later = refl
      by Equal later = refl
      by Greater later = ap (λ ks. e.0 ∷ ks) later

  -- The keys after one was removed.
  pub keys_of-remove_entry : (entries : List (K × X)) → keys_of (remove_entry (is_at (cmp key)) entries) ≡ remove_key (is_at (cmp key)) (keys_of entries)
  keys_of-remove_entry [] = refl
  keys_of-remove_entry (e ∷ entries) = by (is_at (cmp key) e.0) (keys_of-remove_entry entries)
    where
      by : (b : Bool) → keys_of (remove_entry (is_at (cmp key)) entries) ≡ remove_key (is_at (cmp key)) (keys_of entries)
          → keys_of (cond b entries (e ∷ remove_entry (is_at (cmp key)) entries)) ≡ cond b (keys_of entries) (e.0 ∷ remove_key (is_at (cmp key)) (keys_of entries))
      by true later = refl
      by false later = ap (λ ks. e.0 ∷ ks) later

-- The keys of the first members of a list and one more.
pub keys_more : {C : Type 0} (key : C → Key) (changes : List C) (i : ℕ) (change : C) → i < length changes → change ≡ get_or changes i change → map key (take (i + 1) changes) ≡ map key (take i changes) ++ key change ∷ []
keys_more key changes i change lt is = ap (map key) (take_more changes i change lt) ∙ map-append key (take i changes) (get_or changes i change ∷ []) ∙ ap (λ c. map key (take i changes) ++ key c ∷ []) (sym is)
