-- How many bytes a node would take after changes, change by change.
use Rattle.std.proofs.Common.{◌≡◌, ℕ, ◌+◌, ◌-◌, ◌*◌, ◌^◌, ◌<◌, ◌≤◌, Bool, true, false, cond, Some, List, [], ◌∷◌, ◌++◌, length, sym, ap, ◌∙◌, arith}
use Rattle.std.specs.Prelude.{unwrap_or}
use Rattle.std.specs.BTreeMap.{is_at}
use Rattle.std.proofs.lemmas.List.{length-append}
use Rattle.vol_types.specs.KeyMaps.{Entries, keys_in}
use Rattle.vol_types.specs.Maps.{IsMap, value_at, with_value}
use Rattle.vol_types.specs.MapLaws.{value_at-put_at, value_at-with_value}
use Rattle.vol_types.specs.Positions.{pos_cmp}
use Rattle.vol_types.specs.PositionLaws.{pos_total}
use Rattle.vol_types.specs.Sets.{set_length_of}
use Rattle.vol_types.specs.declared.keys.Key.{Key}
use Rattle.vol_types.specs.declared.positions.Pos.{Pos}
use Rattle.node_mem.specs.Counts.{length_of}
use Rattle.node_mem.specs.Nodes.{with_keys}
use Rattle.node_mem.specs.CountLaws.{length-put_at}
use Rattle.node_mem.specs.MergeLaws.{with_keys-append, IsMap-with_keys}

-- After some changes the bytes are counted, and of each position that was changed the length of its key is known.
pub record IsSizing (entries : Entries) (bytes : ℕ) (done : List Key) (lengths : List (Pos × ℕ)) (after : ℕ) : Type 0 where
  pub counted : after ≡ set_length_of (keys_in (with_keys done entries))
  pub known : (q : Pos) → unwrap_or (value_at pos_cmp q lengths) (length_of (value_at pos_cmp q entries)) ≡ length_of (value_at pos_cmp q (with_keys done entries))
  pub bound : after ≤ bytes + 2 ^ 32 * length done

-- before the first change
pub sizing_none : (entries : Entries) (bytes : ℕ) (lengths : List (Pos × ℕ)) → bytes ≡ set_length_of (keys_in entries) → lengths ≡ [] → IsSizing entries bytes [] lengths bytes
sizing_none entries bytes lengths counted none = record {
  counted = counted;
  known = λ q. ap (λ ls. unwrap_or (value_at pos_cmp q ls) (length_of (value_at pos_cmp q entries))) none;
  bound = omega arith;
}

module _ (entries : Entries) (rises : IsMap pos_cmp entries) (bytes : ℕ) (done : List Key) (lengths new : List (Pos × ℕ)) (after added before : ℕ) (key : Key) (sizing : IsSizing entries bytes done lengths after)
    (adds : added ≡ length_of key.value) (was : before ≡ unwrap_or (value_at pos_cmp key.pos lengths) (length_of (value_at pos_cmp key.pos entries))) where
  -- what the change adds and takes away
  changed : set_length_of (keys_in (with_keys (done ++ key ∷ []) entries)) + before ≡ after + added
  changed =
      omega (arith, sizing.counted, adds, was, sizing.known key.pos, ap (λ es. set_length_of (keys_in es)) (with_keys-append done (key ∷ []) entries), length-put_at key.pos (with_keys done entries) (IsMap-with_keys done entries rises) key.value)

  -- what was there weighs no more than all
  pub before-le : before ≤ after + added
  before-le = omega (arith, changed)

  at : (q : Pos) (here : Bool) → unwrap_or (cond here (Some added) (value_at pos_cmp q lengths)) (length_of (value_at pos_cmp q entries)) ≡ length_of (cond here key.value (value_at pos_cmp q (with_keys done entries)))
  at q true = adds
  at q false = sizing.known q

  -- one change more
  pub sizing_more : added < 2 ^ 32 → new ≡ with_value pos_cmp key.pos added lengths → IsSizing entries bytes (done ++ key ∷ []) new (after + added - before)
  sizing_more lt put = record {
    counted = omega (arith, changed);
    known = λ q.
        ap (λ ls. unwrap_or (value_at pos_cmp q ls) (length_of (value_at pos_cmp q entries))) put
        ∙ ap (λ o. unwrap_or o (length_of (value_at pos_cmp q entries))) (value_at-with_value pos_total key.pos added q lengths)
        ∙ at q (is_at (pos_cmp key.pos) q)
        ∙ ap length_of (sym (value_at-put_at pos_total key.pos key.value q (with_keys done entries) (IsMap-with_keys done entries rises)))
        ∙ ap (λ es. length_of (value_at pos_cmp q es)) (sym (with_keys-append done (key ∷ []) entries));
    bound = omega (arith, lt, sizing.bound, length-append done (key ∷ []));
  }
