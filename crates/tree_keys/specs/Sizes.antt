-- How many bytes the leaves that changes touch would take after them.
use Rattle.std.specs.Prelude.{◌≡◌, ℕ, Bool, true, Some, List, is_some, map}
use Rattle.std.specs.BTreeMap.{is_at}
use Rattle.std.specs.List.{filter, list_any}
use Rattle.node_mem.specs.Nodes.{with_keys}
use Rattle.tree_keys.specs.Counts.{leaf_bytes, leaf_size}
use Rattle.tree_keys.specs.Cuts.{Cut, end_of, is_end, with_entries}
use Rattle.tree_keys.specs.declared.sizing.LeafSize.{LeafSize}
use Rattle.vol_types.specs.Maps.{IsMap, value_at}
use Rattle.vol_types.specs.Positions.{pos_cmp}
use Rattle.vol_types.specs.declared.keys.Key.{Key}
use Rattle.vol_types.specs.declared.positions.Pos.{Pos}

-- whether a leaf covers the position of one of the keys
abbrev pub touches : Pos → List Key → List Pos → Bool
touches end keys ends = list_any (λ key. is_at (pos_cmp end) (end_of key.pos ends)) keys

-- the leaves that cover the position of one of the keys, in order, each with the size that it would have with all of them
abbrev pub sizes_after : List Key → Cut → List LeafSize
sizes_after keys cut =
    map (λ end. record { end = end; size = leaf_size end (with_entries cut (with_keys keys cut.entries)) }) (filter (λ end. touches end keys cut.ends) cut.ends)

-- Of each leaf that the keys touch the bytes are known that it would take with all of them, and of no other.
pub record IsSized (cut : Cut) (keys : List Key) (sizes : List (Pos × ℕ)) : Type 0 where
  pub rise : IsMap pos_cmp sizes
  pub sized : (end : Pos) (bytes : ℕ) → value_at pos_cmp end sizes ≡ Some bytes → (bytes ≡ leaf_bytes end (with_entries cut (with_keys keys cut.entries))) × (is_end end cut.ends ≡ true)
  pub touched : (end : Pos) → is_some (value_at pos_cmp end sizes) ≡ touches end keys cut.ends
