-- A node from which updates are taken back.
use Rattle.std.proofs.Common.{◌≡◌, ◌<◌, ◌-◌, ◌+◌, ℕ, zero, suc, Bool, true, false, cond, Option, List, [], ◌∷◌, length, refl, sym, ap, ◌∙◌, subst, arith}
use Rattle.std.specs.Prelude.{Err, IfOk, Ok, Result, drop, slice_index_or}
use Rattle.node_mem.specs.Nodes.{Node, with_entries}
use Rattle.tree_keys.specs.PartLaws.{part-put_at, part-untouched}
use Rattle.vol_types.specs.KeyMaps.{Entries, IsKeyMap, KeyMap, entries_of, entries_within, is_update_of, with_update}
use Rattle.vol_types.specs.KeyMapLaws.{entries_of-with_update}
use Rattle.vol_types.specs.Maps.{put_at}
use Rattle.vol_types.specs.Positions.{is_within, pos_cmp}
use Rattle.vol_types.specs.declared.keys.Update.{Update}
use Rattle.vol_types.specs.declared.positions.Btree.{Btree}
use Rattle.vol_types.specs.declared.values.Value.{Value}
use Rattle.journal_writer.specs.Changes.{IsPartOf, giving, taken_back}
use Rattle.journal_writer.specs.ChangeLaws.{IsKeyMap-taken_back}

module _ (keys : KeyMap) (btree : Btree) (update : Update) (value : Option Value) (node : Node) (part : IsPartOf keys btree node) where
  abbrev put_one : Bool → Entries
  put_one of = cond of (put_at pos_cmp update.pos value (entries_of keys btree)) (entries_of keys btree)

  seen : (of : Bool) → is_update_of btree update ≡ of → entries_within node.least node.greatest (entries_of (with_update (giving value update) keys) btree) ≡ entries_within node.least node.greatest (put_one of)
  seen of is = ap (entries_within node.least node.greatest) (entries_of-with_update (giving value update) keys btree ∙ ap put_one is)

  -- an update of another btree or level leaves the node
  pub another_back : is_update_of btree update ≡ false → IsPartOf (with_update (giving value update) keys) btree node
  another_back other = part ∙ sym (seen false other)

  -- and so does one outside it
  pub outside_back : IsKeyMap keys → is_update_of btree update ≡ true → is_within node.least node.greatest update.pos ≡ false → IsPartOf (with_update (giving value update) keys) btree node
  outside_back is of outside = part ∙ sym (seen true of ∙ part-untouched (is_within node.least node.greatest) update.pos value (entries_of keys btree) (is.rises btree) outside)

  -- one within it puts the value from before there
  pub within_back : (taken : Node) → IsKeyMap keys → is_update_of btree update ≡ true → is_within node.least node.greatest update.pos ≡ true → taken ≡ with_entries node (put_at pos_cmp update.pos value node.entries)
      → IsPartOf (with_update (giving value update) keys) btree taken
  within_back taken is of within put =
      subst (IsPartOf (with_update (giving value update) keys) btree) (sym put)
      (ap (put_at pos_cmp update.pos value) part ∙ sym (seen true of ∙ part-put_at (is_within node.least node.greatest) update.pos value (entries_of keys btree) (is.rises btree) within))

-- the updates from a place on are the one there and those behind it
pub drop_one : {X : Type 0} (xs : List X) (at : ℕ) (d : X) → at < length xs → drop at xs ≡ slice_index_or xs at d ∷ drop (suc at) xs
drop_one [] at d lt = absurd (omega (arith, lt))
drop_one (x ∷ xs) zero d lt = refl
drop_one (x ∷ xs) (suc at) d lt = drop_one xs at d (omega (arith, lt))

-- updates from a place on are taken back as those behind it and then the one there
pub taken_back-one : (updates : List Update) (before : List (Option Value)) (keys : KeyMap) (at : ℕ) (update : Update) (value : Option Value) → at < length updates → length before ≡ length updates
    → update ≡ slice_index_or updates at update → value ≡ slice_index_or before at value
    → taken_back (drop at updates) (drop at before) keys ≡ with_update (giving value update) (taken_back (drop (suc at) updates) (drop (suc at) before) keys)
taken_back-one updates before keys at update value lt same update_is value_is =
    ap (λ (us : List Update). taken_back us (drop at before) keys) (drop_one updates at update lt ∙ ap (λ (u : Update). u ∷ drop (suc at) updates) (sym update_is))
    ∙ ap (λ (vs : List (Option Value)). taken_back (update ∷ drop (suc at) updates) vs keys) (drop_one before at value (omega (arith, lt, same)) ∙ ap (λ (v : Option Value). v ∷ drop (suc at) before) (sym value_is))

-- one more update is taken back
pub back_more : (updates : List Update) (before : List (Option Value)) (keys : KeyMap) (btree : Btree) (node taken : Node) (count at done : ℕ) (update : Update) (value : Option Value) → IsKeyMap keys → count ≡ length updates → done < count → at ≡ count - 1 - done
    → length before ≡ length updates → update ≡ slice_index_or updates at update → value ≡ slice_index_or before at value → IsPartOf (taken_back (drop (count - done) updates) (drop (count - done) before) keys) btree node
    → ((k : KeyMap) → IsKeyMap k → IsPartOf k btree node → IsPartOf (with_update (giving value update) k) btree taken) → IsPartOf (taken_back (drop (count - (done + 1)) updates) (drop (count - (done + 1)) before) keys) btree taken
back_more updates before keys btree node taken count at done update value is count_is lt at_is same update_is value_is part one =
    let here : suc at ≡ count - done = omega (arith, lt, at_is) in
    let next : at ≡ count - (done + 1) = omega (arith, lt, at_is) in
    let so_far : IsPartOf (taken_back (drop (suc at) updates) (drop (suc at) before) keys) btree node = subst (λ n. IsPartOf (taken_back (drop n updates) (drop n before) keys) btree node) (sym here) part in
    let taken_one = one (taken_back (drop (suc at) updates) (drop (suc at) before) keys) (IsKeyMap-taken_back (drop (suc at) updates) (drop (suc at) before) keys is) so_far in
    subst (λ n. IsPartOf (taken_back (drop n updates) (drop n before) keys) btree taken) next
    (subst (λ (k : KeyMap). IsPartOf k btree taken) (sym (taken_back-one updates before keys at update value (omega (arith, lt, at_is, count_is)) same update_is value_is)) taken_one)

-- a value put where an update lies takes it back, if there was memory
pub within_ok : {E : Type 0} (result : Result Node E) (keys : KeyMap) (btree : Btree) (update : Update) (value copied : Option Value) (node : Node) → IsPartOf keys btree node → IsKeyMap keys → is_update_of btree update ≡ true → is_within node.least node.greatest update.pos ≡ true
    → copied ≡ value → IfOk result (λ put. put ≡ with_entries node (put_at pos_cmp update.pos copied node.entries)) → IfOk result (IsPartOf (with_update (giving value update) keys) btree)
within_ok (Ok put) keys btree update value copied node part is of within same put_is = within_back keys btree update value node part put is of within (put_is ∙ ap (λ (v : Option Value). with_entries node (put_at pos_cmp update.pos v node.entries)) same)
within_ok (Err error) keys btree update value copied node part is of within same put_is = tt
