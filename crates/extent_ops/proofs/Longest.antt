-- The longest of some values, one after the other, and that no extent or hole is longer after updates that put them.
use Rattle.std.proofs.Common.{◌≡◌, ℕ, ◌+◌, ◌<◌, ◌≤◌, Bool, true, false, cond, Option, Some, None, List, [], ◌∷◌, ◌++◌, map, max, refl, sym, ap, ◌∙◌, get_or, inl, length, subst, take, arith}
use Rattle.std.specs.Prelude.{All, IfSome}
use Rattle.std.proofs.lemmas.List.{map_more, take_all}
use Rattle.std.proofs.lemmas.List.Elements.{All-head, All-nil, All-push, All-tail, All-weaker}
use Rattle.vol_types.specs.KeyMapLaws.{entries_of-with_update}
use Rattle.vol_types.specs.KeyMaps.{KeyMap, is_update_of, with_update, with_updates}
use Rattle.vol_types.specs.Maps.{put_at}
use Rattle.vol_types.specs.Positions.{pos_cmp}
use Rattle.vol_types.specs.declared.keys.Update.{Update}
use Rattle.vol_types.specs.declared.positions.Btree.TheVariants.{Extents}
use Rattle.vol_types.specs.declared.positions.Pos.{Pos}
use Rattle.vol_types.specs.declared.values.Value.{Value}
use Rattle.key_meaning.specs.Blocks.{blocks_of}
use Rattle.extent_ops.specs.Above.{blocks_maybe}
use Rattle.extent_ops.specs.Looking.{AreExtentsUpTo, IsLongest, IsUpTo}
use Rattle.extent_ops.proofs.Fitting.{all-of}
use Rattle.extent_ops.proofs.Fresh.{all-member}
use Rattle.extent_ops.proofs.Keeping.{all_put}
use Rattle.extent_ops.proofs.Members.{has-first, has-second}

-- Of no values it is the number from which it began.
pub longest_none : (so_far : ℕ) → IsLongest so_far [] so_far
longest_none so_far = record { before = omega arith; each = All-nil (IsUpTo so_far); least = λ other le all. le }

-- With one value more it is the greater of what it was and of its blocks.
pub longest_more : (so_far longest : ℕ) (values : List (Option Value)) (value : Option Value) → IsLongest so_far values longest → IsLongest so_far (values ++ value ∷ []) (max longest (blocks_maybe value))
longest_more so_far longest values value was = record {
  before = let le = was.before in omega (arith, le);
  each = All-push (IsUpTo (max longest (blocks_maybe value))) values value
      (All-weaker (IsUpTo longest) (IsUpTo (max longest (blocks_maybe value))) (λ v le. omega (arith, le)) values was.each)
      (omega arith);
  least = λ other le all.
      let first = was.least other le (all-of (IsUpTo other) values (λ v has. all-member (IsUpTo other) v (values ++ value ∷ []) all (has-first v values (value ∷ []) has))) in
      let last = all-member (IsUpTo other) value (values ++ value ∷ []) all (has-second value values (value ∷ []) (inl refl)) in
      omega (arith, first, last);
}

-- what an update puts
abbrev pub value_of : Update → Option Value
value_of update = update.value

-- With one update more it is the greater of what it was and of the blocks that this one puts.
pub next_value : (so_far longest new : ℕ) (updates : List Update) (update : Update) (index : ℕ) → index < length updates → update ≡ get_or updates index update → new ≡ max longest (blocks_maybe update.value)
    → IsLongest so_far (map value_of (take index updates)) longest → IsLongest so_far (map value_of (take (index + 1) updates)) new
next_value so_far longest new updates update index lt at is was =
    let more : map value_of (take (index + 1) updates) ≡ map value_of (take index updates) ++ update.value ∷ [] = map_more value_of updates index update lt ∙ ap (λ (u : Update). map value_of (take index updates) ++ u.value ∷ []) (sym at) in
    subst (λ (values : List (Option Value)). IsLongest so_far values new) (sym more)
    (subst (IsLongest so_far (map value_of (take index updates) ++ update.value ∷ [])) (sym is) (longest_more so_far longest (map value_of (take index updates)) update.value was))

-- Of the first updates, as many as there are, it is that of all.
pub all_values : (so_far longest : ℕ) (updates : List Update) (index : ℕ) → length updates ≤ index → IsLongest so_far (map value_of (take index updates)) longest → IsLongest so_far (map value_of updates) longest
all_values so_far longest updates index past is = subst (λ (us : List Update). IsLongest so_far (map value_of us) longest) (take_all index updates past) is

-- No extent or hole is longer after an update that puts none which is,
up_to_update : (longest : ℕ) (update : Update) (keys : KeyMap) → IsUpTo longest update.value → AreExtentsUpTo longest keys → AreExtentsUpTo longest (with_update update keys)
up_to_update longest update keys put up_to = record { each = subst (All P) (sym (entries_of-with_update update keys Extents)) (by (is_update_of Extents update)) }
  where
    P : Pos × Value → Type 0
    P entry = blocks_of entry.1 ≤ longest

    some : (value : Option Value) → IsUpTo longest value → IfSome value (λ v. P (update.pos, v))
    some None le = tt
    some (Some value) le = le

    by : (b : Bool) → All P (cond b (put_at pos_cmp update.pos update.value keys.extents) keys.extents)
    by true = all_put P update.pos update.value keys.extents (some update.value put) up_to.each
    by false = up_to.each

-- and after updates that put none.
up_to_updates : (longest : ℕ) (updates : List Update) (keys : KeyMap) → All (IsUpTo longest) (map value_of updates) → AreExtentsUpTo longest keys → AreExtentsUpTo longest (with_updates updates keys)
up_to_updates longest [] keys put up_to = up_to
up_to_updates longest (update ∷ updates) keys put up_to =
    up_to_updates longest updates (with_update update keys) (All-tail (IsUpTo longest) update.value (map value_of updates) put)
    (up_to_update longest update keys (All-head (IsUpTo longest) update.value (map value_of updates) put) up_to)

-- So it is with the longest of what they put.
pub up_to_after : (so_far longest : ℕ) (updates : List Update) (keys : KeyMap) → IsLongest so_far (map value_of updates) longest → AreExtentsUpTo so_far keys → AreExtentsUpTo longest (with_updates updates keys)
up_to_after so_far longest updates keys is up_to = up_to_updates longest updates keys is.each
    (record { each = All-weaker (λ (entry : Pos × Value). blocks_of entry.1 ≤ so_far) (λ (entry : Pos × Value). blocks_of entry.1 ≤ longest) (λ entry le. let more = is.before in omega (arith, le, more)) keys.extents up_to.each })
