-- What a caller says of btrees and a position holds of the fields and of the position as it is seen, what is kept is so, and
-- what is read at a place of a list is there.
use Rattle.std.proofs.Common.{◌≡◌, ℕ, ◌<◌, List, length, refl, sym, ◌∙◌, subst}
use Rattle.std.specs.Prelude.{Err, Ok, OnErr, OnOk, Result, slice_index_or}
use Rattle.std.proofs.lemmas.Option.{same_Some, slice_get-get_or}
use Rattle.btree_map.specs.Trees.{Trees}
use Rattle.vol_types.specs.declared.positions.Pos.{Pos}

-- what holds of btrees and a position holds of equal ones
pub carried : (P : Trees → Pos → Type 0) (trees old : Trees) (p at : Pos) → old ≡ trees → at ≡ p → P trees p → P old at
carried P trees old p at view same is = subst (λ (t : Trees). P t at) (sym view) (subst (P trees) (sym same) is)

-- what is kept is so in both cases
pub kept_ok : {X T E : Type 0} (result : Result T E) (x : X) → OnOk result (x ≡ x)
kept_ok (Ok value) x = refl
kept_ok (Err error) x = tt

pub kept_err : {X T E : Type 0} (result : Result T E) (x : X) → OnErr result (x ≡ x)
kept_err (Ok value) x = tt
kept_err (Err error) x = refl

-- what is read at a place is what stands there
pub read_at : {X : Type 0} (xs : List X) (i : ℕ) (x other : X) → i < length xs → x ≡ slice_index_or xs i x → x ≡ slice_index_or xs i other
read_at xs i x other lt is = is ∙ same_Some (slice_index_or xs i x) (slice_index_or xs i other) (sym (slice_get-get_or xs i x lt) ∙ slice_get-get_or xs i other lt)
