-- Updates of a btree's leaves that are chosen one by one, and sizes that are listed one by one.
use Rattle.std.proofs.Common.{◌≡◌, ℕ, ◌+◌, ◌<◌, Bool, true, false, cond, List, [], ◌∷◌, ◌++◌, drop, get_or, length, map, sym, ap, ◌∙◌, append_assoc}
use Rattle.std.specs.List.{filter, flat_map}
use Rattle.std.proofs.lemmas.List.{drop_more}
use Rattle.btree_map.specs.Sizes.{change_of, changes_in}
use Rattle.vol_types.specs.KeyMaps.{is_update_of}
use Rattle.vol_types.specs.declared.keys.Key.{Key}
use Rattle.vol_types.specs.declared.keys.Update.{Update}
use Rattle.vol_types.specs.declared.positions.Btree.{Btree}

-- The changes so far and those of the updates that are left are those of all.
abbrev pub IsChoosing : Btree → List Update → ℕ → List Key → Type 0
IsChoosing btree updates place changes = changes ++ changes_in btree (drop place updates) ≡ changes_in btree updates

module _ (btree : Btree) (updates : List Update) (place : ℕ) (update : Update) (lt : place < length updates) (is : get_or updates place update ≡ update) (changes : List Key) (choosing : IsChoosing btree updates place changes) where
  next : drop place updates ≡ update ∷ drop (place + 1) updates
  next = drop_more updates place update lt ∙ ap (λ (u : Update). u ∷ drop (place + 1) updates) is

  left : (b : Bool) → is_update_of btree update ≡ b → changes_in btree (drop place updates) ≡ map change_of (cond b (update ∷ filter (is_update_of btree) (drop (place + 1) updates)) (filter (is_update_of btree) (drop (place + 1) updates)))
  left b test = ap (changes_in btree) next ∙ ap (λ (t : Bool). map change_of (cond t (update ∷ filter (is_update_of btree) (drop (place + 1) updates)) (filter (is_update_of btree) (drop (place + 1) updates)))) test

  -- one that is of the btree
  pub choosing_more : is_update_of btree update ≡ true → (new : List Key) → new ≡ changes ++ change_of update ∷ [] → IsChoosing btree updates (place + 1) new
  choosing_more test new push =
      ap (λ (ks : List Key). ks ++ changes_in btree (drop (place + 1) updates)) push ∙ append_assoc changes (change_of update ∷ []) (changes_in btree (drop (place + 1) updates))
      ∙ ap (λ (ks : List Key). changes ++ ks) (sym (left true test)) ∙ choosing

  -- and one that isn't
  pub choosing_passed : is_update_of btree update ≡ false → IsChoosing btree updates (place + 1) changes
  choosing_passed test = ap (λ (ks : List Key). changes ++ ks) (sym (left false test)) ∙ choosing

-- what was listed so far and what is left is all
pub listing_more : {X Y : Type 0} (f : X → List Y) (xs : List X) (place : ℕ) (x : X) (done new all : List Y) → place < length xs → done ++ flat_map f (drop place xs) ≡ all → new ≡ done ++ f (get_or xs place x) → new ++ flat_map f (drop (place + 1) xs) ≡ all
listing_more f xs place x done new all lt so_far push =
    ap (λ ys. ys ++ flat_map f (drop (place + 1) xs)) push ∙ append_assoc done (f (get_or xs place x)) (flat_map f (drop (place + 1) xs))
    ∙ ap (λ ys. done ++ flat_map f ys) (sym (drop_more xs place x lt)) ∙ so_far

pub mapping_more : {X Y : Type 0} (f : X → Y) (xs : List X) (place : ℕ) (x : X) (done new all : List Y) → place < length xs → done ++ map f (drop place xs) ≡ all → new ≡ done ++ f (get_or xs place x) ∷ [] → new ++ map f (drop (place + 1) xs) ≡ all
mapping_more f xs place x done new all lt so_far push =
    ap (λ ys. ys ++ map f (drop (place + 1) xs)) push ∙ append_assoc done (f (get_or xs place x) ∷ []) (map f (drop (place + 1) xs))
    ∙ ap (λ ys. done ++ map f ys) (sym (drop_more xs place x lt)) ∙ so_far
