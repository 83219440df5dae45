-- The copies that count, gathered device by device.
use Rattle.std.proofs.Common.{◌≡◌, ℕ, zero, suc, ◌+◌, ◌<◌, ◌≤◌, List, [], ◌∷◌, ◌++◌, length, map, drop, Option, Some, None, refl, ap, ◌∙◌, sym, arith, append_assoc}
use Rattle.std.proofs.lemmas.List.{drop_all, append-nil}
use Rattle.std.specs.Option.{option_map}
use Rattle.dev_model.specs.Disk.{Image, blocks_of}
use Rattle.geometry.specs.declared.copies.SuperCopy.{SuperCopy}
use Rattle.geometry.specs.Superblocks.{all_there, counting}

-- what is there in all, where these copies come before the rest
abbrev pub with_rest : List SuperCopy → List (Option SuperCopy) → Option (List SuperCopy)
with_rest copies rest = option_map (λ found. copies ++ found) (all_there rest)

-- The copy of a device stands at its place.
pub counting_at : (image : Image) (dev : ℕ) → dev < length image → drop dev (map counting image) ≡ counting (blocks_of image dev) ∷ drop (suc dev) (map counting image)
counting_at [] dev within = absurd (omega (arith, within))
counting_at (blocks ∷ image) zero within = refl
counting_at (blocks ∷ image) (suc dev) within = counting_at image dev (omega (arith, within))

-- Before the first there is none.
pub with_rest_none : (all : List (Option SuperCopy)) → with_rest [] all ≡ all_there all
with_rest_none all = none (all_there all)
  where
    none : (found : Option (List SuperCopy)) → option_map (λ rest. [] ++ rest) found ≡ found
    none None = refl
    none (Some found) = refl

one_more : (copies : List SuperCopy) (copy : SuperCopy) (found : Option (List SuperCopy)) → option_map (λ rest. copies ++ rest) (option_map (λ rest. copy ∷ rest) found) ≡ option_map (λ rest. (copies ++ copy ∷ []) ++ rest) found
one_more copies copy None = refl
one_more copies copy (Some found) = ap Some (sym (append_assoc copies (copy ∷ []) found))

module _ (image : Image) (dev : ℕ) (copies : List SuperCopy) (within : dev < length image) (so_far : with_rest copies (drop dev (map counting image)) ≡ all_there (map counting image)) where
  next_is : (copy : Option SuperCopy) → counting (blocks_of image dev) ≡ copy → drop dev (map counting image) ≡ copy ∷ drop (suc dev) (map counting image)
  next_is copy is = counting_at image dev within ∙ ap (λ c. c ∷ drop (suc dev) (map counting image)) is

  -- A copy is added to those so far.
  pub copy_more : (copy : SuperCopy) → counting (blocks_of image dev) ≡ Some copy → with_rest (copies ++ copy ∷ []) (drop (dev + 1) (map counting image)) ≡ all_there (map counting image)
  copy_more copy is =
      let next : dev + 1 ≡ suc dev = omega arith in
      ap (λ n. with_rest (copies ++ copy ∷ []) (drop n (map counting image))) next
      ∙ sym (one_more copies copy (all_there (drop (suc dev) (map counting image))))
      ∙ sym (ap (with_rest copies) (next_is (Some copy) is))
      ∙ so_far

  -- A device without a copy ends it.
  pub copy_missing : counting (blocks_of image dev) ≡ None → all_there (map counting image) ≡ None
  copy_missing is = sym so_far ∙ ap (with_rest copies) (next_is None is)

-- After the last device these are all.
pub copies_end : (image : Image) (dev : ℕ) (copies : List SuperCopy) → length (map counting image) ≤ dev → with_rest copies (drop dev (map counting image)) ≡ all_there (map counting image) → all_there (map counting image) ≡ Some copies
copies_end image dev copies all so_far = sym so_far ∙ ap (with_rest copies) (drop_all dev (map counting image) all) ∙ ap Some (append-nil copies)
