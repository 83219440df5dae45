-- How images are made of files, one after the other.
use Rattle.std.proofs.Common.{◌≡◌, ℕ, zero, suc, ◌<◌, ◌≤◌, List, [], ◌∷◌, ◌++◌, length, map, take, drop, get_or, refl, ap, ◌∙◌, sym, subst, arith, false, Option, None, Some, slice_get, All}
use Rattle.std.proofs.lemmas.List.{length-append, length-map, map-append}
use Rattle.std.proofs.lemmas.List.Elements.{All-head, All-tail, All-push, All-nil}
use Rattle.file_devices.specs.Files.{FileState, Story}
use Rattle.file_devices.specs.Opening.{IsInUse, IsOpening}

-- The first file that is left is one of the files,
left_within : {F : Type 0} (files : List F) (n : ℕ) (file : F) (more : List F) → drop n files ≡ file ∷ more → n < length files
left_within [] zero file more is = absurd (omega (arith, ap (λ (l : List _). length l) is))
left_within [] (suc n) file more is = absurd (omega (arith, ap (λ (l : List _). length l) is))
left_within (x ∷ files) zero file more is = omega arith
left_within (x ∷ files) (suc n) file more is = omega (arith, left_within files n file more is)

head_is : {F : Type 0} (x : F) (xs : List F) (y : F) (ys : List F) → x ∷ xs ≡ y ∷ ys → (x ≡ y) × (xs ≡ ys)
head_is x xs y ys is = (ap (λ l. get_or l 0 x) is, ap (λ l. drop 1 l) is)

-- the others come behind it,
left_behind : {F : Type 0} (files : List F) (n : ℕ) (file : F) (more : List F) → drop n files ≡ file ∷ more → drop (suc n) files ≡ more
left_behind [] zero file more is = absurd (omega (arith, ap (λ (l : List _). length l) is))
left_behind [] (suc n) file more is = absurd (omega (arith, ap (λ (l : List _). length l) is))
left_behind (x ∷ files) zero file more is = (head_is x files file more is).1
left_behind (x ∷ files) (suc n) file more is = left_behind files n file more is

-- and it stands behind those that were taken.
left_before : {F : Type 0} (files : List F) (n : ℕ) (file : F) (more : List F) → drop n files ≡ file ∷ more → take (suc n) files ≡ take n files ++ file ∷ []
left_before [] zero file more is = absurd (omega (arith, ap (λ (l : List _). length l) is))
left_before [] (suc n) file more is = absurd (omega (arith, ap (λ (l : List _). length l) is))
left_before (x ∷ files) zero file more is = ap (λ y. y ∷ []) (head_is x files file more is).0
left_before (x ∷ files) (suc n) file more is = ap (λ l. x ∷ l) (left_before files n file more is)

all_left : {F : Type 0} (P : F → Type 0) (files : List F) (n : ℕ) (file : F) (more : List F) → drop n files ≡ file ∷ more → All P files → P file
all_left P [] zero file more is all = absurd (omega (arith, ap (λ (l : List _). length l) is))
all_left P [] (suc n) file more is all = absurd (omega (arith, ap (λ (l : List _). length l) is))
all_left P (x ∷ files) zero file more is all = subst P (head_is x files file more is).0 (All-head P x files all)
all_left P (x ∷ files) (suc n) file more is all = all_left P files n file more is (All-tail P x files all)

get_left : {F : Type 0} (state : F → FileState) (files : List F) (n : ℕ) (file : F) (more : List F) → drop n files ≡ file ∷ more → slice_get (map state files) n ≡ Some (state file)
get_left state [] zero file more is = absurd (omega (arith, ap (λ (l : List _). length l) is))
get_left state [] (suc n) file more is = absurd (omega (arith, ap (λ (l : List _). length l) is))
get_left state (x ∷ files) zero file more is = ap (λ y. Some (state y)) (head_is x files file more is).0
get_left state (x ∷ files) (suc n) file more is = get_left state files n file more is

take_whole : {F : Type 0} (files : List F) (n : ℕ) → drop n files ≡ [] → take n files ≡ files
take_whole [] zero is = refl
take_whole [] (suc n) is = refl
take_whole (x ∷ files) zero is = absurd (omega (arith, ap (λ (l : List _). length l) is))
take_whole (x ∷ files) (suc n) is = ap (λ l. x ∷ l) (take_whole files n is)

module _ {I F : Type 0} (tells : Type 0) (story : F → Story) (image_story : I → Story) (last : I → ℕ) (files : List F) where
  -- before the first
  pub opening_none : IsOpening tells story image_story last files [] files
  opening_none = record { rest = refl; within = omega arith; last = All-nil (λ image. last image ≡ 0); held = λ told. refl }

  -- one more
  pub opening_more : (images : List I) (left : List F) (file : F) (more : List F) (image : I) → IsOpening tells story image_story last files images left → left ≡ file ∷ more → last image ≡ 0 → (tells → image_story image ≡ story file) → IsOpening tells story image_story last files (images ++ image ∷ []) more
  opening_more images left file more image so_far is begins holds =
      let here : drop (length images) files ≡ file ∷ more = sym so_far.rest ∙ is in
      let many : length (images ++ image ∷ []) ≡ suc (length images) = omega (arith, length-append images (image ∷ [])) in
      record {
        rest = sym (left_behind files (length images) file more here) ∙ ap (λ n. drop n files) (sym many);
        within = omega (arith, many, left_within files (length images) file more here);
        last = All-push (λ one. last one ≡ 0) images image so_far.last begins;
        held = λ told.
            map-append image_story images (image ∷ [])
            ∙ (λ i. so_far.held told i ++ holds told i ∷ [])
            ∙ sym (map-append story (take (length images) files) (file ∷ []))
            ∙ ap (λ l. map story l) (sym (left_before files (length images) file more here))
            ∙ ap (λ n. map story (take n files)) (sym many);
      }

  -- The next file is one of them, and so as all of them are.
  pub opening_next : (P : F → Type 0) (images : List I) (left : List F) (file : F) (more : List F) → IsOpening tells story image_story last files images left → left ≡ file ∷ more → All P files → P file
  opening_next P images left file more so_far is all = all_left P files (length images) file more (sym so_far.rest ∙ is) all

  -- All of them.
  pub opening_count : (images : List I) → IsOpening tells story image_story last files images [] → length images ≡ length files
  opening_count images so_far = omega (arith, so_far.within, ap (λ (l : List F). length l) (take_whole files (length images) (sym so_far.rest)), length_taken files (length images))
    where
      length_taken : {F : Type 0} (files : List F) (n : ℕ) → length (take n files) ≤ n
      length_taken [] zero = omega arith
      length_taken [] (suc n) = omega arith
      length_taken (x ∷ files) zero = omega arith
      length_taken (x ∷ files) (suc n) = omega (arith, length_taken files n)

  pub opening_held : (images : List I) → IsOpening tells story image_story last files images [] → tells → map image_story images ≡ map story files
  opening_held images so_far told = so_far.held told ∙ ap (λ l. map story l) (take_whole files (length images) (sym so_far.rest))

  -- Where the lock of the next one can't be had, it is in use.
  pub opening_stops : (state : F → FileState) (images : List I) (left : List F) (file : F) (more : List F) → IsOpening tells story image_story last files images left → left ≡ file ∷ more → (tells → (state file).free ≡ false) → IsInUse tells (map state files) (length images)
  opening_stops state images left file more so_far is taken =
      let here : drop (length images) files ≡ file ∷ more = sym so_far.rest ∙ is in
      record {
        within = omega (arith, left_within files (length images) file more here, length-map files state);
        taken = λ told one there. subst (λ (o : FileState). o.free ≡ false) (the_same (state file) one (sym (get_left state files (length images) file more here) ∙ there)) (taken told);
      }
    where
      or_else : FileState → Option FileState → FileState
      or_else d None = d
      or_else d (Some one) = one

      the_same : (one other : FileState) → Some one ≡ Some other → one ≡ other
      the_same one other is = ap (or_else one) is

first_of : {A : Type 0} (story : A → Story) (xs : List A) → map (λ (s : Story). s 0) (map story xs) ≡ map (λ x. story x 0) xs
first_of story [] = refl
first_of story (x ∷ xs) = ap (λ l. story x 0 ∷ l) (first_of story xs)

-- What the images hold at first is what the files held.
pub held_first : {I F : Type 0} (story : F → Story) (image_story : I → Story) (images : List I) (files : List F) → map image_story images ≡ map story files → map (λ image. image_story image 0) images ≡ map (λ file. story file 0) files
held_first story image_story images files held = sym (first_of image_story images) ∙ ap (λ l. map (λ (s : Story). s 0) l) held ∙ first_of story files
