-- Of two images that differ somewhere, and a degraded one of the second: the first one, degraded where it agrees with the second.
use Rattle.std.proofs.Common.{◌≡◌, ◌⊎◌, inl, inr, ⊎_elim, ℕ, zero, suc, Bool, true, false, cond, List, [], ◌∷◌, length, map, drop, get_or, slice_get, Some, None, refl, sym, ap, subst, ◌∙◌, arith}
use Rattle.std.proofs.lemmas.Bool.{false≢true}
use Rattle.std.proofs.lemmas.List.{length-map}
use Rattle.std.proofs.lemmas.Option.{same_Some, slice_get-map}
use Rattle.std.proofs.lemmas.Slice.Eq.{bytes_eq-Decides}
use Rattle.std.specs.Prelude.{option_and_then, option_map}
use Rattle.std.specs.Str.{bytes_eq}
use Rattle.dev_model.specs.Disk.{Image, block_at}
use Rattle.image_view.specs.Bases.{AgreeAt}
use Rattle.sealed_block.specs.Opening.{opened}
use Rattle.vol_types.specs.declared.layout.Layout.{Layout}
use Rattle.mirror_laws.specs.Degraded.{IsDegradedTo, IsLostAt, IsOfMetadata}

-- ---- three lists member by member

-- what a function makes of the members of three lists
abbrev three : {A : Type 0} → (A → A → A → A) → List A → List A → List A → List A
three g [] ys zs = []
three g (x ∷ xs) [] zs = []
three g (x ∷ xs) (y ∷ ys) [] = []
three g (x ∷ xs) (y ∷ ys) (z ∷ zs) = g x y z ∷ three g xs ys zs

-- All three have a member here.
record HaveOne {A : Type 0} (g : A → A → A → A) (xs ys zs : List A) (n : ℕ) : Type 0 where
  x : A
  y : A
  z : A
  at_x : slice_get xs n ≡ Some x
  at_y : slice_get ys n ≡ Some y
  at_z : slice_get zs n ≡ Some z
  at : slice_get (three g xs ys zs) n ≡ Some (g x y z)

-- None has one here.
record HaveNone {A : Type 0} (g : A → A → A → A) (xs ys zs : List A) (n : ℕ) : Type 0 where
  at_x : slice_get xs n ≡ None
  at_y : slice_get ys n ≡ None
  at_z : slice_get zs n ≡ None
  at : slice_get (three g xs ys zs) n ≡ None

three_at : {A : Type 0} (g : A → A → A → A) (xs ys zs : List A) → length xs ≡ length ys → length ys ≡ length zs → (n : ℕ) → HaveOne g xs ys zs n ⊎ HaveNone g xs ys zs n
three_at g [] [] [] one two n = inr (record { at_x = refl; at_y = refl; at_z = refl; at = refl })
three_at g [] [] (z ∷ zs) one two n = absurd (omega (arith, two))
three_at g [] (y ∷ ys) zs one two n = absurd (omega (arith, one))
three_at g (x ∷ xs) [] zs one two n = absurd (omega (arith, one))
three_at g (x ∷ xs) (y ∷ ys) [] one two n = absurd (omega (arith, two))
three_at g (x ∷ xs) (y ∷ ys) (z ∷ zs) one two zero = inl (record { x = x; y = y; z = z; at_x = refl; at_y = refl; at_z = refl; at = refl })
three_at g (x ∷ xs) (y ∷ ys) (z ∷ zs) one two (suc n) = ⊎_elim
    (λ (there : HaveOne g xs ys zs n). inl (record { x = there.x; y = there.y; z = there.z; at_x = there.at_x; at_y = there.at_y; at_z = there.at_z; at = there.at }))
    (λ (none : HaveNone g xs ys zs n). inr (record { at_x = none.at_x; at_y = none.at_y; at_z = none.at_z; at = none.at }))
    (three_at g xs ys zs (omega (arith, one)) (omega (arith, two)) n)

three_long : {A : Type 0} (g : A → A → A → A) (xs ys zs : List A) → length xs ≡ length ys → length ys ≡ length zs → length (three g xs ys zs) ≡ length xs
three_long g [] ys zs one two = refl
three_long g (x ∷ xs) [] zs one two = absurd (omega (arith, one))
three_long g (x ∷ xs) (y ∷ ys) [] one two = absurd (omega (arith, two))
three_long g (x ∷ xs) (y ∷ ys) (z ∷ zs) one two = ap suc (three_long g xs ys zs (omega (arith, one)) (omega (arith, two)))

-- ---- blocks, devices and images

-- the third block where the first two are the same, and else the first one
abbrev merged_block : List ℕ → List ℕ → List ℕ → List ℕ
merged_block one other third = cond (bytes_eq one other) third one

abbrev merged_device : List (List ℕ) → List (List ℕ) → List (List ℕ) → List (List ℕ)
merged_device one other third = three merged_block one other third

abbrev pub merged : Image → Image → Image → Image
merged one other third = three merged_device one other third

-- the sizes of an image's devices
abbrev sizes : Image → List ℕ
sizes image = map (λ blocks. length blocks) image

as_many : (one other : Image) → sizes one ≡ sizes other → length one ≡ length other
as_many one other same = sym (length-map {B = ℕ} one (λ blocks. length blocks)) ∙ ap (λ (ns : List ℕ). length ns) same ∙ length-map {B = ℕ} other (λ blocks. length blocks)

as_long : (one other : Image) → sizes one ≡ sizes other → (dev : ℕ) (x y : List (List ℕ)) → slice_get one dev ≡ Some x → slice_get other dev ≡ Some y → length x ≡ length y
as_long one other same dev x y at_x at_y = same_Some (length x) (length y)
    (ap (option_map (λ (blocks : List (List ℕ)). length blocks)) (sym at_x) ∙ sym (slice_get-map {B = ℕ} (λ blocks. length blocks) one dev)
    ∙ ap (λ (ns : List ℕ). slice_get ns dev) same
    ∙ slice_get-map {B = ℕ} (λ blocks. length blocks) other dev ∙ ap (option_map (λ (blocks : List (List ℕ)). length blocks)) at_y)

-- A merged image has the same sizes,
pub merged_sizes : (one other third : Image) → sizes one ≡ sizes other → sizes other ≡ sizes third → sizes one ≡ sizes (merged one other third)
merged_sizes [] other third first second = refl
merged_sizes (x ∷ one) [] third first second = absurd (let many = as_many (x ∷ one) [] first in omega (arith, many))
merged_sizes (x ∷ one) (y ∷ other) [] first second = absurd (let many = as_many (y ∷ other) [] second in omega (arith, many))
merged_sizes (x ∷ one) (y ∷ other) (z ∷ third) first second =
    let here : length x ≡ length (merged_device x y z) = sym (three_long merged_block x y z (ap (λ ns. get_or ns 0 0) first) (ap (λ ns. get_or ns 0 0) second)) in
    let rest : sizes one ≡ sizes (merged one other third) = merged_sizes one other third (ap (drop 1) first) (ap (drop 1) second) in
    λ i. here i ∷ rest i

block_by : (test : Bool) (x y z : List ℕ) → bytes_eq x y ≡ test → ((cond (bytes_eq x y) z x ≡ z) × (x ≡ y)) ⊎ ((cond (bytes_eq x y) z x ≡ x) × (x ≡ y → ⊥))
block_by true x y z is = inl (ap (λ b. cond b z x) is, (bytes_eq-Decides x y).0 is)
block_by false x y z is = inr (ap (λ b. cond b z x) is, λ same. false≢true (sym is ∙ (bytes_eq-Decides x y).1 same))

-- The place holds what the third image does, and the first two agree there; or it holds what the first one does, and they differ.
abbrev pub IsMergedAt : Image → Image → Image → ℕ → ℕ → Type 0
IsMergedAt one other third dev block =
    ((block_at (merged one other third) dev block ≡ block_at third dev block) × AgreeAt one other dev block)
    ⊎ ((block_at (merged one other third) dev block ≡ block_at one dev block) × ¬ AgreeAt one other dev block)

-- and so it is at each place.
pub merged_at : (one other third : Image) → sizes one ≡ sizes other → sizes other ≡ sizes third → (dev block : ℕ) → IsMergedAt one other third dev block
merged_at one other third first second dev block = ⊎_elim
    (λ (here : HaveOne merged_device one other third dev).
    let held : (image : Image) (blocks : List (List ℕ)) → slice_get image dev ≡ Some blocks → block_at image dev block ≡ slice_get blocks block = λ image blocks at. ap (option_and_then (λ (bs : List (List ℕ)). slice_get bs block)) at in
    let at_one = held one here.x here.at_x in
    let at_other = held other here.y here.at_y in
    let at_third = held third here.z here.at_z in
    let at_merged = held (merged one other third) (merged_device here.x here.y here.z) here.at in
    ⊎_elim
    (λ (there : HaveOne merged_block here.x here.y here.z block). ⊎_elim
    (λ (same : (merged_block there.x there.y there.z ≡ there.z) × (there.x ≡ there.y)).
    inl (at_merged ∙ there.at ∙ ap Some same.0 ∙ sym there.at_z ∙ sym at_third, at_one ∙ there.at_x ∙ ap Some same.1 ∙ sym there.at_y ∙ sym at_other))
    (λ (differ : (merged_block there.x there.y there.z ≡ there.x) × (there.x ≡ there.y → ⊥)). inr (
      at_merged ∙ there.at ∙ ap Some differ.0 ∙ sym there.at_x ∙ sym at_one,
      λ agree. differ.1 (same_Some there.x there.y (sym there.at_x ∙ sym at_one ∙ agree ∙ at_other ∙ there.at_y)),
    ))
    (block_by (bytes_eq there.x there.y) there.x there.y there.z refl))
    (λ (none : HaveNone merged_block here.x here.y here.z block). inl (at_merged ∙ none.at ∙ sym none.at_z ∙ sym at_third, at_one ∙ none.at_x ∙ sym none.at_y ∙ sym at_other))
    (three_at merged_block here.x here.y here.z (as_long one other first dev here.x here.y here.at_x here.at_y) (as_long other third second dev here.y here.z here.at_y here.at_z) block))
    (λ (none : HaveNone merged_device one other third dev).
    let nothing : (image : Image) → slice_get image dev ≡ None → block_at image dev block ≡ None = λ image at. ap (option_and_then (λ (bs : List (List ℕ)). slice_get bs block)) at in
    inl (nothing (merged one other third) none.at ∙ sym (nothing third none.at_z), nothing one none.at_x ∙ sym (nothing other none.at_y)))
    (three_at merged_device one other third (as_many one other first) (as_many other third second) dev)

-- ---- degraded images

module _ (layout : Layout) (mirror : ℕ) (image other alone : Image) (as_sized : sizes image ≡ sizes other) (degraded : IsDegradedTo layout mirror other alone) where
  -- Where the images agree, the merged one is the degraded one.
  pub merged_same : (dev block : ℕ) → AgreeAt image other dev block → AgreeAt (merged image other alone) alone dev block
  merged_same dev block agree = ⊎_elim
      (λ (same : (block_at (merged image other alone) dev block ≡ block_at alone dev block) × AgreeAt image other dev block). same.0)
      (λ (differ : (block_at (merged image other alone) dev block ≡ block_at image dev block) × ¬ AgreeAt image other dev block). absurd (differ.1 agree))
      (merged_at image other alone as_sized degraded.lengths dev block)

  -- It is the first one degraded.
  pub merged_degraded : IsDegradedTo layout mirror image (merged image other alone)
  merged_degraded = record {
    lengths = merged_sizes image other alone as_sized degraded.lengths;
    each = λ dev block. ⊎_elim
        (λ (same : (block_at (merged image other alone) dev block ≡ block_at alone dev block) × AgreeAt image other dev block). ⊎_elim
        (λ (kept : AgreeAt other alone dev block). inl (same.1 ∙ kept ∙ sym same.0))
        (λ (lost : IsLostAt layout mirror other alone dev block). inr (record {
          on_mirror = lost.on_mirror;
          another = lost.another;
          behind = lost.behind;
          shown = subst IsOfMetadata (sym same.1) lost.shown;
          lost = ap (option_and_then opened) same.0 ∙ lost.lost;
        }))
        (degraded.each dev block))
        (λ (differ : (block_at (merged image other alone) dev block ≡ block_at image dev block) × ¬ AgreeAt image other dev block). inl (sym differ.0))
        (merged_at image other alone as_sized degraded.lengths dev block);
  }
