-- What an image's superblocks say, when they stay or were written; laws for whoever changes or makes volumes.
use Rattle.std.proofs.Common.{◌≡◌, ℕ, zero, suc, ◌+◌, ◌*◌, ◌/◌, ◌^◌, ◌<◌, ◌≤◌, Bool, true, false, not, ◌&&◌, ◌||◌, ◌==◌, cond, List, [], ◌∷◌, length, map, drop, get_or, slice_get, Option, Some, None, Result, Ok, Err, refl, ap, ◌∙◌, sym, subst, arith, length-append}
use Rattle.std.proofs.lemmas.Bool.{and_parts, eq-eqb, false≢true}
use Rattle.std.proofs.lemmas.Nat.{from_le_bytes-to_le_bytes_4}
use Rattle.std.proofs.lemmas.Slice.Eq.{bytes_eq-Decides}
use Rattle.std.proofs.lemmas.List.{length-map}
use Rattle.std.specs.Cmp.Derive.{both_true}
use Rattle.std.specs.Prelude.{find, option_and_then}
use Rattle.std.specs.Option.{option_map, unwrap_or}
use Rattle.std.specs.Result.{is_ok, result_unwrap_or}
use Rattle.std.specs.Int.{w32, to_le_bytes, from_le_bytes}
use Rattle.std.specs.List.{flat_map, list_all}
use Rattle.std.specs.Simd.{first_chunks}
use Rattle.std.specs.Str.{bytes_eq}
use Rattle.vol_types.specs.declared.layout.Layout.{Layout}
use Rattle.dev_model.specs.Disk.{Image, block_at, blocks_of}
use Rattle.geometry.specs.declared.copies.SuperCopy.{SuperCopy}
use Rattle.geometry.specs.declared.fault.SuperFault.{SuperFault}
use Rattle.geometry.specs.declared.fault.SuperFault.TheVariants.{NoSuper, Version, Mixed, BadLayout}
use Rattle.geometry.specs.Layouts.{is_layout_of}
use Rattle.geometry.specs.LayoutFacts.{has_places}
use Rattle.geometry.specs.Superblocks.{all_there, belong_from, belongs, copy_at, copy_in, counting, has_form, is_same_layout, judged, judged_if_there, later, layout_in, model_layout, named_layout, numbers_in, super_copy, super_payload}

-- Images of the same sizes whose devices have the same copies have the same copies in order.
same_copies : (one other : Image) → map (λ blocks. length blocks) one ≡ map (λ blocks. length blocks) other → ((dev : ℕ) → counting (blocks_of one dev) ≡ counting (blocks_of other dev)) → map counting one ≡ map counting other
same_copies [] [] sizes same = refl
same_copies [] (b ∷ other) sizes same = absurd (let h : 0 ≡ suc (length (map (λ (blocks : List (List ℕ)). length blocks) other)) = ap (λ (s : List ℕ). length s) sizes in omega (arith, h))
same_copies (a ∷ one) [] sizes same = absurd (let h : suc (length (map (λ (blocks : List (List ℕ)). length blocks) one)) ≡ 0 = ap (λ (s : List ℕ). length s) sizes in omega (arith, h))
same_copies (a ∷ one) (b ∷ other) sizes same =
    ap (λ copy. copy ∷ map counting one) (same 0) ∙ ap (λ copies. counting b ∷ copies) (same_copies one other (ap (λ s. drop 1 s) sizes) (λ dev. same (suc dev)))

-- While the sizes and the copies that count stay, so does the layout.
pub same_layout : (one other : Image) → map (λ blocks. length blocks) one ≡ map (λ blocks. length blocks) other → ((dev : ℕ) → counting (blocks_of one dev) ≡ counting (blocks_of other dev)) → layout_in one ≡ layout_in other
unfolding layout_in
same_layout one other sizes same = ap (λ s. judged_if_there s (all_there (map counting one))) sizes ∙ ap (λ copies. judged_if_there (map (λ blocks. length blocks) other) (all_there copies)) (same_copies one other sizes same)

-- A block of one device is the block at its place.
pub block_of : (image : Image) (dev block : ℕ) → slice_get (blocks_of image dev) block ≡ block_at image dev block
block_of [] dev block = refl
block_of (blocks ∷ image) zero block = refl
block_of (blocks ∷ image) (suc dev) block = block_of image dev block

-- While blocks 0 and 8 of a device stay, so does its copy that counts.
pub same_counting : (one other : Image) (dev : ℕ) → block_at one dev 0 ≡ block_at other dev 0 → block_at one dev 8 ≡ block_at other dev 8 → counting (blocks_of one dev) ≡ counting (blocks_of other dev)
same_counting one other dev first second =
    let same : (block : ℕ) → block_at one dev block ≡ block_at other dev block → copy_at block (blocks_of one dev) ≡ copy_at block (blocks_of other dev) =
    λ block at. ap (option_and_then (copy_in block)) (block_of one dev block ∙ at ∙ sym (block_of other dev block)) in
    ap (λ copy. later copy (copy_at 8 (blocks_of one dev))) (same 0 first) ∙ ap (λ copy. later (copy_at 0 (blocks_of other dev)) copy) (same 8 second)

none_after : (copy : Option SuperCopy) (copies : List (Option SuperCopy)) → all_there copies ≡ None → all_there (copy ∷ copies) ≡ None
none_after None copies none = refl
none_after (Some copy) copies none = ap (option_map (λ rest. copy ∷ rest)) none

none_there : (image : Image) (dev : ℕ) → dev < length image → counting (blocks_of image dev) ≡ None → all_there (map counting image) ≡ None
none_there [] dev within none = absurd (omega (arith, within))
none_there (blocks ∷ image) zero within none = ap (λ copy. all_there (copy ∷ map counting image)) none
none_there (blocks ∷ image) (suc dev) within none = none_after (counting blocks) (map counting image) (none_there image dev (omega (arith, within)) none)

-- A device without a copy leaves no layout.
pub no_super : (image : Image) (dev : ℕ) → dev < length image → counting (blocks_of image dev) ≡ None → layout_in image ≡ Err NoSuper
unfolding layout_in
no_super image dev within none = ap (judged_if_there (map (λ blocks. length blocks) image)) (none_there image dev within none)

err-ok : (e : SuperFault) (x : Layout) → ◌≡◌ {A = Result Layout SuperFault} (Err e) (Ok x) → ⊥
err-ok e x is = false≢true (ap is_ok is)

same_Ok : (x y : Layout) → ◌≡◌ {A = Result Layout SuperFault} (Ok x) (Ok y) → x ≡ y
same_Ok x y is = ap (λ r. result_unwrap_or r x) is

fits_last : (test : Bool) (layout found : Layout) → cond {A = Result Layout SuperFault} (not test) (Err BadLayout) (Ok found) ≡ Ok layout → (test ≡ true) × (found ≡ layout)
fits_last true layout found is = (refl, same_Ok found layout is)
fits_last false layout found is = absurd (err-ok BadLayout layout is)

unless : (test : Bool) (fault : SuperFault) (layout : Layout) (rest : Result Layout SuperFault) → cond (not test) (Err fault) rest ≡ Ok layout → (test ≡ true) × (rest ≡ Ok layout)
unless true fault layout rest is = (refl, is)
unless false fault layout rest is = absurd (err-ok fault layout is)

-- What copies say together fits the devices.
pub judged_fits : (sizes : List ℕ) (copies : List SuperCopy) (layout : Layout) → judged sizes copies ≡ Ok layout → is_layout_of sizes layout ≡ true
judged_fits sizes [] layout is = absurd (err-ok NoSuper layout is)
judged_fits sizes (first ∷ copies) layout is =
    let found : Layout = model_layout first copies in
    let version = unless _ Version layout _ is in
    let mixed = unless _ Mixed layout _ version.1 in
    let last = fits_last _ layout found mixed.1 in
    subst (λ l. is_layout_of sizes l ≡ true) last.1 (and_parts _ _ last.0).1

judged_there_fits : (sizes : List ℕ) (copies : Option (List SuperCopy)) (layout : Layout) → judged_if_there sizes copies ≡ Ok layout → is_layout_of sizes layout ≡ true
judged_there_fits sizes None layout is = absurd (err-ok NoSuper layout is)
judged_there_fits sizes (Some copies) layout is = judged_fits sizes copies layout is

-- The layout that an image holds fits its devices.
pub layout_fits : (image : Image) (layout : Layout) → layout_in image ≡ Ok layout → is_layout_of (map (λ blocks. length blocks) image) layout ≡ true
unfolding layout_in
layout_fits image layout is = judged_there_fits (map (λ blocks. length blocks) image) (all_there (map counting image)) layout is

-- Each number of blocks takes four bytes.
long_blocks : (blocks : List ℕ) → length (flat_map (to_le_bytes w32) blocks) ≡ 4 * length blocks
long_blocks [] = refl
long_blocks (n ∷ blocks) = omega (arith, length-append (to_le_bytes w32 n) (flat_map (to_le_bytes w32) blocks), long_blocks blocks)

chunks_of : (blocks : List ℕ) → first_chunks 4 (length blocks) (flat_map (to_le_bytes w32) blocks) ≡ map (to_le_bytes w32) blocks
chunks_of [] = refl
chunks_of (n ∷ blocks) = ap (λ rest. to_le_bytes w32 n ∷ rest) (chunks_of blocks)

numbers_back : (blocks : List ℕ) → ((i : ℕ) → i < length blocks → get_or blocks i 0 < 2 ^ 32) → map (from_le_bytes w32) (map (to_le_bytes w32) blocks) ≡ blocks
numbers_back [] fit = refl
numbers_back (n ∷ blocks) fit =
    ap (λ m. m ∷ map (from_le_bytes w32) (map (to_le_bytes w32) blocks)) (from_le_bytes-to_le_bytes_4 n (fit 0 (omega arith)))
    ∙ ap (λ rest. n ∷ rest) (numbers_back blocks (λ i within. fit (suc i) (omega (arith, within))))

numbers_of_blocks : (blocks : List ℕ) → ((i : ℕ) → i < length blocks → get_or blocks i 0 < 2 ^ 32) → numbers_in (flat_map (to_le_bytes w32) blocks) ≡ blocks
numbers_of_blocks blocks fit =
    let bytes = flat_map (to_le_bytes w32) blocks in
    let count : length bytes / 4 ≡ length blocks = omega (arith, long_blocks blocks) in
    ap (λ k. map (from_le_bytes w32) (first_chunks 4 k bytes)) count ∙ ap (map (from_le_bytes w32)) (chunks_of blocks) ∙ numbers_back blocks fit

-- The payload of a device's superblock has the form.
pub payload_has_form : (layout : Layout) (dev : ℕ) → has_form (super_payload layout dev) ≡ true
payload_has_form layout dev =
    eq-eqb (length (super_payload layout dev)) (8 + 4 * length layout.blocks) (omega (arith, long_blocks layout.blocks))

same_bytes : (bytes : List ℕ) → bytes_eq bytes bytes ≡ true
same_bytes bytes = (bytes_eq-Decides bytes bytes).1 refl

same_itself : (layout : Layout) → is_same_layout layout layout ≡ true
same_itself layout =
    both_true (both_true (both_true (both_true (same_bytes layout.id) (same_bytes layout.blocks)) (eq-eqb layout.journal layout.journal refl)) (eq-eqb layout.metadata_replicas layout.metadata_replicas refl)) (eq-eqb layout.data_replicas layout.data_replicas refl)

-- It is the copy of this layout for a device, in some block with some sequence.
record IsCopyOf (layout : Layout) (dev : ℕ) (copy : SuperCopy) : Type 0 where
  block : ℕ
  sequence : ℕ
  is : copy ≡ super_copy layout dev block sequence

-- They are the copies of this layout for the devices from this one on.
AreCopiesFrom : Layout → ℕ → List SuperCopy → Type 0
AreCopiesFrom layout dev [] = Unit {0}
AreCopiesFrom layout dev (copy ∷ copies) = IsCopyOf layout dev copy × AreCopiesFrom layout (suc dev) copies

versions_are_one : (layout : Layout) (dev : ℕ) (copies : List SuperCopy) → AreCopiesFrom layout dev copies → list_all (λ copy. copy.head.version == 1) copies ≡ true
unfolding AreCopiesFrom
versions_are_one layout dev [] are = refl
versions_are_one layout dev (copy ∷ copies) are = both_true (ap (λ (c : SuperCopy). c.head.version == 1) are.0.is) (versions_are_one layout (suc dev) copies are.1)

form_of : (layout : Layout) (dev : ℕ) (copy : SuperCopy) → IsCopyOf layout dev copy → has_form copy.payload ≡ true
form_of layout dev copy is = ap (λ (c : SuperCopy). has_form c.payload) is.is ∙ payload_has_form layout dev

forms_are_right : (layout : Layout) (dev : ℕ) (copies : List SuperCopy) → AreCopiesFrom layout dev copies → list_all (λ copy. has_form copy.payload) copies ≡ true
unfolding AreCopiesFrom
forms_are_right layout dev [] are = refl
forms_are_right layout dev (copy ∷ copies) are = both_true (form_of layout dev copy are.0) (forms_are_right layout (suc dev) copies are.1)

module _ (layout : Layout) (fits : (i : ℕ) → i < length layout.blocks → get_or layout.blocks i 0 < 2 ^ 32) (journal_fits : layout.journal < 2 ^ 32) where
  -- The copy of a layout names it.
  pub names_layout : (dev block sequence : ℕ) → named_layout (super_copy layout dev block sequence) ≡ layout
  unfolding named_layout
  names_layout dev block sequence =
      let blocks : numbers_in (flat_map (to_le_bytes w32) layout.blocks) ≡ layout.blocks = numbers_of_blocks layout.blocks fits in
      let journal : from_le_bytes w32 (to_le_bytes w32 layout.journal) ≡ layout.journal = from_le_bytes-to_le_bytes_4 layout.journal journal_fits in
      λ i. record { id = layout.id; blocks = blocks i; journal = journal i; metadata_replicas = layout.metadata_replicas; data_replicas = layout.data_replicas }

  copy_names_layout : (dev : ℕ) (copy : SuperCopy) → IsCopyOf layout dev copy → named_layout copy ≡ layout
  copy_names_layout dev copy is = ap named_layout is.is ∙ names_layout dev is.block is.sequence

  belongs_itself : (dev block sequence : ℕ) → belongs (length layout.blocks) layout dev (super_copy layout dev block sequence) ≡ true
  belongs_itself dev block sequence =
      let same : is_same_layout (named_layout (super_copy layout dev block sequence)) layout ≡ true = ap (λ l. is_same_layout l layout) (names_layout dev block sequence) ∙ same_itself layout in
      let says : (length layout.blocks == length layout.blocks && dev == dev && is_same_layout (named_layout (super_copy layout dev block sequence)) layout) ≡ true =
      both_true (both_true (eq-eqb (length layout.blocks) (length layout.blocks) refl) (eq-eqb dev dev refl)) same in
      both_true (both_true (same_bytes layout.id) (eq-eqb dev dev refl))
      (ap (λ b. not b || (length layout.blocks == length layout.blocks && dev == dev && is_same_layout (named_layout (super_copy layout dev block sequence)) layout)) (payload_has_form layout dev) ∙ says)

  belong_all : (dev : ℕ) (copies : List SuperCopy) → AreCopiesFrom layout dev copies → belong_from (length layout.blocks) layout dev copies ≡ true
  unfolding AreCopiesFrom
  belong_all dev [] are = refl
  belong_all dev (copy ∷ copies) are = both_true (ap (belongs (length layout.blocks) layout dev) are.0.is ∙ belongs_itself dev are.0.block are.0.sequence) (belong_all (suc dev) copies are.1)

  model_is : (first : SuperCopy) (copies : List SuperCopy) → IsCopyOf layout 0 first → model_layout first copies ≡ layout
  model_is first copies is =
      ap (λ b. named_layout (unwrap_or (cond {A = Option SuperCopy} b (Some first) (find (λ (c : SuperCopy). has_form c.payload) copies)) first)) (form_of layout 0 first is)
      ∙ copy_names_layout 0 first is

  -- The copies of a layout say this layout together.
  judged_copies : (sizes : List ℕ) (copies : List SuperCopy) → length sizes ≡ length layout.blocks → 1 ≤ length copies → AreCopiesFrom layout 0 copies → is_layout_of sizes layout ≡ true → judged sizes copies ≡ Ok layout
  unfolding AreCopiesFrom
  judged_copies sizes [] count some are fit = absurd (omega (arith, some))
  judged_copies sizes (first ∷ copies) count some are fit =
      let found : Layout = model_layout first copies in
      let form : Bool = list_all (λ (c : SuperCopy). has_form c.payload) (first ∷ copies) in
      let last : Layout → Result Layout SuperFault = λ l. cond (not (form && is_layout_of sizes l)) (Err BadLayout) (Ok l) in
      let rest : Layout → Result Layout SuperFault = λ l. cond (not (belong_from (length sizes) l 0 (first ∷ copies))) (Err Mixed) (last l) in
      let belong : belong_from (length sizes) layout 0 (first ∷ copies) ≡ true = ap (λ n. belong_from n layout 0 (first ∷ copies)) count ∙ belong_all 0 (first ∷ copies) are in
      ap (λ b. cond (not b) (Err Version) (rest found)) (versions_are_one layout 0 (first ∷ copies) are)
      ∙ ap rest (model_is first copies are.0)
      ∙ ap (λ b. cond (not b) (Err Mixed) (last layout)) belong
      ∙ ap (λ b. cond {A = Result Layout SuperFault} (not (b && is_layout_of sizes layout)) (Err BadLayout) (Ok layout)) (forms_are_right layout 0 (first ∷ copies) are)
      ∙ ap (λ b. cond {A = Result Layout SuperFault} (not b) (Err BadLayout) (Ok layout)) fit

-- The copies that count are these.
record AreThere (layout : Layout) (start : ℕ) (image : Image) : Type 0 where
  copies : List SuperCopy
  there : all_there (map counting image) ≡ Some copies
  are : AreCopiesFrom layout start copies
  count : length copies ≡ length image

gathered : (layout : Layout) (start : ℕ) (image : Image)
    → ((dev place : ℕ) → place ≡ start + dev → dev < length image → (block : ℕ) × (sequence : ℕ) × (counting (blocks_of image dev) ≡ Some (super_copy layout place block sequence)))
    → AreThere layout start image
unfolding AreCopiesFrom
gathered layout start [] each = record { copies = []; there = refl; are = tt; count = refl }
gathered layout start (blocks ∷ image) each =
    let here = each 0 start (omega arith) (omega arith) in
    let copy : SuperCopy = super_copy layout start here.0 here.1 in
    let rest = gathered layout (suc start) image (λ dev place is within. each (suc dev) place (omega (arith, is)) (omega (arith, within))) in
    record {
      copies = copy ∷ rest.copies;
      there = ap (λ c. all_there (c ∷ map counting image)) here.2 ∙ ap (option_map (λ cs. copy ∷ cs)) rest.there;
      are = (record { block = here.0; sequence = here.1; is = refl }, rest.are);
      count = ap suc rest.count;
    }

-- What was written is read: where each device has a copy of the layout that counts, this is the layout that the image holds.
pub layout_of_copies : (layout : Layout) (image : Image) → is_layout_of (map (λ blocks. length blocks) image) layout ≡ true
    → ((dev : ℕ) → dev < length image → (block : ℕ) × (sequence : ℕ) × (counting (blocks_of image dev) ≡ Some (super_copy layout dev block sequence)))
    → layout_in image ≡ Ok layout
unfolding layout_in
layout_of_copies layout image fits each =
    let sizes : List ℕ = map (λ (blocks : List (List ℕ)). length blocks) image in
    let has = has_places sizes layout fits in
    let many : length sizes ≡ length image = length-map image (λ (blocks : List (List ℕ)). length blocks) in
    let all = gathered layout 0 image (λ dev place is within. subst (λ n. (block : ℕ) × (sequence : ℕ) × (counting (blocks_of image dev) ≡ Some (super_copy layout n block sequence))) (let same : dev ≡ place = omega (arith, is) in same) (each dev within)) in
    let small : (i : ℕ) → i < length layout.blocks → get_or layout.blocks i 0 < 2 ^ 32 = λ i within. omega (arith, has.most i (omega (arith, within, has.devices))) in
    ap (judged_if_there sizes) all.there
    ∙ judged_copies layout small (omega (arith, has.journal)) sizes all.copies (sym has.devices) (omega (arith, all.count, many, has.some)) all.are fits
