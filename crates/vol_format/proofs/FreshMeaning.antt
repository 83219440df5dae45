-- What the steps of formatting come to: an image of each means what it meant before, nothing that mounts, or the fresh volume.
use Rattle.std.proofs.Common.{◌≡◌, ℕ, zero, suc, ◌+◌, ◌-◌, ◌/◌, ◌%◌, ◌<◌, ◌≤◌, Bool, true, false, ◌&&◌, ◌||◌, cond, List, [], ◌∷◌, length, get_or, slice_get, map, Option, Some, None, Ok, ◌⊎◌, inl, inr, ⊎_elim, refl, ap, ◌∙◌, sym, subst, arith}
use Rattle.std.specs.Prelude.{IsErr, nat_lt, slice_index_or, ◌==◌}
use Rattle.std.specs.Option.{IsSome, is_some}
use Rattle.std.proofs.lemmas.Bool.{cases_lt, eq-eqb, ne_eqb, lt-ltb, le-leb, false≢true}
use Rattle.std.proofs.lemmas.Option.{none-some, slice_get_past, slice_get-get_or}
use Rattle.vol_types.specs.declared.layout.Layout.{Layout}
use Rattle.dev_model.specs.Disk.{Image, block_at, blocks_of, zeros}
use Rattle.geometry.specs.declared.copies.SuperCopy.{SuperCopy}
use Rattle.geometry.specs.declared.fault.SuperFault.TheVariants.{NoSuper}
use Rattle.geometry.specs.LayoutFacts.{few_devices, has_places}
use Rattle.vol_types.specs.Layouts.{is_layout}
use Rattle.geometry.specs.Layouts.{is_layout_of}
use Rattle.geometry.specs.Sessions.{session_block}
use Rattle.geometry.specs.SuperLaws.{block_of, layout_of_copies, no_super}
use Rattle.geometry.specs.Superblocks.{counting, later, layout_in, super_block, super_copy}
use Rattle.node_store.specs.Plans.{part_bytes}
use Rattle.record_codec.specs.Entries.{IsEntry}
use Rattle.image_view.specs.Found.{found}
use Rattle.vol_format.specs.declared.fresh.FreshBlocks.{FreshBlocks}
use Rattle.vol_format.specs.Fresh.{AreFreshBlocks, first_entry, no_bucket}
use Rattle.vol_format.specs.Formatting.{Done, Extend, IsFresh, IsOfStep, MeansOldOrFresh, Prepare, Seal, Step, ZeroOthers, ZeroSpares, held_before, if_so, or_held, other_block, prepared, spare_beside, spare_block, step_writes, zeroed}
use Rattle.vol_format.specs.Laws.{FoundLaws}
use Rattle.vol_format.proofs.Copies.{copy_of, counting_of, no_copy_if, one_of}
use Rattle.vol_format.proofs.FreshFound.{HoldsFresh, is_fresh}
use Rattle.vol_format.proofs.Meaning.{HasLaws, OpensOldOrNew, all_cleared, all_or_one, cleared_in_prepare, cleared_in_seal, none_counts, none_in_all, nothing_prepared, others_keep, spares_keep, zeroed_elsewhere}
use Rattle.vol_format.proofs.Preparing.{prepared_eight, prepared_entry, prepared_five, prepared_none, prepared_other, prepared_root}
use Rattle.vol_format.proofs.Room.{layout_fits_on}
use Rattle.vol_format.proofs.SameMeaning.{SameBehind, no_layout, same_or_none, size_of, count_of}

-- What a device's copies may be while they are written: none, or those of the layout.
abbrev pub IsSealed : Layout → ℕ → Option SuperCopy → Type 0
IsSealed layout dev counts = (block : ℕ) × (sequence : ℕ) × (counts ≡ Some (super_copy layout dev block sequence))

later_sealed : (layout : Layout) (dev : ℕ) (first second : Option SuperCopy) → (first ≡ None) ⊎ (first ≡ Some (super_copy layout dev 0 1)) → (second ≡ None) ⊎ (second ≡ Some (super_copy layout dev 8 1))
    → IsSealed layout dev (later first second) ⊎ (later first second ≡ None)
later_sealed layout dev first second one two = ⊎_elim
    (λ none. ⊎_elim
    (λ no_other. inr (ap (λ c. later c second) none ∙ no_other))
    (λ other. inl (8, 1, ap (λ c. later c second) none ∙ other))
    two)
    (λ here. ⊎_elim
    (λ no_other. inl (0, 1, ap (λ c. later c second) here ∙ ap (later (Some (super_copy layout dev 0 1))) no_other))
    (λ other. inl (0, 1, ap (λ c. later c second) here ∙ ap (later (Some (super_copy layout dev 0 1))) other))
    two)
    one

some_or : (written held : Option (List ℕ)) → IsSome held → IsSome (or_held written held)
some_or None held some = some
some_or (Some bytes) held some = refl

some_first : (written held : Option (List ℕ)) → IsSome written → IsSome (or_held written held)
some_first None held some = absurd (false≢true some)
some_first (Some bytes) held some = refl

-- What the fresh blocks are, and the laws on what they mean.
pub record AreMeant (layout : Layout) (fresh : FreshBlocks) : Type 0 where
  pub laws : FoundLaws
  pub entry_is : IsEntry (first_entry layout)
  pub blocks : AreFreshBlocks layout fresh

module _ (layout : Layout) (fresh : FreshBlocks) (before : Image) (is : is_layout layout ≡ true) (devices : length layout.blocks ≡ length before) (laws : HasLaws layout) (meant : AreMeant layout fresh) where
  seal_elsewhere : (dev block : ℕ) → ¬ (block ≡ 0) → ¬ (block ≡ 8) → step_writes layout fresh before Seal dev block ≡ None
  seal_elsewhere dev block one two = rw (ne_eqb block 0 one, ne_eqb block 8 two) (never (nat_lt dev (length before)))
    where
      never : (test : Bool) → if_so (test && false) (super_block layout dev block 1) ≡ None
      never true = refl
      never false = refl

  in_prepared : (dev block : ℕ) (bytes : List ℕ) → dev < layout.metadata_replicas → prepared layout fresh block ≡ Some bytes → held_before layout fresh before Seal dev block ≡ Some bytes
  in_prepared dev block bytes within is_there = rw (lt-ltb dev layout.metadata_replicas within) (ap (λ written. or_held written (held_before layout fresh before Prepare dev block)) is_there)

  -- Each device is as long as its number of blocks.
  laid_long : (image : Image) → length image ≡ length before → ((dev block : ℕ) → ¬ (block ≡ 0) → ¬ (block ≡ 8) → block_at image dev block ≡ held_before layout fresh before Seal dev block)
      → (dev : ℕ) → dev < length image → get_or layout.blocks dev 0 ≤ length (blocks_of image dev)
  laid_long image count laid dev within =
      let own : is_layout_of layout.blocks layout ≡ true = layout_fits_on layout.blocks layout is refl (λ d inside. omega arith) in
      let more : 1024 ≤ get_or layout.blocks dev 0 = (has_places layout.blocks layout own).shortest dev (omega (arith, within, count, devices)) in
      let last : ℕ = get_or layout.blocks dev 0 - 1 in
      let B : List (List ℕ) = blocks_of before dev in
      let held : IsSome (held_before layout fresh before Seal dev last) = some_or (step_writes layout fresh before Prepare dev last) (held_before layout fresh before Prepare dev last) (⊎_elim
      (λ (old : last < length B). some_or (step_writes layout fresh before Extend dev last) _ (some_or (zeroed B (other_block B) last) _ (some_or (zeroed B (spare_block B) last) _
      (subst IsSome (block_of before dev last) (ap is_some (slice_get-get_or B last [] old))))))
      (λ (new : length B ≤ last). some_first (step_writes layout fresh before Extend dev last) _
      (rw (lt-ltb dev (length before) (omega (arith, within, count)), le-leb (length B) last new, lt-ltb last (get_or layout.blocks dev 0) (omega (arith, more))) refl))
      (cases_lt last (length B))) in
      let there : IsSome (slice_get (blocks_of image dev) last) = subst IsSome (sym (block_of image dev last ∙ laid dev last (λ e. omega (arith, e, more)) (λ e. omega (arith, e, more)))) held in
      let inside : last < length (blocks_of image dev) = ⊎_elim (λ (w : last < length (blocks_of image dev)). w) (λ (past : length (blocks_of image dev) ≤ last). absurd (false≢true (subst IsSome (slice_get_past (blocks_of image dev) last past) there))) (cases_lt last (length (blocks_of image dev))) in
      omega (arith, inside)

  laid_fits : (image : Image) → length image ≡ length before → ((dev block : ℕ) → ¬ (block ≡ 0) → ¬ (block ≡ 8) → block_at image dev block ≡ held_before layout fresh before Seal dev block) → is_layout_of (map (λ blocks. length blocks) image) layout ≡ true
  laid_fits image count laid = layout_fits_on (map (λ (blocks : List (List ℕ)). length blocks) image) layout is (devices ∙ sym count ∙ sym (count_of image))
      (λ dev within. subst (λ size. get_or layout.blocks dev 0 ≤ size) (sym (size_of image dev)) (laid_long image count laid dev (omega (arith, within, count_of image))))

  -- Where all is laid out, and each device has a copy of the layout that counts, the image holds the fresh blocks.
  fresh_holds : (image : Image) → length image ≡ length before → ((dev block : ℕ) → ¬ (block ≡ 0) → ¬ (block ≡ 8) → block_at image dev block ≡ held_before layout fresh before Seal dev block)
      → ((dev : ℕ) → dev < length image → IsSealed layout dev (counting (blocks_of image dev))) → HoldsFresh layout fresh image
  fresh_holds image count laid sealed =
      let sizes : List ℕ = map (λ (blocks : List (List ℕ)). length blocks) image in
      let fits : is_layout_of sizes layout ≡ true = laid_fits image count laid in
      let has = has_places sizes layout fits in
      let found : layout_in image ≡ Ok layout = layout_of_copies layout image fits sealed in
      let at : (dev block : ℕ) (bytes : List ℕ) → dev < layout.metadata_replicas → ¬ (block ≡ 0) → ¬ (block ≡ 8) → prepared layout fresh block ≡ Some bytes → block_at image dev block ≡ Some bytes =
      λ dev block bytes mirror one two is_there. laid dev block one two ∙ in_prepared dev block bytes mirror is_there in
      record {
        layout_is = found;
        even = λ dev mirror. at dev 4 zeros mirror (λ e. omega (arith, e)) (λ e. omega (arith, e)) (prepared_other layout fresh 4 (omega arith) (omega arith) (λ e. omega (arith, e)) (λ e. omega (arith, e)) (λ e. omega (arith, e)));
        odd = λ dev mirror. at dev 5 (session_block layout.id 1) mirror (λ e. omega (arith, e)) (λ e. omega (arith, e)) (prepared_five layout fresh 5 refl);
        entry = record {
          entry = λ dev mirror. at dev 16 fresh.entry mirror (λ e. omega (arith, e)) (λ e. omega (arith, e)) (prepared_entry layout fresh (omega (arith, has.least)));
          rest = λ dev place mirror later within. at dev (16 + place) zeros mirror (λ e. omega (arith, e)) (λ e. omega (arith, e))
              (prepared_other layout fresh (16 + place) (omega arith) (omega (arith, within)) (λ e. omega (arith, e)) (λ e. omega (arith, e)) (λ e. omega (arith, e, later)));
        };
        roots = λ dev n mirror low. at dev (16 + layout.journal + n) (part_bytes (slice_index_or fresh.roots (n / 16) no_bucket) (n % 16)) mirror (λ e. omega (arith, e)) (λ e. omega (arith, e))
            (prepared_root layout fresh (16 + layout.journal + n) n refl low);
      }

  -- So it is the fresh volume.
  fresh_there : (image : Image) → length image ≡ length before → ((dev block : ℕ) → ¬ (block ≡ 0) → ¬ (block ≡ 8) → block_at image dev block ≡ held_before layout fresh before Seal dev block)
      → ((dev : ℕ) → dev < length image → IsSealed layout dev (counting (blocks_of image dev))) → IsFresh layout image
  fresh_there image count laid sealed =
      is_fresh meant.laws layout (map (λ (blocks : List (List ℕ)). length blocks) image) (laid_fits image count laid) fresh image laws.named meant.entry_is meant.blocks (fresh_holds image count laid sealed)

  sealed_or_none : (image : Image) → OpensOldOrNew layout fresh before Seal image → (dev : ℕ) → dev < length image → length image ≡ length before → IsSealed layout dev (counting (blocks_of image dev)) ⊎ (counting (blocks_of image dev) ≡ None)
  sealed_or_none image match dev within count =
      let inside : dev < length before = omega (arith, within, count) in
      let is_copy : (block : ℕ) → (block ≡ 0) ⊎ (block ≡ 8) → copy_of block (if_so (true && (block == 0 || block == 8)) (super_block layout dev block 1)) ≡ Some (super_copy layout dev block 1) =
      λ block place. ⊎_elim
      (λ (a : block ≡ 0). rw (eq-eqb block 0 a) (laws.supers dev block (omega (arith, inside, devices)) place))
      (λ (b : block ≡ 8). rw (ne_eqb block 0 (λ e. omega (arith, e, b)), eq-eqb block 8 b) (laws.supers dev block (omega (arith, inside, devices)) place))
      place in
      let choice : (block : ℕ) → (block ≡ 0) ⊎ (block ≡ 8) → (copy_of block (block_at image dev block) ≡ None) ⊎ (copy_of block (block_at image dev block) ≡ Some (super_copy layout dev block 1)) = λ block place.
      ⊎_elim (λ none. inl none) (λ more. ⊎_elim (λ held. inl (held ∙ cleared_in_seal layout fresh before dev block place))
      (λ new. inr (new ∙ ap (λ test. copy_of block (if_so (test && (block == 0 || block == 8)) (super_block layout dev block 1))) (lt-ltb dev (length before) inside) ∙ is_copy block place)) more)
      (one_of block (block_at image dev block) (held_before layout fresh before Seal dev block) (step_writes layout fresh before Seal dev block) (match dev block place)) in
      subst (λ counts. IsSealed layout dev counts ⊎ (counts ≡ None)) (sym (counting_of image dev)) (later_sealed layout dev _ _ (choice 0 (inl refl)) (choice 8 (inr refl)))

  -- An image without a copy on the first device doesn't mount.
  none_on_first : (image : Image) → length image ≡ length before → ((block : ℕ) → (block ≡ 0) ⊎ (block ≡ 8) → copy_of block (block_at image 0 block) ≡ None) → IsErr (found image)
  none_on_first image count none = no_layout image NoSuper (no_super image 0 (omega (arith, count, devices, (few_devices layout is).0)) (none_counts layout fresh before image 0 none))

  behind_zeroing : (image : Image) (step : Step) → ((dev block : ℕ) → ¬ (block ≡ 0) → ¬ (block ≡ 8) → step_writes layout fresh before step dev block ≡ None)
      → ((dev block : ℕ) → ¬ (block ≡ 0) → ¬ (block ≡ 8) → held_before layout fresh before step dev block ≡ block_at before dev block) → IsOfStep layout fresh before step image → SameBehind image before
  behind_zeroing image step unwritten held of_step dev block one two = of_step.others dev block (unwritten dev block one two) ∙ held dev block one two

  not_place : (place block : ℕ) → (place ≡ 0) ⊎ (place ≡ 8) → ¬ (block ≡ 0) → ¬ (block ≡ 8) → ¬ (block ≡ place)
  not_place place block either one two same = ⊎_elim (λ a. one (same ∙ a)) (λ b. two (same ∙ b)) either

  spare_place : (held : Option SuperCopy) → (spare_beside held ≡ 0) ⊎ (spare_beside held ≡ 8)
  spare_place None = inr refl
  spare_place (Some copy) = either (copy.head.number == 0)
    where
      either : (test : Bool) → (cond {A = ℕ} test 8 0 ≡ 0) ⊎ (cond {A = ℕ} test 8 0 ≡ 8)
      either true = inr refl
      either false = inl refl

  other_place : (place : ℕ) → (place ≡ 0) ⊎ (place ≡ 8) → (8 - place ≡ 0) ⊎ (8 - place ≡ 8)
  other_place place either = ⊎_elim (λ (a : place ≡ 0). inr (omega (arith, a))) (λ (b : place ≡ 8). inl (omega (arith, b))) either

  unzeroed_spare : (dev block : ℕ) → ¬ (block ≡ 0) → ¬ (block ≡ 8) → zeroed (blocks_of before dev) (spare_block (blocks_of before dev)) block ≡ None
  unzeroed_spare dev block one two = zeroed_elsewhere (blocks_of before dev) _ block (not_place _ block (spare_place (counting (blocks_of before dev))) one two)

  unzeroed_other : (dev block : ℕ) → ¬ (block ≡ 0) → ¬ (block ≡ 8) → zeroed (blocks_of before dev) (other_block (blocks_of before dev)) block ≡ None
  unzeroed_other dev block one two = zeroed_elsewhere (blocks_of before dev) _ block (not_place _ block (other_place _ (spare_place (counting (blocks_of before dev)))) one two)

  -- After all steps all is laid out,
  done_laid : (image : Image) → IsOfStep layout fresh before Done image → (dev block : ℕ) → ¬ (block ≡ 0) → ¬ (block ≡ 8) → block_at image dev block ≡ held_before layout fresh before Seal dev block
  done_laid image of_step = (λ dev block one two. of_step.others dev block refl ∙ ap (λ written. or_held written (held_before layout fresh before Seal dev block)) (seal_elsewhere dev block one two))

  -- and each device has its copies,
  done_sealed : (image : Image) → IsOfStep layout fresh before Done image → (dev : ℕ) → dev < length image → IsSealed layout dev (counting (blocks_of image dev))
  done_sealed image of_step = (λ dev within.
      let inside : dev < length before = omega (arith, within, of_step.count) in
      let first : copy_of 0 (block_at image dev 0) ≡ Some (super_copy layout dev 0 1) =
      ap (copy_of 0) (of_step.others dev 0 refl) ∙ ap (λ test. copy_of 0 (or_held (if_so (test && true) (super_block layout dev 0 1)) (held_before layout fresh before Seal dev 0))) (lt-ltb dev (length before) inside) ∙ laws.supers dev 0 (omega (arith, inside, devices)) (inl refl) in
      let second : copy_of 8 (block_at image dev 8) ≡ Some (super_copy layout dev 8 1) =
      ap (copy_of 8) (of_step.others dev 8 refl) ∙ ap (λ test. copy_of 8 (or_held (if_so (test && true) (super_block layout dev 8 1)) (held_before layout fresh before Seal dev 8))) (lt-ltb dev (length before) inside) ∙ laws.supers dev 8 (omega (arith, inside, devices)) (inr refl) in
      (0, 1, counting_of image dev ∙ ap (λ c. later c (copy_of 8 (block_at image dev 8))) first ∙ ap (later (Some (super_copy layout dev 0 1))) second))

  -- so that the image is the fresh volume.
  pub done_holds : (image : Image) → IsOfStep layout fresh before Done image → HoldsFresh layout fresh image
  done_holds image of_step = fresh_holds image of_step.count (done_laid image of_step) (done_sealed image of_step)

  -- The metadata devices hold what was prepared, which is no superblock,
  pub done_prepared : (image : Image) → IsOfStep layout fresh before Done image → (dev block : ℕ) (bytes : List ℕ) → dev < layout.metadata_replicas → prepared layout fresh block ≡ Some bytes → block_at image dev block ≡ Some bytes
  done_prepared image of_step dev block bytes mirror is_there =
      done_laid image of_step dev block (λ first. none-some bytes (sym (prepared_none layout fresh block (omega (arith, first))) ∙ is_there)) (λ eighth. none-some bytes (sym (prepared_eight layout fresh block eighth) ∙ is_there))
      ∙ in_prepared dev block bytes mirror is_there

  pub done_fits : (image : Image) → IsOfStep layout fresh before Done image → is_layout_of (map (λ blocks. length blocks) image) layout ≡ true
  done_fits image of_step = laid_fits image of_step.count (done_laid image of_step)

  pub done_means : (image : Image) → IsOfStep layout fresh before Done image → IsFresh layout image
  done_means image of_step = fresh_there image of_step.count (done_laid image of_step) (done_sealed image of_step)

  -- An image of a step means what it may.
  pub step_means : (step : Step) (image : Image) → IsOfStep layout fresh before step image → OpensOldOrNew layout fresh before step image → MeansOldOrFresh layout before image
  step_means ZeroSpares image of_step match =
      ⊎_elim (λ same. inl same) (λ none. inr (inl none)) (same_or_none image before of_step.count (spares_keep layout fresh before image of_step match)
      (behind_zeroing image ZeroSpares unzeroed_spare (λ dev block one two. refl) of_step))
  step_means ZeroOthers image of_step match = ⊎_elim
      (λ all. ⊎_elim (λ same. inl same) (λ none. inr (inl none)) (same_or_none image before of_step.count (λ dev. all_devices image of_step.count all dev)
      (behind_zeroing image ZeroOthers unzeroed_other (λ dev block one two. ap (λ written. or_held written (block_at before dev block)) (unzeroed_spare dev block one two)) of_step)))
      (λ one. inr (inl (no_layout image NoSuper (no_super image one.0 (omega (arith, one.1)) one.2))))
      (all_or_one (λ dev. counting (blocks_of image dev) ≡ counting (blocks_of before dev)) (λ dev. counting (blocks_of image dev) ≡ None) (length image) (λ dev within. others_keep layout fresh before image of_step match dev))
    where
      past_all : (image : Image) (dev : ℕ) → length image ≤ dev → blocks_of image dev ≡ []
      past_all [] dev past = refl
      past_all (blocks ∷ image) zero past = absurd (omega (arith, past))
      past_all (blocks ∷ image) (suc dev) past = past_all image dev (omega (arith, past))

      all_devices : (image : Image) → length image ≡ length before → ((dev : ℕ) → dev < length image → counting (blocks_of image dev) ≡ counting (blocks_of before dev)) → (dev : ℕ) → counting (blocks_of image dev) ≡ counting (blocks_of before dev)
      all_devices image count all dev = ⊎_elim (λ (within : dev < length image). all dev within)
          (λ (past : length image ≤ dev). ap counting (past_all image dev past ∙ sym (past_all before dev (omega (arith, past, count))))) (cases_lt dev (length image))
  step_means Extend image of_step match = inr (inl (none_on_first image of_step.count (λ block place.
      none_in_all (copy_of block (block_at image 0 block)) (copy_of block (held_before layout fresh before Extend 0 block)) (copy_of block (step_writes layout fresh before Extend 0 block)) (all_cleared layout fresh before 0 block place) (no_copy_if block _)
      (one_of block (block_at image 0 block) (held_before layout fresh before Extend 0 block) (step_writes layout fresh before Extend 0 block) (match 0 block place)))))
  step_means Prepare image of_step match = inr (inl (none_on_first image of_step.count (λ block place.
      ap (copy_of block) (of_step.others 0 block (nothing_prepared layout fresh before 0 block place)) ∙ cleared_in_prepare layout fresh before 0 block place)))
  step_means Seal image of_step match = ⊎_elim
      (λ all. inr (inr (fresh_there image of_step.count (λ dev block one two. of_step.others dev block (seal_elsewhere dev block one two)) all)))
      (λ one. inr (inl (no_layout image NoSuper (no_super image one.0 (omega (arith, one.1)) one.2))))
      (all_or_one (λ dev. IsSealed layout dev (counting (blocks_of image dev))) (λ dev. counting (blocks_of image dev) ≡ None) (length image) (λ dev within. sealed_or_none image match dev within of_step.count))
  step_means Done image of_step match = inr (inr (done_means image of_step))
