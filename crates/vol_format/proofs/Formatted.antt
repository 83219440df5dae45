-- Devices that were formatted hold the fresh volume, settled and ready to be opened.
use Rattle.std.proofs.Common.{◌≡◌, ℕ, ◌≤◌, true, List, [], ◌∷◌, length, map, Result, Ok, Err, ◌∙◌, sym, subst, arith}
use Rattle.std.specs.Prelude.{OnOk, slice_index_or}
use Rattle.dev_model.specs.Devices.{DevicesState, now}
use Rattle.dev_model.specs.Disk.{Image, as_read}
use Rattle.geometry.specs.LayoutFacts.{has_places}
use Rattle.geometry.specs.Mirrors.{AreAtRest}
use Rattle.vol_types.specs.Layouts.{is_layout}
use Rattle.vol_types.specs.declared.layout.Layout.{Layout}
use Rattle.replay.specs.Mending.{StandsOnAll}
use Rattle.vol_format.specs.declared.fresh.FreshBlocks.{FreshBlocks}
use Rattle.vol_format.specs.Fresh.{first_found}
use Rattle.vol_format.specs.Formatting.{Done, IsFormatted, IsOfStep}
use Rattle.vol_format.specs.Steps.{Formats}
use Rattle.vol_format.proofs.FirstEntry.{no_equal_digest, stands_first}
use Rattle.vol_format.proofs.FreshMeaning.{AreMeant, done_fits, done_holds, done_means, done_prepared}
use Rattle.vol_format.proofs.Meaning.{HasLaws}
use Rattle.vol_format.proofs.SameImages.{is_quiet}
use Rattle.vol_format.proofs.SameMeaning.{count_of}
use Rattle.vol_format.proofs.Stepping.{read_count}
use Rattle.vol_format.proofs.Written.{all_rest}

-- Where all steps were taken, the devices are formatted.
pub formatted : {T E : Type 0} (result : Result T E) (layout : Layout) (fresh : FreshBlocks) (old new : DevicesState) (devices : ℕ) → is_layout layout ≡ true → length layout.blocks ≡ length (as_read (now old)) → HasLaws layout → AreMeant layout fresh
    → length (now old) ≤ devices → Formats result layout fresh Done old new → OnOk result (AreAtRest devices (now new)) → OnOk result (IsFormatted layout (now new))
formatted (Err e) layout fresh old new devices is count laws meant few formats rest = tt
formatted (Ok x) layout fresh old new devices is count laws meant least formats rest =
    let image : Image = as_read (now new) in
    let before : Image = as_read (now old) in
    let reached = formats.reached.0 in
    let few : length (now new) ≤ devices = omega (arith, least, reached.count) in
    let of_step : IsOfStep layout fresh before Done image = record { count = read_count (now new) ∙ reached.count ∙ sym (read_count (now old)); others = λ d b none. reached.held d b } in
    let holds = done_holds layout fresh before is count laws meant image of_step in
    let fresh_is = done_means layout fresh before is count laws meant image of_step in
    let has = has_places (map (λ (blocks : List (List ℕ)). length blocks) image) layout (done_fits layout fresh before is count laws meant image of_step) in
    let many : length (map (λ (blocks : List (List ℕ)). length blocks) image) ≡ length (now new) = count_of image ∙ read_count (now new) in
    record {
      rest = all_rest (now new) devices few rest;
      is_fresh = fresh_is;
      holds = record { fresh = fresh; blocks = meant.blocks; hold = done_prepared layout fresh before is count laws meant image of_step };
      mended = record {
        found_on = record {
          on = record { quiet = is_quiet (now new) formats.reached.1; finds = fresh_is.finds; placed = fresh_is.placed };
          rest = λ dev disk mirror there. rest dev disk (omega (arith, mirror, has.mirrors, many, few)) there;
          order = fresh_is.in_order;
          digests = no_equal_digest meant.laws.entries layout fresh image has.least has.mirrored has.mirrors_few meant.entry_is meant.blocks holds.entry;
        };
        stand = λ index lower. subst (λ n. StandsOnAll layout image (slice_index_or (first_found layout ∷ []) n (first_found layout))) (let none : 0 ≡ index = omega (arith, lower) in none) (record {
          blocks = fresh.entry ∷ [];
          sealed = meant.blocks.entry;
          stand = stands_first meant.laws.entries layout fresh image has.least has.mirrored has.mirrors_few meant.entry_is meant.blocks holds.entry;
        });
      };
    }
