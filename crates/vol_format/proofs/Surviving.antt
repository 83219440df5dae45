-- What the calls write is what the steps write, and so a crash leaves only what formatting may leave.
use Rattle.std.proofs.Common.{◌≡◌, ℕ, zero, suc, ◌-◌, ◌<◌, ◌≤◌, Bool, true, false, ◌&&◌, List, [], ◌∷◌, length, get_or, Some, None, Result, Ok, Err, inl, ⊎_elim, refl, ap, ◌∙◌, sym, subst, arith}
use Rattle.std.specs.Prelude.{IsErr, nat_lt, nat_le, ◌==◌}
use Rattle.std.proofs.lemmas.Bool.{cases_lt, lt-ltb, le-ltb, false≢true}
use Rattle.vol_types.specs.declared.layout.Layout.{Layout}
use Rattle.dev_model.specs.Disk.{Disk, Image, IsCrashImage, as_read, block_at, blocks_of, sizes_of, zeros}
use Rattle.dev_model.specs.Devices.{DevicesState, now}
use Rattle.dev_model.specs.Frames.{DisksStay}
use Rattle.std.specs.Option.{is_some}
use Rattle.vol_types.specs.Layouts.{is_layout}
use Rattle.geometry.specs.Sessions.{session_block, session_named}
use Rattle.geometry.specs.Superblocks.{copy_in, super_block, super_copy}
use Rattle.vol_format.specs.declared.fresh.FreshBlocks.{FreshBlocks}
use Rattle.vol_format.specs.Formatting.{FormatSurvives, KeepsMeaning, Step, Extend, Seal, ZeroSpares, if_so, spare_block, step_writes, zeroed}
use Rattle.vol_format.specs.Steps.{ArePlaces, AreSupers, Formats, LeavesSteps, extension, if_there, on_first, super_copies}
use Rattle.vol_format.proofs.Meaning.{HasLaws}
use Rattle.vol_format.proofs.FreshMeaning.{AreMeant, step_means}
use Rattle.vol_format.proofs.SameImages.{is_quiet}
use Rattle.vol_format.proofs.SameMeaning.{keeps_itself}
use Rattle.vol_format.proofs.Stepping.{rest_is_settled}

-- The size of a disk is that of its device's image.
pub size_at : (disks : List Disk) (dev : ℕ) → get_or (sizes_of disks) dev 0 ≡ length (blocks_of (as_read disks) dev)
size_at [] zero = refl
size_at [] (suc dev) = refl
size_at (disk ∷ disks) zero = refl
size_at (disk ∷ disks) (suc dev) = size_at disks dev

blocks_past : (image : Image) (dev : ℕ) → length image ≤ dev → length (blocks_of image dev) ≡ 0
blocks_past [] dev past = refl
blocks_past (blocks ∷ image) zero past = absurd (omega (arith, past))
blocks_past (blocks ∷ image) (suc dev) past = blocks_past image dev (omega (arith, past))

zeroed_past : (blocks : List (List ℕ)) (place block : ℕ) → length blocks ≡ 0 → zeroed blocks place block ≡ None
zeroed_past blocks place block none = rw (le-ltb block (length blocks) (omega (arith, none))) (never (block == place))
  where
    never : (test : Bool) → if_so (test && false) zeros ≡ None
    never true = refl
    never false = refl

-- Where each device gets zeros in its place, this is a step of zeros.
pub zeroing_writes : (before : Image) (sizes places : List ℕ) (bytes : List ℕ) (place : ℕ → ℕ) → bytes ≡ zeros → length places ≡ length before → ((dev : ℕ) → get_or sizes dev 0 ≡ length (blocks_of before dev)) → ((dev : ℕ) → dev < length before → get_or places dev 0 ≡ place dev)
    → (dev block : ℕ) → on_first (length places) (λ d. if_there (get_or sizes d 0) (get_or places d 0) bytes) dev block ≡ zeroed (blocks_of before dev) (place dev) block
zeroing_writes before sizes places bytes place blank count size at dev block = ⊎_elim
    (λ (within : dev < length before). rw (lt-ltb dev (length places) (omega (arith, within, count)))
    (ap (λ p. if_so (block == p && nat_lt block (get_or sizes dev 0)) bytes) (at dev within)
    ∙ ap (λ s. if_so (block == place dev && nat_lt block s) bytes) (size dev)
    ∙ ap (if_so (block == place dev && nat_lt block (length (blocks_of before dev)))) blank))
    (λ (past : length before ≤ dev). rw (le-ltb dev (length places) (omega (arith, past, count))) (sym (zeroed_past (blocks_of before dev) (place dev) block (blocks_past before dev past))))
    (cases_lt dev (length before))

-- Where each device is extended, this is the step that extends.
pub extending_writes : (layout : Layout) (fresh : FreshBlocks) (before : Image) (sizes : List ℕ) → length layout.blocks ≡ length before → ((dev : ℕ) → get_or sizes dev 0 ≡ length (blocks_of before dev))
    → (dev block : ℕ) → on_first (length layout.blocks) (λ d. extension (get_or sizes d 0) (get_or layout.blocks d 0)) dev block ≡ step_writes layout fresh before Extend dev block
extending_writes layout fresh before sizes count size dev block = ⊎_elim
    (λ (within : dev < length before). rw (lt-ltb dev (length layout.blocks) (omega (arith, within, count)), lt-ltb dev (length before) within)
    (ap (λ s. if_so (nat_le s block && nat_lt block (get_or layout.blocks dev 0)) zeros) (size dev)))
    (λ (past : length before ≤ dev). rw (le-ltb dev (length layout.blocks) (omega (arith, past, count)), le-ltb dev (length before) past) refl)
    (cases_lt dev (length before))

-- Where each device gets its superblock copies, this is the step that seals.
pub sealing_writes : (layout : Layout) (fresh : FreshBlocks) (before : Image) → length layout.blocks ≡ length before → (dev block : ℕ) → on_first (length layout.blocks) (super_copies layout) dev block ≡ step_writes layout fresh before Seal dev block
sealing_writes layout fresh before count dev block = ⊎_elim
    (λ (within : dev < length before). rw (lt-ltb dev (length layout.blocks) (omega (arith, within, count)), lt-ltb dev (length before) within) refl)
    (λ (past : length before ≤ dev). rw (le-ltb dev (length layout.blocks) (omega (arith, past, count)), le-ltb dev (length before) past) refl)
    (cases_lt dev (length before))

-- A part that failed leaves only images of the steps, whatever was to be reached.
pub formats_failed : {T F E G : Type 0} (out : Result T G) (result : Result F E) (layout : Layout) (fresh : FreshBlocks) (step other : Step) (old new : DevicesState) → IsErr out → Formats result layout fresh step old new → Formats out layout fresh other old new
formats_failed (Ok x) result layout fresh step other old new is formats = absurd (false≢true is)
formats_failed (Err e) result layout fresh step other old new is formats = record { leaves = formats.leaves; reached = tt }

-- Where a crash leaves only images of the steps, it leaves only what formatting may leave.
pub survives_by_steps : (layout : Layout) (fresh : FreshBlocks) (old new : DevicesState) → is_layout layout ≡ true → length layout.blocks ≡ length (as_read (now old)) → HasLaws layout → AreMeant layout fresh → LeavesSteps layout fresh old new → FormatSurvives layout old new
survives_by_steps layout fresh old new is count laws meant leaves rest moment lo hi image may =
    let some = leaves.each rest moment lo hi in
    let of_step = some.of_step image may in
    record {
      fresh = fresh;
      step = some.step;
      blocks = λ later. meant.blocks;
      of_step = of_step;
      means = λ untorn. step_means layout fresh (as_read (now old)) is count laws meant some.step image of_step
          (λ dev block place bytes head there is_open. some.held dev block (untorn.reads dev block place) bytes (ap is_some is_open) (untorn.left dev block place bytes there (ap is_some is_open)));
    }

-- Devices that were only read survive: each image is what it was.
pub survives_untouched : (layout : Layout) (old new : DevicesState) → DisksStay old new → FormatSurvives layout old new
survives_untouched layout old new stays rest moment lo hi image may =
    let is : image ≡ as_read (now old) = is_quiet (now old) (rest_is_settled (now old) rest) image (subst (λ ds. IsCrashImage ds image) (stays.same moment lo hi) may) in
    record {
      fresh = record { entry = []; roots = [] };
      step = ZeroSpares;
      blocks = λ later. absurd (later refl);
      of_step = record { count = ap (λ (i : Image). length i) is; others = λ d b none. ap (λ (i : Image). block_at i d b) is };
      means = λ untorn. inl (subst (λ (i : Image). KeepsMeaning (as_read (now old)) i × KeepsMeaning i (as_read (now old))) (sym is) (keeps_itself (as_read (now old)), keeps_itself (as_read (now old))));
    }

-- The places that were found are those of the copies that don't count, and the others are beside them.
pub are_places : (before : Image) (found spares from others got : List ℕ) → spares ≡ found → from ≡ found → others ≡ got → length found ≡ length before
    → ((dev : ℕ) → dev < length before → get_or found dev 0 ≡ spare_block (blocks_of before dev)) → ((dev : ℕ) → dev < length from → get_or got dev 0 ≡ 8 - get_or from dev 0) → ArePlaces before spares others
are_places before found spares from others got one two three count spare beside =
    let at : (dev : ℕ) → dev < length before → dev < length from = λ dev within. omega (arith, within, count, ap (λ (s : List ℕ). length s) two) in
    record {
      spare = λ dev within. ap (λ (s : List ℕ). get_or s dev 0) one ∙ spare dev within;
      other = λ dev within. ap (λ (s : List ℕ). get_or s dev 0) three ∙ beside dev (at dev within) ∙ ap (λ (s : List ℕ). 8 - get_or s dev 0) two ∙ ap (λ n. 8 - n) (spare dev within);
    }

-- What was sealed for the layout is found again.
pub laws_of : (layout : Layout) (firsts seconds : List (List ℕ)) → AreSupers layout 0 firsts → AreSupers layout 8 seconds → session_named layout.id 5 (session_block layout.id 1) ≡ Some 1 → HasLaws layout
laws_of layout firsts seconds zero_ones eight_ones named = record {
  supers = λ dev block within place. ⊎_elim
      (λ (a : block ≡ 0). subst (λ b. copy_in b (super_block layout dev b 1) ≡ Some (super_copy layout dev b 1)) (sym a) (zero_ones.each dev (omega (arith, within, zero_ones.count)) []).copy)
      (λ (b : block ≡ 8). subst (λ n. copy_in n (super_block layout dev n 1) ≡ Some (super_copy layout dev n 1)) (sym b) (eight_ones.each dev (omega (arith, within, eight_ones.count)) []).copy)
      place;
  named = named;
}
