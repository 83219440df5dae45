-- What stands on the devices goes on standing while they are called, where a call asks only for blocks of the entry that is written, and
-- writes elsewhere nothing that counts.
use Rattle.std.proofs.Common.{◌≡◌, inr, ⊎_elim, ℕ, ◌+◌, ◌<◌, ◌≤◌, List, length, Option, sym, ap, ◌∙◌, arith}
use Rattle.std.specs.Prelude.{All, IfSome, IsTrue}
use Rattle.dev_model.specs.Crashes.{SameBut}
use Rattle.dev_model.specs.Devices.{DevicesState, now}
use Rattle.dev_model.specs.Disk.{Disk, Image, IsCrashImage, IsDisk, as_read}
use Rattle.dev_model.specs.HeldBlocks.{HasNoChanceMatch, HaveHeld}
use Rattle.dev_model.specs.HeldLaws.{no_chance_before}
use Rattle.image_view.specs.Bases.{AgreeOnBase}
use Rattle.image_view.specs.CrashEntries.{opens}
use Rattle.image_view.specs.Found.{Found}
use Rattle.crash_safety.specs.Parts.{AsksAt}
use Rattle.crash_safety.specs.Standing.{AgreeOnWriting, AgreesBut, AreReadsUntorn, AreSteady, HoldKnown, StandsOn}
use Rattle.crash_safety.specs.Writings.{HoldParts, IsAsked, IsWritingBlock, Writing}
use Rattle.crash_safety.proofs.BaseStays.{base_more, writing_more}
use Rattle.crash_safety.proofs.Images.{as_many_left, sizes, sizes_stay}
use Rattle.vol_types.specs.declared.layout.Layout.{Layout}

-- What was read without a chance match up to a moment was so up to an earlier one, whatever came after it.
pub untorn_before : (layout : Layout) (first m last : ℕ) (old new : DevicesState) → ((n : ℕ) → n ≤ old.moment → new.disks n ≡ old.disks n) → m ≤ last → m ≤ old.moment → AreReadsUntorn layout first last new → AreReadsUntorn layout first m old
untorn_before layout first m last old new past earlier so_far untorn dev place mirror within =
    no_chance_before opens dev (16 + place) first last old new past m earlier so_far (untorn dev place mirror within)

-- What a call does to what counts: what it may touch is no base of what was found, and in the journal areas only places of the first so many
-- parts of the entry that is written, and there it asks for blocks of the entry alone.
pub record IsHarmless (f : Found) (image : Image) (writing : Option Writing) (asked count : ℕ) (touched : ℕ → ℕ → Type 0) (asks_for : ℕ → ℕ → List ℕ → Type 0) : Type 0 where
  pub aside : (other : Image) → sizes image ≡ sizes other → SameBut touched image other → AgreeOnBase f image other
  pub nodes_aside : (other : Image) → sizes image ≡ sizes other → SameBut touched image other → AgreeOnWriting f writing image other
  pub more : (dev block : ℕ) → IsAsked f.layout writing asked dev block → IsAsked f.layout writing count dev block
  pub within : (dev place : ℕ) → dev < f.layout.metadata_replicas → place < f.layout.journal → touched dev (16 + place) → IsAsked f.layout writing count dev (16 + place)
  pub own : (dev place : ℕ) (bytes : List ℕ) → dev < f.layout.metadata_replicas → place < f.layout.journal → IsTrue (opens bytes) → asks_for dev (16 + place) bytes → IsWritingBlock f.layout writing dev (16 + place) bytes
  pub few : IfSome writing (λ w. count ≤ length w.blocks)

module _ (f : Found) (image : Image) (writing : Option Writing) (asked written first : ℕ) (old : DevicesState) (stands : StandsOn f image writing asked written first old) (new : DevicesState) (touched : ℕ → ℕ → Type 0) (asks_for : ℕ → ℕ → List ℕ → Type 0)
    (call : AsksAt touched asks_for old new) (count : ℕ) (harmless : IsHarmless f image writing asked count touched asks_for) where
  -- Whatever is left meanwhile has the sizes that the image has.
  abbrev pub HasSizes : Type 0
  HasSizes = (m : ℕ) → old.moment ≤ m → m ≤ new.moment → (other : Image) → IsCrashImage (new.disks m) other → sizes image ≡ sizes other

  module _ (sized : HasSizes) where
    pub left_agrees : (m : ℕ) → old.moment ≤ m → m ≤ new.moment → (other : Image) → IsCrashImage (new.disks m) other → AgreesBut f (IsAsked f.layout writing count) image other
    left_agrees m lo hi other may =
        let left = call.crashes.each m lo hi other may in
        let agrees = stands.crashes left.0 left.1 in
        record {
          base = base_more touched image left.0 other (sized m lo hi other may) left.2 f harmless.aside agrees.base;
          journal = λ dev place mirror within away.
              agrees.journal dev place mirror within (λ before. away (harmless.more dev (16 + place) before))
              ∙ left.2 dev (16 + place) (λ hit. away (harmless.within dev place mirror within hit));
        }

    pub nodes_left : (m : ℕ) → old.moment ≤ m → m ≤ new.moment → (other : Image) → IsCrashImage (new.disks m) other → AgreeOnWriting f writing image other
    nodes_left m lo hi other may =
        let left = call.crashes.each m lo hi other may in
        writing_more touched image left.0 other (sized m lo hi other may) left.2 f writing harmless.nodes_aside (stands.nodes left.0 left.1)

    pub held_at : (m : ℕ) → old.moment ≤ m → m ≤ new.moment → AreReadsUntorn f.layout first m new → HoldKnown f.layout image writing (new.disks m)
    held_at m lo hi untorn dev place bytes mirror within is_open held =
        let begun = stands.begun in
        let here : HasNoChanceMatch opens dev (16 + place) old.moment m new = λ n from to. untorn dev place mirror within n (omega (arith, begun, from)) to in
        ⊎_elim
        (λ (before : HaveHeld (now old) dev (16 + place) bytes).
        stands.held (untorn_before f.layout first old.moment m old new call.crashes.past lo (omega arith) untorn) dev place bytes mirror within is_open before)
        (λ (asks : asks_for dev (16 + place) bytes). inr (harmless.own dev place bytes mirror within is_open asks))
        (call.asks opens m lo hi dev (16 + place) here bytes is_open held)

    pub stands_on : (standing : ℕ) → All IsDisk (now new) → HoldParts f.layout writing standing (as_read (now new)) → StandsOn f image writing count standing first new
    stands_on standing are stand =
        let later = call.crashes.later in
        let begun = stands.begun in
        record {
          finds = stands.finds;
          in_order = stands.in_order;
          whole = stands.whole;
          alike = stands.alike;
          placed = stands.placed;
          numbered = stands.numbered;
          is = stands.is;
          few = harmless.few;
          begun = omega (arith, later, begun);
          disks = are;
          crashes = left_agrees new.moment later (omega arith);
          nodes = nodes_left new.moment later (omega arith);
          held = held_at new.moment later (omega arith);
          stand = stand;
        }

  -- They have where nothing behind the journal areas is touched.
  pub sizes_kept : AreSteady new → ((dev block : ℕ) → touched dev block → block < 16 + f.layout.journal) → HasSizes
  sizes_kept steady low m lo hi other may =
      let left = call.crashes.each m lo hi other may in
      let agrees = stands.crashes left.0 left.1 in
      let past = call.crashes.past old.moment (omega arith) in
      let later = call.crashes.later in
      let as_many : length other ≡ length (now old) = as_many_left (new.disks m) other may ∙ steady m hi ∙ sym (steady old.moment later) ∙ ap (λ (ds : List Disk). length ds) past in
      let before : length left.0 ≡ length (now old) = as_many_left (now old) left.0 left.1 in
      agrees.base.lengths
      ∙ sizes_stay image f stands.finds left.0 other agrees.base.lengths (omega (arith, as_many, before)) (λ dev block far. left.2 dev block (λ hit. let near = low dev block hit in omega (arith, far, near)))
