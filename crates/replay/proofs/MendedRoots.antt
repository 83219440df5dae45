-- What mending one root more leaves of those before it and of all others.
use Rattle.std.proofs.Common.{◌≡◌, inl, inr, ⊎_elim, ℕ, ◌+◌, ◌<◌, ◌≤◌, false, List, length, get_or, refl, sym, ap, subst, ◌∙◌, arith}
use Rattle.std.specs.Prelude.{All, Contains}
use Rattle.std.proofs.lemmas.Bool.{cases_eq, cases_lt}
use Rattle.std.proofs.lemmas.List.{get_or_default}
use Rattle.std.proofs.lemmas.List.Elements.{All-from_get_or, All-get_or}
use Rattle.dev_model.specs.CrashLaws.{as_read_may_be_left, started}
use Rattle.dev_model.specs.Crashes.{EachCrash, IsQuiet}
use Rattle.dev_model.specs.Devices.{DevicesState, now}
use Rattle.dev_model.specs.Disk.{Disk, Image, IsCrashImage, IsDisk, as_read, block_at}
use Rattle.dev_model.specs.Frames.{AreNoFewer}
use Rattle.geometry.specs.Faults.{DeviceFailed}
use Rattle.image_view.specs.BaseLaws.{copies-same}
use Rattle.image_view.specs.Bases.{AgreeInBucket}
use Rattle.node_store.specs.Answers.{AreAlike}
use Rattle.node_store.specs.Mending.{IsShown, StayShown, WritesOnly, is_of_node}
use Rattle.node_store.proofs.MendedFrames.{failed_earlier, failed_later, writes_more, writes_then}
use Rattle.vol_types.specs.Limits.{bucket_blocks}
use Rattle.vol_types.specs.declared.layout.Layout.{Layout}
use Rattle.vol_types.specs.declared.pointers.NodeEnd.{NodeEnd}
use Rattle.vol_types.specs.declared.pointers.NodePtr.{NodePtr}
use Rattle.vol_types.specs.declared.pointers.Place.{Place}
use Rattle.replay.specs.Roots.{IsBlockOf, IsMendedIn, IsToMendIn, IsToMendOf, IsWantedIn, IsWantedOf, ShareNoBlock, StaysShownUpTo, no_node}
use Rattle.replay.proofs.RootPlaces.{can_again}

-- ---- what is shown

-- What is shown is shown in an image that is the same.
pub shown_still : (id : List ℕ) (birth : ℕ) (places : List Place) (end : ℕ) (one other : Image) → other ≡ one → StayShown id birth places end one other
shown_still id birth places end one other same n bytes lower shown = record {
  place = shown.place;
  of_node = shown.one;
  opens = ap (is_of_node id birth) shown.stands ∙ shown.opens;
  stays = ap (λ (image : Image). block_at image shown.place.dev (shown.place.block + n)) same;
}

-- At first all is shown that is.
pub all_shown : (id : List ℕ) (ends : List NodeEnd) (roots : List NodePtr) (state : DevicesState) → IsQuiet (now state) → EachCrash (λ _ _ image. All (StaysShownUpTo id ends (as_read (now state)) image) roots) state state
all_shown id ends roots state quiet = started (λ _ _ image. All (StaysShownUpTo id ends (as_read (now state)) image) roots) state (λ image may.
    All-from_get_or (StaysShownUpTo id ends (as_read (now state)) image) roots no_node (λ k lower end listed within. shown_still id (get_or roots k no_node).birth (get_or roots k no_node).places end (as_read (now state)) image (quiet image may)))

-- ---- one root more

-- What is to be mended of a root is a block of it.
pub block_to_mend : (id : List ℕ) (ends : List NodeEnd) (root : NodePtr) (image : Image) (failed : ℕ → Type 0) (d b : ℕ) → IsToMendIn id ends root image failed d b → IsBlockOf root d b
block_to_mend id ends root image failed d b at = record { number = at.mends.number; below = (let lower = at.mends.below in let few = at.within in omega (arith, lower, few)); copy = at.mends.copy }

-- A block of a place is a block of the node.
pub block_of_place : (node : NodePtr) (place : Place) (n : ℕ) → Contains node.places place → n < bucket_blocks → IsBlockOf node place.dev (place.block + n)
block_of_place node place n there below = record { number = n; below = below; copy = (place, there, refl, refl) }

module _ (layout : Layout) (ends : List NodeEnd) (roots : List NodePtr) (index : ℕ) (within : index < length roots) (apart : ShareNoBlock roots) (first mid new : DevicesState) (before : AreNoFewer first.faults.calls mid.faults.calls) (after : AreNoFewer mid.faults.calls new.faults.calls) where
  abbrev id : List ℕ
  id = layout.id

  abbrev image : Image
  image = as_read (now first)

  abbrev here : Image
  here = as_read (now mid)

  abbrev root : NodePtr
  root = get_or roots index no_node

  -- a call of the device failed up to this root, while it was mended, or in all
  abbrev earlier : ℕ → Type 0
  earlier dev = DeviceFailed dev first.faults mid.faults

  abbrev meanwhile : ℕ → Type 0
  meanwhile dev = DeviceFailed dev mid.faults new.faults

  abbrev in_all : ℕ → Type 0
  in_all dev = DeviceFailed dev first.faults new.faults

  module _ (so_far : WritesOnly (IsToMendOf id ends roots index image earlier) (IsWantedOf id ends roots index image) first mid) where
    -- The blocks of this root are as they were.
    as_first : (d b : ℕ) → IsBlockOf root d b → block_at image d b ≡ block_at here d b
    as_first d b is = so_far.elsewhere d b (λ at.
        let node : NodePtr = get_or roots at.index no_node in
        let same : at.index ≡ index = apart at.index index d b at.inside within (block_to_mend id ends node image earlier d b at.mends) is in
        let below = at.below in
        omega (arith, same, below))

    module _ (call : WritesOnly (IsToMendIn id ends root here meanwhile) (IsWantedIn id ends root here) mid new) where
      pub writes_more_roots : (count : ℕ) → index < count → WritesOnly (IsToMendOf id ends roots count image in_all) (IsWantedOf id ends roots count image) first new
      writes_more_roots count more = writes_then (IsToMendOf id ends roots count image in_all) (IsToMendIn id ends root here meanwhile) (IsWantedOf id ends roots count image) (IsWantedIn id ends root here) first mid new
          (λ d b at.
          let m = at.mends in
          record {
            index = index;
            below = more;
            inside = within;
            mends = record {
              end = at.end;
              listed = at.listed;
              within = at.within;
              mends = record {
                number = m.number;
                below = m.below;
                copy = m.copy;
                lacks = ⊎_elim
                    (λ (lacks : is_of_node id root.birth (block_at here d b) ≡ false). inl (ap (is_of_node id root.birth) (as_first d b (block_to_mend id ends root here meanwhile d b at)) ∙ lacks))
                    (λ (failed : meanwhile d). inr (failed_later d first.faults mid.faults new.faults before failed)) m.lacks;
              };
            };
          })
          (λ d b x at.
          let w = at.wanted in
          let shown = w.shown in
          let few = at.within in
          let lower = w.below in
          record {
            index = index;
            below = more;
            inside = within;
            wanted = record {
              end = at.end;
              listed = at.listed;
              within = at.within;
              wanted = record {
                number = w.number;
                below = w.below;
                copy = w.copy;
                shown = record {
                  place = shown.place;
                  one = shown.one;
                  stands = as_first shown.place.dev (shown.place.block + w.number) (block_of_place root shown.place w.number shown.one (omega (arith, lower, few))) ∙ shown.stands;
                  opens = shown.opens;
                };
              };
            };
          })
          (writes_more (IsToMendOf id ends roots count image in_all) (IsToMendOf id ends roots index image earlier) (IsWantedOf id ends roots count image) (IsWantedOf id ends roots index image) first mid
          (λ d b at. record {
            index = at.index;
            below = (let low = at.below in omega (arith, low, more));
            inside = at.inside;
            mends = record {
              end = at.mends.end;
              listed = at.mends.listed;
              within = at.mends.within;
              mends = record {
                number = at.mends.mends.number;
                below = at.mends.mends.below;
                copy = at.mends.mends.copy;
                lacks = ⊎_elim
                    (λ (lacks : is_of_node id (get_or roots at.index no_node).birth (block_at image d b) ≡ false). inl lacks)
                    (λ (failed : earlier d). inr (failed_earlier d first.faults mid.faults new.faults after failed)) at.mends.mends.lacks;
              };
            };
          })
          (λ d b x at. record { index = at.index; below = (let low = at.below in omega (arith, low, more)); inside = at.inside; wanted = at.wanted })
          so_far)
          call

      -- A block of another root isn't touched.
      spared : (k : ℕ) → k < length roots → ¬ (k ≡ index) → (d b : ℕ) → IsBlockOf (get_or roots k no_node) d b → ¬ IsToMendIn id ends root here meanwhile d b
      spared k low other d b is at = other (apart k index d b low within is (block_to_mend id ends root here meanwhile d b at))

      -- What other roots show stays,
      others_stay : (k : ℕ) → k < length roots → ¬ (k ≡ index) → All (AgreeInBucket here (as_read (now new))) (get_or roots k no_node).places
      others_stay k low other j none lower n below =
          let node : NodePtr = get_or roots k no_node in
          let place : Place = get_or node.places j none in
          call.elsewhere place.dev (place.block + n) (spared k low other place.dev (place.block + n) (block_of_place node place n (j, lower, get_or_default node.places j place none lower) below))

      -- and so they stay mended; and this one is.
      pub mended_more_roots : (sizes : List ℕ) → ((k : ℕ) → k < index → k < length roots → IsMendedIn layout ends sizes image here (get_or roots k no_node)) → IsMendedIn layout ends sizes here (as_read (now new)) root
          → (k : ℕ) → k < index + 1 → k < length roots → IsMendedIn layout ends sizes image (as_read (now new)) (get_or roots k no_node)
      mended_more_roots sizes so_far_mended this k le low = ⊎_elim
          (λ (less : k < index). λ end listed on can.
          subst (AreAlike end) (sym (copies-same here (as_read (now new)) (get_or roots k no_node).places (others_stay k low (λ same. omega (arith, less, same))))) (so_far_mended k less low end listed on can))
          (λ (last : index ≤ k). subst (λ n. IsMendedIn layout ends sizes image (as_read (now new)) (get_or roots n no_node)) (let e : index ≡ k = omega (arith, last, le) in e) this_first)
          (cases_lt k index)
        where
          agree : All (AgreeInBucket image here) root.places
          agree j none lower n below =
              let place : Place = get_or root.places j none in
              as_first place.dev (place.block + n) (block_of_place root place n (j, lower, get_or_default root.places j place none lower) below)

          this_first : IsMendedIn layout ends sizes image (as_read (now new)) root
          this_first end listed on can = this end listed on (can_again image here root.places agree layout root.birth end sizes can)

      -- ---- what is shown meanwhile

      module _ (are : All IsDisk (now mid)) (quiet : IsQuiet (now mid)) (shown : EachCrash (λ _ _ left. All (StaysShownUpTo id ends image left) roots) first mid) (kept : EachCrash (λ _ _ left. StaysShownUpTo id ends here left root) mid new) where
        -- What was shown of this root is shown still,
        this_shown : (m : ℕ) → mid.moment ≤ m → m ≤ new.moment → (left : Image) → IsCrashImage (new.disks m) left → StaysShownUpTo id ends image left root
        this_shown m lo hi left may end listed few n bytes lower is =
            let below : n < bucket_blocks = omega (arith, lower, few) in
            let shown_here : IsShown id root.birth root.places here n bytes = record {
              place = is.place;
              one = is.one;
              stands = sym (as_first is.place.dev (is.place.block + n) (block_of_place root is.place n is.one below)) ∙ is.stands;
              opens = is.opens;
            } in
            let still = kept.each m lo hi left may end listed few n bytes lower shown_here in
            let same = as_first still.place.dev (still.place.block + n) (block_of_place root still.place n still.of_node below) in
            record { place = still.place; of_node = still.of_node; opens = ap (is_of_node id root.birth) same ∙ still.opens; stays = still.stays ∙ sym same }

        -- and so is what was shown of another one.
        other_shown : (k : ℕ) → k < length roots → ¬ (k ≡ index) → (m : ℕ) → mid.moment ≤ m → m ≤ new.moment → (left : Image) → IsCrashImage (new.disks m) left → StaysShownUpTo id ends image left (get_or roots k no_node)
        other_shown k low other m lo hi left may end listed few n bytes lower is =
            let node : NodePtr = get_or roots k no_node in
            let still = All-get_or (StaysShownUpTo id ends image here) roots k no_node low (shown.each mid.moment shown.later (omega arith) here (as_read_may_be_left (now mid) are)) end listed few n bytes lower is in
            let left_so = call.crashes.each m lo hi left may in
            let place : Place = still.place in
            let untouched = left_so.2 place.dev (place.block + n) (spared k low other place.dev (place.block + n) (block_of_place node place n still.of_node (omega (arith, lower, few)))) in
            record {
              place = place;
              of_node = still.of_node;
              opens = still.opens;
              stays = sym untouched ∙ ap (λ (i : Image). block_at i place.dev (place.block + n)) (quiet left_so.0 left_so.1) ∙ still.stays;
            }

        pub shown_more_roots : EachCrash (λ _ _ left. All (StaysShownUpTo id ends image left) roots) first new
        shown_more_roots = record {
          later = omega (arith, shown.later, kept.later);
          past = λ m le. kept.past m (omega (arith, le, shown.later)) ∙ shown.past m le;
          each = λ m lo hi left may. ⊎_elim
              (λ (since : mid.moment < m). All-from_get_or (StaysShownUpTo id ends image left) roots no_node (λ k low. ⊎_elim
              (λ (this : k ≡ index). subst (λ n. StaysShownUpTo id ends image left (get_or roots n no_node)) (sym this) (this_shown m (omega (arith, since)) hi left may))
              (λ (other : ¬ (k ≡ index)). other_shown k low other m (omega (arith, since)) hi left may)
              (cases_eq k index)))
              (λ (until : m ≤ mid.moment). shown.each m lo until left (subst (λ (ds : List Disk). IsCrashImage ds left) (kept.past m until) may))
              (cases_lt mid.moment m);
        }
