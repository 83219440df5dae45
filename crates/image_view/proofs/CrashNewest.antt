-- In whatever a crash leaves, the newest entry is the one that was found, where nothing that is made of held blocks passes it.
use Rattle.std.proofs.Common.{◌≡◌, ℕ, ◌<◌, List, [], ◌∷◌, map, length, Some, Ok, arith}
use Rattle.std.proofs.lemmas.List.Elements.{All-head, All-tail, All-nil, All-cons}
use Rattle.std.specs.Prelude.{All}
use Rattle.dev_model.specs.Disk.{Disk, Image}
use Rattle.geometry.specs.LayoutFacts.{has_places}
use Rattle.geometry.specs.SuperLaws.{layout_fits}
use Rattle.journal_ring.specs.Counting.{needed_by, newest}
use Rattle.journal_ring.specs.Entries.{AgreeFrom, IsWhole, IsWholeOn}
use Rattle.journal_ring.specs.Leading.{IsBehind, IsGreatest, Leads}
use Rattle.journal_ring.specs.Parts.{Area, area_of}
use Rattle.journal_ring.specs.declared.found.FoundEntry.{FoundEntry}
use Rattle.vol_types.specs.declared.layout.Layout.{Layout}
use Rattle.image_view.specs.BaseLaws.{found-layout, found-newest}
use Rattle.image_view.specs.Bases.{AgreeOnBase, IsNewest}
use Rattle.image_view.specs.CrashEntries.{IsHeldEntry, NonePasses, OnlyHeldEntriesOpen, whole-held}
use Rattle.image_view.specs.Found.{Found, found}

-- what the journal says of needed entries
abbrev pub Again : Type 0
Again = (layout : Layout) (one other : Area) (last : FoundEntry) (needed : List FoundEntry) → 0 < layout.journal → newest layout one ≡ Some last
    → needed_by layout one last ≡ Ok needed → All (Leads layout other) needed → IsGreatest layout other last.entry.sequence
    → (newest layout other ≡ Some last) × (needed_by layout other last ≡ Ok needed)

abbrev pub AreWhole : Type 0
AreWhole = (layout : Layout) (area : Area) (last : FoundEntry) (needed : List FoundEntry) → 0 < layout.journal → newest layout area ≡ Some last
    → needed_by layout area last ≡ Ok needed → All (IsWhole layout area) needed

abbrev pub StayWhole : Type 0
StayWhole = (layout : Layout) (one other : Area) (dev : ℕ) (found : FoundEntry) → IsWholeOn layout one dev found → AgreeFrom layout one other found.number found.end → IsWholeOn layout other dev found

module _ (again : Again) (are_whole : AreWhole) (stay : StayWhole) where
  module _ (one other : Image) (f : Found) (disks : List Disk) (some : 0 < f.layout.journal) (only : OnlyHeldEntriesOpen f.layout disks other) (none : NonePasses f disks other) where
    -- What is whole is made of held blocks, and so behind what leads.
    leads : (entry : FoundEntry) → IsWhole f.layout (area_of other) entry
        → ((dev : ℕ) (found : FoundEntry) (blocks : List (List ℕ)) → IsWholeOn f.layout (area_of other) dev found → IsHeldEntry f.layout disks other found blocks → found.entry.sequence ≡ entry.entry.sequence → IsBehind found entry) → Leads f.layout (area_of other) entry
    leads entry whole behind = record {
      whole = whole;
      others = λ dev found is named. let held = whole-held f.layout disks other dev found some only is in behind dev found held.0 is held.1 named;
    }

    all_lead : (entries : List FoundEntry) → All (IsWhole f.layout (area_of one)) entries → All (λ entry. AgreeFrom f.layout (area_of one) (area_of other) entry.number entry.end) entries
        → ((dev : ℕ) (found : FoundEntry) (blocks : List (List ℕ)) → IsWholeOn f.layout (area_of other) dev found → IsHeldEntry f.layout disks other found blocks → All (λ needed. found.entry.sequence ≡ needed.entry.sequence → IsBehind found needed) entries) → All (Leads f.layout (area_of other)) entries
    all_lead [] whole agree behind = All-nil (Leads f.layout (area_of other))
    all_lead (entry ∷ entries) whole agree behind =
        let here : IsWhole f.layout (area_of one) entry = All-head (IsWhole f.layout (area_of one)) entry entries whole in
        let same = All-head (λ (e : FoundEntry). AgreeFrom f.layout (area_of one) (area_of other) e.number e.end) entry entries agree in
        All-cons (Leads f.layout (area_of other)) entry entries
        (leads entry (here.0, stay f.layout (area_of one) (area_of other) here.0 entry here.1 same)
        (λ dev found blocks is held. All-head (λ (needed : FoundEntry). found.entry.sequence ≡ needed.entry.sequence → IsBehind found needed) entry entries (behind dev found blocks is held)))
        (all_lead entries (All-tail (IsWhole f.layout (area_of one)) entry entries whole) (All-tail (λ (e : FoundEntry). AgreeFrom f.layout (area_of one) (area_of other) e.number e.end) entry entries agree)
        (λ dev found blocks is held. All-tail (λ (needed : FoundEntry). found.entry.sequence ≡ needed.entry.sequence → IsBehind found needed) entry entries (behind dev found blocks is held)))

  pub crash_newest : (one other : Image) (f : Found) (disks : List Disk) → found one ≡ Ok f → AgreeOnBase f one other → OnlyHeldEntriesOpen f.layout disks other → NonePasses f disks other → IsNewest f other
  crash_newest one other f disks is agree only none =
      let new = found-newest one f is in
      let places = has_places (map (λ blocks. length blocks) one) f.layout (layout_fits one f.layout (found-layout one f is)) in
      let some : 0 < f.layout.journal = let least = places.least in omega (arith, least) in
      let whole = are_whole f.layout (area_of one) f.last f.needed some new.last new.needed in
      let made = again f.layout (area_of one) (area_of other) f.last f.needed some new.last new.needed
      (all_lead one other f disks some only none f.needed whole agree.entries (λ dev entry blocks whole held. (none dev entry blocks whole held).behind))
      (λ dev found there. let held = whole-held f.layout disks other dev found some only there in (none dev found held.0 there held.1).sequence) in
      record { last = made.0; needed = made.1 }
