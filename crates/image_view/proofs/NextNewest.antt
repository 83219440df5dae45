-- Where each whole entry passes none of those that were found, or is the next one, the newest entry is the next one if it is whole, and
-- else the one that was found.
use Rattle.std.proofs.Common.{◌≡◌, ◌⊎◌, inl, inr, ⊎_elim, ℕ, zero, suc, ◌+◌, ◌-◌, ◌<◌, ◌≤◌, List, [], ◌∷◌, ◌++◌, length, drop, get_or, Option, Some, None, Ok, refl, sym, ap, subst, ◌∙◌, arith}
use Rattle.std.proofs.lemmas.Bool.{cases_lt}
use Rattle.std.proofs.lemmas.List.{get_or-drop, length-drop}
use Rattle.std.proofs.lemmas.List.Elements.{All-from_get_or, All-get_or}
use Rattle.std.proofs.lemmas.Option.{none-some, same_Some}
use Rattle.std.specs.Prelude.{All}
use Rattle.dev_model.specs.Disk.{Disk, Image}
use Rattle.journal_ring.specs.Counting.{needed_by, newest}
use Rattle.journal_ring.specs.Entries.{IsWhole, IsWholeOn, entry_on}
use Rattle.journal_ring.specs.EntryLaws.{number_found}
use Rattle.journal_ring.specs.Leading.{AreFrom, IsBehind, IsGreatest, Leads}
use Rattle.journal_ring.specs.Parts.{Area, area_of}
use Rattle.journal_ring.specs.declared.found.FoundEntry.{FoundEntry}
use Rattle.vol_types.specs.declared.layout.Layout.{Layout}
use Rattle.image_view.proofs.CrashNewest.{Again, StayWhole, crash_newest}
use Rattle.image_view.proofs.NeededEntries.{AreNeeded, HaveSequences, ReadLaws, are_from, are_needed, needed_whole, some_places}
use Rattle.image_view.specs.Bases.{AgreeOnBase, IsNewest}
use Rattle.image_view.specs.CrashEntries.{OnlyHeldEntriesOpen, whole-held}
use Rattle.image_view.specs.Found.{Found, PassesNone, found}
use Rattle.image_view.specs.NextEntries.{IsNext, NonePassesBut, with_entry}
use Rattle.image_view.specs.Trees.{TreesRead}

-- What is said of the journal besides: which entries count, and that whole ones stay while their places do.
pub record NewestLaws : Type 0 where
  pub read : ReadLaws
  pub again : Again
  pub stay : StayWhole
  pub greatest : (layout : Layout) (area : Area) (last : FoundEntry) → 0 < layout.journal → Leads layout area last → IsGreatest layout area last.entry.sequence → newest layout area ≡ Some last
  pub from : (layout : Layout) (area : Area) (last : FoundEntry) (entries : List FoundEntry) → 0 < layout.journal → AreFrom last.entry.oldest entries
      → length entries ≡ last.entry.sequence - last.entry.oldest → All (Leads layout area) entries → needed_by layout area last ≡ Ok (entries ++ last ∷ [])

-- Each whole entry passes none of those that were found, or it is the next one.
abbrev pub EachPasses : Found → FoundEntry → Area → Type 0
EachPasses f next area = (dev : ℕ) (x : FoundEntry) → IsWholeOn f.layout area dev x → PassesNone f x ⊎ (x ≡ next)

-- Entries of which one is the other have one sequence.
same_sequence : (one other : FoundEntry) → one ≡ other → one.entry.sequence ≡ other.entry.sequence
same_sequence one other same = ap (λ (e : FoundEntry). e.entry.sequence) same

-- No needed entry has the next one's sequence.
pub other_sequence : (f : Found) (passed : ℕ) (next : FoundEntry) → IsNext f passed next → AreNeeded f → (k : ℕ) → k < length f.needed → next.entry.sequence ≡ (get_or f.needed k f.last).entry.sequence → ⊥
other_sequence f passed next is_next needed k lower same =
    let at = needed.sequences k f.last lower in
    let count = needed.count in
    let oldest = needed.oldest in
    let later = is_next.sequence in
    omega (arith, at, count, oldest, later, same, lower)

module _ (laws : NewestLaws) (f : Found) (passed : ℕ) (next : FoundEntry) (is_next : IsNext f passed next) (needed : AreNeeded f) (some : 0 < f.layout.journal) (area : Area) (each : EachPasses f next area) where
  module _ (whole : IsWhole f.layout area next) (still : (k : ℕ) → passed ≤ k → k < length f.needed → IsWhole f.layout area (get_or f.needed k f.last)) where
    next_leads : Leads f.layout area next
    next_leads = record {
      whole = whole;
      others = λ dev x is named. ⊎_elim
          (λ (none : PassesNone f x).
          let passes = none.sequence in
          let later = is_next.sequence in
          absurd (omega (arith, passes, later, named)))
          (λ (same : x ≡ next). inl same)
          (each dev x is);
    }

    needed_leads : (k : ℕ) → passed ≤ k → k < length f.needed → Leads f.layout area (get_or f.needed k f.last)
    needed_leads k from lower = record {
      whole = still k from lower;
      others = λ dev x is named. ⊎_elim
          (λ (none : PassesNone f x). All-get_or (λ (one : FoundEntry). x.entry.sequence ≡ one.entry.sequence → IsBehind x one) f.needed k f.last lower none.behind named)
          (λ (same : x ≡ next). absurd (other_sequence f passed next is_next needed k lower (sym (same_sequence x next same) ∙ named)))
          (each dev x is);
    }

    none_greater : IsGreatest f.layout area next.entry.sequence
    none_greater dev x is = ⊎_elim
        (λ (none : PassesNone f x).
        let passes = none.sequence in
        let later = is_next.sequence in
        omega (arith, passes, later))
        (λ (same : x ≡ next). let as_much = same_sequence x next same in omega (arith, as_much))
        (each dev x is)

    -- the ones that it needs
    abbrev kept : List FoundEntry
    kept = drop passed f.needed

    kept_long : length kept ≡ length f.needed - passed
    kept_long = length-drop passed f.needed

    kept_sequences : HaveSequences next.entry.oldest kept
    kept_sequences k d lower =
        let oldest = is_next.oldest in
        ap (λ (x : FoundEntry). x.entry.sequence) (get_or-drop passed f.needed k d)
        ∙ needed.sequences (passed + k) d (omega (arith, lower, kept_long))
        ∙ (let e : f.last.entry.oldest + (passed + k) ≡ next.entry.oldest + k = omega (arith, oldest) in e)

    kept_lead : All (Leads f.layout area) kept
    kept_lead = All-from_get_or (Leads f.layout area) kept f.last (λ k lower. subst (Leads f.layout area) (sym (get_or-drop passed f.needed k f.last)) (needed_leads (passed + k) (omega arith) (omega (arith, lower, kept_long))))

    kept_count : length kept ≡ next.entry.sequence - next.entry.oldest
    kept_count =
        let count = needed.count in
        let oldest = needed.oldest in
        let passes = is_next.passes in
        let from = is_next.oldest in
        let later = is_next.sequence in
        omega (arith, kept_long, count, oldest, passes, from, later)

    newest_is : newest f.layout area ≡ Some next
    newest_is = laws.greatest f.layout area next some next_leads none_greater

    needed_are : needed_by f.layout area next ≡ Ok (kept ++ next ∷ [])
    needed_are = laws.from f.layout area next kept some (are_from next.entry.oldest kept kept_sequences) kept_count kept_lead

  -- The next entry is whole on one of the first so many metadata devices, or on none of them.
  whole_or_not : (count : ℕ) → count ≤ f.layout.metadata_replicas → ((dev : ℕ) × IsWholeOn f.layout area dev next) ⊎ ((dev : ℕ) → dev < count → IsWholeOn f.layout area dev next → ⊥)
  whole_or_not zero few = inr (λ dev lower is. omega (arith, lower))
  whole_or_not (suc count) few = ⊎_elim
      (λ (found : (dev : ℕ) × IsWholeOn f.layout area dev next). inl found)
      (λ (none : (dev : ℕ) → dev < count → IsWholeOn f.layout area dev next → ⊥). here (entry_on f.layout area count next.number) refl none)
      (whole_or_not count (omega (arith, few)))
    where
      not_here : ((dev : ℕ) → dev < count → IsWholeOn f.layout area dev next → ⊥) → (IsWholeOn f.layout area count next → ⊥) → (dev : ℕ) → dev < suc count → IsWholeOn f.layout area dev next → ⊥
      not_here none not dev lower is = ⊎_elim
          (λ (less : dev < count). none dev less is)
          (λ (more : count ≤ dev). not (subst (λ d. IsWholeOn f.layout area d next) (let e : dev ≡ count = omega (arith, lower, more) in e) is))
          (cases_lt dev count)

      here : (o : Option FoundEntry) → entry_on f.layout area count next.number ≡ o → ((dev : ℕ) → dev < count → IsWholeOn f.layout area dev next → ⊥)
          → ((dev : ℕ) × IsWholeOn f.layout area dev next) ⊎ ((dev : ℕ) → dev < suc count → IsWholeOn f.layout area dev next → ⊥)
      here None at none = inr (not_here none (λ is. none-some next (sym at ∙ is.whole)))
      here (Some x) at none =
          let number : x.number ≡ next.number = number_found f.layout area count next.number x at in
          let is_whole : IsWholeOn f.layout area count x = record { mirror = omega (arith, few); whole = ap (entry_on f.layout area count) number ∙ at } in
          ⊎_elim
          (λ (passes : PassesNone f x). inr (not_here none (λ is.
          let same : x ≡ next = same_Some x next (sym at ∙ is.whole) in
          let as_much = same_sequence x next same in
          let least = passes.sequence in
          let later = is_next.sequence in
          omega (arith, as_much, least, later))))
          (λ (same : x ≡ next). inl (count, subst (IsWholeOn f.layout area count) same is_whole))
          (each count x is_whole)

-- What is found with the next entry is the newest where that is whole, and so are the needed ones that it doesn't pass.
pub next_newest : NewestLaws → (f : Found) (passed : ℕ) (next : FoundEntry) → IsNext f passed next → AreNeeded f → 0 < f.layout.journal → (image : Image) → EachPasses f next (area_of image)
    → IsWhole f.layout (area_of image) next → ((k : ℕ) → passed ≤ k → k < length f.needed → IsWhole f.layout (area_of image) (get_or f.needed k f.last)) → (trees : TreesRead) → IsNewest (with_entry passed next trees f) image
next_newest laws f passed next is_next needed some image each whole still trees = record {
  last = newest_is laws f passed next is_next needed some (area_of image) each whole still;
  needed = needed_are laws f passed next is_next needed some (area_of image) each whole still;
}

-- A needed entry is whole where the image agrees on its places.
pub still_there : NewestLaws → (one other : Image) (f : Found) → found one ≡ Ok f → AgreeOnBase f one other → (k : ℕ) → k < length f.needed → IsWhole f.layout (area_of other) (get_or f.needed k f.last)
still_there laws one other f is agree k lower =
    let whole : IsWhole f.layout (area_of one) (get_or f.needed k f.last) = needed_whole laws.read one f is k f.last lower in
    let same = agree.entries k f.last lower in
    (whole.0, laws.stay f.layout (area_of one) (area_of other) whole.0 (get_or f.needed k f.last) whole.1 same)

-- In whatever a crash leaves the next entry is whole and the newest, or it isn't whole, and the newest is the one that was found.
pub whole_and_newest : NewestLaws → (one other : Image) (f : Found) (disks : List Disk) (passed : ℕ) (next : FoundEntry) (trees : TreesRead) → found one ≡ Ok f → IsNext f passed next → AgreeOnBase f one other
    → OnlyHeldEntriesOpen f.layout disks other → NonePassesBut f next disks other
    → (((dev : ℕ) → IsWholeOn f.layout (area_of other) dev next → ⊥) × IsNewest f other) ⊎ (IsWhole f.layout (area_of other) next × IsNewest (with_entry passed next trees f) other)
whole_and_newest laws one other f disks passed next trees is is_next agree only none =
    let some : 0 < f.layout.journal = some_places laws.read one f is in
    let needed : AreNeeded f = are_needed laws.read one f is in
    let each : EachPasses f next (area_of other) = λ dev x whole. let held = whole-held f.layout disks other dev x some only whole in none dev x held.0 whole held.1 in
    ⊎_elim
    (λ (whole : IsWhole f.layout (area_of other) next). inr (whole, next_newest laws f passed next is_next needed some other each whole (λ k from lower. still_there laws one other f is agree k lower) trees))
    (λ (not : (dev : ℕ) → dev < f.layout.metadata_replicas → IsWholeOn f.layout (area_of other) dev next → ⊥). inl (
      λ dev whole. not dev whole.mirror whole,
      crash_newest laws.again laws.read.are_whole laws.stay one other f disks is agree only (λ dev entry blocks whole held. ⊎_elim
          (λ (passes : PassesNone f entry). passes)
          (λ (same : entry ≡ next). absurd (not dev whole.mirror (subst (IsWholeOn f.layout (area_of other) dev) same whole)))
          (none dev entry blocks whole held)),
    ))
    (whole_or_not laws f passed next is_next needed some (area_of other) each f.layout.metadata_replicas (omega arith))
