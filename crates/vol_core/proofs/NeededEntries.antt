-- Where needed entries begin: for the first ones left out, and for a further one behind.
use Rattle.std.proofs.Common.{◌≡◌, ◌≤◌, ◌+◌, ℕ, zero, suc, Option, Some, None, List, [], ◌∷◌, ◌++◌, drop, length, refl, sym, ap, subst, ◌∙◌, arith}
use Rattle.std.proofs.lemmas.List.{drop-append-le, length-append}
use Rattle.std.specs.Prelude.{slice_index_or}
use Rattle.core_volume.specs.Volumes.{Volume}
use Rattle.journal_writer.specs.Writers.{passed}
use Rattle.journal_writer.specs.declared.writer.Flight.{Flight}
use Rattle.image_view.specs.Found.{Found}
use Rattle.image_view.specs.NextEntries.{IsNext}
use Rattle.journal_ring.specs.declared.found.FoundEntry.{FoundEntry}
use Rattle.crash_safety.specs.Writings.{Writing}
use Rattle.pin_list.specs.Pins.{smaller}
use Rattle.vol_core.specs.Entries.{AreStarts, IsKnown}

-- There are as many numbers as entries.
pub starts_count : (starts : List ℕ) (entries : List FoundEntry) → AreStarts starts entries → length starts ≡ length entries
starts_count [] [] are = refl
starts_count [] (entry ∷ entries) are = absurd are
starts_count (start ∷ starts) [] are = absurd are
starts_count (start ∷ starts) (entry ∷ entries) are = ap suc (starts_count starts entries are.1)

-- A further entry comes behind.
pub starts_push : (starts : List ℕ) (entries : List FoundEntry) (start : ℕ) (entry : FoundEntry) → AreStarts starts entries → start ≤ entry.number → AreStarts (starts ++ start ∷ []) (entries ++ entry ∷ [])
starts_push [] [] start entry are low = (low, tt)
starts_push [] (other ∷ entries) start entry are low = absurd are
starts_push (other ∷ starts) [] start entry are low = absurd are
starts_push (here ∷ starts) (other ∷ entries) start entry are low = (are.0, starts_push starts entries start entry are.1 low)

-- The first ones are left out.
pub starts_drop : (count : ℕ) (starts : List ℕ) (entries : List FoundEntry) → AreStarts starts entries → AreStarts (drop count starts) (drop count entries)
starts_drop zero starts entries are = are
starts_drop (suc count) [] [] are = tt
starts_drop (suc count) [] (entry ∷ entries) are = absurd are
starts_drop (suc count) (start ∷ starts) [] are = absurd are
starts_drop (suc count) (start ∷ starts) (entry ∷ entries) are = starts_drop count starts entries are.1

-- The first number doesn't pass that of the first entry.
pub starts_first : (starts : List ℕ) (entries : List FoundEntry) (entry : FoundEntry) → AreStarts starts entries → slice_index_or starts 0 0 ≤ (slice_index_or entries 0 entry).number
starts_first [] [] entry are = omega arith
starts_first [] (other ∷ entries) entry are = absurd are
starts_first (start ∷ starts) [] entry are = absurd are
starts_first (start ∷ starts) (other ∷ entries) entry are = are.0

-- The smaller of a number and a pin is at most that number.
pub smaller_within : (number : ℕ) (pin : Option ℕ) → smaller number pin ≤ number
smaller_within number None = omega arith
smaller_within number (Some pin) = omega arith

-- The entry in flight passes as many starts as the entry that is written passes needed ones.
pub starts_passed : (f : Found) (volume : Volume) (flight : Flight) (w : Writing) → IsKnown f volume → IsNext f w.passed w.next → w.next.entry.oldest ≡ flight.oldest → AreStarts volume.writer.starts (f.needed ++ w.next ∷ [])
    → AreStarts (drop (passed flight.oldest volume.writer) volume.writer.starts) (drop w.passed f.needed ++ w.next ∷ [])
starts_passed f volume flight w known next here starts =
    subst (λ (n : ℕ). AreStarts (drop n volume.writer.starts) (drop w.passed f.needed ++ w.next ∷ [])) (sym passed_is)
    (subst (λ (entries : List FoundEntry). AreStarts (drop w.passed volume.writer.starts) entries) (drop-append-le w.passed f.needed (w.next ∷ []) next.passes) (starts_drop w.passed volume.writer.starts (f.needed ++ w.next ∷ []) starts))
  where
    passed_is : passed flight.oldest volume.writer ≡ w.passed
    passed_is =
        let count : length volume.writer.starts ≡ length f.needed + 1 = starts_count volume.writer.starts (f.needed ++ w.next ∷ []) starts ∙ length-append f.needed (w.next ∷ []) in
        let oldest = known.oldest in
        let new = next.oldest in
        let most = next.passes in
        omega (arith, count, oldest, here, new, most)
