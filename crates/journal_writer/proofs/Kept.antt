-- What a writer keeps stays so.
use Rattle.std.proofs.Common.{◌≡◌, ◌≤◌, ◌<◌, ◌+◌, ◌^◌, ◌∙◌, ℕ, suc, Bool, false, not, None, List, [], ◌∷◌, ◌++◌, length, min, replicate, refl, sym, ap, subst, arith}
use Rattle.std.specs.Prelude.{All, ◌==◌, slice_index_or}
use Rattle.std.proofs.lemmas.List.{get_or_default, length-append}
use Rattle.std.proofs.lemmas.List.Elements.{All-cons, All-nil, All-push, All-weaker}
use Rattle.journal_writer.specs.Queues.{AreChanges}
use Rattle.journal_writer.specs.declared.changes.Pending.{Pending}
use Rattle.journal_ring.specs.declared.found.FoundEntry.{FoundEntry}
use Rattle.vol_types.specs.Layouts.{IsLayout}
use Rattle.vol_types.specs.declared.layout.Layout.{Layout}
use Rattle.journal_writer.specs.Writers.{IsKept, IsWriter, KnowsRing, Writer, first_of, most_devices, opened_by, starts_of, with_entry, with_flags}
use Rattle.journal_ring.specs.Rings.{RingState, ring_of}

-- The entries that are needed begin before the end of the newest one.
starts_within : (end : ℕ) (needed : List FoundEntry) → All (λ start. start ≤ end) (starts_of end needed)
starts_within end [] = All-nil (λ start. start ≤ end)
starts_within end (found ∷ needed) = All-cons (λ start. start ≤ end) (min found.number end) (starts_of end needed) (omega arith) (starts_within end needed)

starts_count : (end : ℕ) (needed : List FoundEntry) → length (starts_of end needed) ≡ length needed
starts_count end [] = refl
starts_count end (found ∷ needed) = ap suc (starts_count end needed)

-- What is kept of a journal that was read.
pub opened-kept : (layout : Layout) (needed : List FoundEntry) (newest : FoundEntry) → IsLayout layout → 0 < length needed → IsKept layout.metadata_replicas false (opened_by layout needed newest)
opened-kept layout needed newest is some = (
  record {
    area = let most = is.journal_range.1 in omega (arith, most);
    mirrored = let most = is.metadata.1 in omega (arith, most);
    some = subst (λ (n : ℕ). 0 < n) (sym (starts_count newest.end needed)) some;
    first = refl;
    needed = refl;
    within = starts_within newest.end needed;
    parts = omega arith;
    at_rest = λ none. refl;
    flying = tt;
  },
  record { count = refl; parts = refl },
)

module _ (layout : Layout) (needed : List FoundEntry) (newest : FoundEntry) where
  -- What the parts make of a journal that was read.
  pub opened-same : (ring : RingState) (starts : List ℕ) (first : ℕ) (unsettled : List Bool) → ring ≡ ring_of layout newest.end first → first ≡ slice_index_or starts 0 first → starts ≡ starts_of newest.end needed
      → unsettled ≡ with_flags (length layout.blocks) (replicate most_devices false) → 0 < length needed
      → record { ring = ring; flight = None; starts = starts; durable = record { sequence = newest.entry.sequence; commits = newest.entry.commits; oldest = newest.entry.oldest; first = first }; unsettled = unsettled }
      ≡ opened_by layout needed newest
  opened-same ring starts first unsettled ring_is first_is starts_are flags some =
      let there : 0 < length starts = subst (λ (ss : List ℕ). 0 < length ss) (sym starts_are) (subst (λ (n : ℕ). 0 < n) (sym (starts_count newest.end needed)) some) in
      let begins : first ≡ first_of (starts_of newest.end needed) = first_is ∙ sym (get_or_default starts 0 0 first there) ∙ ap first_of starts_are in
      λ i. record {
        ring = (ring_is ∙ ap (ring_of layout newest.end) begins) i;
        flight = None;
        starts = starts_are i;
        durable = record { sequence = newest.entry.sequence; commits = newest.entry.commits; oldest = newest.entry.oldest; first = begins i };
        unsettled = flags i;
      }

-- The first number stays the first one behind which others come.
first_stays : (starts more : List ℕ) → 0 < length starts → first_of starts ≡ first_of (starts ++ more)
first_stays [] more some = absurd (omega (arith, some))
first_stays (start ∷ starts) more some = refl

-- An entry is put in flight where none is.
module _ (mirrors : ℕ) (begun : Bool) (old : Writer) (is : IsWriter old) (knows : KnowsRing mirrors begun old.ring) (none : old.flight ≡ None) (blocks : List (List ℕ)) (some : 0 < length blocks)
    (entry : Pending) (oldest : ℕ) (sequence : entry.after + 1 < 2 ^ 64) (order : oldest ≤ entry.after + 1) (changes : AreChanges old.ring.mirrors entry.changes) where
  -- No part was written.
  unwritten : old.ring.written ≡ 0
  unwritten = let most = is.parts in let nothing = ap (λ (bs : List (List ℕ)). length bs) (is.at_rest none) in omega (arith, most, nothing)

  pub sealed-kept : IsKept mirrors begun (with_entry blocks entry oldest old)
  sealed-kept = (
    record {
      area = is.area;
      mirrored = is.mirrored;
      some = omega (arith, length-append old.starts (old.ring.next ∷ []), is.some);
      first = is.first ∙ first_stays old.starts (old.ring.next ∷ []) is.some;
      needed = is.needed;
      within = All-push (λ start. start ≤ old.ring.next + length blocks) old.starts old.ring.next (All-weaker (λ start. start ≤ old.ring.next) (λ start. start ≤ old.ring.next + length blocks) (λ start le. omega (arith, le)) old.starts is.within) (omega arith);
      parts = omega arith;
      at_rest = λ nothing. absurd cc;
      flying = record { blocks = some; sequence = sequence; oldest = order; changes = changes };
    },
    record { count = knows.count; parts = knows.parts ∙ ap (λ (n : ℕ). not (n == 0)) unwritten },
  )
