-- Areas that are the same on the metadata devices hold the same journal.
use Rattle.std.proofs.Common.{◌≡◌, ℕ, zero, suc, ◌+◌, ◌-◌, ◌%◌, ◌<◌, ◌≤◌, cond, List, Option, Some, None, refl, ap, ◌∙◌, sym, arith}
use Rattle.std.proofs.lemmas.Nat.{mod_below}
use Rattle.std.specs.Prelude.{option_and_then, option_map, ◌==◌}
use Rattle.sealed_block.specs.declared.heads.Head.{Head}
use Rattle.sealed_block.specs.Opening.{opened}
use Rattle.vol_types.specs.declared.layout.Layout.{Layout}
use Rattle.journal_ring.specs.declared.found.FoundEntry.{FoundEntry}
use Rattle.journal_ring.specs.Parts.{Area, AreSame, numbered}
use Rattle.journal_ring.specs.Entries.{IsMadeOf, begun_by, entry_on, entry_under, found_at, is_entry_head}
use Rattle.journal_ring.specs.Counting.{counting, counting_below, counting_on, counting_then, entries_from, entry_at, greatest_below, greatest_on, greater_sequence, journal_by, journal_in, needed_by, newest, read_as, with_one}
use Rattle.journal_ring.specs.EntryLaws.{joined_same}

-- Entries from a sequence on are the same where they are for each sequence.
entries_same : (entry_of other_of : ℕ → Option FoundEntry) → ((sequence : ℕ) → entry_of sequence ≡ other_of sequence) → (sequence count : ℕ) → entries_from entry_of sequence count ≡ entries_from other_of sequence count
entries_same entry_of other_of same sequence zero = refl
entries_same entry_of other_of same sequence (suc count) =
    ap (λ r. with_one r (sequence + count) (entry_of (sequence + count))) (entries_same entry_of other_of same sequence count)
    ∙ ap (with_one (entries_from other_of sequence count) (sequence + count)) (same (sequence + count))

module _ (layout : Layout) (one other : Area) (same : AreSame layout one other) where
  module _ (some : 0 < layout.journal) where
    numbered_same : (dev number : ℕ) → dev < layout.metadata_replicas → numbered layout one dev number ≡ numbered layout other dev number
    numbered_same dev number mirror = same dev (number % layout.journal) mirror (mod_below number layout.journal some)

    -- The same entries are whole,
    entry_on_same : (dev number : ℕ) → dev < layout.metadata_replicas → entry_on layout one dev number ≡ entry_on layout other dev number
    unfolding entry_on
    entry_on_same dev number mirror =
        ap (λ o. option_and_then (begun_by layout one dev number) (option_and_then opened o)) (numbered_same dev number mirror)
        ∙ begun_same (option_and_then opened (numbered layout other dev number))
      where
        begun_same : (o : Option Head) → option_and_then (begun_by layout one dev number) o ≡ option_and_then (begun_by layout other dev number) o
        begun_same None = refl
        begun_same (Some head) =
            ap (λ j. cond {A = Option FoundEntry} (is_entry_head layout.id number head) (option_map (found_at number head) (option_and_then (entry_under head) j)) None)
            (joined_same layout one other dev head mirror (λ d p within lower. numbered_same d (head.number + p) within) head.parts (omega arith))

    -- and are made of the same blocks.
    pub made_same : (found : FoundEntry) (blocks : List (List ℕ)) → IsMadeOf layout one found blocks → IsMadeOf layout other found blocks
    made_same found blocks is = record {
      first = is.first;
      payload = is.payload;
      begins = is.begins;
      is_head = is.is_head;
      session = is.session;
      sequence = is.sequence;
      end = is.end;
      stand = λ p lower. let at = is.stand p lower in (at.0, at.1, sym (numbered_same at.0 (found.number + p) at.1) ∙ at.2);
      record_is = is.record_is;
      read = is.read;
    }

  -- So are those that stand at a place,
  entry_at_same : (dev place : ℕ) → dev < layout.metadata_replicas → place < layout.journal → entry_at layout one dev place ≡ entry_at layout other dev place
  entry_at_same dev place mirror within =
      ap (λ o. option_and_then (λ (head : Head). cond {A = Option FoundEntry} (head.number % layout.journal == place) (entry_on layout one dev head.number) None) (option_and_then opened o)) (same dev place mirror within)
      ∙ head_same (option_and_then opened (other dev place))
    where
      head_same : (o : Option Head) → option_and_then (λ (head : Head). cond {A = Option FoundEntry} (head.number % layout.journal == place) (entry_on layout one dev head.number) None) o ≡ option_and_then (λ (head : Head). cond {A = Option FoundEntry} (head.number % layout.journal == place) (entry_on layout other dev head.number) None) o
      head_same None = refl
      head_same (Some head) = ap (λ e. cond {A = Option FoundEntry} (head.number % layout.journal == place) e None) (entry_on_same (omega (arith, within)) dev head.number mirror)

  -- the one that counts for a sequence,
  counting_on_same : (sequence dev : ℕ) → dev < layout.metadata_replicas → (before : Option FoundEntry) (count : ℕ) → count ≤ layout.journal → counting_on layout one sequence dev before count ≡ counting_on layout other sequence dev before count
  counting_on_same sequence dev mirror before zero within = refl
  counting_on_same sequence dev mirror before (suc place) within =
      ap (λ b. counting_then sequence b (entry_at layout one dev place)) (counting_on_same sequence dev mirror before place (omega (arith, within)))
      ∙ ap (counting_then sequence (counting_on layout other sequence dev before place)) (entry_at_same dev place mirror within)

  counting_below_same : (sequence count : ℕ) → count ≤ layout.metadata_replicas → counting_below layout one sequence count ≡ counting_below layout other sequence count
  counting_below_same sequence zero within = refl
  counting_below_same sequence (suc dev) within =
      counting_on_same sequence dev within (counting_below layout one sequence dev) layout.journal (omega arith)
      ∙ ap (λ b. counting_on layout other sequence dev b layout.journal) (counting_below_same sequence dev (omega (arith, within)))

  counting_same : (sequence : ℕ) → counting layout one sequence ≡ counting layout other sequence
  unfolding counting
  counting_same sequence = counting_below_same sequence layout.metadata_replicas (omega arith)

  -- the greatest sequence,
  greatest_on_same : (dev : ℕ) → dev < layout.metadata_replicas → (before : Option ℕ) (count : ℕ) → count ≤ layout.journal → greatest_on layout one dev before count ≡ greatest_on layout other dev before count
  greatest_on_same dev mirror before zero within = refl
  greatest_on_same dev mirror before (suc place) within =
      ap (λ b. greater_sequence b (entry_at layout one dev place)) (greatest_on_same dev mirror before place (omega (arith, within)))
      ∙ ap (greater_sequence (greatest_on layout other dev before place)) (entry_at_same dev place mirror within)

  greatest_below_same : (count : ℕ) → count ≤ layout.metadata_replicas → greatest_below layout one count ≡ greatest_below layout other count
  greatest_below_same zero within = refl
  greatest_below_same (suc dev) within =
      greatest_on_same dev within (greatest_below layout one dev) layout.journal (omega arith)
      ∙ ap (λ b. greatest_on layout other dev b layout.journal) (greatest_below_same dev (omega (arith, within)))

  -- the newest one, the needed ones and the journal.
  pub newest_same : newest layout one ≡ newest layout other
  unfolding newest
  newest_same =
      ap (option_and_then (counting layout one)) (greatest_below_same layout.metadata_replicas (omega arith))
      ∙ at (greatest_below layout other layout.metadata_replicas)
    where
      at : (o : Option ℕ) → option_and_then (counting layout one) o ≡ option_and_then (counting layout other) o
      at None = refl
      at (Some sequence) = counting_same sequence

  pub needed_same : (last : FoundEntry) → needed_by layout one last ≡ needed_by layout other last
  needed_same last = ap (λ r. with_one r last.entry.sequence (Some last)) (entries_same (counting layout one) (counting layout other) counting_same last.entry.oldest (last.entry.sequence - last.entry.oldest))

  pub journal_same : journal_in layout one ≡ journal_in layout other
  journal_same = ap (journal_by layout one) newest_same ∙ by (newest layout other)
    where
      by : (o : Option FoundEntry) → journal_by layout one o ≡ journal_by layout other o
      by None = refl
      by (Some last) = ap read_as (needed_same last)
