-- What makes an entry the one that counts for its sequence, and the newest: what is asked of all whole entries beside it.
use Rattle.std.specs.Prelude.{◌≡◌, ℕ, suc, ◌<◌, ◌≤◌, ◌⊎◌, List, [], ◌∷◌, ⊤}
use Rattle.vol_types.specs.declared.layout.Layout.{Layout}
use Rattle.journal_ring.specs.declared.found.FoundEntry.{FoundEntry}
use Rattle.journal_ring.specs.Entries.{IsWhole, IsWholeOn}
use Rattle.journal_ring.specs.Parts.{Area}

-- The first entry is behind the second: it is the same, or it has a smaller session, or the same session and a smaller number.
abbrev pub IsBehind : FoundEntry → FoundEntry → Type 0
IsBehind other one =
    (other ≡ one)
    ⊎ (other.entry.session < one.entry.session)
    ⊎ ((other.entry.session ≡ one.entry.session) × (other.number < one.number))

-- The entry leads those of its sequence: it is whole, and each whole one is behind it.
pub record Leads (layout : Layout) (area : Area) (one : FoundEntry) : Type 0 where
  pub whole : IsWhole layout area one
  pub others : (dev : ℕ) (other : FoundEntry) → IsWholeOn layout area dev other → other.entry.sequence ≡ one.entry.sequence → IsBehind other one

-- No whole entry has a greater sequence.
abbrev pub IsGreatest : Layout → Area → ℕ → Type 0
IsGreatest layout area sequence = (dev : ℕ) (other : FoundEntry) → IsWholeOn layout area dev other → other.entry.sequence ≤ sequence

-- Entries of one sequence after the other, from this one on.
abbrev pub AreFrom : ℕ → List FoundEntry → Type 0
AreFrom sequence [] = ⊤
AreFrom sequence (entry ∷ entries) = (entry.entry.sequence ≡ sequence) × AreFrom (suc sequence) entries
