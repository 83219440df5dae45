-- Needed entries that stand on every metadata device go on standing there, in what a crash leaves and where a further entry becomes durable.
use Rattle.std.proofs.Common.{◌≡◌, ℕ, zero, suc, ◌+◌, ◌<◌, List, [], ◌∷◌, ◌++◌, length, drop, get_or, Ok, sym, ◌∙◌, arith}
use Rattle.dev_model.specs.Disk.{Image}
use Rattle.image_view.specs.Bases.{AgreeOnBase}
use Rattle.image_view.specs.Found.{Found, found}
use Rattle.journal_ring.specs.Entries.{AgreeFrom}
use Rattle.journal_ring.specs.EntryBlocks.{parts_of}
use Rattle.journal_ring.specs.Parts.{area_of}
use Rattle.journal_ring.specs.declared.found.FoundEntry.{FoundEntry}
use Rattle.replay.specs.Mending.{StandsOnAll}
use Rattle.vol_types.specs.declared.layout.Layout.{Layout}
use Rattle.crash_safety.proofs.Meanings.{ImageLaws}

-- An entry stands on every metadata device of an image that agrees with another one, in which it does, at the places of its parts.
stands_again : (layout : Layout) (one other : Image) (entry : FoundEntry) → AgreeFrom layout (area_of one) (area_of other) entry.number entry.end → entry.end ≡ entry.number + parts_of entry.entry → StandsOnAll layout one entry → StandsOnAll layout other entry
stands_again layout one other entry agree end stands = record {
  blocks = stands.blocks;
  sealed = stands.sealed;
  stand = λ dev p mirror low.
      let count = stands.sealed.count in
      sym (agree dev (entry.number + p) mirror (omega arith) (omega (arith, low, count, end))) ∙ stands.stand dev p mirror low;
}

-- Each needed entry does in an image that agrees on the base.
pub whole_again : ImageLaws → (one other : Image) (f : Found) → found one ≡ Ok f → AgreeOnBase f one other → ((index : ℕ) → index < length f.needed → StandsOnAll f.layout one (get_or f.needed index f.last))
    → (index : ℕ) → index < length f.needed → StandsOnAll f.layout other (get_or f.needed index f.last)
whole_again laws one other f finds agree whole index low = stands_again f.layout one other (get_or f.needed index f.last) (agree.entries index f.last low) (laws.ends one f finds index low) (whole index low)

-- What holds of each entry of a list, and of one more, holds of each with that one behind them.
each_pushed : (P : FoundEntry → Type 0) (entries : List FoundEntry) (last next : FoundEntry) → ((index : ℕ) → index < length entries → P (get_or entries index last)) → P next
    → (index : ℕ) → index < length (entries ++ next ∷ []) → P (get_or (entries ++ next ∷ []) index next)
each_pushed P [] last next each it zero low = it
each_pushed P [] last next each it (suc index) low = absurd (omega (arith, low))
each_pushed P (entry ∷ entries) last next each it zero low = each 0 (omega arith)
each_pushed P (entry ∷ entries) last next each it (suc index) low = each_pushed P entries last next (λ k less. each (suc k) (omega (arith, less))) it index (omega (arith, low))

-- So it does where the first so many are left out.
pub each_after : (P : FoundEntry → Type 0) (passed : ℕ) (entries : List FoundEntry) (last next : FoundEntry) → ((index : ℕ) → index < length entries → P (get_or entries index last)) → P next
    → (index : ℕ) → index < length (drop passed entries ++ next ∷ []) → P (get_or (drop passed entries ++ next ∷ []) index next)
each_after P zero entries last next each it = each_pushed P entries last next each it
each_after P (suc passed) [] last next each it = each_pushed P [] last next each it
each_after P (suc passed) (entry ∷ entries) last next each it = each_after P passed entries last next (λ k less. each (suc k) (omega (arith, less))) it
