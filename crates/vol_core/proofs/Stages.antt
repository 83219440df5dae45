-- What is known of an entry in flight where a part of it is to be written, or where it is to become the last durable one.
use Rattle.std.proofs.Common.{◌≡◌, ◌≢◌, ◌⊎◌, ◌≤◌, ◌<◌, ℕ, zero, suc, Bool, true, false, cond, Option, Some, None, List, [], ◌∷◌, take, length, refl, sym, ap, ◌∙◌, ⊎_elim, arith}
use Rattle.crash_safety.specs.Flushes.{IsSet}
use Rattle.std.proofs.lemmas.Bool.{false≢true}
use Rattle.std.proofs.lemmas.Bool.Decides.{eqb_tells}
use Rattle.std.proofs.lemmas.Option.{same_Some}
use Rattle.std.specs.Prelude.{◌==◌, slice_get}
use Rattle.journal_writer.specs.Writers.{Writer, first_flag, flush_before, stage_by, step_of}
use Rattle.journal_writer.specs.declared.stage.Stage.{Stage}
use Rattle.journal_writer.specs.declared.stage.Stage.TheVariants.{Flush, Seal, Settle, WriteEntry}
use Rattle.journal_writer.specs.declared.writer.Flight.{Flight}

-- Where nothing is in flight, the stage is no step of an entry.
pub resting_writes_nothing : (needed : Bool) (writer : Writer) → stage_by None needed writer ≡ WriteEntry → ⊥
resting_writes_nothing true writer is = cc
resting_writes_nothing false writer is = cc

pub resting_settles_nothing : (needed : Bool) (writer : Writer) → stage_by None needed writer ≡ Settle → ⊥
resting_settles_nothing true writer is = cc
resting_settles_nothing false writer is = cc

-- What comes after all flushes is another stage than a flush.
flushed_before : (dev : Option ℕ) (stage wanted : Stage) → ((d : ℕ) → Flush d ≡ wanted → ⊥) → flush_before dev stage ≡ wanted → (dev ≡ None) × (stage ≡ wanted)
flushed_before None stage wanted other is = (refl, is)
flushed_before (Some dev) stage wanted other is = absurd (other dev is)

no_flush_writes : (d : ℕ) → Flush d ≡ WriteEntry → ⊥
no_flush_writes d is = cc

no_flush_settles : (d : ℕ) → Flush d ≡ Settle → ⊥
no_flush_settles d is = cc

settle_is_no_writing : Settle ≡ WriteEntry → ⊥
settle_is_no_writing is = cc

no_step_seals : (dev : Option ℕ) (stage : Stage) → (stage ≡ Seal → ⊥) → flush_before dev stage ≡ Seal → ⊥
no_step_seals None stage other is = other is
no_step_seals (Some dev) stage other is = cc

write_is_no_sealing : WriteEntry ≡ Seal → ⊥
write_is_no_sealing is = cc

settle_is_no_sealing : Settle ≡ Seal → ⊥
settle_is_no_sealing is = cc

module _ (writer : Writer) where
  abbrev first : Option ℕ
  first = first_flag 0 writer.unsettled

  abbrev last : Option ℕ
  last = first_flag 0 (take writer.ring.mirrors writer.unsettled)

  -- the step of an entry in flight, by whether no part of it is written, and whether all are
  abbrev step_by : Bool → Bool → Stage
  step_by none all = cond none (flush_before first WriteEntry) (cond all (flush_before last Settle) WriteEntry)

  -- Where a part is to be written, one is left.
  pub writing_is_left : step_of writer ≡ WriteEntry → 0 < length writer.ring.blocks → writer.ring.written ≤ length writer.ring.blocks → writer.ring.written < length writer.ring.blocks
  writing_is_left stage some few = ⊎_elim
      (λ none. let zero_is : writer.ring.written ≡ 0 = none.1 in omega (arith, zero_is, some))
      (λ begun. ⊎_elim
      (λ all. absurd (settle_is_no_writing (flushed_before last Settle WriteEntry no_flush_writes (
      sym (ap (λ b. cond b (flush_before last Settle) WriteEntry) all.0) ∙ sym (ap (λ b. cond b (flush_before first WriteEntry) (cond (writer.ring.written == length writer.ring.blocks) (flush_before last Settle) WriteEntry)) begun.0) ∙ stage
      )).1))
      (λ part. let other : writer.ring.written ≢ length writer.ring.blocks = part.1 in omega (arith, other, few))
      (eqb_tells writer.ring.written (length writer.ring.blocks)))
      (eqb_tells writer.ring.written 0)

  -- Where the entry is to become the last durable one, all its parts are written, and no metadata device is to be flushed.
  pub settling_is_whole : step_of writer ≡ Settle → (writer.ring.written ≡ length writer.ring.blocks) × (last ≡ None)
  settling_is_whole stage = by (writer.ring.written == 0) (writer.ring.written == length writer.ring.blocks) (eqb_tells writer.ring.written (length writer.ring.blocks)) stage
    where
      by : (none all : Bool) → ((all ≡ true) × (writer.ring.written ≡ length writer.ring.blocks)) ⊎ ((all ≡ false) × (writer.ring.written ≢ length writer.ring.blocks)) → step_by none all ≡ Settle → (writer.ring.written ≡ length writer.ring.blocks) × (last ≡ None)
      by true all tells is = let write : WriteEntry ≡ Settle = (flushed_before first WriteEntry Settle no_flush_settles is).1 in absurd cc
      by false true tells is = ⊎_elim (λ whole. (whole.1, (flushed_before last Settle Settle no_flush_settles is).0)) (λ part. let other : true ≡ false = part.0 in absurd cc) tells
      by false false tells is = absurd cc

  stepping_seals_nothing : step_of writer ≡ Seal → ⊥
  stepping_seals_nothing is = by (writer.ring.written == 0) (writer.ring.written == length writer.ring.blocks) is
    where
      by : (none all : Bool) → step_by none all ≡ Seal → ⊥
      by true all is = no_step_seals first WriteEntry write_is_no_sealing is
      by false true is = no_step_seals last Settle settle_is_no_sealing is
      by false false is = write_is_no_sealing is

  -- Nothing is in flight where an entry is to be put there.
  pub sealing_is_free : (flight : Option Flight) (needed : Bool) → stage_by flight needed writer ≡ Seal → flight ≡ None
  sealing_is_free None needed is = refl
  sealing_is_free (Some flight) needed is = absurd (stepping_seals_nothing is)

-- Where none of the first flags is set, each of them is clear.
pub flags_clear : (number count : ℕ) (flags : List Bool) → first_flag number (take count flags) ≡ None → count ≤ length flags → (dev : ℕ) → dev < count → slice_get flags dev ≡ Some false
flags_clear number zero flags none few dev low = absurd (omega (arith, low))
flags_clear number (suc count) [] none few dev low = absurd (omega (arith, few))
flags_clear number (suc count) (true ∷ flags) none few dev low = absurd cc
flags_clear number (suc count) (false ∷ flags) none few zero low = refl
flags_clear number (suc count) (false ∷ flags) none few (suc dev) low = flags_clear (suc number) count flags none (omega (arith, few)) dev (omega (arith, low))

-- A flag that is clear isn't set.
pub clear_is_unset : (flags : List Bool) (dev : ℕ) → slice_get flags dev ≡ Some false → ¬ IsSet flags dev
clear_is_unset flags dev clear set = false≢true (same_Some false true (sym clear ∙ set))
