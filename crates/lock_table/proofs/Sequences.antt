-- No call lets a sequence fall, and each that ends an exclusive use of a node raises its sequence.
use Rattle.std.proofs.Common.{◌≡◌, ℕ, ◌+◌, ◌^◌, ◌<◌, ◌≤◌, Bool, true, false, cond, List, [], ◌∷◌, Option, Some, None, refl, sym, subst, inl, ⊎_elim, arith}
use Rattle.std.specs.Prelude.{◌==◌}
use Rattle.std.proofs.lemmas.Bool.{cases_eq, eq-eqb}
use Rattle.std.proofs.lemmas.Option.{none-some as none_some}
use Rattle.six_lock.specs.Modes.Mode.{Exclusive}
use Rattle.six_lock.specs.Locks.{next_sequence}
use Rattle.lock_table.specs.Tables.{Table, HoldsAt, IsHeld, IsSound, node_at, name_at, sequence_at, sequence_of}
use Rattle.lock_table.specs.Nodes.{name_of}
use Rattle.lock_table.specs.Calls.{KeepsSequences, Asks, Upgrades, Lowers, Drops, SequencesRise, mode_of}
use Rattle.lock_table.specs.Runs.{Call, Steps, Runs}
use Rattle.lock_table.specs.Runs.Call.{Ask, Upgrade, Lower, Drop_all}
use Rattle.lock_table.specs.declared.name.NodeName.{NodeName}
use Rattle.lock_table.specs.declared.node.Node.{Node}
use Rattle.lock_table.specs.declared.table.Mode.{Mode as Wanted}
use Rattle.lock_table.specs.declared.table.Ruling.{Ruling}
use Rattle.lock_table.specs.declared.table.Ruling.TheVariants.{Granted, Wait, Restart}
use Rattle.lock_table.proofs.After.{next_no_less, next_greater, exclusive_or_not, after_no_less, after_some}
use Rattle.lock_table.proofs.Sound.{sound_step}

-- where no sequence changes, and nobody loses exclusive
kept : (old new : Table) → KeepsSequences old new → ((b a : ℕ) → HoldsAt old b a Exclusive → HoldsAt new b a Exclusive) → SequencesRise old new
kept old new keeps more = record {
  no_less = λ b. let same = keeps.each b in let le : sequence_at old b ≤ sequence_at new b = omega arith in le;
  risen = λ b a h free fits. absurd (free (more b a h));
}

same : (table : Table) → SequencesRise table table
same table = record { no_less = λ b. let le : sequence_at table b ≤ sequence_at table b = omega arith in le; risen = λ b a h free fits. absurd (free h) }

asked : (old new : Table) (actor : ℕ) (name : NodeName) (mode : Wanted) (ruling : Ruling) → Asks old actor name (mode_of mode) ruling new → SequencesRise old new
asked old new actor name mode Granted asks = kept old new asks.sequences (λ b a h. (asks.gains b a Exclusive).1 (inl h))
asked old new actor name mode (Wait node holder) asks = subst (SequencesRise old) (sym asks.1.left) (kept old _ (record { each = λ b. refl; unheld = refl }) (λ b a h. h))
asked old new actor name mode (Restart node holder) asks = subst (SequencesRise old) (sym asks.1.left) (kept old _ (record { each = λ b. refl; unheld = refl }) (λ b a h. h))

upgraded : (old new : Table) (actor birth : ℕ) (ruling : Ruling) → Upgrades old actor birth ruling new → SequencesRise old new
upgraded old new actor birth Granted upgrades = kept old new upgrades.3 (λ b a h. (upgrades.1 b a Exclusive).1 (inl h))
upgraded old new actor birth (Wait node holder) upgrades = absurd upgrades
upgraded old new actor birth (Restart node holder) upgrades = subst (SequencesRise old) (sym upgrades.3) (same old)

lowered : (old new : Table) (birth : ℕ) → Lowers old birth new → SequencesRise old new
lowered old new birth lowers = record {
  no_less = λ b. subst (λ (n : ℕ). sequence_at old b ≤ n) (sym (lowers.sequences b)) (either (b == birth) (sequence_at old b));
  risen = λ b a h free fits.
      ⊎_elim (λ here. subst (λ (n : ℕ). sequence_at old b < n) (sym (lowers.sequences b)) (chosen (b == birth) (sequence_at old b) (eq-eqb b birth here) fits))
      (λ other. absurd (free ((lowers.holds b a Exclusive).1 (h, λ here. absurd (other here)))))
      (cases_eq b birth);
}
  where
    either : (test : Bool) (s : ℕ) → s ≤ cond test (next_sequence s) s
    either true s = next_no_less s
    either false s = omega arith

    chosen : (test : Bool) (s : ℕ) → test ≡ true → s + 1 < 2 ^ 64 → s < cond test (next_sequence s) s
    chosen true s is fits = next_greater s fits
    chosen false s is fits = let e : false ≡ true = is in cc

-- the sequence of a node that has no name
unnamed : (s : ℕ) (node : Option Node) → name_of node ≡ None → sequence_of s node ≡ s
unnamed s None none = refl
unnamed s (Some node) none = absurd (none_some node.name (sym none))

dropped : (old new : Table) (actor : ℕ) → IsSound old → Drops old actor new → SequencesRise old new
dropped old new actor sound drops = record {
  no_less = λ b.
      ⊎_elim (λ held. after_no_less old.sequence (node_at old.nodes b) actor _ (drops.sequences.held b held.0))
      (λ free. subst (λ (n : ℕ). sequence_at old b ≤ n) (sym (unnamed new.sequence (node_at new.nodes b) free.1)) (left b free.0 (name_at old b) (λ n is. sound.held b n is) (λ none. unnamed old.sequence (node_at old.nodes b) none)))
      (drops.names b);
  risen = λ b a h lost fits. ⊎_elim (λ own. risen b (subst (λ k. HoldsAt old b k Exclusive) own h) fits) (λ other. absurd (lost ((drops.holds b a Exclusive).1 (h, other)))) (cases_eq a actor);
}
  where
    left : (b : ℕ) → (IsHeld new b → ⊥) → (name : Option NodeName) → ((n : NodeName) → name ≡ Some n → IsHeld old b) → (name ≡ None → sequence_at old b ≡ old.sequence) → sequence_at old b ≤ new.sequence
    left b free None held none = let is = none refl in let le = drops.sequences.no_less in omega arith
    left b free (Some n) held none =
        let after = after_some old.sequence (node_at old.nodes b) actor in
        let first = after_no_less old.sequence (node_at old.nodes b) actor after.0 after.1 in
        let second = drops.sequences.left b after.0 (record { held = held n refl; free = free }) after.1 in
        omega arith

    risen : (b : ℕ) → HoldsAt old b actor Exclusive → sequence_at old b + 1 < 2 ^ 64 → sequence_at old b < sequence_at new b
    risen b h fits =
        let greater = next_greater (sequence_at old b) fits in
        ⊎_elim
        (λ held. subst (λ (n : ℕ). sequence_at old b < n) (sym ((drops.sequences.held b held.0).ended h)) greater)
        (λ free. subst (λ (n : ℕ). sequence_at old b < n) (sym (unnamed new.sequence (node_at new.nodes b) free.1))
        (let up = drops.sequences.left b (next_sequence (sequence_at old b)) (record { held = (actor, (Exclusive, h)); free = free.0 }) (record { ended = λ e. refl; same = λ none. absurd (none h) }) in
        let lt : sequence_at old b < new.sequence = omega arith in lt))
        (drops.names b)

step : (call : Call) (old new : Table) → IsSound old → Steps old call new → SequencesRise old new
step (Ask actor name mode) old new sound steps = asked old new actor name mode steps.0 steps.1
step (Upgrade actor birth) old new sound steps = upgraded old new actor birth steps.0 steps.1
step (Lower actor birth) old new sound steps = lowered old new birth steps
step (Drop_all actor) old new sound steps = dropped old new actor sound steps

-- from one table over another to a third
rise_trans : (old mid new : Table) → SequencesRise old mid → SequencesRise mid new → SequencesRise old new
rise_trans old mid new first second = record {
  no_less = λ b. let one = first.no_less b in let two = second.no_less b in let le : sequence_at old b ≤ sequence_at new b = omega arith in le;
  risen = λ b a h free fits.
      ⊎_elim (λ still. later b a still free fits) (λ ended. let one = first.risen b a h ended fits in let two = second.no_less b in let lt : sequence_at old b < sequence_at new b = omega arith in lt)
      (exclusive_or_not (node_at mid.nodes b) a);
}
  where
    later : (b a : ℕ) → HoldsAt mid b a Exclusive → (HoldsAt new b a Exclusive → ⊥) → sequence_at old b + 1 < 2 ^ 64 → sequence_at old b < sequence_at new b
    later b a still free fits =
        ⊎_elim (λ equal. let up = second.risen b a still free (subst (λ (n : ℕ). n + 1 < 2 ^ 64) equal fits) in let lt : sequence_at old b < sequence_at new b = omega arith in lt)
        (λ differs. let one = first.no_less b in let two = second.no_less b in let lt : sequence_at old b < sequence_at new b = omega arith in lt)
        (cases_eq (sequence_at old b) (sequence_at mid b))

pub rise_run : (calls : List Call) (old new : Table) → IsSound old → Runs old calls new → SequencesRise old new
rise_run [] old new sound runs = subst (SequencesRise old) (sym runs) (same old)
rise_run (call ∷ calls) old new sound runs =
    rise_trans old runs.1.0 new (step call old runs.1.0 sound runs.1.1) (rise_run calls runs.1.0 new (sound_step call old runs.1.0 sound runs.0 runs.1.1) runs.1.2)
