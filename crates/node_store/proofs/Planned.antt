-- The blocks of a set that is planned are read as that set.
use Rattle.std.proofs.Common.{◌≡◌, ℕ, zero, suc, ◌+◌, ◌-◌, ◌*◌, ◌<◌, ◌≤◌, true, cond, List, ◌∷◌, ◌++◌, length, drop, min, Option, Some, None, refl, ap, sym, ◌∙◌, arith}
use Rattle.std.specs.Prelude.{option_and_then, option_map}
use Rattle.std.specs.Option.{option_or}
use Rattle.std.proofs.lemmas.Bool.{and_from, eq-eqb, le-leb, lt-ltb}
use Rattle.std.proofs.lemmas.List.{drop-drop, drop_all, length-drop, length-take, take-append-drop}
use Rattle.std.proofs.lemmas.Slice.Eq.{bytes_eq-Decides}
use Rattle.sha2.specs.Sha256.{sha256}
use Rattle.node_store.specs.declared.opening.OpenBlock.{OpenBlock}
use Rattle.node_store.specs.Copies.{block_in}
use Rattle.sealed_block.specs.Parts.{continues, continues-true}
use Rattle.node_store.specs.Plans.{blocks_for, chunk, part_head, set_stored}
use Rattle.node_store.specs.StoredSets.{Copies, begins, first_of, part_if, part_in, part_of, parts_from, set_at, set_begun, set_from, set_with}

module _ (id : List ℕ) (birth n sequence : ℕ) (payload : List ℕ) where
  -- block p of the set, as it opens
  abbrev pub planned : ℕ → OpenBlock
  planned p = record { head = part_head id birth n sequence payload p; payload = chunk payload p }

  length-chunk : (p : ℕ) → length (chunk payload p) ≡ min 3968 (length payload - 3968 * p)
  length-chunk p = length-take 3968 (drop (3968 * p) payload) ∙ ap (min 3968) (length-drop (3968 * p) payload)

  -- Each part continues the first.
  continues_planned : (p : ℕ) → p < blocks_for payload → continues (part_head id birth n sequence payload 0) p (part_head id birth n sequence payload p) ≡ true
  continues_planned p within = continues-true (part_head id birth n sequence payload 0) p (part_head id birth n sequence payload p) (record {
    record_is = record { kind = refl; version = refl; parts = refl; id = refl; owner = refl; sequence = refl; whole = refl };
    part = refl;
    number = omega arith;
    filled = omega (arith, within, length-chunk p);
    full = λ more. omega (arith, more, length-chunk p);
  })

  begins_planned : 0 < blocks_for payload → n + blocks_for payload ≤ 16 → begins id birth n (part_head id birth n sequence payload 0) ≡ true
  begins_planned some fits =
      and_from _ _ (and_from _ _ (and_from _ _
      (and_from _ _ (and_from _ _ (and_from _ _ (and_from _ _ (and_from _ _ refl refl) refl) ((bytes_eq-Decides id id).1 refl)) (eq-eqb birth birth refl)) (eq-eqb (n + 0) n (omega arith)))
      (continues_planned 0 some))
      (lt-ltb n (n + blocks_for payload) (omega (arith, some))))
      (le-leb (n + blocks_for payload) 16 fits)

  module _ (copy : List (Option OpenBlock)) (copies : Copies) (holds : (p : ℕ) → p < blocks_for payload → block_in copy (n + p) ≡ Some (planned p)) where
    part_there : (p : ℕ) → p < blocks_for payload → part_of (copy ∷ copies) (part_head id birth n sequence payload 0) n p ≡ Some (planned p)
    part_there p within =
        let first = part_head id birth n sequence payload 0 in
        ap (λ o. option_or (option_and_then (part_if first p) o) (first_of (part_in first n p) copies)) (holds p within)
        ∙ ap (λ b. option_or (cond b (Some (planned p)) None) (first_of (part_in first n p) copies)) (continues_planned p within)

    -- Its parts are there, from each one on.
    parts_there : (more p : ℕ) → p + more ≡ blocks_for payload → parts_from (copy ∷ copies) (part_head id birth n sequence payload 0) n more p ≡ Some (drop (3968 * p) payload)
    parts_there zero p at = ap Some (sym (drop_all (3968 * p) payload (let all : length payload ≤ 3968 * p = omega (arith, at) in all)))
    parts_there (suc more) p at =
        let first = part_head id birth n sequence payload 0 in
        let rest = parts_from (copy ∷ copies) first n more (suc p) in
        ap (option_and_then (λ (block : OpenBlock). option_map (λ r. block.payload ++ r) rest)) (part_there p (omega (arith, at)))
        ∙ ap (option_map (λ r. chunk payload p ++ r)) (parts_there more (suc p) (omega (arith, at)))
        ∙ ap (λ r. Some (chunk payload p ++ r)) (ap (λ k. drop k payload) (let e : 3968 * suc p ≡ 3968 * p + 3968 = omega arith in e) ∙ sym (drop-drop 3968 (3968 * p) payload))
        ∙ ap Some (take-append-drop 3968 (drop (3968 * p) payload))

    -- So the set is there.
    pub set_there : 0 < blocks_for payload → n + blocks_for payload ≤ 16 → set_at (copy ∷ copies) id birth n ≡ Some (set_stored n sequence payload)
    set_there some fits =
        let first = part_head id birth n sequence payload 0 in
        let at : block_in copy n ≡ Some (planned 0) = ap (block_in copy) (let e : n ≡ n + 0 = omega arith in e) ∙ holds 0 some in
        ap (λ o. option_or o (first_of (set_from (copy ∷ copies) id birth n) copies))
        (ap (option_and_then (set_begun (copy ∷ copies) id birth n)) at
        ∙ ap (λ b. cond b (option_and_then (λ rest. set_with n first (chunk payload 0 ++ rest)) (parts_from (copy ∷ copies) first n (blocks_for payload - 1) 1)) None) (begins_planned some fits)
        ∙ ap (option_and_then (λ rest. set_with n first (chunk payload 0 ++ rest))) (parts_there (blocks_for payload - 1) 1 (omega (arith, some)))
        ∙ ap (set_with n first) (take-append-drop 3968 payload)
        ∙ ap (λ b. cond b (Some (set_stored n sequence payload)) None) ((bytes_eq-Decides (sha256 payload) (sha256 payload)).1 refl))
