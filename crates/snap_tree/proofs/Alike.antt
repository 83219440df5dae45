-- Records that are found alike are the same, and those that updates make rise.
use Rattle.std.proofs.Common.{◌≡◌, ℕ, ◌≤◌, Bool, true, false, cond, Option, Some, None, List, [], ◌∷◌, refl, sym, ap, ◌∙◌, arith, inl}
use Rattle.std.specs.Prelude.{◌==◌}
use Rattle.std.specs.Ordering.{nat_cmp}
use Rattle.std.proofs.lemmas.Bool.{eqb-true, eq-eqb}
use Rattle.std.proofs.lemmas.Option.{same_Some}
use Rattle.vol_types.specs.Maps.{IsMap, value_at}
use Rattle.vol_types.specs.declared.keys.Update.{Update}
use Rattle.vol_types.specs.declared.values.Snap.{Snap}
use Rattle.vol_types.specs.declared.values.Value.{Value}
use Rattle.vol_types.specs.declared.values.Value.TheVariants as values
use Rattle.snap_tree.specs.Snaps.{Snaps}
use Rattle.snap_tree.specs.Updates.{is_of_snaps, with_change, with_update, snaps_after}
use Rattle.snap_tree.specs.MapLaws.{not_above, value_at-cons, rises-with, rises-without}
use Rattle.snap_tree.specs.ChainLaws.{first_least, others_rise, found_above}

-- what is found isn't below the first id
found_from : (e : ℕ × Snap) (snaps : Snaps) (id : ℕ) (snap : Snap) → IsMap nat_cmp (e ∷ snaps) → value_at nat_cmp id (e ∷ snaps) ≡ Some snap → e.0 ≤ id
found_from e snaps id snap rises is = here (e.0 == id) refl (sym (value_at-cons e snaps id) ∙ is)
  where
    here : (b : Bool) → (e.0 == id) ≡ b → cond b (Some e.1) (value_at nat_cmp id snaps) ≡ Some snap → e.0 ≤ id
    here true at found = omega (arith, eqb-true e.0 id at)
    here false at found = omega (arith, found_above e.0 id snaps snap (first_least e snaps rises) found)

-- the first id is found
first_found : (e : ℕ × Snap) (snaps : Snaps) → value_at nat_cmp e.0 (e ∷ snaps) ≡ Some e.1
first_found e snaps = value_at-cons e snaps e.0 ∙ ap (λ b. cond b (Some e.1) (value_at nat_cmp e.0 snaps)) (eq-eqb e.0 e.0 refl)

-- records that are found alike are the same
pub map_ext : (one other : Snaps) → IsMap nat_cmp one → IsMap nat_cmp other → ((id : ℕ) → value_at nat_cmp id one ≡ value_at nat_cmp id other) → one ≡ other
map_ext [] [] up rises same = refl
map_ext [] (f ∷ other) up rises same = absurd (cc (same f.0, first_found f other))
map_ext (e ∷ one) [] up rises same = absurd (cc (same e.0, first_found e one))
map_ext (e ∷ one) (f ∷ other) up rises same =
    ap (λ n. (n, e.1) ∷ one) ids ∙ ap (λ s. (f.0, s) ∷ one) snaps_same ∙ ap (λ es. f ∷ es) (map_ext one other (others_rise e one up) (others_rise f other rises) (λ id. rest id (e.0 == id) refl))
  where
    ids : e.0 ≡ f.0
    ids = omega (arith, found_from f other e.0 e.1 rises (sym (same e.0) ∙ first_found e one), found_from e one f.0 f.1 up (same f.0 ∙ first_found f other))

    snaps_same : e.1 ≡ f.1
    snaps_same = same_Some e.1 f.1 (sym (first_found e one) ∙ same e.0 ∙ ap (λ n. value_at nat_cmp n (f ∷ other)) ids ∙ first_found f other)

    rest : (id : ℕ) (b : Bool) → (e.0 == id) ≡ b → value_at nat_cmp id one ≡ value_at nat_cmp id other
    rest id true at = not_above e.0 id one (first_least e one up) (inl (sym (eqb-true e.0 id at))) ∙ sym (not_above f.0 id other (first_least f other rises) (inl (sym (eqb-true e.0 id at) ∙ ids)))
    rest id false at =
        sym (value_at-cons e one id ∙ ap (λ b. cond b (Some e.1) (value_at nat_cmp id one)) at) ∙ same id
        ∙ value_at-cons f other id ∙ ap (λ b. cond b (Some f.1) (value_at nat_cmp id other)) (ap (λ n. n == id) (sym ids) ∙ at)

-- records that an update makes rise
rises_update : (snaps : Snaps) (update : Update) → IsMap nat_cmp snaps → IsMap nat_cmp (with_update snaps update)
rises_update snaps update rises = here (is_of_snaps update) update.value
  where
    here : (b : Bool) (v : Option Value) → IsMap nat_cmp (cond b (with_change snaps update.pos.offset v) snaps)
    here false v = rises
    here true None = rises-without snaps update.pos.offset rises
    here true (Some (values.Snap snap)) = rises-with snaps update.pos.offset snap rises
    here true (Some other) = rises

-- records that several updates make rise
pub rises_after : (snaps : Snaps) (updates : List Update) → IsMap nat_cmp snaps → IsMap nat_cmp (snaps_after snaps updates)
rises_after snaps [] rises = rises
rises_after snaps (update ∷ updates) rises = rises_after (with_update snaps update) updates (rises_update snaps update rises)
