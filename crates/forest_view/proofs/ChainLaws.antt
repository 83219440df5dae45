-- Chains of ids, step by step, whatever the records of the ids say.
use Rattle.std.proofs.Common.{◌≡◌, ℕ, ◌<◌, ◌≤◌, Bool, true, false, cond, Some, None, List, [], ◌∷◌, ◌++◌, refl, sym, ap, ◌∙◌, subst, arith}
use Rattle.std.specs.Prelude.{◌==◌, fold}
use Rattle.std.specs.Ordering.{nat_cmp}
use Rattle.std.proofs.lemmas.Bool.{eqb-true, ne_eqb}
use Rattle.std.proofs.lemmas.Option.{same_Some, none-some as none_some}
use Rattle.std.proofs.Common.{append-nil}
use Rattle.std.specs.BTreeSet.{insert_key}
use Rattle.std.proofs.lemmas.Cmp.{nat_cmp_total}
use Rattle.vol_types.specs.CopyLaws.{copy_key_more}
use Rattle.snap_tree.specs.ChainLaws.{AllAbove, chain_of-none, chain_of-rises, first_least, found_above, others_rise, past, same_test}
use Rattle.snap_tree.specs.Snaps.{Snaps, chain_of, snap_of, with_snap}
use Rattle.vol_types.specs.KeyMaps.{Entries, keys_in}
use Rattle.vol_types.specs.Maps.{IsMap, value_at}
use Rattle.vol_types.specs.declared.keys.Key.{Key}
use Rattle.vol_types.specs.declared.values.Snap.{Snap}

-- the records with those of further entries
abbrev pub snaps_with : Entries → Snaps → Snaps
snaps_with entries snaps = fold (λ (snaps : Snaps) (key : Key). with_snap key.pos.offset (snap_of key.value) snaps) snaps (keys_in entries)

-- an id that is too small to be there has no chain
none_above : (k id : ℕ) (snaps : Snaps) → id ≤ k → AllAbove k snaps → chain_of snaps id ≡ []
none_above k id [] le all = refl
none_above k id (e ∷ snaps) le all = past e snaps id (ne_eqb e.0 id (omega (arith, all.0, le))) ∙ none_above k id snaps le all.1

-- A chain ends at an id whose parent isn't greater.
pub chain_ends : (snaps : Snaps) (id : ℕ) (snap : Snap) → IsMap nat_cmp snaps → value_at nat_cmp id snaps ≡ Some snap → snap.parent ≤ id → chain_of snaps id ≡ id ∷ []
chain_ends [] id snap rises is low = absurd (none_some snap is)
chain_ends (e ∷ snaps) id snap rises is low =
    here (e.0 == id) refl (subst (λ b. cond b (Some e.1) (value_at nat_cmp id snaps) ≡ Some snap) (same_test id e.0) is) (λ found. chain_ends snaps id snap (others_rise e snaps rises) found low)
  where
    here : (b : Bool) → (e.0 == id) ≡ b → cond b (Some e.1) (value_at nat_cmp id snaps) ≡ Some snap → (value_at nat_cmp id snaps ≡ Some snap → chain_of snaps id ≡ id ∷ [])
        → cond b (id ∷ chain_of snaps e.1.parent) (chain_of snaps id) ≡ id ∷ []
    here true same found later =
        let first : e.0 ≡ id = eqb-true e.0 id same in
        let parent : e.1.parent ≤ e.0 = subst (λ (n : ℕ). n ≤ e.0) (ap (λ (s : Snap). s.parent) (sym (same_Some e.1 snap found))) (omega (arith, first, low)) in
        ap (λ ids. id ∷ ids) (none_above e.0 e.1.parent snaps parent (first_least e snaps rises))
    here false other found later = later found

-- Else it goes on with that of the parent.
pub chain_steps : (snaps : Snaps) (id : ℕ) (snap : Snap) → IsMap nat_cmp snaps → value_at nat_cmp id snaps ≡ Some snap → id < snap.parent → chain_of snaps id ≡ id ∷ chain_of snaps snap.parent
chain_steps [] id snap rises is up = absurd (none_some snap is)
chain_steps (e ∷ snaps) id snap rises is up =
    here (e.0 == id) refl (subst (λ b. cond b (Some e.1) (value_at nat_cmp id snaps) ≡ Some snap) (same_test id e.0) is) (λ found. chain_steps snaps id snap (others_rise e snaps rises) found up)
  where
    here : (b : Bool) → (e.0 == id) ≡ b → cond b (Some e.1) (value_at nat_cmp id snaps) ≡ Some snap → (value_at nat_cmp id snaps ≡ Some snap → chain_of snaps id ≡ id ∷ chain_of snaps snap.parent)
        → cond b (id ∷ chain_of snaps e.1.parent) (chain_of snaps id) ≡ id ∷ chain_of (e ∷ snaps) snap.parent
    here true same found later =
        let first : e.0 ≡ id = eqb-true e.0 id same in
        ap (λ (s : Snap). id ∷ chain_of snaps s.parent) (same_Some e.1 snap found)
        ∙ ap (λ ids. id ∷ ids) (sym (past e snaps snap.parent (ne_eqb e.0 snap.parent (omega (arith, first, up)))))
    here false other found later =
        let lt = found_above e.0 id snaps snap (first_least e snaps rises) found in
        later found ∙ ap (λ ids. id ∷ ids) (sym (past e snaps snap.parent (ne_eqb e.0 snap.parent (omega (arith, lt, up)))))

module _ (snaps : Snaps) (ids new : List ℕ) (id at : ℕ) (rises : IsMap nat_cmp snaps) (so_far : ids ++ chain_of snaps at ≡ chain_of snaps id) where
  -- The ids so far are the chain where the next one isn't there,
  pub chain_missing : value_at nat_cmp at snaps ≡ None → ids ≡ chain_of snaps id
  chain_missing none = sym (append-nil ids) ∙ ap (λ (rest : List ℕ). ids ++ rest) (sym (chain_of-none snaps at none)) ∙ so_far

  module _ (snap : Snap) (found : value_at nat_cmp at snaps ≡ Some snap) (added : new ≡ insert_key nat_cmp ids at) where
    -- or with it where its parent isn't greater,
    pub chain_ended : snap.parent ≤ at → new ≡ chain_of snaps id
    chain_ended low = sym (append-nil new) ∙ copy_key_more nat_cmp_total at [] ids new (chain_of snaps at) (chain_of snaps id) so_far (chain_ends snaps at snap rises found low) (chain_of-rises snaps id rises) added

    -- and else go on with the parent's chain.
    pub chain_longer : at < snap.parent → new ++ chain_of snaps snap.parent ≡ chain_of snaps id
    chain_longer up = copy_key_more nat_cmp_total at (chain_of snaps snap.parent) ids new (chain_of snaps at) (chain_of snaps id) so_far (chain_steps snaps at snap rises found up) (chain_of-rises snaps id rises) added
