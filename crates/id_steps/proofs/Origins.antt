-- How ids go on with those that were there: each of the three changes of ids lets all of them grow.
use Rattle.std.proofs.Common.{◌≡◌, ℕ, ◌-◌, ◌≤◌, Bool, true, false, cond, None, Some, [], ◌∷◌, refl, sym, ap, ◌∙◌, subst, arith, inl, inr}
use Rattle.std.specs.Prelude.{◌≢◌, ◌==◌, IsSome, option_and_then}
use Rattle.std.specs.Ordering.{nat_cmp}
use Rattle.std.proofs.lemmas.Bool.{eq-eqb, eqb-true, ne_eqb, true≢false}
use Rattle.id_steps.proofs.Growing.{GoesOn, Grows, grown_alike}
use Rattle.id_steps.proofs.Joined.{dead_chains, root_chain, root_others, split_others}
use Rattle.id_steps.proofs.Records.{all_above_counter, fresh_is_none}
use Rattle.id_steps.specs.Changes.{ShowsNothing}
use Rattle.id_steps.specs.Ids.{dead, with_dead, with_root}
use Rattle.key_meaning.specs.Alike.{HaveSameFiles, ShowAlike}
use Rattle.key_meaning.specs.Blocks.{first_cover, shown_of}
use Rattle.key_meaning.specs.Checks.{AreExtentsApart}
use Rattle.key_meaning.specs.Forest.{inode_of, links_of, next_in}
use Rattle.key_meaning.specs.Tidy.{AreKeysDrawn, id_counter}
use Rattle.key_meaning.specs.Visible.{first_value, shown, snaps_of}
use Rattle.key_meaning.specs.VisibleLaws.{snaps_of-rises}
use Rattle.snap_tree.specs.ChainLaws.{chain_of-none}
use Rattle.snap_tree.specs.MapLaws.{value_at-with}
use Rattle.snap_tree.specs.Snaps.{Snaps, chain_of}
use Rattle.snap_tree.specs.SplitLaws.{chain-copy, chain-source}
use Rattle.snap_tree.specs.Splits.{interior_over, leaf_under, split_snaps}
use Rattle.vol_types.specs.KeyMaps.{KeyMap}
use Rattle.vol_types.specs.Maps.{value_at, with_value}
use Rattle.vol_types.specs.declared.positions.Btree.TheVariants.{Dirents, Inodes}
use Rattle.vol_types.specs.declared.values.Snap.{Snap}

-- An id that isn't there shows nothing.
pub none_shows_nothing : (keys : KeyMap) (id : ℕ) → value_at nat_cmp id (snaps_of keys) ≡ None → ShowsNothing keys id
none_shows_nothing keys id none = let chain = chain_of-none (snaps_of keys) id none in record {
  inodes = λ number. ap (λ ids. inode_of (shown (first_value keys Inodes 0 number ids))) chain;
  names = λ directory slot. ap (λ ids. links_of (shown (first_value keys Dirents directory slot ids))) chain;
  blocks = λ file block. ap (λ ids. option_and_then (shown_of block) (first_cover keys file block ids)) chain;
}

-- what is there stays there where a record is put
there_with : (snaps : Snaps) (id : ℕ) (snap : Snap) (x : ℕ) → IsSome (value_at nat_cmp x snaps) → IsSome (value_at nat_cmp x (with_value nat_cmp id snap snaps))
there_with snaps id snap x there = subst IsSome (sym (value_at-with snaps id x snap)) (by (id == x))
  where
    by : (b : Bool) → IsSome (cond b (Some snap) (value_at nat_cmp x snaps))
    by true = refl
    by false = there

module _ (keys new : KeyMap) (files : HaveSameFiles new keys) where
  -- Where a leaf has died, all ids are their own origins.
  pub dead_grows : (id : ℕ) (leaf : Snap) → value_at nat_cmp id (snaps_of keys) ≡ Some leaf → snaps_of new ≡ with_dead id leaf (snaps_of keys) → Grows keys new (λ x. x)
  dead_grows id leaf found are = record {
    files = files;
    there = λ x there. subst (λ (s : Snaps). IsSome (value_at nat_cmp x s)) (sym are) (there_with (snaps_of keys) id (dead leaf) x there);
    goes_on = λ x. inl (ap (λ (s : Snaps). chain_of s x) are ∙ dead_chains (snaps_of keys) id leaf found (snaps_of-rises keys) x, refl);
  }

  module _ (drawn : AreKeysDrawn keys) where
    -- And so where there is a new root.
    pub root_grows : 1 ≤ next_in keys id_counter → snaps_of new ≡ with_root (next_in keys id_counter) (snaps_of keys) → Grows keys new (λ x. x)
    root_grows left are = record {
      files = files;
      there = λ x there. subst (λ (s : Snaps). IsSome (value_at nat_cmp x s)) (sym are) (there_with (snaps_of keys) (next_in keys id_counter) (leaf_under 0) x there);
      goes_on = λ x. by x (x == next_in keys id_counter) refl;
    }
      where
        some : next_in keys id_counter ≢ 0
        some zero = omega (arith, left, zero)

        by : (x : ℕ) (b : Bool) → (x == next_in keys id_counter) ≡ b → GoesOn keys new x x
        by x true at = let same : x ≡ next_in keys id_counter = eqb-true x (next_in keys id_counter) at in
            let none : value_at nat_cmp x (snaps_of keys) ≡ None = ap (λ n. value_at nat_cmp n (snaps_of keys)) same ∙ fresh_is_none keys (next_in keys id_counter) drawn (omega arith) in
            inr (
              ap (λ (s : Snaps). chain_of s x) are ∙ subst (λ n. chain_of (with_root (next_in keys id_counter) (snaps_of keys)) n ≡ n ∷ []) (sym same) (root_chain (snaps_of keys) (next_in keys id_counter) some (all_above_counter keys drawn))
                  ∙ ap (λ ids. x ∷ ids) (sym (chain_of-none (snaps_of keys) x none)),
              none,
            )
        by x false apart = inl (ap (λ (s : Snaps). chain_of s x) are ∙ root_others (snaps_of keys) (next_in keys id_counter) some (all_above_counter keys drawn) x (λ same. true≢false (sym (eq-eqb x (next_in keys id_counter) same) ∙ apart)), refl)

    -- where a leaf is split, it is the origin of the new ones
    abbrev pub split_origin : ℕ → ℕ → ℕ
    split_origin id x = cond (x == next_in keys id_counter) id (cond (x == (next_in keys id_counter - 1)) id x)

    -- So ids grow there too.
    pub split_grows : (id : ℕ) (leaf : Snap) → value_at nat_cmp id (snaps_of keys) ≡ Some leaf → 2 ≤ next_in keys id_counter → snaps_of new ≡ split_snaps (snaps_of keys) id (next_in keys id_counter) leaf → Grows keys new (split_origin id)
    split_grows id leaf found left are = record {
      files = files;
      there = λ x there. subst (λ (s : Snaps). IsSome (value_at nat_cmp x s)) (sym are)
          (there_with (with_value nat_cmp n (leaf_under id) (with_value nat_cmp id (interior_over n (n - 1) leaf) (snaps_of keys))) (n - 1) (leaf_under id) x
          (there_with (with_value nat_cmp id (interior_over n (n - 1) leaf) (snaps_of keys)) n (leaf_under id) x
          (there_with (snaps_of keys) id (interior_over n (n - 1) leaf) x there)));
      goes_on = λ x. by x (x == n) refl (x == (n - 1)) refl;
    }
      where
        n : ℕ
        n = next_in keys id_counter

        by : (x : ℕ) (a : Bool) → (x == n) ≡ a → (b : Bool) → (x == (n - 1)) ≡ b → GoesOn keys new x (cond a id (cond b id x))
        by x true at b other = let same : x ≡ n = eqb-true x n at in
            inr (
              ap (λ (s : Snaps). chain_of s x) are ∙ subst (λ m. chain_of (split_snaps (snaps_of keys) id n leaf) m ≡ m ∷ chain_of (snaps_of keys) id) (sym same) (chain-source (snaps_of keys) id n leaf (snaps_of-rises keys) found left (all_above_counter keys drawn)),
              ap (λ m. value_at nat_cmp m (snaps_of keys)) same ∙ fresh_is_none keys n drawn (omega arith),
            )
        by x false apart true at = let same : x ≡ n - 1 = eqb-true x (n - 1) at in
            inr (
              ap (λ (s : Snaps). chain_of s x) are ∙ subst (λ m. chain_of (split_snaps (snaps_of keys) id n leaf) m ≡ m ∷ chain_of (snaps_of keys) id) (sym same) (chain-copy (snaps_of keys) id n leaf (snaps_of-rises keys) found left (all_above_counter keys drawn)),
              ap (λ m. value_at nat_cmp m (snaps_of keys)) same ∙ fresh_is_none keys (n - 1) drawn (omega arith),
            )
        by x false apart false also = inl (
          ap (λ (s : Snaps). chain_of s x) are
              ∙ split_others (snaps_of keys) id n leaf found left (all_above_counter keys drawn) (snaps_of-rises keys) x (λ same. true≢false (sym (eq-eqb x n same) ∙ apart)) (λ same. true≢false (sym (eq-eqb x (n - 1) same) ∙ also)),
          refl,
        )

    module _ (id : ℕ) (leaf : Snap) (found : value_at nat_cmp id (snaps_of keys) ≡ Some leaf) (left : 2 ≤ next_in keys id_counter) (are : snaps_of new ≡ split_snaps (snaps_of keys) id (next_in keys id_counter) leaf) (apart : AreExtentsApart keys) where
      alike : (x : ℕ) → ShowAlike new x keys (cond (x == next_in keys id_counter) id (cond (x == (next_in keys id_counter - 1)) id x))
      alike x = grown_alike keys new (split_origin id) (split_grows id leaf found left are) apart x

      -- So the source shows what the old leaf showed,
      pub split_source : ShowAlike new (next_in keys id_counter) keys id
      split_source = subst (λ b. ShowAlike new (next_in keys id_counter) keys (cond b id (cond (next_in keys id_counter == (next_in keys id_counter - 1)) id (next_in keys id_counter)))) (eq-eqb (next_in keys id_counter) (next_in keys id_counter) refl) (alike (next_in keys id_counter))

      -- and so does the copy,
      pub split_copy : ShowAlike new (next_in keys id_counter - 1) keys id
      split_copy = subst (λ o. ShowAlike new (next_in keys id_counter - 1) keys o) (by (next_in keys id_counter - 1 == next_in keys id_counter)) (alike (next_in keys id_counter - 1))
        where
          by : (b : Bool) → cond b id (cond (next_in keys id_counter - 1 == (next_in keys id_counter - 1)) id (next_in keys id_counter - 1)) ≡ id
          by true = refl
          by false = ap (λ b. cond b id (next_in keys id_counter - 1)) (eq-eqb (next_in keys id_counter - 1) (next_in keys id_counter - 1) refl)

      -- and all others what they showed.
      pub split_other : (other : ℕ) → other ≢ next_in keys id_counter → other ≢ next_in keys id_counter - 1 → ShowAlike new other keys other
      split_other other differ also = subst (λ o. ShowAlike new other keys o) (ap (λ b. cond b id (cond (other == (next_in keys id_counter - 1)) id other)) (ne_eqb other (next_in keys id_counter) differ) ∙ ap (λ b. cond b id other) (ne_eqb other (next_in keys id_counter - 1) also)) (alike other)
