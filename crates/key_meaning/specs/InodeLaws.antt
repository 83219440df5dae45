-- What stays of facts 3 and 5 of tidy keys where one inode changes in a live leaf.
use Rattle.std.proofs.Common.{◌≡◌, ℕ, Bool, true, false, Option, None, refl, sym, ap, ◌∙◌, subst, ⊎_elim, inl, inr}
use Rattle.std.specs.Prelude.{◌≢◌, ◌⊎◌, ◌==◌, IsSome, All, is_some}
use Rattle.std.specs.List.{slice_index_or}
use Rattle.std.proofs.lemmas.Bool.{eq-eqb, eqb-true, true≢false}
use Rattle.std.proofs.lemmas.List.Elements.{All-weaker}
use Rattle.snap_tree.specs.Snaps.{Snaps, is_ancestor_of}
use Rattle.vol_types.specs.KeyMaps.{IsKeyMap, KeyMap, entries_of, is_update_of}
use Rattle.vol_types.specs.declared.positions.Btree.{Btree}
use Rattle.vol_types.specs.declared.positions.Btree.TheVariants.{Extents, Deleted}
use Rattle.vol_types.specs.declared.positions.Pos.{Pos}
use Rattle.vol_types.specs.declared.values.Value.{Value}
use Rattle.key_meaning.specs.Alike.{ShowAlike}
use Rattle.key_meaning.specs.ChangeLaws.{update_changes_only}
use Rattle.key_meaning.specs.Changes.{ChangesInode, ChangesOnly}
use Rattle.key_meaning.specs.Checks.{AreTreesJoined, IsLiveLeaf}
use Rattle.key_meaning.specs.CounterLaws.{entries_other}
use Rattle.key_meaning.specs.Forest.{inode_in}
use Rattle.key_meaning.specs.Numbers.{NamesOthers, own_inode, with_inode}
use Rattle.key_meaning.specs.SoundLaws.{leaf_is_alone}
use Rattle.key_meaning.specs.Tidy.{AreBlocksBelow, AreGone, HasNoBlocks}
use Rattle.key_meaning.specs.UpdateLaws.{inode_update}
use Rattle.key_meaning.specs.Visible.{snaps_of}

module _ (keys : KeyMap) (is : IsKeyMap keys) (id number : ℕ) (value : Option Value) where
  changes : ChangesOnly keys (with_inode id number value keys) id
  changes = update_changes_only (own_inode id number value) keys id is (record { snaps = refl; subvols = refl; place = inl refl })

  in_each : (other : ℕ) → ChangesInode keys (with_inode id number value keys) other number
  in_each = inode_update (own_inode id number value) keys is refl

  stay : (btree : Btree) → is_update_of btree (own_inode id number value) ≡ false → entries_of (with_inode id number value keys) btree ≡ entries_of keys btree
  stay btree other = entries_other (own_inode id number value) keys btree other

  module _ (joined : AreTreesJoined keys) (leaf : IsLiveLeaf keys id) where
    -- an id below the leaf is the leaf
    alone : (other : ℕ) → is_ancestor_of (snaps_of keys) id other ≡ true → other ≡ id
    alone other below = leaf_is_alone keys id other joined leaf below

    -- each other id shows what it showed
    others_alike : (other : ℕ) → other ≢ id → ShowAlike (with_inode id number value keys) other keys other
    others_alike other apart = changes.elsewhere other (by (is_ancestor_of (snaps_of keys) id other) refl)
      where
        by : (b : Bool) → is_ancestor_of (snaps_of keys) id other ≡ b → b ≡ false
        by true below = absurd (apart (alone other below))
        by false below = refl

    -- Each inode but that of the number in the id is as it was.
    pub this_or_same : (other n : ℕ) → ((other ≡ id) × (n ≡ number)) ⊎ (inode_in (with_inode id number value keys) other n ≡ inode_in keys other n)
    this_or_same other n = by (other == id) refl (n == number) refl
      where
        by : (b : Bool) → (other == id) ≡ b → (c : Bool) → (n == number) ≡ c → ((other ≡ id) × (n ≡ number)) ⊎ (inode_in (with_inode id number value keys) other n ≡ inode_in keys other n)
        by true here true this = inl (eqb-true other id here, eqb-true n number this)
        by true here false apart = inr ((in_each other).inodes n (λ same. true≢false (sym (eq-eqb n number same) ∙ apart)))
        by false apart c this = inr ((others_alike other (λ same. true≢false (sym (eq-eqb other id same) ∙ apart))).inodes n)

    -- Fact 3 stays where the id showed an inode of the number, or no extent or hole is of it,
    pub inode_keeps_below : IsSome (inode_in keys id number) ⊎ All (NamesOthers number Extents) keys.extents → AreBlocksBelow keys → AreBlocksBelow (with_inode id number value keys)
    inode_keeps_below free was = record {
      each = λ a below n ancestor none some. subst (All (λ (entry : Pos × Value). entry.0.inode ≡ n → is_ancestor_of (snaps_of (with_inode id number value keys)) entry.0.snapshot a ≡ false)) (sym (stay Extents refl))
          (subst (λ (s : Snaps). All (λ (entry : Pos × Value). entry.0.inode ≡ n → is_ancestor_of s entry.0.snapshot a ≡ false) keys.extents) (sym changes.snaps)
          (has_none a below n (ap (λ s. is_ancestor_of s a below) (sym changes.snaps) ∙ ancestor) none some));
    }
      where
        has_none : (a below n : ℕ) → is_ancestor_of (snaps_of keys) a below ≡ true → inode_in (with_inode id number value keys) a n ≡ None → IsSome (inode_in (with_inode id number value keys) below n) → HasNoBlocks keys a n
        has_none a below n ancestor none some = ⊎_elim
            (λ (at : (a ≡ id) × (n ≡ number)). absurd (true≢false (sym some ∙ ap is_some (ap (λ x. inode_in (with_inode id number value keys) x n) (alone below (ap (λ x. is_ancestor_of (snaps_of keys) x below) (sym at.0) ∙ ancestor) ∙ sym at.0) ∙ none))))
            (λ (same : inode_in (with_inode id number value keys) a n ≡ inode_in keys a n). ⊎_elim
            (λ (at : (below ≡ id) × (n ≡ number)). ⊎_elim
            (λ (showed : IsSome (inode_in keys id number)). was.each a below n ancestor (sym same ∙ none) (subst IsSome (λ i. inode_in keys (sym at.0 i) (sym at.1 i)) showed))
            (λ (apart : All (NamesOthers number Extents) keys.extents). All-weaker (NamesOthers number Extents) (λ (entry : Pos × Value). entry.0.inode ≡ n → is_ancestor_of (snaps_of keys) entry.0.snapshot a ≡ false) (λ (entry : Pos × Value) (other : entry.0.inode ≢ number) (this : entry.0.inode ≡ n). absurd (other (this ∙ at.1))) keys.extents apart)
            free)
            (λ (also : inode_in (with_inode id number value keys) below n ≡ inode_in keys below n). was.each a below n ancestor (sym same ∙ none) (subst IsSome also some))
            (this_or_same below n))
            (this_or_same a n)

    -- and fact 5 where the number isn't that of a file that is gone in the id.
    pub inode_keeps_gone : IsSome (inode_in keys id number) ⊎ All (NamesOthers number Deleted) keys.deleted → AreGone keys → AreGone (with_inode id number value keys)
    inode_keeps_gone free was = record {
      each = subst (All (λ (entry : Pos × Value). inode_in (with_inode id number value keys) entry.0.snapshot entry.0.offset ≡ None)) (sym (stay Deleted refl))
          (λ k d lt. ⊎_elim
          (λ (this : ((slice_index_or keys.deleted k d).0.snapshot ≡ id) × ((slice_index_or keys.deleted k d).0.offset ≡ number)). ⊎_elim
          (λ (showed : IsSome (inode_in keys id number)). absurd (true≢false (sym showed ∙ ap is_some ((λ i. inode_in keys (sym this.0 i) (sym this.1 i)) ∙ was.each k d lt))))
          (λ (apart : All (NamesOthers number Deleted) keys.deleted). absurd (apart k d lt this.1))
          free)
          (λ (same : inode_in (with_inode id number value keys) (slice_index_or keys.deleted k d).0.snapshot (slice_index_or keys.deleted k d).0.offset ≡ inode_in keys (slice_index_or keys.deleted k d).0.snapshot (slice_index_or keys.deleted k d).0.offset). same ∙ was.each k d lt)
          (this_or_same (slice_index_or keys.deleted k d).0.snapshot (slice_index_or keys.deleted k d).0.offset));
    }
