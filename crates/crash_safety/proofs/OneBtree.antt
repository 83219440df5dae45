-- What updates make of one btree: it depends on its own entries alone, and where they have the updates already, on nothing.
use Rattle.std.proofs.Common.{◌≡◌, ℕ, ◌<◌, suc, Bool, true, false, cond, List, [], ◌∷◌, ◌++◌, length, Some, refl, sym, ap, ◌∙◌, arith}
use Rattle.std.proofs.lemmas.List.Elements.{Contains-append_right, Contains-get_or}
use Rattle.std.specs.Prelude.{slice_get}
use Rattle.image_view.specs.Found.{updates_of}
use Rattle.journal_ring.specs.declared.found.FoundEntry.{FoundEntry}
use Rattle.vol_types.specs.KeyMapLaws.{entries_of-with_update, with_updates-append}
use Rattle.vol_types.specs.KeyMaps.{IsKeyMap, KeyMap, entries_of, is_update_of, updated_entries, with_update, with_updates}
use Rattle.vol_types.specs.Maps.{put_at}
use Rattle.vol_types.specs.Positions.{pos_cmp}
use Rattle.vol_types.specs.declared.keys.Update.{Update}
use Rattle.vol_types.specs.declared.positions.Btree.{Btree}
use Rattle.crash_safety.specs.Contents.{ChangesBtree}

-- Updates make the same of the same entries.
pub same_with : (updates : List Update) (one other : KeyMap) (btree : Btree) → entries_of one btree ≡ entries_of other btree
    → entries_of (with_updates updates one) btree ≡ entries_of (with_updates updates other) btree
same_with [] one other btree same = same
same_with (update ∷ updates) one other btree same =
    same_with updates (with_update update one) (with_update update other) btree
    (entries_of-with_update update one btree ∙ ap (updated_entries btree update) same ∙ sym (entries_of-with_update update other btree))

-- Updates of other btrees leave a btree's entries.
updates_leave : (updates : List Update) (keys : KeyMap) (btree : Btree) → (ChangesBtree btree updates → ⊥) → entries_of (with_updates updates keys) btree ≡ entries_of keys btree
updates_leave [] keys btree none = refl
updates_leave (update ∷ updates) keys btree none =
    updates_leave updates (with_update update keys) btree (λ changes. none (changes.0, Contains-append_right (update ∷ []) updates changes.0 changes.1, changes.2))
    ∙ entries_of-with_update update keys btree
    ∙ by (is_update_of btree update) refl
  where
    by : (mine : Bool) → is_update_of btree update ≡ mine → cond mine (put_at pos_cmp update.pos update.value (entries_of keys btree)) (entries_of keys btree) ≡ entries_of keys btree
    by true is = let first : 0 < length (update ∷ updates) = omega arith in absurd (none (update, Contains-get_or (update ∷ updates) 0 update first, is))
    by false is = refl

-- So do the updates of entries of the journal none of which changes the btree.
pub entries_leave : (entries : List FoundEntry) (keys : KeyMap) (btree : Btree) → ((k : ℕ) (found : FoundEntry) → slice_get entries k ≡ Some found → ChangesBtree btree found.entry.updates → ⊥)
    → entries_of (with_updates (updates_of entries) keys) btree ≡ entries_of keys btree
entries_leave [] keys btree none = refl
entries_leave (found ∷ entries) keys btree none =
    ap (λ (made : KeyMap). entries_of made btree) (with_updates-append found.entry.updates (updates_of entries) keys)
    ∙ entries_leave entries (with_updates found.entry.updates keys) btree (λ k other is. none (suc k) other is)
    ∙ updates_leave found.entry.updates keys btree (none 0 found refl)

-- Updates that are made again, over keys that have them, change nothing.
abbrev pub MadeAgain : Type 0
MadeAgain = (updates more : List Update) (keys : KeyMap) → IsKeyMap keys → with_updates more (with_updates (updates ++ more) keys) ≡ with_updates (updates ++ more) keys

-- So it is with one btree, whatever the others have.
pub btree_again : MadeAgain → (updates more : List Update) (keys content : KeyMap) (btree : Btree) → IsKeyMap keys → entries_of content btree ≡ entries_of (with_updates (updates ++ more) keys) btree
    → entries_of (with_updates more content) btree ≡ entries_of (with_updates (updates ++ more) keys) btree
btree_again law updates more keys content btree is has =
    same_with more content (with_updates (updates ++ more) keys) btree has
    ∙ ap (λ (made : KeyMap). entries_of made btree) (law updates more keys is)
