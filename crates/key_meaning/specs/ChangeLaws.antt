-- A change that stays in one id changes only what that id and those below it show.
use Rattle.std.proofs.Common.{◌≡◌, ℕ, false, cond, List, [], ◌∷◌, refl, ap, ◌∙◌, ⊎_elim}
use Rattle.std.specs.Prelude.{◌&&◌, ◌==◌, All}
use Rattle.std.proofs.lemmas.List.Elements.{All-head, All-tail}
use Rattle.snap_tree.specs.Snaps.{is_ancestor_of}
use Rattle.vol_types.specs.KeyMapLaws.{IsKeyMap-with_update, entries_of-with_update}
use Rattle.vol_types.specs.KeyMaps.{IsKeyMap, KeyMap, is_update_of, with_update, with_updates}
use Rattle.vol_types.specs.Maps.{put_at}
use Rattle.vol_types.specs.Positions.{pos_cmp}
use Rattle.vol_types.specs.declared.keys.Update.{Update}
use Rattle.vol_types.specs.declared.positions.Btree.TheVariants.{Inodes, Dirents, Subvols, Snapshots}
use Rattle.key_meaning.specs.Alike.{ShowAlike}
use Rattle.key_meaning.specs.AlikeLaws.{alike_from_visible, alike_then}
use Rattle.key_meaning.specs.BlockLaws.{block_in-elsewhere, block_in-other}
use Rattle.key_meaning.specs.Changes.{ChangesOnly, IsUnseen, StaysIn}
use Rattle.key_meaning.specs.Visible.{snaps_of}
use Rattle.key_meaning.specs.VisibleLaws.{snaps_of-with_update, visible-elsewhere, visible-other}

-- An update of a btree of which ids show nothing leaves what each id shows.
pub alike_unseen : (update : Update) (keys : KeyMap) → IsKeyMap keys → is_update_of Snapshots update ≡ false → IsUnseen update → (id : ℕ) → ShowAlike (with_update update keys) id keys id
alike_unseen update keys is other unseen id = alike_from_visible (with_update update keys) keys id id
    (λ number. visible-other update keys is other Inodes 0 number id (ap (λ b. b && (update.pos.inode == 0 && update.pos.offset == number)) unseen.inodes))
    (λ directory slot. visible-other update keys is other Dirents directory slot id (ap (λ b. b && (update.pos.inode == directory && update.pos.offset == slot)) unseen.dirents))
    (block_in-other update keys is other unseen.extents id)

-- An update of an id leaves what each id shows whose chain has not that one.
pub alike_elsewhere : (update : Update) (keys : KeyMap) → IsKeyMap keys → is_update_of Snapshots update ≡ false → (id : ℕ) → is_ancestor_of (snaps_of keys) update.pos.snapshot id ≡ false → ShowAlike (with_update update keys) id keys id
alike_elsewhere update keys is other id apart = alike_from_visible (with_update update keys) keys id id
    (λ number. visible-elsewhere update keys is other Inodes 0 number id apart)
    (λ directory slot. visible-elsewhere update keys is other Dirents directory slot id apart)
    (λ file block. block_in-elsewhere update keys is other id file block apart)

-- No change changes only what one id shows.
pub changes_nothing : (keys : KeyMap) (id : ℕ) → ChangesOnly keys keys id
changes_nothing keys id = record { snaps = refl; subvols = refl; elsewhere = λ other apart. record { inodes = λ number. refl; names = λ directory slot. refl; blocks = λ file block. refl } }

-- Two such changes are one.
pub changes_then : (keys middle new : KeyMap) (id : ℕ) → ChangesOnly keys middle id → ChangesOnly middle new id → ChangesOnly keys new id
changes_then keys middle new id first second = record {
  snaps = second.snaps ∙ first.snaps;
  subvols = second.subvols ∙ first.subvols;
  elsewhere = λ other apart. alike_then new middle keys other other other (second.elsewhere other (ap (λ snaps. is_ancestor_of snaps id other) first.snaps ∙ apart)) (first.elsewhere other apart);
}

-- An update that stays in an id is such a change,
pub update_changes_only : (update : Update) (keys : KeyMap) (id : ℕ) → IsKeyMap keys → StaysIn id update → ChangesOnly keys (with_update update keys) id
update_changes_only update keys id is stays = record {
  snaps = snaps_of-with_update update keys is stays.snaps;
  subvols = entries_of-with_update update keys Subvols ∙ ap (λ b. cond b (put_at pos_cmp update.pos update.value keys.subvols) keys.subvols) stays.subvols;
  elsewhere = λ other apart. ⊎_elim
      (λ (at : update.pos.snapshot ≡ id). alike_elsewhere update keys is stays.snaps other (ap (λ a. is_ancestor_of (snaps_of keys) a other) at ∙ apart))
      (λ (unseen : IsUnseen update). alike_unseen update keys is stays.snaps unseen other)
      stays.place;
}

-- and so are several.
pub updates_change_only : (updates : List Update) (keys : KeyMap) (id : ℕ) → IsKeyMap keys → All (StaysIn id) updates → ChangesOnly keys (with_updates updates keys) id
updates_change_only [] keys id is stay = changes_nothing keys id
updates_change_only (update ∷ updates) keys id is stay =
    changes_then keys (with_update update keys) (with_updates updates (with_update update keys)) id (update_changes_only update keys id is (All-head (StaysIn id) update updates stay))
    (updates_change_only updates (with_update update keys) id (IsKeyMap-with_update update keys is) (All-tail (StaysIn id) update updates stay))
