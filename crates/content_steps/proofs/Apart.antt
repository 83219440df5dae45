-- Updates of content and updates to see a value are of no key on space.
use Rattle.std.proofs.Common.{◌≡◌, ℕ, Bool, true, false, cond, Option, Some, None, List, [], ◌∷◌, refl, sym, ap, ◌∙◌}
use Rattle.std.specs.Prelude.{◌≢◌, ◌&&◌, ◌==◌, All, is_some}
use Rattle.std.specs.List.{slice_index_or}
use Rattle.std.proofs.lemmas.Bool.{and_parts, eqb-true}
use Rattle.std.proofs.lemmas.List.Elements.{All-cons, All-nil}
use Rattle.content_steps.proofs.Stamped.{same_btree}
use Rattle.extent_ops.specs.Content.{AreOfContent}
use Rattle.key_meaning.specs.Visible.{own_value}
use Rattle.key_meaning.specs.VisibleLaws.{is_put_at}
use Rattle.key_triggers.specs.Follows.{IsNoSpaceUpdate}
use Rattle.key_view.specs.Changes.{needs_whiteout, own_update, updates_to_see}
use Rattle.vol_types.specs.Btrees.{btree_code}
use Rattle.vol_types.specs.KeyMaps.{KeyMap, is_update_of}
use Rattle.vol_types.specs.declared.keys.Update.{Update}
use Rattle.vol_types.specs.declared.positions.Btree.{Btree}
use Rattle.vol_types.specs.declared.positions.Btree.TheVariants.{Alloc, Backptrs, Extents}
use Rattle.vol_types.specs.declared.values.Value.{Value}
use Rattle.vol_types.specs.declared.values.Value.TheVariants.{White}

-- An update that names one btree is of no other one.
pub of_this : (update : Update) (named btree : Btree) → update.btree ≡ named → btree ≢ named → is_update_of btree update ≡ false
of_this update named btree is differ = by (is_update_of btree update) refl
  where
    by : (b : Bool) → is_update_of btree update ≡ b → b ≡ false
    by true of = absurd (differ (sym (same_btree update.btree btree (eqb-true (btree_code update.btree) (btree_code btree) (and_parts (update.level == 0) (btree_code update.btree == btree_code btree) of).1)) ∙ is))
    by false of = refl

module _ (id : ℕ) (updates : List Update) (own : AreOfContent id updates) where
  -- Updates of content are of no other btree,
  pub of_no_other_btree : (btree : Btree) → btree ≢ Extents → All (λ (update : Update). is_update_of btree update ≡ false) updates
  of_no_other_btree btree differ = λ k d lt. of_this (slice_index_or updates k d) Extents btree (own.each k d lt).0 differ

  -- nor at a place of one,
  pub of_no_other_place : (btree : Btree) (inode offset : ℕ) → btree ≢ Extents → All (λ (update : Update). is_put_at update btree inode offset ≡ false) updates
  of_no_other_place btree inode offset differ = λ k d lt.
      ap (λ b. b && ((slice_index_or updates k d).pos.inode == inode && (slice_index_or updates k d).pos.offset == offset)) (of_no_other_btree btree differ k d lt)

  -- and of no key on space.
  pub of_no_space : All IsNoSpaceUpdate updates
  of_no_space = λ k d lt. record { bucket = of_no_other_btree Alloc (λ (is : Alloc ≡ Extents). cc) k d lt; block = of_no_other_btree Backptrs (λ (is : Backptrs ≡ Extents). cc) k d lt }

-- What each update of an id's own key at a place has, those to see a value there have.
to_see_have : (P : Update → Type 0) (keys : KeyMap) (btree : Btree) (inode offset id : ℕ) (value : Option Value) → ((own : Option Value) → P (own_update btree inode offset id own)) → All P (updates_to_see keys btree inode offset id value)
to_see_have P keys btree inode offset id value has = after value
  where
    one : (own : Option Value) → All P (own_update btree inode offset id own ∷ [])
    one own = All-cons P (own_update btree inode offset id own) [] (has own) (All-nil P)

    by : (hides kept : Bool) → All P (cond hides (own_update btree inode offset id (Some White) ∷ []) (cond kept (own_update btree inode offset id None ∷ []) []))
    by true kept = one (Some White)
    by false true = one None
    by false false = All-nil P

    after : (value : Option Value) → All P (updates_to_see keys btree inode offset id value)
    after (Some value) = one (Some value)
    after None = by (needs_whiteout keys btree inode offset id) (is_some (own_value keys btree inode offset id))

-- Updates to see a value are of no other btree than its own,
pub seen_of_no_other : (keys : KeyMap) (btree other : Btree) (inode offset id : ℕ) (value : Option Value) → other ≢ btree → All (λ (update : Update). is_update_of other update ≡ false) (updates_to_see keys btree inode offset id value)
seen_of_no_other keys btree other inode offset id value differ = to_see_have (λ (update : Update). is_update_of other update ≡ false) keys btree inode offset id value (λ own. of_this (own_update btree inode offset id own) btree other refl differ)

-- and so of no key on space where that isn't one of these.
pub seen_of_no_space : (keys : KeyMap) (btree : Btree) (inode offset id : ℕ) (value : Option Value) → btree ≢ Alloc → btree ≢ Backptrs → All IsNoSpaceUpdate (updates_to_see keys btree inode offset id value)
seen_of_no_space keys btree inode offset id value no_bucket no_block = to_see_have IsNoSpaceUpdate keys btree inode offset id value
    (λ own. record { bucket = of_this (own_update btree inode offset id own) btree Alloc refl (λ is. no_bucket (sym is)); block = of_this (own_update btree inode offset id own) btree Backptrs refl (λ is. no_block (sym is)) })
