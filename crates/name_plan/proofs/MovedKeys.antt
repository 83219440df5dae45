-- What is so of a name that moves in the keys: that the new one is free, that its updates are few, and what kind it leads to.
use Rattle.std.proofs.Common.{◌≡◌, ℕ, Bool, true, false, cond, Option, Some, None, List, [], refl, sym, ap, ◌∙◌, subst, arith}
use Rattle.std.specs.Prelude.{◌≢◌, IfOk, Result, Ok, Err, is_some, length, nat_le, option_map}
use Rattle.std.specs.Ordering.{is_eq}
use Rattle.std.proofs.lemmas.Bool.{false≢true}
use Rattle.std.proofs.lemmas.Option.{same_Some, none-some as none_some}
use Rattle.dirent_keys.specs.Links.{names_value, with_link}
use Rattle.dirent_keys.specs.Moves.{links_left, share_slot, step_to_move, updates_to_leave, updates_to_move}
use Rattle.dirent_keys.specs.Names.{IfDone, Target, has_name, target_of, updates_to_remove}
use Rattle.dirent_keys.specs.declared.step.NameStep.{NameStep}
use Rattle.dirent_keys.specs.declared.step.NameStep.TheVariants as steps
use Rattle.forest_ops.specs.declared.operation.Cause.{Cause}
use Rattle.key_meaning.specs.Forest.{link_named}
use Rattle.key_meaning.specs.SoundLaws.{all_in, found_in}
use Rattle.key_steps.specs.Good.{IsGoodShown, IsLinkJoined}
use Rattle.key_steps.specs.Shown.{Shown, kind_of}
use Rattle.key_view.specs.Changes.{updates_to_see}
use Rattle.name_plan.proofs.FewUpdates.{AreFew, none_few, seen_few, then_few}
use Rattle.name_plan.specs.Moved.{IfMoved, moved_by}
use Rattle.plain_forest.specs.Forest.{Names}
use Rattle.plain_forest.specs.Steps.{names_per_slot}
use Rattle.vol_digest.specs.Digests.{slot_of}
use Rattle.vol_types.specs.Btrees.{btree_code}
use Rattle.vol_types.specs.KeyMaps.{KeyMap}
use Rattle.vol_types.specs.Ranges.{name_cmp}
use Rattle.vol_types.specs.declared.keys.Update.{Update}
use Rattle.vol_types.specs.declared.positions.Btree.TheVariants.{Dirents, Extents}
use Rattle.vol_types.specs.declared.values.FileKind.{FileKind}
use Rattle.vol_types.specs.declared.values.Link.{Link}

-- What a result says of all that is planned, and of its updates, where more is to be said.
pub carried_moved : {E : Type 0} (result : Result (Result (Option (List Update)) Cause) E) (P R : Result (Option (List Update)) Cause → Type 0) (T : List Update → Type 0)
    → ((planned : Result (Option (List Update)) Cause) → P planned → ((updates : List Update) → planned ≡ Ok (Some updates) → T updates) → R planned) → IfOk result P → IfOk result (λ planned. IfMoved planned T) → IfOk result R
carried_moved (Ok planned) P R T step one other = step planned one (λ updates is. subst (λ p. IfMoved p T) is other)
carried_moved (Err e) P R T step one other = tt

-- What it says of the updates, where more is to be said of these.
pub carried_updates : {E : Type 0} (result : Result (Result (Option (List Update)) Cause) E) (P Q : List Update → Type 0) → ((updates : List Update) → P updates → Q updates) → IfOk result (λ planned. IfMoved planned P) → IfOk result (λ planned. IfMoved planned Q)
carried_updates (Ok (Ok (Some updates))) P Q step holds = step updates holds
carried_updates (Ok (Ok None)) P Q step holds = tt
carried_updates (Ok (Err cause)) P Q step holds = tt
carried_updates (Err e) P Q step holds = tt

-- What is said of a step that moves a name is said of what is planned, under the same condition, where more is to be said of its updates.
pub moved_has : (If : Type 0) (P Q : List Update → Type 0) (step : NameStep) (planned : Result (Option (List Update)) Cause) → planned ≡ moved_by step → ((updates : List Update) → P updates → Q updates) → (If → IfDone step P)
    → IfMoved planned (λ updates. If → Q updates)
moved_has If P Q step planned is follows has = subst (λ p. IfMoved p (λ updates. If → Q updates)) (sym is) (by step has)
  where
    by : (s : NameStep) → (If → IfDone s P) → IfMoved (moved_by s) (λ updates. If → Q updates)
    by (steps.Done updates) done = λ holds. follows updates (done holds)
    by steps.Exists done = tt
    by steps.Crowded done = tt

-- What isn't refused has updates.
pub moved_some : (step : NameStep) (planned : Result (Option (List Update)) Cause) → planned ≡ moved_by step → IfOk planned (λ updates. is_some updates ≡ true)
moved_some step planned is = subst (λ (p : Result (Option (List Update)) Cause). IfOk p (λ updates. is_some updates ≡ true)) (sym is) (by step)
  where
    by : (s : NameStep) → IfOk (moved_by s) (λ updates. is_some updates ≡ true)
    by (steps.Done updates) = refl
    by steps.Exists = tt
    by steps.Crowded = tt

-- where a name leads
abbrev target_by : Link → Target
target_by link = (link.number, link.kind)

-- The kind to which a name leads is that of the inode, where what shows is good.
pub kind_there : (root : ℕ) (shown : Shown) (directories : List (ℕ × Names)) → IsGoodShown root shown directories → (directory : ℕ) (name : List ℕ) (number : ℕ) (kind : FileKind)
    → target_of name (shown.links directory (slot_of name)) ≡ Some (number, kind) → kind_of shown number ≡ Some kind
kind_there root shown directories good directory name number kind leads = by (link_named name (shown.links directory (slot_of name))) refl leads
  where
    by : (link : Option Link) → link_named name (shown.links directory (slot_of name)) ≡ link → option_map target_by link ≡ Some (number, kind) → kind_of shown number ≡ Some kind
    by None found same = absurd (none_some (number, kind) same)
    by (Some link) found same =
        let joined = all_in (IsLinkJoined shown directory (slot_of name)) link (shown.links directory (slot_of name)) (good.names directory (slot_of name)) (found_in (λ (l : Link). is_eq (name_cmp name l.name)) link (shown.links directory (slot_of name)) found).0 in
        let target = same_Some (target_by link) (number, kind) same in
        ap (kind_of shown) (sym (ap (λ (t : Target). t.0) target)) ∙ joined.leads_to ∙ ap (λ (t : Target). Some t.1) target

module _ (keys : KeyMap) (id from : ℕ) (name : List ℕ) (to : ℕ) (link : Link) where
  -- The new name isn't there, and the updates are those that move it.
  pub record IsMoved (updates : List Update) : Type 0 where
    pub fresh : has_name keys id to link.name ≡ false
    pub are : updates ≡ updates_to_move keys id from name to link

  abbrev updates_or : List Update → NameStep → List Update
  updates_or other (steps.Done updates) = updates
  updates_or other steps.Exists = other
  updates_or other steps.Crowded = other

  abbrev is_done : NameStep → Bool
  is_done (steps.Done updates) = true
  is_done steps.Exists = false
  is_done steps.Crowded = false

  -- So it is where moving the name comes to some updates,
  pub is_moved : (updates : List Update) → step_to_move keys id from name to link ≡ steps.Done updates → IsMoved updates
  is_moved updates is = by (has_name keys id to link.name) (nat_le names_per_slot (length (links_left keys id from name to link.name))) refl is
    where
      by : (there full : Bool) → has_name keys id to link.name ≡ there → cond there steps.Exists (cond full steps.Crowded (steps.Done (updates_to_move keys id from name to link))) ≡ steps.Done updates → IsMoved updates
      by true full fresh same = absurd (false≢true (ap is_done same))
      by false true fresh same = absurd (false≢true (ap is_done same))
      by false false fresh same = record { fresh = fresh; are = sym (ap (updates_or updates) same) }

  -- and these are two at most.
  pub moved_few : AreFew 2 (updates_to_move keys id from name to link)
  moved_few =
      then_few 1 1 (updates_to_leave keys id from name to link.name) (updates_to_see keys Dirents to (slot_of link.name) id (names_value (with_link link (links_left keys id from name to link.name))))
      (by (share_slot from name to link.name)) (seen_few keys Dirents to (slot_of link.name) id (names_value (with_link link (links_left keys id from name to link.name))) other)
    where
      other : Dirents ≢ Extents
      other same = omega (arith, ap btree_code same)

      by : (within : Bool) → AreFew 1 (cond within [] (updates_to_remove keys id from name))
      by true = record { count_fits = omega arith; leaves = none_few.leaves; extents = none_few.extents }
      by false = seen_few keys Dirents from (slot_of name) id _ other
