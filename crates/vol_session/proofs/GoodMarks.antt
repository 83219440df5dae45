-- The key map in memory means the forest after the history of the session; and so the marks stay good with one entry more, and with one mark more where it is a commit.
use Rattle.std.proofs.Common.{◌≡◌, ◌≤◌, ◌<◌, ◌+◌, ℕ, Bool, true, false, cond, List, [], ◌∷◌, ◌++◌, Some, length, get_or, refl, sym, ap, subst, ◌∙◌, ⊎_elim, arith}
use Rattle.std.proofs.lemmas.Bool.{cases_lt}
use Rattle.std.proofs.lemmas.List.Elements.{All-head, All-tail}
use Rattle.std.proofs.lemmas.List.{length-append}
use Rattle.std.proofs.lemmas.Option.{same_Some, slice_get-get_or, slice_get_within}
use Rattle.std.specs.Prelude.{◌&&◌, ◌==◌, ◌≢◌, All, slice_get}
use Rattle.btree_map.specs.Trees.{keys_in}
use Rattle.core_volume.specs.Volumes.{Volume, commits_of as commits_since}
use Rattle.dev_model.specs.Devices.{DevicesState, now}
use Rattle.dev_model.specs.Disk.{as_read}
use Rattle.forest_ops.specs.History.{History, after_all, after_commits, commit_count, is_commit}
use Rattle.forest_ops.specs.Steps.{forest_after}
use Rattle.forest_ops.specs.declared.operation.Entry.{Entry}
use Rattle.fs_plan.specs.Plans.{IsPlanOf}
use Rattle.fs_plan.specs.declared.planned.Plan.{Plan}
use Rattle.image_view.specs.Found.{Found, node_places, read_in}
use Rattle.key_meaning.specs.Checks.{IsSound}
use Rattle.key_meaning.specs.Forest.{forest_in}
use Rattle.key_meaning.specs.Tidy.{IsTidy}
use Rattle.plain_forest.specs.Forest.{Forest}
use Rattle.vol_session.specs.Marks.{AreGoodMarks, IsAtMarks, IsGoodMark, IsMarkAt, commits_found, forest_found}
use Rattle.vol_types.specs.Btrees.{btree_code}
use Rattle.vol_types.specs.KeyMapLaws.{IsKeyMap-with_updates, entries_of-with_update}
use Rattle.vol_types.specs.KeyMaps.{Entries, KeyMap, is_update_of, with_update, with_updates}
use Rattle.vol_types.specs.Maps.{put_at}
use Rattle.vol_types.specs.Positions.{pos_cmp}
use Rattle.vol_types.specs.declared.keys.Update.{Update}
use Rattle.vol_types.specs.declared.positions.Btree.{Btree}
use Rattle.vol_types.specs.declared.positions.Btree.TheVariants.{Extents, Inodes, Dirents, Subvols, Snapshots, Alloc, Backptrs, Deleted, Counters}
use Rattle.vol_session.proofs.LaterForests.{after_its_commits, after_one_more, earlier_stays}
use Rattle.vol_session.proofs.MarkParts.{memory_marked}
use Rattle.vol_session.proofs.MarkedEntries.{get_pushed, get_stays}
use Rattle.vol_session.proofs.MovedMarks.{at_parts}

-- ---- updates of other btrees leave the extents

other_code : (btree : Btree) → btree ≢ Extents → (btree_code btree == 0) ≡ false
other_code Extents other = absurd (other refl)
other_code Inodes other = refl
other_code Dirents other = refl
other_code Subvols other = refl
other_code Snapshots other = refl
other_code Alloc other = refl
other_code Backptrs other = refl
other_code Deleted other = refl
other_code Counters other = refl

and_false : (one : Bool) → (one && false) ≡ false
and_false true = refl
and_false false = refl

extents_stay_one : (update : Update) (keys : KeyMap) → update.btree ≢ Extents → (with_update update keys).extents ≡ keys.extents
extents_stay_one update keys other =
    let not_of : is_update_of Extents update ≡ false = ap (λ (b : Bool). (update.level == 0) && b) (other_code update.btree other) ∙ and_false (update.level == 0) in
    entries_of-with_update update keys Extents ∙ ap (λ (b : Bool). cond {A = Entries} b (put_at pos_cmp update.pos update.value keys.extents) keys.extents) not_of

extents_stay : (updates : List Update) (keys : KeyMap) → All (λ (update : Update). update.btree ≢ Extents) updates → (with_updates updates keys).extents ≡ keys.extents
extents_stay [] keys others = refl
extents_stay (update ∷ updates) keys others =
    extents_stay updates (with_update update keys) (All-tail (λ (u : Update). u.btree ≢ Extents) update updates others)
    ∙ extents_stay_one update keys (All-head (λ (u : Update). u.btree ≢ Extents) update updates others)

-- ---- the keys in memory

module _ (begun : Found) (start : DevicesState) (volume : Volume) (trace : History) (commits : ℕ) (marks : List KeyMap) (at : IsAtMarks begun marks volume) (good : AreGoodMarks begun start trace marks)
    (commits_are : commits_since volume ≡ commits_found begun + commits) (counted : commits ≡ commit_count (forest_found begun start) trace) where
  abbrev opening : Forest
  opening = forest_found begun start

  abbrev keys : KeyMap
  keys = keys_in volume.trees

  memory_place : slice_get marks commits ≡ Some keys
  memory_place =
      let marked : IsMarkAt marks (commits_found begun) (commits_since volume) keys =
      memory_marked marks (commits_found begun) volume.writer.flight volume.writer.durable.commits volume.queue keys (at_parts begun marks volume at) in
      subst (λ (place : ℕ). slice_get marks place ≡ Some keys) (omega (arith, commits_are)) marked.marked

  memory_mark : IsGoodMark begun start trace commits keys
  memory_mark = good commits keys memory_place

  pub memory_sound : IsSound keys (node_places begun) begun.layout
  memory_sound = memory_mark.sound

  pub memory_tidy : IsTidy keys
  memory_tidy = memory_mark.tidy

  -- They mean the forest after the history.
  pub memory_means : forest_in keys (read_in (as_read (now start))) ≡ after_all opening trace
  memory_means = memory_mark.forest ∙ ap (λ (count : ℕ). after_commits opening trace count) counted ∙ after_its_commits opening trace

  -- There is a mark for each commit, and the first one.
  marks_count : length marks ≡ commit_count opening trace + 1
  marks_count = let all = at.count in omega (arith, all, commits_are, counted)

  -- Marks stay good with one entry more.
  pub good_told : (entry : Entry) → AreGoodMarks begun start (trace ++ entry ∷ []) marks
  good_told entry count mark is =
      let was : IsGoodMark begun start trace count mark = good count mark is in
      let within : count < length marks = slice_get_within marks count mark is in
      record {
        are_keys = was.are_keys;
        forest = was.forest ∙ sym (earlier_stays opening trace entry count (let all = marks_count in omega (arith, within, all)));
        sound = was.sound;
        tidy = was.tidy;
        extents = was.extents;
      }

  -- With a commit that was planned for the keys in memory, the keys with its updates are one more.
  module _ (client : ℕ) (plan : Plan) (is_plan : IsPlanOf keys (node_places begun) begun.layout client plan) where
    abbrev entry : Entry
    entry = record { client = client; op = plan.op; reply = plan.reply }

    abbrev new_keys : KeyMap
    new_keys = with_updates plan.updates keys

    module _ (is : is_commit (after_all opening trace) entry ≡ true) where
      new_mark : IsGoodMark begun start (trace ++ entry ∷ []) (commit_count opening trace + 1) new_keys
      new_mark = record {
        are_keys = IsKeyMap-with_updates plan.updates keys memory_mark.are_keys;
        forest = is_plan.means (read_in (as_read (now start))) ∙ ap (forest_after client plan.op) memory_means ∙ sym (after_one_more opening trace entry is);
        sound = is_plan.sound;
        tidy = is_plan.tidy;
        extents = extents_stay plan.updates keys is_plan.made.extents ∙ memory_mark.extents;
      }

      pub good_joined : AreGoodMarks begun start (trace ++ entry ∷ []) (marks ++ new_keys ∷ [])
      good_joined count mark there = ⊎_elim
          (λ (before : count < length marks). good_told entry count mark (earlier_there before))
          (λ (last : length marks ≤ count). last_there last)
          (cases_lt count (length marks))
        where
          within : count < length (marks ++ new_keys ∷ [])
          within = slice_get_within (marks ++ new_keys ∷ []) count mark there

          earlier_there : count < length marks → slice_get marks count ≡ Some mark
          earlier_there before =
              let here : slice_get marks count ≡ Some (get_or marks count mark) = slice_get-get_or marks count mark before in
              here ∙ sym (get_stays marks (new_keys ∷ []) count (get_or marks count mark) here) ∙ there

          last_there : length marks ≤ count → IsGoodMark begun start (trace ++ entry ∷ []) count mark
          last_there last =
              let long = length-append marks (new_keys ∷ []) in
              let lt = within in
              let all = marks_count in
              let place : count ≡ length marks = omega (arith, long, lt, last) in
              let same : mark ≡ new_keys = same_Some mark new_keys (sym there ∙ ap (λ (k : ℕ). slice_get (marks ++ new_keys ∷ []) k) place ∙ get_pushed marks new_keys) in
              subst (IsGoodMark begun start (trace ++ entry ∷ []) count) (sym same)
              (subst (λ (k : ℕ). IsGoodMark begun start (trace ++ entry ∷ []) k new_keys) (omega (arith, place, all)) new_mark)
