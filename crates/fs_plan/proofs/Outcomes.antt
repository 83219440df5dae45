-- Plans by what they come to, and of what class they are.
use Rattle.std.proofs.Common.{◌≡◌, ℕ, true, false, Option, Some, None, List, [], refl, sym, ap, subst}
use Rattle.std.specs.Prelude.{◌≢◌, not, IfOk, Result, Ok, Err, is_some}
use Rattle.std.proofs.lemmas.Bool.{true≢false}
use Rattle.forest_ops.specs.Acknowledged.{synced_count}
use Rattle.forest_ops.specs.Classes.{class_of, is_changing}
use Rattle.forest_ops.specs.History.{commits as is_commit_of, is_idle}
use Rattle.forest_ops.specs.Names.{same_path}
use Rattle.forest_ops.specs.Refusals.{Agrees}
use Rattle.forest_ops.specs.Steps.{Next, forest_or, reply_or, step}
use Rattle.forest_ops.specs.declared.operation.Cause.{Cause}
use Rattle.forest_ops.specs.declared.operation.Class.TheVariants.{Syncs}
use Rattle.forest_ops.specs.declared.operation.Op.{Op}
use Rattle.forest_ops.specs.declared.operation.Op.TheVariants.{Rename}
use Rattle.forest_ops.specs.declared.operation.Reply.{Reply}
use Rattle.forest_ops.specs.declared.operation.Reply.TheVariants.{Okay, Refused}
use Rattle.fs_plan.proofs.Idle.{done_plan, none_made, refused_commits, refused_plan}
use Rattle.fs_plan.specs.Outcomes.{answered, changed, moved, plan_of}
use Rattle.fs_plan.specs.Plans.{IsOfItsClass, IsPlanOf, is_failure}
use Rattle.fs_plan.specs.Updating.{moves_or, updates_of, updates_or}
use Rattle.fs_plan.specs.declared.planned.Outcome.{Outcome}
use Rattle.key_meaning.specs.Checks.{IsSound}
use Rattle.key_meaning.specs.Forest.{Read, forest_in}
use Rattle.key_meaning.specs.Tidy.{IsTidy}
use Rattle.name_plan.specs.Moved.{AreOfRename, IsRenameMade, renamed_at}
use Rattle.path_plan.specs.Made.{AreOfStep, IsStepMade}
use Rattle.plain_forest.specs.Forest.{Forest}
use Rattle.plain_forest.specs.declared.path.Path.{Path}
use Rattle.vol_types.specs.KeyMaps.{KeyMap}
use Rattle.vol_types.specs.declared.keys.Update.{Update}
use Rattle.vol_types.specs.declared.layout.Layout.{Layout}
use Rattle.vol_types.specs.declared.pointers.Place.{Place}

-- ---- classes

-- What is only answered is of its class where the answer is,
pub answered_class : (op : Op) (reply : Reply) → ((forest : Forest) → is_commit_of op reply forest ≡ false) → is_failure reply ≡ false → (class_of op ≢ Syncs → synced_count reply ≡ None) → IsOfItsClass (plan_of op (answered reply))
answered_class op reply none unfailed unsynced = record { commits = λ forest. sym (none forest); unfailed = unfailed; idle = λ is. refl; unsynced = unsynced }

-- and so is what is refused
refused_class : (op : Op) (cause : Cause) → IsOfItsClass (plan_of op (answered (Refused cause)))
refused_class op cause = answered_class op (Refused cause) (λ forest. refused_commits (is_changing (class_of op)) (not (is_idle op forest))) refl (λ other. refl)

-- or done.
done_class : (op : Op) (updates : List Update) → ((forest : Forest) → is_commit_of op Okay forest ≡ true) → IsOfItsClass (plan_of op (changed (Ok updates)))
done_class op updates commits = record { commits = λ forest. sym (commits forest); unfailed = refl; idle = λ is. none is; unsynced = λ other. refl }
  where
    none : true ≡ false → updates ≡ []
    none is = absurd (true≢false is)

-- A change is of its class, where it is a commit once it is done.
pub changed_class : (op : Op) (made : Result (List Update) Cause) → ((forest : Forest) → is_commit_of op Okay forest ≡ true) → IsOfItsClass (plan_of op (changed made))
changed_class op (Ok updates) commits = done_class op updates commits
changed_class op (Err cause) commits = refused_class op cause

-- A rename is a commit exactly where its paths are two,
rename_commits : {X : Type 0} (from to : Path) (updates : Option X) → is_some updates ≡ not (same_path from to) → (forest : Forest) → is_commit_of (Rename from to) Okay forest ≡ is_some updates
rename_commits from to updates is forest = sym is

-- and is of its class, where it has updates there.
pub moved_class : (from to : Path) (made : Result (Option (List Update)) Cause) → IfOk made (λ updates. is_some updates ≡ not (same_path from to)) → IsOfItsClass (plan_of (Rename from to) (moved made))
moved_class from to (Ok (Some updates)) is = done_class (Rename from to) updates (rename_commits from to (Some updates) is)
moved_class from to (Ok None) is = answered_class (Rename from to) Okay (rename_commits {X = List Update} from to None is) refl (λ other. refl)
moved_class from to (Err cause) is = refused_class (Rename from to) cause

-- ---- plans

module _ (keys : KeyMap) (nodes : List Place) (layout : Layout) (client : ℕ) where
  -- A change has a plan: its updates, or its refusal.
  pub changed_plan : (op : Op) (made : Result (List Update) Cause) → ((forest : Forest) → is_commit_of op Okay forest ≡ true) → updates_or made ≡ updates_of keys client op → IsStepMade keys nodes layout (step client op) made → IsSound keys nodes layout → IsTidy keys
      → IsPlanOf keys nodes layout client (plan_of op (changed made))
  changed_plan op (Ok updates) commits is made sound tidy = done_plan keys nodes layout client op updates is commits made
  changed_plan op (Err cause) commits is made sound tidy = refused_plan keys nodes layout client op [] cause refl (sym is) made sound tidy

  module _ (from to : Path) where
    abbrev rename : Op
    rename = Rename from to

    moves_made : (updates : List Update) → IsRenameMade keys nodes layout (step client rename) (Ok (Some updates)) → IsStepMade keys nodes layout (step client rename) (Ok updates)
    moves_made updates made read = by (step client rename (forest_in keys read)) (made read)
      where
        by : (next : Result Next Cause) → Agrees (AreOfRename keys nodes layout read) (Ok (Some updates)) next → Agrees (AreOfStep keys nodes layout read) (Ok updates) next
        by (Ok next) are = are
        by (Err cause) none = none

    moves_refused : (cause : Cause) → IsRenameMade keys nodes layout (step client rename) (Err cause) → IsStepMade keys nodes layout (step client rename) (Err cause)
    moves_refused cause made read = by (step client rename (forest_in keys read)) (made read)
      where
        by : (next : Result Next Cause) → Agrees (AreOfRename keys nodes layout read) (Err cause) next → Agrees (AreOfStep keys nodes layout read) (Err cause) next
        by (Ok next) none = none
        by (Err other) same = same

    -- what the forest makes of a rename that has no updates
    record IsUnmoved (read : Read) (next : Result Next Cause) : Type 0 where
      pub reply : Okay ≡ reply_or next
      pub means : forest_in keys read ≡ forest_or (forest_in keys read) next

    unmoved : (read : Read) (next : Result Next Cause) → Agrees (AreOfRename keys nodes layout read) (Ok None) next → IsUnmoved read next
    unmoved read (Ok next) idle = record { reply = sym idle.reply; means = sym idle.stays }
    unmoved read (Err cause) none = absurd none

    unmoved_plan : ((forest : Forest) → is_commit_of rename Okay forest ≡ false) → updates_of keys client rename ≡ [] → IsRenameMade keys nodes layout (step client rename) (Ok None) → IsSound keys nodes layout → IsTidy keys
        → IsPlanOf keys nodes layout client (plan_of rename (answered Okay))
    unmoved_plan none needs made sound tidy =
        let stays : (read : Read) → IsUnmoved read (step client rename (forest_in keys read)) = λ read. unmoved read (step client rename (forest_in keys read)) (made read) in record {
          reply = λ read. (stays read).reply;
          commits = λ read. sym (none (forest_in keys read));
          updates = sym needs;
          means = λ read. (stays read).means;
          sound = sound;
          tidy = tidy;
          made = none_made;
        }

    -- So has a rename: its updates, or none where both paths are one, or its refusal.
    pub moved_plan : (made : Result (Option (List Update)) Cause) → IfOk made (λ updates. is_some updates ≡ not (same_path from to)) → made ≡ renamed_at keys from to → IsRenameMade keys nodes layout (step client rename) made
        → IsSound keys nodes layout → IsTidy keys → IsPlanOf keys nodes layout client (plan_of rename (moved made))
    moved_plan (Ok (Some updates)) two is moves sound tidy = done_plan keys nodes layout client rename updates (ap moves_or is) (rename_commits from to (Some updates) two) (moves_made updates moves)
    moved_plan (Ok None) two is moves sound tidy = unmoved_plan (rename_commits {X = List Update} from to None two) (sym (ap moves_or is)) moves sound tidy
    moved_plan (Err cause) two is moves sound tidy = refused_plan keys nodes layout client rename [] cause refl (sym (ap moves_or is)) (moves_refused cause moves) sound tidy

-- Such a plan is that of an equal operation with an equal outcome.
pub same_plan : (keys : KeyMap) (nodes : List Place) (layout : Layout) (client : ℕ) (op other : Op) (outcome same : Outcome) → op ≡ other → outcome ≡ same → IsPlanOf keys nodes layout client (plan_of other same)
    → IsPlanOf keys nodes layout client (plan_of op outcome)
same_plan keys nodes layout client op other outcome same op_is is plan = subst (IsPlanOf keys nodes layout client) (λ i. plan_of (sym op_is i) (sym is i)) plan
