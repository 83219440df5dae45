-- Plans of what is refused, of what changes nothing, and of what is done.
use Rattle.std.proofs.Common.{◌≡◌, ℕ, Bool, true, false, None, List, [], refl, sym, ap, subst, map, arith}
use Rattle.std.proofs.lemmas.List.Elements.{All-nil}
use Rattle.std.specs.Ordering.{nat_cmp}
use Rattle.std.specs.Prelude.{◌≢◌, ◌&&◌, not, Result, Ok, Err}
use Rattle.forest_ops.specs.Classes.{class_of, is_changing}
use Rattle.forest_ops.specs.History.{commits as is_commit_of, is_idle}
use Rattle.forest_ops.specs.Refusals.{◌>>=◌, Agrees}
use Rattle.forest_ops.specs.Steps.{Next, answer_of, flagged, forest_after, forest_or, next_of, reply_or, status_of, step}
use Rattle.forest_ops.specs.Walking.{directory_at, inode_at}
use Rattle.forest_ops.specs.declared.operation.Cause.{Cause}
use Rattle.forest_ops.specs.declared.operation.Op.{Op}
use Rattle.forest_ops.specs.declared.operation.Op.TheVariants.{Fsync, Ls, Stat}
use Rattle.forest_ops.specs.declared.operation.Reply.{Reply}
use Rattle.forest_ops.specs.declared.operation.Reply.TheVariants.{List as Listed, Okay, Refused, Synced}
use Rattle.path_plan.specs.Made.{AreMade, AreOfStep, IsStepMade}
use Rattle.fs_plan.specs.Plans.{IsPlanOf}
use Rattle.fs_plan.specs.Updating.{updates_of}
use Rattle.key_meaning.specs.Checks.{IsSound}
use Rattle.key_meaning.specs.Forest.{Read, forest_in}
use Rattle.key_meaning.specs.Tidy.{IsTidy}
use Rattle.plain_forest.specs.Forest.{Forest}
use Rattle.plain_forest.specs.Maps.{value_at}
use Rattle.plain_forest.specs.declared.path.Path.{Path}
use Rattle.vol_types.specs.KeyMaps.{KeyMap, with_updates}
use Rattle.vol_types.specs.Standing.{IsUpdate}
use Rattle.vol_types.specs.declared.keys.Update.{Update}
use Rattle.vol_types.specs.declared.layout.Layout.{Layout}
use Rattle.vol_types.specs.declared.pointers.Place.{Place}
use Rattle.vol_types.specs.declared.positions.Btree.TheVariants.{Extents}

-- no updates are made well
pub none_made : AreMade []
none_made = record { each = All-nil IsUpdate; leaves = All-nil (λ (update : Update). update.level ≡ 0); extents = All-nil (λ (update : Update). update.btree ≢ Extents); few = λ mirrors le. omega (arith, le) }

-- What only looks leaves the forest,
read_leaves : {X : Type 0} (forest : Forest) (found : Result X Cause) (told : X → Reply) → forest_or forest (found >>= (λ x. Ok (next_of (told x) forest))) ≡ forest
read_leaves forest (Ok x) told = refl
read_leaves forest (Err cause) told = refl

-- as a listing, a status and a sync of what stands at a path do,
pub list_leaves : (client : ℕ) (path : Path) (forest : Forest) → forest_after client (Ls path) forest ≡ forest
list_leaves client path forest = read_leaves forest (directory_at path forest) (λ directory. Listed (map (flagged directory.tree) directory.names))

pub stat_leaves : (client : ℕ) (path : Path) (forest : Forest) → forest_after client (Stat path) forest ≡ forest
stat_leaves client path forest = read_leaves forest (inode_at path forest) (λ inode. status_of inode (value_at nat_cmp inode.number inode.tree.directories))

pub fsync_leaves : (client : ℕ) (path : Path) (forest : Forest) → forest_after client (Fsync path) forest ≡ forest
fsync_leaves client path forest = read_leaves forest (inode_at path forest) (λ inode. Synced 0)

-- and what leaves the forest, is no commit and has no updates by the keys has a plan without updates.
pub idle_plan : (keys : KeyMap) (nodes : List Place) (layout : Layout) (client : ℕ) (op : Op) (updates : List Update) (reply : Reply) → ((forest : Forest) → forest_after client op forest ≡ forest) → updates ≡ [] → updates_of keys client op ≡ []
    → ((forest : Forest) → is_commit_of op reply forest ≡ false) → ((read : Read) → reply ≡ answer_of client op (forest_in keys read)) → IsSound keys nodes layout → IsTidy keys
    → IsPlanOf keys nodes layout client (record { op = op; updates = updates; reply = reply; commits = false })
idle_plan keys nodes layout client op updates reply leaves none needs none_commits answers sound tidy =
    subst (λ (us : List Update). IsPlanOf keys nodes layout client (record { op = op; updates = us; reply = reply; commits = false })) (sym none) (record {
      reply = answers;
      commits = λ read. sym (none_commits (forest_in keys read));
      updates = sym needs;
      means = λ read. sym (leaves (forest_in keys read));
      sound = sound;
      tidy = tidy;
      made = none_made;
    })

-- A refusal is no commit.
pub refused_commits : (changing idle : Bool) → ((changing && false) && idle) ≡ false
refused_commits true idle = refl
refused_commits false idle = refl

module _ (keys : KeyMap) (nodes : List Place) (layout : Layout) (client : ℕ) (op : Op) where
  -- what the forest says of a plan that is refused
  said_refused : (cause : Cause) (step : Result Next Cause) (read : Read) → Agrees (AreOfStep keys nodes layout read) (Err cause) step → step ≡ Err cause
  said_refused cause (Ok next) read none = absurd none
  said_refused cause (Err other) read same = ap (λ x. Err x) (sym same)

  -- What the forest refuses has a plan without updates,
  pub refused_plan : (updates : List Update) (cause : Cause) → updates ≡ [] → updates_of keys client op ≡ [] → IsStepMade keys nodes layout (step client op) (Err cause) → IsSound keys nodes layout → IsTidy keys
      → IsPlanOf keys nodes layout client (record { op = op; updates = updates; reply = Refused cause; commits = false })
  refused_plan updates cause none needs refused sound tidy =
      subst (λ (us : List Update). IsPlanOf keys nodes layout client (record { op = op; updates = us; reply = Refused cause; commits = false })) (sym none) (record {
        reply = λ read. sym (ap reply_or (said_refused cause (step client op (forest_in keys read)) read (refused read)));
        commits = λ read. sym (refused_commits (is_changing (class_of op)) (not (is_idle op (forest_in keys read))));
        updates = sym needs;
        means = λ read. sym (ap (forest_or (forest_in keys read)) (said_refused cause (step client op (forest_in keys read)) read (refused read)));
        sound = sound;
        tidy = tidy;
        made = none_made;
      })

  -- what the updates of a step make of the keys
  pub record AreDone (updates : List Update) (read : Read) (next : Result Next Cause) : Type 0 where
    pub reply : Okay ≡ reply_or next
    pub means : (before : Forest) → forest_in (with_updates updates keys) read ≡ forest_or before next
    pub sound : IsSound (with_updates updates keys) nodes layout
    pub tidy : IsTidy (with_updates updates keys)
    pub made : AreMade updates

  are_done : (updates : List Update) (read : Read) (next : Result Next Cause) → Agrees (AreOfStep keys nodes layout read) (Ok updates) next → AreDone updates read next
  are_done updates read (Ok next) agrees = record { reply = sym agrees.reply; means = λ before. agrees.means; sound = agrees.sound; tidy = agrees.tidy; made = agrees.made }
  are_done updates read (Err cause) none = absurd none

  -- and what it does has one with the updates.
  pub done_plan : (updates : List Update) → updates ≡ updates_of keys client op → ((forest : Forest) → is_commit_of op Okay forest ≡ true) → IsStepMade keys nodes layout (step client op) (Ok updates)
      → IsPlanOf keys nodes layout client (record { op = op; updates = updates; reply = Okay; commits = true })
  done_plan updates is changes made =
      let done : (read : Read) → AreDone updates read (step client op (forest_in keys read)) = λ read. are_done updates read (step client op (forest_in keys read)) (made read) in
      let one = done (λ places digest. None) in record {
        reply = λ read. (done read).reply;
        commits = λ read. sym (changes (forest_in keys read));
        updates = is;
        means = λ read. (done read).means (forest_in keys read);
        sound = one.sound;
        tidy = one.tidy;
        made = one.made;
      }
