-- Whatever a crash has left since a run began is what the run leaves: before its session began it means what was found, and from then on it is what survives the session.
use Rattle.std.proofs.Common.{◌≡◌, ◌+◌, ◌<◌, ◌≤◌, ℕ, ⊎_elim, List, [], refl, ap, ◌∙◌, subst, arith}
use Rattle.std.specs.Prelude.{All}
use Rattle.std.proofs.lemmas.Bool.{cases_lt}
use Rattle.dev_model.specs.CrashLaws.{as_read_may_be_left}
use Rattle.dev_model.specs.Devices.{DevicesState, now}
use Rattle.dev_model.specs.Disk.{Disk, Image, IsCrashImage, IsDisk, as_read}
use Rattle.forest_ops.specs.History.{History, after_commits, commit_count}
use Rattle.image_view.specs.Found.{Found}
use Rattle.plain_forest.specs.Forest.{Forest}
use Rattle.replay.specs.Mending.{IsVolumeUntorn, KeepsMeaning, KeepsPast}
use Rattle.replay.specs.Untorn.{untorn_since, volume_untorn_before, volume_untorn_read}
use Rattle.replay.proofs.NextSession.{sessions_before}
use Rattle.forest_ops.specs.Acknowledged.{AreAcks}
use Rattle.forest_ops.specs.declared.acks.Ack.{Ack}
use Rattle.vol_session.specs.Marks.{forest_found}
use Rattle.vol_session.specs.Survivors.{HasSurvived, HasSurvivedOnEach, Survive}
use Rattle.vol_session.specs.RunLaws.{OpeningIsSafe, RunsAreSafe, in_next}
use Rattle.vol_session.specs.Runs.{IsLeftOfRun, IsOfNextSession, MayRun, RunSurvives}
use Rattle.vol_session.proofs.FoundAgain.{forest_again, left_unacknowledged}
use Rattle.vol_session.proofs.Unacknowledged.{none_before}

-- What has survived a session is the volume after a prefix of the run that it is of, where the session found the forest that the run did.
prefix_of_run : (f : Found) (first start : DevicesState) (trace : History) (acks : List Ack) (moment : ℕ) (image : Image) → forest_found (in_next f) start ≡ forest_found f first
    → HasSurvived (in_next f) start trace acks moment image → IsOfNextSession f first trace acks moment image
prefix_of_run f first start trace acks moment image same survives = record {
  prefix = record {
    left = survives.base;
    again = record { finds = survives.finds; in_order = survives.in_order; leaves = survives.leaves; sound = survives.sound; tidy = survives.tidy };
    mounts = record { f = survives.base; finds = survives.finds; sound = survives.sound; volume_is = refl };
    layout = survives.layout;
    count = survives.count;
    commits = survives.commits;
    least = survives.least;
    most = subst (λ (forest : Forest). survives.count ≤ commit_count forest trace) same survives.most;
    none_later = survives.none_later;
    forest = survives.forest ∙ ap (λ (forest : Forest). after_commits forest trace survives.count) same;
    room = survives.room;
  };
  session = (let is : survives.base.session ≡ f.session + 1 = survives.session in let e : survives.base.session ≤ f.session + 1 = omega (arith, is) in e);
}

-- So it is left of the run, on each metadata device alone too.
survived : (f : Found) (first start state : DevicesState) (trace : History) (acks : List Ack) (moment : ℕ) (image : Image) → forest_found (in_next f) start ≡ forest_found f first
    → HasSurvivedOnEach (in_next f) start trace acks moment image → IsLeftOfRun f first state trace acks moment image
survived f first start state trace acks moment image same survives =
    let it : IsOfNextSession f first trace acks moment image = prefix_of_run f first start trace acks moment image same survives.itself in
    record {
      prefix = it.prefix;
      session = λ untorn. it.session;
      whole = λ some. record { read = survives.whole.read; durable = survives.whole.durable; finds = survives.whole.finds; had = survives.whole.had; whole = survives.whole.whole };
      alone = λ some mirror alone is. prefix_of_run f first start trace acks moment alone same (survives.alone mirror alone (record { on_mirror = is.on_mirror; degraded = is.degraded; files = is.files }));
    }

module _ (f : Found) (first start state : DevicesState) (trace : History) (acks : List Ack) (may : MayRun f (now first)) (disks : All IsDisk (now start)) (keeps : KeepsMeaning f first start) (begins : first.moment ≤ start.moment)
    (past : KeepsPast start state) where
  -- The session found the forest that the run did, where no torn block opens by chance up to some later moment.
  same_forest : (moment : ℕ) (image : Image) → start.moment ≤ moment → IsVolumeUntorn f first.moment moment state image → forest_found (in_next f) start ≡ forest_found f first
  same_forest moment image since untorn = forest_again f first may (as_read (now start))
      (keeps.means start.moment begins (omega arith) (as_read (now start)) (as_read_may_be_left (now start) disks) (volume_untorn_read f first.moment moment start state image past begins since untorn))

  pub run_is_safe : AreAcks start.moment state.moment trace acks → Survive (in_next f) start state trace acks → RunSurvives f first state trace acks
  run_is_safe acked survive moment from to image crash untorn = ⊎_elim
      (λ (before : moment < start.moment).
      let earlier : moment ≤ start.moment = omega (arith, before) in
      left_unacknowledged f first may image
      (keeps.means moment from earlier image (subst (λ (ds : List Disk). IsCrashImage ds image) (past moment earlier) crash) (volume_untorn_before f first.moment moment start state image past earlier untorn))
      state trace acks moment
      (λ sessions. keeps.session moment from earlier image (subst (λ (ds : List Disk). IsCrashImage ds image) (past moment earlier) crash) (sessions_before f.layout first.moment moment start state image past earlier sessions))
      (none_before start.moment state.moment moment acks before acked.moments))
      (λ (since : start.moment ≤ moment).
      survived f first start state trace acks moment image (same_forest moment image since untorn) (survive moment since to image crash (untorn_since f.layout first.moment start.moment moment state image begins untorn.journal)))
      (cases_lt moment start.moment)

pub runs_are_safe : RunsAreSafe
runs_are_safe f first start state trace acks may keeps begins disks past later acked survive = run_is_safe f first start state trace acks may disks keeps begins past acked survive

-- So it is where no session began.
pub opening_is_safe : OpeningIsSafe
opening_is_safe f first last may keeps moment from to image crash untorn =
    left_unacknowledged f first may image (keeps.means moment from to image crash untorn) last [] [] moment (keeps.session moment from to image crash) refl
