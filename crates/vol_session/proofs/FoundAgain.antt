-- An image that means what was found when a run began is what the run leaves before it has acknowledged anything.
use Rattle.std.proofs.Common.{◌≡◌, ℕ, ◌+◌, ◌≤◌, List, Result, Ok, Some, refl, sym, ap, ◌∙◌, arith}
use Rattle.std.proofs.lemmas.List.Elements.{All-nil, All-cons}
use Rattle.std.specs.Prelude.{All, [], ◌∷◌}
use Rattle.dev_model.specs.Devices.{DevicesState, now}
use Rattle.dev_model.specs.Disk.{Image, as_read}
use Rattle.forest_ops.specs.History.{History}
use Rattle.geometry.specs.Sessions.{session_in}
use Rattle.image_view.specs.BaseLaws.{found-session}
use Rattle.image_view.specs.Found.{Found, MountsAs, Volume, volume_of, with_session}
use Rattle.image_view.specs.declared.fault.MountFault.{MountFault}
use Rattle.replay.specs.Beginning.{MeansTheSame}
use Rattle.replay.specs.Mending.{AreSessionsUntorn}
use Rattle.forest_ops.specs.Acknowledged.{acknowledged}
use Rattle.forest_ops.specs.declared.acks.Ack.{Ack}
use Rattle.vol_session.specs.Marks.{forest_found}
use Rattle.vol_session.specs.Runs.{IsLeftOfRun, MayRun}

one_value : (result : Result Found MountFault) (one other : Found) → result ≡ Ok one → result ≡ Ok other → one ≡ other
one_value result one other is again = cc

-- Where there are no commits there are none after an acknowledgement.
none_at_all : (moment : ℕ) (acks : List Ack) → All (λ (ack : Ack). moment ≤ ack.moment → 0 ≤ ack.commits) acks
none_at_all moment [] = All-nil (λ (ack : Ack). moment ≤ ack.moment → 0 ≤ ack.commits)
none_at_all moment (ack ∷ acks) = All-cons (λ (a : Ack). moment ≤ a.moment → 0 ≤ a.commits) ack acks (λ by. omega arith) (none_at_all moment acks)

module _ (f : Found) (first : DevicesState) (may : MayRun f (now first)) (image : Image) (means : MeansTheSame f (as_read (now first)) image) where
  -- what is found in it
  abbrev found_again : Found
  found_again = with_session means.session f

  -- It mounts as the volume that was found.
  mounts_again : MountsAs image (volume_of (as_read (now first)) f)
  mounts_again = means.mounts (volume_of (as_read (now first)) f) (record { f = f; finds = may.on.on.finds; sound = may.sound; volume_is = refl })

  -- So it has its forest.
  pub forest_again : (volume_of image found_again).forest ≡ forest_found f first
  forest_again = sym (ap (λ (v : Volume). v.forest) (mounts_again.volume_is ∙ ap (volume_of image) (one_value _ mounts_again.f found_again mounts_again.finds means.finds)))

  -- It may be run again.
  pub left_unacknowledged : (state : DevicesState) (trace : History) (acks : List Ack) (moment : ℕ) → (AreSessionsUntorn f.layout first.moment moment state image → (session : ℕ) → session_in f.layout image ≡ Some session → session ≤ f.session + 1)
      → acknowledged acks moment ≡ 0 → IsLeftOfRun f first state trace acks moment image
  left_unacknowledged state trace acks moment next none = record {
    prefix = record {
      left = found_again;
      again = record { finds = means.finds; in_order = means.in_order may.on.order; leaves = record { roots = may.leaves.roots; updates = may.leaves.updates }; sound = may.sound; tidy = may.tidy };
      mounts = record { f = found_again; finds = means.finds; sound = may.sound; volume_is = refl };
      layout = refl;
      count = 0;
      commits = omega arith;
      least = omega (arith, none);
      most = omega arith;
      none_later = none_at_all moment acks;
      forest = forest_again;
      room = λ leaves. leaves;
    };
    session = λ untorn. next untorn means.session (found-session image found_again means.finds);
    whole = λ some. absurd (some none);
    alone = λ some. absurd (some none);
  }
