use Rattle.std.proofs.Common.{◌≡◌, ◌++◌, ◌∷◌, [], ◌∙◌, List, Option, ap, map, refl}
use Rattle.std.specs.Map.Iter.{deref_pair}
use Rattle.std.proofs.lemmas.Map.Iter.{rest_more}
use Rattle.key_triggers.specs.declared.tallies.Tally.{Tally}
use Rattle.key_triggers.specs.Tallies.{live_after, live_update, state_update}
use Rattle.key_triggers.proofs.Looking.{gave_before, goes_further, goes_nowhere}
use Rattle.key_triggers.proofs.Looping.{listed_next}
use Rattle.vol_types.specs.declared.keys.Update.{Update}
use Rattle.vol_types.specs.declared.positions.Pos.{Pos}
use Rattle.vol_types.specs.declared.values.Live.{Live}
use Rattle.key_triggers.proofs.tallies.live_updates.Goals as goal

pub loop-bucket-init : goal.loop-bucket-init
loop-bucket-init g c = record {
  updates = λ keys gives.
      ap (λ (us : List Update). us ++ map {A = Pos × Tally} {B = Update} (live_update keys) c.into_iter-bucket-iterator.result) c.new-updates.ensures
      ∙ ap (map {A = Pos × Tally} {B = Update} (live_update keys)) (c.into_iter-bucket-iterator.ensures.into_iter_gives ∙ c.iter-bucket-items.ensures.rest);
  looks = goes_nowhere (g.V.View.made c.args.view.now);
  ids = refl;
}

pub loop-bucket-preserved : goal.loop-bucket-preserved
loop-bucket-preserved g c =
    let made = g.V.View.made in
    let bucket = c.in-Some.bucket.now in
    let tally = c.in-Some.tally.now in
    record {
      updates = λ keys gives.
          let pushed : c.live_update.result ≡ live_update keys (bucket, tally) =
          c.live_update.ensures ∙ ap (state_update bucket) (c.live_after.ensures ∙ ap (λ (live : Option Live). live_after live tally) (c.in_ok-live.ensures.live keys gives)) in
          listed_next (live_update keys) (bucket, tally) c.loop-bucket.bucket-iterator c.next.new.self c.loop-bucket.updates c.push.new.self (map (live_update keys) c.args.tallies.now.entries)
          (rest_more (deref_pair {K = Pos} {X = Tally}) _ _ _ _ c.in-Some.is c.next.ensures.steps)
          (c.in_ok-push.ensures.ok ∙ ap (λ (u : Update). c.loop-bucket.updates ++ u ∷ []) pushed)
          (c.loop-bucket.invariant.updates keys (gave_before keys (made c.loop-bucket.view) (made c.live_at.new.view) c.live_at.ensures.looks gives));
      looks = goes_further (made c.args.view.now) (made c.loop-bucket.view) (made c.live_at.new.view) c.loop-bucket.invariant.looks c.live_at.ensures.looks;
      ids = c.live_at.ensures.ids ∙ c.loop-bucket.invariant.ids;
    }

pub returns-in_err-live-clause-looks : goal.returns-in_err-live-clause-looks
returns-in_err-live-clause-looks g c =
    let made = g.V.View.made in
    goes_further (made c.args.view.now) (made c.loop-bucket.view) (made c.live_at.new.view) c.loop-bucket.invariant.looks c.live_at.ensures.looks

pub returns-in_err-push-clause-looks : goal.returns-in_err-push-clause-looks
returns-in_err-push-clause-looks g c =
    let made = g.V.View.made in
    goes_further (made c.args.view.now) (made c.loop-bucket.view) (made c.live_at.new.view) c.loop-bucket.invariant.looks c.live_at.ensures.looks
