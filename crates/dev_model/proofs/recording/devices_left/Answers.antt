use Rattle.std.proofs.Common.{◌≡◌, ◌+◌, [], ◌∷◌, ◌++◌, take, ap, ◌∙◌, sym, arith, rules}
use Rattle.std.proofs.lemmas.List.{take_more}
use Rattle.std.proofs.lemmas.List.Elements.{All-push, All-same}
use Rattle.dev_model.specs.Disk.{IsDisk}
use Rattle.dev_model.specs.Recording.{devices_left_by}
use Rattle.dev_model.proofs.LeftImages.{left_more, devices_left_by-push}
use Rattle.dev_model.proofs.recording.devices_left.Goals as goal

pub loop-disk-preserved : goal.loop-disk-preserved
loop-disk-preserved c =
    let devices = c.args.devices.now in
    let i = c.loop-disk.disk-index in
    let device = c.disk-item.result in
    let seen : take (i + 1) devices ≡ take i devices ++ device ∷ [] = take_more devices i device (omega arith) ∙ ap (λ d. take i devices ++ d ∷ []) (sym c.disk-item.is) in
    let one = c.in_ok-one.one in
    let pushed : c.push.new.self.items ≡ c.loop-disk.left.items ++ one ∷ [] = search rules in
    record {
      exact =
          pushed ∙ ap (λ ds. ds ++ one ∷ []) c.loop-disk.invariant.exact ∙ ap (λ d. devices_left_by c.args.pick (take i devices) ++ d ∷ []) c.in_ok-one.ensures.exact
          ∙ sym (ap (devices_left_by c.args.pick) seen ∙ devices_left_by-push c.args.pick (take i devices) device);
      may = left_more _ _ _ _ device one seen pushed c.loop-disk.invariant.may c.in_ok-one.ensures.may;
      sound = All-same IsDisk _ _ pushed (All-push IsDisk _ one c.loop-disk.invariant.sound c.len.ensures.sound);
    }
