use Rattle.std.proofs.Common.{◌≡◌, ◌+◌, ◌∷◌, [], ◌++◌, get_or, map, take, ap, ◌∙◌, sym, arith, rules}
use Rattle.std.proofs.lemmas.List.{map_push, take_more}
use Rattle.std.proofs.lemmas.List.Elements.{All-push, All-same}
use Rattle.dev_model.specs.Disk.{IsDisk, blank}
use Rattle.dev_model.proofs.recording.blank_devices.Goals as goal

pub loop-size-preserved : goal.loop-size-preserved
loop-size-preserved c =
    let sizes = c.args.sizes.now in
    let i = c.loop-size.size-index in
    let size = get_or sizes i 0 in
    let one = c.in_ok-disk.disk in
    let seen : take (i + 1) sizes ≡ take i sizes ++ size ∷ [] = take_more sizes i 0 (omega arith) in
    let pushed : c.push.new.self.items ≡ c.loop-size.devices.items ++ one ∷ [] = search rules in
    record {
      devices =
          pushed ∙ ap (λ ds. ds ++ one ∷ []) c.loop-size.invariant.devices ∙ ap (λ d. map blank (take i sizes) ++ d ∷ []) c.in_ok-disk.ensures
          ∙ sym (ap (map blank) seen ∙ map_push blank (take i sizes) size);
      sound = All-same IsDisk _ _ pushed (All-push IsDisk _ one c.loop-size.invariant.sound c.len.ensures.sound);
    }
