use Rattle.std.proofs.Common.{◌≤◌, ◌<◌, ◌^◌, ℕ, length, sym, subst}
use Rattle.btree_map.specs.Trees.{IsTrees}
use Rattle.core_volume.specs.Volumes.{IsVolume, KeepParts}
use Rattle.vol_session.proofs.NumbersLeft.{commits_few, numbers_left}
use Rattle.vol_session.specs.Marks.{forest_found}
use Rattle.vol_session.specs.Numbers.{HasNumbersLeft, IsFarFromSpent}
use Rattle.vol_session.proofs.session.Session.see_numbers.Goals as goal

pub returns : goal.returns
returns g c =
    let state = g.D.Devices.state c.self.inside.core.devices in
    let trace = c.self.inside.trace.members in
    let fewer : c.self.inside.commits ≤ length trace = subst (λ (n : ℕ). n ≤ length trace) (sym c.self.invariant.counted.counted) (commits_few (forest_found g.O.Opening.found g.O.Opening.start) trace) in
    subst (λ self. IsFarFromSpent g.O.Opening.found g.O.Opening.start (g.D.Devices.state self.core.devices) → length self.trace < 2 ^ 31 → HasNumbersLeft self.core.memory.volume) c.self.view_is
    (λ far few. numbers_left g.O.Opening.found g.O.Opening.start state c.self.inside.commits (length trace) fewer c.self.inside.core.memory.volume
    (subst (λ memory. IsVolume memory.volume) c.memory.ensures.memory c.see_kept.ensures.kept.volume) (subst (λ memory. KeepParts memory.volume) c.memory.ensures.memory c.see_kept.ensures.parts)
    (subst (λ memory. IsTrees memory.volume.trees) c.memory.ensures.memory c.see_kept.ensures.trees) c.self.invariant.counted.commits_are far few c.self.invariant.counted.numbers)
