use Rattle.std.proofs.Common.{◌≡◌, ℕ, List, length, map, Some, None, ap, ◌∙◌, sym, subst}
use Rattle.std.specs.Prelude.{MatchOption}
use Rattle.dev_model.specs.Disk.{as_read}
use Rattle.dev_model.specs.Devices.{now}
use Rattle.geometry.specs.Superblocks.{IsSuperAnswer}
use Rattle.geometry.specs.Superblocks.{all_there, counting, judged, judged_if_there, layout_in}
use Rattle.geometry.proofs.ReadImages.{read_sizes}
use Rattle.geometry.proofs.superblocks.read_super.Goals as goal

pub returns-in_default-clause-found : goal.returns-in_default-clause-found
unfolding layout_in
returns-in_default-clause-found g c tells =
    let image = as_read (now (g.D.Devices.state c.args.devices.now)) in
    let there = all_there (map counting image) in
    let none : there ≡ None = subst (λ o. MatchOption o (there ≡ None) (λ list. there ≡ Some list.items)) c.in_default.is (c.in_ok-copies.ensures.found tells) in
    sym (ap (judged_if_there (map (λ (blocks : List (List ℕ)). length blocks) image)) none)

pub returns-clause-found : goal.returns-clause-found
unfolding layout_in
returns-clause-found g c tells =
    let disks = now (g.D.Devices.state c.args.devices.now) in
    let image = as_read disks in
    let there = all_there (map counting image) in
    let all : there ≡ Some c.in-Some.copies.items = subst (λ o. MatchOption o (there ≡ None) (λ list. there ≡ Some list.items)) c.in-Some.is (c.in_ok-copies.ensures.found tells) in
    let sizes : c.deref.result.now ≡ map (λ (blocks : List (List ℕ)). length blocks) image = c.deref.ensures.value ∙ c.in_ok-sizes.ensures.sizes ∙ g.met.D.Devices.agree tells c.args.devices.now ∙ sym (read_sizes disks) in
    let same : judged c.deref.result.now c.deref-2.result.now ≡ layout_in image =
    ap (λ s. judged s c.deref-2.result.now) sizes ∙ ap (judged (map (λ (blocks : List (List ℕ)). length blocks) image)) c.deref-2.ensures.value
    ∙ sym (ap (judged_if_there (map (λ (blocks : List (List ℕ)). length blocks) image)) all) in
    subst (IsSuperAnswer c.judge.result) same c.judge.ensures.answer
