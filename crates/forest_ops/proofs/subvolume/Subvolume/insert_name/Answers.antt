use Rattle.std.proofs.Common.{sym, ap, ◌∙◌}
use Rattle.std.specs.Prelude.{is_ok}
use Rattle.std.proofs.lemmas.Result.{on_ok_weaker}
use Rattle.plain_forest.specs.Forest.{Tree}
use Rattle.forest_ops.specs.Parts.{with_link}
use Rattle.forest_ops.specs.Trees.{Place}
use Rattle.forest_ops.specs.Walking.{named_in}
use Rattle.forest_ops.proofs.Inserting.{name_comes, name_stays}
use Rattle.forest_ops.proofs.subvolume.Subvolume.insert_name.Goals as goal

pub returns-then-is_ok-clause-ok : goal.returns-then-is_ok-clause-ok
returns-then-is_ok-clause-ok c =
    let place : Place = record { directory = c.args.directory; name = c.args.name.now; number = c.args.number } in
    sym (name_stays place c.args.self.now (cc))

pub returns-clause-ok : goal.returns-clause-ok
returns-clause-ok c =
    let place : Place = record { directory = c.args.directory; name = c.args.name.now; number = c.args.number } in
    let s = c.self.inside in
    let tree : Tree = record { locked = s.locked; root = s.root; files = s.files.entries; directories = s.directories } in
    let none = ap (λ (t : Tree). is_ok (named_in t place.directory place.name)) c.self.view_is ∙ ap is_ok (sym c.named.ensures) ∙ sym c.is_ok.ensures.value ∙ c.if-is_ok.false in
    on_ok_weaker c.add_name.result (λ done. name_comes place tree c.add_name.new.self none done ∙ ap (with_link place) c.self.view_is) c.add_name.ensures.ok
