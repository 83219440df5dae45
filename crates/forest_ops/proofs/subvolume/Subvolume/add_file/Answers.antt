use Rattle.std.proofs.Common.{◌≡◌, sym, subst, ap, ◌∙◌, nat_cmp, rules}
use Rattle.vol_types.specs.Maps.{without}
use Rattle.plain_forest.specs.Maps.{name_cmp, changed_at}
use Rattle.plain_forest.specs.Forest.{Tree}
use Rattle.forest_ops.specs.Places.{place_of, IsFree}
use Rattle.forest_ops.proofs.TakenBack.{taken_back}
use Rattle.forest_ops.proofs.subvolume.Subvolume.add_file.Goals as goal

pub returns-then-is_err-clause-err : goal.returns-then-is_err-clause-err
returns-then-is_err-clause-err c =
    let s = c.self.inside in
    let place = c.args.place.now in
    let free = subst (λ (t : Tree). IsFree (place_of place) t.directories) (sym c.self.view_is) c.requires in
    let back : c.drop_name.new.self ≡ s.directories = c.drop_name.ensures ∙ ap (changed_at nat_cmp place.directory (without name_cmp place.name.now)) c.in_ok-add_name.ensures.ok ∙ taken_back (place_of place) s.directories free in
    let files : c.insert.new.self.entries ≡ s.files.entries = search rules in
    let tree : Tree = record { locked = s.locked; root = s.root; files = s.files.entries; directories = s.directories } in
    let same : record tree { files = c.insert.new.self.entries; directories = c.drop_name.new.self } ≡ tree = λ i. record tree { files = files i; directories = back i } in
    same ∙ c.self.view_is
