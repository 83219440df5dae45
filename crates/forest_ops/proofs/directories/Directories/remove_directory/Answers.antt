use Rattle.std.proofs.Common.{◌≡◌, sym, subst, refl, ap, ◌∙◌, nat_cmp, rules}
use Rattle.vol_types.specs.Maps.{without}
use Rattle.plain_forest.specs.Maps.{value_at}
use Rattle.forest_ops.specs.Names.{links_of}
use Rattle.forest_ops.specs.Places.{IsEmptyDirectory}
use Rattle.forest_ops.proofs.Counting.{links_gone}
use Rattle.forest_ops.proofs.directories.Directories.remove_directory.Goals as goal

pub invariant_of-self : goal.invariant_of-self
invariant_of-self c number =
    let ds = c.self.inside.tables.entries in
    let empty : IsEmptyDirectory c.args.number ds = subst (IsEmptyDirectory c.args.number) (sym c.self.view_is) c.requires in
    let left : c.remove.new.self.entries ≡ without nat_cmp c.args.number ds = search rules in
    c.self.invariant number ∙ sym (links_gone c.args.number number ds (value_at nat_cmp c.args.number ds) refl empty) ∙ sym (ap (links_of number) left)
