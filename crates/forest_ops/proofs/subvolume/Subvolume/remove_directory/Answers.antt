use Rattle.std.proofs.Common.{sym, subst, refl}
use Rattle.vol_types.specs.Maps.{without}
use Rattle.plain_forest.specs.Maps.{name_cmp}
use Rattle.plain_forest.specs.Forest.{Tree}
use Rattle.forest_ops.specs.Places.{IsEmptyDirectory}
use Rattle.forest_ops.proofs.Counting.{empty_stays}
use Rattle.forest_ops.proofs.subvolume.Subvolume.remove_directory.Goals as goal

pub remove_directory-requires : goal.remove_directory-requires
remove_directory-requires c =
    let place = c.args.place.now in
    let empty = subst (λ (t : Tree). IsEmptyDirectory place.number t.directories) (sym c.self.view_is) c.requires in
    subst (IsEmptyDirectory place.number) (sym c.drop_name.ensures) (empty_stays place.number place.directory (without name_cmp place.name.now) c.self.inside.directories refl empty)
