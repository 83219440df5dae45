-- A new name that is taken away again leaves the directories as they were.
use Rattle.std.proofs.Common.{◌≡◌, ℕ, List, ◌∙◌, nat_cmp}
use Rattle.std.proofs.lemmas.Cmp.{nat_list_cmp_total}
use Rattle.vol_types.specs.Maps.{without}
use Rattle.plain_forest.specs.Maps.{name_cmp, with_value, changed_at}
use Rattle.plain_forest.specs.Forest.{Names}
use Rattle.forest_ops.specs.Trees.{Place}
use Rattle.forest_ops.specs.Places.{IsFree}
use Rattle.forest_ops.proofs.Sums.{changed_at-twice, changed_at-same, without-with_value}

pub taken_back : (place : Place) (ds : List (ℕ × Names)) → IsFree place ds → changed_at nat_cmp place.directory (without name_cmp place.name) (changed_at nat_cmp place.directory (with_value name_cmp place.name place.number) ds) ≡ ds
taken_back place ds free =
    changed_at-twice nat_cmp place.directory (with_value name_cmp place.name place.number) (without name_cmp place.name) ds
    ∙ changed_at-same nat_cmp place.directory (λ names. without name_cmp place.name (with_value name_cmp place.name place.number names)) ds (λ names there. without-with_value nat_list_cmp_total place.name place.number names (free names there))
