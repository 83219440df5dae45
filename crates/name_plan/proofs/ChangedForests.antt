-- Updates that change the forest in one way are those of the step that changes it so.
use Rattle.std.proofs.Common.{◌≡◌, List, refl}
use Rattle.forest_ops.specs.Steps.{next_of}
use Rattle.forest_ops.specs.declared.operation.Reply.TheVariants.{Okay}
use Rattle.key_meaning.specs.Checks.{IsSound}
use Rattle.key_meaning.specs.Forest.{Read, forest_in}
use Rattle.key_meaning.specs.Tidy.{IsTidy}
use Rattle.path_plan.specs.Made.{AreMade, AreOfStep}
use Rattle.plain_forest.specs.Forest.{Forest}
use Rattle.vol_types.specs.KeyMaps.{KeyMap, with_updates}
use Rattle.vol_types.specs.declared.keys.Update.{Update}
use Rattle.vol_types.specs.declared.layout.Layout.{Layout}
use Rattle.vol_types.specs.declared.pointers.Place.{Place}

-- With the updates the keys are sound and tidy, and mean the changed forest.
pub record AreOfChange (keys : KeyMap) (nodes : List Place) (layout : Layout) (change : Forest → Forest) (updates : List Update) : Type 0 where
  pub sound : IsSound (with_updates updates keys) nodes layout
  pub tidy : IsTidy (with_updates updates keys)
  pub means : (read : Read) → forest_in (with_updates updates keys) read ≡ change (forest_in keys read)

-- Such updates make a step that is done.
pub change_is_step : (keys : KeyMap) (nodes : List Place) (layout : Layout) (change : Forest → Forest) (updates : List Update) (read : Read)
    → AreOfChange keys nodes layout change updates → AreMade updates → AreOfStep keys nodes layout read updates (next_of Okay (change (forest_in keys read)))
change_is_step keys nodes layout change updates read changes made = record { reply = refl; means = changes.means read; sound = changes.sound; tidy = changes.tidy; made = made }
