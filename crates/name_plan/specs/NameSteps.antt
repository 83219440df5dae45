-- What a step on a name of a directory comes to in a plan.
use Rattle.std.specs.Prelude.{List, Result, Ok, Err}
use Rattle.dirent_keys.specs.declared.step.NameStep.{NameStep}
use Rattle.dirent_keys.specs.declared.step.NameStep.TheVariants.{Crowded as crowded_out, Done, Exists as exists_already}
use Rattle.forest_ops.specs.declared.operation.Cause.{Cause}
use Rattle.forest_ops.specs.declared.operation.Cause.TheVariants.{Crowded, Exists}
use Rattle.vol_types.specs.declared.keys.Update.{Update}

-- the updates of a step on a name, or why it isn't taken
abbrev pub step_made : NameStep → Result (List Update) Cause
step_made (Done updates) = Ok updates
step_made exists_already = Err Exists
step_made crowded_out = Err Crowded
