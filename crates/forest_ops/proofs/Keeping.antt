-- Steps that leave the forest as it is.
use Rattle.std.proofs.Common.{◌≡◌, Result, Ok, Err, refl}
use Rattle.std.specs.Prelude.{OnOk, OnErr}
use Rattle.plain_forest.specs.Forest.{Forest}
use Rattle.forest_ops.specs.Refusals.{◌>>=◌}
use Rattle.forest_ops.specs.Steps.{next_of, forest_or}
use Rattle.forest_ops.specs.declared.operation.Cause.{Cause}
use Rattle.forest_ops.specs.declared.operation.Reply.{Reply}

-- what only tells something leaves the forest
pub telling_keeps : {A : Type 0} (forest : Forest) (found : Result A Cause) (reply : A → Reply) → forest_or forest (found >>= λ x. Ok (next_of (reply x) forest)) ≡ forest
telling_keeps forest (Ok x) reply = refl
telling_keeps forest (Err cause) reply = refl

-- a fact holds whatever the result
pub on_any : {A E : Type 0} (result : Result A E) (P : Type 0) → P → OnOk result P
on_any (Ok x) P holds = holds
on_any (Err e) P holds = tt

-- a fact that holds in both cases of a result
pub either : {A E : Type 0} (result : Result A E) (P Q R : Type 0) → (P → R) → (Q → R) → OnOk result P → OnErr result Q → R
either (Ok x) P Q R done failed ok err = done ok
either (Err e) P Q R done failed ok err = failed err
