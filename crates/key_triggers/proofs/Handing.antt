-- A result that is handed on.
use Rattle.std.specs.Prelude.{Result, Ok, Err, IfOk}

-- What follows for each value follows for the value of a result.
pub handed : {T E : Type 0} (result : Result T E) (P Q : T → Type 0) → ((value : T) → P value → Q value) → IfOk result P → IfOk result Q
handed (Ok value) P Q each is = each value is
handed (Err error) P Q each is = is
