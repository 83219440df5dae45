-- Scripts whose operations a volume runs: those of its 16 clients.
use Rattle.std.specs.Prelude.{◌≡◌, ◌<◌, ℕ, true, All, List, Option, Some, None}
use Rattle.forest_ops.specs.declared.operation.Op.{Op}
use Rattle.fs_plan.specs.Plans.{IsBounded, is_planned}
use Rattle.script_text.specs.declared.reading.Line.{Line}

-- the operation can be planned, with its numbers within their bounds, and is one of the 16 clients', if there is one
abbrev pub IsRunIfAny : ℕ → Option Op → Type 0
IsRunIfAny client (Some op) = (client < 16) × (is_planned op ≡ true) × IsBounded op
IsRunIfAny client None = Unit {0}

-- a volume runs the line
abbrev pub IsRunLine : Line → Type 0
IsRunLine line = IsRunIfAny line.client line.op

-- a volume runs each line of the script
abbrev pub AreRunLines : List Line → Type 0
AreRunLines script = All IsRunLine script
