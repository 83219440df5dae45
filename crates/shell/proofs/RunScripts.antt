-- Each line of a script is one that a volume runs.
use Rattle.std.proofs.Common.{◌≡◌, ℕ, ◌<◌, true, List, [], ◌∷◌, Option, Some, None, refl, arith}
use Rattle.std.specs.Prelude.{IsTrue}
use Rattle.std.specs.List.{AllZip}
use Rattle.std.proofs.lemmas.Bool.{false≢true}
use Rattle.std.proofs.lemmas.List.Elements.{All-cons, All-nil}
use Rattle.forest_ops.specs.declared.operation.Op.{Op}
use Rattle.forest_ops.specs.declared.operation.Op.TheVariants as op
use Rattle.fs_plan.specs.Plans.{IsBounded, is_planned}
use Rattle.script_text.specs.Grammar.{IsFor}
use Rattle.script_text.specs.Grammar.IsFor.{named, unnamed}
use Rattle.script_text.specs.Operations.{verb_of}
use Rattle.script_text.specs.Scripts.{IsLine, IsScript, saying_from}
use Rattle.script_text.specs.Verbs.{is_supported}
use Rattle.script_text.specs.declared.reading.Line.{Line}
use Rattle.shell.specs.Lines.{AreRunLines, IsRunIfAny, IsRunLine}

-- the operations of the verbs that are run can be planned
supported_is_planned : (said : Op) → IsTrue (is_supported (verb_of (Some said))) → is_planned said ≡ true
supported_is_planned (op.Write path offset bytes) is = absurd (false≢true is)
supported_is_planned (op.Trunc path size) is = absurd (false≢true is)
supported_is_planned (op.Read path offset len) is = absurd (false≢true is)
supported_is_planned (op.Sweep steps) is = absurd (false≢true is)
supported_is_planned op.Usage is = absurd (false≢true is)
supported_is_planned other is = refl

-- and their numbers are within their bounds
planned_is_bounded : (said : Op) → is_planned said ≡ true → IsBounded said
planned_is_bounded (op.Write path offset bytes) is = absurd (false≢true is)
planned_is_bounded (op.Read path offset len) is = absurd (false≢true is)
planned_is_bounded other is = tt

-- words are for one of the 16 clients
client_fits : {words rest : List (List ℕ)} (client : ℕ) → IsFor words client rest → client < 16
client_fits client (named below is) = below
client_fits client (unnamed zero none is) = omega (arith, zero)

by_operation : (client : ℕ) (said : Option Op) → client < 16 → IsTrue (is_supported (verb_of said)) → IsRunIfAny client said
by_operation client None fits supported = tt
by_operation client (Some said) fits supported = (fits, supported_is_planned said supported, planned_is_bounded said (supported_is_planned said supported))

lines_run : (texts : List (ℕ × List ℕ)) (script : List Line) → AllZip (λ text entry. IsLine text.0 text.1 entry) texts script → AreRunLines script
lines_run [] [] is = All-nil IsRunLine
lines_run [] (line ∷ script) is = absurd is
lines_run (text ∷ texts) [] is = absurd is
lines_run (text ∷ texts) (line ∷ script) is =
    let verb = is.0.said.has_verb in
    All-cons IsRunLine line script (by_operation line.client line.op (client_fits line.client verb.for_client) verb.supported) (lines_run texts script is.1)

-- a volume runs each line of a script
pub script_runs : (texts : List (List ℕ)) (script : List Line) → IsScript texts script → AreRunLines script
script_runs texts script is = lines_run (saying_from 1 texts) script is
