use Rattle.std.proofs.Common.{◌≡◌, ◌++◌, drop}
use Rattle.std.specs.Prelude.{string_bytes}
use Rattle.script_text.specs.Replies.{escaped}
use Rattle.script_text.proofs.writing.push_escaped.Given as goal

abbrev pub invariant-loop-byte : goal.invariant-loop-byte
invariant-loop-byte l = string_bytes l.text ++ escaped (drop l.byte-index l.name) ≡ string_bytes l.fn.text ++ escaped l.name
