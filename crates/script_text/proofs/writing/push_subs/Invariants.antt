use Rattle.std.proofs.Common.{◌≡◌, ◌++◌, drop}
use Rattle.std.specs.Prelude.{string_bytes, codes}
use Rattle.std.specs.List.{flat_map}
use Rattle.script_text.specs.Replies.{sub_name}
use Rattle.script_text.proofs.writing.push_subs.Given as goal

abbrev pub invariant-loop-entry : goal.invariant-loop-entry
invariant-loop-entry l = string_bytes l.text ++ flat_map sub_name (drop l.entry-index l.names) ≡ string_bytes l.fn.text ++ codes "subs" ++ flat_map sub_name l.names
