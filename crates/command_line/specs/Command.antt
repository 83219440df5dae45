-- The command `format` as clap is told it. What the arguments mean doesn't rest on this.
use Rattle.std.specs.Prelude.{true, Some, codes}
use Rattle.clap.specs.Words.{App, Rule, Text, new_app, new_rule, with_rule}
use Rattle.clap.specs.Simple.{on_top}

-- an option that takes a value
abbrev pub option_named : Text → Rule
option_named name = record (new_rule name) { long = Some name }

-- an option that has to be there
abbrev pub required_named : Text → Rule
required_named name = record (option_named name) { required = true }

-- the command without its options
abbrev pub bare_app : App
bare_app = on_top (λ s. record s { no_binary_name = true; disable_help_flag = true }) (new_app (codes "format"))

-- the command `format` with its five options
abbrev pub format_app : App
format_app =
    with_rule
    (with_rule
    (with_rule (with_rule (with_rule bare_app (required_named (codes "id"))) (required_named (codes "blocks"))) (option_named (codes "journal")))
    (option_named (codes "data-replicas")))
    (option_named (codes "meta-replicas"))
