use Rattle.std.proofs.Common.{rules, ◌≡◌, ◌∙◌, Some, codes}
use Rattle.clap.specs.Words.{first_value, found_of}
use Rattle.command_line.proofs.FormatValues.{no_format, refused_id}
use Rattle.command_line.proofs.format.read_matches.Goals as goal

pub returns-in_err-id : goal.returns-in_err-id
returns-in_err-id c =
    let id_is : first_value (found_of c.args.matches.now) (codes "id") ≡ Some c.in_ok-get_str.field-0.now = search rules in
    c.from_residual-in_err-id.ensures ∙ no_format (first_value (found_of c.args.matches.now)) c.in_ok-get_str.field-0.now id_is (refused_id c.parse_str.result c.in_ok-get_str.field-0.now c.parse_str.ensures.ok c.in_err-id.ensures.value)
