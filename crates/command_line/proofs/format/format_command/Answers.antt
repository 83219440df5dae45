use Rattle.std.proofs.Common.{◌∙◌, ◌≡◌, ap, ap₂, rules, true, false}
use Rattle.std.proofs.lemmas.Result.{IfOk-weaker}
use Rattle.clap.specs.Words.{Rule, app_of, rule_of, with_rule}
use Rattle.clap.specs.declared.builder.arg.Arg.{Arg}
use Rattle.command_line.specs.Command.{bare_app}
use Rattle.command_line.proofs.format.format_command.Goals as goal

-- the rule of an option that has to be there
abbrev to_required : Rule → Rule
to_required rule = record rule { required = true }

pub returns : goal.returns
returns c =
    let bare : app_of c.disable_help_flag.result ≡ bare_app = search rules in
    let id_rule = ap rule_of c.required.ensures ∙ ap to_required c.option_named.ensures.rule in
    let blocks_rule = ap rule_of c.required-2.ensures ∙ ap to_required c.option_named-2.ensures.rule in
    let id_local : c.required.result.global ≡ false = ap (λ (a : Arg). a.global) c.required.ensures ∙ c.option_named.ensures.local in
    let blocks_local : c.required-2.result.global ≡ false = ap (λ (a : Arg). a.global) c.required-2.ensures ∙ c.option_named-2.ensures.local in
    let first = c.in_ok-arg.ensures.shape id_local ∙ ap₂ with_rule bare id_rule in
    let second = c.in_ok-arg-2.ensures.shape blocks_local ∙ ap₂ with_rule first blocks_rule in
    let third = c.in_ok-arg-3.ensures.shape c.option_named-3.ensures.local ∙ ap₂ with_rule second c.option_named-3.ensures.rule in
    let fourth = c.in_ok-arg-4.ensures.shape c.option_named-4.ensures.local ∙ ap₂ with_rule third c.option_named-4.ensures.rule in
    IfOk-weaker c.arg-5.result _ _ (λ command adds. adds.shape c.option_named-5.ensures.local ∙ ap₂ with_rule fourth c.option_named-5.ensures.rule) c.arg-5.ensures
