use Rattle.std.proofs.Common.{Global, ◌≡◌, ◌∙◌, IfErr, IfOk, Some, None, Result, map, sym, ap, subst, true, false, true≢false}
use Rattle.std.specs.Rc.{rc_str_bytes}
use Rattle.clap.specs.Words.{App, HasKind, app_of, fault_of, found_of, is_simple, is_simple_and_free, matches_of}
use Rattle.clap.specs.declared.error.kind.ErrorKind.TheVariants.{OutOfMemory}
use Rattle.command_line.specs.Command.{format_app}
use Rattle.command_line.specs.Requests.{format_of}
use Rattle.command_line.specs.declared.request.FormatRequest.{FormatRequest}
use Rattle.command_line.specs.declared.request.WordsFault.{WordsFault}
use Rattle.command_line.specs.declared.request.WordsFault.TheVariants.{Usage}
use Rattle.std.specs.List.{list_any}
use Rattle.command_line.specs.Words.{is_stray}
use Rattle.command_line.proofs.WordLemmas.{any_of_mapped}
use Rattle.command_line.proofs.FormatValues.{answers, refused_format, app_is_plain, app_is_simple, found_format, memory_is_no_usage, refuses, stray_format}
use Rattle.command_line.proofs.format.read_format.Goals as goal

pub returns-in_err-command-clause-usage : goal.returns-in_err-command-clause-usage
returns-in_err-command-clause-usage c = memory_is_no_usage c.from_residual.result _ c.from_residual.ensures.1

pub returns-then-has_stray-clause-usage : goal.returns-then-has_stray-clause-usage
returns-then-has_stray-clause-usage c = λ _.
    stray_format (map (rc_str_bytes {Z = Global}) c.args.words.now) (sym (any_of_mapped is_stray (rc_str_bytes {Z = Global}) c.args.words.now) ∙ (sym c.has_stray.ensures ∙ c.if-has_stray.true))

-- what clap's values make is what the arguments ask for
read_is : (c : goal.Joined-matches) → c.read_matches.result ≡ format_of (map (rc_str_bytes {Z = Global}) c.args.words.now)
read_is c =
    let words = map (rc_str_bytes {Z = Global}) c.args.words.now in
    let app_is : app_of c.in_ok-command.command ≡ format_app = c.in_ok-command.ensures in
    let no_fault = c.in-Ok.ensures.kinds (ap is_simple_and_free app_is ∙ app_is_simple) in
    let rows = (c.in-Ok.ensures.matches (ap is_simple app_is ∙ app_is_plain)).0 in
    let plain : list_any is_stray words ≡ false = sym (any_of_mapped is_stray (rc_str_bytes {Z = Global}) c.args.words.now) ∙ (sym c.has_stray.ensures ∙ c.if-has_stray.false) in
    c.read_matches.ensures
    ∙ found_format words (found_of c.in-Ok.matches) plain (ap (λ (a : App). fault_of a words) (sym app_is) ∙ no_fault) (rows ∙ ap (λ (a : App). matches_of a words) app_is)

pub returns-in-Ok-clause-ok : goal.returns-in-Ok-clause-ok
returns-in-Ok-clause-ok c =
    let means = format_of (map (rc_str_bytes {Z = Global}) c.args.words.now) in
    subst (λ (r : Result FormatRequest WordsFault). IfOk r (λ format. means ≡ Some format)) (sym c.ok_or.ensures.value) (answers c.read_matches.result means (read_is c))

pub returns-in-Ok-clause-usage : goal.returns-in-Ok-clause-usage
returns-in-Ok-clause-usage c =
    let means = format_of (map (rc_str_bytes {Z = Global}) c.args.words.now) in
    subst (λ (r : Result FormatRequest WordsFault). IfErr r (λ fault. fault ≡ Usage → means ≡ None)) (sym c.ok_or.ensures.value) (refuses c.read_matches.result means (read_is c))

pub returns-in-Err-2-clause-usage : goal.returns-in-Err-2-clause-usage
returns-in-Err-2-clause-usage c = λ _.
    let words = map (rc_str_bytes {Z = Global}) c.args.words.now in
    let app_is : app_of c.in_ok-command.command ≡ format_app = c.in_ok-command.ensures in
    let plain : list_any is_stray words ≡ false = sym (any_of_mapped is_stray (rc_str_bytes {Z = Global}) c.args.words.now) ∙ (sym c.has_stray.ensures ∙ c.if-has_stray.false) in
    let kinds = subst (λ (a : App). HasKind (fault_of a words) c.in-Err.error) app_is (c.in-Err.ensures.kinds (ap is_simple_and_free app_is ∙ app_is_simple)) in
    refused_format words c.in-Err.error plain kinds (λ memory.
    let is : c.kind.result ≡ OutOfMemory = c.kind.ensures ∙ memory in
    let same : c.eq.result ≡ true = rw is at c.eq.ensures in
    true≢false (sym same ∙ c.if-eq.false))
