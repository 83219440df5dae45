use Rattle.std.proofs.Common.{◌∙◌, ◌≡◌, sym, ap, true, false, None}
use Rattle.command_line.specs.Numbers.{is_numeral, number}
use Rattle.command_line.proofs.NumberText.{no_number, parsed_number, numeral_by}
use Rattle.command_line.proofs.number.read_number.Goals as goal

pub returns-then-is_numeral : goal.returns-then-is_numeral
returns-then-is_numeral c =
    let is : is_numeral c.args.text.now ≡ true = ap is_numeral (sym c.as_bytes.ensures.value) ∙ (sym c.is_numeral.ensures ∙ c.if-is_numeral.true) in
    let value : c.ok.result ≡ number c.args.text.now = c.ok.ensures.value ∙ parsed_number c.args.text.now c.parse.result is c.parse.ensures.value.0 in
    record {
      value = value;
      numeral = λ n fits. numeral_by c.ok.result c.args.text.now value n fits;
    }

pub returns-else-is_numeral : goal.returns-else-is_numeral
returns-else-is_numeral c =
    let is : is_numeral c.args.text.now ≡ false = ap is_numeral (sym c.as_bytes.ensures.value) ∙ (sym c.is_numeral.ensures ∙ c.if-is_numeral.false) in
    let value : None ≡ number c.args.text.now = no_number c.args.text.now is in
    record {
      value = value;
      numeral = λ n fits. numeral_by None c.args.text.now value n fits;
    }
