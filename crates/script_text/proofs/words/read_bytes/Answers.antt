use Rattle.std.proofs.Common.{refl, sym, ◌∙◌}
use Rattle.script_text.proofs.HexWords.{empty_writes_none, long_writes_none, writes_bytes}
use Rattle.script_text.proofs.words.read_bytes.Goals as goal
use Rattle.script_text.proofs.words.read_bytes.Goals.{then-is_empty-via-then-is_empty, then-is_empty-via-else-is_empty+then-word-gt-MAX_DIGITS}

pub returns-then-is_empty-clause-err : goal.returns-then-is_empty-clause-err
returns-then-is_empty-clause-err c = (
  λ said says.
      elim c.then-is_empty.branch [
        | then-is_empty-via-then-is_empty w ↦ empty_writes_none c.args.word.now said (sym c.is_empty.ensures ∙ w.if-is_empty.true) says
        | then-is_empty-via-else-is_empty+then-word-gt-MAX_DIGITS w ↦ long_writes_none c.args.word.now said w.if-word-gt-MAX_DIGITS.true says
      ],
  refl,
)

pub returns-clause-ok : goal.returns-clause-ok
returns-clause-ok c = writes_bytes c.args.word.now c.in_ok-bytes.bytes c.in_ok-bytes.ensures.ok (sym c.is_empty.ensures ∙ c.if-is_empty.false) c.if-word-gt-MAX_DIGITS.false
