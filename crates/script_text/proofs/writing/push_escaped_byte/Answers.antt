use Rattle.std.proofs.Common.{rules, true}
use Rattle.std.proofs.lemmas.Fmt.{hex_byte}
use Rattle.script_text.proofs.writing.push_escaped_byte.Goals as goal

pub returns-else-is_byte_plain : goal.returns-else-is_byte_plain
returns-else-is_byte_plain c = search (rules, hex_byte true c.args.byte c.ranges.byte.fits)
