use Rattle.std.proofs.Common.{◌≡◌, Global, ◌+◌, ◌-◌, ◌≤◌, length, take, drop, map, ap, ◌∙◌, sym, arith}
use Rattle.std.specs.Prelude.{option_and_then}
use Rattle.std.specs.Rc.{rc_str_bytes}
use Rattle.std.proofs.lemmas.Bool.Decides.{nat_tests}
use Rattle.std.proofs.lemmas.List.{length-drop, take_all}
use Rattle.bvol.specs.Arguments.{split_at}
use Rattle.bvol.proofs.Searching.{split_is}
use Rattle.bvol.proofs.arguments.words_and_paths.Goals as goal

pub returns-clause-parts : goal.returns-clause-parts
returns-clause-parts c =
    let args = c.args.args.now in
    let place = c.in_ok-dashes.dashes in
    let files = take (length args - (place + 1)) (drop (place + 1) args) in
    let are : files ≡ drop (place + 1) args = take_all (length args - (place + 1)) (drop (place + 1) args) (omega (arith, length-drop (place + 1) args)) in
    let some : 1 ≤ length files = grind (arith, nat_tests) in
    sym (split_is (rc_str_bytes {Z = Global}) args files place are some c.if-paths-gt-MOST_DEVICES.false)
    ∙ ap (option_and_then (split_at (map (rc_str_bytes {Z = Global}) args))) c.in_ok-dashes.ensures.place
