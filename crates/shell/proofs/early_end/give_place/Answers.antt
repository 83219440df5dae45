use Rattle.std.proofs.Common.{◌≡◌, ◌++◌, append_assoc, ℕ, List, subst, sym}
use Rattle.std.specs.Prelude.{codes, decimal}
use Rattle.std.proofs.lemmas.Result.{on_err_weaker}
use Rattle.text_io.specs.Streams.{GivesPrefix}
use Rattle.shell.proofs.Printing.{prefix_then}
use Rattle.shell.proofs.early_end.give_place.Goals as goal

-- a device was given, with what stands before and behind it, and then a prefix of the block's text
place_prefix : (before dev colon block end held mid new : List ℕ) → mid ≡ held ++ (before ++ dev ++ colon) → GivesPrefix (block ++ end) mid new → GivesPrefix (before ++ dev ++ colon ++ block ++ end) held new
place_prefix before dev colon block end held mid new whole given =
    subst (λ list. GivesPrefix list held new) (sym (append_assoc (before ++ dev ++ colon) block end)) (prefix_then (before ++ dev ++ colon) (block ++ end) held mid new whole given)

pub returns-clause-failed : goal.returns-clause-failed
returns-clause-failed g c tells =
    let K = g.K.Sink in
    let held = K.held c.args.sink.now in
    let mid = K.held c.give_number.new.sink in
    let before = c.args.before.now in
    let place = c.args.place in
    let whole : mid ≡ held ++ (before ++ decimal place.dev ++ codes ":") =
    subst (λ (n : ℕ). mid ≡ held ++ (before ++ decimal n ++ codes ":")) c.from.ensures (c.in_ok-give_number.ensures.ok tells) in
    on_err_weaker c.give_number-2.result
    (λ given. place_prefix before (decimal place.dev) (codes ":") (decimal place.block) (codes "\n") held mid (K.held c.give_number-2.new.sink) whole
    (subst (λ (n : ℕ). GivesPrefix (decimal n ++ codes "\n") mid (K.held c.give_number-2.new.sink)) c.from-2.ensures given))
    (c.give_number-2.ensures.failed tells)
