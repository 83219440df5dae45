use Rattle.std.proofs.Common.{◌≡◌, ◌++◌, ap, ◌∙◌, ℕ, sym}
use Rattle.std.specs.Prelude.{codes, decimal}
use Rattle.shell.specs.Outcome.{refusal_line}
use Rattle.shell.specs.declared.early_end.MountRefusal.{MountRefusal}
use Rattle.shell.specs.declared.early_end.MountRefusal.TheVariants.{BadLayout, BadNode, MissingEntry, Mixed, NoEntry, NoSuper, Unsound, Version}
use Rattle.shell.proofs.EarlyEnds.{given_as, prefix_as}
use Rattle.shell.proofs.early_end.print_refusal.Goals as goal

-- the line of a check that fails
check_line : (refusal : MountRefusal) (check number : ℕ) → refusal ≡ Unsound check → number ≡ check → codes "mount refused 8 check " ++ decimal number ++ codes "\n" ≡ refusal_line refusal
check_line refusal check number is same = ap (λ (n : ℕ). codes "mount refused 8 check " ++ decimal n ++ codes "\n") same ∙ ap refusal_line (sym is)

pub returns-in-NoSuper-clause-ok : goal.returns-in-NoSuper-clause-ok
returns-in-NoSuper-clause-ok g c tells =
    let K = g.K.Sink in
    given_as c.give_all.result (K.held c.args.sink.now) (K.held c.give_all.new.sink) (refusal_line NoSuper) (refusal_line c.args.refusal)
    (ap refusal_line (sym c.in-NoSuper.is)) (c.give_all.ensures.ok tells)

pub returns-in-NoSuper-clause-failed : goal.returns-in-NoSuper-clause-failed
returns-in-NoSuper-clause-failed g c tells =
    let K = g.K.Sink in
    prefix_as c.give_all.result (K.held c.args.sink.now) (K.held c.give_all.new.sink) (refusal_line NoSuper) (refusal_line c.args.refusal)
    (ap refusal_line (sym c.in-NoSuper.is)) (c.give_all.ensures.failed tells)

pub returns-in-Version-clause-ok : goal.returns-in-Version-clause-ok
returns-in-Version-clause-ok g c tells =
    let K = g.K.Sink in
    given_as c.give_all-in-Version.result (K.held c.args.sink.now) (K.held c.give_all-in-Version.new.sink) (refusal_line Version) (refusal_line c.args.refusal)
    (ap refusal_line (sym c.in-Version.is)) (c.give_all-in-Version.ensures.ok tells)

pub returns-in-Version-clause-failed : goal.returns-in-Version-clause-failed
returns-in-Version-clause-failed g c tells =
    let K = g.K.Sink in
    prefix_as c.give_all-in-Version.result (K.held c.args.sink.now) (K.held c.give_all-in-Version.new.sink) (refusal_line Version) (refusal_line c.args.refusal)
    (ap refusal_line (sym c.in-Version.is)) (c.give_all-in-Version.ensures.failed tells)

pub returns-in-Mixed-clause-ok : goal.returns-in-Mixed-clause-ok
returns-in-Mixed-clause-ok g c tells =
    let K = g.K.Sink in
    given_as c.give_all-in-Mixed.result (K.held c.args.sink.now) (K.held c.give_all-in-Mixed.new.sink) (refusal_line Mixed) (refusal_line c.args.refusal)
    (ap refusal_line (sym c.in-Mixed.is)) (c.give_all-in-Mixed.ensures.ok tells)

pub returns-in-Mixed-clause-failed : goal.returns-in-Mixed-clause-failed
returns-in-Mixed-clause-failed g c tells =
    let K = g.K.Sink in
    prefix_as c.give_all-in-Mixed.result (K.held c.args.sink.now) (K.held c.give_all-in-Mixed.new.sink) (refusal_line Mixed) (refusal_line c.args.refusal)
    (ap refusal_line (sym c.in-Mixed.is)) (c.give_all-in-Mixed.ensures.failed tells)

pub returns-in-BadLayout-clause-ok : goal.returns-in-BadLayout-clause-ok
returns-in-BadLayout-clause-ok g c tells =
    let K = g.K.Sink in
    given_as c.give_all-in-BadLayout.result (K.held c.args.sink.now) (K.held c.give_all-in-BadLayout.new.sink) (refusal_line BadLayout) (refusal_line c.args.refusal)
    (ap refusal_line (sym c.in-BadLayout.is)) (c.give_all-in-BadLayout.ensures.ok tells)

pub returns-in-BadLayout-clause-failed : goal.returns-in-BadLayout-clause-failed
returns-in-BadLayout-clause-failed g c tells =
    let K = g.K.Sink in
    prefix_as c.give_all-in-BadLayout.result (K.held c.args.sink.now) (K.held c.give_all-in-BadLayout.new.sink) (refusal_line BadLayout) (refusal_line c.args.refusal)
    (ap refusal_line (sym c.in-BadLayout.is)) (c.give_all-in-BadLayout.ensures.failed tells)

pub returns-in-NoEntry-clause-ok : goal.returns-in-NoEntry-clause-ok
returns-in-NoEntry-clause-ok g c tells =
    let K = g.K.Sink in
    given_as c.give_all-in-NoEntry.result (K.held c.args.sink.now) (K.held c.give_all-in-NoEntry.new.sink) (refusal_line NoEntry) (refusal_line c.args.refusal)
    (ap refusal_line (sym c.in-NoEntry.is)) (c.give_all-in-NoEntry.ensures.ok tells)

pub returns-in-NoEntry-clause-failed : goal.returns-in-NoEntry-clause-failed
returns-in-NoEntry-clause-failed g c tells =
    let K = g.K.Sink in
    prefix_as c.give_all-in-NoEntry.result (K.held c.args.sink.now) (K.held c.give_all-in-NoEntry.new.sink) (refusal_line NoEntry) (refusal_line c.args.refusal)
    (ap refusal_line (sym c.in-NoEntry.is)) (c.give_all-in-NoEntry.ensures.failed tells)

pub returns-in-MissingEntry-clause-ok : goal.returns-in-MissingEntry-clause-ok
returns-in-MissingEntry-clause-ok g c tells =
    let K = g.K.Sink in
    given_as c.give_number.result (K.held c.args.sink.now) (K.held c.give_number.new.sink) (refusal_line (MissingEntry c.in-MissingEntry.sequence)) (refusal_line c.args.refusal)
    (ap refusal_line (sym c.in-MissingEntry.is)) (c.give_number.ensures.ok tells)

pub returns-in-MissingEntry-clause-failed : goal.returns-in-MissingEntry-clause-failed
returns-in-MissingEntry-clause-failed g c tells =
    let K = g.K.Sink in
    prefix_as c.give_number.result (K.held c.args.sink.now) (K.held c.give_number.new.sink) (refusal_line (MissingEntry c.in-MissingEntry.sequence)) (refusal_line c.args.refusal)
    (ap refusal_line (sym c.in-MissingEntry.is)) (c.give_number.ensures.failed tells)

pub returns-in-BadNode-clause-ok : goal.returns-in-BadNode-clause-ok
returns-in-BadNode-clause-ok g c tells =
    let K = g.K.Sink in
    given_as c.give_place.result (K.held c.args.sink.now) (K.held c.give_place.new.sink) (refusal_line (BadNode c.in-BadNode.place)) (refusal_line c.args.refusal)
    (ap refusal_line (sym c.in-BadNode.is)) (c.give_place.ensures.ok tells)

pub returns-in-BadNode-clause-failed : goal.returns-in-BadNode-clause-failed
returns-in-BadNode-clause-failed g c tells =
    let K = g.K.Sink in
    prefix_as c.give_place.result (K.held c.args.sink.now) (K.held c.give_place.new.sink) (refusal_line (BadNode c.in-BadNode.place)) (refusal_line c.args.refusal)
    (ap refusal_line (sym c.in-BadNode.is)) (c.give_place.ensures.failed tells)

pub returns-in-Unsound-clause-ok : goal.returns-in-Unsound-clause-ok
returns-in-Unsound-clause-ok g c tells =
    let K = g.K.Sink in
    given_as c.give_number-in-Unsound.result (K.held c.args.sink.now) (K.held c.give_number-in-Unsound.new.sink) (codes "mount refused 8 check " ++ decimal c.from.result ++ codes "\n") (refusal_line c.args.refusal)
    (check_line c.args.refusal c.in-Unsound.check c.from.result c.in-Unsound.is c.from.ensures) (c.give_number-in-Unsound.ensures.ok tells)

pub returns-in-Unsound-clause-failed : goal.returns-in-Unsound-clause-failed
returns-in-Unsound-clause-failed g c tells =
    let K = g.K.Sink in
    prefix_as c.give_number-in-Unsound.result (K.held c.args.sink.now) (K.held c.give_number-in-Unsound.new.sink) (codes "mount refused 8 check " ++ decimal c.from.result ++ codes "\n") (refusal_line c.args.refusal)
    (check_line c.args.refusal c.in-Unsound.check c.from.result c.in-Unsound.is c.from.ensures) (c.give_number-in-Unsound.ensures.failed tells)
