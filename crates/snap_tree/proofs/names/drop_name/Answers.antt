use Rattle.snap_tree.proofs.Naming.{out_one}
use Rattle.snap_tree.proofs.names.drop_name.Goals as goal

pub returns-then-not-does_name : goal.returns-then-not-does_name
returns-then-not-does_name c = out_one c.args.pairs.now.keys c.remove.new.self.keys c.args.named c.args.namer (λ k. c.remove.ensures.updates.0 k) c.args.stays c.if-named-ne0.true (cc (c.if-not-does_name.ensures, c.if-not-does_name.true))
