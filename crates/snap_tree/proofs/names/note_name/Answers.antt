use Rattle.std.proofs.Common.{⊎_elim, inl, inr}
use Rattle.snap_tree.proofs.Naming.{put_kept, put_only}
use Rattle.snap_tree.proofs.names.note_name.Goals as goal

pub returns-in_ok-insert-clause-kept : goal.returns-in_ok-insert-clause-kept
returns-in_ok-insert-clause-kept c = put_kept c.args.pairs.now.keys c.insert.new.self.keys c.args.named c.args.namer (λ k. c.in_ok-insert.ensures.updates.0 k)

pub returns-in_ok-insert-clause-only : goal.returns-in_ok-insert-clause-only
returns-in_ok-insert-clause-only c other by now =
    ⊎_elim inl (λ same. inr (same.0, same.1, c.if-named-ne0.true)) (put_only c.args.pairs.now.keys c.insert.new.self.keys c.args.named c.args.namer (λ k. c.in_ok-insert.ensures.updates.0 k) other by now)
