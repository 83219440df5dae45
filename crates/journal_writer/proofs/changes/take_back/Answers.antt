use Rattle.std.proofs.Common.{◌∙◌, refl, sym}
use Rattle.journal_writer.proofs.Taking.{another_back, outside_back, within_ok}
use Rattle.journal_writer.proofs.changes.take_back.Goals as goal

pub returns-then-not-is_leaf_update-clause-keys : goal.returns-then-not-is_leaf_update-clause-keys
returns-then-not-is_leaf_update-clause-keys c = λ keys is part. another_back keys c.args.btree c.args.update.now c.args.value.now c.args.node part (sym c.is_leaf_update.ensures ∙ c.if-not-is_leaf_update.true)

pub returns-then-not-covers-clause-keys : goal.returns-then-not-covers-clause-keys
returns-then-not-covers-clause-keys c = λ keys is part.
    outside_back keys c.args.btree c.args.update.now c.args.value.now c.args.node part is (sym c.is_leaf_update.ensures ∙ c.if-not-is_leaf_update.false) (sym c.covers.ensures ∙ c.if-not-covers.true)

pub returns-clause-keys : goal.returns-clause-keys
returns-clause-keys c = λ keys is part.
    within_ok c.put_back.result keys c.args.btree c.args.update.now c.args.value.now c.args.value.now c.args.node part is (sym c.is_leaf_update.ensures ∙ c.if-not-is_leaf_update.false) (sym c.covers.ensures ∙ c.if-not-covers.false) refl c.put_back.ensures
