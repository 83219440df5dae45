use Rattle.std.proofs.Common.{◌≡◌, Bool, cond, List, Some, None, [], ◌∷◌, sym, ◌∙◌}
use Rattle.std.specs.Prelude.{is_some}
use Rattle.key_meaning.specs.Visible.{own_value}
use Rattle.key_view.specs.Changes.{own_update}
use Rattle.vol_types.specs.declared.keys.Update.{Update}
use Rattle.vol_types.specs.declared.values.Value.TheVariants.{White}
use Rattle.key_view.proofs.Scanning.{goes_further, seen_before}
use Rattle.key_view.proofs.changes.removal.Goals as goal

-- a whiteout where one is needed, else the removal of a key where there is one
abbrev chosen : Bool → Bool → Update → Update → List Update
chosen needs has white gone = cond needs (white ∷ []) (cond has (gone ∷ []) [])

pub returns-then-hides-clause-updates : goal.returns-then-hides-clause-updates
returns-then-hides-clause-updates g c keys seen =
    let a = c.args in
    let white = own_update a.btree a.own.inode a.own.offset a.own.snapshot (Some White) in
    let gone = own_update a.btree a.own.inode a.own.offset a.own.snapshot None in
    let needs = sym (c.in_ok-hides.ensures.needed keys seen) ∙ c.if-hides.true in
    c.in_ok-own_update.ensures.updates ∙ sym (λ i. chosen (needs i) (is_some (own_value keys a.btree a.own.inode a.own.offset a.own.snapshot)) white gone)

pub returns-then-not-has_own-clause-updates : goal.returns-then-not-has_own-clause-updates
returns-then-not-has_own-clause-updates g c keys seen =
    let a = c.args in
    let made = g.V.View.made in
    let white = own_update a.btree a.own.inode a.own.offset a.own.snapshot (Some White) in
    let gone = own_update a.btree a.own.inode a.own.offset a.own.snapshot None in
    let before = seen_before keys (made c.whiteout_needed.new.view) (made c.has_key.new.view) a.tree.now c.has_key.ensures.looks seen in
    let needs = sym (c.in_ok-hides.ensures.needed keys before) ∙ c.if-hides.false in
    let has = sym (c.in_ok-has_own.ensures.there keys seen.gives) ∙ c.if-not-has_own.true in
    c.new.ensures ∙ sym (λ i. chosen (needs i) (has i) white gone)

pub returns-clause-updates : goal.returns-clause-updates
returns-clause-updates g c keys seen =
    let a = c.args in
    let made = g.V.View.made in
    let white = own_update a.btree a.own.inode a.own.offset a.own.snapshot (Some White) in
    let gone = own_update a.btree a.own.inode a.own.offset a.own.snapshot None in
    let before = seen_before keys (made c.whiteout_needed.new.view) (made c.has_key.new.view) a.tree.now c.has_key.ensures.looks seen in
    let needs = sym (c.in_ok-hides.ensures.needed keys before) ∙ c.if-hides.false in
    let has = sym (c.in_ok-has_own.ensures.there keys seen.gives) ∙ c.if-not-has_own.false in
    c.in_ok-updates.ensures.updates ∙ sym (λ i. chosen (needs i) (has i) white gone)

pub returns-in_err-has_own-clause-looks : goal.returns-in_err-has_own-clause-looks
returns-in_err-has_own-clause-looks g c =
    let made = g.V.View.made in
    goes_further (made c.args.view.now) (made c.whiteout_needed.new.view) (made c.has_key.new.view) c.whiteout_needed.ensures.looks c.has_key.ensures.looks

pub returns-then-not-has_own-clause-looks : goal.returns-then-not-has_own-clause-looks
returns-then-not-has_own-clause-looks g c =
    let made = g.V.View.made in
    goes_further (made c.args.view.now) (made c.whiteout_needed.new.view) (made c.has_key.new.view) c.whiteout_needed.ensures.looks c.has_key.ensures.looks

pub returns-in_err-updates-clause-looks : goal.returns-in_err-updates-clause-looks
returns-in_err-updates-clause-looks g c =
    let made = g.V.View.made in
    goes_further (made c.args.view.now) (made c.whiteout_needed.new.view) (made c.has_key.new.view) c.whiteout_needed.ensures.looks c.has_key.ensures.looks

pub returns-clause-looks : goal.returns-clause-looks
returns-clause-looks g c =
    let made = g.V.View.made in
    goes_further (made c.args.view.now) (made c.whiteout_needed.new.view) (made c.has_key.new.view) c.whiteout_needed.ensures.looks c.has_key.ensures.looks
