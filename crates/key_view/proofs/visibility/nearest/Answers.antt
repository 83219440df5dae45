use Rattle.std.proofs.Common.{◌≡◌, ℕ, ◌≤◌, ◌<◌, Option, Some, None, refl, sym, ap, ◌∙◌, subst, arith}
use Rattle.key_meaning.specs.Visible.{own_value}
use Rattle.key_view.proofs.Scanning.{goes_nowhere, goes_further, none_at_all, none_past, none_up_to, nothing_shows, passed_where, seen_before, shown_where, this_shows}
use Rattle.key_view.specs.Own.{IsFirstOwn, IsNextOwn}
use Rattle.key_view.specs.Seen.{IsSeen}
use Rattle.snap_tree.specs.ChainLaws.{none_in_chain}
use Rattle.snap_tree.specs.Places.{ancestor_above}
use Rattle.snap_tree.specs.Snaps.{is_ancestor_of}
use Rattle.vol_types.specs.KeyMaps.{KeyMap}
use Rattle.vol_types.specs.declared.values.Value.{Value}
use Rattle.key_view.proofs.Ancestors.{ancestor_there}
use Rattle.key_view.proofs.visibility.nearest.Goals as goal

pub loop-owner-init : goal.loop-owner-init
loop-owner-init g c =
    (λ keys seen a ancestor lt. absurd (omega (arith, ancestor_above c.args.tree.now a c.args.id c.ids_fit.ensures.trees.rises ancestor, lt)), goes_nowhere (g.V.View.made c.args.view.now), refl)

pub returns-in_default-clause-visible : goal.returns-in_default-clause-visible
returns-in_default-clause-visible g c keys seen =
    let a = c.args in
    let made = g.V.View.made in
    let below = c.loop-owner.invariant.0 keys (seen_before keys (made c.loop-owner.view) (made c.next_own.new.view) a.tree.now c.in_ok-owner.ensures.looks seen) in
    let next = subst (λ (own : Option (ℕ × Value)). IsNextOwn keys a.btree a.inode a.offset c.loop-owner.from own) c.in_default.is (c.in_ok-owner.ensures.next keys seen.is_map seen.gives) in
    nothing_shows keys a.btree a.inode a.offset a.tree.now a.id seen.ids (none_at_all keys a.btree a.inode a.offset a.tree.now a.id c.loop-owner.from below next)

pub returns-in-Some-shown_if-clause-visible : goal.returns-in-Some-shown_if-clause-visible
returns-in-Some-shown_if-clause-visible g c keys seen =
    let a = c.args in
    let made = g.V.View.made in
    let below = c.loop-owner.invariant.0 keys (seen_before keys (made c.loop-owner.view) (made c.next_own.new.view) a.tree.now c.in_ok-owner.ensures.looks seen) in
    let first : IsFirstOwn keys a.btree a.inode a.offset c.loop-owner.from (c.in-Some.owner, c.in-Some.value) = subst (λ (own : Option (ℕ × Value)). IsNextOwn keys a.btree a.inode a.offset c.loop-owner.from own) c.in-Some.is (c.in_ok-owner.ensures.next keys seen.is_map seen.gives) in
    let here = shown_where c.is_ancestor.result c.in-Some.value c.shown_if.result c.in-Some-shown_if.shown c.shown_if.ensures c.in-Some-shown_if.is in
    sym here.1
    ∙ this_shows keys a.btree a.inode a.offset a.tree.now a.id seen.ids c.in-Some.owner c.in-Some.value c.ids_fit.ensures.trees.rises (sym c.is_ancestor.ensures ∙ here.0)
    (none_up_to keys a.btree a.inode a.offset a.tree.now a.id c.loop-owner.from (c.in-Some.owner, c.in-Some.value) below first) first.value

pub returns-then-owner-clause-visible : goal.returns-then-owner-clause-visible
returns-then-owner-clause-visible g c keys seen =
    let a = c.args in
    let made = g.V.View.made in
    let below = c.loop-owner.invariant.0 keys (seen_before keys (made c.loop-owner.view) (made c.next_own.new.view) a.tree.now c.in_ok-owner.ensures.looks seen) in
    let first : IsFirstOwn keys a.btree a.inode a.offset c.loop-owner.from (c.in-Some.owner, c.in-Some.value) = subst (λ (own : Option (ℕ × Value)). IsNextOwn keys a.btree a.inode a.offset c.loop-owner.from own) c.in-Some.is (c.in_ok-owner.ensures.next keys seen.is_map seen.gives) in
    let other : is_ancestor_of a.tree.now c.in-Some.owner a.id ≡ _ = sym c.is_ancestor.ensures ∙ passed_where c.is_ancestor.result c.in-Some.value c.shown_if.result c.shown_if.ensures c.in_default-shown_if.is in
    nothing_shows keys a.btree a.inode a.offset a.tree.now a.id seen.ids
    (λ x ancestor. none_past keys a.btree a.inode a.offset a.tree.now a.id c.loop-owner.from (c.in-Some.owner, c.in-Some.value) below first other x ancestor
    (let fits = c.ids_fit.ensures.fits x (ancestor_there a.tree.now x a.id c.ids_fit.ensures.trees.rises ancestor) in omega (arith, fits, c.if-owner.true)))

pub loop-owner-preserved : goal.loop-owner-preserved
loop-owner-preserved g c =
    let a = c.args in
    let made = g.V.View.made in
    let looks = c.in_ok-owner.ensures.looks in
    let other : is_ancestor_of a.tree.now c.in-Some.owner a.id ≡ _ = sym c.is_ancestor.ensures ∙ passed_where c.is_ancestor.result c.in-Some.value c.shown_if.result c.shown_if.ensures c.in_default-shown_if.is in (
      (λ keys seen x ancestor lt.
          let below = c.loop-owner.invariant.0 keys (seen_before keys (made c.loop-owner.view) (made c.next_own.new.view) a.tree.now looks seen) in
          let first : IsFirstOwn keys a.btree a.inode a.offset c.loop-owner.from (c.in-Some.owner, c.in-Some.value) = subst (λ (own : Option (ℕ × Value)). IsNextOwn keys a.btree a.inode a.offset c.loop-owner.from own) c.in-Some.is (c.in_ok-owner.ensures.next keys seen.is_map seen.gives) in
          none_past keys a.btree a.inode a.offset a.tree.now a.id c.loop-owner.from (c.in-Some.owner, c.in-Some.value) below first other x ancestor (omega (arith, lt))),
      goes_further (made a.view.now) (made c.loop-owner.view) (made c.next_own.new.view) c.loop-owner.invariant.1 looks,
      c.in_ok-owner.ensures.ids ∙ c.loop-owner.invariant.2,
    )

pub returns-in_err-owner-clause-looks : goal.returns-in_err-owner-clause-looks
returns-in_err-owner-clause-looks g c =
    let made = g.V.View.made in
    goes_further (made c.args.view.now) (made c.loop-owner.view) (made c.next_own.new.view) c.loop-owner.invariant.1 c.next_own.ensures.looks

pub returns-in_default-clause-looks : goal.returns-in_default-clause-looks
returns-in_default-clause-looks g c =
    let made = g.V.View.made in
    goes_further (made c.args.view.now) (made c.loop-owner.view) (made c.next_own.new.view) c.loop-owner.invariant.1 c.next_own.ensures.looks

pub returns-in-Some-shown_if-clause-looks : goal.returns-in-Some-shown_if-clause-looks
returns-in-Some-shown_if-clause-looks g c =
    let made = g.V.View.made in
    goes_further (made c.args.view.now) (made c.loop-owner.view) (made c.next_own.new.view) c.loop-owner.invariant.1 c.next_own.ensures.looks

pub returns-then-owner-clause-looks : goal.returns-then-owner-clause-looks
returns-then-owner-clause-looks g c =
    let made = g.V.View.made in
    goes_further (made c.args.view.now) (made c.loop-owner.view) (made c.next_own.new.view) c.loop-owner.invariant.1 c.next_own.ensures.looks
