use Rattle.std.proofs.Common.{◌≡◌, ◌++◌, ◌∙◌, [], true, false, ap, map}
use Rattle.key_triggers.proofs.Looking.{gave_before, goes_further}
use Rattle.key_triggers.specs.Changes.{values_after, values_before}
use Rattle.key_triggers.specs.Expanding.{owners_of, tallies_of}
use Rattle.key_triggers.specs.Owners.{held_by, left_by, owner_update}
use Rattle.key_triggers.specs.Stamps.{stamped}
use Rattle.key_triggers.specs.Tallies.{counted_values, live_update}
use Rattle.key_triggers.proofs.expanding.expanded.Goals as goal

pub returns-clause-updates : goal.returns-clause-updates
returns-clause-updates g c keys gives =
    let made = g.V.View.made in
    let updates = c.args.updates.now in
    let stamps_gives = gave_before keys (made c.stamp_all.new.view) (made c.live_updates.new.view) c.live_updates.ensures.looks gives in
    let values_gives = gave_before keys (made c.values_before.new.view) (made c.stamp_all.new.view) c.stamp_all.ensures.looks stamps_gives in
    let before : c.in_ok-before.before.entries ≡ values_before keys updates [] = c.in_ok-before.ensures.values keys values_gives in
    let after : c.in_ok-after.after.entries ≡ values_after updates [] = c.in_ok-after.ensures in
    let taken : c.count_values.new.tallies.entries ≡ counted_values false (values_before keys updates []) [] =
    c.in_ok-count_values.ensures ∙ (λ i. counted_values false (before i) (c.new-tallies.ensures.empty i)) in
    let tallies : c.count_values-2.new.tallies.entries ≡ tallies_of keys updates = c.in_ok-count_values-2.ensures ∙ (λ i. counted_values true (after i) (taken i)) in
    let stamps : c.in_ok-all.all ≡ map (stamped keys) updates = c.in_ok-all.ensures.updates keys stamps_gives in
    let lives : c.in_ok-lives.lives ≡ map (live_update keys) (tallies_of keys updates) = c.in_ok-lives.ensures.updates keys gives ∙ ap (map (live_update keys)) tallies in
    let owners : c.in_ok-owners.owners ≡ map owner_update (owners_of keys updates) = c.in_ok-owners.ensures ∙ (λ i. map owner_update (held_by (after i) (left_by (before i) []))) in
    let first : c.append.new.self ≡ map (stamped keys) updates ++ map (live_update keys) (tallies_of keys updates) = c.in_ok-append.ensures.ok ∙ (λ i. stamps i ++ lives i) in
    c.in_ok-append-2.ensures.ok ∙ (λ i. first i ++ owners i)

pub returns-in_err-all-clause-looks : goal.returns-in_err-all-clause-looks
returns-in_err-all-clause-looks g c =
    let made = g.V.View.made in
    goes_further (made c.args.view.now) (made c.values_before.new.view) (made c.stamp_all.new.view) c.values_before.ensures.looks c.stamp_all.ensures.looks

pub returns-in_err-lives-clause-looks : goal.returns-in_err-lives-clause-looks
returns-in_err-lives-clause-looks g c =
    let made = g.V.View.made in
    goes_further (made c.args.view.now) (made c.stamp_all.new.view) (made c.live_updates.new.view) (goes_further (made c.args.view.now) (made c.values_before.new.view) (made c.stamp_all.new.view) c.values_before.ensures.looks c.stamp_all.ensures.looks) c.live_updates.ensures.looks

pub returns-in_err-owners-clause-looks : goal.returns-in_err-owners-clause-looks
returns-in_err-owners-clause-looks g c =
    let made = g.V.View.made in
    goes_further (made c.args.view.now) (made c.stamp_all.new.view) (made c.live_updates.new.view) (goes_further (made c.args.view.now) (made c.values_before.new.view) (made c.stamp_all.new.view) c.values_before.ensures.looks c.stamp_all.ensures.looks) c.live_updates.ensures.looks

pub returns-in_err-append-clause-looks : goal.returns-in_err-append-clause-looks
returns-in_err-append-clause-looks g c =
    let made = g.V.View.made in
    goes_further (made c.args.view.now) (made c.stamp_all.new.view) (made c.live_updates.new.view) (goes_further (made c.args.view.now) (made c.values_before.new.view) (made c.stamp_all.new.view) c.values_before.ensures.looks c.stamp_all.ensures.looks) c.live_updates.ensures.looks

pub returns-in_err-append-2-clause-looks : goal.returns-in_err-append-2-clause-looks
returns-in_err-append-2-clause-looks g c =
    let made = g.V.View.made in
    goes_further (made c.args.view.now) (made c.stamp_all.new.view) (made c.live_updates.new.view) (goes_further (made c.args.view.now) (made c.values_before.new.view) (made c.stamp_all.new.view) c.values_before.ensures.looks c.stamp_all.ensures.looks) c.live_updates.ensures.looks

pub returns-clause-looks : goal.returns-clause-looks
returns-clause-looks g c =
    let made = g.V.View.made in
    goes_further (made c.args.view.now) (made c.stamp_all.new.view) (made c.live_updates.new.view) (goes_further (made c.args.view.now) (made c.values_before.new.view) (made c.stamp_all.new.view) c.values_before.ensures.looks c.stamp_all.ensures.looks) c.live_updates.ensures.looks
