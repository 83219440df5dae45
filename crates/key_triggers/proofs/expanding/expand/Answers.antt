use Rattle.std.proofs.Common.{◌≡◌, ◌∙◌, ◌≤◌, List, All, length, subst, sym, ap}
use Rattle.key_triggers.specs.Bounds.{most_expanded}
use Rattle.key_triggers.specs.Expanding.{expanded}
use Rattle.key_triggers.proofs.Few.{expanded_few}
use Rattle.key_triggers.specs.Follows.{Follows, IsExpanded, MayFollow}
use Rattle.vol_types.specs.Standing.{IsUpdate}
use Rattle.vol_types.specs.KeyMaps.{GivesLooks, KeyMap, with_updates}
use Rattle.vol_types.specs.declared.keys.Update.{Update}
use Rattle.vol_types.specs.declared.layout.Layout.{Layout}
use Rattle.vol_types.specs.declared.pointers.Place.{Place}
use Rattle.key_triggers.proofs.Handing.{handed}
use Rattle.key_triggers.proofs.expanding.expand.Goals as goal

pub returns-clause-expanded : goal.returns-clause-expanded
returns-clause-expanded g c =
    let updates = c.args.updates.now in
    let slice = c.as_slice.result.now in
    handed c.expanded.result (λ all. (keys : KeyMap) → GivesLooks keys (g.V.View.made c.expanded.new.view) → all ≡ expanded keys slice)
    (λ all. (keys : KeyMap) → GivesLooks keys (g.V.View.made c.expanded.new.view) → IsExpanded keys updates all)
    (λ all is keys gives. subst (λ (us : List Update). IsExpanded keys updates us) (sym (is keys gives ∙ ap (expanded keys) c.as_slice.ensures)) (c.expanded_keys_follow.ensures.expanded keys updates))
    c.expanded.ensures.updates

pub returns-clause-follows : goal.returns-clause-follows
returns-clause-follows g c =
    let updates = c.args.updates.now in
    let slice = c.as_slice.result.now in
    handed c.expanded.result (λ all. (keys : KeyMap) → GivesLooks keys (g.V.View.made c.expanded.new.view) → all ≡ expanded keys slice)
    (λ all. (keys : KeyMap) (nodes : List Place) (layout : Layout) → GivesLooks keys (g.V.View.made c.expanded.new.view) → MayFollow keys updates nodes layout → Follows keys (with_updates all keys) updates nodes layout)
    (λ all is keys nodes layout gives may. subst (λ (us : List Update). Follows keys (with_updates us keys) updates nodes layout) (sym (is keys gives ∙ ap (expanded keys) c.as_slice.ensures)) (c.expanded_keys_follow.ensures.follows keys updates nodes layout may))
    c.expanded.ensures.updates

pub returns-clause-fits : goal.returns-clause-fits
returns-clause-fits g c =
    let updates = c.args.updates.now in
    let slice = c.as_slice.result.now in
    handed c.expanded.result (λ all. (keys : KeyMap) → GivesLooks keys (g.V.View.made c.expanded.new.view) → all ≡ expanded keys slice)
    (λ all. (keys : KeyMap) → GivesLooks keys (g.V.View.made c.expanded.new.view) → All IsUpdate updates → All IsUpdate all)
    (λ all is keys gives may. subst (λ (us : List Update). All IsUpdate us) (sym (is keys gives ∙ ap (expanded keys) c.as_slice.ensures)) (c.expanded_keys_follow.ensures.fits keys updates may))
    c.expanded.ensures.updates

pub returns-clause-are : goal.returns-clause-are
returns-clause-are g c =
    let updates = c.args.updates.now in
    let slice = c.as_slice.result.now in
    handed c.expanded.result (λ all. (keys : KeyMap) → GivesLooks keys (g.V.View.made c.expanded.new.view) → all ≡ expanded keys slice)
    (λ all. (keys : KeyMap) → GivesLooks keys (g.V.View.made c.expanded.new.view) → all ≡ expanded keys updates)
    (λ all is keys gives. is keys gives ∙ ap (expanded keys) c.as_slice.ensures)
    c.expanded.ensures.updates

pub returns-clause-few : goal.returns-clause-few
returns-clause-few g c =
    let updates = c.args.updates.now in
    let slice = c.as_slice.result.now in
    handed c.expanded.result (λ all. (keys : KeyMap) → GivesLooks keys (g.V.View.made c.expanded.new.view) → all ≡ expanded keys slice)
    (λ all. (keys : KeyMap) → GivesLooks keys (g.V.View.made c.expanded.new.view) → length all ≤ most_expanded keys updates)
    (λ all is keys gives. subst (λ (us : List Update). length us ≤ most_expanded keys updates) (sym (is keys gives ∙ ap (expanded keys) c.as_slice.ensures)) (expanded_few keys updates))
    c.expanded.ensures.updates
