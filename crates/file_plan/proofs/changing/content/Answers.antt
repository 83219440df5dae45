use Rattle.std.proofs.Common.{◌+◌, ◌≤◌, length, sym, subst}
use Rattle.std.specs.Prelude.{All}
use Rattle.vol_types.specs.KeyMaps.{with_updates}
use Rattle.vol_types.specs.Standing.{IsUpdate}
use Rattle.vol_types.specs.declared.keys.Key.{Key}
use Rattle.extent_ops.specs.Content.{IsContent}
use Rattle.extent_ops.specs.Placing.{MayBePlaced}
use Rattle.file_plan.specs.Bounds.{keys_seen, most_beside, most_updates}
use Rattle.file_plan.specs.Content.{AreNear, IsChanged, PutsFresh, TakesChange, extents_of}
use Rattle.file_plan.specs.declared.change.Change.{Change}
use Rattle.file_plan.proofs.Io.{carried}
use Rattle.file_plan.proofs.changing.content.Goals as goal

pub returns-in-Put-clause-changed : goal.returns-in-Put-clause-changed
returns-in-Put-clause-changed g c = carried c.put.result _ _
    (λ updates changed keys read seen had. subst (λ (change : Change). IsChanged change keys (with_updates updates keys) read c.args.id c.args.number c.args.size) (sym c.in-Put.is) (changed keys read c.args.size seen had))
    c.put.ensures.changed

pub returns-in-Put-clause-takes : goal.returns-in-Put-clause-takes
returns-in-Put-clause-takes g c = carried c.put.result _ _
    (λ updates takes keys seen had. subst (λ (change : Change). TakesChange change keys (with_updates updates keys) c.args.number c.args.id c.args.size) (sym c.in-Put.is) (takes keys c.args.size seen had))
    c.put.ensures.takes

pub returns-in-Put-clause-fits : goal.returns-in-Put-clause-fits
returns-in-Put-clause-fits g c = carried c.put.result _ _
    (λ updates fits keys seen range kept. subst (λ (change : Change). PutsFresh change c.args.number c.args.id → All (λ (key : Key). IsContent key.value) (extents_of change) → All IsUpdate updates) (sym c.in-Put.is) (fits keys seen range kept))
    c.put.ensures.fits

pub returns-in-Put-clause-near : goal.returns-in-Put-clause-near
returns-in-Put-clause-near g c = carried c.put.result _ _
    (λ updates near keys longest seen range up_to. subst (λ (change : Change). AreNear change c.args.number c.args.id c.args.size longest updates) (sym c.in-Put.is) (near keys c.args.size longest seen range up_to))
    c.put.ensures.near

pub returns-in-Put-clause-placed : goal.returns-in-Put-clause-placed
returns-in-Put-clause-placed g c = carried c.put.result _ _
    (λ updates placed keys nodes layout seen range fresh before may. placed keys nodes layout seen range
    (subst (λ (change : Change). PutsFresh change c.args.number c.args.id) c.in-Put.is fresh) before
    (subst (λ (change : Change). MayBePlaced keys nodes layout (extents_of change)) c.in-Put.is may))
    c.put.ensures.placed

pub returns-in-Cut-clause-near : goal.returns-in-Cut-clause-near
returns-in-Cut-clause-near g c = carried c.cut.result _ _
    (λ updates near keys longest seen range up_to. subst (λ (change : Change). AreNear change c.args.number c.args.id c.args.size longest updates) (sym c.in-Cut.is) (near keys longest seen range up_to))
    c.cut.ensures.near

pub returns-in-Cut-clause-placed : goal.returns-in-Cut-clause-placed
returns-in-Cut-clause-placed g c = carried c.cut.result _ _
    (λ updates placed keys nodes layout seen range fresh before may. placed keys nodes layout seen range tt before
    (subst (λ (change : Change). MayBePlaced keys nodes layout (extents_of change)) c.in-Cut.is may))
    c.cut.ensures.placed

pub returns-in-Cut-clause-changed : goal.returns-in-Cut-clause-changed
returns-in-Cut-clause-changed g c = carried c.cut.result _ _
    (λ updates changed keys read seen had. subst (λ (change : Change). IsChanged change keys (with_updates updates keys) read c.args.id c.args.number c.args.size) (sym c.in-Cut.is) (changed keys read seen had))
    c.cut.ensures.changed

pub returns-in-Put-clause-few : goal.returns-in-Put-clause-few
returns-in-Put-clause-few g c = carried c.put.result _ _
    (λ updates few keys seen had. subst (λ (change : Change). PutsFresh change c.args.number c.args.id → length updates ≤ most_updates c.args.size change) (sym c.in-Put.is) (few keys c.args.size seen had))
    c.put.ensures.few

pub returns-in-Cut-clause-few : goal.returns-in-Cut-clause-few
returns-in-Cut-clause-few g c = carried c.cut.result _ _
    (λ updates few keys seen had fresh. subst (λ (change : Change). length updates ≤ most_updates c.args.size change) (sym c.in-Cut.is) (few keys seen had))
    c.cut.ensures.few

pub returns-in-Put-clause-few_by_keys : goal.returns-in-Put-clause-few_by_keys
returns-in-Put-clause-few_by_keys g c = carried c.put.result _ _
    (λ updates few. subst (λ (change : Change). PutsFresh change c.args.number c.args.id → length updates + keys_seen (g.V.View.made c.args.view.now) ≤ keys_seen (g.V.View.made c.put.new.view) + most_beside change) (sym c.in-Put.is) few)
    c.put.ensures.few_by_keys

pub returns-in-Cut-clause-few_by_keys : goal.returns-in-Cut-clause-few_by_keys
returns-in-Cut-clause-few_by_keys g c = carried c.cut.result _ _
    (λ updates few fresh. subst (λ (change : Change). length updates + keys_seen (g.V.View.made c.args.view.now) ≤ keys_seen (g.V.View.made c.cut.new.view) + most_beside change) (sym c.in-Cut.is) few)
    c.cut.ensures.few_by_keys
