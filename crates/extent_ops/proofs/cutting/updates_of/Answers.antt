use Rattle.std.proofs.Common.{◌≡◌, ◌∙◌, List, map, sym, ap, subst}
use Rattle.vol_types.specs.declared.keys.Update.{Update}
use Rattle.extent_ops.specs.Content.{AreOfContent}
use Rattle.extent_ops.specs.Cutting.{update_at, updates_of}
use Rattle.extent_ops.proofs.Fresh.{ok_then}
use Rattle.extent_ops.proofs.Owned.{own_updates}
use Rattle.extent_ops.proofs.cutting.updates_of.Goals as goal

pub returns : goal.returns
returns c = record {
  are = ok_then (λ (u : List Update). u ≡ map (update_at c.args.file c.args.id) c.in_ok-entries.entries.entries) (λ (u : List Update). u ≡ updates_of c.args.file c.args.id c.args.changes) c.listed.result c.listed.ensures
      (λ u at. at ∙ ap (map (update_at c.args.file c.args.id)) c.in_ok-entries.ensures);
  own = ok_then (λ (u : List Update). u ≡ map (update_at c.args.file c.args.id) c.in_ok-entries.entries.entries) (AreOfContent c.args.id) c.listed.result c.listed.ensures
      (λ u at. subst (AreOfContent c.args.id) (sym (at ∙ ap (map (update_at c.args.file c.args.id)) c.in_ok-entries.ensures)) (own_updates c.args.file c.args.id c.args.changes));
}
