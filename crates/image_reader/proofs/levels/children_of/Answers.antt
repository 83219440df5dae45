use Rattle.std.proofs.Common.{◌≡◌, ◌<◌, ◌≤◌, ◌∙◌, [], List, ap, length, get_or, subst, sym, true}
use Rattle.image_view.specs.Trees.{child_in, ends_at, first_place}
use Rattle.vol_types.specs.Ranges.{IsValue}
use Rattle.vol_types.specs.declared.positions.Pos.{Pos}
use Rattle.vol_types.specs.declared.values.Value.{Value}
use Rattle.image_reader.proofs.LevelTold.{found_from}
use Rattle.image_reader.proofs.LoopsTold.{all_at, child_of_level, child_step, children_end, level_pushed}
use Rattle.image_reader.proofs.levels.children_of.Goals as goal

pub loop-pos-preserved : goal.loop-pos-preserved
loop-pos-preserved c =
    let level = c.args.level in
    let node = c.args.node.now in
    let i = c.loop-pos.pos-index in
    let item = c.loop-pos-item.result in
    let lt : i < length node.entries = subst (λ (es : List (Pos × Value)). i < length es) c.as_slice-pos-items.ensures c.loop-pos-test.true in
    let at : item ≡ get_or node.entries i item = subst (λ (es : List (Pos × Value)). item ≡ get_or es i item) c.as_slice-pos-items.ensures c.loop-pos-item.is in
    let is = sym c.in_ok-child.ensures ∙ c.in-Some.is in
    record {
      found = child_step level (first_place node.pointer) (ends_at node.greatest node.entries) node.entries i c.loop-pos.children c.push.new.self (found_from (child_in level) (first_place node.pointer) (ends_at node.greatest node.entries) [] node.entries)
          item c.in-Some.child lt at is c.in_ok-push-in-Some.ensures.ok c.loop-pos.invariant.found;
      nodes = level_pushed level c.loop-pos.children c.push.new.self c.in-Some.child c.in_ok-push-in-Some.ensures.ok c.loop-pos.invariant.nodes
          (child_of_level level item c.in-Some.child is (all_at IsValue node.entries i item lt at c.requires.in_range));
    }

pub returns-clause-found : goal.returns-clause-found
returns-clause-found c =
    let level = c.args.level in
    let node = c.args.node.now in
    let le : length node.entries ≤ c.loop-pos.pos-index = subst (λ (es : List (Pos × Value)). length es ≤ c.loop-pos.pos-index) c.as_slice-pos-items.ensures c.loop-pos-test.false in
    let ends : ends_at node.greatest node.entries ≡ true = sym (c.ends_at.ensures ∙ ap (ends_at node.greatest) c.as_slice.ensures) ∙ c.if-not-ends_at.false in
    children_end level (first_place node.pointer) (ends_at node.greatest node.entries) true node.entries c.loop-pos.pos-index c.loop-pos.children (found_from (child_in level) (first_place node.pointer) (ends_at node.greatest node.entries) [] node.entries)
    le ends c.loop-pos.invariant.found
