-- The roots of the btrees so far, and one more.
use Rattle.std.proofs.Common.{◌∙◌, ◌++◌, ◌∷◌, [], List, ap, arith, get_or, length, map, sym}
use Rattle.std.proofs.lemmas.List.{length-map, map_more, take_all}
use Rattle.std.proofs.lemmas.List.Elements.{All-nil, All-push, All-same}
use Rattle.node_writeback.specs.Due.{root_of}
use Rattle.vol_types.specs.Ranges.{IsNode}
use Rattle.vol_types.specs.declared.pointers.NodePtr.{NodePtr}
use Rattle.core_volume.proofs.roots.roots_of.Goals as goal

pub loop-code-init : goal.loop-code-init
loop-code-init c = record {
  roots = c.new-roots.ensures;
  in_range = All-same IsNode c.new-roots.result [] c.new-roots.ensures (All-nil IsNode);
}

pub loop-code-preserved : goal.loop-code-preserved
loop-code-preserved c =
    let code = c.loop-code.code in
    let nodes = c.args.map.now.nodes in
    let pushed = c.in_ok-push.ensures.ok in
    record {
      roots = pushed ∙ ap (λ (root : NodePtr). c.loop-code.roots ++ root ∷ []) c.in_ok-root_of.ensures.root ∙ ap (λ (roots : List NodePtr). roots ++ root_of (get_or nodes code []) ∷ []) c.loop-code.invariant.roots
          ∙ sym (map_more root_of nodes code [] (omega (arith, c.height.ensures.sound.node_count)));
      in_range = All-same IsNode c.push.new.self _ pushed (All-push IsNode c.loop-code.roots c.in_ok-root_of.field-0 c.loop-code.invariant.in_range c.in_ok-root_of.ensures.in_range);
    }

pub returns-clause-roots : goal.returns-clause-roots
returns-clause-roots c =
    let all = take_all c.loop-code.code c.args.map.now.nodes (omega (arith, c.height.ensures.sound.node_count)) in
    c.loop-code.invariant.roots ∙ ap (map root_of) all

pub returns-clause-count : goal.returns-clause-count
returns-clause-count c =
    ap length (returns-clause-roots c) ∙ length-map c.args.map.now.nodes root_of ∙ c.height.ensures.sound.node_count

pub returns-clause-in_range : goal.returns-clause-in_range
returns-clause-in_range c = c.loop-code.invariant.in_range
