use Rattle.std.proofs.Common.{◌++◌, ◌∙◌, [], get_or, sym, ap, arith}
use Rattle.std.proofs.lemmas.List.{append-nil, drop_all}
use Rattle.core_actors.proofs.Walking.{btree_added}
use Rattle.core_actors.specs.Nodes.{nodes_of_levels, places_in, places_of}
use Rattle.core_actors.proofs.nodes.node_places.Goals as goal

pub loop-code-preserved : goal.loop-code-preserved
loop-code-preserved c =
    let nine = c.add_btree.ensures.sound.node_count in (
      btree_added c.args.map.now.nodes c.loop-code.code (omega (arith, nine, c.loop-code-test.true)) c.loop-code.places c.add_btree.new.places
          (c.in_ok-add_btree.ensures.added ∙ ap (λ code. c.loop-code.places ++ places_of (nodes_of_levels (get_or c.args.map.now.nodes code []))) c.in-Some.ensures.found)
          ∙ c.loop-code.invariant.0,
      λ _. nine,
    )

pub returns : goal.returns
returns c =
    sym (append-nil c.loop-code.places) ∙ ap (λ xs. c.loop-code.places ++ places_in xs) (sym (drop_all c.loop-code.code c.args.map.now.nodes (omega (arith, c.loop-code.invariant.1 (omega arith), c.loop-code-test.false))))
    ∙ c.loop-code.invariant.0
