use Rattle.std.proofs.Common.{◌≡◌, ◌∙◌, List, ℕ, ap, sym, subst}
use Rattle.dirty_nodes.specs.Dirty.{AreMarked, changed_nodes, paths_of, with_pins}
use Rattle.core_volume.proofs.opening.make_dirty.Goals as goal

pub returns-clause-marked : goal.returns-clause-marked
returns-clause-marked c =
    let nodes = c.args.map.now.nodes in
    let seq = c.args.seq in
    let old = c.args.dirty.now in
    let new = c.dirty.new.self in
    let updates = c.args.updates.now in
    let pins : new.pins.numbers ≡ with_pins seq (changed_nodes nodes updates) old.pins.numbers =
    c.dirty.ensures.pins ∙ ap (with_pins seq c.in_ok-paths.paths.changed.items) c.reserve.ensures.pins ∙ ap (λ (births : List ℕ). with_pins seq births old.pins.numbers) c.in_ok-paths.ensures.changed in
    let marks : new.marks.numbers ≡ with_pins seq (paths_of nodes updates) old.marks.numbers =
    c.dirty.ensures.marks ∙ ap (with_pins seq c.in_ok-paths.paths.over.items) c.reserve.ensures.marks ∙ ap (λ (births : List ℕ). with_pins seq births old.marks.numbers) c.in_ok-paths.ensures.over in
    subst (λ (ps : List (ℕ × ℕ)). AreMarked nodes ps new.marks.numbers) (sym pins)
    (subst (λ (ms : List (ℕ × ℕ)). AreMarked nodes (with_pins seq (changed_nodes nodes updates) old.pins.numbers) ms) (sym marks)
    (c.dirty_nodes_are_marked.ensures.more nodes old.pins.numbers old.marks.numbers updates seq c.node_of.ensures.differ (λ btree. (c.height.ensures.sound.each btree).nodes) c.see_widths.ensures c.requires.marked))
