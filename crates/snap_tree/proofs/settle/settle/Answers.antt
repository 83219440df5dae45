use Rattle.std.proofs.Common.{◌<◌, ℕ, ◌∙◌, subst, arith}
use Rattle.snap_tree.specs.Links.{IsPast}
use Rattle.snap_tree.proofs.Settling.{settled_down, lower}
use Rattle.snap_tree.proofs.settle.settle.Goals as goal

pub loop-next-preserved : goal.loop-next-preserved
loop-next-preserved c =
    let changes = c.args.changes.now.entries in
    let old = c.args.snaps.now.entries in
    let mid = c.loop-next.snaps.entries in
    let now = c.settle_one.new.snaps.entries in
    let id = c.in-Some.id in
    let inv = c.loop-next.invariant in
    let one = c.settle_one.ensures in
    let low : (x : ℕ) → (IsPast c.last_below-next.result x → ⊥) → x < id = λ x past. lower c.last_below-next.result id x c.last_below-next.ensures.within past in
    let not_past : (x : ℕ) → (id < x → ⊥) → IsPast c.loop-next.next x → ⊥ = λ x up past. up (subst (λ o. IsPast o x) c.in-Some.is past) in
    record {
      rises = one.rises;
      live = one.live;
      settled = settled_down c.args.forth changes old mid now c.args.pairs.now.keys c.loop-next.pairs.keys c.settle_one.new.pairs.keys c.args.links.now.entries c.loop-next.links.entries c.settle_one.new.links.entries c.loop-next.next c.last_below-next.result id c.in-Some.is inv.settled inv.records inv.pairs inv.links one.settled one.others one.pairs one.links c.last_below-next.ensures.greatest;
      records = λ x past. let lt : x < id = low x past in one.others x (λ e. omega (arith, lt, e)) ∙ inv.records x (not_past x (λ up. omega (arith, lt, up)));
      pairs = λ named x past. let lt : x < id = low x past in one.pairs named x (λ e. omega (arith, lt, e)) ∙ inv.pairs named x (not_past x (λ up. omega (arith, lt, up)));
      links = λ x past. let lt : x < id = low x past in one.links x (λ e. omega (arith, lt, e)) ∙ inv.links x (not_past x (λ up. omega (arith, lt, up)));
    }
