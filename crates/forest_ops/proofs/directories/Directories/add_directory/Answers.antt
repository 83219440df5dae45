use Rattle.std.proofs.Common.{◌≡◌, [], Some, None, sym, ap, ◌∙◌, nat_cmp, arith}
use Rattle.plain_forest.specs.Maps.{value_at, with_value}
use Rattle.forest_ops.specs.Names.{links_of}
use Rattle.forest_ops.proofs.Counting.{links_emptied}
use Rattle.forest_ops.proofs.directories.Directories.add_directory.Goals as goal

pub invariant_of-self-in-Some : goal.invariant_of-self-in-Some
invariant_of-self-in-Some c number =
    let ds = c.self.inside.tables.entries in
    let gone = c.in-Some.gone in
    let found : Some gone ≡ value_at nat_cmp c.args.number ds = sym c.in-Some.is ∙ c.in_ok-before.ensures.old in
    let added : c.insert.new.self.entries ≡ with_value nat_cmp c.args.number [] ds = c.in_ok-before.ensures.entries ∙ ap (λ n. with_value nat_cmp c.args.number n ds) c.new.ensures in
    let sums = links_emptied c.args.number number ds (Some gone) c.insert.ensures.was_ordered found in
    omega (arith, sums, ap (links_of number) added, c.forget.ensures number, c.self.invariant number)

pub invariant_of-self-in-None : goal.invariant_of-self-in-None
invariant_of-self-in-None c number =
    let ds = c.self.inside.tables.entries in
    let found : None ≡ value_at nat_cmp c.args.number ds = sym c.in-None.is ∙ c.in_ok-before.ensures.old in
    let added : c.insert.new.self.entries ≡ with_value nat_cmp c.args.number [] ds = c.in_ok-before.ensures.entries ∙ ap (λ n. with_value nat_cmp c.args.number n ds) c.new.ensures in
    let sums = links_emptied c.args.number number ds None c.insert.ensures.was_ordered found in
    omega (arith, sums, ap (links_of number) added, c.self.invariant number)
