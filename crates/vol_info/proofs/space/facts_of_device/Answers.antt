use Rattle.std.proofs.Common.{◌/◌, ◌∙◌, [], get_or, ap, sym}
use Rattle.vol_info.proofs.UsedBuckets.{buckets_are, facts_made}
use Rattle.vol_info.proofs.space.facts_of_device.Goals as goal

pub used_on-requires-clause-all : goal.used_on-requires-clause-all
used_on-requires-clause-all c =
    buckets_are c.args.layout.now.blocks c.args.pool.now c.requires.fixed.sizes c.args.dev c.requires.there
    ∙ ap (λ dev. get_or c.args.layout.now.blocks dev 0 / 16) (sym c.from.ensures) ∙ ap (λ blocks. get_or blocks c.from.result 0 / 16) (sym c.as_slice.ensures)

pub returns : goal.returns
returns c =
    facts_made c.args.dev (get_or c.args.pool.now c.args.dev []) c.from-2.result c.from-3.result c.from-4.result c.from-5.result
    c.from-2.ensures
    (c.from-3.ensures ∙ ap (λ blocks. get_or blocks c.from.result 0 / 16) c.as_slice.ensures ∙ ap (λ dev. get_or c.args.layout.now.blocks dev 0 / 16) c.from.ensures
    ∙ sym (buckets_are c.args.layout.now.blocks c.args.pool.now c.requires.fixed.sizes c.args.dev c.requires.there))
    (c.from-4.ensures ∙ c.free.ensures)
    (c.from-5.ensures ∙ c.used_on.ensures)
