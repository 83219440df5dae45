use Rattle.std.proofs.Common.{◌<◌, ℕ, length, sym, ap, subst}
use Rattle.bucket_pool.proofs.Recounting.{busy_counted, few_busy, few_free, free_counted, put_counted}
use Rattle.bucket_pool.proofs.device.Device.put.Goals as goal

pub recount-requires-clause-free : goal.recount-requires-clause-free
recount-requires-clause-free c =
    let within : c.args.at < length c.self.inside.buckets.items = subst (λ (n : ℕ). c.args.at < n) (sym (ap length c.self.view_is)) c.requires in
    free_counted c.self.inside.buckets.items c.self.inside.groups.items c.args.at c.index.result.now c.index-counts.result.now c.self.invariant.by_groups within c.index.ensures c.index-counts.ensures

pub recount-requires-clause-busy : goal.recount-requires-clause-busy
recount-requires-clause-busy c =
    let within : c.args.at < length c.self.inside.buckets.items = subst (λ (n : ℕ). c.args.at < n) (sym (ap length c.self.view_is)) c.requires in
    busy_counted c.self.inside.buckets.items c.self.inside.groups.items c.args.at c.index.result.now c.index-counts.result.now c.self.invariant.by_groups within c.index.ensures c.index-counts.ensures

pub recount-requires-clause-few_free : goal.recount-requires-clause-few_free
recount-requires-clause-few_free c =
    let within : c.args.at < length c.self.inside.buckets.items = subst (λ (n : ℕ). c.args.at < n) (sym (ap length c.self.view_is)) c.requires in
    few_free c.self.inside.buckets.items c.self.inside.groups.items c.args.at c.index.result.now c.index-counts.result.now c.self.invariant.by_groups within c.index-counts.ensures

pub recount-requires-clause-few_busy : goal.recount-requires-clause-few_busy
recount-requires-clause-few_busy c =
    let within : c.args.at < length c.self.inside.buckets.items = subst (λ (n : ℕ). c.args.at < n) (sym (ap length c.self.view_is)) c.requires in
    few_busy c.self.inside.buckets.items c.self.inside.groups.items c.args.at c.index.result.now c.index-counts.result.now c.self.invariant.by_groups within c.index-counts.ensures

pub invariant_of-self : goal.invariant_of-self
invariant_of-self c =
    let within : c.args.at < length c.self.inside.buckets.items = subst (λ (n : ℕ). c.args.at < n) (sym (ap length c.self.view_is)) c.requires in
    put_counted c.self.inside.buckets.items c.self.inside.groups.items c.args.at c.index.result.now c.index-counts.result.now c.args.bucket c.recount.result c.self.inside.free c.recounted-self-inside.result
    c.is_free.result c.is_free-2.result c.self.invariant within c.index.ensures c.index-counts.ensures c.is_free.ensures c.is_free-2.ensures c.recounted-self-inside.ensures c.recount.ensures.free c.recount.ensures.busy
