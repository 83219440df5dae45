use Rattle.std.proofs.Common.{◌≡◌, ◌<◌, ◌^◌, length, subst, sym, ap, ◌∙◌, arith}
use Rattle.std.proofs.lemmas.List.{length-replicate}
use Rattle.lock_table.specs.Tables.{Table, IsSound}
use Rattle.lock_table.specs.Holdings.{IsKept}
use Rattle.lock_table.specs.Runs.{fresh}
use Rattle.lock_table.proofs.Kept.{kept_fresh}
use Rattle.lock_table.proofs.Sound.{sound_fresh}
use Rattle.lock_table.proofs.table.LockTable.new.Goals as goal

pub invariant_of-result : goal.invariant_of-result
invariant_of-result c =
    let few : c.args.count < 2 ^ 8 = omega arith in
    let table : Table = record { nodes = c.new.result.entries; waits = c.in_ok-no_waits.field-0.items; sequence = 0 } in
    let is_fresh : table ≡ fresh c.args.count = λ i. record { nodes = c.new.ensures.empty i; waits = c.in_ok-no_waits.ensures i; sequence = 0 } in
    record {
      kept = subst (IsKept c.new.result.entries c.in_ok-no_holdings.field-0.items) (sym (ap length c.in_ok-no_waits.ensures ∙ length-replicate c.args.count _))
          (kept_fresh c.new.result.entries c.in_ok-no_holdings.field-0.items c.args.count c.new.ensures.empty few c.in_ok-no_holdings.ensures.count c.in_ok-no_holdings.ensures.free);
      sound = subst IsSound (sym is_fresh) (sound_fresh c.args.count);
    }
