use Rattle.std.proofs.Common.{◌≡◌, ℕ, None, length, slice_set, refl, subst, sym, ◌∙◌, rules}
use Rattle.std.proofs.lemmas.List.{length-set}
use Rattle.lock_table.specs.Tables.{Table}
use Rattle.lock_table.specs.Calls.{Drops}
use Rattle.lock_table.specs.Holdings.{IsKept}
use Rattle.lock_table.specs.Nodes.{EachInUse}
use Rattle.lock_table.proofs.Answered.{drops_at}
use Rattle.lock_table.proofs.Sound.{sound_dropped}
use Rattle.lock_table.proofs.table.LockTable.drop_all.Goals as goal

pub invariant_of-self : goal.invariant_of-self
invariant_of-self c =
    let inside = c.self.inside in
    let old : Table = record { nodes = inside.nodes.entries; waits = inside.waits.items; sequence = inside.sequence } in
    let new : Table = record { nodes = c.release_kept.new.nodes.entries; waits = slice_set old.waits c.args.actor None; sequence = c.release_kept.new.sequence } in
    let counted : c.len-count.result ≡ length inside.waits.items = search rules in
    let kept = c.release_kept.ensures.kept in
    let was = subst (λ (n : ℕ). EachInUse n inside.nodes.entries) (sym counted) c.self.invariant.kept.in_use in
    record {
      kept = subst (IsKept c.release_kept.new.nodes.entries c.release_kept.new.holdings.items) (counted ∙ sym (length-set inside.waits.items c.args.actor None)) kept;
      sound = sound_dropped old new c.args.actor c.self.invariant.sound (drops_at old new c.len-count.result c.args.actor was kept.in_use refl c.release_kept.ensures.releases);
    }

pub returns : goal.returns
returns c =
    let inside = c.self.inside in
    let old : Table = record { nodes = inside.nodes.entries; waits = inside.waits.items; sequence = inside.sequence } in
    let new : Table = record { nodes = c.release_kept.new.nodes.entries; waits = slice_set old.waits c.args.actor None; sequence = c.release_kept.new.sequence } in
    let counted : c.len-count.result ≡ length inside.waits.items = search rules in
    let was = subst (λ (n : ℕ). EachInUse n inside.nodes.entries) (sym counted) c.self.invariant.kept.in_use in
    subst (λ (t : Table). Drops t c.args.actor new) c.self.view_is
    (drops_at old new c.len-count.result c.args.actor was c.release_kept.ensures.kept.in_use refl c.release_kept.ensures.releases)
