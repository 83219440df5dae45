use Rattle.std.proofs.Common.{sym, ap, subst, ◌∙◌, arith}
use Rattle.std.specs.BTreeSet.{insert_key}
use Rattle.std.specs.Map.{keys_of}
use Rattle.tree_keys.specs.Cuts.{Cut, is_end, start_of}
use Rattle.tree_keys.proofs.Cutting.{first-fits, first-le, kept-cut, new_ends, part_few, part_in_range, still_counted}
use Rattle.vol_types.specs.KeyMaps.{entries_within}
use Rattle.vol_types.specs.Positions.{pos_cmp}
use Rattle.vol_types.specs.Widths.{PosFits}
use Rattle.tree_keys.proofs.TreeKeys.cut.Goals as goal

pub total-first-requires-clause-few : goal.total-first-requires-clause-few
total-first-requires-clause-few c =
    omega (
      arith,
      c.len-count.ensures.small,
      c.len-count.ensures.len,
      part_few c.self.inside.keys.entries c.self.inside.leaves.entries c.self.invariant c.wide-at.result (subst PosFits (sym c.wide-at.ensures.same) c.wide-at.ensures.fits)
          (ap (λ p. is_end p (keys_of c.self.inside.leaves.entries)) c.wide-at.ensures.same ∙ ap (λ (k : Cut). is_end c.args.at.now k.ends) c.self.view_is ∙ c.requires)
          c.leaf_at-bytes.result.0 c.leaf_at-bytes.result.1 c.leaf_at-bytes.ensures.bytes c.leaf_at-bytes.ensures.end c.range.result
          (c.range.ensures ∙ ap (λ s. entries_within s c.wide-at.result c.args.self.now.entries) c.start_of.ensures ∙ ap (λ (k : Cut). entries_within (start_of c.leaf_at-bytes.result.0 k.ends) c.wide-at.result k.entries) (sym c.self.view_is)),
    )

pub total-first-requires-clause-in_range : goal.total-first-requires-clause-in_range
total-first-requires-clause-in_range c =
    part_in_range c.self.inside.keys.entries c.self.inside.leaves.entries c.self.invariant c.wide-at.result (subst PosFits (sym c.wide-at.ensures.same) c.wide-at.ensures.fits)
    (ap (λ p. is_end p (keys_of c.self.inside.leaves.entries)) c.wide-at.ensures.same ∙ ap (λ (k : Cut). is_end c.args.at.now k.ends) c.self.view_is ∙ c.requires)
    c.leaf_at-bytes.result.0 c.leaf_at-bytes.result.1 c.leaf_at-bytes.ensures.bytes c.leaf_at-bytes.ensures.end c.range.result
    (c.range.ensures ∙ ap (λ s. entries_within s c.wide-at.result c.args.self.now.entries) c.start_of.ensures ∙ ap (λ (k : Cut). entries_within (start_of c.leaf_at-bytes.result.0 k.ends) c.wide-at.result k.entries) (sym c.self.view_is))

pub overflow_add-first : goal.overflow_add-first
overflow_add-first c =
    omega (
      arith,
      first-fits c.self.inside.keys.entries c.self.inside.leaves.entries c.self.invariant c.wide-at.result (subst PosFits (sym c.wide-at.ensures.same) c.wide-at.ensures.fits)
          (ap (λ p. is_end p (keys_of c.self.inside.leaves.entries)) c.wide-at.ensures.same ∙ ap (λ (k : Cut). is_end c.args.at.now k.ends) c.self.view_is ∙ c.requires)
          c.leaf_at-bytes.result.0 c.leaf_at-bytes.result.1 c.leaf_at-bytes.ensures.bytes c.leaf_at-bytes.ensures.end c.range.result
          (c.range.ensures ∙ ap (λ s. entries_within s c.wide-at.result c.args.self.now.entries) c.start_of.ensures ∙ ap (λ (k : Cut). entries_within (start_of c.leaf_at-bytes.result.0 k.ends) c.wide-at.result k.entries) (sym c.self.view_is)) c.total-first.result c.total-first.ensures (omega (arith, c.len-count.ensures.small, c.len-count.ensures.len)),
    )

pub overflow_sub-bytes : goal.overflow_sub-bytes
overflow_sub-bytes c =
    first-le c.self.inside.keys.entries c.self.inside.leaves.entries c.self.invariant c.wide-at.result (subst PosFits (sym c.wide-at.ensures.same) c.wide-at.ensures.fits)
    (ap (λ p. is_end p (keys_of c.self.inside.leaves.entries)) c.wide-at.ensures.same ∙ ap (λ (k : Cut). is_end c.args.at.now k.ends) c.self.view_is ∙ c.requires)
    c.leaf_at-bytes.result.0 c.leaf_at-bytes.result.1 c.leaf_at-bytes.ensures.bytes c.leaf_at-bytes.ensures.end c.range.result
    (c.range.ensures ∙ ap (λ s. entries_within s c.wide-at.result c.args.self.now.entries) c.start_of.ensures ∙ ap (λ (k : Cut). entries_within (start_of c.leaf_at-bytes.result.0 k.ends) c.wide-at.result k.entries) (sym c.self.view_is)) c.total-first.result c.total-first.ensures

pub set_bytes-requires : goal.set_bytes-requires
set_bytes-requires c =
    still_counted c.self.inside.keys.entries c.self.inside.leaves.entries c.self.invariant c.wide-at.result (subst PosFits (sym c.wide-at.ensures.same) c.wide-at.ensures.fits)
    (ap (λ p. is_end p (keys_of c.self.inside.leaves.entries)) c.wide-at.ensures.same ∙ ap (λ (k : Cut). is_end c.args.at.now k.ends) c.self.view_is ∙ c.requires)
    c.leaf_at-bytes.result.0 c.leaf_at-bytes.result.1 c.leaf_at-bytes.ensures.bytes c.leaf_at-bytes.ensures.end c.range.result
    (c.range.ensures ∙ ap (λ s. entries_within s c.wide-at.result c.args.self.now.entries) c.start_of.ensures ∙ ap (λ (k : Cut). entries_within (start_of c.leaf_at-bytes.result.0 k.ends) c.wide-at.result k.entries) (sym c.self.view_is)) c.total-first.result c.total-first.ensures c.insert.new.self.entries c.in_ok-insert.ensures.entries

pub invariant_of-self-2 : goal.invariant_of-self-2
invariant_of-self-2 c =
    kept-cut c.self.inside.keys.entries c.self.inside.leaves.entries c.self.invariant c.wide-at.result (subst PosFits (sym c.wide-at.ensures.same) c.wide-at.ensures.fits)
    (ap (λ p. is_end p (keys_of c.self.inside.leaves.entries)) c.wide-at.ensures.same ∙ ap (λ (k : Cut). is_end c.args.at.now k.ends) c.self.view_is ∙ c.requires)
    c.leaf_at-bytes.result.0 c.leaf_at-bytes.result.1 c.leaf_at-bytes.ensures.bytes c.leaf_at-bytes.ensures.end c.range.result
    (c.range.ensures ∙ ap (λ s. entries_within s c.wide-at.result c.args.self.now.entries) c.start_of.ensures ∙ ap (λ (k : Cut). entries_within (start_of c.leaf_at-bytes.result.0 k.ends) c.wide-at.result k.entries) (sym c.self.view_is)) c.total-first.result c.total-first.ensures c.insert.new.self.entries c.in_ok-insert.ensures.entries
    c.set_bytes.new.leaves.entries c.set_bytes.ensures.bytes c.set_bytes.ensures.ends

pub returns-clause-ok : goal.returns-clause-ok
returns-clause-ok c =
    let ends =
    new_ends c.self.inside.keys.entries c.self.inside.leaves.entries c.self.invariant c.wide-at.result (subst PosFits (sym c.wide-at.ensures.same) c.wide-at.ensures.fits)
    (ap (λ p. is_end p (keys_of c.self.inside.leaves.entries)) c.wide-at.ensures.same ∙ ap (λ (k : Cut). is_end c.args.at.now k.ends) c.self.view_is ∙ c.requires)
    c.leaf_at-bytes.result.0 c.leaf_at-bytes.result.1 c.leaf_at-bytes.ensures.bytes c.leaf_at-bytes.ensures.end c.range.result
    (c.range.ensures ∙ ap (λ s. entries_within s c.wide-at.result c.args.self.now.entries) c.start_of.ensures ∙ ap (λ (k : Cut). entries_within (start_of c.leaf_at-bytes.result.0 k.ends) c.wide-at.result k.entries) (sym c.self.view_is)) c.total-first.result c.total-first.ensures c.insert.new.self.entries c.in_ok-insert.ensures.entries
    c.set_bytes.new.leaves.entries c.set_bytes.ensures.bytes c.set_bytes.ensures.ends in
    λ i. record {
      entries = (ap (λ (k : Cut). k.entries) c.self.view_is) i;
      ends = (ends ∙ ap (insert_key pos_cmp (keys_of c.self.inside.leaves.entries)) c.wide-at.ensures.same ∙ ap (λ (k : Cut). insert_key pos_cmp k.ends c.args.at.now) c.self.view_is) i;
    }
