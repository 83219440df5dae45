use Rattle.std.proofs.Common.{sym, ap, subst, ◌∙◌, arith}
use Rattle.std.specs.Prelude.{is_some}
use Rattle.std.specs.BTreeMap.{is_at}
use Rattle.std.specs.Map.{keys_of}
use Rattle.std.specs.Set.{remove_key}
use Rattle.std.proofs.lemmas.Bool.{false≢true}
use Rattle.tree_keys.specs.Cuts.{Cut, is_end}
use Rattle.tree_keys.specs.LeafLaws.{is_end-keys}
use Rattle.tree_keys.proofs.Joining.{are_left, both-fit, head-le, joined_ends, kept-joined}
use Rattle.vol_types.specs.Positions.{IsBefore, greatest_pos, pos_cmp}
use Rattle.tree_keys.proofs.TreeKeys.join.Goals as goal

pub unreachable-requires : goal.unreachable-requires
unreachable-requires c =
    false≢true (ap is_some (sym c.in_default.is ∙ c.remove.ensures.value) ∙ sym (is_end-keys c.wide-at.result c.self.inside.leaves.entries)
    ∙ ap (λ p. is_end p (keys_of c.self.inside.leaves.entries)) c.wide-at.ensures.same ∙ ap (λ (k : Cut). is_end c.args.at.now k.ends) c.self.view_is ∙ c.requires.end)

pub leaf_at-bytes-requires : goal.leaf_at-bytes-requires
leaf_at-bytes-requires c =
    are_left c.self.inside.keys.entries c.self.inside.leaves.entries c.self.invariant c.wide-at.result (ap (λ p. is_end p (keys_of c.self.inside.leaves.entries)) c.wide-at.ensures.same ∙ ap (λ (k : Cut). is_end c.args.at.now k.ends) c.self.view_is ∙ c.requires.end)
    (subst (λ p. IsBefore p greatest_pos) (sym c.wide-at.ensures.same) c.requires.inner) c.in-Some.first (sym c.in-Some.ensures.value) c.remove.new.self.entries c.in-Some.ensures.entries

pub overflow_add-bytes : goal.overflow_add-bytes
overflow_add-bytes c =
    omega (
      arith,
      both-fit c.self.inside.keys.entries c.self.inside.leaves.entries c.self.invariant c.wide-at.result (ap (λ p. is_end p (keys_of c.self.inside.leaves.entries)) c.wide-at.ensures.same ∙ ap (λ (k : Cut). is_end c.args.at.now k.ends) c.self.view_is ∙ c.requires.end)
          (subst (λ p. IsBefore p greatest_pos) (sym c.wide-at.ensures.same) c.requires.inner) c.in-Some.first (sym c.in-Some.ensures.value) c.remove.new.self.entries c.in-Some.ensures.entries
          c.leaf_at-bytes.result.0 c.leaf_at-bytes.result.1 c.leaf_at-bytes.ensures.bytes c.leaf_at-bytes.ensures.end (omega (arith, c.len-count.ensures.small, c.len-count.ensures.len)),
    )

pub overflow_sub-bytes : goal.overflow_sub-bytes
overflow_sub-bytes c =
    head-le c.self.inside.keys.entries c.self.inside.leaves.entries c.self.invariant c.wide-at.result (ap (λ p. is_end p (keys_of c.self.inside.leaves.entries)) c.wide-at.ensures.same ∙ ap (λ (k : Cut). is_end c.args.at.now k.ends) c.self.view_is ∙ c.requires.end)
    (subst (λ p. IsBefore p greatest_pos) (sym c.wide-at.ensures.same) c.requires.inner) c.in-Some.first (sym c.in-Some.ensures.value) c.remove.new.self.entries c.in-Some.ensures.entries
    c.leaf_at-bytes.result.0 c.leaf_at-bytes.result.1 c.leaf_at-bytes.ensures.bytes c.leaf_at-bytes.ensures.end

pub invariant_of-self : goal.invariant_of-self
invariant_of-self c =
    kept-joined c.self.inside.keys.entries c.self.inside.leaves.entries c.self.invariant c.wide-at.result (ap (λ p. is_end p (keys_of c.self.inside.leaves.entries)) c.wide-at.ensures.same ∙ ap (λ (k : Cut). is_end c.args.at.now k.ends) c.self.view_is ∙ c.requires.end)
    (subst (λ p. IsBefore p greatest_pos) (sym c.wide-at.ensures.same) c.requires.inner) c.in-Some.first (sym c.in-Some.ensures.value) c.remove.new.self.entries c.in-Some.ensures.entries
    c.leaf_at-bytes.result.0 c.leaf_at-bytes.result.1 c.leaf_at-bytes.ensures.bytes c.leaf_at-bytes.ensures.end c.set_bytes.new.leaves.entries c.set_bytes.ensures.bytes c.set_bytes.ensures.ends

pub returns : goal.returns
returns c =
    let ends =
    joined_ends c.self.inside.keys.entries c.self.inside.leaves.entries c.self.invariant c.wide-at.result (ap (λ p. is_end p (keys_of c.self.inside.leaves.entries)) c.wide-at.ensures.same ∙ ap (λ (k : Cut). is_end c.args.at.now k.ends) c.self.view_is ∙ c.requires.end)
    (subst (λ p. IsBefore p greatest_pos) (sym c.wide-at.ensures.same) c.requires.inner) c.in-Some.first (sym c.in-Some.ensures.value) c.remove.new.self.entries c.in-Some.ensures.entries
    c.leaf_at-bytes.result.0 c.leaf_at-bytes.result.1 c.leaf_at-bytes.ensures.bytes c.leaf_at-bytes.ensures.end c.set_bytes.new.leaves.entries c.set_bytes.ensures.bytes c.set_bytes.ensures.ends in
    λ i. record {
      entries = (ap (λ (k : Cut). k.entries) c.self.view_is) i;
      ends = (ends ∙ ap (λ p. remove_key (is_at (pos_cmp p)) (keys_of c.self.inside.leaves.entries)) c.wide-at.ensures.same ∙ ap (λ (k : Cut). remove_key (is_at (pos_cmp c.args.at.now)) k.ends) c.self.view_is) i;
    }
