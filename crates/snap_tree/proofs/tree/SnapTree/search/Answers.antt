use Rattle.std.proofs.Common.{◌≡◌, ◌+◌, ◌-◌, ◌^◌, ◌≤◌, false, sym, ap, ◌∙◌, subst, arith, inl, inr}
use Rattle.std.specs.Prelude.{◌==◌, IsSome, is_some, nat_eq}
use Rattle.std.specs.List.{list_any}
use Rattle.std.specs.Ordering.{nat_cmp}
use Rattle.std.proofs.lemmas.Nat.{pow_pos}
use Rattle.vol_types.specs.Maps.{value_at}
use Rattle.snap_tree.specs.Snaps.{Snaps, chain_of}
use Rattle.snap_tree.specs.ChainLaws.{chain_of-rises, none_in_chain}
use Rattle.snap_tree.specs.Walks.{ancestors}
use Rattle.snap_tree.specs.Places.{chain_begins}
use Rattle.snap_tree.proofs.Linking.{twice, member_leads}
use Rattle.snap_tree.proofs.Walking.{begin, follow, stay, tells, few_steps, none_below}
use Rattle.snap_tree.proofs.tree.SnapTree.search.Goals as goal
use Rattle.snap_tree.proofs.tree.SnapTree.search.Goals.{else-above-ne0-via-then-above-ne0+else-above-a, else-above-ne0-via-else-above-ne0}

pub returns-then-not-contains_key-clause-found : goal.returns-then-not-contains_key-clause-found
returns-then-not-contains_key-clause-found c =
    sym (none_in_chain c.args.self.now c.args.a c.args.b (ap (λ (s : Snaps). is_some (value_at nat_cmp c.args.b s)) (sym c.self.view_is) ∙ sym c.if-not-contains_key.ensures))

pub loop-level-init : goal.loop-level-init
loop-level-init c =
    let snaps = c.self.inside.snaps.entries in
    let there : IsSome (value_at nat_cmp c.args.b snaps) = sym c.if-not-contains_key.ensures in
    (begin (chain_of snaps c.args.b) c.args.a c.args.b 4294967296 (chain_begins snaps c.args.b there) c.if-b-a.false (c.self.invariant.linked c.args.b there).fits, omega arith)

pub returns-then-b-a-clause-found : goal.returns-then-b-a-clause-found
returns-then-b-a-clause-found c =
    let snaps = c.self.inside.snaps.entries in
    let there : IsSome (value_at nat_cmp c.args.b snaps) = sym c.if-not-contains_key.ensures in
    sym (subst (λ (s : Snaps). list_any (nat_eq c.args.a) (chain_of s c.args.b) ≡ false) c.self.view_is (none_below c.args.a c.args.b (chain_of snaps c.args.b) (chain_of-rises snaps c.args.b c.self.invariant.tree.rises) (chain_begins snaps c.args.b there) c.if-b-a.true))

pub loop-level-preserved-then-above-a : goal.loop-level-preserved-then-above-a
loop-level-preserved-then-above-a c =
    let snaps = c.self.inside.snaps.entries in
    let lower = c.loop-level.level - 1 in
    let walk = c.loop-level.invariant.0 in
    let doubled : 2 ^ c.loop-level.level ≡ 2 ^ lower + 2 ^ lower = let e : c.loop-level.level ≡ lower + 1 = omega arith in ap (λ n. 2 ^ n) e ∙ twice lower in
    let leads = c.link-above.ensures ∙ member_leads snaps c.self.inside.links.entries c.args.b walk.place c.loop-level.at lower c.self.invariant.tree.rises c.self.invariant.linked walk.within walk.here (omega arith) in
    (follow (chain_of snaps c.args.b) c.args.a c.loop-level.at (2 ^ c.loop-level.level) (2 ^ lower) c.loop-level.followed c.link-above.result (chain_of-rises snaps c.args.b c.self.invariant.tree.rises) doubled (pow_pos lower) walk leads c.if-above-ne0.true c.if-above-a.true, omega arith)

pub loop-level-preserved : goal.loop-level-preserved
loop-level-preserved c =
    let snaps = c.self.inside.snaps.entries in
    let lower = c.loop-level.level - 1 in
    let walk = c.loop-level.invariant.0 in
    let doubled : 2 ^ c.loop-level.level ≡ 2 ^ lower + 2 ^ lower = let e : c.loop-level.level ≡ lower + 1 = omega arith in ap (λ n. 2 ^ n) e ∙ twice lower in
    let leads = c.link-above.ensures ∙ member_leads snaps c.self.inside.links.entries c.args.b walk.place c.loop-level.at lower c.self.invariant.tree.rises c.self.invariant.linked walk.within walk.here (omega arith) in
    (stay (chain_of snaps c.args.b) c.args.a c.loop-level.at (2 ^ c.loop-level.level) (2 ^ lower) c.loop-level.followed c.link-above.result (chain_of-rises snaps c.args.b c.self.invariant.tree.rises) doubled (pow_pos lower) walk leads (elim c.else-above-ne0.branch [ else-above-ne0-via-then-above-ne0+else-above-a w ↦ inr w.if-above-a.false | else-above-ne0-via-else-above-ne0 w ↦ inl w.if-above-ne0.false ]), omega arith)

pub returns-then-at-a-clause-few : goal.returns-then-at-a-clause-few
returns-then-at-a-clause-few c =
    subst (λ (s : Snaps). 2 ^ c.loop-level.followed ≤ ancestors s c.args.b + 1) c.self.view_is (few_steps (chain_of c.self.inside.snaps.entries c.args.b) c.args.a c.loop-level.at (2 ^ c.loop-level.level) c.loop-level.followed (pow_pos c.loop-level.level) c.loop-level.invariant.0)

pub returns-clause-found : goal.returns-clause-found
returns-clause-found c =
    let snaps = c.self.inside.snaps.entries in
    subst (λ (s : Snaps). (c.loop-level.at == c.args.a) ≡ list_any (nat_eq c.args.a) (chain_of s c.args.b)) c.self.view_is (tells (chain_of snaps c.args.b) c.args.a c.loop-level.at (2 ^ c.loop-level.level) c.loop-level.followed (chain_of-rises snaps c.args.b c.self.invariant.tree.rises) c.loop-level.invariant.0 (inl (let bottom : c.loop-level.level ≡ 0 = omega arith in ap (λ n. 2 ^ n) bottom)))
