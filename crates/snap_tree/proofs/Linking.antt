-- How the links of an id are made of those of greater ids.
use Rattle.std.proofs.Common.{◌≡◌, ℕ, ◌+◌, ◌*◌, ◌^◌, ◌<◌, cond, [], ◌∷◌, sym, ap, ◌∙◌, subst, arith, inl, inr, length, drop, get_or}
use Rattle.std.specs.Prelude.{IsSome}
use Rattle.std.specs.Ordering.{nat_cmp}
use Rattle.std.proofs.Math.Nat.{pow-suc}
use Rattle.std.proofs.lemmas.Nat.{pow_pos}
use Rattle.std.proofs.lemmas.Bool.{ne_eqb, eq-eqb}
use Rattle.std.proofs.lemmas.Map.Keys.{below_from_sorted}
use Rattle.vol_types.specs.Maps.{IsMap, value_at}
use Rattle.snap_tree.specs.Snaps.{Snaps, chain_of, chain_above}
use Rattle.snap_tree.specs.ChainLaws.{chain_of-rises}
use Rattle.snap_tree.specs.TreeLaws.{HasParent}
use Rattle.snap_tree.specs.Links.{AllLinks, HasLinks, AllHaveLinks, link_in, link_at}
use Rattle.snap_tree.specs.Places.{chain_of_member, chain_begins, member_there, inside, leads_on}

pub twice : (k : ℕ) → 2 ^ (k + 1) ≡ 2 ^ k + 2 ^ k
twice k = let p : 2 ^ (k + 1) ≡ 2 ^ k * 2 = ap (λ n. 2 ^ n) (omega arith) ∙ pow-suc 2 k in omega (arith, p)

-- the first link leads to the parent
pub first_link : (snaps : Snaps) (id parent : ℕ) → chain_of snaps id ≡ id ∷ chain_above snaps parent → HasParent snaps id parent → get_or (chain_of snaps id) 1 0 ≡ parent
first_link snaps id parent is (inl none) = ap (λ ids. get_or ids 1 0) is ∙ ap (λ b. get_or (cond b [] (chain_of snaps parent)) 0 0) (eq-eqb parent 0 none) ∙ sym none
first_link snaps id parent is (inr up) = ap (λ ids. get_or ids 1 0) is ∙ ap (λ b. get_or (cond b [] (chain_of snaps parent)) 0 0) (ne_eqb parent 0 (λ none. omega (arith, up.0, none))) ∙ (chain_begins snaps parent up.1).1

-- a link of an id that has its links leads as far as its place says
pub link_leads : (snaps : Snaps) (links : AllLinks) (id level : ℕ) → level < 32 → HasLinks snaps links id → link_in (value_at nat_cmp id links) level ≡ get_or (chain_of snaps id) (2 ^ level) 0
link_leads snaps links id level lt has = ap (λ o. link_in o level) has.found ∙ has.lead level lt

-- each further link is that of where the one before leads to
pub next_link : (snaps : Snaps) (links : AllLinks) (id level half double : ℕ) → IsMap nat_cmp snaps → ((other : ℕ) → id < other → IsSome (value_at nat_cmp other snaps) → HasLinks snaps links other) → IsSome (value_at nat_cmp id snaps) → level < 32
    → half ≡ get_or (chain_of snaps id) (2 ^ level) 0 → double ≡ link_at links half level → double ≡ get_or (chain_of snaps id) (2 ^ level + 2 ^ level) 0
next_link snaps links id level half double rises above there lt is leads = leads_on snaps id (2 ^ level) half double rises (pow_pos level) is none one
  where
    none : half ≡ 0 → double ≡ 0
    none nil = leads ∙ ap (λ b. cond b 0 (link_in (value_at nat_cmp half links) level)) (eq-eqb half 0 nil)

    one : (half ≡ 0 → ⊥) → double ≡ get_or (chain_of snaps half) (2 ^ level) 0
    one some =
        let within : 2 ^ level < length (chain_of snaps id) = inside (chain_of snaps id) (2 ^ level) (λ nil. some (is ∙ nil)) in
        let up : get_or (chain_of snaps id) 0 0 < get_or (chain_of snaps id) (2 ^ level) 0 = below_from_sorted (chain_of snaps id) 0 (2 ^ level) 0 (chain_of-rises snaps id rises) (pow_pos level) within in
        let first : get_or (chain_of snaps id) 0 0 ≡ id = (chain_begins snaps id there).1 in
        leads ∙ ap (λ b. cond b 0 (link_in (value_at nat_cmp half links) level)) (ne_eqb half 0 some) ∙ link_leads snaps links half level lt (above half (omega (arith, up, first, is)) (subst (λ n. IsSome (value_at nat_cmp n snaps)) (sym is) (member_there snaps id (2 ^ level) rises within)))

-- a link of a member of a chain leads further up the chain
pub member_leads : (snaps : Snaps) (links : AllLinks) (id place at level : ℕ) → IsMap nat_cmp snaps → AllHaveLinks snaps links → place < length (chain_of snaps id) → get_or (chain_of snaps id) place 0 ≡ at → level < 32 → link_in (value_at nat_cmp at links) level ≡ get_or (drop place (chain_of snaps id)) (2 ^ level) 0
member_leads snaps links id place at level rises linked within here lt =
    let has : HasLinks snaps links at = linked at (subst (λ n. IsSome (value_at nat_cmp n snaps)) here (member_there snaps id place rises within)) in
    let same : chain_of snaps at ≡ drop place (chain_of snaps id) = ap (chain_of snaps) (sym here) ∙ chain_of_member snaps id place rises within in
    link_leads snaps links at level lt has ∙ ap (λ ids. get_or ids (2 ^ level) 0) same
