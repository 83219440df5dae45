-- What a node is after each key of a list was put or taken away in turn.
use Rattle.std.proofs.Common.{◌≡◌, List, [], ◌∷◌, sym, ap, subst, ◌∙◌}
use Rattle.std.specs.Prelude.{All}
use Rattle.std.proofs.lemmas.List.Elements.{All-head, All-tail}
use Rattle.vol_types.specs.Maps.{put_at}
use Rattle.vol_types.specs.Positions.{pos_cmp, IsWithin}
use Rattle.vol_types.specs.Ranges.{IsKeyValue}
use Rattle.vol_types.specs.declared.keys.Key.{Key}
use Rattle.node_mem.specs.Nodes.{Node, with_keys}

-- The node became another one by some of the keys, and the rest may still be put.
pub record IsMerging (node : Node) (keys : List Key) (now : Node) (rest : List Key) : Type 0 where
  pub merged : with_keys rest now.entries ≡ with_keys keys node.entries
  pub least : now.least ≡ node.least
  pub greatest : now.greatest ≡ node.greatest
  pub covered : All (λ key. IsWithin node.least node.greatest key.pos) rest
  pub in_range : All (λ key. IsKeyValue key.value) rest

module _ (node : Node) (keys : List Key) (now new : Node) (key : Key) (rest left : List Key) (merging : IsMerging node keys now rest) (next : rest ≡ key ∷ left) where
  -- the next key is covered
  pub next_covered : IsWithin now.least now.greatest key.pos
  next_covered =
      let covered = All-head (λ key. IsWithin node.least node.greatest key.pos) key left (subst (All (λ key. IsWithin node.least node.greatest key.pos)) next merging.covered) in
      subst (λ p. IsWithin p now.greatest key.pos) (sym merging.least) (subst (λ p. IsWithin node.least p key.pos) (sym merging.greatest) covered)

  -- and its value is in range
  pub next_in_range : IsKeyValue key.value
  next_in_range = All-head (λ key. IsKeyValue key.value) key left (subst (All (λ key. IsKeyValue key.value)) next merging.in_range)

  -- once it was put, the others are left
  pub merging_more : new ≡ record { least = now.least; greatest = now.greatest; entries = put_at pos_cmp key.pos key.value now.entries } → IsMerging node keys new left
  merging_more put = record {
    merged = ap (λ (n : Node). with_keys left n.entries) put ∙ ap (λ ks. with_keys ks now.entries) (sym next) ∙ merging.merged;
    least = ap (λ (n : Node). n.least) put ∙ merging.least;
    greatest = ap (λ (n : Node). n.greatest) put ∙ merging.greatest;
    covered = All-tail (λ key. IsWithin node.least node.greatest key.pos) key left (subst (All (λ key. IsWithin node.least node.greatest key.pos)) next merging.covered);
    in_range = All-tail (λ key. IsKeyValue key.value) key left (subst (All (λ key. IsKeyValue key.value)) next merging.in_range);
  }

-- with no key left, all are put
pub merging_all : (node : Node) (keys : List Key) (now : Node) (rest : List Key) → IsMerging node keys now rest → rest ≡ [] → now ≡ record { least = node.least; greatest = node.greatest; entries = with_keys keys node.entries }
merging_all node keys now rest merging none = λ i. record {
  least = merging.least i;
  greatest = merging.greatest i;
  entries = (ap (λ ks. with_keys ks now.entries) (sym none) ∙ merging.merged) i;
}
