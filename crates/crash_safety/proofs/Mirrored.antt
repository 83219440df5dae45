-- The places of a node that stands on every metadata device: the one with number n is on device n.
use Rattle.std.proofs.Common.{◌≡◌, ℕ, ◌+◌, ◌<◌, List, length, get_or, sym, ap, ◌∙◌, arith}
use Rattle.std.proofs.lemmas.List.{get_or-map, get_or_default, length-map}
use Rattle.std.proofs.lemmas.List.FromFn.{get_or-range_with_len, length-range_with_len}
use Rattle.std.specs.Prelude.{Contains}
use Rattle.image_view.specs.Found.{IsMirrored}
use Rattle.vol_types.specs.declared.layout.Layout.{Layout}
use Rattle.vol_types.specs.declared.pointers.NodePtr.{NodePtr}
use Rattle.vol_types.specs.declared.pointers.Place.{Place}

module _ (layout : Layout) (node : NodePtr) (mirrored : IsMirrored layout node) where
  as_many : length node.places ≡ layout.metadata_replicas
  as_many = sym (length-map {B = ℕ} node.places (λ (place : Place). place.dev)) ∙ ap (λ (ds : List ℕ). length ds) mirrored ∙ length-range_with_len 0 layout.metadata_replicas

  at_number : (j : ℕ) (e : Place) → j < length node.places → (get_or node.places j e).dev ≡ 0 + j
  at_number j e low =
      let count = as_many in
      sym (get_or-map (λ (place : Place). place.dev) node.places j e 0 low) ∙ ap (λ (ds : List ℕ). get_or ds j 0) mirrored ∙ get_or-range_with_len 0 layout.metadata_replicas j 0 (omega (arith, low, count))

  -- Each place is on a metadata device.
  pub on_mirrors : (j : ℕ) (e : Place) → j < length node.places → (get_or node.places j e).dev < layout.metadata_replicas
  on_mirrors j e low = let count = as_many in let at = at_number j e low in omega (arith, at, low, count)

  -- Places on one device are one.
  pub same_place : (one other : Place) → Contains node.places one → Contains node.places other → one.dev ≡ other.dev → one ≡ other
  same_place one other here there same =
      let first : one.dev ≡ 0 + here.0 = ap (λ (p : Place). p.dev) (sym here.2) ∙ at_number here.0 one here.1 in
      let second : other.dev ≡ 0 + there.0 = ap (λ (p : Place). p.dev) (sym there.2) ∙ at_number there.0 other there.1 in
      let number : here.0 ≡ there.0 = omega (arith, first, second, same) in
      sym here.2 ∙ get_or_default node.places here.0 one other here.1 ∙ ap (λ j. get_or node.places j other) number ∙ there.2
