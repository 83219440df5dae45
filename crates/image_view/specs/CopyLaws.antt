-- Laws on the copies of a node: they are one where its places hold the same, and agree where they are one; and they stay what they are where
-- the buckets do.
use Rattle.std.proofs.Common.{◌≡◌, ℕ, zero, suc, ◌+◌, ◌<◌, ◌≤◌, List, [], ◌∷◌, ◌++◌, Option, refl, sym, ap, subst, ◌∙◌, arith}
use Rattle.std.proofs.lemmas.List.Elements.{All-cons, All-contains, All-contains_itself, All-head, All-map, All-nil, All-tail, All-weaker}
use Rattle.std.proofs.lemmas.Option.{same_Some}
use Rattle.std.specs.Prelude.{All, Contains, option_and_then}
use Rattle.dev_model.specs.Disk.{Image, block_at}
use Rattle.node_store.specs.Answers.{AgreeOn, AreAlike}
use Rattle.node_store.specs.Copies.{block_in, copies_at, copy_at, shown_at, shown_below, shown_in}
use Rattle.node_store.specs.declared.opening.OpenBlock.{OpenBlock}
use Rattle.vol_types.specs.Limits.{bucket_blocks}
use Rattle.vol_types.specs.declared.pointers.NodePtr.{NodePtr}
use Rattle.vol_types.specs.declared.pointers.Place.{Place}
use Rattle.image_view.specs.BaseLaws.{copies-same}
use Rattle.image_view.specs.Bases.{AgreeOnNode}
use Rattle.image_view.specs.Found.{PlacesAgree}
use Rattle.image_view.specs.NewNodes.{HoldSame}

-- Buckets that hold the same, in an image or in two, show the same.
below_same : (image after : Image) (one other : Place) (count : ℕ) → count ≤ bucket_blocks → ((n : ℕ) → n < bucket_blocks → block_at image one.dev (one.block + n) ≡ block_at after other.dev (other.block + n))
    → shown_below (block_at image) one count ≡ shown_below (block_at after) other count
below_same image after one other zero few same = refl
below_same image after one other (suc n) few same =
    ap (λ shown. shown ++ shown_at (block_at image) one n ∷ []) (below_same image after one other n (omega (arith, few)) same)
    ∙ ap (λ bytes. shown_below (block_at after) other n ++ option_and_then shown_in bytes ∷ []) (same n (omega (arith, few)))

copy_same : (image : Image) (one other : Place) → ((n : ℕ) → n < bucket_blocks → block_at image one.dev (one.block + n) ≡ block_at image other.dev (other.block + n)) → copy_at (block_at image) one ≡ copy_at (block_at image) other
unfolding copy_at
copy_same image one other same = below_same image image one other bucket_blocks (omega arith) same

-- The copies of a node whose places hold the same are one.
pub copies_same : (image : Image) (places : List Place)
    → ((one other : Place) → Contains places one → Contains places other → (n : ℕ) → n < bucket_blocks → block_at image one.dev (one.block + n) ≡ block_at image other.dev (other.block + n))
    → (one other : List (Option OpenBlock)) → Contains (copies_at (block_at image) places) one → Contains (copies_at (block_at image) places) other → one ≡ other
copies_same image places same one other is_one is_other = All-contains (λ copy. copy ≡ other) (copies_at (block_at image) places) one
    (All-map (λ copy. copy ≡ other) (copy_at (block_at image)) places (All-weaker (Contains places) (λ (p : Place). copy_at (block_at image) p ≡ other)
    (λ p there. All-contains (λ copy. copy_at (block_at image) p ≡ copy) (copies_at (block_at image) places) other
    (All-map (λ copy. copy_at (block_at image) p ≡ copy) (copy_at (block_at image)) places
    (All-weaker (Contains places) (λ (q : Place). copy_at (block_at image) p ≡ copy_at (block_at image) q) (λ q here. copy_same image p q (same p q there here)) places (All-contains_itself places)))
    is_other) places (All-contains_itself places)))
    is_one

-- So they are alike,
pub copies_alike : (image : Image) (node : NodePtr) → HoldSame image node → (end : ℕ) → AreAlike end (copies_at (block_at image) node.places)
copies_alike image node same end one other is_one is_other n lower = ap (λ copy. block_in copy n) (copies_same image node.places same one other is_one is_other)

-- and its places agree on it.
pub copies_agree : (id : List ℕ) (image : Image) (node : NodePtr) → HoldSame image node → PlacesAgree id image node
copies_agree id image node same n one other is_one is_other x y one_is other_is of_x of_y =
    same_Some x y (sym one_is ∙ ap (λ copy. block_in copy n) (copies_same image node.places same one other is_one is_other) ∙ other_is)

-- The places of nodes whose buckets are the same agree on them where they did.
pub agree-same : (id : List ℕ) (one other : Image) (nodes : List NodePtr) → All (AgreeOnNode one other) nodes → All (PlacesAgree id one) nodes → All (PlacesAgree id other) nodes
agree-same id one other [] same agree = All-nil (PlacesAgree id other)
agree-same id one other (node ∷ nodes) same agree = All-cons (PlacesAgree id other) node nodes
    (subst (AgreeOn id node.birth) (sym (copies-same one other node.places (All-head (AgreeOnNode one other) node nodes same))) (All-head (PlacesAgree id one) node nodes agree))
    (agree-same id one other nodes (All-tail (AgreeOnNode one other) node nodes same) (All-tail (PlacesAgree id one) node nodes agree))
