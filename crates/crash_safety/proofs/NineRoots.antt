-- Nine roots, each with its btree.
use Rattle.std.proofs.Common.{◌≡◌, ℕ, zero, suc, ◌+◌, ◌<◌, List, [], ◌∷◌, ◌++◌, length, map, get_or, Some, refl, ap, subst, ◌∙◌, arith}
use Rattle.std.proofs.lemmas.List.{get_or-append-add, get_or-map, get_or_append_left, length-append, length-map}
use Rattle.std.proofs.lemmas.Option.{get_or_from_slice_get, none-some, slice_get-get_or, slice_get_within}
use Rattle.std.specs.List.{AllByRecursion, flat_map}
use Rattle.std.specs.Prelude.{All, Contains, option_map, slice_get}
use Rattle.image_view.specs.Trees.{nodes_of, with_roots}
use Rattle.vol_types.specs.Btrees.{btree_code}
use Rattle.vol_types.specs.declared.pointers.NodePtr.{NodePtr}
use Rattle.vol_types.specs.declared.pointers.Place.{Place}
use Rattle.vol_types.specs.declared.positions.Btree.{Btree}
use Rattle.vol_types.specs.declared.positions.Btree.TheVariants.{Extents, Inodes, Dirents, Subvols, Snapshots, Alloc, Backptrs, Deleted, Counters}
use Rattle.crash_safety.specs.Leaves.{leaf_nodes}

-- ---- members of lists

-- What holds of each member holds of the one at a place.
pub all_at : {X : Type 0} (P : X → Type 0) (xs : List X) → All P xs → (k : ℕ) (x : X) → slice_get xs k ≡ Some x → P x
all_at P xs all k x at = subst P (get_or_from_slice_get xs k x x at) (all k x (slice_get_within xs k x at))

-- The one at a place is a member.
pub contained_at : {X : Type 0} (xs : List X) (k : ℕ) (x : X) → slice_get xs k ≡ Some x → Contains xs x
contained_at xs k x at = (k, slice_get_within xs k x at, get_or_from_slice_get xs k x x at)

-- What is one of what is made of all is made of a member.
pub made_of_one : {X Y : Type 0} (f : X → Y) (xs : List X) (y : Y) → Contains (map f xs) y → (x : X) × Contains xs x × (f x ≡ y)
made_of_one f [] y there = absurd (let low = there.1 in omega (arith, low))
made_of_one f (x ∷ xs) y (zero, within, at) = (x, (0, omega arith, refl), at)
made_of_one f (x ∷ xs) y (suc k, within, at) =
    let rest = made_of_one f xs y (k, (let lower : k < length (map f xs) = omega (arith, within) in lower), at) in
    (rest.0, (suc rest.1.0, (let lower = rest.1.1 in omega (arith, lower)), rest.1.2), rest.2)

-- What is made of a member is one of what is made of all.
pub contained_map : {X Y : Type 0} (f : X → Y) (xs : List X) (x : X) → Contains xs x → Contains (map f xs) (f x)
contained_map f xs x there = (
  there.0,
  let low = there.1 in let same : length (map f xs) ≡ length xs = length-map xs f in omega (arith, low, same),
  get_or-map f xs there.0 x (f x) there.1 ∙ ap f there.2,
)

-- Of joined lists each has what all have.
pub all_left : {X : Type 0} (P : X → Type 0) (xs ys : List X) → All P (xs ++ ys) → All P xs
all_left P xs ys all k d lt = subst P (get_or_append_left xs ys d k lt) (all k d (let whole : length (xs ++ ys) ≡ length xs + length ys = length-append xs ys in omega (arith, lt, whole)))

pub all_right : {X : Type 0} (P : X → Type 0) (xs ys : List X) → All P (xs ++ ys) → All P ys
all_right P xs ys all k d lt = subst P (get_or-append-add xs ys k d) (all (length xs + k) d (let whole : length (xs ++ ys) ≡ length xs + length ys = length-append xs ys in omega (arith, lt, whole)))

-- What holds of all places of nodes holds of those of each.
pub each_places : (P : Place → Type 0) (roots : List NodePtr) → All P (flat_map (λ (root : NodePtr). root.places) roots) → (k : ℕ) (root : NodePtr) → slice_get roots k ≡ Some root → All P root.places
each_places P [] all k root at = absurd (none-some root at)
each_places P (one ∷ roots) all zero root at =
    let same : one ≡ root = cc in
    subst (λ (r : NodePtr). All P r.places) same (all_left P one.places (flat_map (λ (r : NodePtr). r.places) roots) all)
each_places P (one ∷ roots) all (suc k) root at = each_places P roots (all_right P one.places (flat_map (λ (r : NodePtr). r.places) roots) all) k root at

-- The nodes of btrees of one leaf are their roots.
pub root_nodes : (roots : List NodePtr) → nodes_of (leaf_nodes roots) ≡ roots
root_nodes [] = refl
root_nodes (root ∷ roots) = ap (λ (rest : List NodePtr). root ∷ rest) (root_nodes roots)

-- ---- nine roots

pub below_nine : (btree : Btree) → btree_code btree < 9
below_nine Extents = omega arith
below_nine Inodes = omega arith
below_nine Dirents = omega arith
below_nine Subvols = omega arith
below_nine Snapshots = omega arith
below_nine Alloc = omega arith
below_nine Backptrs = omega arith
below_nine Deleted = omega arith
below_nine Counters = omega arith

-- Each number below nine is that of a btree.
btree_at : (k : ℕ) → k < 9 → (btree : Btree) × (btree_code btree ≡ k)
btree_at zero less = (Extents, refl)
btree_at (suc zero) less = (Inodes, refl)
btree_at (suc (suc zero)) less = (Dirents, refl)
btree_at (suc (suc (suc zero))) less = (Subvols, refl)
btree_at (suc (suc (suc (suc zero)))) less = (Snapshots, refl)
btree_at (suc (suc (suc (suc (suc zero))))) less = (Alloc, refl)
btree_at (suc (suc (suc (suc (suc (suc zero)))))) less = (Backptrs, refl)
btree_at (suc (suc (suc (suc (suc (suc (suc zero))))))) less = (Deleted, refl)
btree_at (suc (suc (suc (suc (suc (suc (suc (suc zero)))))))) less = (Counters, refl)
btree_at (suc (suc (suc (suc (suc (suc (suc (suc (suc k))))))))) less = absurd (omega (arith, less))

-- What holds of each btree's root holds of all roots.
pub each_root : (P : NodePtr → Type 0) (roots : List NodePtr) → length roots ≡ 9 → ((btree : Btree) (root : NodePtr) → slice_get roots (btree_code btree) ≡ Some root → P root) → All P roots
each_root P roots nine each k d lt =
    let btree = btree_at k (omega (arith, lt, nine)) in
    each btree.0 (get_or roots k d) (ap (slice_get roots) btree.1 ∙ slice_get-get_or roots k d lt)

-- There is a root of each btree.
pub root_of : (roots : List NodePtr) → length roots ≡ 9 → (btree : Btree) → (root : NodePtr) × (slice_get roots (btree_code btree) ≡ Some root)
root_of roots nine btree =
    let none : NodePtr = record { birth = 0; level = 0; places = [] } in
    let less = below_nine btree in
    (get_or roots (btree_code btree) none, slice_get-get_or roots (btree_code btree) none (omega (arith, nine, less)))

-- A btree's root stands with it.
pub with_root : (roots : List NodePtr) → length roots ≡ 9 → (btree : Btree) (root : NodePtr) → slice_get roots (btree_code btree) ≡ Some root → slice_get (with_roots roots) (btree_code btree) ≡ Some (btree, root)
with_root [] nine btree root at = absurd (omega (arith, nine))
with_root (a ∷ []) nine btree root at = absurd (omega (arith, nine))
with_root (a ∷ b ∷ []) nine btree root at = absurd (omega (arith, nine))
with_root (a ∷ b ∷ c ∷ []) nine btree root at = absurd (omega (arith, nine))
with_root (a ∷ b ∷ c ∷ d ∷ []) nine btree root at = absurd (omega (arith, nine))
with_root (a ∷ b ∷ c ∷ d ∷ e ∷ []) nine btree root at = absurd (omega (arith, nine))
with_root (a ∷ b ∷ c ∷ d ∷ e ∷ f ∷ []) nine btree root at = absurd (omega (arith, nine))
with_root (a ∷ b ∷ c ∷ d ∷ e ∷ f ∷ g ∷ []) nine btree root at = absurd (omega (arith, nine))
with_root (a ∷ b ∷ c ∷ d ∷ e ∷ f ∷ g ∷ h ∷ []) nine btree root at = absurd (omega (arith, nine))
with_root (a ∷ b ∷ c ∷ d ∷ e ∷ f ∷ g ∷ h ∷ i ∷ more) nine Extents root at = ap (option_map (λ (r : NodePtr). (Extents, r))) at
with_root (a ∷ b ∷ c ∷ d ∷ e ∷ f ∷ g ∷ h ∷ i ∷ more) nine Inodes root at = ap (option_map (λ (r : NodePtr). (Inodes, r))) at
with_root (a ∷ b ∷ c ∷ d ∷ e ∷ f ∷ g ∷ h ∷ i ∷ more) nine Dirents root at = ap (option_map (λ (r : NodePtr). (Dirents, r))) at
with_root (a ∷ b ∷ c ∷ d ∷ e ∷ f ∷ g ∷ h ∷ i ∷ more) nine Subvols root at = ap (option_map (λ (r : NodePtr). (Subvols, r))) at
with_root (a ∷ b ∷ c ∷ d ∷ e ∷ f ∷ g ∷ h ∷ i ∷ more) nine Snapshots root at = ap (option_map (λ (r : NodePtr). (Snapshots, r))) at
with_root (a ∷ b ∷ c ∷ d ∷ e ∷ f ∷ g ∷ h ∷ i ∷ more) nine Alloc root at = ap (option_map (λ (r : NodePtr). (Alloc, r))) at
with_root (a ∷ b ∷ c ∷ d ∷ e ∷ f ∷ g ∷ h ∷ i ∷ more) nine Backptrs root at = ap (option_map (λ (r : NodePtr). (Backptrs, r))) at
with_root (a ∷ b ∷ c ∷ d ∷ e ∷ f ∷ g ∷ h ∷ i ∷ more) nine Deleted root at = ap (option_map (λ (r : NodePtr). (Deleted, r))) at
with_root (a ∷ b ∷ c ∷ d ∷ e ∷ f ∷ g ∷ h ∷ i ∷ more) nine Counters root at = ap (option_map (λ (r : NodePtr). (Counters, r))) at

-- What holds of each btree with its root holds of all of these.
pub each_pair : (P : Btree × NodePtr → Type 0) (roots : List NodePtr) → length roots ≡ 9 → ((btree : Btree) (root : NodePtr) → slice_get roots (btree_code btree) ≡ Some root → P (btree, root)) → AllByRecursion P (with_roots roots)
each_pair P [] nine each = absurd (omega (arith, nine))
each_pair P (a ∷ []) nine each = absurd (omega (arith, nine))
each_pair P (a ∷ b ∷ []) nine each = absurd (omega (arith, nine))
each_pair P (a ∷ b ∷ c ∷ []) nine each = absurd (omega (arith, nine))
each_pair P (a ∷ b ∷ c ∷ d ∷ []) nine each = absurd (omega (arith, nine))
each_pair P (a ∷ b ∷ c ∷ d ∷ e ∷ []) nine each = absurd (omega (arith, nine))
each_pair P (a ∷ b ∷ c ∷ d ∷ e ∷ f ∷ []) nine each = absurd (omega (arith, nine))
each_pair P (a ∷ b ∷ c ∷ d ∷ e ∷ f ∷ g ∷ []) nine each = absurd (omega (arith, nine))
each_pair P (a ∷ b ∷ c ∷ d ∷ e ∷ f ∷ g ∷ h ∷ []) nine each = absurd (omega (arith, nine))
each_pair P (a ∷ b ∷ c ∷ d ∷ e ∷ f ∷ g ∷ h ∷ i ∷ more) nine each = (each Extents a refl, (each Inodes b refl, (each Dirents c refl, (each Subvols d refl, (each Snapshots e refl, (each Alloc f refl, (each Backptrs g refl, (each Deleted h refl, (each Counters i refl, tt)))))))))

-- They are the roots.
pub pairs_are_roots : (roots : List NodePtr) → length roots ≡ 9 → map (λ (pair : Btree × NodePtr). pair.1) (with_roots roots) ≡ roots
pairs_are_roots [] nine = absurd (omega (arith, nine))
pairs_are_roots (a ∷ []) nine = absurd (omega (arith, nine))
pairs_are_roots (a ∷ b ∷ []) nine = absurd (omega (arith, nine))
pairs_are_roots (a ∷ b ∷ c ∷ []) nine = absurd (omega (arith, nine))
pairs_are_roots (a ∷ b ∷ c ∷ d ∷ []) nine = absurd (omega (arith, nine))
pairs_are_roots (a ∷ b ∷ c ∷ d ∷ e ∷ []) nine = absurd (omega (arith, nine))
pairs_are_roots (a ∷ b ∷ c ∷ d ∷ e ∷ f ∷ []) nine = absurd (omega (arith, nine))
pairs_are_roots (a ∷ b ∷ c ∷ d ∷ e ∷ f ∷ g ∷ []) nine = absurd (omega (arith, nine))
pairs_are_roots (a ∷ b ∷ c ∷ d ∷ e ∷ f ∷ g ∷ h ∷ []) nine = absurd (omega (arith, nine))
pairs_are_roots (a ∷ b ∷ c ∷ d ∷ e ∷ f ∷ g ∷ h ∷ i ∷ []) nine = refl
pairs_are_roots (a ∷ b ∷ c ∷ d ∷ e ∷ f ∷ g ∷ h ∷ i ∷ j ∷ more) nine = absurd (omega (arith, nine))
