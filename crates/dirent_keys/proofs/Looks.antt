-- What is seen after further looks was seen before them, and which key an answer gave.
use Rattle.std.proofs.Common.{◌≡◌, List, [], ◌∷◌, ◌++◌, ap, ◌∙◌, subst, length, take, append_assoc}
use Rattle.std.specs.Prelude.{All, slice_get}
use Rattle.std.specs.List.{AllByRecursion}
use Rattle.std.proofs.Math.Seq.{take-append_seam}
use Rattle.std.proofs.lemmas.List.Elements.{All-take, recursion_from_All}
use Rattle.std.proofs.lemmas.Option.{same_Some, none-some as none_some}
use Rattle.key_view.specs.Seen.{GoesOn, IsSeen}
use Rattle.snap_tree.specs.Snaps.{Snaps}
use Rattle.vol_types.specs.KeyMaps.{GivesLooks, IsLook, KeyMap}
use Rattle.vol_types.specs.declared.queries.Look.{Look}

pub seen_before : (keys : KeyMap) (old new : List Look) (tree : Snaps) → GoesOn old new → IsSeen keys new tree → IsSeen keys old tree
seen_before keys old new tree on seen = record {
  is_map = seen.is_map;
  gives = record { each = subst (All (IsLook keys)) (ap (take (length old)) on.is ∙ take-append_seam old on.more) (All-take (IsLook keys) (length old) new seen.gives.each) };
  ids = seen.ids;
}

all_last : {X : Type 0} (P : X → Type 0) (xs : List X) (x : X) → AllByRecursion P (xs ++ x ∷ []) → P x
all_last P [] x all = all.0
all_last P (y ∷ xs) x all = all_last P xs x all.1

-- The last look is given.
pub gives_last : (keys : KeyMap) (old new : List Look) (look : Look) → new ≡ old ++ look ∷ [] → GivesLooks keys new → IsLook keys look
gives_last keys old new look is gives = all_last (IsLook keys) old look (recursion_from_All (IsLook keys) (old ++ look ∷ []) (subst (All (IsLook keys)) is gives.each))

pub nil_cons : {X : Type 0} (x : X) (xs : List X) → [] ≡ x ∷ xs → ⊥
nil_cons x xs is = none_some x (ap (λ ys. slice_get ys 0) is)

-- no list that ends with a member is empty
pub some_last : {X : Type 0} (x : X) (xs : List X) → [] ≡ xs ++ x ∷ [] → ⊥
some_last x [] nil = nil_cons x [] nil
some_last x (y ∷ xs) nil = nil_cons y (xs ++ x ∷ []) nil

-- the last member of a list of one
pub only_last : {X : Type 0} (x : X) (xs : List X) (y : X) → x ∷ [] ≡ xs ++ y ∷ [] → x ≡ y
only_last x [] y same = same_Some x y (ap (λ zs. slice_get zs 0) same)
only_last x (z ∷ []) y same = absurd (none_some y (ap (λ zs. slice_get zs 1) same))
only_last x (z ∷ w ∷ xs) y same = absurd (none_some w (ap (λ zs. slice_get zs 1) same))

-- One look after another.
pub looks_then : (old middle new : List Look) → GoesOn old middle → GoesOn middle new → GoesOn old new
looks_then old middle new one two = record {
  more = one.more ++ two.more;
  is = two.is ∙ ap (λ xs. xs ++ two.more) one.is ∙ append_assoc old one.more two.more;
}
