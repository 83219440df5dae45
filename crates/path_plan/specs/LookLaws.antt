-- What is seen after further looks was seen before them, and which key an answer gave.
use Rattle.std.proofs.Common.{◌≡◌, Option, Some, None, List, [], ◌∷◌, ◌++◌, refl, sym, ap, ◌∙◌, subst, length, take, append_assoc}
use Rattle.std.specs.Prelude.{All, IfNone, IfOk, IfSome, option_map, slice_get}
use Rattle.std.specs.List.{AllByRecursion}
use Rattle.std.specs.Option.{option_to_list}
use Rattle.std.specs.declared.result.Result.{Result}
use Rattle.std.specs.declared.result.Result.TheVariants.{Ok, Err}
use Rattle.std.proofs.Math.Seq.{take-append_seam}
use Rattle.std.proofs.lemmas.List.Elements.{All-take, recursion_from_All}
use Rattle.std.proofs.lemmas.Option.{same_Some, none-some as none_some}
use Rattle.path_plan.specs.Looking.{value_in_key}
use Rattle.path_plan.specs.Given.{IsGiven}
use Rattle.key_view.specs.Seen.{GoesOn, IsSeen}
use Rattle.key_meaning.specs.Visible.{snaps_of}
use Rattle.snap_tree.specs.Snaps.{Snaps}
use Rattle.vol_types.specs.KeyMaps.{GivesLooks, IsLook, KeyMap, answer_of, key_of, keys_in, value_in}
use Rattle.vol_types.specs.declared.keys.Key.{Key}
use Rattle.vol_types.specs.declared.positions.Btree.{Btree}
use Rattle.vol_types.specs.declared.positions.Pos.{Pos}
use Rattle.vol_types.specs.declared.queries.Look.{Look}
use Rattle.vol_types.specs.declared.queries.Query.TheVariants.{At}
use Rattle.vol_types.specs.declared.values.Value.{Value}

-- what a result has to say of its value
pub carried : {X E : Type 0} (result : Result X E) (P Q : X → Type 0) → ((x : X) → P x → Q x) → IfOk result P → IfOk result Q
carried (Ok x) P Q step holds = step x holds
carried (Err e) P Q step holds = tt

-- The looks of before are given where all are,
pub gave_before : (keys : KeyMap) (old new : List Look) → GoesOn old new → GivesLooks keys new → GivesLooks keys old
gave_before keys old new on gives = record { each = subst (All (IsLook keys)) (ap (take (length old)) on.is ∙ take-append_seam old on.more) (All-take (IsLook keys) (length old) new gives.each) }

-- and so is what was seen before.
pub seen_before : (keys : KeyMap) (old new : List Look) (tree : Snaps) → GoesOn old new → IsSeen keys new tree → IsSeen keys old tree
seen_before keys old new tree on seen = record { is_map = seen.is_map; gives = gave_before keys old new on seen.gives; ids = seen.ids }

all_last : {X : Type 0} (P : X → Type 0) (xs : List X) (x : X) → AllByRecursion P (xs ++ x ∷ []) → P x
all_last P [] x all = all.0
all_last P (y ∷ xs) x all = all_last P xs x all.1

-- The last look is given.
pub gives_last : (keys : KeyMap) (old new : List Look) (look : Look) → new ≡ old ++ look ∷ [] → GivesLooks keys new → IsLook keys look
gives_last keys old new look is gives = all_last (IsLook keys) old look (recursion_from_All (IsLook keys) (old ++ look ∷ []) (subst (All (IsLook keys)) is gives.each))

-- What is given where a tree was told is seen with this tree.
pub given_is_seen : (keys : KeyMap) (looks : List Look) (told : Option Snaps) (tree : Snaps) → told ≡ Some tree → IsGiven keys looks told → IsSeen keys looks tree
given_is_seen keys looks told tree is given = record { is_map = given.is_map; gives = given.gives; ids = subst (λ (o : Option Snaps). IfSome o (λ (t : Snaps). snaps_of keys ≡ t)) is given.ids }

pub nil_cons : {X : Type 0} (x : X) (xs : List X) → [] ≡ x ∷ xs → ⊥
nil_cons x xs is = none_some x (ap (λ ys. slice_get ys 0) is)

-- no list that ends with a member is empty
pub some_last : {X : Type 0} (x : X) (xs : List X) → [] ≡ xs ++ x ∷ [] → ⊥
some_last x [] nil = nil_cons x [] nil
some_last x (y ∷ xs) nil = nil_cons y (xs ++ x ∷ []) nil

-- the last member of a list of one
pub only_last : {X : Type 0} (x : X) (xs : List X) (y : X) → x ∷ [] ≡ xs ++ y ∷ [] → x ≡ y
only_last x [] y same = same_Some x y (ap (λ zs. slice_get zs 0) same)
only_last x (z ∷ []) y same = absurd (none_some y (ap (λ zs. slice_get zs 1) same))
only_last x (z ∷ w ∷ xs) y same = absurd (none_some w (ap (λ zs. slice_get zs 1) same))

-- Where a position was looked at, the last key of the answer has its value.
pub value_found : (keys : KeyMap) (btree : Btree) (pos : Pos) (answer rest : List Key) (key : Option Key) → answer ≡ answer_of (At btree pos) keys → answer ≡ rest ++ option_to_list key → IfNone key (answer ≡ [])
    → value_in_key key ≡ value_in keys btree pos
value_found keys btree pos answer rest key look last empty = by (value_in keys btree pos) key (sym look ∙ last) (λ none. sym look ∙ none) empty
  where
    by : (value : Option Value) (key : Option Key) → keys_in (option_to_list (option_map (λ (v : Value). (pos, v)) value)) ≡ rest ++ option_to_list key → (answer ≡ [] → keys_in (option_to_list (option_map (λ (v : Value). (pos, v)) value)) ≡ [])
        → IfNone key (answer ≡ []) → value_in_key key ≡ value
    by None None same turned none = refl
    by None (Some k) same turned none = absurd (some_last k rest same)
    by (Some v) None same turned none = absurd (nil_cons (key_of (pos, v)) [] (sym (turned none)))
    by (Some v) (Some k) same turned none = ap (λ (l : Key). l.value) (sym (only_last (key_of (pos, v)) rest k same))

-- One look after another.
pub looks_then : (old middle new : List Look) → GoesOn old middle → GoesOn middle new → GoesOn old new
looks_then old middle new one two = record {
  more = one.more ++ two.more;
  is = two.is ∙ ap (λ xs. xs ++ two.more) one.is ∙ append_assoc old one.more two.more;
}
