-- The last name of a good path is a good name, and has as many bytes as names may have.
use Rattle.std.proofs.Common.{◌≡◌, ℕ, zero, suc, ◌-◌, Bool, true, Option, Some, None, List, [], ◌∷◌, sym, ap, ◌∙◌, length, slice_get}
use Rattle.std.specs.Prelude.{Result, Ok, Err, is_ok}
use Rattle.std.specs.List.{list_all}
use Rattle.std.specs.Option.{ok_or}
use Rattle.std.proofs.lemmas.Bool.{and_parts, false≢true, leb-true}
use Rattle.std.proofs.lemmas.Option.{same_Some, none-some as none_some}
use Rattle.forest_ops.specs.declared.operation.Cause.{Cause}
use Rattle.plain_forest.specs.Names.{is_good_name, is_good_path, last_name}
use Rattle.plain_forest.specs.declared.path.Path.{Path}
use Rattle.vol_types.specs.Ranges.{IsName}

-- what all pass, each passes
one_passes : {X : Type 0} (test : X → Bool) (xs : List X) (k : ℕ) (x : X) → list_all test xs ≡ true → slice_get xs k ≡ Some x → test x ≡ true
one_passes test [] k x all at = absurd (none_some x at)
one_passes test (y ∷ xs) zero x all at = ap test (sym (same_Some y x at)) ∙ (and_parts (test y) (list_all test xs) all).0
one_passes test (y ∷ xs) (suc k) x all at = one_passes test xs k x (and_parts (test y) (list_all test xs) all).1 at

-- The last name of a good path is good,
pub last_is_good : (path : Path) (name : List ℕ) → is_good_path path ≡ true → last_name path ≡ Some name → is_good_name name ≡ true
last_is_good path name good last = one_passes is_good_name path.names (length path.names - 1) name (and_parts _ _ good).1 last

-- and a good name has as many bytes as names may have.
pub good_is_name : (name : List ℕ) → is_good_name name ≡ true → IsName name
good_is_name name good = let bounds = and_parts _ _ (and_parts _ _ (and_parts _ _ good).0).0 in (leb-true 1 (length name) bounds.0, leb-true (length name) 255 bounds.1)

-- A value that came of an option with a refusal is the option's.
pub some_of : {X : Type 0} (o : Option X) (cause : Cause) (x : X) → ok_or o cause ≡ Ok x → o ≡ Some x
some_of None cause x is = absurd (false≢true (ap (λ (r : Result _ Cause). is_ok r) is))
some_of {X} (Some other) cause x is = ap Some (ap value_or is)
  where
    value_or : Result X Cause → X
    value_or (Ok y) = y
    value_or (Err other_cause) = x
