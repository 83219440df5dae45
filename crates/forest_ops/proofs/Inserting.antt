-- A name that is inserted where its directory may have it: what is there stays, and what isn't comes.
use Rattle.std.proofs.Common.{◌≡◌, ℕ, Bool, true, false, cond, List, [], ◌∷◌, Option, Some, None, refl, ap, sym, ◌∙◌, nat_cmp}
use Rattle.std.specs.Prelude.{is_ok, is_some}
use Rattle.std.specs.Option.{ok_or}
use Rattle.std.specs.BTreeMap.{is_at}
use Rattle.std.specs.declared.cmp.Ordering.{Ordering}
use Rattle.plain_forest.specs.Maps.{name_cmp, value_at, with_value, changed_at}
use Rattle.plain_forest.specs.Forest.{Names, Tree}
use Rattle.forest_ops.specs.Parts.{with_link, with_new}
use Rattle.forest_ops.specs.Trees.{Place}
use Rattle.forest_ops.specs.Refusals.{◌>>=◌}
use Rattle.forest_ops.specs.Walking.{named_in}
use Rattle.forest_ops.specs.declared.operation.Cause.TheVariants.{NotDir, NotFound}
use Rattle.forest_ops.proofs.Sums.{changed_at-same}

module _ {K X : Type 0} (cmp : K → K → Ordering) (key : K) where
  -- changes that agree on the value that is there
  changed_at-alike : (one other : X → X) (es : List (K × X)) → ((x : X) → value_at cmp key es ≡ Some x → one x ≡ other x) → changed_at cmp key one es ≡ changed_at cmp key other es
  changed_at-alike one other [] same = refl
  changed_at-alike one other (e ∷ es) same = by (is_at (cmp key) e.0) same (changed_at-alike one other es)
    where
      by : (here : Bool) → ((x : X) → cond here (Some e.1) (value_at cmp key es) ≡ Some x → one x ≡ other x) → (((x : X) → value_at cmp key es ≡ Some x → one x ≡ other x) → changed_at cmp key one es ≡ changed_at cmp key other es)
          → cond here ((e.0, one e.1) ∷ es) (e ∷ changed_at cmp key one es) ≡ cond here ((e.0, other e.1) ∷ es) (e ∷ changed_at cmp key other es)
      by true same later = ap (λ x. (e.0, x) ∷ es) (same e.1 refl)
      by false same later = ap (λ rest. e ∷ rest) (later same)

-- whether a name leads somewhere from a directory that is there is whether the directory has it
has_name : (place : Place) (tree : Tree) (names : Names) → value_at nat_cmp place.directory tree.directories ≡ Some names → is_ok (named_in tree place.directory place.name) ≡ is_some (value_at name_cmp place.name names)
has_name place tree names there =
    ap (λ o. is_ok (ok_or o NotDir >>= (λ names. ok_or (value_at name_cmp place.name names) NotFound))) there ∙ at (value_at name_cmp place.name names)
  where
    at : (found : Option ℕ) → is_ok (ok_or found NotFound) ≡ is_some found
    at None = refl
    at (Some number) = refl

-- a name that is there stays
pub name_stays : (place : Place) (tree : Tree) → is_ok (named_in tree place.directory place.name) ≡ true → with_link place tree ≡ tree
name_stays place tree leads =
    ap (λ ds. record tree { directories = ds })
    (changed_at-same nat_cmp place.directory (with_new name_cmp place.name place.number) tree.directories
    (λ names there. ap (λ b. cond b names (with_value name_cmp place.name place.number names)) (sym (has_name place tree names there) ∙ leads)))

-- a name that isn't there comes, if its directory is there
pub name_comes : (place : Place) (tree : Tree) (directories : List (ℕ × Names)) → is_ok (named_in tree place.directory place.name) ≡ false
    → directories ≡ changed_at nat_cmp place.directory (with_value name_cmp place.name place.number) tree.directories → record tree { directories = directories } ≡ with_link place tree
name_comes place tree directories none made =
    ap (λ ds. record tree { directories = ds })
    (made ∙ changed_at-alike nat_cmp place.directory (with_value name_cmp place.name place.number) (with_new name_cmp place.name place.number) tree.directories
    (λ names there. sym (ap (λ b. cond b names (with_value name_cmp place.name place.number names)) (sym (has_name place tree names there) ∙ none))))
