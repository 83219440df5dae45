-- A key may stand where the test of its kind says so.
use Rattle.std.proofs.Common.{◌≡◌, ℕ, zero, suc, ◌<◌, Bool, true, false, [], ◌∷◌, Option, None, Some, eqb, refl, sym, ap, subst, ◌∙◌, arith, lit<}
use Rattle.std.specs.Prelude.{◌||◌}
use Rattle.std.specs.List.{list_any}
use Rattle.std.proofs.lemmas.Bool.{eqb-true}
use Rattle.std.proofs.lemmas.Bool.Decides.{nat_tests}
use Rattle.vol_types.specs.declared.positions.Btree.{Btree}
use Rattle.vol_types.specs.declared.values.Value.{Value}
use Rattle.vol_types.specs.declared.values.Value.TheVariants.{Inode, Names, Extent, Hole, White, Subs, Snap, Live, Back, Gone, Counter, Node}
use Rattle.vol_types.specs.Values.{kind_of, kinds_in}
use Rattle.key_codec.specs.Keys.{kind_number}
use Rattle.vol_types.specs.Standing.{Stands, kinds_at, stands}

not_zero : (k : ℕ) → 0 < k → eqb k 0 ≡ false
not_zero k some = grind (arith, nat_tests)

-- The kind of a value isn't that of a removed key.
kind_above : (value : Value) → 0 < kind_of value
kind_above (Inode inode) = lit< tt
kind_above (Names links) = lit< tt
kind_above (Extent extent) = lit< tt
kind_above (Hole blocks) = lit< tt
kind_above White = lit< tt
kind_above (Subs subs) = lit< tt
kind_above (Snap snap) = lit< tt
kind_above (Live live) = lit< tt
kind_above (Back extent) = lit< tt
kind_above Gone = lit< tt
kind_above (Counter next) = lit< tt
kind_above (Node node) = lit< tt

of_value : (tree : Btree) (level : ℕ) (value : Value) → stands tree level (kind_of value) ≡ list_any (eqb (kind_of value)) (kinds_at tree level)
unfolding stands
of_value tree level value = rw (not_zero (kind_of value) (kind_above value)) refl

in_leaf : (tree : Btree) (level : ℕ) → level ≡ 0 → kinds_at tree level ≡ kinds_in tree
in_leaf tree level e = rw e refl

above : (tree : Btree) (level : ℕ) → 0 < level → kinds_at tree level ≡ 12 ∷ []
above tree level some = rw (not_zero level some) refl

first_of : (b : Bool) → b || false ≡ true → b ≡ true
first_of true e = refl
first_of false e = e

-- A key whose kind passes the test may stand there.
pub stands_found : (tree : Btree) (level : ℕ) (value : Option Value) → stands tree level (kind_number value) ≡ true → Stands tree level value
stands_found tree level None e = tt
stands_found tree level (Some value) e =
    let any : list_any (eqb (kind_of value)) (kinds_at tree level) ≡ true = sym (of_value tree level value) ∙ e in
    record {
      in_leaf = λ e. subst (λ kinds. list_any (eqb (kind_of value)) kinds ≡ true) (in_leaf tree level e) any;
      above = λ some. eqb-true (kind_of value) 12 (first_of (eqb (kind_of value) 12) (subst (λ kinds. list_any (eqb (kind_of value)) kinds ≡ true) (above tree level some) any));
    }

-- The kind of a key that may stand there passes the test.
pub stands_again : (tree : Btree) (level : ℕ) (value : Option Value) → Stands tree level value → stands tree level (kind_number value) ≡ true
unfolding stands
stands_again tree level None may = refl
stands_again tree zero (Some value) may = of_value tree zero value ∙ may.in_leaf refl
stands_again tree (suc level) (Some value) may =
    let some : 0 < suc level = omega arith in
    of_value tree (suc level) value ∙ ap (list_any (eqb (kind_of value))) (above tree (suc level) some) ∙ ap (λ k. list_any (eqb k) (12 ∷ [])) (may.above some)
