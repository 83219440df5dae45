use Rattle.std.proofs.Common.{◌≡◌, Bool, true, false, cond, Some, None, List, [], ◌∷◌, ℕ, refl, sym, ap, ◌∙◌, arith}
use Rattle.std.specs.Prelude.{codes}
use Rattle.std.specs.Ordering.{is_eq}
use Rattle.std.proofs.lemmas.Bool.{true≢false}
use Rattle.std.proofs.lemmas.Cmp.{eq_by_cmp_equiv, nat_list_cmp_total}
use Rattle.std.proofs.lemmas.List.Elements.{All-cons, All-nil}
use Rattle.std.proofs.lemmas.Map.Lookups.{exact_bytes}
use Rattle.std.proofs.lemmas.Option.{same_Some, none-some as none_some}
use Rattle.id_steps.specs.Entries.{sub_of}
use Rattle.id_steps.specs.Examples.{copy_of, plain, plain_then}
use Rattle.id_steps.specs.Steps.{moved_to}
use Rattle.key_meaning.specs.TableLaws.{same_key}
use Rattle.vol_types.specs.Ranges.{IsName, name_cmp}
use Rattle.vol_types.specs.declared.values.Sub.{Sub}
use Rattle.id_steps.proofs.examples.wrong_entries_are_refused.Goals as goal

-- the two names differ
differ : (other : List ℕ) → is_eq (name_cmp other (codes "a")) ≡ true → is_eq (name_cmp (codes "b") other) ≡ true → ⊥
differ other first second = true≢false (sym second ∙ ap (λ (n : List ℕ). is_eq (name_cmp (codes "b") n)) (same_key exact_bytes other (codes "a") first))

right_found : (other : List ℕ) → sub_of other (plain_then ∷ copy_of true ∷ []) ≡ cond (is_eq (name_cmp (codes "b") other)) (Some (copy_of true)) (sub_of other (plain_then ∷ []))
right_found other = by (is_eq (name_cmp other (codes "a"))) refl (is_eq (name_cmp (codes "b") other)) refl (is_eq (name_cmp other (codes "b"))) ((eq_by_cmp_equiv nat_list_cmp_total).symm other (codes "b"))
  where
    by : (x : Bool) → is_eq (name_cmp other (codes "a")) ≡ x → (y : Bool) → is_eq (name_cmp (codes "b") other) ≡ y → (z : Bool) → z ≡ is_eq (name_cmp (codes "b") other)
        → cond x (Some plain_then) (cond z (Some (copy_of true)) None) ≡ cond y (Some (copy_of true)) (cond x (Some plain_then) None)
    by true first true second z same = absurd (differ other first second)
    by true first false second z same = refl
    by false first y second z same = ap (λ b. cond b (Some (copy_of true)) None) (same ∙ second)

pub returns : goal.returns
returns c = record {
  right = record {
    found = right_found;
    in_range = record {
      count = (omega arith, omega arith);
      each = All-cons (λ (s : Sub). IsName s.name) plain_then (copy_of true ∷ []) (omega arith, omega arith) (All-cons (λ (s : Sub). IsName s.name) (copy_of true) [] (omega arith, omega arith) (All-nil (λ (s : Sub). IsName s.name)));
      rise = (tt, (refl, tt));
    };
  };
  smaller = λ puts. let same : 98 ≡ 99 = ap (λ (s : Sub). s.id) (same_Some (moved_to 98 plain) plain_then (puts.found (codes "a"))) in absurd (omega (arith, same));
  stays = λ puts. let same : 100 ≡ 99 = ap (λ (s : Sub). s.id) (same_Some plain plain_then (puts.found (codes "a"))) in absurd (omega (arith, same));
  writable = λ puts. true≢false (sym (ap (λ (s : Sub). s.read_only) (same_Some (copy_of false) (copy_of true) (puts.found (codes "b")))));
  lost = λ puts. none_some plain_then (puts.found (codes "a"));
  kept = λ puts. none_some plain (sym (puts.found (codes "a")));
}
