-- What is found among the names of a slot after one was added or removed.
use Rattle.std.proofs.Common.{◌≡◌, ℕ, suc, ◌+◌, ◌≤◌, Bool, true, false, cond, Option, Some, None, List, [], ◌∷◌, refl, sym, ap, ◌∙◌, arith, length}
use Rattle.std.specs.Prelude.{◌≢◌, ◌||◌, nat_lt, not, find, is_some, unwrap_or}
use Rattle.std.proofs.lemmas.Bool.{ltb-false}
use Rattle.std.proofs.lemmas.List.Sums.{prefix_len-le-length}
use Rattle.std.specs.List.{insert, list_any, position, position_or_len}
use Rattle.std.specs.Ordering.{is_eq, is_lt}
use Rattle.std.proofs.lemmas.Bool.{true≢false}
use Rattle.std.proofs.lemmas.Cmp.{nat_list_cmp_total, tied_itself}
use Rattle.std.proofs.lemmas.Map.Lookups.{exact_bytes}
use Rattle.std.proofs.lemmas.Option.{none-some as none_some}
use Rattle.dirent_keys.specs.Links.{with_link, without_name}
use Rattle.key_meaning.specs.Changes.{KeepsOtherNames}
use Rattle.key_meaning.specs.Forest.{link_named}
use Rattle.key_meaning.specs.TableLaws.{same_key}
use Rattle.vol_types.specs.Ranges.{name_cmp}
use Rattle.vol_types.specs.declared.values.Link.{Link}

-- names that compare alike are one
pub one_name : (name other : List ℕ) → is_eq (name_cmp name other) ≡ true → name ≡ other
one_name name other same = same_key exact_bytes name other same

-- a name compares alike to itself
pub own_name : (name : List ℕ) → is_eq (name_cmp name name) ≡ true
own_name name = ap is_eq (tied_itself nat_list_cmp_total name)

-- different names don't
pub other_name : (name other : List ℕ) → name ≢ other → is_eq (name_cmp name other) ≡ false
other_name name other apart = by (is_eq (name_cmp name other)) refl
  where
    by : (b : Bool) → is_eq (name_cmp name other) ≡ b → b ≡ false
    by false is = refl
    by true is = absurd (apart (one_name name other is))

-- what isn't found is none
pub nothing : {X : Type 0} (o : Option X) → is_some o ≡ false → o ≡ None
nothing None none = refl
nothing (Some x) none = absurd (true≢false none)

-- Another name is found among names with a further one where it was found before.
pub found_with : (link : Link) (name : List ℕ) (links : List Link) → is_eq (name_cmp name link.name) ≡ false → link_named name (with_link link links) ≡ link_named name links
found_with link name [] apart = ap (λ b. cond b (Some link) None) apart
found_with link name (other ∷ links) apart = by (is_lt (name_cmp link.name other.name)) (found_with link name links apart)
  where
    by : (b : Bool) → link_named name (with_link link links) ≡ link_named name links
        → link_named name (cond b (link ∷ other ∷ links) (other ∷ with_link link links)) ≡ link_named name (other ∷ links)
    by true later = ap (λ b. cond b (Some link) (link_named name (other ∷ links))) apart
    by false later = ap (cond (is_eq (name_cmp name other.name)) (Some other)) later

-- The further one is found, where its name wasn't among them.
pub found_itself : (link : Link) (links : List Link) → link_named link.name links ≡ None → link_named link.name (with_link link links) ≡ Some link
found_itself link [] none = ap (λ b. cond b (Some link) None) (own_name link.name)
found_itself link (other ∷ links) none = by (is_lt (name_cmp link.name other.name)) (is_eq (name_cmp link.name other.name)) refl none (found_itself link links)
  where
    by : (below same : Bool) → is_eq (name_cmp link.name other.name) ≡ same → cond same (Some other) (link_named link.name links) ≡ None → (link_named link.name links ≡ None → link_named link.name (with_link link links) ≡ Some link)
        → link_named link.name (cond below (link ∷ other ∷ links) (other ∷ with_link link links)) ≡ Some link
    by below true is none later = absurd (none_some other (sym none))
    by true false is none later = ap (λ b. cond b (Some link) (link_named link.name (other ∷ links))) (own_name link.name)
    by false false is none later = ap (λ b. cond b (Some other) (link_named link.name (with_link link links))) is ∙ later none

-- No name is found among names without it.
pub found_without : (name : List ℕ) (links : List Link) → link_named name (without_name name links) ≡ None
found_without name [] = refl
found_without name (link ∷ links) = by (is_eq (name_cmp name link.name)) refl (found_without name links)
  where
    by : (b : Bool) → is_eq (name_cmp name link.name) ≡ b → link_named name (without_name name links) ≡ None
        → link_named name (cond (not b) (link ∷ without_name name links) (without_name name links)) ≡ None
    by true is later = later
    by false is later = ap (λ b. cond b (Some link) (link_named name (without_name name links))) is ∙ later

-- Another name is found among them where it was found before.
pub found_apart : (name another : List ℕ) (links : List Link) → another ≢ name → link_named another (without_name name links) ≡ link_named another links
found_apart name another [] apart = refl
found_apart name another (link ∷ links) apart = by (is_eq (name_cmp name link.name)) refl (found_apart name another links apart)
  where
    by : (b : Bool) → is_eq (name_cmp name link.name) ≡ b → link_named another (without_name name links) ≡ link_named another links
        → link_named another (cond (not b) (link ∷ without_name name links) (without_name name links)) ≡ link_named another (link ∷ links)
    by true is later = later ∙ sym (ap (λ b. cond b (Some link) (link_named another links)) (other_name another link.name (λ same. apart (same ∙ sym (one_name name link.name is)))))
    by false is later = ap (cond (is_eq (name_cmp another link.name)) (Some link)) later

-- Names with a further one keep all other names,
pub keeps_with : (link : Link) (links : List Link) → KeepsOtherNames links (with_link link links) link.name
keeps_with link links = record { others = λ another apart. found_with link another links (other_name another link.name apart) }

-- and so do names without one.
pub keeps_without : (name : List ℕ) (links : List Link) → KeepsOtherNames links (without_name name links) name
keeps_without name links = record { others = λ another apart. found_apart name another links apart }

next : (n : ℕ) → 1 + n ≡ suc n
next n = omega arith

-- A name that is put before the first one above it stands in their order.
pub inserted : (link : Link) (links : List Link) → insert links (position_or_len (λ (other : Link). is_lt (name_cmp link.name other.name)) links) link ≡ with_link link links
inserted link [] = refl
inserted link (other ∷ links) = by (is_lt (name_cmp link.name other.name)) (inserted link links)
  where
    place : ℕ
    place = position_or_len (λ (l : Link). is_lt (name_cmp link.name l.name)) links

    by : (b : Bool) → insert links place link ≡ with_link link links
        → insert (other ∷ links) (cond (not b) (1 + place) 0) link ≡ cond b (link ∷ other ∷ links) (other ∷ with_link link links)
    by true later = refl
    by false later = ap (λ n. insert (other ∷ links) n link) (next place) ∙ ap (λ all. other ∷ all) later

-- A test passes somewhere where something is found.
pub found_any : {X : Type 0} (test : X → Bool) (xs : List X) → list_any test xs ≡ is_some (find test xs)
found_any test [] = refl
found_any test (x ∷ xs) = by (test x) (found_any test xs)
  where
    by : (b : Bool) → list_any test xs ≡ is_some (find test xs) → (b || list_any test xs) ≡ is_some (cond b (Some x) (find test xs))
    by true later = refl
    by false later = later

-- The place of the first that passes, or the end.
pub place_or_end : {X : Type 0} (test : X → Bool) (xs : List X) → unwrap_or (position test xs) (length xs) ≡ position_or_len test xs
place_or_end test xs = by (nat_lt (position_or_len test xs) (length xs)) refl
  where
    by : (b : Bool) → nat_lt (position_or_len test xs) (length xs) ≡ b → unwrap_or (cond b (Some (position_or_len test xs)) None) (length xs) ≡ position_or_len test xs
    by true below = refl
    by false end = omega (arith, ltb-false (position_or_len test xs) (length xs) end, prefix_len-le-length (λ x. not (test x)) xs)

pub place_within : {X : Type 0} (test : X → Bool) (xs : List X) → position_or_len test xs ≤ length xs
place_within test xs = prefix_len-le-length (λ x. not (test x)) xs
