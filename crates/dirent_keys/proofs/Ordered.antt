-- The names of a slot rise and are few, with a further one and without one, where they did before.
use Rattle.std.proofs.Common.{◌≡◌, ℕ, ◌+◌, ◌<◌, ◌≤◌, Bool, true, false, cond, Some, None, List, [], ◌∷◌, refl, sym, ap, ◌∙◌, arith, length, map}
use Rattle.std.specs.Prelude.{not, All}
use Rattle.std.specs.List.{AllByRecursion}
use Rattle.std.specs.List.Sorted.{IsStrictlySortedBy}
use Rattle.std.specs.Ordering.{is_eq, is_lt, ordering_reverse}
use Rattle.std.specs.declared.cmp.Ordering.{Ordering}
use Rattle.std.specs.declared.cmp.Ordering.TheVariants.{Less, Equal, Greater}
use Rattle.std.proofs.lemmas.Cmp.{nat_list_cmp_total}
use Rattle.std.proofs.lemmas.List.Elements.{All-cons, All-head, All-nil, All-tail}
use Rattle.std.proofs.lemmas.Option.{none-some as none_some}
use Rattle.dirent_keys.specs.Links.{with_link, without_name}
use Rattle.key_meaning.specs.Forest.{link_named}
use Rattle.vol_types.specs.Ranges.{AreLinks, IsName, Rise, name_cmp}
use Rattle.vol_types.specs.Rising.{Rise-from_sorted, sorted-from_Rise}
use Rattle.vol_types.specs.declared.values.Link.{Link}

-- the names of some links
abbrev names_of : List Link → List (List ℕ)
names_of links = map (λ (link : Link). link.name) links

-- what is above a greater name is above this one
above_lower : (low high : List ℕ) (names : List (List ℕ)) → name_cmp low high ≡ Less → AllByRecursion (λ y. name_cmp high y ≡ Less) names → AllByRecursion (λ y. name_cmp low y ≡ Less) names
above_lower low high [] less all = tt
above_lower low high (name ∷ names) less all = (nat_list_cmp_total.trans low high name less all.0, above_lower low high names less all.1)

-- what holds of each name still does, where it holds of the further one
names_with : (P : List ℕ → Type 0) (link : Link) (links : List Link) → P link.name → AllByRecursion P (names_of links) → AllByRecursion P (names_of (with_link link links))
names_with P link [] new all = (new, tt)
names_with P link (other ∷ links) new all = by (is_lt (name_cmp link.name other.name)) (names_with P link links new all.1)
  where
    by : (b : Bool) → AllByRecursion P (names_of (with_link link links)) → AllByRecursion P (names_of (cond b (link ∷ other ∷ links) (other ∷ with_link link links)))
    by true later = (new, all)
    by false later = (all.0, later)

names_without : (P : List ℕ → Type 0) (name : List ℕ) (links : List Link) → AllByRecursion P (names_of links) → AllByRecursion P (names_of (without_name name links))
names_without P name [] all = tt
names_without P name (link ∷ links) all = by (is_eq (name_cmp name link.name)) (names_without P name links all.1)
  where
    by : (b : Bool) → AllByRecursion P (names_of (without_name name links)) → AllByRecursion P (names_of (cond (not b) (link ∷ without_name name links) (without_name name links)))
    by true later = later
    by false later = (all.0, later)

-- Names with a further one rise.
sorted_with : (link : Link) (links : List Link) → link_named link.name links ≡ None → IsStrictlySortedBy name_cmp (names_of links) → IsStrictlySortedBy name_cmp (names_of (with_link link links))
unfolding IsStrictlySortedBy
sorted_with link [] none sorted = (tt, tt)
sorted_with link (other ∷ links) none sorted = by (name_cmp link.name other.name) refl none (λ n. sorted_with link links n sorted.1)
  where
    by : (r : Ordering) → name_cmp link.name other.name ≡ r → cond (is_eq r) (Some other) (link_named link.name links) ≡ None
        → (link_named link.name links ≡ None → IsStrictlySortedBy name_cmp (names_of (with_link link links)))
        → IsStrictlySortedBy name_cmp (names_of (cond (is_lt r) (link ∷ other ∷ links) (other ∷ with_link link links)))
    by Less is none later = ((is, above_lower link.name other.name (names_of links) is sorted.0), sorted)
    by Equal is none later = absurd (none_some other (sym none))
    by Greater is none later =
        (names_with (λ y. name_cmp other.name y ≡ Less) link links (nat_list_cmp_total.antisymm other.name link.name ∙ ap ordering_reverse is) sorted.0, later none)

-- Names without one rise.
sorted_without : (name : List ℕ) (links : List Link) → IsStrictlySortedBy name_cmp (names_of links) → IsStrictlySortedBy name_cmp (names_of (without_name name links))
unfolding IsStrictlySortedBy
sorted_without name [] sorted = tt
sorted_without name (link ∷ links) sorted = by (is_eq (name_cmp name link.name)) (sorted_without name links sorted.1)
  where
    by : (b : Bool) → IsStrictlySortedBy name_cmp (names_of (without_name name links)) → IsStrictlySortedBy name_cmp (names_of (cond (not b) (link ∷ without_name name links) (without_name name links)))
    by true later = later
    by false later = (names_without (λ y. name_cmp link.name y ≡ Less) name links sorted.0, later)

-- A name below all others stands in front of them.
in_front : (link : Link) (links : List Link) → AllByRecursion (λ y. name_cmp link.name y ≡ Less) (names_of links) → with_link link links ≡ link ∷ links
in_front link [] all = refl
in_front link (other ∷ links) all = ap (λ o. cond (is_lt o) (link ∷ other ∷ links) (other ∷ with_link link links)) all.0

-- Of names that rise, one more and another one less come to the same in either order.
commuting : (link : Link) (name : List ℕ) → is_eq (name_cmp name link.name) ≡ false → (links : List Link) → IsStrictlySortedBy name_cmp (names_of links) → without_name name (with_link link links) ≡ with_link link (without_name name links)
unfolding IsStrictlySortedBy
commuting link name apart [] sorted = ap (λ b. cond (not b) (link ∷ []) []) apart
commuting link name apart (other ∷ links) sorted = by (name_cmp link.name other.name) refl (is_eq (name_cmp name other.name)) refl (commuting link name apart links sorted.1)
  where
    rest : List Link
    rest = without_name name links

    by : (r : Ordering) → name_cmp link.name other.name ≡ r → (same : Bool) → is_eq (name_cmp name other.name) ≡ same → without_name name (with_link link links) ≡ with_link link rest
        → without_name name (cond (is_lt r) (link ∷ other ∷ links) (other ∷ with_link link links)) ≡ with_link link (cond (not same) (other ∷ rest) rest)
    by Less is false at later =
        (λ i. cond (not (apart i)) (link ∷ cond (not (at i)) (other ∷ rest) rest) (cond (not (at i)) (other ∷ rest) rest))
        ∙ sym (ap (λ o. cond (is_lt o) (link ∷ other ∷ rest) (other ∷ with_link link rest)) is)
    by Less is true at later =
        (λ i. cond (not (apart i)) (link ∷ cond (not (at i)) (other ∷ rest) rest) (cond (not (at i)) (other ∷ rest) rest))
        ∙ sym (in_front link rest (names_without (λ y. name_cmp link.name y ≡ Less) name links (above_lower link.name other.name (names_of links) is sorted.0)))
    by Equal is false at later = ap (λ b. cond (not b) (other ∷ without_name name (with_link link links)) (without_name name (with_link link links))) at ∙ ap (λ ls. other ∷ ls) later
        ∙ sym (ap (λ o. cond (is_lt o) (link ∷ other ∷ rest) (other ∷ with_link link rest)) is)
    by Equal is true at later = ap (λ b. cond (not b) (other ∷ without_name name (with_link link links)) (without_name name (with_link link links))) at ∙ later
    by Greater is false at later = ap (λ b. cond (not b) (other ∷ without_name name (with_link link links)) (without_name name (with_link link links))) at ∙ ap (λ ls. other ∷ ls) later
        ∙ sym (ap (λ o. cond (is_lt o) (link ∷ other ∷ rest) (other ∷ with_link link rest)) is)
    by Greater is true at later = ap (λ b. cond (not b) (other ∷ without_name name (with_link link links)) (without_name name (with_link link links))) at ∙ later

pub added_then_taken : (link : Link) (name : List ℕ) (links : List Link) → is_eq (name_cmp name link.name) ≡ false → Rise name_cmp (map (λ l. l.name) links) → without_name name (with_link link links) ≡ with_link link (without_name name links)
added_then_taken link name links apart rise = commuting link name apart links (sorted-from_Rise name_cmp nat_list_cmp_total (names_of links) rise)

-- There is one name more,
pub count_with : (link : Link) (links : List Link) → length (with_link link links) ≡ 1 + length links
count_with link [] = refl
count_with link (other ∷ links) = by (is_lt (name_cmp link.name other.name)) (count_with link links)
  where
    by : (b : Bool) → length (with_link link links) ≡ 1 + length links → length (cond b (link ∷ other ∷ links) (other ∷ with_link link links)) ≡ 1 + length (other ∷ links)
    by true later = omega arith
    by false later = omega (arith, later)

-- or there are no more than before.
pub count_without : (name : List ℕ) (links : List Link) → length (without_name name links) ≤ length links
count_without name [] = omega arith
count_without name (link ∷ links) = by (is_eq (name_cmp name link.name)) (count_without name links)
  where
    by : (b : Bool) → length (without_name name links) ≤ length links → length (cond (not b) (link ∷ without_name name links) (without_name name links)) ≤ length (link ∷ links)
    by true later = omega (arith, later)
    by false later = omega (arith, later)

-- Each link has what each had, where the further one has it.
pub all_with : (P : Link → Type 0) (link : Link) (links : List Link) → P link → All P links → All P (with_link link links)
all_with P link [] new all = All-cons P link [] new (All-nil P)
all_with P link (other ∷ links) new all = by (is_lt (name_cmp link.name other.name)) (all_with P link links new (All-tail P other links all))
  where
    by : (b : Bool) → All P (with_link link links) → All P (cond b (link ∷ other ∷ links) (other ∷ with_link link links))
    by true later = All-cons P link (other ∷ links) new all
    by false later = All-cons P other (with_link link links) (All-head P other links all) later

pub all_without : (P : Link → Type 0) (name : List ℕ) (links : List Link) → All P links → All P (without_name name links)
all_without P name [] all = All-nil P
all_without P name (link ∷ links) all = by (is_eq (name_cmp name link.name)) (all_without P name links (All-tail P link links all))
  where
    by : (b : Bool) → All P (without_name name links) → All P (cond (not b) (link ∷ without_name name links) (without_name name links))
    by true later = later
    by false later = All-cons P link (without_name name links) (All-head P link links all) later

-- The names that are left rise.
pub rise_without : (name : List ℕ) (links : List Link) → Rise name_cmp (map (λ link. link.name) links) → Rise name_cmp (map (λ link. link.name) (without_name name links))
rise_without name links rise = Rise-from_sorted name_cmp (names_of (without_name name links)) (sorted_without name links (sorted-from_Rise name_cmp nat_list_cmp_total (names_of links) rise))

-- The names of a slot may stand there, or there are none.
pub record MayShare (links : List Link) : Type 0 where
  pub count : length links ≤ 8
  pub each : All (λ link. IsName link.name) links
  pub rise : Rise name_cmp (map (λ link. link.name) links)

-- So they may with a further name, where they are fewer than eight,
pub are_links_with : (link : Link) (links : List Link) → MayShare links → IsName link.name → length links < 8 → link_named link.name links ≡ None → AreLinks (with_link link links)
are_links_with link links may named few none = record {
  count = (omega (arith, count_with link links), omega (arith, count_with link links, few));
  each = all_with (λ (l : Link). IsName l.name) link links named may.each;
  rise = Rise-from_sorted name_cmp (names_of (with_link link links)) (sorted_with link links none (sorted-from_Rise name_cmp nat_list_cmp_total (names_of links) may.rise));
}

-- and without one, where some are left.
pub are_links_without : (name : List ℕ) (links : List Link) → MayShare links → 1 ≤ length (without_name name links) → AreLinks (without_name name links)
are_links_without name links may some = record {
  count = (some, omega (arith, count_without name links, may.count));
  each = all_without (λ (l : Link). IsName l.name) name links may.each;
  rise = rise_without name links may.rise;
}
