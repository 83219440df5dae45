-- A further name among those of a slot, and a name less, as changes of what shows.
use Rattle.std.proofs.Common.{◌≡◌, ℕ, Bool, true, false, cond, List, [], ◌∷◌, refl, sym, ap, ◌∙◌, None, inl, inr}
use Rattle.std.specs.Prelude.{◌≢◌, ◌⊎◌, All, not}
use Rattle.std.specs.Ordering.{is_eq}
use Rattle.std.proofs.lemmas.Bool.{true≢false}
use Rattle.std.proofs.lemmas.List.Elements.{All-cons, All-nil, All-weaker}
use Rattle.dirent_keys.proofs.Listed.{found_itself, found_without, keeps_with, keeps_without, own_name}
use Rattle.dirent_keys.proofs.Ordered.{all_with, all_without}
use Rattle.dirent_keys.specs.Links.{with_link, without_name}
use Rattle.key_meaning.specs.Forest.{link_named}
use Rattle.key_meaning.specs.SoundLaws.{IsIn}
use Rattle.key_steps.specs.Names.{AddsName, TakesName}
use Rattle.vol_types.specs.Ranges.{name_cmp}
use Rattle.vol_types.specs.declared.values.Link.{Link}

-- Each member of a list is one of it.
pub all_in_it : (xs : List Link) → All (λ (x : Link). IsIn x xs) xs
all_in_it [] = All-nil (λ (x : Link). IsIn x [])
all_in_it (x ∷ xs) = All-cons (λ (y : Link). IsIn y (x ∷ xs)) x xs (inl refl) (All-weaker (λ (y : Link). IsIn y xs) (λ (y : Link). IsIn y (x ∷ xs)) (λ (y : Link) (is : IsIn y xs). inr is) xs (all_in_it xs))

-- A name that wasn't among them is added.
pub adds_name : (link : Link) (links : List Link) → link_named link.name links ≡ None → AddsName link links (with_link link links)
adds_name link links free = record {
  found = found_itself link links free;
  others = keeps_with link links;
  members = all_with (λ (other : Link). (other ≡ link) ⊎ IsIn other links) link links (inl refl) (All-weaker (λ (other : Link). IsIn other links) (λ (other : Link). (other ≡ link) ⊎ IsIn other links) (λ (other : Link) (is : IsIn other links). inr is) links (all_in_it links));
}

-- none of the others has the name that goes
gone_from : (name : List ℕ) (links : List Link) → All (λ (link : Link). link.name ≢ name) (without_name name links)
gone_from name [] = All-nil (λ (link : Link). link.name ≢ name)
gone_from name (link ∷ links) = by (is_eq (name_cmp name link.name)) refl (gone_from name links)
  where
    by : (b : Bool) → is_eq (name_cmp name link.name) ≡ b → All (λ (other : Link). other.name ≢ name) (without_name name links) → All (λ (other : Link). other.name ≢ name) (cond (not b) (link ∷ without_name name links) (without_name name links))
    by true is later = later
    by false is later = All-cons (λ (other : Link). other.name ≢ name) link (without_name name links) (λ same. true≢false (sym (ap (λ n. is_eq (name_cmp name n)) same ∙ own_name name) ∙ is)) later

-- A name that goes is taken.
pub takes_name : (name : List ℕ) (links : List Link) → TakesName name links (without_name name links)
takes_name name links = record {
  found = found_without name links;
  others = keeps_without name links;
  gone = gone_from name links;
  members = all_without (λ (other : Link). IsIn other links) name links (all_in_it links);
}
