-- How many names of a directory have a slot: those that show under it, where each of them stands under its slot.
use Rattle.std.proofs.Common.{◌≡◌, ℕ, suc, Bool, true, false, cond, Option, Some, None, List, [], ◌∷◌, refl, sym, ap, ◌∙◌, subst, length, map}
use Rattle.std.specs.Prelude.{All, ◌==◌, is_some, nat_le, option_map}
use Rattle.std.specs.BTreeMap.{is_at}
use Rattle.std.specs.List.{filter}
use Rattle.std.specs.List.Sorted.{IsStrictlySortedBy}
use Rattle.std.specs.Map.{keys_of}
use Rattle.std.specs.Ordering.{is_eq}
use Rattle.std.specs.declared.result.Result.{Result}
use Rattle.std.proofs.lemmas.Bool.{eq-eqb, eqb-true, true≢false}
use Rattle.std.proofs.lemmas.Cmp.{nat_list_cmp_total}
use Rattle.std.proofs.lemmas.List.Elements.{All-head, All-tail}
use Rattle.std.proofs.lemmas.List.Kept.{IsStrictlySortedBy-filter}
use Rattle.std.proofs.lemmas.List.Sums.{length-filter}
use Rattle.std.proofs.lemmas.Map.Entries.{lookup-filter-keys}
use Rattle.std.proofs.lemmas.Map.Lookups.{exact_bytes}
use Rattle.dirent_keys.proofs.Listed.{one_name, other_name}
use Rattle.dirent_keys.specs.Names.{has_name, is_full, refusal_of, step_to_add, updates_to_add}
use Rattle.dirent_keys.specs.declared.step.NameStep.TheVariants as steps
use Rattle.key_meaning.specs.Forest.{link_named, links_in, names_in, number_in}
use Rattle.key_meaning.specs.ForestLaws.{name_at, names_rise}
use Rattle.plain_forest.specs.Forest.{Names}
use Rattle.plain_forest.specs.Steps.{◌>>=◌, check_name, count_in_slot, names_per_slot, refused_if}
use Rattle.plain_forest.specs.declared.operation.Cause.{Cause}
use Rattle.plain_forest.specs.declared.operation.Cause.TheVariants as causes
use Rattle.vol_digest.specs.Digests.{slot_of}
use Rattle.vol_types.specs.KeyMaps.{KeyMap}
use Rattle.vol_types.specs.MapLaws.{same_maps}
use Rattle.vol_types.specs.Maps.{IsMap, value_at}
use Rattle.vol_types.specs.Ranges.{Rise, name_cmp}
use Rattle.vol_types.specs.Rising.{sorted-from_Rise}
use Rattle.vol_types.specs.declared.values.Link.{Link}

-- names with their numbers
abbrev numbered : List Link → Names
numbered links = map (λ (link : Link). (link.name, link.number)) links

keys_numbered : (links : List Link) → keys_of (numbered links) ≡ map (λ (link : Link). link.name) links
keys_numbered [] = refl
keys_numbered (link ∷ links) = ap (λ names. link.name ∷ names) (keys_numbered links)

length_numbered : (links : List Link) → length (numbered links) ≡ length links
length_numbered [] = refl
length_numbered (link ∷ links) = ap (λ n. suc n) (length_numbered links)

found_numbered : (name : List ℕ) (links : List Link) → value_at name_cmp name (numbered links) ≡ option_map (λ (link : Link). link.number) (link_named name links)
found_numbered name [] = refl
found_numbered name (link ∷ links) = by (is_eq (name_cmp name link.name)) (found_numbered name links)
  where
    by : (b : Bool) → value_at name_cmp name (numbered links) ≡ option_map (λ (l : Link). l.number) (link_named name links)
        → cond b (Some link.number) (value_at name_cmp name (numbered links)) ≡ option_map (λ (l : Link). l.number) (cond b (Some link) (link_named name links))
    by true later = refl
    by false later = later

-- The names of the entries that pass are those that pass.
pub keys_filtered : (p : List ℕ → Bool) (names : Names) → keys_of (filter (λ entry. p entry.0) names) ≡ filter p (keys_of names)
keys_filtered p [] = refl
keys_filtered p (entry ∷ names) = by (p entry.0) (keys_filtered p names)
  where
    by : (b : Bool) → keys_of (filter (λ (e : List ℕ × ℕ). p e.0) names) ≡ filter p (keys_of names)
        → keys_of (cond b (entry ∷ filter (λ (e : List ℕ × ℕ). p e.0) names) (filter (λ (e : List ℕ × ℕ). p e.0) names)) ≡ cond b (entry.0 ∷ filter p (keys_of names)) (filter p (keys_of names))
    by true later = ap (λ rest. entry.0 ∷ rest) later
    by false later = later

-- A name of another slot isn't among those that stand under theirs.
pub none_of_slot : (slot : ℕ) (name : List ℕ) (links : List Link) → All (λ link. slot_of link.name ≡ slot) links → (slot_of name == slot) ≡ false → link_named name links ≡ None
none_of_slot slot name [] all apart = refl
none_of_slot slot name (link ∷ links) all apart =
    ap (λ b. cond b (Some link) (link_named name links)) (other_name name link.name (λ same. true≢false (sym (eq-eqb (slot_of name) slot (ap slot_of same ∙ All-head (λ (l : Link). slot_of l.name ≡ slot) link links all)) ∙ apart)))
    ∙ none_of_slot slot name links (All-tail (λ (l : Link). slot_of l.name ≡ slot) link links all) apart

-- Names are as many under a slot as links whose names rise, where each name of the slot leads where it does among the links, and no
-- other name is among them.
pub counted_as : (names : Names) (links : List Link) (slot : ℕ) → IsMap name_cmp names → Rise name_cmp (map (λ link. link.name) links)
    → ((name : List ℕ) → cond (slot_of name == slot) (value_at name_cmp name names) None ≡ option_map (λ (link : Link). link.number) (link_named name links)) → count_in_slot slot names ≡ length links
counted_as names links slot rises rise led =
    sym (length-filter (λ (entry : List ℕ × ℕ). slot_of entry.0 == slot) names)
    ∙ ap length (same_maps nat_list_cmp_total exact_bytes (filter (λ (entry : List ℕ × ℕ). slot_of entry.0 == slot) names) (numbered links)
    (subst (IsStrictlySortedBy name_cmp) (sym (keys_filtered (λ n. slot_of n == slot) names)) (IsStrictlySortedBy-filter name_cmp (λ n. slot_of n == slot) (keys_of names) rises))
    (subst (IsStrictlySortedBy name_cmp) (sym (keys_numbered links)) (sorted-from_Rise name_cmp nat_list_cmp_total (map (λ (link : Link). link.name) links) rise))
    (λ name. lookup-filter-keys (is_at (name_cmp name)) (λ n. slot_of n == slot) (slot_of name == slot) (λ k found. ap (λ n. slot_of n == slot) (sym (one_name name k found))) names ∙ led name ∙ sym (found_numbered name links)))
    ∙ length_numbered links

module _ (keys : KeyMap) (id directory slot : ℕ) (under : All (λ link. slot_of link.name ≡ slot) (links_in keys id directory slot)) where
  -- A name of the slot leads where it does among those that show under it.
  pub led_in_slot : (name : List ℕ) → cond (slot_of name == slot) (value_at name_cmp name (names_in keys id directory)) None ≡ option_map (λ (link : Link). link.number) (link_named name (links_in keys id directory slot))
  led_in_slot name = ap (λ o. cond (slot_of name == slot) o None) (name_at keys id directory name) ∙ by (slot_of name == slot) refl
    where
      by : (b : Bool) → (slot_of name == slot) ≡ b → cond b (number_in keys id directory name) None ≡ option_map (λ (link : Link). link.number) (link_named name (links_in keys id directory slot))
      by true at = ap (λ s. option_map (λ (link : Link). link.number) (link_named name (links_in keys id directory s))) (eqb-true (slot_of name) slot at)
      by false at = sym (ap (option_map (λ (link : Link). link.number)) (none_of_slot slot name (links_in keys id directory slot) under at))

-- The names of a slot are those that show under it.
pub counted : (keys : KeyMap) (id directory slot : ℕ) → Rise name_cmp (map (λ link. link.name) (links_in keys id directory slot)) → All (λ link. slot_of link.name ≡ slot) (links_in keys id directory slot)
    → count_in_slot slot (names_in keys id directory) ≡ length (links_in keys id directory slot)
counted keys id directory slot rise under = counted_as (names_in keys id directory) (links_in keys id directory slot) slot (names_rise keys id directory) rise (led_in_slot keys id directory slot under)

-- A choice is as much there after it was mapped.
pub mapped : {A B : Type 0} (f : A → B) (o : Option A) → is_some (option_map f o) ≡ is_some o
mapped f None = refl
mapped f (Some x) = refl

-- the refusals in their order
abbrev pub chain : Bool → Bool → Result (Unit {0}) Cause
chain there many = do
  _ ← refused_if there causes.Exists
  refused_if many causes.Crowded

-- So adding a name is refused where the forest refuses it, and as the forest does.
pub refused_alike : (keys : KeyMap) (id directory : ℕ) (link : Link) → Rise name_cmp (map (λ l. l.name) (links_in keys id directory (slot_of link.name))) → All (λ l. slot_of l.name ≡ slot_of link.name) (links_in keys id directory (slot_of link.name))
    → check_name link.name (names_in keys id directory) ≡ refusal_of (step_to_add keys id directory link)
refused_alike keys id directory link rise under =
    (λ i. chain (shown i) (nat_le names_per_slot (counted keys id directory (slot_of link.name) rise under i)))
    ∙ by (has_name keys id directory link.name) (is_full keys id directory (slot_of link.name))
  where
    shown : is_some (value_at name_cmp link.name (names_in keys id directory)) ≡ has_name keys id directory link.name
    shown =
        ap is_some (name_at keys id directory link.name)
        ∙ mapped (λ (l : Link). l.number) (link_named link.name (links_in keys id directory (slot_of link.name)))
        ∙ sym (mapped (λ (l : Link). (l.number, l.kind)) (link_named link.name (links_in keys id directory (slot_of link.name))))

    by : (there many : Bool) → chain there many ≡ refusal_of (cond there steps.Exists (cond many steps.Crowded (steps.Done (updates_to_add keys id directory link))))
    by true many = refl
    by false true = refl
    by false false = refl
