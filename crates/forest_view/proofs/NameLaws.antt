-- What stands at a name after names came to a tree: where the name leads that shows in a chain.
use Rattle.std.proofs.Common.{◌≡◌, ℕ, Bool, true, false, cond, Option, Some, None, List, [], ◌∷◌, refl, sym, ap, ◌∙◌, arith}
use Rattle.std.specs.Prelude.{◌&&◌, ◌==◌, option_map}
use Rattle.std.specs.BTreeMap.{is_at}
use Rattle.std.specs.List.Sorted.{IsStrictlySortedBy}
use Rattle.std.specs.Option.{option_or}
use Rattle.std.specs.Ordering.{nat_cmp}
use Rattle.std.proofs.lemmas.Bool.Decides.{nat_tests}
use Rattle.std.proofs.lemmas.Cmp.{eq_by_cmp_equiv, nat_cmp_total}
use Rattle.std.proofs.lemmas.Map.Lookups.{exact_unsigned}
use Rattle.forest_ops.specs.Parts.{with_new}
use Rattle.key_meaning.specs.Forest.{link_named, links_of}
use Rattle.key_meaning.specs.TableLaws.{IsMap-changed_at, same_key, value_at-changed_at}
use Rattle.key_meaning.specs.Visible.{first_value, own_value}
use Rattle.plain_forest.specs.Forest.{Names, Tree}
use Rattle.plain_forest.specs.Maps.{changed_at}
use Rattle.snap_tree.specs.Names.{pair_cmp}
use Rattle.vol_digest.specs.Digests.{slot_of}
use Rattle.vol_types.specs.KeyMaps.{IsKeyMap, KeyMap}
use Rattle.vol_types.specs.Maps.{IsMap, value_at}
use Rattle.vol_types.specs.Ranges.{name_cmp}
use Rattle.vol_types.specs.declared.positions.Btree.TheVariants.{Dirents}
use Rattle.vol_types.specs.declared.values.Link.{Link}
use Rattle.vol_types.specs.declared.values.Value.{Value}
use Rattle.forest_view.specs.Nearest.{Nearest, nearest_with}
use Rattle.forest_view.specs.Shown.{with_link_in, with_links, with_names, with_names_at}
use Rattle.forest_view.proofs.Adding.{first_some, one_place, or_none, or_or, through}
use Rattle.forest_view.proofs.InodeLaws.{both_parts}
use Rattle.forest_view.proofs.NearestLaws.{nearest_rises, nearest_shows, pair_exact, pair_total}
use Rattle.forest_view.proofs.Slots.{IsMap-with_items, value_at-with_items, with_item, with_items}

same_number : (a b : ℕ) → is_at (nat_cmp a) b ≡ (a == b)
same_number a b = grind (arith, nat_tests)

map_map : {X Y Z : Type 0} (f : X → Y) (g : Y → Z) (o : Option X) → option_map g (option_map f o) ≡ option_map (λ x. g (f x)) o
map_map f g None = refl
map_map f g (Some x) = refl

map_same : {X : Type 0} (o : Option X) → option_map (λ x. x) o ≡ o
map_same None = refl
map_same (Some x) = refl

-- whether a name of one directory stands at this place
abbrev stands_at : ℕ → ℕ → ℕ → List ℕ → Bool
stands_at d directory slot name = is_at (pair_cmp (d, slot_of name)) (directory, slot)

-- the names of one directory after those of a place came
abbrev places_in : ℕ → ℕ → ℕ → List Link → Names → Names
places_in d directory slot links names = with_items (λ (link : Link). link.name) (λ (link : Link). link.number) (stands_at d directory slot) links names

module _ (d directory slot : ℕ) where
  -- where a name stands, by its directory and its slot
  stands_by : (name : List ℕ) → stands_at d directory slot name ≡ (is_at (nat_cmp directory) d && slot_of name == slot)
  stands_by name =
      both_parts (nat_cmp d directory) (nat_cmp (slot_of name) slot)
      ∙ (λ i. (eq_by_cmp_equiv nat_cmp_total).symm d directory i && same_number (slot_of name) slot i)

  -- one name
  one_link : (link : Link) (tree : Tree) → IsMap nat_cmp tree.directories
      → value_at nat_cmp d (with_link_in directory slot link tree).directories ≡ option_map (with_item (λ (link : Link). link.name) (λ (link : Link). link.number) (stands_at d directory slot) link) (value_at nat_cmp d tree.directories)
  one_link link tree rises =
      by (slot_of link.name == slot)
      ∙ ap (λ b. option_map (λ (names : Names). cond b (with_new name_cmp link.name link.number names) names) (value_at nat_cmp d tree.directories)) (sym (stands_by link.name))
    where
      change : Names → Names
      change = with_new name_cmp link.name link.number

      here : (b : Bool) (o : Option Names) → cond b (option_map (with_new name_cmp link.name link.number) o) o ≡ option_map (λ (names : Names). cond (b && true) (with_new name_cmp link.name link.number names) names) o
      here true o = refl
      here false o = sym (map_same o)

      nowhere : (b : Bool) (o : Option Names) → o ≡ option_map (λ (names : Names). cond (b && false) (with_new name_cmp link.name link.number names) names) o
      nowhere true o = sym (map_same o)
      nowhere false o = sym (map_same o)

      by : (c : Bool) → value_at nat_cmp d (cond c (record tree { directories = changed_at nat_cmp directory (with_new name_cmp link.name link.number) tree.directories }) tree).directories
          ≡ option_map (λ (names : Names). cond (is_at (nat_cmp directory) d && c) (with_new name_cmp link.name link.number names) names) (value_at nat_cmp d tree.directories)
      by true =
          value_at-changed_at nat_cmp_total exact_unsigned directory (with_new name_cmp link.name link.number) d tree.directories rises
          ∙ here (is_at (nat_cmp directory) d) (value_at nat_cmp d tree.directories)
      by false = nowhere (is_at (nat_cmp directory) d) (value_at nat_cmp d tree.directories)

  link_rises : (link : Link) (tree : Tree) → IsMap nat_cmp tree.directories → IsMap nat_cmp (with_link_in directory slot link tree).directories
  link_rises link tree rises = by (slot_of link.name == slot)
    where
      by : (c : Bool) → IsMap nat_cmp (cond c (record tree { directories = changed_at nat_cmp directory (with_new name_cmp link.name link.number) tree.directories }) tree).directories
      by true = IsMap-changed_at nat_cmp_total exact_unsigned directory (with_new name_cmp link.name link.number) tree.directories rises
      by false = rises

  all_links : (links : List Link) (tree : Tree) → IsMap nat_cmp tree.directories → value_at nat_cmp d (with_links directory slot links tree).directories ≡ option_map (places_in d directory slot links) (value_at nat_cmp d tree.directories)
  all_links [] tree rises = sym (map_same (value_at nat_cmp d tree.directories))
  all_links (link ∷ links) tree rises =
      all_links links (with_link_in directory slot link tree) (link_rises link tree rises)
      ∙ ap (option_map (places_in d directory slot links)) (one_link link tree rises)
      ∙ map_map (with_item (λ (link : Link). link.name) (λ (link : Link). link.number) (stands_at d directory slot) link) (places_in d directory slot links) (value_at nat_cmp d tree.directories)

  links_rise : (links : List Link) (tree : Tree) → IsMap nat_cmp tree.directories → IsMap nat_cmp (with_links directory slot links tree).directories
  links_rise [] tree rises = rises
  links_rise (link ∷ links) tree rises = links_rise links (with_link_in directory slot link tree) (link_rises link tree rises)

-- The directories are a map still.
pub names_rise_in : (keys : KeyMap) (nearest : Nearest) (tree : Tree) → IsMap nat_cmp tree.directories → IsMap nat_cmp (with_names keys nearest tree).directories
names_rise_in keys [] tree rises = rises
names_rise_in keys (near ∷ nearest) tree rises =
    names_rise_in keys nearest (with_names_at keys near.0.0 near.0.1 near.1 tree) (links_rise 0 near.0.0 near.0.1 (links_of (own_value keys Dirents near.0.0 near.0.1 near.1)) tree rises)

module _ (keys : KeyMap) (d : ℕ) where
  -- the names of one directory after those of all places came
  abbrev pub named : Nearest → Names → Names
  named [] names = names
  named (near ∷ nearest) names = named nearest (places_in d near.0.0 near.0.1 (links_of (own_value keys Dirents near.0.0 near.0.1 near.1)) names)

  -- A directory has the names that came to it.
  pub directory_named : (nearest : Nearest) (tree : Tree) → IsMap nat_cmp tree.directories → value_at nat_cmp d (with_names keys nearest tree).directories ≡ option_map (named nearest) (value_at nat_cmp d tree.directories)
  directory_named [] tree rises = sym (map_same (value_at nat_cmp d tree.directories))
  directory_named (near ∷ nearest) tree rises =
      let links = links_of (own_value keys Dirents near.0.0 near.0.1 near.1) in
      directory_named nearest (with_names_at keys near.0.0 near.0.1 near.1 tree) (links_rise d near.0.0 near.0.1 links tree rises)
      ∙ ap (option_map (named nearest)) (all_links d near.0.0 near.0.1 links tree rises)
      ∙ map_map (places_in d near.0.0 near.0.1 links) (named nearest) (value_at nat_cmp d tree.directories)

  pub named_rises : (nearest : Nearest) (names : Names) → IsMap name_cmp names → IsMap name_cmp (named nearest names)
  named_rises [] names rises = rises
  named_rises (near ∷ nearest) names rises =
      let links = links_of (own_value keys Dirents near.0.0 near.0.1 near.1) in
      named_rises nearest (places_in d near.0.0 near.0.1 links names) (IsMap-with_items (λ (link : Link). link.name) (λ (link : Link). link.number) (stands_at d near.0.0 near.0.1) links names rises)

  module _ (n : List ℕ) where
    -- where the first of some names leads that is this one
    abbrev leads : Option Value → Option ℕ
    leads value = option_map (λ (link : Link). link.number) (link_named n (links_of value))

    -- where an id at a place leads from this name
    abbrev led : (ℕ × ℕ) × ℕ → Option ℕ
    led near = cond (is_at (pair_cmp (d, slot_of n)) near.0) (leads (own_value keys Dirents d (slot_of n) near.1)) None

    one_place_led : (near : (ℕ × ℕ) × ℕ) (names : Names)
        → value_at name_cmp n (places_in d near.0.0 near.0.1 (links_of (own_value keys Dirents near.0.0 near.0.1 near.1)) names) ≡ option_or (value_at name_cmp n names) (led near)
    one_place_led near names =
        value_at-with_items (λ (link : Link). link.name) (λ (link : Link). link.number) (stands_at d near.0.0 near.0.1) n (links_of (own_value keys Dirents near.0.0 near.0.1 near.1)) names
        ∙ ap (option_or (value_at name_cmp n names)) (by (is_at (pair_cmp (d, slot_of n)) near.0) refl)
      where
        by : (b : Bool) → is_at (pair_cmp (d, slot_of n)) near.0 ≡ b → cond b (leads (own_value keys Dirents near.0.0 near.0.1 near.1)) None ≡ cond b (leads (own_value keys Dirents d (slot_of n) near.1)) None
        by true at = ap (λ (p : ℕ × ℕ). leads (own_value keys Dirents p.0 p.1 near.1)) (sym (same_key pair_exact (d, slot_of n) near.0 at))
        by false at = refl

    all_places_led : (nearest : Nearest) (names : Names) → value_at name_cmp n (named nearest names) ≡ option_or (value_at name_cmp n names) (first_some led nearest)
    all_places_led [] names = sym (or_none (value_at name_cmp n names))
    all_places_led (near ∷ nearest) names =
        all_places_led nearest (places_in d near.0.0 near.0.1 (links_of (own_value keys Dirents near.0.0 near.0.1 near.1)) names)
        ∙ ap (λ o. option_or o (first_some led nearest)) (one_place_led near names)
        ∙ or_or (value_at name_cmp n names) (led near) (first_some led nearest)

    -- At a name stands where the first names lead that a rising chain has under its slot.
    pub names_show : IsKeyMap keys → (chain : List ℕ) → IsStrictlySortedBy nat_cmp chain
        → value_at name_cmp n (named (nearest_with chain keys.dirents []) []) ≡ leads (first_value keys Dirents d (slot_of n) chain)
    unfolding IsStrictlySortedBy
    names_show is chain rises =
        let nearest = nearest_with chain keys.dirents [] in
        all_places_led nearest []
        ∙ one_place pair_total pair_exact (λ id. leads (own_value keys Dirents d (slot_of n) id)) (d, slot_of n) nearest (nearest_rises chain keys.dirents [] tt)
        ∙ through (own_value keys Dirents d (slot_of n)) leads refl (value_at pair_cmp (d, slot_of n) nearest)
        ∙ ap leads (nearest_shows d (slot_of n) keys Dirents is chain rises)

-- What names come to leaves the rest of a tree.
abbrev pub rest : Tree → Bool × ℕ × List (ℕ × List ℕ)
rest tree = (tree.locked, tree.root, tree.files)

links_leave : (directory slot : ℕ) (links : List Link) (tree : Tree) → rest (with_links directory slot links tree) ≡ rest tree
links_leave directory slot [] tree = refl
links_leave directory slot (link ∷ links) tree = links_leave directory slot links (with_link_in directory slot link tree) ∙ by (slot_of link.name == slot)
  where
    by : (c : Bool) → rest (cond c (record tree { directories = changed_at nat_cmp directory (with_new name_cmp link.name link.number) tree.directories }) tree) ≡ rest tree
    by true = refl
    by false = refl

pub rest_stays : (keys : KeyMap) (nearest : Nearest) (tree : Tree) → rest (with_names keys nearest tree) ≡ rest tree
rest_stays keys [] tree = refl
rest_stays keys (near ∷ nearest) tree =
    rest_stays keys nearest (with_names_at keys near.0.0 near.0.1 near.1 tree) ∙ links_leave near.0.0 near.0.1 (links_of (own_value keys Dirents near.0.0 near.0.1 near.1)) tree
