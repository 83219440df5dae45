-- What stands at a path by the keys is what the names of the path lead to, and so it is in the forest.
use Rattle.std.proofs.Common.{◌≡◌, ℕ, zero, suc, ◌-◌, Bool, true, false, Option, Some, None, List, [], ◌∷◌, ◌++◌, refl, sym, ap, ◌∙◌, subst, length, slice_get, take, arith}
use Rattle.std.specs.Prelude.{Result, Ok, Err, is_ok, not, option_map}
use Rattle.std.specs.Option.{ok_or}
use Rattle.std.proofs.lemmas.Bool.{false≢true}
use Rattle.std.proofs.lemmas.Option.{same_Some, none-some as none_some}
use Rattle.dirent_keys.specs.Names.{Target, target_in}
use Rattle.forest_ops.specs.RefusalLaws.{then_assoc, then_ok}
use Rattle.forest_ops.specs.Refusals.{◌>>=◌, refused_if, result_map}
use Rattle.forest_ops.specs.Walking.{Directory, names_in, same_name, walk}
use Rattle.forest_ops.specs.declared.operation.Cause.{Cause}
use Rattle.forest_ops.specs.declared.operation.Cause.TheVariants.{BadPath, Cross, NoSubvolume, NotDir, NotFound}
use Rattle.key_meaning.specs.Forest.{Read, is_directory, kind_in, link_named, links_in, sub_named}
use Rattle.key_meaning.specs.Forest as keys_mean
use Rattle.name_plan.proofs.DirectoriesUnder.{directory_at, directory_is}
use Rattle.name_plan.specs.Directories.{directory_under}
use Rattle.name_plan.specs.Moved.{source_at, source_by, source_of}
use Rattle.name_plan.specs.declared.renaming.Source.{Source}
use Rattle.path_plan.specs.Looking.{lead_to, leads_to, shared_sub}
use Rattle.path_plan.specs.PathLaws.{walks}
use Rattle.plain_forest.specs.Forest.{Names, Tree}
use Rattle.plain_forest.specs.Names.{is_good_path, last_name, parent_names}
use Rattle.plain_forest.specs.declared.path.Path.{Path}
use Rattle.vol_digest.specs.Digests.{slot_of}
use Rattle.vol_types.specs.KeyMaps.{KeyMap}
use Rattle.vol_types.specs.declared.values.Link.{Link}
use Rattle.vol_types.specs.declared.values.Sub.{Sub}

-- names that have one at this place, and none behind it, end with it
end_at : (names : List (List ℕ)) (place : ℕ) (name : List ℕ) → length names ≡ suc place → slice_get names place ≡ Some name → names ≡ take place names ++ name ∷ []
end_at [] place name is at = absurd (none_some name at)
end_at (first ∷ []) zero name is at = ap (λ n. n ∷ []) (same_Some first name at)
end_at (first ∷ []) (suc place) name is at = absurd (none_some name at)
end_at (first ∷ second ∷ names) zero name is at = absurd (omega (arith, is))
end_at (first ∷ second ∷ names) (suc place) name is at = ap (λ ns. first ∷ ns) (end_at (second ∷ names) place name (omega (arith, is)) at)

-- names of which one is the last one end with it,
end_with : (names : List (List ℕ)) (name : List ℕ) → slice_get names (length names - 1) ≡ Some name → names ≡ take (length names - 1) names ++ name ∷ []
end_with [] name last = absurd (none_some name last)
end_with (first ∷ names) name last = end_at (first ∷ names) (length (first ∷ names) - 1) name (omega arith) last

-- there is one at each place within the names,
is_there : (names : List (List ℕ)) (first : List ℕ) (place : ℕ) → length (first ∷ names) ≡ suc place → slice_get (first ∷ names) place ≡ None → ⊥
is_there names first zero is none = none_some first (sym none)
is_there [] first (suc place) is none = omega (arith, is)
is_there (second ∷ names) first (suc place) is none = is_there names second place (omega (arith, is)) none

-- and names without a last one are none.
no_names : (names : List (List ℕ)) → slice_get names (length names - 1) ≡ None → names ≡ []
no_names [] none = refl
no_names (first ∷ names) none = absurd (is_there names first (length (first ∷ names) - 1) (omega arith) none)

-- what comes of what is seen of a value comes of the value
pub seen_then : {A B C : Type 0} (see : A → B) (r : Result A Cause) (next : B → Result C Cause) → (result_map see r >>= next) ≡ (r >>= (λ x. next (see x)))
seen_then see (Ok x) next = refl
seen_then see (Err cause) next = refl

-- the number of what stands at a path
abbrev pub number_of : Source → ℕ
number_of source = source.number

-- the value, or another one where there is none
abbrev value_or : {X : Type 0} → X → Result X Cause → X
value_or other (Ok x) = x
value_or other (Err cause) = other

-- values of which the results are equal
pub same_value : {X : Type 0} {x y : X} → ◌≡◌ {A = Result X Cause} (Ok x) (Ok y) → x ≡ y
same_value {X} {x} {y} same = ap (value_or x) same

-- a refusal is no value
refused : {X Y : Type 0} {cause : Cause} {x : X} → Err cause ≡ Ok x → Y
refused {X} same = absurd (false≢true (ap (λ (r : Result X Cause). is_ok r) same))

-- Two paths that share a subvolume name the same one.
pub subs_are_same : (keys : KeyMap) (from to : Path) (sub : Sub) → shared_sub keys from to ≡ Ok sub → same_name from.sub to.sub ≡ true
subs_are_same keys from to sub is = by (is_good_path from) (is_good_path to) (same_name from.sub to.sub) is
  where
    by : (one other same : Bool) → (refused_if (not one) BadPath >>= (λ _. refused_if (not other) BadPath >>= (λ _. refused_if (not same) Cross >>= (λ _. ok_or (sub_named keys from.sub) NoSubvolume)))) ≡ Ok sub → same ≡ true
    by false other same came = refused came
    by true false same came = refused came
    by true true false came = refused came
    by true true true came = refl

module _ (keys : KeyMap) (sub : Sub) where
  -- A directory that is found under some names is one to which they lead.
  pub leads_under : (names : List (List ℕ)) (directory : ℕ) → directory_under keys sub names ≡ Ok directory → lead_to keys sub.id names sub.root ≡ Ok directory
  leads_under names directory found = by (lead_to keys sub.id names sub.root) found
    where
      at : (number : ℕ) (b : Bool) → (refused_if (not b) NotDir >>= (λ _. Ok number)) ≡ Ok directory → ◌≡◌ {A = Result ℕ Cause} (Ok number) (Ok directory)
      at number true same = same
      at number false same = refused same

      by : (to : Result ℕ Cause) → (to >>= (λ number. refused_if (not (is_directory (kind_in keys sub.id number))) NotDir >>= (λ _. Ok number))) ≡ Ok directory → to ≡ Ok directory
      by (Ok number) same = at number (is_directory (kind_in keys sub.id number)) same
      by (Err cause) same = refused same

  -- The name stands in the directory of what is found, and leads to it.
  pub record IsNamedSource (path : Path) (name : List ℕ) (source : Source) : Type 0 where
    pub under : directory_under keys sub (parent_names path) ≡ Ok source.directory
    pub target : target_in keys sub.id source.directory name ≡ Some (source.number, source.kind)

  -- What is found at a path that has a last name is such a one.
  pub is_named : (path : Path) (name : List ℕ) (source : Source) → last_name path ≡ Some name → source_of keys sub path ≡ Ok source → IsNamedSource path name source
  is_named path name source last found = by (directory_under keys sub (parent_names path)) refl (sym (ap (source_by keys sub path) last) ∙ found)
    where
      at : (directory : ℕ) (target : Option Target) → directory_under keys sub (parent_names path) ≡ Ok directory → target_in keys sub.id directory name ≡ target → source_at directory target ≡ Ok source → IsNamedSource path name source
      at directory None under is same = refused same
      at directory (Some target) under is same = subst (IsNamedSource path name) (ap (value_or source) same) (record { under = under; target = is })

      by : (found : Result ℕ Cause) → directory_under keys sub (parent_names path) ≡ found → (found >>= (λ directory. source_at directory (target_in keys sub.id directory name))) ≡ Ok source → IsNamedSource path name source
      by (Ok directory) under same = at directory (target_in keys sub.id directory name) under refl same
      by (Err cause) under same = refused same

  -- names lead on from where the first ones lead
  lead_to-append : (names more : List (List ℕ)) (number : ℕ) → lead_to keys sub.id (names ++ more) number ≡ (lead_to keys sub.id names number >>= lead_to keys sub.id more)
  lead_to-append [] more number = refl
  lead_to-append (name ∷ names) more number =
      (λ i. leads_to keys sub.id number name >>= (λ next. lead_to-append names more next i)) ∙ sym (then_assoc (leads_to keys sub.id number name) (lead_to keys sub.id names) (lead_to keys sub.id more))

  -- The names of a path lead to what stands there.
  pub source_is : (path : Path) → lead_to keys sub.id path.names sub.root ≡ result_map number_of (source_of keys sub path)
  source_is path = by (last_name path) refl
    where
      led : List ℕ → Result ℕ Cause → Result ℕ Cause
      led name to = to >>= (λ directory. leads_to keys sub.id directory name)

      found : List ℕ → Result ℕ Cause → Result Source Cause
      found name to = (to >>= (λ number. refused_if (not (is_directory (kind_in keys sub.id number))) NotDir >>= (λ _. Ok number))) >>= (λ directory. source_at directory (target_in keys sub.id directory name))

      named : (directory : ℕ) (b : Bool) (link : Option Link)
          → (refused_if (not b) NotDir >>= (λ _. ok_or (option_map (λ (l : Link). l.number) link) NotFound))
          ≡ result_map number_of ((refused_if (not b) NotDir >>= (λ _. Ok directory)) >>= (λ d. source_at d (option_map (λ (l : Link). (l.number, l.kind)) link)))
      named directory false link = refl
      named directory true None = refl
      named directory true (Some link) = refl

      same : (name : List ℕ) (to : Result ℕ Cause) → led name to ≡ result_map number_of (found name to)
      same name (Err cause) = refl
      same name (Ok directory) = at (is_directory (kind_in keys sub.id directory))
        where
          at : (b : Bool) → (refused_if (not b) NotDir >>= (λ _. ok_or (keys_mean.number_in keys sub.id directory name) NotFound))
              ≡ result_map number_of ((refused_if (not b) NotDir >>= (λ _. Ok directory)) >>= (λ d. source_at d (target_in keys sub.id d name)))
          at false = refl
          at true = named directory true (link_named name (links_in keys sub.id directory (slot_of name)))

      by : (last : Option (List ℕ)) → last_name path ≡ last → lead_to keys sub.id path.names sub.root ≡ result_map number_of (source_by keys sub path last)
      by None none = ap (λ names. lead_to keys sub.id names sub.root) (no_names path.names none)
      by (Some name) last =
          ap (λ names. lead_to keys sub.id names sub.root) (end_with path.names name last)
          ∙ lead_to-append (parent_names path) (name ∷ []) sub.root
          ∙ (λ i. lead_to keys sub.id (parent_names path) sub.root >>= (λ directory. then_ok (leads_to keys sub.id directory name) i))
          ∙ same name (lead_to keys sub.id (parent_names path) sub.root)

  module _ (read : Read) where
    abbrev tree : Tree
    tree = keys_mean.tree_of keys read sub

    -- What comes in the forest of the number to which the names of a path lead comes of what stands there by the keys,
    pub source_then : {X : Type 0} (path : Path) (next : ℕ → Result X Cause) → (walk tree path.names tree.root >>= next) ≡ (source_of keys sub path >>= (λ source. next source.number))
    source_then path next = ap (λ (r : Result ℕ Cause). r >>= next) (walks keys read sub path.names sub.root ∙ source_is path) ∙ seen_then number_of (source_of keys sub path) next

    -- and what comes of a directory and its names comes of the directory by the keys.
    pub directory_then : {X : Type 0} (names : List (List ℕ)) (next : ℕ → Names → Result X Cause)
        → (walk tree names tree.root >>= (λ directory. names_in tree directory >>= next directory)) ≡ (directory_under keys sub names >>= (λ directory. next directory (keys_mean.names_in keys sub.id directory)))
    directory_then {X} names next =
        sym (then_assoc (walk tree names tree.root) (λ number. names_in tree number >>= (λ held. Ok (record { tree = tree; number = number; names = held }))) then
        ∙ (λ i. walk tree names tree.root >>= (λ number. then_assoc (names_in tree number) (λ held. Ok (record { tree = tree; number = number; names = held })) then i)))
        ∙ ap (λ (r : Result Directory Cause). r >>= then) (directory_is keys read sub names)
        ∙ seen_then (directory_at keys read sub) (directory_under keys sub names) then
      where
        then : Directory → Result X Cause
        then directory = next directory.number directory.names
