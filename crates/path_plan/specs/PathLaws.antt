-- Where names lead by the keys they lead in the forest, and what is so of an inode that is found along a path.
use Rattle.std.proofs.Common.{◌≡◌, ℕ, suc, ◌<◌, Bool, true, false, cond, Option, Some, None, List, [], ◌∷◌, refl, sym, ap, ◌∙◌, subst, drop, drop-cons, get_or, length}
use Rattle.std.specs.Prelude.{Result, Ok, Err, is_ok, not, option_map}
use Rattle.std.specs.Option.{ok_or}
use Rattle.std.proofs.lemmas.Bool.{false≢true}
use Rattle.forest_ops.specs.Along.{directory_along, directory_in}
use Rattle.forest_ops.specs.RefusalLaws.{map_then, then_assoc}
use Rattle.forest_ops.specs.Refusals.{◌>>=◌, refused_if, result_map}
use Rattle.forest_ops.specs.Walking.{Inode, inode_at, named_in, names_in, same_name, shared_tree, walk}
use Rattle.forest_ops.specs.declared.operation.Cause.{Cause}
use Rattle.forest_ops.specs.declared.operation.Cause.TheVariants.{BadPath, Cross, NoSubvolume, NotDir, NotFound}
use Rattle.path_plan.specs.Looking.{directory_of, if_directory, inode_at_spot, lead_to, leads_to, reached_along, shared_sub, spot_along}
use Rattle.path_plan.specs.declared.walking.Spot.{Spot}
use Rattle.key_meaning.specs.Forest.{Read, forest_in, is_directory, kind_in, number_in, sub_named}
use Rattle.key_meaning.specs.Forest as keys_mean
use Rattle.key_meaning.specs.ForestLaws.{directory_at, name_at, tree_at}
use Rattle.plain_forest.specs.Forest.{Names, Tree}
use Rattle.plain_forest.specs.Names.{is_good_path}
use Rattle.plain_forest.specs.declared.path.Path.{Path}
use Rattle.vol_types.specs.KeyMaps.{KeyMap}
use Rattle.vol_types.specs.Maps.{value_at}
use Rattle.vol_types.specs.Ranges.{name_cmp}
use Rattle.vol_types.specs.declared.values.Sub.{Sub}

module _ (keys : KeyMap) (read : Read) (sub : Sub) where
  abbrev tree : Tree
  tree = keys_mean.tree_of keys read sub

  -- A number has names in the tree where it is a directory,
  pub held : (number : ℕ) → names_in tree number ≡ (refused_if (not (is_directory (kind_in keys sub.id number))) NotDir >>= (λ _. Ok (keys_mean.names_in keys sub.id number)))
  held number = ap (λ o. ok_or o NotDir) (directory_at keys sub.id number) ∙ by (is_directory (kind_in keys sub.id number))
    where
      by : (b : Bool) → ok_or (cond b (Some (keys_mean.names_in keys sub.id number)) None) NotDir ≡ (refused_if (not b) NotDir >>= (λ _. Ok (keys_mean.names_in keys sub.id number)))
      by true = refl
      by false = refl

  -- a name leads in the tree where it leads by the keys,
  pub leads : (number : ℕ) (name : List ℕ) → named_in tree number name ≡ leads_to keys sub.id number name
  leads number name =
      ap (λ (r : Result Names Cause). r >>= (λ names. ok_or (value_at name_cmp name names) NotFound)) (held number)
      ∙ then_assoc (refused_if (not (is_directory (kind_in keys sub.id number))) NotDir) (λ _. Ok (keys_mean.names_in keys sub.id number)) (λ names. ok_or (value_at name_cmp name names) NotFound)
      ∙ (λ i. refused_if (not (is_directory (kind_in keys sub.id number))) NotDir >>= (λ _. ok_or (name_at keys sub.id number name i) NotFound))

  -- and so do several.
  pub walks : (names : List (List ℕ)) (number : ℕ) → walk tree names number ≡ lead_to keys sub.id names number
  walks [] number = refl
  walks (name ∷ names) number = ap (λ (r : Result ℕ Cause). r >>= (λ next. walk tree names next)) (leads number name) ∙ (λ i. leads_to keys sub.id number name >>= (λ next. walks names next i))

  ended : (number : ℕ) → (names_in tree number >>= (λ names. Ok (record { tree = tree; number = number; names = names }))) ≡ result_map (directory_of keys read) (if_directory keys (record { sub = sub; number = number }))
  ended number =
      ap (λ (r : Result Names Cause). r >>= (λ names. Ok (record { tree = tree; number = number; names = names }))) (held number) ∙ by (is_directory (kind_in keys sub.id number))
    where
      by : (b : Bool) → ((refused_if (not b) NotDir >>= (λ _. Ok (keys_mean.names_in keys sub.id number))) >>= (λ names. Ok (record { tree = tree; number = number; names = names })))
          ≡ result_map (directory_of keys read) (refused_if (not b) NotDir >>= (λ _. Ok (record { sub = sub; number = number })))
      by true = refl
      by false = refl

  -- where the names of a path lead from the root
  abbrev walked : List (List ℕ) → Result Spot Cause
  walked names = lead_to keys sub.id names sub.root >>= (λ number. Ok (record { sub = sub; number = number }))

  directory_is : (names : List (List ℕ)) → directory_in tree names ≡ result_map (directory_of keys read) (walked names >>= if_directory keys)
  directory_is names =
      ap (λ (r : Result ℕ Cause). r >>= (λ number. names_in tree number >>= (λ held. Ok (record { tree = tree; number = number; names = held })))) (walks names sub.root)
      ∙ (λ i. lead_to keys sub.id names sub.root >>= (λ number. ended number i))
      ∙ sym (map_then (directory_of keys read) (lead_to keys sub.id names sub.root) (λ number. if_directory keys (record { sub = sub; number = number })))
      ∙ ap (result_map (directory_of keys read)) (sym (then_assoc (lead_to keys sub.id names sub.root) (λ number. Ok (record { sub = sub; number = number })) (if_directory keys)))

  inode_is : (names : List (List ℕ)) → (walk tree names tree.root >>= (λ number. Ok (record { tree = tree; number = number }))) ≡ result_map (inode_at_spot keys read) (walked names)
  inode_is names =
      ap (λ (r : Result ℕ Cause). r >>= (λ number. Ok (record { tree = tree; number = number }))) (walks names sub.root)
      ∙ sym (map_then (inode_at_spot keys read) (lead_to keys sub.id names sub.root) (λ number. Ok (record { sub = sub; number = number })))

-- The directory along a path by the keys is the one in the forest, or both are refused for one cause.
pub along_is : (keys : KeyMap) (read : Read) (path : Path) (names : List (List ℕ)) → directory_along path names (forest_in keys read) ≡ result_map (directory_of keys read) (spot_along keys path names)
along_is keys read path names =
    ap (λ (o : Option Tree). (refused_if (not (is_good_path path)) BadPath >>= (λ _. ok_or o NoSubvolume)) >>= (λ tree. directory_in tree names)) (tree_at keys read path.sub) ∙ by (is_good_path path) (sub_named keys path.sub)
  where
    by : (good : Bool) (found : Option Sub) → ((refused_if (not good) BadPath >>= (λ _. ok_or (option_map (keys_mean.tree_of keys read) found) NoSubvolume)) >>= (λ tree. directory_in tree names))
        ≡ result_map (directory_of keys read) (((refused_if (not good) BadPath >>= (λ _. ok_or found NoSubvolume)) >>= (λ sub. walked keys read sub names)) >>= if_directory keys)
    by false found = refl
    by true None = refl
    by true (Some sub) = directory_is keys read sub names

-- The inode at a path by the keys is the one in the forest, or both are refused for one cause.
pub inode_along_is : (keys : KeyMap) (read : Read) (path : Path) → inode_at path (forest_in keys read) ≡ result_map (inode_at_spot keys read) (reached_along keys path path.names)
inode_along_is keys read path =
    ap (λ (o : Option Tree). (refused_if (not (is_good_path path)) BadPath >>= (λ _. ok_or o NoSubvolume)) >>= at) (tree_at keys read path.sub) ∙ by (is_good_path path) (sub_named keys path.sub)
  where
    at : Tree → Result Inode Cause
    at tree = walk tree path.names tree.root >>= (λ number. Ok (record { tree = tree; number = number }))

    by : (good : Bool) (found : Option Sub) → ((refused_if (not good) BadPath >>= (λ _. ok_or (option_map (keys_mean.tree_of keys read) found) NoSubvolume)) >>= at)
        ≡ result_map (inode_at_spot keys read) ((refused_if (not good) BadPath >>= (λ _. ok_or found NoSubvolume)) >>= (λ sub. walked keys read sub path.names))
    by false found = refl
    by true None = refl
    by true (Some sub) = inode_is keys read sub path.names

-- The subvolume of two paths by the keys is that of their tree in the forest, or both are refused for one cause.
pub shared_is : (keys : KeyMap) (read : Read) (from to : Path) → shared_tree from to (forest_in keys read) ≡ result_map (keys_mean.tree_of keys read) (shared_sub keys from to)
shared_is keys read from to =
    ap (λ (o : Option Tree). refused_if (not (is_good_path from)) BadPath >>= (λ _. refused_if (not (is_good_path to)) BadPath >>= (λ _. refused_if (not (same_name from.sub to.sub)) Cross >>= (λ _. ok_or o NoSubvolume)))) (tree_at keys read from.sub)
    ∙ by (is_good_path from) (is_good_path to) (same_name from.sub to.sub) (sub_named keys from.sub)
  where
    by : (one other same : Bool) (found : Option Sub)
        → (refused_if (not one) BadPath >>= (λ _. refused_if (not other) BadPath >>= (λ _. refused_if (not same) Cross >>= (λ _. ok_or (option_map (keys_mean.tree_of keys read) found) NoSubvolume))))
        ≡ result_map (keys_mean.tree_of keys read) (refused_if (not one) BadPath >>= (λ _. refused_if (not other) BadPath >>= (λ _. refused_if (not same) Cross >>= (λ _. ok_or found NoSubvolume))))
    by false other same found = refl
    by true false same found = refl
    by true true false found = refl
    by true true true None = refl
    by true true true (Some sub) = refl

-- Both paths are good, and the subvolume is that of the first one.
pub record IsShared (keys : KeyMap) (from to : Path) (sub : Sub) : Type 0 where
  pub from_good : is_good_path from ≡ true
  pub to_good : is_good_path to ≡ true
  pub found : sub_named keys from.sub ≡ Some sub

-- A subvolume in which two paths lie is such a one.
pub sub_is_shared : (keys : KeyMap) (from to : Path) (sub : Sub) → shared_sub keys from to ≡ Ok sub → IsShared keys from to sub
sub_is_shared keys from to sub is = by (is_good_path from) (is_good_path to) (same_name from.sub to.sub) (sub_named keys from.sub) refl refl refl is
  where
    refused : {X : Type 0} {cause : Cause} → Err cause ≡ Ok sub → X
    refused same = absurd (false≢true (ap (λ (r : Result Sub Cause). is_ok r) same))

    sub_or : Result Sub Cause → Sub
    sub_or (Ok found) = found
    sub_or (Err cause) = sub

    by : (one other same : Bool) (found : Option Sub) → is_good_path from ≡ one → is_good_path to ≡ other → sub_named keys from.sub ≡ found
        → (refused_if (not one) BadPath >>= (λ _. refused_if (not other) BadPath >>= (λ _. refused_if (not same) Cross >>= (λ _. ok_or found NoSubvolume)))) ≡ Ok sub → IsShared keys from to sub
    by false other same found one_is other_is found_is came = refused came
    by true false same found one_is other_is found_is came = refused came
    by true true false found one_is other_is found_is came = refused came
    by true true true None one_is other_is found_is came = refused came
    by true true true (Some there) one_is other_is found_is came = record { from_good = one_is; to_good = other_is; found = found_is ∙ ap (λ (r : Result Sub Cause). Some (sub_or r)) came }

-- The inode is one in the subvolume of the path, which is good, and the names lead to it from the root.
pub record IsReached (keys : KeyMap) (path : Path) (names : List (List ℕ)) (spot : Spot) : Type 0 where
  pub good : is_good_path path ≡ true
  pub sub : sub_named keys path.sub ≡ Some spot.sub
  pub leads : lead_to keys spot.sub.id names spot.sub.root ≡ Ok spot.number

-- the value, or another one where there is none
abbrev value_or : Spot → Result Spot Cause → Spot
value_or other (Ok spot) = spot
value_or other (Err cause) = other

-- An inode that is found by the keys is such a one.
pub spot_is_reached : (keys : KeyMap) (path : Path) (names : List (List ℕ)) (spot : Spot) → reached_along keys path names ≡ Ok spot → IsReached keys path names spot
spot_is_reached keys path names spot is = by (is_good_path path) (sub_named keys path.sub) refl refl is
  where
    refused : {X : Type 0} {cause : Cause} → Err cause ≡ Ok spot → X
    refused same = absurd (false≢true (ap (λ (r : Result Spot Cause). is_ok r) same))

    at : (sub : Sub) (to : Result ℕ Cause) → is_good_path path ≡ true → sub_named keys path.sub ≡ Some sub → lead_to keys sub.id names sub.root ≡ to → (to >>= (λ number. Ok (record { sub = sub; number = number }))) ≡ Ok spot → IsReached keys path names spot
    at sub (Ok number) good found leads same = subst (IsReached keys path names) (ap (value_or spot) same) (record { good = good; sub = found; leads = leads })
    at sub (Err cause) good found leads same = refused same

    by : (good : Bool) (found : Option Sub) → is_good_path path ≡ good → sub_named keys path.sub ≡ found
        → ((refused_if (not good) BadPath >>= (λ _. ok_or found NoSubvolume)) >>= (λ sub. lead_to keys sub.id names sub.root >>= (λ number. Ok (record { sub = sub; number = number })))) ≡ Ok spot → IsReached keys path names spot
    by false found bad is same = refused same
    by true None good is same = refused same
    by true (Some sub) good is same = at sub (lead_to keys sub.id names sub.root) good is refl same

-- The directory is one in the subvolume of the path, which is good.
pub record IsSpot (keys : KeyMap) (path : Path) (spot : Spot) : Type 0 where
  pub good : is_good_path path ≡ true
  pub sub : sub_named keys path.sub ≡ Some spot.sub
  pub directory : is_directory (kind_in keys spot.sub.id spot.number) ≡ true

-- A directory that is found by the keys is such a one.
pub spot_is : (keys : KeyMap) (path : Path) (names : List (List ℕ)) (spot : Spot) → spot_along keys path names ≡ Ok spot → IsSpot keys path spot
spot_is keys path names spot is = by (reached_along keys path names) refl is
  where
    refused : {X : Type 0} {cause : Cause} → Err cause ≡ Ok spot → X
    refused same = absurd (false≢true (ap (λ (r : Result Spot Cause). is_ok r) same))

    at : (there : Spot) (b : Bool) → IsReached keys path names there → is_directory (kind_in keys there.sub.id there.number) ≡ b → (refused_if (not b) NotDir >>= (λ _. Ok there)) ≡ Ok spot → IsSpot keys path spot
    at there false reached kind same = refused same
    at there true reached kind same = subst (IsSpot keys path) (ap (value_or spot) same) (record { good = reached.good; sub = reached.sub; directory = kind })

    by : (reached : Result Spot Cause) → reached_along keys path names ≡ reached → (reached >>= if_directory keys) ≡ Ok spot → IsSpot keys path spot
    by (Ok there) came same = at there (is_directory (kind_in keys there.sub.id there.number)) (spot_is_reached keys path names there came) refl same
    by (Err cause) came same = refused same

-- A walk begins with its first name.
pub walk_step : (keys : KeyMap) (id : ℕ) (names : List (List ℕ)) (index next number : ℕ) (name : List ℕ) → index < length names → next ≡ suc index → name ≡ get_or names index name
    → lead_to keys id (drop index names) number ≡ (leads_to keys id number name >>= (λ to. lead_to keys id (drop next names) to))
walk_step keys id names index next number name below after is =
    ap (λ ns. lead_to keys id ns number) (drop-cons names index name below)
    ∙ ap (λ n. leads_to keys id number n >>= (λ to. lead_to keys id (drop (suc index) names) to)) (sym is)
    ∙ ap (λ k. leads_to keys id number name >>= (λ to. lead_to keys id (drop k names) to)) (sym after)
