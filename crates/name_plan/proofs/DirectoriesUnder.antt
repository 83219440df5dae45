-- The directory under a subvolume's root by the keys is the one in the forest.
use Rattle.std.proofs.Common.{◌≡◌, ℕ, Bool, true, false, List, refl, sym, ap, ◌∙◌, subst}
use Rattle.std.specs.Prelude.{Result, Ok, Err, is_ok, not}
use Rattle.std.proofs.lemmas.Bool.{false≢true}
use Rattle.forest_ops.specs.Along.{directory_in}
use Rattle.forest_ops.specs.RefusalLaws.{map_then}
use Rattle.forest_ops.specs.Refusals.{◌>>=◌, refused_if, result_map}
use Rattle.forest_ops.specs.Walking.{Directory, names_in}
use Rattle.forest_ops.specs.declared.operation.Cause.{Cause}
use Rattle.forest_ops.specs.declared.operation.Cause.TheVariants.{NotDir}
use Rattle.key_meaning.specs.Forest.{Read, is_directory, kind_in}
use Rattle.key_meaning.specs.Forest as keys_mean
use Rattle.name_plan.specs.Directories.{directory_under}
use Rattle.path_plan.specs.Looking.{lead_to}
use Rattle.path_plan.specs.PathLaws.{held, walks}
use Rattle.plain_forest.specs.Forest.{Names}
use Rattle.vol_types.specs.KeyMaps.{KeyMap}
use Rattle.vol_types.specs.declared.values.Sub.{Sub}

-- the directory of a number in the tree of a subvolume
abbrev pub directory_at : KeyMap → Read → Sub → ℕ → Directory
directory_at keys read sub number = record { tree = keys_mean.tree_of keys read sub; number = number; names = keys_mean.names_in keys sub.id number }

-- Names lead to a directory in the tree where they do by the keys, or are refused for one cause.
pub directory_is : (keys : KeyMap) (read : Read) (sub : Sub) (names : List (List ℕ)) → directory_in (keys_mean.tree_of keys read sub) names ≡ result_map (directory_at keys read sub) (directory_under keys sub names)
directory_is keys read sub names =
    ap (λ (r : Result ℕ Cause). r >>= (λ number. names_in (keys_mean.tree_of keys read sub) number >>= (λ shown. Ok (record { tree = keys_mean.tree_of keys read sub; number = number; names = shown })))) (walks keys read sub names sub.root)
    ∙ (λ i. lead_to keys sub.id names sub.root >>= (λ number. ended number i))
    ∙ sym (map_then (directory_at keys read sub) (lead_to keys sub.id names sub.root) (λ number. refused_if (not (is_directory (kind_in keys sub.id number))) NotDir >>= (λ _. Ok number)))
  where
    by : (number : ℕ) (b : Bool) → ((refused_if (not b) NotDir >>= (λ _. Ok (keys_mean.names_in keys sub.id number))) >>= (λ shown. Ok (record { tree = keys_mean.tree_of keys read sub; number = number; names = shown })))
        ≡ result_map (directory_at keys read sub) (refused_if (not b) NotDir >>= (λ _. Ok number))
    by number true = refl
    by number false = refl

    ended : (number : ℕ) → (names_in (keys_mean.tree_of keys read sub) number >>= (λ shown. Ok (record { tree = keys_mean.tree_of keys read sub; number = number; names = shown })))
        ≡ result_map (directory_at keys read sub) (refused_if (not (is_directory (kind_in keys sub.id number))) NotDir >>= (λ _. Ok number))
    ended number = ap (λ (r : Result Names Cause). r >>= (λ shown. Ok (record { tree = keys_mean.tree_of keys read sub; number = number; names = shown }))) (held keys read sub number) ∙ by number (is_directory (kind_in keys sub.id number))

-- What is found so is a directory.
pub found_is_directory : (keys : KeyMap) (sub : Sub) (names : List (List ℕ)) (number : ℕ) → directory_under keys sub names ≡ Ok number → is_directory (kind_in keys sub.id number) ≡ true
found_is_directory keys sub names number is = by (lead_to keys sub.id names sub.root) is
  where
    refused : {P : Type 0} {cause : Cause} → Err cause ≡ Ok number → P
    refused same = absurd (false≢true (ap (λ (r : Result ℕ Cause). is_ok r) same))

    number_or : Result ℕ Cause → ℕ
    number_or (Ok there) = there
    number_or (Err cause) = number

    at : (there : ℕ) (b : Bool) → is_directory (kind_in keys sub.id there) ≡ b → (refused_if (not b) NotDir >>= (λ _. Ok there)) ≡ Ok number → is_directory (kind_in keys sub.id number) ≡ true
    at there false kind same = refused same
    at there true kind same = subst (λ n. is_directory (kind_in keys sub.id n) ≡ true) (ap number_or same) kind

    by : (leads : Result ℕ Cause) → (leads >>= (λ there. refused_if (not (is_directory (kind_in keys sub.id there))) NotDir >>= (λ _. Ok there))) ≡ Ok number → is_directory (kind_in keys sub.id number) ≡ true
    by (Ok there) same = at there (is_directory (kind_in keys sub.id there)) refl same
    by (Err cause) same = refused same
