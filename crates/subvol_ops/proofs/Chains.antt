-- The refusals of a plan on subvolumes are the forest's, in its order.
use Rattle.std.proofs.Common.{◌≡◌, ℕ, ◌^◌, ◌<◌, ◌≤◌, Bool, true, false, cond, Option, Some, None, List, refl, sym, ap, ◌∙◌, subst, length, arith}
use Rattle.std.specs.Prelude.{◌&&◌, Result, Ok, Err, is_ok, is_some, nat_le, nat_lt, not, option_map}
use Rattle.std.specs.Option.{ok_or}
use Rattle.std.specs.Ordering.{nat_cmp}
use Rattle.std.proofs.lemmas.Bool.{false≢true, leb-false, leb-true, ltb-false, ltb-true, lt-ltb}
use Rattle.forest_ops.specs.Names.{count_in_slot, names_per_slot}
use Rattle.forest_ops.specs.Refusals.{◌>>=◌, Agrees, refused_if, result_map}
use Rattle.forest_ops.specs.Subvolumes.{good_subvolume, max_subvolumes, new_subvolume}
use Rattle.forest_ops.specs.Walking.{tree_named}
use Rattle.forest_ops.specs.declared.operation.Cause.{Cause}
use Rattle.forest_ops.specs.declared.operation.Cause.TheVariants.{BadPath, Crowded, Exists, IdsSpent, NoSubvolume, TooMany}
use Rattle.id_steps.specs.Entries.{sub_of}
use Rattle.key_meaning.specs.Checks.{DoLeavesMatch}
use Rattle.key_meaning.specs.Forest.{Read, forest_in, sub_named, subs_in}
use Rattle.key_meaning.specs.Forest as keys_mean
use Rattle.key_meaning.specs.ForestLaws.{tree_at}
use Rattle.key_meaning.specs.SoundLaws.{sub_named-is}
use Rattle.key_meaning.specs.Visible.{snaps_of}
use Rattle.plain_forest.specs.Forest.{Tree}
use Rattle.plain_forest.specs.Names.{is_good_subvolume_name}
use Rattle.snap_tree.specs.Snaps.{live_leaves}
use Rattle.subvol_ops.specs.Plans.{found_copied, found_in, made_drawn, room_among, room_in, snapshot_made, subvolume_made, subvolume_removed, updates_to_remove}
use Rattle.subvol_ops.specs.Slots.{next_id}
use Rattle.vol_digest.specs.Digests.{slot_of}
use Rattle.vol_types.specs.KeyMaps.{KeyMap}
use Rattle.vol_types.specs.Maps.{value_at}
use Rattle.vol_types.specs.Ranges.{name_cmp}
use Rattle.vol_types.specs.declared.values.Snap.{Snap}
use Rattle.vol_types.specs.declared.values.Sub.{Sub}

-- a refusal is no value
refused : {X Y : Type 0} {cause : Cause} {x : X} → Err cause ≡ Ok x → Y
refused {X} same = absurd (false≢true (ap (λ (r : Result X Cause). is_ok r) same))

-- values of which the results are equal
same_value : {X : Type 0} {x y : X} → ◌≡◌ {A = Result X Cause} (Ok x) (Ok y) → x ≡ y
same_value {X} {x} {y} same = ap value_or same
  where
    value_or : Result X Cause → X
    value_or (Ok z) = z
    value_or (Err cause) = x

-- A name that may be a subvolume's is good.
pub good_is : (name : List ℕ) → good_subvolume name ≡ Ok tt → is_good_subvolume_name name ≡ true
good_is name is = by (is_good_subvolume_name name) is
  where
    by : (b : Bool) → refused_if (not b) BadPath ≡ Ok tt → b ≡ true
    by true same = refl
    by false same = refused same

-- There is room for a new subvolume: none of the slot has the name, and they are few.
pub record HasRoom (name : List ℕ) (subs : List Sub) : Type 0 where
  pub free : sub_of name subs ≡ None
  pub few : length subs < 8

pub room_is : (name : List ℕ) (subs : List Sub) (count : ℕ) → room_among name subs count ≡ Ok tt → HasRoom name subs
room_is name subs count is = by (sub_of name subs) refl (nat_le names_per_slot (length subs)) refl is
  where
    by : (found : Option Sub) → sub_of name subs ≡ found → (full : Bool) → nat_le names_per_slot (length subs) ≡ full
        → (refused_if (is_some found) Exists >>= (λ _. refused_if full Crowded >>= (λ _. refused_if (nat_le max_subvolumes count) TooMany))) ≡ Ok tt → HasRoom name subs
    by None none false few same = record { free = none; few = omega (arith, leb-false names_per_slot (length subs) few) }
    by None none true full same = refused same
    by (Some sub) found full full_is same = refused same

-- The subvolume has the name, and its id the record.
pub record IsFound (keys : KeyMap) (name : List ℕ) (found : Sub × Snap) : Type 0 where
  pub sub : sub_named keys name ≡ Some found.0
  pub leaf : value_at nat_cmp found.0.id (snaps_of keys) ≡ Some found.1

pub found_is : (keys : KeyMap) (name : List ℕ) (found : Sub × Snap) → found_in keys name ≡ Ok found → IsFound keys name found
found_is keys name found is = by (sub_named keys name) refl is
  where
    at : (sub : Sub) (snap : Option Snap) → sub_named keys name ≡ Some sub → value_at nat_cmp sub.id (snaps_of keys) ≡ snap → (ok_or snap NoSubvolume >>= (λ s. Ok (sub, s))) ≡ Ok found → IsFound keys name found
    at sub None named recorded same = refused same
    at sub (Some snap) named recorded same = subst (IsFound keys name) (same_value same) (record { sub = named; leaf = recorded })

    by : (o : Option Sub) → sub_named keys name ≡ o → (ok_or o NoSubvolume >>= (λ sub. ok_or (value_at nat_cmp sub.id (snaps_of keys)) NoSubvolume >>= (λ s. Ok (sub, s)))) ≡ Ok found → IsFound keys name found
    by None none same = refused same
    by (Some sub) named same = at sub (value_at nat_cmp sub.id (snaps_of keys)) named refl same

-- the tree of what is found
abbrev pub tree_found : KeyMap → Read → Sub × Snap → Tree
tree_found keys read found = keys_mean.tree_of keys read found.0

-- The tree of a name in the forest is that of the subvolume that is found under it, or neither is there.
pub tree_is_found : (keys : KeyMap) (read : Read) (name : List ℕ) → DoLeavesMatch keys → tree_named name (forest_in keys read) ≡ result_map (tree_found keys read) (found_in keys name)
tree_is_found keys read name leaves = ap (λ o. ok_or o NoSubvolume) (tree_at keys read name) ∙ by (sub_named keys name) refl
  where
    by : (o : Option Sub) → sub_named keys name ≡ o
        → ok_or (option_map (keys_mean.tree_of keys read) o) NoSubvolume
        ≡ result_map (tree_found keys read) (ok_or o NoSubvolume >>= (λ sub. ok_or (value_at nat_cmp sub.id (snaps_of keys)) NoSubvolume >>= (λ s. Ok (sub, s))))
    by None none = refl
    by (Some sub) named = let leaf = (sub_named-is keys name sub leaves named).leaf in
        sym (ap (λ o. result_map (tree_found keys read) (ok_or o NoSubvolume >>= (λ s. Ok (sub, s)))) leaf.found)

-- There is room for a new subvolume by the keys exactly where the forest has it.
pub room_is_new : (keys : KeyMap) (read : Read) (name : List ℕ) → live_leaves (snaps_of keys) ≡ length (forest_in keys read).subvolumes → count_in_slot (slot_of name) (forest_in keys read).subvolumes ≡ length (subs_in keys (slot_of name))
    → new_subvolume name (forest_in keys read) ≡ room_in keys name
room_is_new keys read name leaves counted =
    λ i. refused_if (there i) Exists >>= (λ _. refused_if (nat_le names_per_slot (counted i)) Crowded >>= (λ _. refused_if (nat_le max_subvolumes (sym leaves i)) TooMany))
  where
    seen : (o : Option Sub) → is_some (option_map (keys_mean.tree_of keys read) o) ≡ is_some o
    seen None = refl
    seen (Some sub) = refl

    there : is_some (value_at name_cmp name (forest_in keys read).subvolumes) ≡ is_some (sub_named keys name)
    there = ap (λ (o : Option Tree). is_some o) (tree_at keys read name) ∙ seen (sub_named keys name)

-- Ids are spent where fewer are left than are drawn.
pub ids_alike : (drawn next : ℕ) → next < 2 ^ 32 → refused_if (nat_lt next drawn) IdsSpent ≡ result_map (λ _. tt) (ok_or (next_id drawn next) IdsSpent)
ids_alike drawn next fits = by (nat_lt next drawn) (nat_le drawn next) refl refl ∙ ap (λ b. result_map (λ _. tt) (ok_or (cond (b && nat_le drawn next) (Some next) None) IdsSpent)) (sym (lt-ltb next (2 ^ 32) fits))
  where
    by : (less least : Bool) → nat_lt next drawn ≡ less → nat_le drawn next ≡ least → refused_if less IdsSpent ≡ result_map (λ _. tt) (ok_or (cond least (Some next) None) IdsSpent)
    by true true less least = absurd (omega (arith, ltb-true next drawn less, leb-true drawn next least))
    by true false less least = refl
    by false true less least = refl
    by false false less least = absurd (omega (arith, ltb-false next drawn less, leb-false drawn next least))

pub ids_left : (drawn next : ℕ) (id : ℕ) → ok_or (next_id drawn next) IdsSpent ≡ Ok id → drawn ≤ next
ids_left drawn next id is = by (nat_lt next (2 ^ 32)) (nat_le drawn next) refl is
  where
    by : (fits least : Bool) → nat_le drawn next ≡ least → ok_or (cond (fits && least) (Some next) None) IdsSpent ≡ Ok id → drawn ≤ next
    by true true least same = leb-true drawn next least
    by true false least same = refused same
    by false least least_is same = refused same

-- A removal agrees where its updates do,
pub removal_agrees : {F : Type 0} {B : Type 0} (Q : B → F → Type 0) (good : Result (Unit {0}) Cause) (found : Result (Sub × Snap) Cause) (see : Sub × Snap → Tree) (f : Sub × Snap → B) (next : F)
    → ((x : Sub × Snap) → good ≡ Ok (tt {0}) → found ≡ Ok x → Q (f x) next)
    → Agrees Q (good >>= (λ _. found >>= (λ x. Ok (f x)))) ((good >>= (λ _. result_map see found >>= (λ _. Ok (tt {0})))) >>= (λ _. Ok next))
removal_agrees Q (Err cause) found see f next has = refl
removal_agrees Q (Ok u) (Err cause) see f next has = refl
removal_agrees Q (Ok u) (Ok x) see f next has = has x refl refl

-- so does a subvolume that is made,
pub made_agrees : {F : Type 0} {B : Type 0} (Q : B → F → Type 0) (good room : Result (Unit {0}) Cause) (spent : Bool) (ids : Result ℕ Cause) (updates : B) (next : F)
    → ((id : ℕ) → good ≡ Ok (tt {0}) → room ≡ Ok (tt {0}) → spent ≡ false → ids ≡ Ok id → Q updates next)
    → Agrees Q (good >>= (λ _. room >>= (λ _. refused_if spent IdsSpent >>= (λ _. ids >>= (λ _. Ok updates)))))
    ((good >>= (λ _. room >>= (λ _. refused_if spent IdsSpent >>= (λ _. result_map (λ _. tt {0}) ids)))) >>= (λ _. Ok next))
made_agrees Q (Err cause) room spent ids updates next has = refl
made_agrees Q (Ok u) (Err cause) spent ids updates next has = refl
made_agrees Q (Ok u) (Ok v) true ids updates next has = refl
made_agrees Q (Ok u) (Ok v) false (Err cause) updates next has = refl
made_agrees Q (Ok u) (Ok v) false (Ok id) updates next has = has id refl refl refl refl

-- and a snapshot.
pub snapshot_agrees : {F : Type 0} {B : Type 0} (Q : B → F → Type 0) (one other : Result (Unit {0}) Cause) (found : Result (Sub × Snap) Cause) (room : Result (Unit {0}) Cause) (ids : Result ℕ Cause) (see : Sub × Snap → Tree) (f : Sub × Snap → B) (next : Tree → F)
    → ((x : Sub × Snap) (id : ℕ) → other ≡ Ok (tt {0}) → found ≡ Ok x → room ≡ Ok (tt {0}) → ids ≡ Ok id → Q (f x) (next (see x)))
    → Agrees Q (one >>= (λ _. other >>= (λ _. found >>= (λ x. room >>= (λ _. ids >>= (λ _. Ok (f x)))))))
    ((one >>= (λ _. other >>= (λ _. result_map see found >>= (λ tree. room >>= (λ _. result_map (λ _. tt {0}) ids >>= (λ _. Ok tree)))))) >>= (λ tree. Ok (next tree)))
snapshot_agrees Q (Err cause) other found room ids see f next has = refl
snapshot_agrees Q (Ok u) (Err cause) found room ids see f next has = refl
snapshot_agrees Q (Ok u) (Ok v) (Err cause) room ids see f next has = refl
snapshot_agrees Q (Ok u) (Ok v) (Ok x) (Err cause) ids see f next has = refl
snapshot_agrees Q (Ok u) (Ok v) (Ok x) (Ok w) (Err cause) see f next has = refl
snapshot_agrees Q (Ok u) (Ok v) (Ok x) (Ok w) (Ok id) see f next has = has x id refl refl refl refl

-- A plan that makes a subvolume of a good name is refused as the slot refuses it,
pub make_refused : (keys : KeyMap) (client : ℕ) (name : List ℕ) (cause : Cause) → is_good_subvolume_name name ≡ true → room_in keys name ≡ Err cause → Err cause ≡ subvolume_made keys client name
make_refused keys client name cause good refusal =
    sym (ap (λ b. refused_if (not b) BadPath >>= (λ _. room_in keys name >>= (λ _. made_drawn keys client name (subs_in keys (slot_of name))))) good
    ∙ ap (λ (r : Result (Unit {0}) Cause). r >>= (λ _. made_drawn keys client name (subs_in keys (slot_of name)))) refusal)

-- and goes on where this takes it.
pub make_goes_on : (keys : KeyMap) (client : ℕ) (name : List ℕ) → is_good_subvolume_name name ≡ true → room_in keys name ≡ Ok tt → made_drawn keys client name (subs_in keys (slot_of name)) ≡ subvolume_made keys client name
make_goes_on keys client name good room =
    sym (ap (λ b. refused_if (not b) BadPath >>= (λ _. room_in keys name >>= (λ _. made_drawn keys client name (subs_in keys (slot_of name))))) good
    ∙ ap (λ (r : Result (Unit {0}) Cause). r >>= (λ _. made_drawn keys client name (subs_in keys (slot_of name)))) room)

-- A plan that removes one of a good name goes on with what is found,
pub remove_goes_on : (keys : KeyMap) (name : List ℕ) → is_good_subvolume_name name ≡ true → (found_in keys name >>= (λ found. Ok (updates_to_remove name (subs_in keys (slot_of name)) found))) ≡ subvolume_removed keys name
remove_goes_on keys name good = sym (ap (λ b. refused_if (not b) BadPath >>= (λ _. found_in keys name >>= (λ found. Ok (updates_to_remove name (subs_in keys (slot_of name)) found)))) good)

-- and so does one that makes a snapshot, where both names are good.
pub snapshot_goes_on : (keys : KeyMap) (source copy : List ℕ) (locked : Bool) → is_good_subvolume_name source ≡ true → is_good_subvolume_name copy ≡ true → (found_in keys source >>= found_copied keys source copy locked) ≡ snapshot_made keys source copy locked
snapshot_goes_on keys source copy locked source_good copy_good =
    sym (ap (λ b. refused_if (not b) BadPath >>= (λ _. refused_if (not (is_good_subvolume_name copy)) BadPath >>= (λ _. found_in keys source >>= found_copied keys source copy locked))) source_good
    ∙ ap (λ b. refused_if (not b) BadPath >>= (λ _. found_in keys source >>= found_copied keys source copy locked)) copy_good)
