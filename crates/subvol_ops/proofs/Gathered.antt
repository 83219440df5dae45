-- The slots of the subvolumes one after the other, and the names that are gathered so.
use Rattle.std.proofs.Common.{◌≡◌, ℕ, suc, ◌<◌, ◌≤◌, Bool, true, false, cond, Option, Some, None, List, [], ◌∷◌, ◌++◌, refl, sym, ap, ◌∙◌, subst, arith, map}
use Rattle.std.specs.Prelude.{◌≢◌, nat_lt, All, IfNone, IfSome, option_map}
use Rattle.std.specs.BTreeMap.{is_at}
use Rattle.std.specs.Cmp.{nat_cmp_is}
use Rattle.std.specs.List.Sorted.{IsStrictlySortedBy}
use Rattle.std.specs.Option.{option_or, option_to_list}
use Rattle.std.specs.Ordering.{is_eq, is_le, nat_cmp, ordering_then}
use Rattle.std.specs.declared.cmp.Ordering.{Ordering}
use Rattle.std.specs.declared.cmp.Ordering.TheVariants.{Less, Equal, Greater}
use Rattle.std.proofs.lemmas.Bool.{le-ltb, lt-ltb, ltb-false, ltb-true, true≢false}
use Rattle.std.proofs.lemmas.Cmp.{eq_by_cmp_equiv, nat_list_cmp_total, ranked}
use Rattle.std.proofs.lemmas.List.Elements.{All-head, All-nil, All-tail}
use Rattle.std.proofs.lemmas.Map.Lookups.{exact_bytes}
use Rattle.std.proofs.lemmas.Map.Made.{keys_of-map_values, lookup-map_values}
use Rattle.forest_ops.specs.Steps.{flagged_subvolume}
use Rattle.id_steps.specs.Entries.{sub_of}
use Rattle.key_meaning.specs.Forest.{Read, forest_in, sub_named, subs_in, subs_of}
use Rattle.key_meaning.specs.Forest as keys_mean
use Rattle.key_meaning.specs.ForestLaws.{tree_at, trees_rise}
use Rattle.key_meaning.specs.SoundLaws.{all_in, found_in}
use Rattle.key_meaning.specs.TableLaws.{same_key}
use Rattle.key_meaning.specs.Tidy.{AreKeysDrawn, AreNamesGood, HasGoodSubvolumes, IsKeyOf}
use Rattle.key_view.specs.FirstLaws.{IsFirst, first_above, is_first, none_from, same_at}
use Rattle.path_plan.specs.LookLaws.{nil_cons, only_last, some_last}
use Rattle.plain_forest.specs.Forest.{Tree}
use Rattle.plain_forest.specs.Names.{is_good_subvolume_name}
use Rattle.subvol_ops.specs.Listing.{HasNext, flag_of, flagged_name, slot_of_key, with_subs}
use Rattle.subvol_ops.specs.declared.listing.Entry.{Entry}
use Rattle.vol_digest.specs.Digests.{slot_of}
use Rattle.vol_types.specs.KeyMaps.{Entries, IsKeyMap, KeyMap, answer_of, first_from, key_of, keys_in}
use Rattle.vol_types.specs.MapLaws.{same_maps, value_at-with_value}
use Rattle.vol_types.specs.Maps.{IsMap, value_at}
use Rattle.vol_types.specs.Positions.{pos_cmp}
use Rattle.vol_types.specs.Ranges.{name_cmp}
use Rattle.vol_types.specs.declared.keys.Key.{Key}
use Rattle.vol_types.specs.declared.positions.Btree.TheVariants.{Subvols}
use Rattle.vol_types.specs.declared.positions.Pos.{Pos}
use Rattle.vol_types.specs.declared.queries.Query.TheVariants.{Starting}
use Rattle.vol_types.specs.declared.values.Sub.{Sub}
use Rattle.vol_types.specs.declared.values.Value.{Value}

-- where the subvolumes of a slot stand
abbrev place : ℕ → Pos
place slot = record { inode = 0; offset = slot; snapshot = 0 }

tied : (n : ℕ) → nat_cmp n n ≡ Equal
tied n = sym (nat_cmp_is n n Equal refl)

-- a slot isn't before an earlier one,
slots_rise : (from slot : ℕ) → from ≤ slot → is_le (pos_cmp (place from) (place slot)) ≡ true
slots_rise from slot le = by (nat_cmp from slot) refl
  where
    by : (r : Ordering) → nat_cmp from slot ≡ r → is_le (ordering_then r (nat_cmp 0 0)) ≡ true
    by Less is = refl
    by Equal is = refl
    by Greater is = absurd (omega (arith, le, ranked from slot Greater (sym is)))

-- a lower one is before another,
before_slot : (slot : ℕ) (p : Pos) → place p.offset ≡ p → slot < p.offset → pos_cmp (place slot) p ≡ Less
before_slot slot p is lt = ap (pos_cmp (place slot)) (sym is) ∙ ap (λ o. ordering_then o (nat_cmp 0 0)) (sym (nat_cmp_is slot p.offset Less lt))

-- and one that isn't before a slot is no lower.
no_lower : (from : ℕ) (p : Pos) → place p.offset ≡ p → is_le (pos_cmp (place from) p) ≡ true → from ≤ p.offset
no_lower from p is le = by (nat_cmp from p.offset) refl (ap (λ q. is_le (pos_cmp (place from) q)) is ∙ le)
  where
    by : (r : Ordering) → nat_cmp from p.offset ≡ r → is_le (ordering_then (nat_cmp from p.offset) (nat_cmp 0 0)) ≡ true → from ≤ p.offset
    by Less is above = let lt = ranked from p.offset Less (sym is) in omega (arith, lt)
    by Equal is above = let eq = ranked from p.offset Equal (sym is) in omega (arith, eq)
    by Greater is above = absurd (true≢false (sym above ∙ ap (λ o. is_le (ordering_then o (nat_cmp 0 0))) is))

-- what all entries have, one that is looked up has
entry_has : (P : Pos × Value → Type 0) (Q : Pos → Option Value → Type 0) → ((pos : Pos) → Q pos None) → ((pos : Pos) (value : Value) → P (pos, value) → Q pos (Some value)) → (pos : Pos) (entries : Entries) → All P entries → Q pos (value_at pos_cmp pos entries)
entry_has P Q none has pos [] all = none pos
entry_has P Q none has pos (e ∷ es) all = by (is_at (pos_cmp pos) e.0) refl (entry_has P Q none has pos es (All-tail P e es all))
  where
    by : (b : Bool) → is_at (pos_cmp pos) e.0 ≡ b → Q pos (value_at pos_cmp pos es) → Q pos (cond b (Some e.1) (value_at pos_cmp pos es))
    by true at later = subst (λ p. Q p (Some e.1)) (sym (same_at pos e.0 at)) (has e.0 e.1 (All-head P e es all))
    by false at later = later

-- The subvolumes of a slot have it.
under_slot : (keys : KeyMap) (slot : ℕ) → AreNamesGood keys → All (λ (sub : Sub). (slot_of sub.name ≡ slot) × (is_good_subvolume_name sub.name ≡ true)) (subs_in keys slot)
under_slot keys slot good =
    entry_has HasGoodSubvolumes (λ pos value. All (λ (sub : Sub). (slot_of sub.name ≡ pos.offset) × (is_good_subvolume_name sub.name ≡ true)) (subs_of value)) (λ pos. All-nil (λ (sub : Sub). (slot_of sub.name ≡ pos.offset) × (is_good_subvolume_name sub.name ≡ true))) (λ pos value has. has) (place slot) keys.subvols good.subvolumes

-- what a name has as its flag
abbrev pub flag_among : List ℕ → List Sub → Option ℕ
flag_among name subs = option_map flag_of (sub_of name subs)

-- What is looked up after subvolumes were put.
value_at-with_subs : (name : List ℕ) (subs : List Sub) (entries : List (List ℕ × ℕ)) → value_at name_cmp name (with_subs subs entries) ≡ option_or (flag_among name subs) (value_at name_cmp name entries)
value_at-with_subs name [] entries = refl
value_at-with_subs name (sub ∷ subs) entries =
    value_at-with_value nat_list_cmp_total sub.name (flag_of sub) name (with_subs subs entries)
    ∙ ap (λ b. cond b (Some (flag_of sub)) (value_at name_cmp name (with_subs subs entries))) ((eq_by_cmp_equiv nat_list_cmp_total).symm sub.name name)
    ∙ by (is_eq (name_cmp name sub.name)) (value_at-with_subs name subs entries)
  where
    by : (b : Bool) → value_at name_cmp name (with_subs subs entries) ≡ option_or (flag_among name subs) (value_at name_cmp name entries)
        → cond b (Some (flag_of sub)) (value_at name_cmp name (with_subs subs entries)) ≡ option_or (option_map flag_of (cond b (Some sub) (sub_of name subs))) (value_at name_cmp name entries)
    by true later = refl
    by false later = later

-- Subvolumes are put from the last one on.
pub with_subs-last : (subs : List Sub) (sub : Sub) (entries : List (List ℕ × ℕ)) → with_subs (subs ++ sub ∷ []) entries ≡ with_subs subs (with_subs (sub ∷ []) entries)
with_subs-last [] sub entries = refl
with_subs-last (other ∷ subs) sub entries = ap (λ es. with_subs (other ∷ []) es) (with_subs-last subs sub entries)

-- a name that doesn't have the slot isn't among those of the slot
other_slot : (keys : KeyMap) (slot : ℕ) (name : List ℕ) → AreNamesGood keys → slot_of name ≢ slot → sub_of name (subs_in keys slot) ≡ None
other_slot keys slot name good apart = by (sub_of name (subs_in keys slot)) refl
  where
    by : (o : Option Sub) → sub_of name (subs_in keys slot) ≡ o → o ≡ None
    by None is = refl
    by (Some sub) is =
        let found = found_in (λ (s : Sub). is_eq (name_cmp name s.name)) sub (subs_in keys slot) is in
        absurd (apart (ap slot_of (same_key exact_bytes name sub.name found.1) ∙ (all_in (λ (s : Sub). (slot_of s.name ≡ slot) × (is_good_subvolume_name s.name ≡ true)) sub (subs_in keys slot) (under_slot keys slot good) found.0).0))

module _ (keys : KeyMap) (from : ℕ) (is : IsKeyMap keys) (drawn : AreKeysDrawn keys) where
  none_next : first_from (place from) keys.subvols ≡ None → HasNext keys from None
  none_next none slot le = ap subs_of (none_from (place from) keys.subvols none (place slot) (slots_rise from slot le))

  at_place : (e : Pos × Value) → value_at pos_cmp e.0 keys.subvols ≡ Some e.1 → place e.0.offset ≡ e.0
  at_place e there = of (subst (Keyed e.0) there (entry_has (IsKeyOf keys Subvols) Keyed (λ pos. tt) (λ pos value key. (key.place.0, key.place.1)) e.0 keys.subvols (drawn.each Subvols)))
    where
      Keyed : Pos → Option Value → Type 0
      Keyed pos None = Unit {0}
      Keyed pos (Some value) = (pos.inode ≡ 0) × (pos.snapshot ≡ 0)

      of : (e.0.inode ≡ 0) × (e.0.snapshot ≡ 0) → place e.0.offset ≡ e.0
      of zeros = λ i. record { inode = sym zeros.0 i; offset = e.0.offset; snapshot = sym zeros.1 i }

  slot_next : (e : Pos × Value) → first_from (place from) keys.subvols ≡ Some e → HasNext keys from (slot_of_key from (Some (key_of e)))
  slot_next e found = by (nat_lt e.0.offset from) refl
    where
      first : IsFirst (place from) keys.subvols e
      first = is_first (place from) keys.subvols e (is.rises Subvols) found

      there : place e.0.offset ≡ e.0
      there = at_place e first.there

      up : from ≤ e.0.offset
      up = no_lower from e.0 there (first_above (place from) keys.subvols e found)

      by : (b : Bool) → nat_lt e.0.offset from ≡ b → HasNext keys from (cond b None (Some (record { slot = e.0.offset; subs = subs_of (Some e.1) })))
      by true low = absurd (omega (arith, up, ltb-true e.0.offset from low))
      by false high = (
        sym (ap (λ (p : Pos). subs_of (value_at pos_cmp p keys.subvols)) there ∙ ap subs_of first.there),
        λ slot le lt. ap subs_of (first.none_before (place slot) (slots_rise from slot le) (before_slot slot e.0 there lt)),
      )

  -- The key that an answer ends with tells the next slot.
  pub next_found : (answer rest : List Key) (key : Option Key) → answer ≡ answer_of (Starting Subvols (place from)) keys → answer ≡ rest ++ option_to_list key → IfNone key (answer ≡ [])
      → HasNext keys from (slot_of_key from key)
  next_found answer rest key look last empty = by (first_from (place from) keys.subvols) refl key (sym look ∙ last) (λ none. sym look ∙ none) empty
    where
      by : (o : Option (Pos × Value)) → first_from (place from) keys.subvols ≡ o → (key : Option Key) → keys_in (option_to_list o) ≡ rest ++ option_to_list key → (answer ≡ [] → keys_in (option_to_list o) ≡ []) → IfNone key (answer ≡ [])
          → HasNext keys from (slot_of_key from key)
      by None found None same turned none = none_next found
      by None found (Some k) same turned none = absurd (some_last k rest same)
      by (Some e) found None same turned none = absurd (nil_cons (key_of e) [] (sym (turned none)))
      by (Some e) found (Some k) same turned none = subst (λ (l : Key). HasNext keys from (slot_of_key from (Some l))) (only_last (key_of e) rest k same) (slot_next e found)

-- A slot that is told isn't lower.
pub slot_above : (from : ℕ) (key : Option Key) → IfSome (slot_of_key from key) (λ entry. from ≤ entry.slot)
slot_above from None = tt
slot_above from (Some key) = by (nat_lt key.pos.offset from) refl
  where
    by : (b : Bool) → nat_lt key.pos.offset from ≡ b → IfSome {T = Entry} (cond b None (Some (record { slot = key.pos.offset; subs = subs_of key.value }))) (λ entry. from ≤ entry.slot)
    by true low = tt
    by false up = ltb-false key.pos.offset from up

module _ (keys : KeyMap) where
  -- the flag of the subvolume of a name
  abbrev pub flag_in : List ℕ → Option ℕ
  flag_in name = flag_among name (subs_in keys (slot_of name))

  -- The names of all slots below a number are gathered, and no others.
  abbrev pub AreGathered : ℕ → List (List ℕ × ℕ) → Type 0
  AreGathered from entries = (name : List ℕ) → value_at name_cmp name entries ≡ cond (nat_lt (slot_of name) from) (flag_in name) None

  pub gathered_none : AreGathered 0 []
  gathered_none name = sym (ap (λ b. cond b (flag_in name) None) (le-ltb (slot_of name) 0 (omega arith)))

  flag_none : (name : List ℕ) → subs_in keys (slot_of name) ≡ [] → flag_in name ≡ None
  flag_none name nothing = ap (flag_among name) nothing

  -- Where there is no further slot, all are gathered.
  pub gathered_all : (from : ℕ) (entries : List (List ℕ × ℕ)) → AreGathered from entries → HasNext keys from None → (name : List ℕ) → value_at name_cmp name entries ≡ flag_in name
  gathered_all from entries gathered none name = gathered name ∙ by (nat_lt (slot_of name) from) refl
    where
      by : (b : Bool) → nat_lt (slot_of name) from ≡ b → cond b (flag_in name) None ≡ flag_in name
      by true below = refl
      by false above = sym (flag_none name (none (slot_of name) (ltb-false (slot_of name) from above)))

  -- All are gathered too where no slot is as great as the number.
  pub gathered_to : (from : ℕ) (entries : List (List ℕ × ℕ)) → AreGathered from entries → (name : List ℕ) → slot_of name < from → value_at name_cmp name entries ≡ flag_in name
  gathered_to from entries gathered name below = gathered name ∙ ap (λ b. cond b (flag_in name) None) (lt-ltb (slot_of name) from below)

  -- The names of the next slot are gathered besides.
  pub gathered_next : AreNamesGood keys → (from slot : ℕ) (entries : List (List ℕ × ℕ)) → AreGathered from entries → from ≤ slot → (subs : List Sub) → HasNext keys from (Some (record { slot = slot; subs = subs }))
      → (next : ℕ) → next ≡ suc slot → AreGathered next (with_subs subs entries)
  gathered_next good from slot entries gathered le subs has next after name =
      value_at-with_subs name subs entries ∙ ap (option_or (flag_among name subs)) (gathered name) ∙ by (nat_lt (slot_of name) slot) refl (nat_lt slot (slot_of name)) refl
    where
      result : Type 0
      result = option_or (flag_among name subs) (cond (nat_lt (slot_of name) from) (flag_in name) None) ≡ cond (nat_lt (slot_of name) next) (flag_in name) None

      apart : slot_of name ≢ slot → flag_among name subs ≡ None
      apart other = ap (flag_among name) has.0 ∙ ap (option_map flag_of) (other_slot keys slot name good other)

      lower : slot_of name < slot → result
      lower lt =
          ap (λ o. option_or o (cond (nat_lt (slot_of name) from) (flag_in name) None)) (apart (λ same. omega (arith, lt, same)))
          ∙ before (nat_lt (slot_of name) from) refl ∙ sym (ap (λ b. cond b (flag_in name) None) (lt-ltb (slot_of name) next (omega (arith, lt, after))))
        where
          before : (b : Bool) → nat_lt (slot_of name) from ≡ b → cond b (flag_in name) None ≡ flag_in name
          before true below = refl
          before false above = sym (flag_none name (has.1 (slot_of name) (ltb-false (slot_of name) from above) lt))

      higher : slot < slot_of name → result
      higher lt =
          ap (λ o. option_or o (cond (nat_lt (slot_of name) from) (flag_in name) None)) (apart (λ same. omega (arith, lt, same)))
          ∙ ap (λ b. cond b (flag_in name) None) (le-ltb (slot_of name) from (omega (arith, le, lt)))
          ∙ sym (ap (λ b. cond b (flag_in name) None) (le-ltb (slot_of name) next (omega (arith, after, lt))))

      here : slot_of name ≡ slot → result
      here same =
          ap (λ o. option_or (flag_among name subs) o) (ap (λ b. cond b (flag_in name) None) (le-ltb (slot_of name) from (omega (arith, le, same))))
          ∙ or_none (flag_among name subs) ∙ ap (flag_among name) (has.0 ∙ ap (subs_in keys) (sym same))
          ∙ sym (ap (λ b. cond b (flag_in name) None) (lt-ltb (slot_of name) next (omega (arith, after, same))))
        where
          or_none : (o : Option ℕ) → option_or o None ≡ o
          or_none None = refl
          or_none (Some n) = refl

      by : (b : Bool) → nat_lt (slot_of name) slot ≡ b → (c : Bool) → nat_lt slot (slot_of name) ≡ c → result
      by true low c up = lower (ltb-true (slot_of name) slot low)
      by false low true up = higher (ltb-true slot (slot_of name) up)
      by false low false up = let one = ltb-false (slot_of name) slot low in let two = ltb-false slot (slot_of name) up in here (omega (arith, one, two))

-- the flag of a tree
abbrev tree_flag : Tree → ℕ
tree_flag tree = cond tree.locked 1 0

-- names with the flags of their trees
abbrev with_flags : List (List ℕ × Tree) → List (List ℕ × ℕ)
with_flags trees = map (λ (e : List ℕ × Tree). (e.0, tree_flag e.1)) trees

flags_mapped : (trees : List (List ℕ × Tree)) → map flagged_name (with_flags trees) ≡ map flagged_subvolume trees
flags_mapped [] = refl
flags_mapped (e ∷ trees) = ap (λ rest. flagged_subvolume e ∷ rest) (flags_mapped trees)

-- Names that are looked up as the subvolumes are, are those of the forest.
pub listed_names : (keys : KeyMap) (read : Read) (flags : List (List ℕ × ℕ)) → IsMap name_cmp flags → ((name : List ℕ) → value_at name_cmp name flags ≡ flag_in keys name) → map flagged_name flags ≡ map flagged_subvolume (forest_in keys read).subvolumes
listed_names keys read flags rises found =
    let trees = (forest_in keys read).subvolumes in
    ap (map flagged_name) (same_maps nat_list_cmp_total exact_bytes flags (with_flags trees) rises
    (subst (IsStrictlySortedBy name_cmp) (sym (keys_of-map_values tree_flag trees)) (trees_rise keys read))
    (λ name. found name ∙ sym (lookup-map_values tree_flag (is_at (name_cmp name)) trees ∙ ap (option_map tree_flag) (tree_at keys read name) ∙ seen (sub_named keys name))))
    ∙ flags_mapped trees
  where
    seen : (o : Option Sub) → option_map tree_flag (option_map (keys_mean.tree_of keys read) o) ≡ option_map flag_of o
    seen None = refl
    seen (Some sub) = refl
