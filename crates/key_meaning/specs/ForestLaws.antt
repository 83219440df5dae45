-- The forest of a key map by look-ups: which file, which directory, which name and which subvolume stands where.
use Rattle.std.proofs.Common.{◌≡◌, ℕ, ◌/◌, ◌%◌, Bool, true, false, cond, Option, Some, None, List, [], ◌∷◌, refl, sym, ap, ◌∙◌, map}
use Rattle.std.specs.Prelude.{◌||◌, IsSome, is_some, find, flat_map, option_map, option_and_then}
use Rattle.std.specs.BTreeMap.{is_at}
use Rattle.std.specs.List.{list_any, range_with_len}
use Rattle.std.specs.Option.{option_or}
use Rattle.std.specs.Ordering.{nat_cmp, is_eq}
use Rattle.std.proofs.lemmas.Bool.{eq-eqb, true≢false}
use Rattle.std.proofs.lemmas.Cmp.{nat_cmp_total, nat_list_cmp_total, tied_itself}
use Rattle.std.proofs.lemmas.List.Folds.{list_any-append}
use Rattle.std.proofs.lemmas.Map.Lookups.{exact_bytes, exact_unsigned}
use Rattle.std.proofs.lemmas.Option.{same_Some, none-some as none_some}
use Rattle.snap_tree.specs.Snaps.{chain_of}
use Rattle.vol_digest.specs.Digests.{slot_of}
use Rattle.vol_types.specs.KeyMaps.{Entries, KeyMap, value_in}
use Rattle.vol_types.specs.Limits.{block_size}
use Rattle.vol_types.specs.Maps.{IsMap, value_at}
use Rattle.vol_types.specs.PositionLaws.{pos_exact}
use Rattle.vol_types.specs.Positions.{pos_cmp}
use Rattle.vol_types.specs.Ranges.{name_cmp}
use Rattle.vol_types.specs.declared.positions.Btree.{Btree}
use Rattle.vol_types.specs.declared.positions.Btree.TheVariants.{Inodes, Dirents, Subvols}
use Rattle.vol_types.specs.declared.positions.Pos.{Pos}
use Rattle.vol_types.specs.declared.values.Inode.{Inode}
use Rattle.vol_types.specs.declared.values.Link.{Link}
use Rattle.vol_types.specs.declared.values.Sub.{Sub}
use Rattle.vol_types.specs.declared.values.Value.{Value}
use Rattle.vol_types.specs.declared.values.Value.TheVariants as values
use Rattle.key_meaning.specs.Forest.{Read, all_subs, byte_at, bytes_in, directories_in, directory_in, file_in, files_in, forest_in, inode_in, inode_of, is_directory, link_named, links_in, links_of, names_in, names_of_entry, names_under, number_in, numbers_of, size_of, sub_named, subs_in, subs_of, tree_named, tree_of}
use Rattle.key_meaning.specs.TableLaws.{IsMap-map_over, map_over-is, same_key}
use Rattle.key_meaning.specs.Visible.{first_value, own_value, shown, snaps_of}

-- some element of mapped ones passes where some element passes before
any_map : {X Y : Type 0} (test : Y → Bool) (f : X → Y) (xs : List X) → list_any test (map f xs) ≡ list_any (λ x. test (f x)) xs
any_map test f [] = refl
any_map test f (x ∷ xs) = ap (λ b. test (f x) || b) (any_map test f xs)

or_true : (b : Bool) → (b || true) ≡ true
or_true true = refl
or_true false = refl

-- what passes among the parts of an entry passes among those of all entries
in_entries : {X : Type 0} (test : X → Bool) (parts : Pos × Value → List X) (pos : Pos) (value : Value) (entries : Entries) → value_at pos_cmp pos entries ≡ Some value → list_any test (parts (pos, value)) ≡ true → list_any test (flat_map parts entries) ≡ true
in_entries test parts pos value [] found passes = absurd (none_some value found)
in_entries test parts pos value (e ∷ es) found passes = list_any-append test (parts e) (flat_map parts es) ∙ by (is_at (pos_cmp pos) e.0) refl found (λ later. in_entries test parts pos value es later passes)
  where
    by : (b : Bool) → is_at (pos_cmp pos) e.0 ≡ b → cond b (Some e.1) (value_at pos_cmp pos es) ≡ Some value → (value_at pos_cmp pos es ≡ Some value → list_any test (flat_map parts es) ≡ true) → (list_any test (parts e) || list_any test (flat_map parts es)) ≡ true
    by true at here later = ap (λ b. b || list_any test (flat_map parts es)) (ap (λ (entry : Pos × Value). list_any test (parts entry)) (λ i. (sym (same_key pos_exact pos e.0 at) i, same_Some e.1 value here i)) ∙ passes)
    by false at here later = ap (λ b. list_any test (parts e) || b) (later here) ∙ or_true (list_any test (parts e))

-- what some ids have first, one of them has
first_has : (P : Type 0) (keys : KeyMap) (btree : Btree) (inode offset : ℕ) (value : Value) (ids : List ℕ) → first_value keys btree inode offset ids ≡ Some value → ((id : ℕ) → own_value keys btree inode offset id ≡ Some value → P) → P
first_has P keys btree inode offset value [] found has = absurd (none_some value found)
first_has P keys btree inode offset value (id ∷ ids) found has = by (own_value keys btree inode offset id) refl found (λ later. first_has P keys btree inode offset value ids later has)
  where
    by : (own : Option Value) → own_value keys btree inode offset id ≡ own → option_or own (first_value keys btree inode offset ids) ≡ Some value → (first_value keys btree inode offset ids ≡ Some value → P) → P
    by None is here later = later here
    by (Some x) is here later = has id (is ∙ here)

-- What shows nothing has no links.
pub links_shown : (value : Option Value) → links_of (shown value) ≡ links_of value
links_shown None = refl
links_shown (Some values.White) = refl
links_shown (Some value) = refl

module _ (keys : KeyMap) (id : ℕ) where
  -- An inode that shows has a key in some id.
  pub numbers_within : (number : ℕ) → IsSome (inode_in keys id number) → list_any (is_at (nat_cmp number)) (numbers_of keys) ≡ true
  numbers_within number some = by (first_value keys Inodes 0 number (chain_of (snaps_of keys) id)) refl some
    where
      listed : (pos : Pos) (entries : Entries) → IsSome (value_at pos_cmp pos entries) → list_any (is_at (nat_cmp pos.offset)) (map (λ (entry : Pos × Value). entry.0.offset) entries) ≡ true
      listed pos [] there = absurd (true≢false (sym there))
      listed pos (e ∷ es) there = here (is_at (pos_cmp pos) e.0) refl there (listed pos es)
        where
          here : (b : Bool) → is_at (pos_cmp pos) e.0 ≡ b → IsSome (cond b (Some e.1) (value_at pos_cmp pos es)) → (IsSome (value_at pos_cmp pos es) → list_any (is_at (nat_cmp pos.offset)) (map (λ (entry : Pos × Value). entry.0.offset) es) ≡ true)
              → (is_at (nat_cmp pos.offset) e.0.offset || list_any (is_at (nat_cmp pos.offset)) (map (λ (entry : Pos × Value). entry.0.offset) es)) ≡ true
          here true at found later = ap (λ b. b || list_any (is_at (nat_cmp pos.offset)) (map (λ (entry : Pos × Value). entry.0.offset) es)) (ap (λ (p : Pos). is_at (nat_cmp pos.offset) p.offset) (sym (same_key pos_exact pos e.0 at)) ∙ ap is_eq (tied_itself nat_cmp_total pos.offset))
          here false at found later = ap (λ b. is_at (nat_cmp pos.offset) e.0.offset || b) (later found) ∙ or_true (is_at (nat_cmp pos.offset) e.0.offset)

      by : (first : Option Value) → first_value keys Inodes 0 number (chain_of (snaps_of keys) id) ≡ first → IsSome (inode_of (shown first)) → list_any (is_at (nat_cmp number)) (numbers_of keys) ≡ true
      by None is there = absurd (true≢false (sym there))
      by (Some value) is there = first_has (list_any (is_at (nat_cmp number)) (numbers_of keys) ≡ true) keys Inodes 0 number value (chain_of (snaps_of keys) id) is (λ a own. listed (record { inode = 0; offset = number; snapshot = a }) keys.inodes (ap is_some own))

  -- A name that shows has a key in some id.
  pub names_within : (directory : ℕ) (name : List ℕ) → IsSome (number_in keys id directory name) → list_any (is_at (name_cmp name)) (names_under keys directory) ≡ true
  names_within directory name some = by (first_value keys Dirents directory (slot_of name) (chain_of (snaps_of keys) id)) refl (named (links_in keys id directory (slot_of name)) some ∙ refl)
    where
      named : (links : List Link) → IsSome (option_map (λ (link : Link). link.number) (link_named name links)) → list_any (λ (link : Link). is_eq (name_cmp name link.name)) links ≡ true
      named [] there = absurd (true≢false (sym there))
      named (link ∷ links) there = here (is_eq (name_cmp name link.name)) there (named links)
        where
          here : (b : Bool) → IsSome (option_map (λ (l : Link). l.number) (cond b (Some link) (link_named name links))) → (IsSome (option_map (λ (l : Link). l.number) (link_named name links)) → list_any (λ (l : Link). is_eq (name_cmp name l.name)) links ≡ true)
              → (b || list_any (λ (l : Link). is_eq (name_cmp name l.name)) links) ≡ true
          here true found later = refl
          here false found later = later found

      in_entry : (a : ℕ) (value : Value) → list_any (λ (link : Link). is_eq (name_cmp name link.name)) (links_of (Some value)) ≡ true → list_any (is_at (name_cmp name)) (names_of_entry directory (record { inode = directory; offset = slot_of name; snapshot = a }, value)) ≡ true
      in_entry a value passes = ap (λ b. list_any (is_at (name_cmp name)) (cond b (map (λ (link : Link). link.name) (links_of (Some value))) [])) (eq-eqb directory directory refl) ∙ any_map (is_at (name_cmp name)) (λ (link : Link). link.name) (links_of (Some value)) ∙ passes

      by : (first : Option Value) → first_value keys Dirents directory (slot_of name) (chain_of (snaps_of keys) id) ≡ first → list_any (λ (link : Link). is_eq (name_cmp name link.name)) (links_of (shown first)) ≡ true → list_any (is_at (name_cmp name)) (names_under keys directory) ≡ true
      by None is passes = absurd (true≢false (sym passes))
      by (Some value) is passes = first_has (list_any (is_at (name_cmp name)) (names_under keys directory) ≡ true) keys Dirents directory (slot_of name) value (chain_of (snaps_of keys) id) is
          (λ a own. in_entries (is_at (name_cmp name)) (names_of_entry directory) (record { inode = directory; offset = slot_of name; snapshot = a }) value keys.dirents own (in_entry a value (ap (list_any (λ (link : Link). is_eq (name_cmp name link.name))) (sym (links_shown (Some value))) ∙ passes)))

  some_size : {X : Type 0} (f : ℕ → X) (inode : Option Inode) → IsSome (option_map f (option_and_then size_of inode)) → IsSome inode
  some_size f None there = there
  some_size f (Some inode) there = refl

  some_kind : {X : Type 0} (x : X) (inode : Option Inode) → IsSome (cond (is_directory (option_map (λ (i : Inode). i.kind) inode)) (Some x) None) → IsSome inode
  some_kind x None there = there
  some_kind x (Some inode) there = refl

  -- So a name leads from a directory of an id where it does there,
  pub name_at : (directory : ℕ) (name : List ℕ) → value_at name_cmp name (names_in keys id directory) ≡ number_in keys id directory name
  name_at directory name = map_over-is nat_list_cmp_total exact_bytes (number_in keys id directory) (names_under keys directory) (names_within directory) name

  pub names_rise : (directory : ℕ) → IsMap name_cmp (names_in keys id directory)
  names_rise directory = IsMap-map_over nat_list_cmp_total exact_bytes (number_in keys id directory) (names_under keys directory)

  pub directories_within : (number : ℕ) → IsSome (directory_in keys id number) → list_any (is_at (nat_cmp number)) (numbers_of keys) ≡ true
  directories_within number some = numbers_within number (some_kind (names_in keys id number) (inode_in keys id number) some)

  -- the directory of a number is what the number stands for there,
  pub directory_at : (number : ℕ) → value_at nat_cmp number (directories_in keys id) ≡ directory_in keys id number
  directory_at number = map_over-is nat_cmp_total exact_unsigned (directory_in keys id) (numbers_of keys) directories_within number

  pub directories_rise : IsMap nat_cmp (directories_in keys id)
  directories_rise = IsMap-map_over nat_cmp_total exact_unsigned (directory_in keys id) (numbers_of keys)

  module _ (read : Read) where
    pub files_within : (number : ℕ) → IsSome (file_in keys read id number) → list_any (is_at (nat_cmp number)) (numbers_of keys) ≡ true
    files_within number some = numbers_within number (some_size (λ size. map (λ index. byte_at (bytes_in keys read id number (index / block_size)) (index % block_size)) (range_with_len 0 size)) (inode_in keys id number) some)

    -- and so is the file.
    pub file_at : (number : ℕ) → value_at nat_cmp number (files_in keys read id) ≡ file_in keys read id number
    file_at number = map_over-is nat_cmp_total exact_unsigned (file_in keys read id) (numbers_of keys) files_within number

    pub files_rise : IsMap nat_cmp (files_in keys read id)
    files_rise = IsMap-map_over nat_cmp_total exact_unsigned (file_in keys read id) (numbers_of keys)

module _ (keys : KeyMap) where
  -- A subvolume that is found is one of all.
  pub subs_within : (name : List ℕ) → IsSome (sub_named keys name) → list_any (is_at (name_cmp name)) (map (λ (sub : Sub). sub.name) (all_subs keys)) ≡ true
  subs_within name some = by (value_in keys Subvols (record { inode = 0; offset = slot_of name; snapshot = 0 })) refl (named (subs_in keys (slot_of name)) some)
    where
      named : (subs : List Sub) → IsSome (find (λ (sub : Sub). is_eq (name_cmp name sub.name)) subs) → list_any (λ (sub : Sub). is_eq (name_cmp name sub.name)) subs ≡ true
      named [] there = absurd (true≢false (sym there))
      named (sub ∷ subs) there = here (is_eq (name_cmp name sub.name)) there (named subs)
        where
          here : (b : Bool) → IsSome (cond b (Some sub) (find (λ (s : Sub). is_eq (name_cmp name s.name)) subs)) → (IsSome (find (λ (s : Sub). is_eq (name_cmp name s.name)) subs) → list_any (λ (s : Sub). is_eq (name_cmp name s.name)) subs ≡ true)
              → (b || list_any (λ (s : Sub). is_eq (name_cmp name s.name)) subs) ≡ true
          here true found later = refl
          here false found later = later found

      by : (value : Option Value) → value_in keys Subvols (record { inode = 0; offset = slot_of name; snapshot = 0 }) ≡ value → list_any (λ (sub : Sub). is_eq (name_cmp name sub.name)) (subs_of value) ≡ true → list_any (is_at (name_cmp name)) (map (λ (sub : Sub). sub.name) (all_subs keys)) ≡ true
      by None is passes = absurd (true≢false (sym passes))
      by (Some value) is passes = any_map (is_at (name_cmp name)) (λ (sub : Sub). sub.name) (all_subs keys) ∙ in_entries (λ (sub : Sub). is_at (name_cmp name) sub.name) (λ entry. subs_of (Some entry.1)) (record { inode = 0; offset = slot_of name; snapshot = 0 }) value keys.subvols is passes

  some_tree : {X : Type 0} (f : Sub → X) (sub : Option Sub) → IsSome (option_map f sub) → IsSome sub
  some_tree f None there = there
  some_tree f (Some sub) there = refl

  module _ (read : Read) where
    pub trees_within : (name : List ℕ) → IsSome (tree_named keys read name) → list_any (is_at (name_cmp name)) (map (λ (sub : Sub). sub.name) (all_subs keys)) ≡ true
    trees_within name some = subs_within name (some_tree (tree_of keys read) (sub_named keys name) some)

    -- The subvolume of a name has the tree of what is found under the name.
    pub tree_at : (name : List ℕ) → value_at name_cmp name (forest_in keys read).subvolumes ≡ tree_named keys read name
    tree_at name = map_over-is nat_list_cmp_total exact_bytes (tree_named keys read) (map (λ (sub : Sub). sub.name) (all_subs keys)) trees_within name

    pub trees_rise : IsMap name_cmp (forest_in keys read).subvolumes
    trees_rise = IsMap-map_over nat_list_cmp_total exact_bytes (tree_named keys read) (map (λ (sub : Sub). sub.name) (all_subs keys))
