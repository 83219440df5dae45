-- Numbers from a client's counter on are named by no key; where no key names a number, nothing shows of it and no name leads to it.
use Rattle.std.proofs.Common.{◌≡◌, ℕ, ◌+◌, ◌*◌, ◌/◌, ◌%◌, ◌<◌, ◌≤◌, Bool, true, false, cond, Option, Some, None, List, [], ◌∷◌, refl, sym, ap, ◌∙◌, subst, arith}
use Rattle.std.specs.Prelude.{◌≢◌, ◌==◌, ◌&&◌, All, find, option_map, option_and_then, count_by, sum_by}
use Rattle.std.specs.BTreeMap.{is_at}
use Rattle.std.specs.Option.{option_or}
use Rattle.std.specs.Ordering.{is_eq, match_ordering, nat_cmp}
use Rattle.std.proofs.lemmas.Bool.{ne_eqb}
use Rattle.std.proofs.lemmas.List.Elements.{All-head, All-nil, All-tail, All-weaker, All-cons}
use Rattle.std.proofs.lemmas.Option.{same_Some, none-some as none_some}
use Rattle.plain_forest.specs.Steps.{numbers_per_client}
use Rattle.snap_tree.specs.Snaps.{chain_of}
use Rattle.vol_digest.specs.Digests.{slot_of}
use Rattle.vol_types.specs.KeyMaps.{Entries, KeyMap, entries_of}
use Rattle.vol_types.specs.Maps.{value_at, with_value}
use Rattle.vol_types.specs.PositionLaws.{pos_exact}
use Rattle.vol_types.specs.Positions.{pos_cmp}
use Rattle.vol_types.specs.Ranges.{name_cmp}
use Rattle.vol_types.specs.declared.positions.Btree.{Btree}
use Rattle.vol_types.specs.declared.positions.Btree.TheVariants.{Extents, Inodes, Dirents, Subvols, Snapshots, Alloc, Backptrs, Deleted, Counters}
use Rattle.vol_types.specs.declared.positions.Pos.{Pos}
use Rattle.vol_types.specs.declared.values.Link.{Link}
use Rattle.vol_types.specs.declared.values.Sub.{Sub}
use Rattle.vol_types.specs.declared.values.Value.{Value}
use Rattle.key_meaning.specs.Blocks.{covers, first_cover, is_cover, shown_of}
use Rattle.key_meaning.specs.Forest.{inode_of, link_named, links_in, links_of, next_in, number_in, subs_of, directories_in, directory_in, is_directory, kind_in, names_in, names_under, numbers_of}
use Rattle.key_meaning.specs.ForestLaws.{links_shown}
use Rattle.key_meaning.specs.Numbers.{IsUnused, NamesOthers, ShowsNowhere}
use Rattle.key_meaning.specs.SoundLaws.{all_in, found_in}
use Rattle.key_meaning.specs.TableLaws.{same_key}
use Rattle.key_meaning.specs.Tidy.{AreKeysDrawn, HasDrawn, IsDrawn}
use Rattle.key_meaning.specs.Visible.{first_value, own_value, shown, snaps_of, visible}
use Rattle.std.specs.declared.cmp.Ordering.{Ordering}
use Rattle.std.specs.declared.cmp.Ordering.TheVariants.{Less, Equal, Greater}
use Rattle.std.proofs.lemmas.List.Sums.{sum_by-cons}
use Rattle.std.proofs.lemmas.Map.Lookups.{CmpEqualImpliesEq, exact_bytes, exact_unsigned}
use Rattle.plain_forest.specs.Forest.{Names}
use Rattle.key_meaning.specs.Checks.{names_to}
use Rattle.key_meaning.specs.Tables.{map_over, with_any}

-- a drawn number is below its client's counter
drawn_below : (keys : KeyMap) (client n other : ℕ) → next_in keys client ≤ n → n < numbers_per_client → IsDrawn keys other → other ≢ client * numbers_per_client + n
drawn_below keys client n other past fits drawn same =
    let whose : other / numbers_per_client ≡ client = omega (arith, same, fits) in
    let which : other % numbers_per_client ≡ n = omega (arith, same, fits) in
    let below : other % numbers_per_client < next_in keys client = subst (λ c. other % numbers_per_client < next_in keys c) whose drawn.count in
    absurd (omega (arith, which, below, past))

-- what names drawn numbers alone names none that isn't drawn
names_others : (keys : KeyMap) (number : ℕ) → ((other : ℕ) → IsDrawn keys other → other ≢ number) → (btree : Btree) (entry : Pos × Value) → HasDrawn keys btree entry → NamesOthers number btree entry
names_others keys number apart Extents entry drawn = apart entry.0.inode drawn
names_others keys number apart Inodes entry drawn = apart entry.0.offset drawn
names_others keys number apart Dirents entry drawn =
    (apart entry.0.inode drawn.0, All-weaker (λ (link : Link). IsDrawn keys link.number) (λ (link : Link). link.number ≢ number) (λ (link : Link). apart link.number) (links_of (Some entry.1)) drawn.1)
names_others keys number apart Subvols entry drawn = All-weaker (λ (sub : Sub). IsDrawn keys sub.root) (λ (sub : Sub). sub.root ≢ number) (λ (sub : Sub). apart sub.root) (subs_of (Some entry.1)) drawn
names_others keys number apart Snapshots entry drawn = tt
names_others keys number apart Alloc entry drawn = tt
names_others keys number apart Backptrs entry drawn = λ extent is. apart extent.inode (drawn extent is)
names_others keys number apart Deleted entry drawn = apart entry.0.offset drawn
names_others keys number apart Counters entry drawn = tt

-- A client's numbers from its counter on are named by no key.
pub unused_from_counter : (keys : KeyMap) (client n : ℕ) → AreKeysDrawn keys → next_in keys client ≤ n → n < numbers_per_client → IsUnused keys (client * numbers_per_client + n)
unused_from_counter keys client n drawn past fits = record {
  each = λ btree k d lt. names_others keys (client * numbers_per_client + n) (λ other. drawn_below keys client n other past fits) btree _ (drawn.each btree k d lt).numbers;
}

-- nothing is looked up at a position where no entry stands
none_at : (pos : Pos) (entries : Entries) → All (λ (entry : Pos × Value). pos ≢ entry.0) entries → value_at pos_cmp pos entries ≡ None
none_at pos [] apart = refl
none_at pos (e ∷ es) apart = by (is_at (pos_cmp pos) e.0) refl (none_at pos es (All-tail (λ (entry : Pos × Value). pos ≢ entry.0) e es apart))
  where
    by : (b : Bool) → is_at (pos_cmp pos) e.0 ≡ b → value_at pos_cmp pos es ≡ None → cond b (Some e.1) (value_at pos_cmp pos es) ≡ None
    by true at later = absurd (All-head (λ (entry : Pos × Value). pos ≢ entry.0) e es apart (same_key pos_exact pos e.0 at))
    by false at later = later

-- nothing is found where nothing passes
none_found : {X : Type 0} (test : X → Bool) (xs : List X) → All (λ x. test x ≡ false) xs → find test xs ≡ None
none_found test [] fails = refl
none_found test (x ∷ xs) fails = ap (λ b. cond b (Some x) (find test xs)) (All-head (λ y. test y ≡ false) x xs fails) ∙ none_found test xs (All-tail (λ y. test y ≡ false) x xs fails)

-- what all values of some entries have, a value that is looked up has
found_has : (Q : Value → Type 0) (pos : Pos) (value : Value) (entries : Entries) → All (λ (entry : Pos × Value). Q entry.1) entries → value_at pos_cmp pos entries ≡ Some value → Q value
found_has Q pos value [] all found = absurd (none_some value found)
found_has Q pos value (e ∷ es) all found = by (is_at (pos_cmp pos) e.0) found (found_has Q pos value es (All-tail (λ (entry : Pos × Value). Q entry.1) e es all))
  where
    by : (b : Bool) → cond b (Some e.1) (value_at pos_cmp pos es) ≡ Some value → (value_at pos_cmp pos es ≡ Some value → Q value) → Q value
    by true here later = subst Q (same_Some e.1 value here) (All-head (λ (entry : Pos × Value). Q entry.1) e es all)
    by false here later = later here

module _ (keys : KeyMap) where
  -- ids without a value of their own have no first value
  none_first : (btree : Btree) (inode offset : ℕ) → ((id : ℕ) → own_value keys btree inode offset id ≡ None) → (ids : List ℕ) → first_value keys btree inode offset ids ≡ None
  none_first btree inode offset none [] = refl
  none_first btree inode offset none (id ∷ ids) = ap (λ o. option_or o (first_value keys btree inode offset ids)) (none id) ∙ none_first btree inode offset none ids

  -- and show nothing
  pub none_shows : (btree : Btree) (inode offset : ℕ) → ((id : ℕ) → own_value keys btree inode offset id ≡ None) → (id : ℕ) → visible keys btree inode offset id ≡ None
  none_shows btree inode offset none id = ap shown (none_first btree inode offset none (chain_of (snaps_of keys) id))

  -- What all values of a btree have, the first value of some ids has.
  pub first_has : (Q : Value → Type 0) (btree : Btree) (inode offset : ℕ) (value : Value) → All (λ (entry : Pos × Value). Q entry.1) (entries_of keys btree) → (ids : List ℕ) → first_value keys btree inode offset ids ≡ Some value → Q value
  first_has Q btree inode offset value all [] found = absurd (none_some value found)
  first_has Q btree inode offset value all (id ∷ ids) found = by (own_value keys btree inode offset id) refl found (first_has Q btree inode offset value all ids)
    where
      by : (own : Option Value) → own_value keys btree inode offset id ≡ own → option_or own (first_value keys btree inode offset ids) ≡ Some value → (first_value keys btree inode offset ids ≡ Some value → Q value) → Q value
      by None is here later = later here
      by (Some x) is here later = found_has Q (record { inode = inode; offset = offset; snapshot = id }) value (entries_of keys btree) all (is ∙ here)

module _ (keys : KeyMap) (number : ℕ) (unused : IsUnused keys number) where
  no_inode : (id : ℕ) → own_value keys Inodes 0 number id ≡ None
  no_inode id = none_at (record { inode = 0; offset = number; snapshot = id }) keys.inodes (All-weaker (NamesOthers number Inodes) (λ (entry : Pos × Value). record { inode = 0; offset = number; snapshot = id } ≢ entry.0) (λ (entry : Pos × Value) apart at. apart (sym (ap (λ (p : Pos). p.offset) at))) keys.inodes (unused.each Inodes))

  no_names : (slot id : ℕ) → own_value keys Dirents number slot id ≡ None
  no_names slot id = none_at (record { inode = number; offset = slot; snapshot = id }) keys.dirents (All-weaker (NamesOthers number Dirents) (λ (entry : Pos × Value). record { inode = number; offset = slot; snapshot = id } ≢ entry.0) (λ (entry : Pos × Value) apart at. apart.0 (sym (ap (λ (p : Pos). p.inode) at))) keys.dirents (unused.each Dirents))

  no_cover : (block : ℕ) (ids : List ℕ) → first_cover keys number block ids ≡ None
  no_cover block [] = refl
  no_cover block (id ∷ ids) = ap (λ o. option_or o (first_cover keys number block ids)) (none_found (is_cover id number block) keys.extents (All-weaker (NamesOthers number Extents) (λ (entry : Pos × Value). is_cover id number block entry ≡ false) other keys.extents (unused.each Extents))) ∙ no_cover block ids
    where
      other : (entry : Pos × Value) → entry.0.inode ≢ number → is_cover id number block entry ≡ false
      other entry apart = ap (λ b. b && entry.0.snapshot == id && covers entry.0.offset entry.1 block) (ne_eqb entry.0.inode number apart)

  -- the links that show lead elsewhere
  links_elsewhere : (id directory slot : ℕ) → All (λ (link : Link). link.number ≢ number) (links_in keys id directory slot)
  links_elsewhere id directory slot = subst (All (λ (link : Link). link.number ≢ number)) (sym (links_shown (first_value keys Dirents directory slot (chain_of (snaps_of keys) id)))) (by (first_value keys Dirents directory slot (chain_of (snaps_of keys) id)) refl)
    where
      by : (o : Option Value) → first_value keys Dirents directory slot (chain_of (snaps_of keys) id) ≡ o → All (λ (link : Link). link.number ≢ number) (links_of o)
      by None is = All-nil (λ (link : Link). link.number ≢ number)
      by (Some value) is = first_has keys (λ v. All (λ (link : Link). link.number ≢ number) (links_of (Some v))) Dirents directory slot value
          (All-weaker (NamesOthers number Dirents) (λ (entry : Pos × Value). All (λ (link : Link). link.number ≢ number) (links_of (Some entry.1))) (λ (entry : Pos × Value) apart. apart.1) keys.dirents (unused.each Dirents))
          (chain_of (snaps_of keys) id) is

  -- and so does each name
  leads_elsewhere : (id directory : ℕ) (name : List ℕ) → number_in keys id directory name ≢ Some number
  leads_elsewhere id directory name = by (link_named name (links_in keys id directory (slot_of name))) refl
    where
      by : (found : Option Link) → link_named name (links_in keys id directory (slot_of name)) ≡ found → option_map (λ (link : Link). link.number) found ≢ Some number
      by None is leads = none_some number leads
      by (Some link) is leads =
          all_in (λ (l : Link). l.number ≢ number) link (links_in keys id directory (slot_of name)) (links_elsewhere id directory (slot_of name)) (found_in (λ (l : Link). is_eq (name_cmp name l.name)) link (links_in keys id directory (slot_of name)) is).0
          (same_Some link.number number leads)

  -- Nothing shows of a number that no key names.
  pub unused_shows_nowhere : ShowsNowhere keys number
  unused_shows_nowhere = record {
    inodes = λ id. ap inode_of (none_shows keys Inodes 0 number no_inode id);
    names = λ id slot. ap links_of (none_shows keys Dirents number slot (no_names slot) id);
    leads = leads_elsewhere;
    blocks = λ id block. ap (option_and_then (shown_of block)) (no_cover block (chain_of (snaps_of keys) id));
  }

module _ {K X : Type 0} (cmp : K → K → Ordering) (exact : CmpEqualImpliesEq cmp) (P : K × X → Type 0) where
  all_with : (key : K) (value : X) (entries : List (K × X)) → P (key, value) → All P entries → All P (with_value cmp key value entries)
  all_with key value [] put all = All-cons P (key, value) [] put (All-nil P)
  all_with key value (e ∷ es) put all = by (cmp key e.0) refl (all_with key value es put (All-tail P e es all))
    where
      by : (r : Ordering) → cmp key e.0 ≡ r → All P (with_value cmp key value es) → All P (match_ordering r ((key, value) ∷ e ∷ es) ((e.0, value) ∷ es) (e ∷ with_value cmp key value es))
      by Less at later = All-cons P (key, value) (e ∷ es) put all
      by Equal at later = All-cons P (e.0, value) es (subst (λ (k : K). P (k, value)) (exact key e.0 at) put) (All-tail P e es all)
      by Greater at later = All-cons P e (with_value cmp key value es) (All-head P e es all) later

  -- what each value that a function gives has, the entries of its map have
  all-map_over : (value : K → Option X) → ((key : K) (x : X) → value key ≡ Some x → P (key, x)) → (keys : List K) → All P (map_over cmp value keys)
  all-map_over value has [] = All-nil P
  all-map_over value has (key ∷ keys) = by (value key) refl (all-map_over value has keys)
    where
      by : (given : Option X) → value key ≡ given → All P (map_over cmp value keys) → All P (with_any cmp key given (map_over cmp value keys))
      by None is later = later
      by (Some x) is later = all_with key x (map_over cmp value keys) (has key x is) later

-- a sum of zeros is zero
sum_of_zeros : {X : Type 0} (f : X → ℕ) (xs : List X) → All (λ x. f x ≡ 0) xs → sum_by f xs ≡ 0
sum_of_zeros f [] zeros = refl
sum_of_zeros f (x ∷ xs) zeros =
    let whole : sum_by f (x ∷ xs) ≡ f x + sum_by f xs = sum_by-cons f x xs in
    let first : f x ≡ 0 = All-head (λ y. f y ≡ 0) x xs zeros in
    let rest : sum_by f xs ≡ 0 = sum_of_zeros f xs (All-tail (λ y. f y ≡ 0) x xs zeros) in omega (arith, whole, first, rest)

module _ (keys : KeyMap) (id number : ℕ) (unused : IsUnused keys number) where
  -- the names of a directory lead elsewhere
  names_elsewhere : (directory : ℕ) → All (λ (name : List ℕ × ℕ). cond {A = ℕ} (name.1 == number) 1 0 ≡ 0) (names_in keys id directory)
  names_elsewhere directory = all-map_over name_cmp exact_bytes (λ (name : List ℕ × ℕ). cond {A = ℕ} (name.1 == number) 1 0 ≡ 0) (number_in keys id directory)
      (λ name n is. ap (λ b. cond {A = ℕ} b 1 0) (ne_eqb n number (λ same. (unused_shows_nowhere keys number unused).leads id directory name (is ∙ ap Some same))))
      (names_under keys directory)

  -- No name leads to it.
  pub no_name_to_unused : names_to keys id number ≡ 0
  no_name_to_unused = sum_of_zeros (λ (directory : ℕ × Names). count_by (λ (name : List ℕ × ℕ). name.1 == number) directory.1) (directories_in keys id)
      (all-map_over nat_cmp exact_unsigned (λ (directory : ℕ × Names). count_by (λ (name : List ℕ × ℕ). name.1 == number) directory.1 ≡ 0) (directory_in keys id) none (numbers_of keys))
    where
      none : (directory : ℕ) (names : Names) → directory_in keys id directory ≡ Some names → count_by (λ (name : List ℕ × ℕ). name.1 == number) names ≡ 0
      none directory names is = by (is_directory (kind_in keys id directory)) is
        where
          by : (b : Bool) → cond b (Some (names_in keys id directory)) None ≡ Some names → count_by (λ (name : List ℕ × ℕ). name.1 == number) names ≡ 0
          by true some = subst (λ (ns : Names). count_by (λ (name : List ℕ × ℕ). name.1 == number) ns ≡ 0) (same_Some (names_in keys id directory) names some)
              (sum_of_zeros (λ (name : List ℕ × ℕ). cond {A = ℕ} (name.1 == number) 1 0) (names_in keys id directory) (names_elsewhere directory))
          by false some = absurd (none_some names some)
