-- The nearest of some keys that cover a block is what the block belongs to.
use Rattle.std.proofs.Common.{◌≡◌, inl, inr, ℕ, ◌+◌, ◌-◌, ◌<◌, ◌≤◌, Bool, true, false, cond, Option, Some, None, List, [], ◌∷◌, map, min, slice_index, refl, sym, ap, ◌∙◌, arith}
use Rattle.std.specs.Prelude.{◌&&◌, ◌||◌, ◌==◌, All, nat_eq, nat_lt, find, option_map, option_and_then}
use Rattle.std.specs.List.{AllByRecursion, filter, fold, list_any}
use Rattle.std.specs.List.Sorted.{IsStrictlySortedBy}
use Rattle.std.specs.Option.{option_or}
use Rattle.std.specs.Ordering.{nat_cmp}
use Rattle.std.specs.declared.cmp.Ordering.TheVariants.{Less}
use Rattle.std.proofs.lemmas.Bool.{eq-eqb, eqb-true, true≢false}
use Rattle.std.proofs.lemmas.Bool.Decides.{nat_tests}
use Rattle.std.proofs.lemmas.Cmp.{ranked}
use Rattle.std.proofs.lemmas.List.Elements.{All-head, All-tail}
use Rattle.std.proofs.lemmas.Map.Keys.{sorted_head, sorted_tail}
use Rattle.std.proofs.lemmas.Option.{none-some as none_some, same_Some}
use Rattle.snap_tree.specs.ChainLaws.{chain_of-rises}
use Rattle.snap_tree.specs.Snaps.{Snaps, chain_of, is_ancestor_of}
use Rattle.vol_types.specs.KeyMaps.{Entries, IsKeyMap, KeyMap, key_of, keys_in}
use Rattle.vol_types.specs.PositionLaws.{pos_total}
use Rattle.vol_types.specs.Positions.{pos_cmp}
use Rattle.vol_types.specs.declared.positions.Btree.TheVariants.{Extents}
use Rattle.vol_types.specs.declared.keys.Key.{Key}
use Rattle.vol_types.specs.declared.pointers.Place.{Place}
use Rattle.vol_types.specs.declared.pointers.Pointer.{Pointer}
use Rattle.vol_types.specs.declared.positions.Pos.{Pos}
use Rattle.vol_types.specs.declared.values.Value.{Value}
use Rattle.vol_types.specs.declared.values.Value.TheVariants as values
use Rattle.key_meaning.specs.Blocks.{block_in, blocks_of, covers, first_cover, is_cover, place_at, shown_of}
use Rattle.key_meaning.specs.Visible.{snaps_of}
use Rattle.key_meaning.specs.VisibleLaws.{snaps_of-rises}
use Rattle.extent_ops.specs.Content.{AreLookedAt, HavePlaces, block_at}
use Rattle.extent_ops.specs.Cutting.{pointer_behind}
use Rattle.extent_ops.specs.Nearest.{found_in, is_nearer, nearer, nearest_of}
use Rattle.extent_ops.proofs.Members.{Has}
use Rattle.extent_ops.proofs.Keyed.{filter-has, member_at}
use Rattle.extent_ops.proofs.Pieces.{covers-range}
use Rattle.extent_ops.proofs.Fresh.{all-member}

-- the extent or hole of the first of these ids that has one over a block, among some entries
abbrev pub first_in : ℕ → ℕ → Entries → List ℕ → Option (Pos × Value)
first_in file block entries [] = None
first_in file block entries (id ∷ ids) = option_or (find (is_cover id file block) entries) (first_in file block entries ids)

-- the nearer one of two, the first where they are of one id
abbrev pub closer : Option (Pos × Value) → Option (Pos × Value) → Option (Pos × Value)
closer None other = other
closer (Some one) None = Some one
closer (Some one) (Some other) = cond (nat_lt other.0.snapshot one.0.snapshot) (Some other) (Some one)

-- it is as much which of three are compared first
closer-closer : (a b c : Option (Pos × Value)) → closer (closer a b) c ≡ closer a (closer b c)
closer-closer None b c = refl
closer-closer (Some a) None c = refl
closer-closer (Some a) (Some b) None = by (nat_lt b.0.snapshot a.0.snapshot)
  where
    by : (t : Bool) → closer (cond t (Some b) (Some a)) None ≡ cond t (Some b) (Some a)
    by true = refl
    by false = refl
closer-closer (Some a) (Some b) (Some c) = by (nat_lt b.0.snapshot a.0.snapshot) refl (nat_lt c.0.snapshot b.0.snapshot) refl (nat_lt c.0.snapshot a.0.snapshot) refl
  where
    by : (t : Bool) → nat_lt b.0.snapshot a.0.snapshot ≡ t → (u : Bool) → nat_lt c.0.snapshot b.0.snapshot ≡ u → (v : Bool) → nat_lt c.0.snapshot a.0.snapshot ≡ v
        → closer (cond t (Some b) (Some a)) (Some c) ≡ closer (Some a) (cond u (Some c) (Some b))
    by true is true is' v is'' = ap (λ x. cond x (Some c) (Some b)) is' ∙ sym (ap (λ x. cond x (Some c) (Some a)) (less a.0.snapshot b.0.snapshot c.0.snapshot is is'))
      where
        less : (x y z : ℕ) → nat_lt y x ≡ true → nat_lt z y ≡ true → nat_lt z x ≡ true
        less x y z p q = grind (arith, nat_tests)
    by true is false is' v is'' = ap (λ x. cond x (Some c) (Some b)) is' ∙ sym (ap (λ x. cond x (Some b) (Some a)) is)
    by false is true is' v is'' = refl
    by false is false is' v is'' = ap (λ x. cond x (Some c) (Some a)) (more a.0.snapshot b.0.snapshot c.0.snapshot is is') ∙ sym (ap (λ x. cond x (Some b) (Some a)) is)
      where
        more : (x y z : ℕ) → nat_lt y x ≡ false → nat_lt z y ≡ false → nat_lt z x ≡ false
        more x y z p q = grind (arith, nat_tests)

-- an entry, if it counts
abbrev counted : ℕ → ℕ → List ℕ → Pos × Value → Option (Pos × Value)
counted file block ids e = cond (e.0.inode == file && covers e.0.offset e.1 block && list_any (nat_eq e.0.snapshot) ids) (Some e) None

-- What is found is a member that passes.
pub find-has : {X : Type 0} (test : X → Bool) (x : X) (xs : List X) → find test xs ≡ Some x → Has x xs × (test x ≡ true)
find-has test x [] found = absurd (none_some x found)
find-has test x (y ∷ xs) found = by (test y) refl found (λ later. find-has test x xs later)
  where
    by : (b : Bool) → test y ≡ b → cond b (Some y) (find test xs) ≡ Some x → (find test xs ≡ Some x → Has x xs × (test x ≡ true)) → Has x (y ∷ xs) × (test x ≡ true)
    by true is found later = let same = same_Some y x found in (inl (sym same), ap test (sym same) ∙ is)
    by false is found later = let rest = later found in (inr rest.0, rest.1)

three : (a b c : Bool) → (a && b && c) ≡ true → (a ≡ true) × (b ≡ true) × (c ≡ true)
three true true c are = (refl, refl, are)
three true false c are = absurd (true≢false (sym are))
three false b c are = absurd (true≢false (sym are))

-- What is first among entries is one of them, of one of the ids, and covers the block.
pub first_in-has : (file block : ℕ) (entries : Entries) (ids : List ℕ) (x : Pos × Value) → first_in file block entries ids ≡ Some x → Has x entries × (covers x.0.offset x.1 block ≡ true) × Has x.0.snapshot ids × (x.0.inode ≡ file)
first_in-has file block entries [] x is = absurd (none_some x is)
first_in-has file block entries (id ∷ ids) x is = by (find (is_cover id file block) entries) refl is (λ later. first_in-has file block entries ids x later)
  where
    by : (o : Option (Pos × Value)) → find (is_cover id file block) entries ≡ o → option_or o (first_in file block entries ids) ≡ Some x → (first_in file block entries ids ≡ Some x → Has x entries × (covers x.0.offset x.1 block ≡ true) × Has x.0.snapshot ids × (x.0.inode ≡ file))
        → Has x entries × (covers x.0.offset x.1 block ≡ true) × Has x.0.snapshot (id ∷ ids) × (x.0.inode ≡ file)
    by None found is later = let rest = later is in (rest.0, rest.1, inr rest.2, rest.3)
    by (Some y) found is later =
        let it = find-has (is_cover id file block) x entries (found ∙ is) in
        let parts = three (x.0.inode == file) (x.0.snapshot == id) (covers x.0.offset x.1 block) it.1 in
        (it.0, parts.2, inl (eqb-true x.0.snapshot id parts.1), eqb-true x.0.inode file parts.0)

-- each later id of a rising list is greater
above_first : (id a : ℕ) (ids : List ℕ) → AllByRecursion (λ y. nat_cmp id y ≡ Less) ids → Has a ids → id < a
above_first id a [] all has = elim has [ ]
above_first id a (b ∷ ids) all (inl same) = omega (arith, same, ranked id b Less (sym all.0))
above_first id a (b ∷ ids) all (inr later) = above_first id a ids all.1 later

any_is : (a : ℕ) (ids : List ℕ) → list_any (nat_eq a) ids ≡ true → Has a ids
any_is a [] any = absurd (true≢false (sym any))
any_is a (b ∷ ids) any = by (a == b) refl any (λ later. any_is a ids later)
  where
    by : (t : Bool) → (a == b) ≡ t → (t || list_any (nat_eq a) ids) ≡ true → (list_any (nat_eq a) ids ≡ true → Has a ids) → Has a (b ∷ ids)
    by true is any later = inl (eqb-true a b is)
    by false is any later = inr (later any)

-- One entry more in front is nearer than the rest, or isn't.
pub first_in-step : (file block : ℕ) (e : Pos × Value) (entries : Entries) (ids : List ℕ) → IsStrictlySortedBy nat_cmp ids → first_in file block (e ∷ entries) ids ≡ closer (counted file block ids e) (first_in file block entries ids)
first_in-step file block e entries [] rises = sym (ap (λ o. closer o None) (nothing (e.0.inode == file) (covers e.0.offset e.1 block)))
  where
    nothing : (a b : Bool) → cond (a && b && false) (Some e) None ≡ None
    nothing true true = refl
    nothing true false = refl
    nothing false b = refl
first_in-step file block e entries (id ∷ ids) rises = by (e.0.inode == file) (e.0.snapshot == id) refl (covers e.0.offset e.1 block) (find (is_cover id file block) entries) refl (first_in-step file block e entries ids (sorted_tail nat_cmp id ids rises))
  where
    not_nearer : (x : Option (Pos × Value)) → first_in file block entries (id ∷ ids) ≡ x → e.0.snapshot ≡ id → closer (Some e) x ≡ Some e
    not_nearer None is same = refl
    not_nearer (Some x) is same = ap (λ b. cond b (Some x) (Some e)) (least (first_in-has file block entries (id ∷ ids) x is).2)
      where
        not_less : (a b : ℕ) → b ≤ a → nat_lt a b ≡ false
        not_less a b le = grind (arith, nat_tests)

        least : Has x.0.snapshot (id ∷ ids) → nat_lt x.0.snapshot e.0.snapshot ≡ false
        least (inl equal) = not_less x.0.snapshot e.0.snapshot (omega (arith, equal, same))
        least (inr later) = not_less x.0.snapshot e.0.snapshot (omega (arith, same, above_first id x.0.snapshot ids (sorted_head nat_cmp id ids rises) later))

    -- what an id below that of the entry has is nearer
    is_nearer_than : (x : Pos × Value) → x.0.snapshot ≡ id → (b : Bool) → list_any (nat_eq e.0.snapshot) ids ≡ b → closer (cond b (Some e) None) (Some x) ≡ Some x
    is_nearer_than x same true any = ap (λ t. cond t (Some x) (Some e)) (less x.0.snapshot e.0.snapshot (omega (arith, same, above_first id e.0.snapshot ids (sorted_head nat_cmp id ids rises) (any_is e.0.snapshot ids any))))
      where
        less : (a b : ℕ) → a < b → nat_lt a b ≡ true
        less a b lt = grind (arith, nat_tests)
    is_nearer_than x same false any = refl

    found_id : (x : Pos × Value) → find (is_cover id file block) entries ≡ Some x → x.0.snapshot ≡ id
    found_id x found = let it = find-has (is_cover id file block) x entries found in eqb-true x.0.snapshot id (three (x.0.inode == file) (x.0.snapshot == id) (covers x.0.offset x.1 block) it.1).1

    by : (f i : Bool) → (e.0.snapshot == id) ≡ i → (c : Bool) → (o : Option (Pos × Value)) → find (is_cover id file block) entries ≡ o
        → first_in file block (e ∷ entries) ids ≡ closer (cond (f && c && list_any (nat_eq e.0.snapshot) ids) (Some e) None) (first_in file block entries ids)
        → option_or (cond (f && i && c) (Some e) o) (first_in file block (e ∷ entries) ids) ≡ closer (cond (f && c && (i || list_any (nat_eq e.0.snapshot) ids)) (Some e) None) (option_or o (first_in file block entries ids))
    by true true same true o found later = sym (not_nearer (option_or o (first_in file block entries ids)) (ap (λ x. option_or x (first_in file block entries ids)) found) (eqb-true e.0.snapshot id same))
    by true false differ true None found later = later
    by true false differ true (Some x) found later = sym (is_nearer_than x (found_id x found) (list_any (nat_eq e.0.snapshot) ids) refl)
    by true true same false None found later = later
    by true true same false (Some x) found later = refl
    by true false same false None found later = later
    by true false same false (Some x) found later = refl
    by false true same c o found later = ap (option_or o) later
    by false false same c o found later = ap (option_or o) later

-- The first of ids among all entries of a key map.
pub first_cover-is : (map : KeyMap) (file block : ℕ) (ids : List ℕ) → first_cover map file block ids ≡ first_in file block map.extents ids
first_cover-is map file block [] = refl
first_cover-is map file block (id ∷ ids) = ap (option_or (find (is_cover id file block) map.extents)) (first_cover-is map file block ids)

-- Entries that can't cover the block may be left out.
pub find-filter : (test passes : Pos × Value → Bool) (entries : Entries) → ((e : Pos × Value) → Has e entries → test e ≡ true → passes e ≡ true) → find test (filter passes entries) ≡ find test entries
find-filter test passes [] implied = refl
find-filter test passes (e ∷ es) implied = by (passes e) refl (test e) refl (find-filter test passes es (λ x has. implied x (inr has)))
  where
    by : (b : Bool) → passes e ≡ b → (t : Bool) → test e ≡ t → find test (filter passes es) ≡ find test es → find test (cond b (e ∷ filter passes es) (filter passes es)) ≡ cond (test e) (Some e) (find test es)
    by true is t is' later = ap (cond (test e) (Some e)) later
    by false is true is' later = absurd (true≢false (sym (implied e (inl refl) is') ∙ is))
    by false is false is' later = later ∙ sym (ap (λ t. cond t (Some e) (find test es)) is')

pub first_in-filter : (file block : ℕ) (passes : Pos × Value → Bool) (entries : Entries) (ids : List ℕ) → ((e : Pos × Value) → Has e entries → e.0.inode ≡ file → covers e.0.offset e.1 block ≡ true → passes e ≡ true) → first_in file block (filter passes entries) ids ≡ first_in file block entries ids
first_in-filter file block passes entries [] implied = refl
first_in-filter file block passes entries (id ∷ ids) implied =
    λ i. option_or (find-filter (is_cover id file block) passes entries (λ e has is. let parts = three (e.0.inode == file) (e.0.snapshot == id) (covers e.0.offset e.1 block) is in implied e has (eqb-true e.0.inode file parts.0) parts.2) i)
    (first_in-filter file block passes entries ids implied i)

-- the code's choice of keys is that of entries
nearer-closer : (snaps : Snaps) (id file block : ℕ) (best : Option (Pos × Value)) (e : Pos × Value) → e.0.inode ≡ file → nearer snaps id block (option_map key_of best) (key_of e) ≡ option_map key_of (closer best (counted file block (chain_of snaps id) e))
nearer-closer snaps id file block best e of_file = by best (covers e.0.offset e.1 block) (is_ancestor_of snaps e.0.snapshot id) ∙ ap (λ f. option_map key_of (closer best (cond (f && covers e.0.offset e.1 block && is_ancestor_of snaps e.0.snapshot id) (Some e) None))) (sym (eq-eqb e.0.inode file of_file))
  where
    chosen : (b : Pos × Value) (t : Bool) → cond t (Some (key_of e)) (Some (key_of b)) ≡ option_map key_of (cond t (Some e) (Some b))
    chosen b true = refl
    chosen b false = refl

    by : (best : Option (Pos × Value)) (c a : Bool) → cond (c && a && is_nearer (option_map key_of best) (key_of e)) (Some (key_of e)) (option_map key_of best) ≡ option_map key_of (closer best (cond (true && c && a) (Some e) None))
    by None true true = refl
    by None true false = refl
    by None false a = refl
    by (Some b) true true = chosen b (nat_lt e.0.snapshot b.0.snapshot)
    by (Some b) true false = refl
    by (Some b) false a = refl

chosen-from : (snaps : Snaps) (id file block : ℕ) → IsStrictlySortedBy nat_cmp (chain_of snaps id) → (best : Option (Pos × Value)) (entries : Entries) → ((e : Pos × Value) → Has e entries → e.0.inode ≡ file)
    → fold (nearer snaps id block) (option_map key_of best) (keys_in entries) ≡ option_map key_of (closer best (first_in file block entries (chain_of snaps id)))
chosen-from snaps id file block rises best [] of_file = sym (ap (λ o. option_map key_of (closer best o)) (nothing (chain_of snaps id)) ∙ ends best)
  where
    nothing : (ids : List ℕ) → first_in file block [] ids ≡ None
    nothing [] = refl
    nothing (a ∷ ids) = nothing ids

    ends : (b : Option (Pos × Value)) → option_map key_of (closer b None) ≡ option_map key_of b
    ends None = refl
    ends (Some b) = refl
chosen-from snaps id file block rises best (e ∷ es) of_file =
    ap (λ b. fold (nearer snaps id block) b (keys_in es)) (nearer-closer snaps id file block best e (of_file e (inl refl)))
    ∙ chosen-from snaps id file block rises (closer best (counted file block (chain_of snaps id) e)) es (λ x has. of_file x (inr has))
    ∙ ap (option_map key_of) (closer-closer best (counted file block (chain_of snaps id) e) (first_in file block es (chain_of snaps id)))
    ∙ ap (λ o. option_map key_of (closer best o)) (sym (first_in-step file block e es (chain_of snaps id) rises))

-- What a key shows of a block that its entry covers is what the entry shows of it.
found_in-shown : (block : ℕ) (pos : Pos) (value : Value) → HavePlaces value → covers pos.offset value block ≡ true → option_map block_at (found_in block pos.offset (Some value)) ≡ shown_of block (pos, value)
found_in-shown block pos (values.Extent e) fit over =
    let range = covers-range pos.offset (values.Extent e) block over in
    ap (λ (places : List Place). Some (record { places = places; digest = slice_index e.digests (block - (pos.offset - blocks_of (values.Extent e))) }))
    (same_places (block - (pos.offset - blocks_of (values.Extent e))) (omega (arith, range.0, range.1, range.2)) e.pointers fit.places)
  where
    same_places : (index : ℕ) → index < blocks_of (values.Extent e) → (pointers : List Pointer) → All (λ (p : Pointer). p.place.block + blocks_of (values.Extent e) ≤ 4294967295) pointers → map (λ (p : Pointer). p.place) (map (pointer_behind index) pointers) ≡ map (place_at index) pointers
    same_places index lt [] all = refl
    same_places index lt (p ∷ ps) all =
        let here = All-head (λ (p : Pointer). p.place.block + blocks_of (values.Extent e) ≤ 4294967295) p ps all in
        let same : min (p.place.block + index) 4294967295 ≡ p.place.block + index = omega (arith, here, lt) in
        λ i. record { dev = p.place.dev; block = same i } ∷ same_places index lt ps (All-tail (λ (p : Pointer). p.place.block + blocks_of (values.Extent e) ≤ 4294967295) p ps all) i
found_in-shown block pos (values.Hole blocks) fit over = refl
found_in-shown block pos (values.Inode x) fit over = refl
found_in-shown block pos (values.Names x) fit over = refl
found_in-shown block pos values.White fit over = refl
found_in-shown block pos (values.Subs x) fit over = refl
found_in-shown block pos (values.Snap x) fit over = refl
found_in-shown block pos (values.Live x) fit over = refl
found_in-shown block pos (values.Back x) fit over = refl
found_in-shown block pos values.Gone fit over = refl
found_in-shown block pos (values.Counter x) fit over = refl
found_in-shown block pos (values.Node x) fit over = refl

-- The nearest key that covers a block is what it belongs to.
pub nearest_of-is : (map : KeyMap) (id file block : ℕ) (keys : List Key) → IsKeyMap map → AreLookedAt map file block block keys → nearest_of (snaps_of map) id block keys ≡ option_map key_of (first_cover map file block (chain_of (snaps_of map) id))
nearest_of-is keys_map id file block keys is_map looked =
    ap (nearest_of (snaps_of keys_map) id block) looked.are
    ∙ chosen-from (snaps_of keys_map) id file block (chain_of-rises (snaps_of keys_map) id (snaps_of-rises keys_map)) None (filter looked.looked_at keys_map.extents) (λ e has. looked.of_file e (filter-has looked.looked_at e keys_map.extents has).1)
    ∙ ap (option_map key_of) (first_in-filter file block looked.looked_at keys_map.extents (chain_of (snaps_of keys_map) id) (λ e has is over. looked.whole e block (member_at pos_cmp pos_total e keys_map.extents (is_map.rises Extents) has) is (omega arith) (omega arith) over) ∙ sym (first_cover-is keys_map file block (chain_of (snaps_of keys_map) id)))

-- So what it shows of the block is what shows.
pub found_in-is : (map : KeyMap) (id file block : ℕ) (key : Key) → All (λ (entry : Pos × Value). HavePlaces entry.1) map.extents → Some key ≡ option_map key_of (first_cover map file block (chain_of (snaps_of map) id))
    → option_map block_at (found_in block key.pos.offset key.value) ≡ block_in map id file block
found_in-is keys_map id file block key fit is = by (first_cover keys_map file block (chain_of (snaps_of keys_map) id)) refl is
  where
    by : (o : Option (Pos × Value)) → first_cover keys_map file block (chain_of (snaps_of keys_map) id) ≡ o → Some key ≡ option_map key_of o → option_map block_at (found_in block key.pos.offset key.value) ≡ option_and_then (shown_of block) (first_cover keys_map file block (chain_of (snaps_of keys_map) id))
    by None found is = absurd (none_some key (sym is))
    by (Some e) found is =
        let has = first_in-has file block keys_map.extents (chain_of (snaps_of keys_map) id) e (sym (first_cover-is keys_map file block (chain_of (snaps_of keys_map) id)) ∙ found) in
        let same : key ≡ key_of e = same_Some key (key_of e) is in
        ap (λ (k : Key). option_map block_at (found_in block k.pos.offset k.value)) same ∙ found_in-shown block e.0 e.1 (all-member (λ (entry : Pos × Value). HavePlaces entry.1) e keys_map.extents fit has.0) has.1 ∙ sym (ap (option_and_then (shown_of block)) found)

pub found_none : (map : KeyMap) (id file block : ℕ) → None ≡ option_map key_of (first_cover map file block (chain_of (snaps_of map) id)) → None ≡ block_in map id file block
found_none keys_map id file block is = by (first_cover keys_map file block (chain_of (snaps_of keys_map) id)) refl is
  where
    by : (o : Option (Pos × Value)) → first_cover keys_map file block (chain_of (snaps_of keys_map) id) ≡ o → None ≡ option_map key_of o → None ≡ option_and_then (shown_of block) (first_cover keys_map file block (chain_of (snaps_of keys_map) id))
    by None found is = sym (ap (option_and_then (shown_of block)) found)
    by (Some e) found is = absurd (none_some (key_of e) is)

-- An id that is among some is found there.
pub is_any : (a : ℕ) (ids : List ℕ) → Has a ids → list_any (nat_eq a) ids ≡ true
is_any a [] has = elim has [ ]
is_any a (b ∷ ids) (inl same) = ap (λ t. t || list_any (nat_eq a) ids) (eq-eqb a b same)
is_any a (b ∷ ids) (inr later) = ap (λ t. (a == b) || t) (is_any a ids later) ∙ or_true (a == b)
  where
    or_true : (t : Bool) → (t || true) ≡ true
    or_true true = refl
    or_true false = refl
