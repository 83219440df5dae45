-- The parts of a stretch over which counted keys lie are all their blocks in it, and holes over them hide what ancestors have.
use Rattle.std.proofs.Common.{◌≡◌, ◌⊎◌, ⊎_elim, inl, inr, ℕ, ◌+◌, ◌-◌, ◌<◌, ◌≤◌, Bool, true, false, cond, Option, Some, None, List, [], ◌∷◌, ◌++◌, map, min, refl, sym, ap, ◌∙◌, subst, arith}
use Rattle.std.specs.Prelude.{◌&&◌, ◌||◌, ◌==◌, nat_eq, nat_lt}
use Rattle.std.specs.List.{AllByRecursion, filter, list_any}
use Rattle.std.specs.Map.{keys_of}
use Rattle.std.specs.Ordering.{nat_cmp, ordering_then}
use Rattle.std.specs.declared.cmp.Ordering.{Ordering}
use Rattle.std.specs.declared.cmp.Ordering.TheVariants.{Less, Equal, Greater}
use Rattle.std.proofs.lemmas.Bool.{and_parts, eq-eqb, eqb-true, lt-ltb, ltb-false, ltb-true, true≢false}
use Rattle.std.proofs.lemmas.Cmp.{ranked}
use Rattle.std.proofs.lemmas.Map.Keys.{sorted_head, sorted_tail}
use Rattle.std.proofs.lemmas.Option.{same_Some}
use Rattle.snap_tree.specs.Snaps.{Snaps, chain_of, is_ancestor_of}
use Rattle.vol_types.specs.KeyMaps.{Entries, IsKeyMap, KeyMap, key_of, keys_in}
use Rattle.vol_types.specs.Maps.{IsMap}
use Rattle.vol_types.specs.PositionLaws.{pos_total}
use Rattle.vol_types.specs.Positions.{pos_cmp}
use Rattle.vol_types.specs.declared.keys.Key.{Key}
use Rattle.vol_types.specs.declared.positions.Btree.TheVariants.{Extents}
use Rattle.vol_types.specs.declared.positions.Pos.{Pos}
use Rattle.vol_types.specs.declared.values.Value.{Value}
use Rattle.vol_types.specs.declared.values.Value.TheVariants as values
use Rattle.key_meaning.specs.Blocks.{blocks_of, covers}
use Rattle.key_meaning.specs.Visible.{snaps_of}
use Rattle.extent_ops.specs.Above.{blocks_maybe, hole_of, is_counted, is_extent_maybe, low_of, lowest, piece_of, swept}
use Rattle.extent_ops.specs.Content.{AreLookedAt, HavePlaces, hidden_if, is_extent, is_extent_over}
use Rattle.extent_ops.specs.Nearest.{covers_maybe}
use Rattle.extent_ops.specs.Stretches.{between, has_block, is_within}
use Rattle.extent_ops.specs.declared.cutting.Change.{Change}
use Rattle.extent_ops.specs.declared.stretches.Stretch.{Stretch}
use Rattle.extent_ops.proofs.Cuts.{PutsOver}
use Rattle.extent_ops.proofs.Gaps.{between_has, has_between, in_between, lies_in}
use Rattle.extent_ops.proofs.Keyed.{filter-has, has-filter, member_at}
use Rattle.extent_ops.proofs.Members.{Has, any-has, has-append, has-first, has-map, has-second, map-has}
use Rattle.extent_ops.proofs.Pieces.{covers-range, range-covers, shown_by}
use Rattle.extent_ops.proofs.Taken.{AreGiven}

-- Tests that pass together are one.
pub alike : (a b : Bool) → (a ≡ true → b ≡ true) → (b ≡ true → a ≡ true) → a ≡ b
alike true b there back = sym (there refl)
alike false true there back = back refl
alike false false there back = refl

pub has-any : {X : Type 0} (test : X → Bool) (x : X) (xs : List X) → Has x xs → test x ≡ true → list_any test xs ≡ true
has-any test x [] has passes = elim has [ ]
has-any test x (y ∷ ys) (inl same) passes = ap (λ b. b || list_any test ys) (ap test (sym same) ∙ passes)
has-any test x (y ∷ ys) (inr later) passes = ap (λ b. test y || b) (has-any test x ys later passes) ∙ or_true (test y)
  where
    or_true : (b : Bool) → (b || true) ≡ true
    or_true true = refl
    or_true false = refl

-- Each key ends where a later one does, or before it.
abbrev pub AreRising : List Key → Type 0
AreRising [] = Unit {0}
AreRising (key ∷ keys) = ((other : Key) → Has other keys → key.pos.offset ≤ other.pos.offset) × AreRising keys

-- whether a counted key covers a block
abbrev pub counted_over : Snaps → ℕ → ℕ → Key → Bool
counted_over snaps parent block key = is_counted snaps parent key && covers_maybe key.pos.offset key.value block

-- what covers a block has it in its range
maybe-range : (end block : ℕ) (value : Option Value) → covers_maybe end value block ≡ true → (end - blocks_maybe value ≤ block) × (block < end)
maybe-range end block None over = absurd (true≢false (sym over))
maybe-range end block (Some value) over = let range = covers-range end value block over in (range.0, range.1)

range-maybe : (end block : ℕ) (value : Option Value) → is_extent_maybe value ≡ true → end - blocks_maybe value ≤ block → block < end → covers_maybe end value block ≡ true
range-maybe end block None some le lt = absurd (true≢false (sym some))
range-maybe end block (Some value) some le lt = range-covers end value block le lt

module _ (snaps : Snaps) (parent : ℕ) (w : Stretch) (forward : w.first ≤ w.end) where
  abbrev low : List Key → ℕ
  low keys = lowest snaps parent w keys

  abbrev parts_of : List Key → List Stretch
  parts_of keys = swept snaps parent w keys

  abbrev piece : Key → List Key → Stretch
  piece key keys = piece_of w (low keys) key

  -- the lowest block lies in the stretch
  low_bounds : (keys : List Key) → (w.first ≤ low keys) × (low keys ≤ w.end)
  low_bounds [] = (forward, omega arith)
  low_bounds (key ∷ keys) = by (is_counted snaps parent key) (low_bounds keys)
    where
      shorter : (b : Bool) → nat_lt (piece key keys).first (piece key keys).end ≡ b → (w.first ≤ low keys) × (low keys ≤ w.end) → (w.first ≤ cond b (piece key keys).first (low keys)) × (cond b (piece key keys).first (low keys) ≤ w.end)
      shorter true is later = let lt = ltb-true (piece key keys).first (piece key keys).end is in (omega arith, omega (arith, lt, later.1))
      shorter false is later = later

      by : (b : Bool) → (w.first ≤ low keys) × (low keys ≤ w.end) → (w.first ≤ cond b (low_of (piece key keys) (low keys)) (low keys)) × (cond b (low_of (piece key keys) (low keys)) (low keys) ≤ w.end)
      by true later = shorter (nat_lt (piece key keys).first (piece key keys).end) refl later
      by false later = later

  -- Each part begins at the lowest block or behind it, and has a block.
  pub parts_above : (keys : List Key) (part : Stretch) → Has part (parts_of keys) → (low keys ≤ part.first) × (part.first < part.end)
  parts_above [] part has = elim has [ ]
  parts_above (key ∷ keys) part has = by (is_counted snaps parent key) has (λ later. parts_above keys part later)
    where
      lower : (b : Bool) → nat_lt (piece key keys).first (piece key keys).end ≡ b → cond b (piece key keys).first (low keys) ≤ low keys
      lower true is = let lt = ltb-true (piece key keys).first (piece key keys).end is in omega (arith, lt)
      lower false is = omega arith

      new : Has part (between (piece key keys).first (piece key keys).end) → (low_of (piece key keys) (low keys) ≤ part.first) × (part.first < part.end)
      new has = let it = in_between (piece key keys).first (piece key keys).end part has in
          let first : part.first ≡ (piece key keys).first = ap (λ (s : Stretch). s.first) it.0 in
          let end : part.end ≡ (piece key keys).end = ap (λ (s : Stretch). s.end) it.0 in
          (subst (λ (b : Bool). cond b (piece key keys).first (low keys) ≤ part.first) (sym (lt-ltb (piece key keys).first (piece key keys).end it.1)) (omega (arith, first)), omega (arith, first, end, it.1))

      by : (b : Bool) → Has part (cond b (parts_of keys ++ between (piece key keys).first (piece key keys).end) (parts_of keys)) → (Has part (parts_of keys) → (low keys ≤ part.first) × (part.first < part.end))
          → (cond b (low_of (piece key keys) (low keys)) (low keys) ≤ part.first) × (part.first < part.end)
      by true has later = ⊎_elim
          (λ (old : Has part (parts_of keys)). let it = later old in (omega (arith, lower (nat_lt (piece key keys).first (piece key keys).end) refl, it.0), it.1))
          new
          (has-append part (parts_of keys) (between (piece key keys).first (piece key keys).end) has)
      by false has later = later has

  -- Parts that have a block in common are one.
  parts_once : (keys : List Key) (one other : Stretch) (block : ℕ) → Has one (parts_of keys) → Has other (parts_of keys) → one.first ≤ block → block < one.end → other.first ≤ block → block < other.end → one ≡ other
  parts_once [] one other block has has' a b c d = elim has [ ]
  parts_once (key ∷ keys) one other block has has' a b c d = by (is_counted snaps parent key) has has' (λ x y. parts_once keys one other block x y a b c d)
    where
      apart : (x y : Stretch) → x.first ≤ block → block < y.end → Has x (parts_of keys) → Has y (between (piece key keys).first (piece key keys).end) → ⊥
      apart x y le lt old new =
          let up = parts_above keys x old in
          let it = in_between (piece key keys).first (piece key keys).end y new in
          let end : y.end ≡ (piece key keys).end = ap (λ (s : Stretch). s.end) it.0 in
          omega (arith, up.0, end, le, lt)

      by : (t : Bool) → Has one (cond t (parts_of keys ++ between (piece key keys).first (piece key keys).end) (parts_of keys)) → Has other (cond t (parts_of keys ++ between (piece key keys).first (piece key keys).end) (parts_of keys))
          → (Has one (parts_of keys) → Has other (parts_of keys) → one ≡ other) → one ≡ other
      by false has has' later = later has has'
      by true has has' later = ⊎_elim
          (λ (old : Has one (parts_of keys)). ⊎_elim
          (λ (old' : Has other (parts_of keys)). later old old')
          (λ (new' : Has other (between (piece key keys).first (piece key keys).end)). absurd (apart one other a d old new'))
          (has-append other (parts_of keys) (between (piece key keys).first (piece key keys).end) has'))
          (λ (new : Has one (between (piece key keys).first (piece key keys).end)). ⊎_elim
          (λ (old' : Has other (parts_of keys)). absurd (apart other one c b old' new))
          (λ (new' : Has other (between (piece key keys).first (piece key keys).end)). (in_between (piece key keys).first (piece key keys).end one new).0 ∙ sym (in_between (piece key keys).first (piece key keys).end other new').0)
          (has-append other (parts_of keys) (between (piece key keys).first (piece key keys).end) has'))
          (has-append one (parts_of keys) (between (piece key keys).first (piece key keys).end) has)

  -- The block is in a part.
  abbrev IsMet : List Stretch → ℕ → Type 0
  IsMet parts block = (part : Stretch) × (Has part parts × (part.first ≤ block) × (block < part.end))

  met_first : (xs ys : List Stretch) (block : ℕ) → IsMet xs block → IsMet (xs ++ ys) block
  met_first xs ys block met = (met.0, (has-first met.0 xs ys met.1.0, met.1.1, met.1.2))

  met_new : (xs : List Stretch) (first end block : ℕ) → first ≤ block → block < end → IsMet (xs ++ between first end) block
  met_new xs first end block le lt = (record { first = first; end = end }, (has-second (record { first = first; end = end }) xs (between first end) (between_has first end (omega (arith, le, lt))), le, lt))

  -- All from the lowest block up to where keys end is met.
  met_up : (keys : List Key) (end block : ℕ) → ((key : Key) → Has key keys → end ≤ key.pos.offset) → low keys ≤ block → block < end → block < w.end → IsMet (parts_of keys) block
  met_up [] end block ends le lt within = absurd (omega (arith, le, within))
  met_up (key ∷ keys) end block ends le lt within = by (is_counted snaps parent key) le (λ up. met_up keys end block (λ k has. ends k (inr has)) up lt within)
    where
      last : end ≤ key.pos.offset
      last = ends key (inl refl)

      new : (t : Bool) → nat_lt (piece key keys).first (piece key keys).end ≡ t → cond t (piece key keys).first (low keys) ≤ block → (low keys ≤ block → IsMet (parts_of keys) block) → (u : Bool) → nat_lt block (low keys) ≡ u → IsMet (parts_of keys ++ between (piece key keys).first (piece key keys).end) block
      new true is up later true below = met_new (parts_of keys) (piece key keys).first (piece key keys).end block up (let lt' = ltb-true block (low keys) below in omega (arith, lt', lt, last))
      new false is up later u below = met_first (parts_of keys) (between (piece key keys).first (piece key keys).end) block (later up)
      new true is up later false below = met_first (parts_of keys) (between (piece key keys).first (piece key keys).end) block (later (ltb-false block (low keys) below))

      by : (t : Bool) → cond t (low_of (piece key keys) (low keys)) (low keys) ≤ block → (low keys ≤ block → IsMet (parts_of keys) block) → IsMet (cond t (parts_of keys ++ between (piece key keys).first (piece key keys).end) (parts_of keys)) block
      by true up later = new (nat_lt (piece key keys).first (piece key keys).end) refl up later (nat_lt block (low keys)) refl
      by false up later = later up

  -- Each block of the stretch that a counted key covers is met,
  pub met : (keys : List Key) (key : Key) (block : ℕ) → AreRising keys → Has key keys → counted_over snaps parent block key ≡ true → w.first ≤ block → block < w.end → IsMet (parts_of keys) block
  met [] key block rise has over le lt = elim has [ ]
  met (k ∷ keys) key block rise has over le lt = by (is_counted snaps parent k) refl has (λ later. met keys key block rise.1 later over le lt)
    where
      parts : (is_counted snaps parent key ≡ true) × (covers_maybe key.pos.offset key.value block ≡ true)
      parts = and_parts (is_counted snaps parent key) (covers_maybe key.pos.offset key.value block) over

      range : (key.pos.offset - blocks_maybe key.value ≤ block) × (block < key.pos.offset)
      range = maybe-range key.pos.offset block key.value parts.1

      here : key ≡ k → (u : Bool) → nat_lt block (low keys) ≡ u → IsMet (parts_of keys ++ between (piece k keys).first (piece k keys).end) block
      here same true below =
          let first : k.pos.offset - blocks_maybe k.value ≤ block = subst (λ (x : Key). x.pos.offset - blocks_maybe x.value ≤ block) same range.0 in
          let end : block < k.pos.offset = subst (λ (x : Key). block < x.pos.offset) same range.1 in
          let lower = ltb-true block (low keys) below in
          met_new (parts_of keys) (piece k keys).first (piece k keys).end block (omega (arith, first, le)) (omega (arith, end, lower))
      here same false below =
          met_first (parts_of keys) (between (piece k keys).first (piece k keys).end) block
          (met_up keys k.pos.offset block rise.0 (ltb-false block (low keys) below) (subst (λ (x : Key). block < x.pos.offset) same range.1) lt)

      by : (t : Bool) → is_counted snaps parent k ≡ t → Has key (k ∷ keys) → (Has key keys → IsMet (parts_of keys) block) → IsMet (cond t (parts_of keys ++ between (piece k keys).first (piece k keys).end) (parts_of keys)) block
      by true is (inl same) later = here same (nat_lt block (low keys)) refl
      by true is (inr there) later = met_first (parts_of keys) (between (piece k keys).first (piece k keys).end) block (later there)
      by false is (inl same) later = absurd (true≢false (sym parts.0 ∙ ap (is_counted snaps parent) same ∙ is))
      by false is (inr there) later = later there

  -- and each block that is met is one that a counted key covers, in the stretch.
  abbrev IsKeyOver : List Key → ℕ → Type 0
  IsKeyOver keys block = (key : Key) × (Has key keys × (counted_over snaps parent block key ≡ true))

  pub met_by : (keys : List Key) (part : Stretch) → Has part (parts_of keys) → (key : Key) × (Has key keys × ((block : ℕ) → part.first ≤ block → block < part.end → (counted_over snaps parent block key ≡ true) × (w.first ≤ block) × (block < w.end))
      × (part.end - part.first ≤ blocks_maybe key.value))
  met_by [] part has = elim has [ ]
  met_by (k ∷ keys) part has = by (is_counted snaps parent k) refl has (λ later. let it = met_by keys part later in (it.0, (inr it.1.0, it.1.1, it.1.2)))
    where
      Wanted : Type 0
      Wanted = (key : Key) × (Has key (k ∷ keys) × ((block : ℕ) → part.first ≤ block → block < part.end → (counted_over snaps parent block key ≡ true) × (w.first ≤ block) × (block < w.end)) × (part.end - part.first ≤ blocks_maybe key.value))

      new : is_counted snaps parent k ≡ true → Has part (between (piece k keys).first (piece k keys).end) → (key : Key) × (Has key (k ∷ keys) × ((block : ℕ) → part.first ≤ block → block < part.end → (counted_over snaps parent block key ≡ true) × (w.first ≤ block) × (block < w.end)) × (part.end - part.first ≤ blocks_maybe key.value))
      new is has = let it = in_between (piece k keys).first (piece k keys).end part has in
          let first : part.first ≡ (piece k keys).first = ap (λ (s : Stretch). s.first) it.0 in
          let end : part.end ≡ (piece k keys).end = ap (λ (s : Stretch). s.end) it.0 in
          let bounds = low_bounds keys in (
            k,
            (
              inl refl,
              (λ block le lt. ((λ i. is i && range-maybe k.pos.offset block k.value (and_parts (is_extent_maybe k.value) (is_ancestor_of snaps k.pos.snapshot parent) is).0 (omega (arith, first, le)) (omega (arith, end, lt)) i), omega (arith, first, le), omega (arith, end, lt, bounds.1))),
              omega (arith, first, end),
            ),
          )

      by : (t : Bool) → is_counted snaps parent k ≡ t → Has part (cond t (parts_of keys ++ between (piece k keys).first (piece k keys).end) (parts_of keys))
          → (Has part (parts_of keys) → (key : Key) × (Has key (k ∷ keys) × ((block : ℕ) → part.first ≤ block → block < part.end → (counted_over snaps parent block key ≡ true) × (w.first ≤ block) × (block < w.end)) × (part.end - part.first ≤ blocks_maybe key.value)))
          → (key : Key) × (Has key (k ∷ keys) × ((block : ℕ) → part.first ≤ block → block < part.end → (counted_over snaps parent block key ≡ true) × (w.first ≤ block) × (block < w.end)) × (part.end - part.first ≤ blocks_maybe key.value))
      by false is has later = later has
      by true is has later = ⊎_elim later (new is) (has-append part (parts_of keys) (between (piece k keys).first (piece k keys).end) has)

-- Later entries of one file in a map end at the same block or behind it.
offsets_rise : (a b : Pos) → pos_cmp a b ≡ Less → a.inode ≡ b.inode → a.offset ≤ b.offset
offsets_rise a b less same = by (nat_cmp a.inode b.inode) refl (nat_cmp a.offset b.offset) refl less
  where
    by : (r : Ordering) → nat_cmp a.inode b.inode ≡ r → (q : Ordering) → nat_cmp a.offset b.offset ≡ q → ordering_then r (ordering_then q (nat_cmp a.snapshot b.snapshot)) ≡ Less → a.offset ≤ b.offset
    by Less is q is' then_less = absurd (omega (arith, ranked a.inode b.inode Less (sym is), same))
    by Equal is Less is' then_less = omega (arith, ranked a.offset b.offset Less (sym is'))
    by Equal is Equal is' then_less = omega (arith, ranked a.offset b.offset Equal (sym is'))
    by Equal is Greater is' then_less = cc
    by Greater is q is' then_less = cc

all_later : (P : Pos → Type 0) (entries : Entries) (e : Pos × Value) → AllByRecursion P (keys_of entries) → Has e entries → P e.0
all_later P [] e all has = elim has [ ]
all_later P (x ∷ xs) e all (inl same) = subst (λ (y : Pos × Value). P y.0) (sym same) all.0
all_later P (x ∷ xs) e all (inr later) = all_later P xs e all.1 later

pub rising-looked : (entries : Entries) (file : ℕ) (test : Pos × Value → Bool) → IsMap pos_cmp entries → ((e : Pos × Value) → test e ≡ true → e.0.inode ≡ file) → AreRising (keys_in (filter test entries))
rising-looked [] file test rises of_file = tt
rising-looked (e ∷ es) file test rises of_file = by (test e) refl (rising-looked es file test (sorted_tail pos_cmp e.0 (keys_of es) rises) of_file)
  where
    by : (b : Bool) → test e ≡ b → AreRising (keys_in (filter test es)) → AreRising (keys_in (cond b (e ∷ filter test es) (filter test es)))
    by true is later = (
      (λ other has.
          let from = has-map key_of other (filter test es) has in
          let member = filter-has test from.0 es from.1.0 in
          let end : other.pos.offset ≡ from.0.0.offset = ap (λ (k : Key). k.pos.offset) from.1.1 in
          let up = offsets_rise e.0 from.0.0 (all_later (λ (y : Pos). pos_cmp e.0 y ≡ Less) es from.0 (sorted_head pos_cmp e.0 (keys_of es) rises) member.0) (of_file e is ∙ sym (of_file from.0 member.1)) in
          omega (arith, end, up)),
      later,
    )
    by false is later = later

module _ (keys_map : KeyMap) (is : IsKeyMap keys_map) (file id first last : ℕ) (keys : List Key) (looked : AreLookedAt keys_map file first last keys) (fit : (entry : Pos × Value) → Has entry keys_map.extents → HavePlaces entry.1) (forward : first ≤ last + 1) where
  abbrev w : Stretch
  w = record { first = first; end = last + 1 }

  rising : AreRising keys
  rising = subst AreRising (sym looked.are) (rising-looked keys_map.extents file looked.looked_at (is.rises Extents) looked.of_file)

  -- a key that was looked at, as an entry
  pub entry_of : (key : Key) → Has key keys → (e : Pos × Value) × (Has e keys_map.extents × (e.0.inode ≡ file) × (key ≡ key_of e))
  entry_of key has =
      let from = has-map key_of key (filter looked.looked_at keys_map.extents) (subst (Has key) looked.are has) in
      let member = filter-has looked.looked_at from.0 keys_map.extents from.1.0 in
      (from.0, (member.0, looked.of_file from.0 member.1, from.1.1))

  module _ (parent : ℕ) where
    -- a counted key is an extent of an ancestor
    over_above : (key : Key) (block : ℕ) → Has key keys → counted_over (snaps_of keys_map) parent block key ≡ true → list_any (is_extent_over file (chain_of (snaps_of keys_map) parent) block) keys_map.extents ≡ true
    over_above key block has over =
        let e = entry_of key has in
        let at : counted_over (snaps_of keys_map) parent block (key_of e.0) ≡ true = ap (counted_over (snaps_of keys_map) parent block) (sym e.1.2) ∙ over in
        let parts = and_parts (is_counted (snaps_of keys_map) parent (key_of e.0)) (covers e.0.0.offset e.0.1 block) at in
        let counted = and_parts (is_extent e.0.1) (is_ancestor_of (snaps_of keys_map) e.0.0.snapshot parent) parts.0 in
        has-any (is_extent_over file (chain_of (snaps_of keys_map) parent) block) e.0 keys_map.extents e.1.0 (λ i. eq-eqb e.0.0.inode file e.1.1 i && counted.1 i && parts.1 i && counted.0 i)

    -- an extent of an ancestor over a block of the stretch is a counted key
    above_over : (block : ℕ) → first ≤ block → block ≤ last → list_any (is_extent_over file (chain_of (snaps_of keys_map) parent) block) keys_map.extents ≡ true → (key : Key) × (Has key keys × (counted_over (snaps_of keys_map) parent block key ≡ true))
    above_over block le up any =
        let e = any-has (is_extent_over file (chain_of (snaps_of keys_map) parent) block) keys_map.extents any in
        let four = and_parts (e.0.0.inode == file && list_any (nat_eq e.0.0.snapshot) (chain_of (snaps_of keys_map) parent) && covers e.0.0.offset e.0.1 block) (is_extent e.0.1) e.1.1 in
        let three = and_parts (e.0.0.inode == file && list_any (nat_eq e.0.0.snapshot) (chain_of (snaps_of keys_map) parent)) (covers e.0.0.offset e.0.1 block) four.0 in
        let two = and_parts (e.0.0.inode == file) (list_any (nat_eq e.0.0.snapshot) (chain_of (snaps_of keys_map) parent)) three.0 in (
          key_of e.0,
          (
            subst (Has (key_of e.0)) (sym looked.are) (map-has key_of e.0 (filter looked.looked_at keys_map.extents) (has-filter looked.looked_at e.0 keys_map.extents e.1.0 (looked.whole e.0 block (member_at pos_cmp pos_total e.0 keys_map.extents (is.rises Extents) e.1.0) (eqb-true e.0.0.inode file two.0) le up three.1))),
            λ i. (four.1 i && two.1 i) && three.1 i,
          ),
        )

    abbrev parts : List Stretch
    parts = swept (snaps_of keys_map) parent w keys

    abbrev above : ℕ → Bool
    above block = list_any (is_extent_over file (chain_of (snaps_of keys_map) parent) block) keys_map.extents

    -- a hole has the blocks of its part
    long : (part : Stretch) → Has part parts → min (part.end - part.first) 4294967295 ≡ part.end - part.first
    long part has =
        let it = met_by (snaps_of keys_map) parent w forward keys part has in
        let e = entry_of it.0 it.1.0 in
        let few = (fit e.0 e.1.0).blocks in
        let same : blocks_maybe it.0.value ≡ blocks_of e.0.1 = ap (λ (k : Key). blocks_maybe k.value) e.1.2 in
        omega (arith, it.1.2, few, same)

    hole_over : (part : Stretch) (block : ℕ) → Has part parts → part.first ≤ block → block < part.end → PutsOver block (hole_of part)
    hole_over part block has le lt = let same = long part has in let some = parts_above (snaps_of keys_map) parent w forward keys part has in
        record { value = values.Hole (min (part.end - part.first) 4294967295); is = refl; over = range-covers part.end (values.Hole (min (part.end - part.first) 4294967295)) block (omega (arith, same, some.1, le)) lt }

    over_hole : (part : Stretch) (block : ℕ) (change : Change) → Has part parts → change ≡ hole_of part → PutsOver block change → (part.first ≤ block) × (block < part.end)
    over_hole part block change has at over =
        let same = long part has in let some = parts_above (snaps_of keys_map) parent w forward keys part has in
        let held : over.value ≡ values.Hole (min (part.end - part.first) 4294967295) = same_Some over.value (values.Hole (min (part.end - part.first) 4294967295)) (sym over.is ∙ ap (λ (c : Change). c.value) at) in
        let range = covers-range part.end (values.Hole (min (part.end - part.first) 4294967295)) block ((λ i. covers (sym (ap (λ (c : Change). c.end) at) i) (sym held i) block) ∙ over.over) in
        (omega (arith, range.0, same, some.1), range.1)

    -- Holes over the parts hide what ancestors have.
    pub hiding : AreGiven (w ∷ []) (map hole_of parts) (λ block. hidden_if (above block))
    hiding = record {
      inside = λ change block has over.
          let from = has-map hole_of change parts has in
          let lies = over_hole from.0 block change from.1.0 from.1.1 over in
          let it = (met_by (snaps_of keys_map) parent w forward keys from.0 from.1.0).1.1 block lies.0 lies.1 in
          ap (λ b. b || false) (has_between block w it.1 it.2);
      last = λ change has.
          let from = has-map hole_of change parts has in
          let some = parts_above (snaps_of keys_map) parent w forward keys from.0 from.1.0 in
          let end : change.end ≡ from.0.end = ap (λ (c : Change). c.end) from.1.1 in
          (subst (λ (c : Change). PutsOver (c.end - 1) c) (sym from.1.1) (hole_over from.0 (from.0.end - 1) from.1.0 (omega (arith, some.1)) (omega (arith, some.1))), omega (arith, end, some.1));
      once = λ one other block has has' over over'.
          let from = has-map hole_of one parts has in let from' = has-map hole_of other parts has' in
          let lies = over_hole from.0 block one from.1.0 from.1.1 over in let lies' = over_hole from'.0 block other from'.1.0 from'.1.1 over' in
          from.1.1 ∙ ap hole_of (parts_once (snaps_of keys_map) parent w forward keys from.0 from'.0 block from.1.0 from'.1.0 lies.0 lies.1 lies'.0 lies'.1) ∙ sym from'.1.1;
      gives = λ change block has over.
          let from = has-map hole_of change parts has in
          let lies = over_hole from.0 block change from.1.0 from.1.1 over in
          let it = met_by (snaps_of keys_map) parent w forward keys from.0 from.1.0 in
          let held : over.value ≡ values.Hole (min (from.0.end - from.0.first) 4294967295) = same_Some over.value (values.Hole (min (from.0.end - from.0.first) 4294967295)) (sym over.is ∙ ap (λ (c : Change). c.value) from.1.1) in
          ap hidden_if (over_above it.0 block it.1.0 (it.1.1 block lies.0 lies.1).0) ∙ sym (ap (λ v. Some (shown_by block change.end v)) held);
      given = λ block within. given block (above block) refl within;
    }
      where
        or_false : (b : Bool) → (b || false) ≡ b
        or_false true = refl
        or_false false = refl

        given : (block : ℕ) (b : Bool) → above block ≡ b → is_within (w ∷ []) block ≡ true → (hidden_if (above block) ≡ None) ⊎ ((change : Change) × (Has change (map hole_of parts) × PutsOver block change))
        given block false none within = inl (ap hidden_if none)
        given block true any within =
            let lies = lies_in block w (sym (or_false (has_block block w)) ∙ within) in
            let key = above_over block lies.0 (omega (arith, lies.1)) any in
            let it = met (snaps_of keys_map) parent w forward keys key.0 block rising key.1.0 key.1.1 lies.0 lies.1 in
            inr (hole_of it.0, (map-has hole_of it.0 parts it.1.0, hole_over it.0 block it.1.0 it.1.1 it.1.2))
