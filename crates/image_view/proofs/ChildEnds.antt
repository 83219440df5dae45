-- The nodes to which the entries of a level lead rise to the greatest position where those of the level do, and are of the level below.
use Rattle.std.proofs.Common.{◌≡◌, ℕ, suc, ◌-◌, Bool, true, false, cond, List, [], ◌∷◌, ◌++◌, length, Option, Some, None, Result, Ok, Err, refl, sym, ap, subst, ◌∙◌, arith}
use Rattle.std.specs.Prelude.{◌==◌, All, is_some, slice_get}
use Rattle.std.specs.BTreeMap.{is_at}
use Rattle.std.specs.List.{cons_option, filter_map, flat_map, list_all}
use Rattle.std.specs.List.Sorted.{IsStrictlySortedBy}
use Rattle.std.specs.Map.{keys_of, values_of}
use Rattle.std.specs.Option.{option_map_or}
use Rattle.std.specs.Ordering.{is_eq, is_le}
use Rattle.std.specs.declared.cmp.Ordering.{Ordering}
use Rattle.std.specs.declared.cmp.Ordering.TheVariants.{Less, Equal, Greater}
use Rattle.std.proofs.lemmas.Bool.{and_parts, eqb-true, false≢true, true≢false}
use Rattle.std.proofs.lemmas.List.{map-append}
use Rattle.std.proofs.lemmas.List.Elements.{All-head}
use Rattle.key_codec.specs.Combined.{bind_ok, ok_is}
use Rattle.key_codec.specs.Formats.{◌>>=◌}
use Rattle.tree_nodes.specs.Levels.{Level}
use Rattle.vol_types.specs.KeyMaps.{Entries}
use Rattle.vol_types.specs.Maps.{IsMap}
use Rattle.vol_types.specs.PositionLaws.{pos_exact}
use Rattle.vol_types.specs.Positions.{IsBefore, greatest_pos, pos_cmp}
use Rattle.vol_types.specs.declared.pointers.NodePtr.{NodePtr}
use Rattle.vol_types.specs.declared.pointers.Place.{Place}
use Rattle.vol_types.specs.declared.positions.Pos.{Pos}
use Rattle.vol_types.specs.declared.values.Value.{Value}
use Rattle.vol_types.specs.declared.values.Value.TheVariants as values
use Rattle.image_view.specs.Trees.{NodeRead, are_children, child_in, children_of, each_of, ends_at, first_place}
use Rattle.image_view.proofs.LeafUpdates.{AreRising, RiseTo, less_le, rise_below}
use Rattle.image_view.proofs.LevelUpdates.{AreNumbered, AreRead, Lies, greatests, next_of}
use Rattle.image_view.proofs.NextPositions.{next_after}

-- ---- children of one node

-- What leads to a node of a level is a pointer of that level, at its position.
child_is : (level : ℕ) (entry : Pos × Value) (child : Pos × NodePtr) → child_in level entry ≡ Some child → (child.0 ≡ entry.0) × (child.1.level ≡ level)
child_is level (pos, values.Node pointer) child is = by (pointer.level == level) refl is
  where
    by : (b : Bool) → (pointer.level == level) ≡ b → cond b (Some (pos, pointer)) None ≡ Some child → (child.0 ≡ pos) × (child.1.level ≡ level)
    by true numbered is =
        let same : (pos, pointer) ≡ child = cc in
        (ap (λ (c : Pos × NodePtr). c.0) (sym same), ap (λ (c : Pos × NodePtr). c.1.level) (sym same) ∙ eqb-true pointer.level level numbered)
    by false numbered is = absurd cc
child_is level (pos, values.Inode x) child is = absurd cc
child_is level (pos, values.Names x) child is = absurd cc
child_is level (pos, values.Extent x) child is = absurd cc
child_is level (pos, values.Hole x) child is = absurd cc
child_is level (pos, values.White) child is = absurd cc
child_is level (pos, values.Subs x) child is = absurd cc
child_is level (pos, values.Snap x) child is = absurd cc
child_is level (pos, values.Live x) child is = absurd cc
child_is level (pos, values.Back x) child is = absurd cc
child_is level (pos, values.Gone) child is = absurd cc
child_is level (pos, values.Counter x) child is = absurd cc

-- whether each entry leads to a node of the level
abbrev all_lead : ℕ → Entries → Bool
all_lead level entries = list_all (λ entry. is_some (child_in level entry)) entries

-- the nodes to which entries lead
abbrev led_to : ℕ → Entries → Level
led_to level entries = filter_map (child_in level) entries

-- Where each entry leads to a node, these nodes stand at the entries' positions.
led_keys : (level : ℕ) (entries : Entries) → all_lead level entries ≡ true → keys_of (led_to level entries) ≡ keys_of entries
led_keys level [] lead = refl
led_keys level (e ∷ es) lead =
    let both = and_parts (is_some (child_in level e)) (all_lead level es) lead in
    by (child_in level e) refl both.0 (led_keys level es both.1)
  where
    by : (o : Option (Pos × NodePtr)) → child_in level e ≡ o → is_some (child_in level e) ≡ true → keys_of (led_to level es) ≡ keys_of es → keys_of (cons_option o (led_to level es)) ≡ e.0 ∷ keys_of es
    by None is some later = absurd (true≢false (sym some ∙ ap is_some is))
    by (Some child) is some later = ap (λ (p : Pos). p ∷ keys_of (led_to level es)) (child_is level e child is).0 ∙ ap (λ keys. e.0 ∷ keys) later

-- They are of the level.
led_numbered : (level : ℕ) (entries : Entries) → AreNumbered level (values_of (led_to level entries))
led_numbered level [] = tt
led_numbered level (e ∷ es) = by (child_in level e) refl (led_numbered level es)
  where
    by : (o : Option (Pos × NodePtr)) → child_in level e ≡ o → AreNumbered level (values_of (led_to level es)) → AreNumbered level (values_of (cons_option o (led_to level es)))
    by None is later = later
    by (Some child) is later = ((child_is level e child is).1, later)

child_list : (level : ℕ) (read : NodeRead) (children : Level) → children_of level read ≡ Ok children → (are_children level read.greatest read.entries ≡ true) × (led_to level read.entries ≡ children)
child_list level read children is = by (are_children level read.greatest read.entries) refl is
  where
    by : (b : Bool) → are_children level read.greatest read.entries ≡ b → cond b (Ok (led_to level read.entries)) (Err (first_place read.pointer)) ≡ Ok children
        → (are_children level read.greatest read.entries ≡ true) × (led_to level read.entries ≡ children)
    by true are is = (are, ok_is (led_to level read.entries) children is)
    by false are is = absurd cc

-- The children of a node stand where its entries do, the last one at its end, and are of the level below.
record AreChildren (level : ℕ) (read : NodeRead) (children : Level) : Type 0 where
  keys : keys_of children ≡ keys_of read.entries
  ends : ends_at read.greatest read.entries ≡ true
  numbered : AreNumbered level (values_of children)

children_are : (level : ℕ) (read : NodeRead) (children : Level) → children_of level read ≡ Ok children → AreChildren level read children
children_are level read children is =
    let list = child_list level read children is in
    let parts = and_parts (all_lead level read.entries) (ends_at read.greatest read.entries) list.0 in
    subst (AreChildren level read) list.1 (record { keys = led_keys level read.entries parts.0; ends = parts.1; numbered = led_numbered level read.entries })

-- ---- their order

-- Entries that rise, of which the last one is at a position, rise to it.
rise_of : (last : Pos) (e : Pos × Value) (es : Entries) → IsMap pos_cmp (e ∷ es) → ends_at last (e ∷ es) ≡ true → RiseTo e.0 last (keys_of es)
unfolding IsStrictlySortedBy
rise_of last e [] rises ends = sym (pos_exact last e.0 (equal_of (pos_cmp last e.0) refl ends))
  where
    equal_of : (r : Ordering) → pos_cmp last e.0 ≡ r → is_eq r ≡ true → pos_cmp last e.0 ≡ Equal
    equal_of Less is same = absurd (false≢true same)
    equal_of Equal is same = is
    equal_of Greater is same = absurd (false≢true same)
rise_of last e (f ∷ es) rises ends =
    let place : suc (suc (length es)) - 1 ≡ suc (suc (length es) - 1) = omega arith in
    (rises.0.0, rise_of last f es rises.1 (ap (λ n. option_map_or (λ (entry : Pos × Value). is_at (pos_cmp last) entry.0) (slice_get (e ∷ f ∷ es) n) false) (sym place) ∙ ends))

rising_of : (last : Pos) (entries : Entries) → IsMap pos_cmp entries → ends_at last entries ≡ true → AreRising last (keys_of entries)
rising_of last [] rises ends = absurd (false≢true ends)
rising_of last (e ∷ es) rises ends = rise_of last e es rises ends

-- Positions that rise to one, and then others from there on, rise together.
rise-append : (before middle last : Pos) (one other : List Pos) → RiseTo before middle one → RiseTo middle last other → RiseTo before last (one ++ other)
rise-append before middle last [] other rise more = subst (λ (p : Pos). RiseTo p last other) (sym rise) more
rise-append before middle last (pos ∷ one) other rise more = (rise.0, rise-append pos middle last one other rise.1 more)

rising-append : (middle last : Pos) (one other : List Pos) → AreRising middle one → RiseTo middle last other → AreRising last (one ++ other)
rising-append middle last [] other rise more = absurd rise
rising-append middle last (pos ∷ one) other rise more = rise-append pos middle last one other rise more

-- Positions of a node that begins behind another one rise from there.
rise_behind : (before last : Pos) (keys : List Pos) → IsBefore before greatest_pos → All (Lies (next_of before) last) keys → AreRising last keys → RiseTo before last keys
rise_behind before last [] ends covered rise = absurd rise
rise_behind before last (key ∷ keys) ends covered rise =
    (less_le before (next_of before) key (next_after before ends) (and_parts (is_le (pos_cmp (next_of before) key)) (is_le (pos_cmp key last)) (All-head (Lies (next_of before) last) key keys covered)).0, rise)

-- ---- children of all nodes

-- the nodes of all, one list after the other
abbrev pub all_children : List Level → Level
all_children lists = flat_map (λ children. children) lists

numbered-append : (level : ℕ) (one other : Level) → AreNumbered level (values_of one) → AreNumbered level (values_of other) → AreNumbered level (values_of (one ++ other))
numbered-append level [] other all others = others
numbered-append level (node ∷ one) other all others = (all.0, numbered-append level one other all.1 others)

keys-append : (one other : Level) → keys_of (one ++ other) ≡ keys_of one ++ keys_of other
keys-append one other = map-append (λ e. e.0) one other

-- Lists of children, of which the first is that of the first node.
record AreLists (level : ℕ) (read : NodeRead) (reads : List NodeRead) (lists : List Level) : Type 0 where
  children : Level
  others : List Level
  lists_are : children ∷ others ≡ lists
  are : AreChildren level read children
  rest : each_of (children_of level) reads ≡ Ok others

lists_are : (level : ℕ) (read : NodeRead) (reads : List NodeRead) (lists : List Level) → each_of (children_of level) (read ∷ reads) ≡ Ok lists → AreLists level read reads lists
lists_are level read reads lists is =
    let with_first : Level → List Level → Result (List Level) Place = λ children others. Ok (children ∷ others) in
    let rest_by : Level → Result (List Level) Place = λ children. each_of (children_of level) reads >>= with_first children in
    let first = bind_ok (children_of level read) rest_by lists is in
    let rest = bind_ok (each_of (children_of level) reads) (with_first first.0) lists first.2 in
    record { children = first.0; others = rest.0; lists_are = ok_is (first.0 ∷ rest.0) lists rest.2; are = children_are level read first.0 first.1; rest = rest.1 }

-- The children of nodes behind a position rise from there.
rise_children : (level : ℕ) (before : Pos) (reads : List NodeRead) (lists : List Level) → RiseTo before greatest_pos (greatests reads) → AreRead (suc level) (next_of before) reads → each_of (children_of level) reads ≡ Ok lists
    → RiseTo before greatest_pos (keys_of (all_children lists))
rise_children level before [] lists rise are is = subst (λ ls. RiseTo before greatest_pos (keys_of (all_children ls))) (ok_is [] lists is) rise
rise_children level before (read ∷ reads) lists rise are is =
    let made = lists_are level read reads lists is in
    let ends = rise_below before greatest_pos read.greatest (greatests reads) rise in
    let run = rising_of read.greatest read.entries are.0.entries_are.rises made.are.ends in
    let here = rise_behind before read.greatest (keys_of read.entries) ends are.0.entries_are.covered run in
    let later = rise_children level read.greatest reads made.others rise.1 are.1 made.rest in
    subst (λ ls. RiseTo before greatest_pos (keys_of (all_children ls))) made.lists_are
    (subst (RiseTo before greatest_pos) (sym (keys-append made.children (all_children made.others)))
    (rise-append before read.greatest greatest_pos (keys_of made.children) (keys_of (all_children made.others)) (subst (RiseTo before read.greatest) (sym made.are.keys) here) later))

-- The children of a level rise to the greatest position.
pub rising_children : (level : ℕ) (least : Pos) (reads : List NodeRead) (lists : List Level) → AreRising greatest_pos (greatests reads) → AreRead (suc level) least reads → each_of (children_of level) reads ≡ Ok lists
    → AreRising greatest_pos (keys_of (all_children lists))
rising_children level least [] lists rise are is = absurd rise
rising_children level least (read ∷ reads) lists rise are is =
    let made = lists_are level read reads lists is in
    let here = rising_of read.greatest read.entries are.0.entries_are.rises made.are.ends in
    let later = rise_children level read.greatest reads made.others rise are.1 made.rest in
    subst (λ ls. AreRising greatest_pos (keys_of (all_children ls))) made.lists_are
    (subst (AreRising greatest_pos) (sym (keys-append made.children (all_children made.others)))
    (rising-append read.greatest greatest_pos (keys_of made.children) (keys_of (all_children made.others)) (subst (AreRising read.greatest) (sym made.are.keys) here) later))

-- They are of the level below.
pub numbered_children : (level : ℕ) (reads : List NodeRead) (lists : List Level) → each_of (children_of level) reads ≡ Ok lists → AreNumbered level (values_of (all_children lists))
numbered_children level [] lists is = subst (λ ls. AreNumbered level (values_of (all_children ls))) (ok_is [] lists is) tt
numbered_children level (read ∷ reads) lists is =
    let made = lists_are level read reads lists is in
    subst (λ ls. AreNumbered level (values_of (all_children ls))) made.lists_are
    (numbered-append level made.children (all_children made.others) made.are.numbered (numbered_children level reads made.others made.rest))
