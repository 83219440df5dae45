-- One member more of a list in a loop.
use Rattle.std.proofs.Common.{◌≡◌, ℕ, suc, ◌+◌, ◌<◌, Bool, List, [], ◌∷◌, ◌++◌, Option, drop, get_or, length, map, sym, ap, ◌∙◌, arith, append_assoc, drop-cons}
use Rattle.key_triggers.specs.Changes.{Values, noted, values_after, values_before}
use Rattle.key_triggers.specs.Owners.{Owners, owned}
use Rattle.key_triggers.specs.Positions.{block_pos, bucket_pos}
use Rattle.key_triggers.specs.Tallies.{Tallies, counted, tally_at, tally_more}
use Rattle.vol_types.specs.KeyMaps.{KeyMap, value_in}
use Rattle.vol_types.specs.Maps.{with_value}
use Rattle.vol_types.specs.Positions.{pos_cmp}
use Rattle.vol_types.specs.declared.keys.Update.{Update}
use Rattle.vol_types.specs.declared.pointers.Pointer.{Pointer}
use Rattle.vol_types.specs.declared.positions.Btree.TheVariants.{Extents}
use Rattle.vol_types.specs.declared.positions.Pos.{Pos}

-- a pointer that stands for none
abbrev pub no_pointer : Pointer
no_pointer = record { place = record { dev = 0; block = 0 }; generation = 0 }

-- The list from a member on.
pub drop_next : {X : Type 0} (xs : List X) (i : ℕ) (d : X) → i < length xs → drop i xs ≡ get_or xs i d ∷ drop (i + 1) xs
drop_next xs i d lt = drop-cons xs i d lt ∙ ap (λ n. get_or xs i d ∷ drop n xs) (let e : suc i ≡ i + 1 = omega arith in e)

-- The same, with the member.
pub drop_item : {X : Type 0} (xs : List X) (i : ℕ) (x : X) → i < length xs → x ≡ get_or xs i x → drop i xs ≡ x ∷ drop (i + 1) xs
drop_item xs i x lt at = drop_next xs i x lt ∙ ap (λ y. y ∷ drop (i + 1) xs) (sym at)

-- One pointer more was counted.
pub counted_next : (gives : Bool) (blocks : ℕ) (pointers : List Pointer) (i : ℕ) (tallies new all : Tallies) → i < length pointers
    → new ≡ with_value pos_cmp (bucket_pos (get_or pointers i no_pointer).place) (tally_more gives blocks (tally_at (bucket_pos (get_or pointers i no_pointer).place) tallies)) tallies
    → counted gives blocks (drop i pointers) tallies ≡ all → counted gives blocks (drop (i + 1) pointers) new ≡ all
counted_next gives blocks pointers i tallies new all lt is so_far =
    ap (counted gives blocks (drop (i + 1) pointers)) is ∙ sym (ap (λ (ps : List Pointer). counted gives blocks ps tallies) (drop_next pointers i no_pointer lt)) ∙ so_far

-- One pointer's block more has its owner.
pub owned_next : (owner : Option Pos) (pointers : List Pointer) (i : ℕ) (owners new all : Owners) → i < length pointers
    → new ≡ with_value pos_cmp (block_pos (get_or pointers i no_pointer).place) owner owners
    → owned owner (drop i pointers) owners ≡ all → owned owner (drop (i + 1) pointers) new ≡ all
owned_next owner pointers i owners new all lt is so_far =
    ap (owned owner (drop (i + 1) pointers)) is ∙ sym (ap (λ (ps : List Pointer). owned owner ps owners) (drop_next pointers i no_pointer lt)) ∙ so_far

-- One update more was noted, with what stood before it,
pub before_next : (keys : KeyMap) (updates : List Update) (i : ℕ) (update : Update) (values new all : Values) → i < length updates → update ≡ get_or updates i update
    → new ≡ noted update (value_in keys Extents update.pos) values → values_before keys (drop i updates) values ≡ all → values_before keys (drop (i + 1) updates) new ≡ all
before_next keys updates i update values new all lt at is so_far =
    ap (values_before keys (drop (i + 1) updates)) is ∙ sym (ap (λ (us : List Update). values_before keys us values) (drop_item updates i update lt at)) ∙ so_far

-- or with what it puts.
pub after_next : (updates : List Update) (i : ℕ) (update : Update) (values new all : Values) → i < length updates → update ≡ get_or updates i update
    → new ≡ noted update update.value values → values_after (drop i updates) values ≡ all → values_after (drop (i + 1) updates) new ≡ all
after_next updates i update values new all lt at is so_far =
    ap (values_after (drop (i + 1) updates)) is ∙ sym (ap (λ (us : List Update). values_after us values) (drop_item updates i update lt at)) ∙ so_far

-- One member more was changed and listed.
pub mapped_next : {X Y : Type 0} (change : X → Y) (xs : List X) (i : ℕ) (x : X) (listed new all : List Y) → i < length xs → x ≡ get_or xs i x
    → new ≡ listed ++ change x ∷ [] → listed ++ map change (drop i xs) ≡ all → new ++ map change (drop (i + 1) xs) ≡ all
mapped_next change xs i x listed new all lt at is so_far =
    ap (λ ys. ys ++ map change (drop (i + 1) xs)) is
    ∙ append_assoc listed (change x ∷ []) (map change (drop (i + 1) xs))
    ∙ sym (ap (λ ys. listed ++ map change ys) (drop_item xs i x lt at))
    ∙ so_far

-- The same, of what an iterator has left.
pub listed_next : {X Y : Type 0} (change : X → Y) (x : X) (now rest : List X) (listed new all : List Y) → now ≡ x ∷ rest
    → new ≡ listed ++ change x ∷ [] → listed ++ map change now ≡ all → new ++ map change rest ≡ all
listed_next change x now rest listed new all next is so_far =
    ap (λ ys. ys ++ map change rest) is ∙ append_assoc listed (change x ∷ []) (map change rest) ∙ sym (ap (λ ys. listed ++ map change ys) next) ∙ so_far
