-- Going upwards over the keys at one position: the first id with a key that is an ancestor shows its value.
use Rattle.std.proofs.Common.{◌≡◌, ℕ, ◌<◌, ◌≤◌, Bool, true, false, cond, not, Option, Some, None, List, [], ◌∷◌, ◌++◌, refl, sym, ap, ◌∙◌, subst, arith, ⊎_elim, append_assoc, append-nil}
use Rattle.std.specs.Prelude.{◌==◌, ◌&&◌, ◌||◌, nat_eq, nat_lt, slice_get, option_map, All}
use Rattle.std.specs.List.{AllByRecursion, list_any}
use Rattle.std.specs.List.Sorted.{IsStrictlySortedBy}
use Rattle.std.specs.Option.{option_or, option_to_list}
use Rattle.std.specs.Cmp.{nat_cmp_is}
use Rattle.std.specs.Ordering.{nat_cmp, ordering_then, is_le}
use Rattle.std.specs.declared.cmp.Ordering.{Ordering}
use Rattle.std.specs.declared.cmp.Ordering.TheVariants.{Less, Equal, Greater}
use Rattle.std.proofs.lemmas.Bool.{and_parts, cases_lt, eq-eqb, eqb-true, true≢false}
use Rattle.std.proofs.lemmas.Bool.Decides.{nat_tests}
use Rattle.std.proofs.lemmas.Cmp.{ranked}
use Rattle.std.proofs.lemmas.List.Elements.{All-from_recursion, recursion_from_All}
use Rattle.std.proofs.lemmas.Map.Keys.{sorted_head, sorted_tail}
use Rattle.std.proofs.lemmas.Option.{same_Some, none-some as none_some}
use Rattle.key_meaning.specs.Visible.{first_value, own_value, shown, snaps_of, visible}
use Rattle.key_view.specs.FirstLaws.{IsFirst, first_above, is_first, none_from}
use Rattle.key_view.specs.Own.{HaveNone, IsFirstOwn, IsNextOwn, own_of, stands_above}
use Rattle.key_view.specs.Seen.{GoesOn, IsSeen}
use Rattle.snap_tree.specs.ChainLaws.{chain_of-rises}
use Rattle.snap_tree.specs.Snaps.{Snaps, chain_of, is_ancestor_of}
use Rattle.vol_types.specs.KeyMaps.{KeyMap, IsKeyMap, IsLook, GivesLooks, answer_of, entries_of, first_from, key_of, keys_in}
use Rattle.vol_types.specs.Maps.{IsMap, value_at}
use Rattle.vol_types.specs.Positions.{pos_cmp}
use Rattle.vol_types.specs.declared.keys.Key.{Key}
use Rattle.vol_types.specs.declared.positions.Btree.{Btree}
use Rattle.vol_types.specs.declared.positions.Pos.{Pos}
use Rattle.vol_types.specs.declared.queries.Look.{Look}
use Rattle.vol_types.specs.declared.queries.Query.TheVariants.{At, Starting}
use Rattle.vol_types.specs.declared.values.Value.{Value}

-- the position of an id's own key
abbrev pub at : ℕ → ℕ → ℕ → Pos
at inode offset id = record { inode = inode; offset = offset; snapshot = id }

tied : (n : ℕ) → nat_cmp n n ≡ Equal
tied n = sym (nat_cmp_is n n Equal refl)

-- at one inode and offset positions are in the order of their ids
same_place : (inode offset a b : ℕ) → pos_cmp (at inode offset a) (at inode offset b) ≡ nat_cmp a b
same_place inode offset a b = ap (λ o. ordering_then o (ordering_then (nat_cmp offset offset) (nat_cmp a b))) (tied inode) ∙ ap (λ o. ordering_then o (nat_cmp a b)) (tied offset)

le_test : (n m : ℕ) → is_le (nat_cmp n m) ≡ not (nat_lt m n)
le_test n m = grind (arith, nat_tests)

le_true : (n m : ℕ) → n ≤ m → is_le (nat_cmp n m) ≡ true
le_true n m le = grind (arith, nat_tests)

module _ (inode offset from id : ℕ) (p : Pos) where
  abbrev last_order : ℕ → Ordering
  last_order a = nat_cmp a p.snapshot

  abbrev later_order : ℕ → Ordering
  later_order a = ordering_then (nat_cmp offset p.offset) (last_order a)

  stands : inode ≡ p.inode → offset ≡ p.offset → is_le (last_order from) ≡ true → stands_above (at inode offset from) p ≡ true
  stands first second third =
      ap (λ b. b && p.offset == offset && not (nat_lt p.snapshot from)) (eq-eqb p.inode inode (sym first)) ∙ ap (λ b. b && not (nat_lt p.snapshot from)) (eq-eqb p.offset offset (sym second)) ∙ sym (le_test from p.snapshot) ∙ third

  -- a key after a position that isn't at its inode and offset is after all keys there
  beyond : is_le (pos_cmp (at inode offset from) p) ≡ true → stands_above (at inode offset from) p ≡ false → pos_cmp (at inode offset id) p ≡ Less
  beyond le other = inodes (nat_cmp inode p.inode) refl
    where
      offsets : inode ≡ p.inode → is_le (later_order from) ≡ true → (r : Ordering) → nat_cmp offset p.offset ≡ r → later_order id ≡ Less
      offsets first up Less is = ap (λ o. ordering_then o (last_order id)) is
      offsets first up Equal is = absurd (true≢false (sym (stands first (ranked offset p.offset Equal (sym is)) (sym (ap (λ o. is_le (ordering_then o (last_order from))) is) ∙ up)) ∙ other))
      offsets first up Greater is = absurd (true≢false (sym up ∙ ap (λ o. is_le (ordering_then o (last_order from))) is))

      inodes : (r : Ordering) → nat_cmp inode p.inode ≡ r → pos_cmp (at inode offset id) p ≡ Less
      inodes Less is = ap (λ o. ordering_then o (later_order id)) is
      inodes Equal is = ap (λ o. ordering_then o (later_order id)) is ∙ offsets (ranked inode p.inode Equal (sym is)) (sym (ap (λ o. is_le (ordering_then o (later_order from))) is) ∙ le) (nat_cmp offset p.offset) refl
      inodes Greater is = absurd (true≢false (sym le ∙ ap (λ o. is_le (ordering_then o (later_order from))) is))

nil_cons : {X : Type 0} (x : X) (xs : List X) → [] ≡ x ∷ xs → ⊥
nil_cons x xs is = none_some x (ap (λ ys. slice_get ys 0) is)

module _ (keys : KeyMap) (btree : Btree) (inode offset from : ℕ) (is : IsKeyMap keys) where
  abbrev start : Pos
  start = at inode offset from

  none_next : first_from start (entries_of keys btree) ≡ None → IsNextOwn keys btree inode offset from None
  none_next none id le = none_from start (entries_of keys btree) none (at inode offset id) (ap is_le (same_place inode offset from id) ∙ le_true from id le)

  own_next : (e : Pos × Value) → first_from start (entries_of keys btree) ≡ Some e → IsNextOwn keys btree inode offset from (own_of (key_of e) start)
  own_next e found = by (stands_above start e.0) refl
    where
      first : IsFirst start (entries_of keys btree) e
      first = is_first start (entries_of keys btree) e (is.rises btree) found

      up : (id : ℕ) → from ≤ id → is_le (pos_cmp start (at inode offset id)) ≡ true
      up id le = ap is_le (same_place inode offset from id) ∙ le_true from id le

      here : stands_above start e.0 ≡ true → e.0 ≡ at inode offset e.0.snapshot
      here is_there =
          let parts = and_parts (e.0.inode == inode) (e.0.offset == offset) (and_parts (e.0.inode == inode && e.0.offset == offset) (not (nat_lt e.0.snapshot from)) is_there).0 in
          let first_part = eqb-true e.0.inode inode parts.0 in
          let second_part = eqb-true e.0.offset offset parts.1 in
          λ i. record { inode = first_part i; offset = second_part i; snapshot = e.0.snapshot }

      by : (b : Bool) → stands_above start e.0 ≡ b → IsNextOwn keys btree inode offset from (cond b (Some (e.0.snapshot, e.1)) None)
      by true is_there = record {
        value = ap (λ q. value_at pos_cmp q (entries_of keys btree)) (sym (here is_there)) ∙ first.there;
        none_before = λ id le lt. first.none_before (at inode offset id) (up id le) (ap (pos_cmp (at inode offset id)) (here is_there) ∙ same_place inode offset id e.0.snapshot ∙ sym (nat_cmp_is id e.0.snapshot Less lt));
      }
      by false other = λ id le. first.none_before (at inode offset id) (up id le) (beyond inode offset from id e.0 (first_above start (entries_of keys btree) e found) other)

  -- an empty answer says that no id from there on has a key
  pub no_answer : (answer : List Key) → answer ≡ answer_of (Starting btree start) keys → answer ≡ [] → IsNextOwn keys btree inode offset from None
  no_answer answer look empty = by (first_from start (entries_of keys btree)) refl (sym look ∙ empty)
    where
      by : (o : Option (Pos × Value)) → first_from start (entries_of keys btree) ≡ o → keys_in (option_to_list o) ≡ [] → IsNextOwn keys btree inode offset from None
      by None none nil = none_next none
      by (Some e) some nil = absurd (nil_cons (key_of e) [] (sym nil))

  -- the last key of an answer, which has no other, is the next one
  pub an_answer : (answer rest : List Key) (key : Key) → answer ≡ answer_of (Starting btree start) keys → answer ≡ rest ++ key ∷ [] → IsNextOwn keys btree inode offset from (own_of key start)
  an_answer answer rest key look last = by (first_from start (entries_of keys btree)) refl (sym look ∙ last)
    where
      only : (e : Pos × Value) (rest : List Key) → key_of e ∷ [] ≡ rest ++ key ∷ [] → key_of e ≡ key
      only e [] same = same_Some (key_of e) key (ap (λ ks. slice_get ks 0) same)
      only e (k ∷ []) same = absurd (none_some key (ap (λ ks. slice_get ks 1) same))
      only e (k ∷ l ∷ rest) same = absurd (none_some l (ap (λ ks. slice_get ks 1) same))

      some : (rest : List Key) → [] ≡ rest ++ key ∷ [] → ⊥
      some [] nil = nil_cons key [] nil
      some (k ∷ rest) nil = nil_cons k (rest ++ key ∷ []) nil

      by : (o : Option (Pos × Value)) → first_from start (entries_of keys btree) ≡ o → keys_in (option_to_list o) ≡ rest ++ key ∷ [] → IsNextOwn keys btree inode offset from (own_of key start)
      by None none nil = absurd (some rest nil)
      by (Some e) found same = subst (λ (k : Key). IsNextOwn keys btree inode offset from (own_of k start)) (only e rest same) (own_next e found)

member_above : (x a : ℕ) (ids : List ℕ) → AllByRecursion (λ y. nat_cmp x y ≡ Less) ids → list_any (nat_eq a) ids ≡ true → x < a
member_above x a [] all among = absurd (true≢false (sym among))
member_above x a (y ∷ ids) all among = by (nat_eq a y) refl among (member_above x a ids all.1)
  where
    by : (b : Bool) → nat_eq a y ≡ b → (b || list_any (nat_eq a) ids) ≡ true → (list_any (nat_eq a) ids ≡ true → x < a) → x < a
    by true same among later = omega (arith, ranked x y Less (sym all.0), eqb-true a y same)
    by false other among later = later among

or_true : (b : Bool) → (b || true) ≡ true
or_true true = refl
or_true false = refl

module _ (keys : KeyMap) (btree : Btree) (inode offset : ℕ) where
  abbrev own : ℕ → Option Value
  own a = own_value keys btree inode offset a

  first_among : (x : ℕ) (ids : List ℕ) → list_any (nat_eq x) (x ∷ ids) ≡ true
  first_among x ids = ap (λ b. b || list_any (nat_eq x) ids) (eq-eqb x x refl)

  later_among : (a x : ℕ) (ids : List ℕ) → list_any (nat_eq a) ids ≡ true → list_any (nat_eq a) (x ∷ ids) ≡ true
  later_among a x ids among = ap (λ b. nat_eq a x || b) among ∙ or_true (nat_eq a x)

  -- where none of some ids has a key, none of them has a first value
  pub first_value-none : (ids : List ℕ) → ((a : ℕ) → list_any (nat_eq a) ids ≡ true → own a ≡ None) → first_value keys btree inode offset ids ≡ None
  first_value-none [] none = refl
  first_value-none (x ∷ ids) none = ap (λ o. option_or o (first_value keys btree inode offset ids)) (none x (first_among x ids)) ∙ first_value-none ids (λ a among. none a (later_among a x ids among))

  -- the first value of rising ids is that of an id below which none has one
  pub first_value-found : (ids : List ℕ) (s : ℕ) (value : Value) → IsStrictlySortedBy nat_cmp ids → list_any (nat_eq s) ids ≡ true → ((a : ℕ) → list_any (nat_eq a) ids ≡ true → a < s → own a ≡ None) → own s ≡ Some value
      → first_value keys btree inode offset ids ≡ Some value
  first_value-found [] s value rises among none is = absurd (true≢false (sym among))
  first_value-found (x ∷ ids) s value rises among none is = by (nat_eq s x) refl among (first_value-found ids s value (sorted_tail nat_cmp x ids rises))
    where
      by : (b : Bool) → nat_eq s x ≡ b → (b || list_any (nat_eq s) ids) ≡ true
          → (list_any (nat_eq s) ids ≡ true → ((a : ℕ) → list_any (nat_eq a) ids ≡ true → a < s → own a ≡ None) → own s ≡ Some value → first_value keys btree inode offset ids ≡ Some value)
          → first_value keys btree inode offset (x ∷ ids) ≡ Some value
      by true same among later = ap (λ o. option_or o (first_value keys btree inode offset ids)) (ap own (sym (eqb-true s x same)) ∙ is)
      by false other among later =
          ap (λ o. option_or o (first_value keys btree inode offset ids)) (none x (first_among x ids) (member_above x s ids (sorted_head nat_cmp x ids rises) among))
          ∙ later among (λ a member lt. none a (later_among a x ids member) lt) is

  -- No ancestor of an id that is below a number has a key there.
  abbrev pub NoneBelow : Snaps → ℕ → ℕ → Type 0
  NoneBelow tree id end = (a : ℕ) → is_ancestor_of tree a id ≡ true → a < end → own a ≡ None

  module _ (tree : Snaps) (id : ℕ) (same : snaps_of keys ≡ tree) where
    pub nothing_shows : ((a : ℕ) → is_ancestor_of tree a id ≡ true → own a ≡ None) → None ≡ visible keys btree inode offset id
    nothing_shows none = sym (ap (λ (s : Snaps). shown (first_value keys btree inode offset (chain_of s id))) same ∙ ap shown (first_value-none (chain_of tree id) none))

    pub this_shows : (s : ℕ) (value : Value) → IsMap nat_cmp tree → is_ancestor_of tree s id ≡ true → NoneBelow tree id s → own s ≡ Some value → shown (Some value) ≡ visible keys btree inode offset id
    this_shows s value rises ancestor none is =
        sym (ap (λ (s : Snaps). shown (first_value keys btree inode offset (chain_of s id))) same ∙ ap shown (first_value-found (chain_of tree id) s value (chain_of-rises tree id rises) ancestor none is))

  -- none below the first id with a key from a number on, where there is none below that
  pub none_up_to : (tree : Snaps) (id from : ℕ) (first : ℕ × Value) → NoneBelow tree id from → IsFirstOwn keys btree inode offset from first → NoneBelow tree id first.0
  none_up_to tree id from first none is a ancestor lt = ⊎_elim (λ (below : a < from). none a ancestor below) (λ (up : from ≤ a). is.none_before a up lt) (cases_lt a from)

  -- and none up to it, where it is no ancestor
  pub none_past : (tree : Snaps) (id from : ℕ) (first : ℕ × Value) → NoneBelow tree id from → IsFirstOwn keys btree inode offset from first → is_ancestor_of tree first.0 id ≡ false → (a : ℕ) → is_ancestor_of tree a id ≡ true → a ≤ first.0 → own a ≡ None
  none_past tree id from first none is other a ancestor le =
      ⊎_elim (λ (lt : a < first.0). none_up_to tree id from first none is a ancestor lt)
      (λ (up : first.0 ≤ a). let same : a ≡ first.0 = omega (arith, up, le) in absurd (true≢false (sym ancestor ∙ ap (λ x. is_ancestor_of tree x id) same ∙ other))) (cases_lt a first.0)

  -- no ancestor at all, where none from there on has a key
  pub none_at_all : (tree : Snaps) (id from : ℕ) → NoneBelow tree id from → IsNextOwn keys btree inode offset from None → (a : ℕ) → is_ancestor_of tree a id ≡ true → own a ≡ None
  none_at_all tree id from none next a ancestor = ⊎_elim (λ (below : a < from). none a ancestor below) (λ (up : from ≤ a). next a up) (cases_lt a from)

-- looks go on with none
pub goes_nowhere : (looks : List Look) → GoesOn looks looks
goes_nowhere looks = record { more = []; is = sym (append-nil looks) }

-- and twice
pub goes_further : (first second third : List Look) → GoesOn first second → GoesOn second third → GoesOn first third
goes_further first second third one two = record { more = one.more ++ two.more; is = two.is ∙ ap (λ l. l ++ two.more) one.is ∙ append_assoc first one.more two.more }

all_first : {X : Type 0} (P : X → Type 0) (first second : List X) → AllByRecursion P (first ++ second) → AllByRecursion P first
all_first P [] second all = tt
all_first P (x ∷ first) second all = (all.0, all_first P first second all.1)

all_last : {X : Type 0} (P : X → Type 0) (first : List X) (x : X) → AllByRecursion P (first ++ x ∷ []) → P x
all_last P [] x all = all.0
all_last P (y ∷ first) x all = all_last P first x all.1

-- a key map that gives looks gave those before
pub gave_before : (keys : KeyMap) (old new : List Look) → GoesOn old new → GivesLooks keys new → GivesLooks keys old
gave_before keys old new on gives = record {
  each = All-from_recursion (IsLook keys) old (all_first (IsLook keys) old on.more (recursion_from_All (IsLook keys) (old ++ on.more) (subst (All (IsLook keys)) on.is gives.each)));
}

-- and is seen so before
pub seen_before : (keys : KeyMap) (old new : List Look) (tree : Snaps) → GoesOn old new → IsSeen keys new tree → IsSeen keys old tree
seen_before keys old new tree on seen = record { is_map = seen.is_map; gives = gave_before keys old new on seen.gives; ids = seen.ids }

-- it gives the last one
pub gives_last : (keys : KeyMap) (old new : List Look) (look : Look) → new ≡ old ++ look ∷ [] → GivesLooks keys new → IsLook keys look
gives_last keys old new look is gives = all_last (IsLook keys) old look (recursion_from_All (IsLook keys) (old ++ look ∷ []) (subst (All (IsLook keys)) is gives.each))

-- what is shown where a test passed
pub shown_where : (b : Bool) (value : Value) (tried : Option (Option Value)) (found : Option Value) → tried ≡ cond b (Some (shown (Some value))) None → tried ≡ Some found → (b ≡ true) × (shown (Some value) ≡ found)
shown_where true value tried found is some = (refl, same_Some (shown (Some value)) found (sym is ∙ some))
shown_where false value tried found is some = absurd (none_some found (sym is ∙ some))

-- and the test where nothing was
pub passed_where : (b : Bool) (value : Value) (tried : Option (Option Value)) → tried ≡ cond b (Some (shown (Some value))) None → tried ≡ None → b ≡ false
passed_where true value tried is none = absurd (none_some (shown (Some value)) (sym none ∙ is))
passed_where false value tried is none = refl
