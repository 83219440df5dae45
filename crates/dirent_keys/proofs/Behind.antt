-- The first key at a slot of a directory or behind it tells the next slot, and where there is none nothing shows.
use Rattle.std.proofs.Common.{◌≡◌, ℕ, ◌<◌, ◌≤◌, Bool, true, false, cond, not, Option, Some, None, List, [], ◌∷◌, ◌++◌, refl, sym, ap, ◌∙◌, subst, arith}
use Rattle.std.specs.Prelude.{◌==◌, ◌||◌, ◌≢◌, nat_lt, IfNone, IfSome}
use Rattle.std.specs.Cmp.{nat_cmp_is}
use Rattle.std.specs.Option.{option_or, option_to_list}
use Rattle.std.specs.Ordering.{nat_cmp, ordering_then, is_le}
use Rattle.std.specs.declared.cmp.Ordering.{Ordering}
use Rattle.std.specs.declared.cmp.Ordering.TheVariants.{Less, Equal, Greater}
use Rattle.std.proofs.lemmas.Bool.{true≢false, eqb-true, eq-eqb, ltb-true, ltb-false}
use Rattle.std.proofs.lemmas.Bool.Decides.{nat_tests}
use Rattle.std.proofs.lemmas.Cmp.{ranked}
use Rattle.key_view.specs.FirstLaws.{IsFirst, first_above, is_first, none_from}
use Rattle.dirent_keys.proofs.Looks.{nil_cons, only_last, some_last}
use Rattle.dirent_keys.specs.Slots.{HasNoSlot, slot_of_key}
use Rattle.key_meaning.specs.Forest.{links_in, links_of}
use Rattle.key_meaning.specs.Visible.{first_value, own_value, shown, snaps_of}
use Rattle.snap_tree.specs.Snaps.{chain_of}
use Rattle.vol_types.specs.KeyMaps.{IsKeyMap, KeyMap, answer_of, entries_of, first_from, key_of, keys_in}
use Rattle.vol_types.specs.Positions.{pos_cmp}
use Rattle.vol_types.specs.declared.keys.Key.{Key}
use Rattle.vol_types.specs.declared.positions.Btree.TheVariants.{Dirents}
use Rattle.vol_types.specs.declared.positions.Pos.{Pos}
use Rattle.vol_types.specs.declared.queries.Query.TheVariants.{Starting}
use Rattle.vol_types.specs.declared.values.Value.{Value}

-- the position of an id's own key at a slot of a directory
abbrev pub at : ℕ → ℕ → ℕ → Pos
at directory slot id = record { inode = directory; offset = slot; snapshot = id }

tied : (n : ℕ) → nat_cmp n n ≡ Equal
tied n = sym (nat_cmp_is n n Equal refl)

-- a position of a lower inode is before another,
before_inode : (p q : Pos) → p.inode < q.inode → pos_cmp p q ≡ Less
before_inode p q lt = ap (λ o. ordering_then o (ordering_then (nat_cmp p.offset q.offset) (nat_cmp p.snapshot q.snapshot))) (sym (nat_cmp_is p.inode q.inode Less lt))

-- and so is one of a lower offset of the same inode
before_offset : (p q : Pos) → p.inode ≡ q.inode → p.offset < q.offset → pos_cmp p q ≡ Less
before_offset p q same lt =
    ap (λ o. ordering_then o (ordering_then (nat_cmp p.offset q.offset) (nat_cmp p.snapshot q.snapshot))) (sym (nat_cmp_is p.inode q.inode Equal same))
    ∙ ap (λ o. ordering_then o (nat_cmp p.snapshot q.snapshot)) (sym (nat_cmp_is p.offset q.offset Less lt))

zero_first : (id : ℕ) → is_le (nat_cmp 0 id) ≡ true
zero_first id = grind (arith, nat_tests)

-- a slot isn't before an earlier one
slots_rise : (directory from slot id : ℕ) → from ≤ slot → is_le (pos_cmp (at directory from 0) (at directory slot id)) ≡ true
slots_rise directory from slot id le = ap (λ o. is_le (ordering_then o (ordering_then (nat_cmp from slot) (nat_cmp 0 id)))) (tied directory) ∙ by (nat_cmp from slot) refl
  where
    by : (r : Ordering) → nat_cmp from slot ≡ r → is_le (ordering_then r (nat_cmp 0 id)) ≡ true
    by Less is = refl
    by Equal is = zero_first id
    by Greater is = absurd (omega (arith, le, ranked from slot Greater (sym is)))

-- a key that isn't before a slot of a directory is one of a greater directory, if not of this one
greater_inode : (directory from : ℕ) (p : Pos) → is_le (pos_cmp (at directory from 0) p) ≡ true → p.inode ≢ directory → directory < p.inode
greater_inode directory from p le apart = by (nat_cmp directory p.inode) refl
  where
    by : (r : Ordering) → nat_cmp directory p.inode ≡ r → directory < p.inode
    by Less is = ranked directory p.inode Less (sym is)
    by Equal is = absurd (apart (sym (ranked directory p.inode Equal (sym is))))
    by Greater is = absurd (true≢false (sym le ∙ ap (λ o. is_le (ordering_then o (ordering_then (nat_cmp from p.offset) (nat_cmp 0 p.snapshot)))) is))

-- and one of this directory has no lower slot
greater_slot : (directory from : ℕ) (p : Pos) → is_le (pos_cmp (at directory from 0) p) ≡ true → p.inode ≡ directory → from ≤ p.offset
greater_slot directory from p le same = by (nat_cmp from p.offset) refl
  where
    by : (r : Ordering) → nat_cmp from p.offset ≡ r → from ≤ p.offset
    by Less is = let lt = ranked from p.offset Less (sym is) in omega (arith, lt)
    by Equal is = let eq = ranked from p.offset Equal (sym is) in omega (arith, eq)
    by Greater is = absurd (true≢false (sym le ∙ ap (λ o. is_le (ordering_then o (ordering_then (nat_cmp from p.offset) (nat_cmp 0 p.snapshot)))) (sym (nat_cmp_is directory p.inode Equal (sym same))) ∙ ap (λ o. is_le (ordering_then o (nat_cmp 0 p.snapshot))) is))

module _ (keys : KeyMap) (directory from : ℕ) (is : IsKeyMap keys) where
  abbrev start : Pos
  start = at directory from 0

  none_next : first_from start (entries_of keys Dirents) ≡ None → HasNoSlot keys directory from None
  none_next none slot id le = none_from start (entries_of keys Dirents) none (at directory slot id) (slots_rise directory from slot id le)

  slot_next : (e : Pos × Value) → first_from start (entries_of keys Dirents) ≡ Some e → HasNoSlot keys directory from (slot_of_key (Some (key_of e)) directory from)
  slot_next e found = by (e.0.inode == directory) refl (nat_lt e.0.offset from) refl
    where
      first : IsFirst start (entries_of keys Dirents) e
      first = is_first start (entries_of keys Dirents) e (is.rises Dirents) found

      above : is_le (pos_cmp start e.0) ≡ true
      above = first_above start (entries_of keys Dirents) e found

      by : (b : Bool) → (e.0.inode == directory) ≡ b → (c : Bool) → nat_lt e.0.offset from ≡ c → HasNoSlot keys directory from (cond (not b || c) None (Some e.0.offset))
      by true same false up = λ slot id le lt. first.none_before (at directory slot id) (slots_rise directory from slot id le) (before_offset (at directory slot id) e.0 (sym (eqb-true e.0.inode directory same)) lt)
      by true same true low = absurd (let le = greater_slot directory from e.0 above (eqb-true e.0.inode directory same) in omega (arith, le, ltb-true e.0.offset from low))
      by false other c low = λ slot id le. first.none_before (at directory slot id) (slots_rise directory from slot id le)
          (before_inode (at directory slot id) e.0 (greater_inode directory from e.0 above (λ same. true≢false (sym (eq-eqb e.0.inode directory same) ∙ other))))

  -- The key that an answer ends with tells the next slot.
  pub next_found : (answer rest : List Key) (key : Option Key) → answer ≡ answer_of (Starting Dirents start) keys → answer ≡ rest ++ option_to_list key → IfNone key (answer ≡ [])
      → HasNoSlot keys directory from (slot_of_key key directory from)
  next_found answer rest key look last empty = by (first_from start (entries_of keys Dirents)) refl key (sym look ∙ last) (λ none. sym look ∙ none) empty
    where
      by : (o : Option (Pos × Value)) → first_from start (entries_of keys Dirents) ≡ o → (key : Option Key) → keys_in (option_to_list o) ≡ rest ++ option_to_list key → (answer ≡ [] → keys_in (option_to_list o) ≡ []) → IfNone key (answer ≡ [])
          → HasNoSlot keys directory from (slot_of_key key directory from)
      by None found None same turned none = none_next found
      by None found (Some k) same turned none = absurd (some_last k rest same)
      by (Some e) found None same turned none = absurd (nil_cons (key_of e) [] (sym (turned none)))
      by (Some e) found (Some k) same turned none = subst (λ (l : Key). HasNoSlot keys directory from (slot_of_key (Some l) directory from)) (only_last (key_of e) rest k same) (slot_next e found)

-- A slot that is told isn't lower.
pub slot_above : (key : Option Key) (directory from : ℕ) → IfSome (slot_of_key key directory from) (λ slot. from ≤ slot)
slot_above None directory from = tt
slot_above (Some key) directory from = by (key.pos.inode == directory) (nat_lt key.pos.offset from) refl
  where
    by : (b c : Bool) → nat_lt key.pos.offset from ≡ c → IfSome (cond (not b || c) None (Some key.pos.offset)) (λ slot. from ≤ slot)
    by true true low = tt
    by true false up = ltb-false key.pos.offset from up
    by false c low = tt

-- Where no id has a key at a slot, nothing shows there.
pub no_links : (keys : KeyMap) (id directory slot : ℕ) → ((owner : ℕ) → own_value keys Dirents directory slot owner ≡ None) → links_in keys id directory slot ≡ []
no_links keys id directory slot none = ap (λ o. links_of (shown o)) (over (chain_of (snaps_of keys) id))
  where
    over : (ids : List ℕ) → first_value keys Dirents directory slot ids ≡ None
    over [] = refl
    over (owner ∷ ids) = ap (λ o. option_or o (first_value keys Dirents directory slot ids)) (none owner) ∙ over ids
