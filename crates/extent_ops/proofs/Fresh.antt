-- Fresh keys as changes: they lie in the stretches that they cover, each block is given once, and it is what they show.
use Rattle.std.proofs.Common.{◌≡◌, inl, inr, ℕ, ◌+◌, ◌-◌, ◌<◌, ◌≤◌, Bool, true, false, cond, Option, Some, None, List, [], ◌∷◌, ◌++◌, map, slice_get, refl, sym, ap, ◌∙◌, subst, arith}
use Rattle.std.specs.Prelude.{◌&&◌, ◌||◌, nat_le, nat_lt, All, is_some, option_map, Result, Ok, Err, IfOk}
use Rattle.std.specs.Option.{option_or}
use Rattle.std.proofs.lemmas.Bool.Decides.{nat_tests}
use Rattle.std.proofs.lemmas.List.Elements.{All-head, All-tail}
use Rattle.std.proofs.lemmas.Option.{none-some as none_some, same_Some}
use Rattle.vol_types.specs.KeyMaps.{IsKeyMap, KeyMap, with_updates}
use Rattle.vol_types.specs.declared.keys.Key.{Key}
use Rattle.vol_types.specs.declared.keys.Update.{Update}
use Rattle.vol_types.specs.declared.positions.Pos.{Pos}
use Rattle.vol_types.specs.declared.values.Value.{Value}
use Rattle.key_meaning.specs.Blocks.{Block, blocks_of, covers}
use Rattle.key_meaning.specs.Checks.{IsCoveredOnce}
use Rattle.key_meaning.specs.ChangeLaws.{changes_nothing}
use Rattle.extent_ops.specs.Content.{AreFresh, AreFreshWithin, AreLookedAt, HavePlaces, IsFresh, TakesBlocks, given_by, value_gives}
use Rattle.extent_ops.specs.Cutting.{change_of, cut_all, stretch_at, stretch_of, updates_of}
use Rattle.extent_ops.specs.Stretches.{RiseFrom, has_block, is_within}
use Rattle.extent_ops.specs.declared.cutting.Change.{Change}
use Rattle.extent_ops.specs.declared.stretches.Stretch.{Stretch}
use Rattle.extent_ops.proofs.Cuts.{PutsOver}
use Rattle.extent_ops.proofs.Members.{Has, any-has, has-map, map-has}
use Rattle.extent_ops.proofs.Pieces.{covers-range, range-covers, shown_by}
use Rattle.extent_ops.proofs.Taken.{AreGiven, taken}

-- What holds of each is true of a member.
pub all-member : {X : Type 0} (P : X → Type 0) (x : X) (xs : List X) → All P xs → Has x xs → P x
all-member P x [] all has = elim has [ ]
all-member P x (y ∷ xs) all (inl same) = subst P (sym same) (All-head P y xs all)
all-member P x (y ∷ xs) all (inr later) = all-member P x xs (All-tail P y xs all) later

-- What a result is, if it is one, may be said otherwise.
pub ok_then : {T E : Type 0} (P Q : T → Type 0) (result : Result T E) → IfOk result P → ((x : T) → P x → Q x) → IfOk result Q
ok_then P Q (Ok x) holds then_holds = then_holds x holds
ok_then P Q (Err e) holds then_holds = holds

-- A block of one of some stretches is within them.
pub within-has : (block : ℕ) (s : Stretch) (stretches : List Stretch) → Has s stretches → has_block block s ≡ true → is_within stretches block ≡ true
within-has block s [] has lies = elim has [ ]
within-has block s (x ∷ xs) (inl same) lies = ap (λ b. b || is_within xs block) (sym (ap (has_block block) same) ∙ lies)
within-has block s (x ∷ xs) (inr later) lies = ap (λ b. has_block block x || b) (within-has block s xs later lies) ∙ or_true (has_block block x)
  where
    or_true : (b : Bool) → (b || true) ≡ true
    or_true true = refl
    or_true false = refl

-- Stretches that rise from a block rise from each lower one.
pub rise_from : (low from : ℕ) (stretches : List Stretch) → low ≤ from → RiseFrom from stretches → RiseFrom low stretches
rise_from low from [] le rise = rise
rise_from low from (s ∷ ss) le rise = (omega (arith, le, rise.0), rise.1, rise.2)

-- A key's stretch has the blocks that it covers.
covered_lies : (end block : ℕ) (value : Value) → covers end value block ≡ has_block block (stretch_at end (Some value))
covered_lies end block value = same end block (blocks_of value)
  where
    same : (end block n : ℕ) → (nat_lt block end && nat_le end (block + n)) ≡ (nat_le (end - n) block && nat_lt block end)
    same end block n = grind (arith, nat_tests)

-- What is cut out is what some key gives.
pub same_cut : (block : ℕ) (fresh : List Key) → is_within (map stretch_of fresh) block ≡ is_some (given_by fresh block)
same_cut block [] = refl
same_cut block (key ∷ keys) = by key.value (same_cut block keys)
  where
    none : (end : ℕ) → has_block block (record { first = end; end = end }) ≡ false
    none end = grind (arith, nat_tests)

    choose : (b : Bool) (x : Option Block) (rest : Option (Option Block)) → (b || is_some rest) ≡ is_some (option_or (cond b (Some x) None) rest)
    choose true x rest = refl
    choose false x rest = refl

    by : (value : Option Value) → is_within (map stretch_of keys) block ≡ is_some (given_by keys block) → (has_block block (stretch_at key.pos.offset value) || is_within (map stretch_of keys) block) ≡ is_some (option_or (value_gives key.pos.offset value block) (given_by keys block))
    by None later = (λ i. none key.pos.offset i || later i)
    by (Some value) later = (λ i. sym (covered_lies key.pos.offset block value) i || later i) ∙ choose (covers key.pos.offset value block) (shown_by block key.pos.offset value) (given_by keys block)

module _ (file id : ℕ) where
  -- Fresh keys cover stretches that rise.
  pub fresh_rise : (from : ℕ) (fresh : List Key) → AreFresh file id from fresh → RiseFrom from (map stretch_of fresh)
  fresh_rise from [] are = tt
  fresh_rise from (key ∷ keys) are =
      let low : (stretch_of key).first ≡ key.pos.offset - blocks_of are.0.value = ap (λ v. (stretch_at key.pos.offset v).first) are.0.is in
      let high : (stretch_of key).end ≡ key.pos.offset = ap (λ v. (stretch_at key.pos.offset v).end) are.0.is in
      (omega (arith, low, are.0.behind), omega (arith, low, high), subst (λ (e : ℕ). RiseFrom e (map stretch_of keys)) (sym high) (fresh_rise key.pos.offset keys are.1))

  -- Each is a fresh one.
  pub fresh-has : (from : ℕ) (fresh : List Key) (key : Key) → AreFresh file id from fresh → Has key fresh → (low : ℕ) × (IsFresh file id low key × (from ≤ low))
  fresh-has from [] key are has = elim has [ ]
  fresh-has from (k ∷ ks) key are (inl same) = (from, (subst (IsFresh file id from) (sym same) are.0, omega arith))
  fresh-has from (k ∷ ks) key are (inr later) = let rest = fresh-has k.pos.offset ks key are.1 later in (rest.0, (rest.1.0, omega (arith, are.0.behind, rest.1.1)))

  -- What covers a block from the beginning of some is behind that beginning.
  fresh-behind : (from : ℕ) (fresh : List Key) (key : Key) (value : Value) (block : ℕ) → AreFresh file id from fresh → Has key fresh → key.value ≡ Some value → covers key.pos.offset value block ≡ true → from ≤ block
  fresh-behind from fresh key value block are has at over =
      let it = fresh-has from fresh key are has in
      let same : blocks_of it.1.0.value ≡ blocks_of value = ap blocks_of (same_Some it.1.0.value value (sym it.1.0.is ∙ at)) in
      let range = covers-range key.pos.offset value block over in
      omega (arith, it.1.1, it.1.0.behind, same, range.0)

  -- Two that cover one block are one.
  fresh-once : (from : ℕ) (fresh : List Key) (one other : Key) (value another : Value) (block : ℕ) → AreFresh file id from fresh → Has one fresh → Has other fresh
      → one.value ≡ Some value → other.value ≡ Some another → covers one.pos.offset value block ≡ true → covers other.pos.offset another block ≡ true → one ≡ other
  fresh-once from [] one other value another block are has has' at at' over over' = elim has [ ]
  fresh-once from (k ∷ ks) one other value another block are (inl same) (inl same') at at' over over' = same ∙ sym same'
  fresh-once from (k ∷ ks) one other value another block are (inl same) (inr later) at at' over over' =
      let behind = fresh-behind k.pos.offset ks other another block are.1 later at' over' in
      let ends : one.pos.offset ≡ k.pos.offset = ap (λ (x : Key). x.pos.offset) same in
      absurd (omega (arith, behind, ends, (covers-range one.pos.offset value block over).1))
  fresh-once from (k ∷ ks) one other value another block are (inr later) (inl same') at at' over over' =
      let behind = fresh-behind k.pos.offset ks one value block are.1 later at over in
      let ends : other.pos.offset ≡ k.pos.offset = ap (λ (x : Key). x.pos.offset) same' in
      absurd (omega (arith, behind, ends, (covers-range other.pos.offset another block over').1))
  fresh-once from (k ∷ ks) one other value another block are (inr later) (inr later') at at' over over' = fresh-once k.pos.offset ks one other value another block are.1 later later' at at' over over'

  -- What a fresh key shows of a block is what is given to it.
  fresh-gives : (from : ℕ) (fresh : List Key) (key : Key) (value : Value) (block : ℕ) → AreFresh file id from fresh → Has key fresh → key.value ≡ Some value → covers key.pos.offset value block ≡ true
      → given_by fresh block ≡ Some (shown_by block key.pos.offset value)
  fresh-gives from [] key value block are has at over = elim has [ ]
  fresh-gives from (k ∷ ks) key value block are (inl same) at over =
      ap (λ o. option_or o (given_by ks block)) ((λ i. value_gives (sym same i).pos.offset (sym same i).value block) ∙ ap (λ v. value_gives key.pos.offset v block) at ∙ ap (λ b. cond b (Some (shown_by block key.pos.offset value)) None) over)
  fresh-gives from (k ∷ ks) key value block are (inr later) at over =
      ap (λ o. option_or o (given_by ks block)) (ap (λ v. value_gives k.pos.offset v block) are.0.is ∙ ap (λ b. cond b (Some (shown_by block k.pos.offset are.0.value)) None) (not_over (covers k.pos.offset are.0.value block) refl))
      ∙ fresh-gives k.pos.offset ks key value block are.1 later at over
    where
      not_over : (b : Bool) → covers k.pos.offset are.0.value block ≡ b → b ≡ false
      not_over true is = absurd (omega (arith, fresh-behind k.pos.offset ks key value block are.1 later at over, (covers-range k.pos.offset are.0.value block is).1))
      not_over false is = refl

  -- Fresh keys are given so.
  pub fresh-given : (from : ℕ) (fresh : List Key) → AreFresh file id from fresh → AreGiven (map stretch_of fresh) (map change_of fresh) (given_by fresh)
  fresh-given from fresh are = record {
    inside = λ change block has over. inside change block (has-map change_of change fresh has) over;
    last = λ change has. last change (has-map change_of change fresh has);
    once = λ one other block has has' over over'. once one other block (has-map change_of one fresh has) (has-map change_of other fresh has') over over';
    gives = λ change block has over. gives change block (has-map change_of change fresh has) over;
    given = λ block within. inr (given block within);
  }
    where
      inside : (change : Change) (block : ℕ) → (key : Key) × (Has key fresh × (change ≡ change_of key)) → PutsOver block change → is_within (map stretch_of fresh) block ≡ true
      inside change block (key, has) over =
          let at : key.value ≡ Some over.value = sym (ap (λ (c : Change). c.value) has.1) ∙ over.is in
          let end : change.end ≡ key.pos.offset = ap (λ (c : Change). c.end) has.1 in
          within-has block (stretch_of key) (map stretch_of fresh) (map-has stretch_of key fresh has.0)
          (ap (λ v. has_block block (stretch_at key.pos.offset v)) at ∙ sym (covered_lies key.pos.offset block over.value) ∙ (λ i. covers (sym end i) over.value block) ∙ over.over)

      last : (change : Change) → (key : Key) × (Has key fresh × (change ≡ change_of key)) → PutsOver (change.end - 1) change × (0 < change.end)
      last change (key, has) =
          let it = (fresh-has from fresh key are has.0).1.0 in
          let end : change.end ≡ key.pos.offset = ap (λ (c : Change). c.end) has.1 in (
            record {
              value = it.value;
              is = ap (λ (c : Change). c.value) has.1 ∙ it.is;
              over = range-covers change.end it.value (change.end - 1) (omega (arith, end, it.some, it.behind)) (omega (arith, end, it.some, it.behind));
            },
            omega (arith, end, it.some, it.behind),
          )

      once : (one other : Change) (block : ℕ) → (key : Key) × (Has key fresh × (one ≡ change_of key)) → (key : Key) × (Has key fresh × (other ≡ change_of key)) → PutsOver block one → PutsOver block other → one ≡ other
      once one other block (key, has) (key', has') over over' =
          has.1 ∙ ap change_of (fresh-once from fresh key key' over.value over'.value block are has.0 has'.0 (sym (ap (λ (c : Change). c.value) has.1) ∙ over.is) (sym (ap (λ (c : Change). c.value) has'.1) ∙ over'.is)
          ((λ i. covers (sym (ap (λ (c : Change). c.end) has.1) i) over.value block) ∙ over.over) ((λ i. covers (sym (ap (λ (c : Change). c.end) has'.1) i) over'.value block) ∙ over'.over)) ∙ sym has'.1

      gives : (change : Change) (block : ℕ) → (key : Key) × (Has key fresh × (change ≡ change_of key)) → (over : PutsOver block change) → given_by fresh block ≡ Some (shown_by block change.end over.value)
      gives change block (key, has) over =
          fresh-gives from fresh key over.value block are has.0 (sym (ap (λ (c : Change). c.value) has.1) ∙ over.is) ((λ i. covers (sym (ap (λ (c : Change). c.end) has.1) i) over.value block) ∙ over.over)
          ∙ (λ i. Some (shown_by block (sym (ap (λ (c : Change). c.end) has.1) i) over.value))

      given : (block : ℕ) → is_within (map stretch_of fresh) block ≡ true → (change : Change) × (Has change (map change_of fresh) × PutsOver block change)
      given block within =
          let s = any-has (has_block block) (map stretch_of fresh) within in
          let k = has-map stretch_of s.0 fresh s.1.0 in
          let it = (fresh-has from fresh k.0 are k.1.0).1.0 in (
            change_of k.0,
            (
              map-has change_of k.0 fresh k.1.0,
              record {
                value = it.value;
                is = it.is;
                over = covered_lies k.0.pos.offset block it.value ∙ sym (ap (λ v. has_block block (stretch_at k.0.pos.offset v)) it.is) ∙ sym (ap (has_block block) k.1.1) ∙ s.1.1;
              },
            ),
          )

  -- Their blocks are those from the first to the last one.
  pub fresh-window : (first last : ℕ) (fresh : List Key) → AreFreshWithin file id first last fresh → (block : ℕ) → is_within (map stretch_of fresh) block ≡ true → (first ≤ block) × (block ≤ last)
  fresh-window first last fresh are block within =
      let s = any-has (has_block block) (map stretch_of fresh) within in
      let k = has-map stretch_of s.0 fresh s.1.0 in
      let it = (fresh-has first fresh k.0 are.fresh k.1.0).1.0 in
      let over : covers k.0.pos.offset it.value block ≡ true = covered_lies k.0.pos.offset block it.value ∙ sym (ap (λ v. has_block block (stretch_at k.0.pos.offset v)) it.is) ∙ sym (ap (has_block block) k.1.1) ∙ s.1.1 in
      (fresh-behind first fresh k.0 it.value block are.fresh k.1.0 it.is over, omega (arith, all-member (λ (key : Key). key.pos.offset ≤ last + 1) k.0 fresh are.within k.1.0, (covers-range k.0.pos.offset it.value block over).1))

  -- The first one is of the file.
  pub fresh-file : (from : ℕ) (fresh : List Key) (number : ℕ) → AreFresh file id from fresh → option_map (λ (key : Key). key.pos.inode) (slice_get fresh 0) ≡ Some number → number ≡ file
  fresh-file from [] number are is = absurd (none_some number is)
  fresh-file from (key ∷ keys) number are is = sym (same_Some key.pos.inode number is) ∙ ap (λ (p : Pos). p.inode) are.0.at

-- An id takes fresh keys over by their updates.
pub taken_fresh : (id : ℕ) (keys fresh : List Key) (number : ℕ) (updates : List Update) → option_map (λ (key : Key). key.pos.inode) (slice_get fresh 0) ≡ Some number → updates ≡ updates_of number id (cut_all id (map stretch_of fresh) keys ++ map change_of fresh)
    → (keys_map : KeyMap) (file first last : ℕ) → IsKeyMap keys_map → IsCoveredOnce keys_map file id → All (λ (entry : Pos × Value). HavePlaces entry.1) keys_map.extents → AreFreshWithin file id first last fresh → AreLookedAt keys_map file first last keys
    → TakesBlocks keys_map (with_updates updates keys_map) file id (λ block. is_some (given_by fresh block)) (given_by fresh)
taken_fresh id keys fresh number updates of_file are_updates keys_map file first last is apart fit are looked =
    subst (λ (u : List Update). TakesBlocks keys_map (with_updates u keys_map) file id (λ block. is_some (given_by fresh block)) (given_by fresh))
    (sym (are_updates ∙ (λ i. updates_of (fresh-file file id first fresh number are.fresh of_file i) id (cut_all id (map stretch_of fresh) keys ++ map change_of fresh))))
    (subst (λ (cut : ℕ → Bool). TakesBlocks keys_map (with_updates (updates_of file id (cut_all id (map stretch_of fresh) keys ++ map change_of fresh)) keys_map) file id cut (given_by fresh)) (λ i. λ block. same_cut block fresh i)
    (taken keys_map is file id first last keys looked apart (λ entry has. all-member (λ (entry : Pos × Value). HavePlaces entry.1) entry keys_map.extents fit has) (map stretch_of fresh)
    (rise_from 0 first (map stretch_of fresh) (omega arith) (fresh_rise file id first fresh are.fresh)) (fresh-window file id first last fresh are) (map change_of fresh) (given_by fresh) (fresh-given file id first fresh are.fresh)))

-- Nothing is taken over where nothing is cut out.
pub taken_nothing : (keys_map : KeyMap) (file id : ℕ) (give : ℕ → Option (Option Block)) → IsCoveredOnce keys_map file id → TakesBlocks keys_map keys_map file id (λ block. false) give
taken_nothing keys_map file id give apart = record {
  here = λ block. refl;
  once = apart;
  others = λ other block another differ. refl;
  btrees = λ btree differ. refl;
  only = changes_nothing keys_map id;
  files = λ another. record { inodes = λ number. refl; names = λ directory name. refl; blocks = λ other block differ. refl };
}

-- A promise that has a condition of its own.
pub ok_later : {T E A : Type 0} (P Q : T → Type 0) (result : Result T E) → (A → IfOk result P) → ((x : T) → (A → P x) → Q x) → IfOk result Q
ok_later P Q (Ok x) holds then_holds = then_holds x holds
ok_later P Q (Err e) holds then_holds = tt

-- What taking fresh keys over promises, by what it calls.
pub taken_call : {E : Type 0} (id : ℕ) (keys fresh looked : List Key) (stretches : List Stretch) (given : List Change) (number : ℕ) (result : Result (List Update) E)
    → option_map (λ (key : Key). key.pos.inode) (slice_get fresh 0) ≡ Some number → looked ≡ keys → stretches ≡ map stretch_of fresh → given ≡ map change_of fresh
    → (RiseFrom 0 stretches → IfOk result (λ updates. updates ≡ updates_of number id (cut_all id stretches looked ++ given)))
    → IfOk result (λ updates. (keys_map : KeyMap) (file first last : ℕ) → IsKeyMap keys_map → IsCoveredOnce keys_map file id → All (λ (entry : Pos × Value). HavePlaces entry.1) keys_map.extents → AreFreshWithin file id first last fresh
    → AreLookedAt keys_map file first last keys → TakesBlocks keys_map (with_updates updates keys_map) file id (λ block. is_some (given_by fresh block)) (given_by fresh))
taken_call id keys fresh looked stretches given number result of_file same_keys same_stretches same_given are = ok_later
    (λ (updates : List Update). updates ≡ updates_of number id (cut_all id stretches looked ++ given))
    (λ (updates : List Update). (keys_map : KeyMap) (file first last : ℕ) → IsKeyMap keys_map → IsCoveredOnce keys_map file id → All (λ (entry : Pos × Value). HavePlaces entry.1) keys_map.extents → AreFreshWithin file id first last fresh
    → AreLookedAt keys_map file first last keys → TakesBlocks keys_map (with_updates updates keys_map) file id (λ block. is_some (given_by fresh block)) (given_by fresh))
    result are
    (λ updates is keys_map file first last is_map apart fit fresh_are looked_at.
    taken_fresh id keys fresh number updates of_file
    (is (subst (RiseFrom 0) (sym same_stretches) (rise_from 0 first (map stretch_of fresh) (omega arith) (fresh_rise file id first fresh fresh_are.fresh))) ∙ (λ i. updates_of number id (cut_all id (same_stretches i) (same_keys i) ++ same_given i)))
    keys_map file first last is_map apart fit fresh_are looked_at)

-- No fresh key is none.
pub none_fresh : (fresh : List Key) → None ≡ option_map (λ (key : Key). key.pos.inode) (slice_get fresh 0) → (keys_map : KeyMap) (file id : ℕ) → IsCoveredOnce keys_map file id → TakesBlocks keys_map keys_map file id (λ block. is_some (given_by fresh block)) (given_by fresh)
none_fresh [] none keys_map file id apart = taken_nothing keys_map file id (given_by []) apart
none_fresh (key ∷ keys) none keys_map file id apart = absurd (none_some key.pos.inode none)
