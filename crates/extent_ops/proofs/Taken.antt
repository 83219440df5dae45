-- After the changes that cut some stretches out and put what is given over them, an id has there what is given, and elsewhere what it had.
use Rattle.std.proofs.Common.{◌≡◌, ◌⊎◌, ⊎_elim, inl, inr, ℕ, ◌-◌, ◌<◌, ◌≤◌, Bool, true, false, cond, Option, Some, None, List, [], ◌∷◌, ◌++◌, refl, sym, ap, ◌∙◌, subst, arith}
use Rattle.std.specs.Prelude.{◌&&◌, ◌==◌, option_map}
use Rattle.std.specs.List.{filter}
use Rattle.std.specs.Ordering.{nat_cmp}
use Rattle.std.specs.List.Sorted.{IsStrictlySortedBy}
use Rattle.std.proofs.lemmas.Bool.{eq-eqb, eqb-true, true≢false}
use Rattle.std.proofs.lemmas.List.Sums.{fold-append}
use Rattle.std.proofs.lemmas.Option.{none-some as none_some, same_Some}
use Rattle.vol_types.specs.KeyMapLaws.{IsKeyMap-with_updates}
use Rattle.vol_types.specs.KeyMaps.{IsKeyMap, KeyMap, key_of, with_updates}
use Rattle.vol_types.specs.Maps.{IsMap, value_at, with_value}
use Rattle.vol_types.specs.PositionLaws.{pos_total}
use Rattle.vol_types.specs.Positions.{pos_cmp}
use Rattle.vol_types.specs.declared.keys.Key.{Key}
use Rattle.vol_types.specs.declared.positions.Btree.TheVariants.{Extents}
use Rattle.vol_types.specs.declared.positions.Pos.{Pos}
use Rattle.vol_types.specs.declared.values.Value.{Value}
use Rattle.key_meaning.specs.Blocks.{Block, blocks_of, covers, is_cover, own_cover, shown_of}
use Rattle.key_meaning.specs.Checks.{IsCoveredOnce}
use Rattle.key_meaning.specs.CoverLaws.{at_is_found, own_cover-found, own_cover-is, pos_of}
use Rattle.key_meaning.specs.Visible.{own_value}
use Rattle.extent_ops.specs.Content.{AreLookedAt, HavePlaces, TakesBlocks, own_block}
use Rattle.extent_ops.specs.Cutting.{collected, cut_all, cut_key, cut_value, updates_of}
use Rattle.extent_ops.specs.Stretches.{RiseFrom, is_within}
use Rattle.extent_ops.specs.declared.cutting.Change.{Change}
use Rattle.extent_ops.specs.declared.stretches.Stretch.{Stretch}
use Rattle.extent_ops.proofs.Cuts.{PutsOver, cut-covers_last, cut-ended, cut-last, cut-once, cut-same, cut-sound, cut-touched, cut-whole}
use Rattle.extent_ops.proofs.Keyed.{Look, at_member, changed, changes_blocks-after, changes_only-after, entries_of-after, filter-has, has-filter, IsMap-collected, kept, look, member_at, own_cover-after, own_value-after, settled}
use Rattle.extent_ops.proofs.Members.{Has, has-append, has-first, has-map, has-second, map-has}
use Rattle.extent_ops.proofs.Pieces.{covers-range, range-covers, shown_at_end, shown_by}

-- Some keys have the extent or hole of an id with this end.
pub record HasOwn (id : ℕ) (keys : List Key) (end : ℕ) (value : Value) : Type 0 where
  pub key : Key
  pub has : Has key keys
  pub id_is : key.pos.snapshot ≡ id
  pub end_is : key.pos.offset ≡ end
  pub is : key.value ≡ Some value

-- A change of all is one of some key's,
pub cut_all-has : (id : ℕ) (stretches : List Stretch) (keys : List Key) (change : Change) → Has change (cut_all id stretches keys)
    → (end : ℕ) × ((value : Value) × (HasOwn id keys end value × Has change (cut_value stretches end (Some value))))
cut_all-has id stretches [] change has = elim has [ ]
cut_all-has id stretches (key ∷ keys) change has = ⊎_elim
    (λ (here : Has change (cut_key id stretches key)). first (key.pos.snapshot == id) refl key.value refl here)
    (λ (later : Has change (cut_all id stretches keys)). let rest = cut_all-has id stretches keys change later in let own = rest.1.1.0 in
    (rest.0, (rest.1.0, (record { key = own.key; has = inr own.has; id_is = own.id_is; end_is = own.end_is; is = own.is }, rest.1.1.1))))
    (has-append change (cut_key id stretches key) (cut_all id stretches keys) has)
  where
    first : (b : Bool) → (key.pos.snapshot == id) ≡ b → (value : Option Value) → key.value ≡ value → Has change (cond b (cut_value stretches key.pos.offset value) [])
        → (end : ℕ) × ((value : Value) × (HasOwn id (key ∷ keys) end value × Has change (cut_value stretches end (Some value))))
    first false same value is has = elim has [ ]
    first true same None is has = elim has [ ]
    first true same (Some value) is has = (key.pos.offset, (value, (record { key = key; has = inl refl; id_is = eqb-true key.pos.snapshot id same; end_is = refl; is = is }, has)))

-- and each key of the id has its changes among all.
pub has-cut_all : (id : ℕ) (stretches : List Stretch) (keys : List Key) (end : ℕ) (value : Value) (change : Change) → HasOwn id keys end value → Has change (cut_value stretches end (Some value)) → Has change (cut_all id stretches keys)
has-cut_all id stretches keys end value change own has = over keys own.has
  where
    here : Has change (cut_key id stretches own.key)
    here = subst (λ (b : Bool). Has change (cond b (cut_value stretches own.key.pos.offset own.key.value) [])) (sym (eq-eqb own.key.pos.snapshot id own.id_is))
        (subst (λ (v : Option Value). Has change (cut_value stretches own.key.pos.offset v)) (sym own.is) (subst (λ (e : ℕ). Has change (cut_value stretches e (Some value))) (sym own.end_is) has))

    over : (keys : List Key) → Has own.key keys → Has change (cut_all id stretches keys)
    over [] none = elim none [ ]
    over (key ∷ keys) (inl same) = has-first change (cut_key id stretches key) (cut_all id stretches keys) (subst (λ (k : Key). Has change (cut_key id stretches k)) same here)
    over (key ∷ keys) (inr later) = has-second change (cut_key id stretches key) (cut_all id stretches keys) (over keys later)

-- Keys that were looked at are those of the map.
pub looked_at : (map : KeyMap) (file first last id : ℕ) (keys : List Key) (end : ℕ) (value : Value) → IsKeyMap map → AreLookedAt map file first last keys → HasOwn id keys end value → (own_value map Extents file end id ≡ Some value) × Has (pos_of file end id, value) map.extents
looked_at keys_map file first last id keys end value is looked own =
    let from = has-map key_of own.key (filter looked.looked_at keys_map.extents) (subst (Has own.key) looked.are own.has) in
    let member = filter-has looked.looked_at from.0 keys_map.extents from.1.0 in
    let pos : own.key.pos ≡ from.0.0 = ap (λ (k : Key). k.pos) from.1.1 in
    let at : from.0.0 ≡ pos_of file end id = λ i. record { inode = looked.of_file from.0 member.1 i; offset = (sym (ap (λ (p : Pos). p.offset) pos) ∙ own.end_is) i; snapshot = (sym (ap (λ (p : Pos). p.snapshot) pos) ∙ own.id_is) i } in
    let held : from.0.1 ≡ value = same_Some from.0.1 value (sym (ap (λ (k : Key). k.value) from.1.1) ∙ own.is) in
    let there = member_at pos_cmp pos_total from.0 keys_map.extents (is.rises Extents) member.0 in
    ((λ i. value_at pos_cmp (sym at i) keys_map.extents) ∙ there ∙ ap Some held, subst (λ (e : Pos × Value). Has e keys_map.extents) (λ i. (at i, held i)) member.0)

-- A key of the map that covers one of the blocks is among them.
pub own_looked : (map : KeyMap) (file first last id : ℕ) (keys : List Key) (end : ℕ) (value : Value) (block : ℕ) → AreLookedAt map file first last keys → own_value map Extents file end id ≡ Some value → covers end value block ≡ true → first ≤ block → block ≤ last → HasOwn id keys end value
own_looked keys_map file first last id keys end value block looked at over low high =
    let member = at_member (pos_of file end id) value keys_map.extents at in
    record {
      key = record { pos = pos_of file end id; value = Some value };
      has = subst (Has (record { pos = pos_of file end id; value = Some value })) (sym looked.are) (map-has key_of (pos_of file end id, value) (filter looked.looked_at keys_map.extents) (has-filter looked.looked_at (pos_of file end id, value) keys_map.extents member (looked.whole (pos_of file end id, value) block at refl low high over)));
      id_is = refl;
      end_is = refl;
      is = refl;
    }

-- Changes put values over blocks that are cut out, each block once, and give them what is given.
pub record AreGiven (stretches : List Stretch) (changes : List Change) (give : ℕ → Option (Option Block)) : Type 0 where
  pub inside : (change : Change) (block : ℕ) → Has change changes → PutsOver block change → is_within stretches block ≡ true
  pub last : (change : Change) → Has change changes → PutsOver (change.end - 1) change × (0 < change.end)
  pub once : (one other : Change) (block : ℕ) → Has one changes → Has other changes → PutsOver block one → PutsOver block other → one ≡ other
  pub gives : (change : Change) (block : ℕ) → Has change changes → (over : PutsOver block change) → give block ≡ Some (shown_by block change.end over.value)
  pub given : (block : ℕ) → is_within stretches block ≡ true → (give block ≡ None) ⊎ ((change : Change) × (Has change changes × PutsOver block change))

module _ (map : KeyMap) (is : IsKeyMap map) (file id first last : ℕ) (keys : List Key) (looked : AreLookedAt map file first last keys) (apart : IsCoveredOnce map file id)
    (fit : (entry : Pos × Value) → Has entry map.extents → HavePlaces entry.1) (stretches : List Stretch) (rise : RiseFrom 0 stretches) (window : (block : ℕ) → is_within stretches block ≡ true → (first ≤ block) × (block ≤ last))
    (changes : List Change) (give : ℕ → Option (Option Block)) (are : AreGiven stretches changes give) where
  -- all changes, by their ends
  abbrev entries : List (ℕ × Option Value)
  entries = collected [] (cut_all id stretches keys ++ changes)

  abbrev after : KeyMap
  after = with_updates (updates_of file id (cut_all id stretches keys ++ changes)) map

  rises : IsMap nat_cmp entries
  unfolding IsStrictlySortedBy
  rises = IsMap-collected (cut_all id stretches keys ++ changes) [] tt

  after_is : IsKeyMap after
  after_is = IsKeyMap-with_updates (updates_of file id (cut_all id stretches keys ++ changes)) map is

  -- What stands at an end afterwards: what is given, or a cut, or what stood there, where neither ends there.
  data Found (end : ℕ) : Type 0 where
    put : (change : Change) → Has change changes → change.end ≡ end → own_value after Extents file end id ≡ change.value → Found end
    cut : (change : Change) → Has change (cut_all id stretches keys) → change.end ≡ end → own_value after Extents file end id ≡ change.value
        → ((other : Change) → Has other changes → other.end ≡ end → ⊥) → Found end
    stays : own_value after Extents file end id ≡ own_value map Extents file end id → ((other : Change) → Has other changes → other.end ≡ end → ⊥)
        → ((other : Change) → Has other (cut_all id stretches keys) → other.end ≡ end → ⊥) → Found end

  found_at : (end : ℕ) → Found end
  found_at end = later (look end changes (collected [] (cut_all id stretches keys)))
    where
      own : (o : Option (Option Value)) → value_at nat_cmp end (collected (collected [] (cut_all id stretches keys)) changes) ≡ o → own_value after Extents file end id ≡ settled o (own_value map Extents file end id)
      own o at = own_value-after file id entries map end rises is
          ∙ ap (λ (es : List (ℕ × Option Value)). settled (value_at nat_cmp end es) (own_value map Extents file end id)) (fold-append (λ (es : List (ℕ × Option Value)) (c : Change). with_value nat_cmp c.end c.value es) [] (cut_all id stretches keys) changes)
          ∙ ap (λ x. settled x (own_value map Extents file end id)) at

      earlier : ((other : Change) → Has other changes → other.end ≡ end → ⊥) → value_at nat_cmp end (collected (collected [] (cut_all id stretches keys)) changes) ≡ value_at nat_cmp end (collected [] (cut_all id stretches keys))
          → Look end (cut_all id stretches keys) None (value_at nat_cmp end (collected [] (cut_all id stretches keys))) → Found end
      earlier none same (changed change has at now) = cut change has at (own (Some change.value) (same ∙ now)) none
      earlier none same (kept no_cut now) = stays (own None (same ∙ now)) none no_cut

      later : Look end changes (value_at nat_cmp end (collected [] (cut_all id stretches keys))) (value_at nat_cmp end (collected (collected [] (cut_all id stretches keys)) changes)) → Found end
      later (changed change has at now) = put change has at (own (Some change.value) now)
      later (kept none same) = earlier none same (look end (cut_all id stretches keys) [])

  -- what a block is to be
  abbrev target : ℕ → Option (Option Block)
  target block = cond (is_within stretches block) (give block) (own_block map file block id)

  -- what the id had of a block that a key of its own covers
  had : (end : ℕ) (value : Value) (block : ℕ) → own_value map Extents file end id ≡ Some value → covers end value block ≡ true → own_block map file block id ≡ Some (shown_by block end value)
  had end value block at over = ap (option_map (shown_of block)) (own_cover-is map file block id end value is apart at over) ∙ ap Some (shown_at_end block (pos_of file end id) value)

  -- keys of the id that cover one block are one
  one_key : (one other : ℕ) (value another : Value) (block : ℕ) → own_value map Extents file one id ≡ Some value → own_value map Extents file other id ≡ Some another → covers one value block ≡ true → covers other another block ≡ true → (one ≡ other) × (value ≡ another)
  one_key one other value another block at at' over over' = let same = apart.once block one other value another at at' over over' in
      (same, same_Some value another (sym at ∙ ap (λ e. own_value map Extents file e id) same ∙ at'))

  -- a cut, with its key
  record Cut (change : Change) : Type 0 where
    end : ℕ
    value : Value
    own : HasOwn id keys end value
    at : own_value map Extents file end id ≡ Some value
    fits : HavePlaces value
    has : Has change (cut_value stretches end (Some value))

  cut_of : (change : Change) → Has change (cut_all id stretches keys) → Cut change
  cut_of change has = let from = cut_all-has id stretches keys change has in let there = looked_at map file first last id keys from.0 from.1.0 is looked from.1.1.0 in
      record { end = from.0; value = from.1.0; own = from.1.1.0; at = there.0; fits = fit (pos_of file from.0 id, from.1.0) there.1; has = from.1.1.1 }

  -- a key of which a block is cut out gets a change at its end
  touched : (end : ℕ) (value : Value) (block : ℕ) → own_value map Extents file end id ≡ Some value → covers end value block ≡ true → is_within stretches block ≡ true
      → (change : Change) × (Has change (cut_all id stretches keys) × (change.end ≡ end))
  touched end value block at over within =
      let own = own_looked map file first last id keys end value block looked at over (window block within).0 (window block within).1 in
      let change = cut-touched stretches 0 rise end value block over within in
      (change.0, (has-cut_all id stretches keys end value change.0 own change.1.0, change.1.1))

  not_within : (block : ℕ) → (is_within stretches block ≡ true → ⊥) → is_within stretches block ≡ false
  not_within block isnt = by (is_within stretches block) refl
    where
      by : (b : Bool) → is_within stretches block ≡ b → b ≡ false
      by true same = absurd (isnt same)
      by false same = refl

  -- What covers a block afterwards shows what it is to be.
  shows : (end : ℕ) (value : Value) (block : ℕ) → own_value after Extents file end id ≡ Some value → covers end value block ≡ true → target block ≡ Some (shown_by block end value)
  shows end value block at over = by (found_at end)
    where
      by : Found end → target block ≡ Some (shown_by block end value)
      by (put change has ends now) =
          let over_it : PutsOver block change = record { value = value; is = sym now ∙ at; over = (λ i. covers (ends i) value block) ∙ over } in
          ap (λ b. cond b (give block) (own_block map file block id)) (are.inside change block has over_it) ∙ are.gives change block has over_it ∙ (λ i. Some (shown_by block (ends i) value))
      by (cut change has ends now none) =
          let c = cut_of change has in
          let sound = cut-sound stretches 0 rise c.end c.value change value block c.fits c.has (sym now ∙ at) ((λ i. covers (ends i) value block) ∙ over) in
          ap (λ b. cond b (give block) (own_block map file block id)) sound.1 ∙ had c.end c.value block c.at sound.0 ∙ ap Some (sym sound.2) ∙ (λ i. Some (shown_by block (ends i) value))
      by (stays now none no_cut) =
          let was : own_value map Extents file end id ≡ Some value = sym now ∙ at in
          let free = not_within block (λ within. let change = touched end value block was over within in no_cut change.0 change.1.0 change.1.1) in
          ap (λ b. cond b (give block) (own_block map file block id)) free ∙ had end value block was over

  -- a block is covered afterwards
  abbrev IsCovered : ℕ → Type 0
  IsCovered block = (end : ℕ) × ((value : Value) × ((own_value after Extents file end id ≡ Some value) × (covers end value block ≡ true)))

  -- what is given stands
  given_stands : (change : Change) (block : ℕ) → Has change changes → PutsOver block change → own_value after Extents file change.end id ≡ change.value
  given_stands change block has over = by (found_at change.end)
    where
      by : Found change.end → own_value after Extents file change.end id ≡ change.value
      by (put other has' ends now) =
          let mine = (are.last change has).0 in let theirs = (are.last other has').0 in
          let same = are.once change other (change.end - 1) has has' mine (record { value = theirs.value; is = theirs.is; over = (λ i. covers other.end theirs.value (sym ends i - 1)) ∙ theirs.over }) in
          now ∙ ap (λ (c : Change). c.value) (sym same)
      by (cut other has' ends now none) = absurd (none change has refl)
      by (stays now none no_cut) = absurd (none change has refl)

  -- a cut that puts something stands
  cut_stands : (change : Change) (c : Cut change) (block : ℕ) → PutsOver block change → own_value after Extents file change.end id ≡ change.value
  cut_stands change c block over = by (found_at change.end)
    where
      whole : (covers c.end c.value (change.end - 1) ≡ true) × (0 < change.end)
      whole = cut-last stretches 0 rise c.end c.value change c.has

      free : (covers c.end c.value (change.end - 1) ≡ true) × (is_within stretches (change.end - 1) ≡ false) × (shown_by (change.end - 1) change.end over.value ≡ shown_by (change.end - 1) c.end c.value)
      free = cut-sound stretches 0 rise c.end c.value change over.value (change.end - 1) c.fits c.has over.is (cut-covers_last stretches 0 rise c.end c.value change over.value c.has over.is)

      by : Found change.end → own_value after Extents file change.end id ≡ change.value
      by (put other has' ends now) = let theirs = (are.last other has').0 in
          absurd (true≢false (sym (are.inside other (change.end - 1) has' (record { value = theirs.value; is = theirs.is; over = (λ i. covers other.end theirs.value (sym ends i - 1)) ∙ theirs.over })) ∙ free.1))
      by (cut other has' ends now none) =
          let d = cut_of other has' in
          let last' = cut-last stretches 0 rise d.end d.value other d.has in
          let key = one_key d.end c.end d.value c.value (change.end - 1) d.at c.at ((λ i. covers d.end d.value (sym ends i - 1)) ∙ last'.0) whole.0 in
          now ∙ ap (λ (x : Change). x.value) (cut-same stretches 0 rise c.end c.value other change (subst (λ (k : ℕ × Value). Has other (cut_value stretches k.0 (Some k.1))) (λ i. (key.0 i, key.1 i)) d.has) c.has ends)
      by (stays now none no_cut) = absurd (no_cut change (has-cut_all id stretches keys c.end c.value change c.own c.has) refl)

  -- Where a block of a key isn't cut out, it is covered.
  stays_covered : (end : ℕ) (value : Value) (block : ℕ) → own_value map Extents file end id ≡ Some value → covers end value block ≡ true → is_within stretches block ≡ false → IsCovered block
  stays_covered end value block at over free = by (found_at end)
    where
      range : (end - blocks_of value ≤ block) × (block < end) × (0 < blocks_of value)
      range = covers-range end value block over

      last_block : covers end value (end - 1) ≡ true
      last_block = range-covers end value (end - 1) (omega (arith, range.0, range.1)) (omega (arith, range.1))

      part : HasOwn id keys end value → (change : Change) → Has change (cut_value stretches end (Some value)) → IsCovered block
      part own change has = ⊎_elim
          (λ (nothing : cut_value stretches end (Some value) ≡ []). absurd (subst (Has change) nothing has))
          (λ (left : (change : Change) × (Has change (cut_value stretches end (Some value)) × PutsOver block change)).
          let there = looked_at map file first last id keys end value is looked own in
          (left.0.end, (left.1.1.value, (cut_stands left.0 (record { end = end; value = value; own = own; at = at; fits = fit (pos_of file end id, value) there.1; has = left.1.0 }) block left.1.1 ∙ left.1.1.is, left.1.1.over))))
          (cut-whole stretches 0 rise end value block over free)

      by : Found end → IsCovered block
      by (put change has ends now) =
          let puts = (are.last change has).0 in
          let within = are.inside change (end - 1) has (record { value = puts.value; is = puts.is; over = (λ i. covers change.end puts.value (sym ends i - 1)) ∙ puts.over }) in
          let own = own_looked map file first last id keys end value (end - 1) looked at last_block (window (end - 1) within).0 (window (end - 1) within).1 in
          let change' = cut-touched stretches 0 rise end value (end - 1) last_block within in
          part own change'.0 change'.1.0
      by (cut change has ends now none) =
          let d = cut_of change has in
          let last' = cut-last stretches 0 rise d.end d.value change d.has in
          let key = one_key d.end end d.value value (end - 1) d.at at ((λ i. covers d.end d.value (sym ends i - 1)) ∙ last'.0) last_block in
          part (subst (λ (k : ℕ × Value). HasOwn id keys k.0 k.1) (λ i. (key.0 i, key.1 i)) d.own) change (subst (λ (k : ℕ × Value). Has change (cut_value stretches k.0 (Some k.1))) (λ i. (key.0 i, key.1 i)) d.has)
      by (stays now none no_cut) = (end, (value, (now ∙ at, over)))

  -- Each block that is to belong to something is covered.
  covered : (block : ℕ) (x : Option Block) → target block ≡ Some x → IsCovered block
  covered block x is_x = by (is_within stretches block) refl is_x
    where
      had_some : (o : Option (Pos × Value)) → own_cover map file block id ≡ o → option_map (shown_of block) o ≡ Some x → is_within stretches block ≡ false → IsCovered block
      had_some None none some free = absurd (none_some x some)
      had_some (Some entry) found some free = let has = own_cover-found map file block id entry is found in stays_covered entry.0.offset entry.1 block has.1 has.2 free

      by : (b : Bool) → is_within stretches block ≡ b → cond b (give block) (own_block map file block id) ≡ Some x → IsCovered block
      by true within some = ⊎_elim
          (λ (none : give block ≡ None). absurd (none_some x (sym none ∙ some)))
          (λ (g : (change : Change) × (Has change changes × PutsOver block change)). (g.0.end, (g.1.1.value, (given_stands g.0 block g.1.0 g.1.1 ∙ g.1.1.is, g.1.1.over))))
          (are.given block within)
      by false free some = had_some (own_cover map file block id) refl some free

  -- So each block is what it is to be,
  here : (block : ℕ) → own_block after file block id ≡ target block
  here block = by (own_cover after file block id) refl (target block) refl
    where
      by : (o : Option (Pos × Value)) → own_cover after file block id ≡ o → (t : Option (Option Block)) → target block ≡ t → option_map (shown_of block) o ≡ target block
      by (Some entry) found t is_t = let has = own_cover-found after file block id entry after_is found in
          ap Some (shown_at_end block entry.0 entry.1) ∙ sym (shows entry.0.offset entry.1 block has.1 has.2)
      by None none None is_t = sym is_t
      by None none (Some x) is_t = let c = covered block x is_t in
          absurd (at_is_found (is_cover id file block) (pos_of file c.0 id) c.1.0 after.extents c.1.1.0 ((λ i. eq-eqb file file refl i && eq-eqb id id refl i && c.1.1.1 i)) none)

  -- and no two cover one block.
  once_after : IsCoveredOnce after file id
  once_after = record { once = λ block first second one other at at' over over'. by block first second one other at at' over over' (found_at first) (found_at second) }
    where
      given_cut : (block end other_end : ℕ) (value : Value) (change other : Change) → Has change changes → PutsOver block change → Has other (cut_all id stretches keys) → other.end ≡ other_end → other.value ≡ Some value → covers other_end value block ≡ true → ⊥
      given_cut block end other_end value change other has over has' ends held over' =
          let d = cut_of other has' in
          true≢false (sym (are.inside change block has over) ∙ (cut-sound stretches 0 rise d.end d.value other value block d.fits d.has held ((λ i. covers (ends i) value block) ∙ over')).1)

      given_kept : (block other_end : ℕ) (value : Value) (change : Change) → Has change changes → PutsOver block change → own_value map Extents file other_end id ≡ Some value → covers other_end value block ≡ true
          → ((other : Change) → Has other (cut_all id stretches keys) → other.end ≡ other_end → ⊥) → ⊥
      given_kept block other_end value change has over at over' no_cut = let t = touched other_end value block at over' (are.inside change block has over) in no_cut t.0 t.1.0 t.1.1

      cut_kept : (block end other_end : ℕ) (value another : Value) (change : Change) → Has change (cut_all id stretches keys) → change.end ≡ end → change.value ≡ Some value → covers end value block ≡ true → own_value map Extents file other_end id ≡ Some another → covers other_end another block ≡ true
          → ((other : Change) → Has other (cut_all id stretches keys) → other.end ≡ other_end → ⊥) → ⊥
      cut_kept block end other_end value another change has ends held over at over' no_cut =
          let d = cut_of change has in
          let sound = cut-sound stretches 0 rise d.end d.value change value block d.fits d.has held ((λ i. covers (ends i) value block) ∙ over) in
          let key = one_key d.end other_end d.value another block d.at at sound.0 over' in
          let e = cut-ended stretches 0 rise d.end d.value change d.has in
          no_cut e.0 (has-cut_all id stretches keys d.end d.value e.0 d.own e.1.0) (e.1.1 ∙ key.0)

      over_it : (block end : ℕ) (value : Value) (change : Change) → change.end ≡ end → change.value ≡ Some value → covers end value block ≡ true → PutsOver block change
      over_it block end value change ends held over = record { value = value; is = held; over = (λ i. covers (ends i) value block) ∙ over }

      by : (block first second : ℕ) (one other : Value) → own_value after Extents file first id ≡ Some one → own_value after Extents file second id ≡ Some other → covers first one block ≡ true → covers second other block ≡ true → Found first → Found second → first ≡ second
      by block first second one other at at' over over' (put change has ends now) (put change' has' ends' now') =
          sym ends ∙ ap (λ (c : Change). c.end) (are.once change change' block has has' (over_it block first one change ends (sym now ∙ at) over) (over_it block second other change' ends' (sym now' ∙ at') over')) ∙ ends'
      by block first second one other at at' over over' (put change has ends now) (cut change' has' ends' now' none) = absurd (given_cut block first second other change change' has (over_it block first one change ends (sym now ∙ at) over) has' ends' (sym now' ∙ at') over')
      by block first second one other at at' over over' (put change has ends now) (stays now' none no_cut) = absurd (given_kept block second other change has (over_it block first one change ends (sym now ∙ at) over) (sym now' ∙ at') over' no_cut)
      by block first second one other at at' over over' (cut change has ends now none) (put change' has' ends' now') = absurd (given_cut block second first one change' change has' (over_it block second other change' ends' (sym now' ∙ at') over') has ends (sym now ∙ at) over)
      by block first second one other at at' over over' (cut change has ends now none) (cut change' has' ends' now' none') =
          let d = cut_of change has in let d' = cut_of change' has' in
          let mine = over_it block first one change ends (sym now ∙ at) over in let theirs = over_it block second other change' ends' (sym now' ∙ at') over' in
          let sound = cut-sound stretches 0 rise d.end d.value change one block d.fits d.has mine.is mine.over in
          let sound' = cut-sound stretches 0 rise d'.end d'.value change' other block d'.fits d'.has theirs.is theirs.over in
          let key = one_key d'.end d.end d'.value d.value block d'.at d.at sound'.0 sound.0 in
          sym ends ∙ ap (λ (c : Change). c.end) (cut-once stretches 0 rise d.end d.value change change' block d.has (subst (λ (k : ℕ × Value). Has change' (cut_value stretches k.0 (Some k.1))) (λ i. (key.0 i, key.1 i)) d'.has) mine theirs) ∙ ends'
      by block first second one other at at' over over' (cut change has ends now none) (stays now' none' no_cut) = absurd (cut_kept block first second one other change has ends (sym now ∙ at) over (sym now' ∙ at') over' no_cut)
      by block first second one other at at' over over' (stays now none no_cut) (put change' has' ends' now') = absurd (given_kept block first one change' has' (over_it block second other change' ends' (sym now' ∙ at') over') (sym now ∙ at) over no_cut)
      by block first second one other at at' over over' (stays now none no_cut) (cut change' has' ends' now' none') = absurd (cut_kept block second first other one change' has' ends' (sym now' ∙ at') over' (sym now ∙ at) over no_cut)
      by block first second one other at at' over over' (stays now none no_cut) (stays now' none' no_cut') = apart.once block first second one other (sym now ∙ at) (sym now' ∙ at') over over'

  -- The id takes the blocks over.
  pub taken : TakesBlocks map after file id (is_within stretches) give
  taken = record {
    here = here;
    once = once_after;
    others = own_cover-after file id entries map is;
    btrees = entries_of-after file id entries map;
    only = changes_only-after file id entries map is;
    files = changes_blocks-after file id entries map is;
  }
