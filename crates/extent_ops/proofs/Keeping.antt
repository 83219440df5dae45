-- An id that took blocks over leaves extents apart, and each key one of its btree.
use Rattle.std.proofs.Common.{◌≡◌, ℕ, ◌<◌, ◌^◌, Bool, true, false, cond, Option, Some, None, List, [], ◌∷◌, refl, sym, ap, ◌∙◌, subst}
use Rattle.std.specs.Prelude.{◌≢◌, ◌&&◌, ◌==◌, All, IfSome, IsSome, unwrap_or}
use Rattle.std.specs.Int.{IsInRange}
use Rattle.std.specs.BTreeMap.{insert_entry, is_at}
use Rattle.std.specs.Ordering.{is_eq, match_ordering, nat_cmp}
use Rattle.std.specs.declared.cmp.Ordering.{Ordering}
use Rattle.std.specs.declared.cmp.Ordering.TheVariants.{Less, Equal, Greater}
use Rattle.std.proofs.lemmas.Bool.{and_parts, eqb-true}
use Rattle.std.proofs.lemmas.List.Elements.{All-cons, All-head, All-tail, All-weaker}
use Rattle.snap_tree.specs.Snaps.{Snaps}
use Rattle.vol_types.specs.Btrees.{btree_code}
use Rattle.vol_types.specs.KeyMapLaws.{IsKeyMap-with_update, entries_of-with_update}
use Rattle.vol_types.specs.KeyMaps.{Entries, IsKeyMap, KeyMap, entries_of, is_update_of, with_update, with_updates}
use Rattle.vol_types.specs.Maps.{put_at, value_at, with_value, without}
use Rattle.vol_types.specs.PositionLaws.{pos_exact}
use Rattle.vol_types.specs.Positions.{pos_cmp}
use Rattle.vol_types.specs.Standing.{IsUpdate, MayStand, Stands}
use Rattle.vol_types.specs.Ranges.{IsKeyValue}
use Rattle.vol_types.specs.declared.keys.Update.{Update}
use Rattle.vol_types.specs.declared.positions.Btree.{Btree}
use Rattle.vol_types.specs.declared.positions.Btree.TheVariants.{Extents, Inodes, Dirents, Subvols, Snapshots, Alloc, Backptrs, Deleted, Counters}
use Rattle.vol_types.specs.declared.positions.Pos.{Pos}
use Rattle.vol_types.specs.declared.values.Link.{Link}
use Rattle.vol_types.specs.declared.values.Sub.{Sub}
use Rattle.vol_types.specs.declared.values.Value.{Value}
use Rattle.key_meaning.specs.Blocks.{Block}
use Rattle.key_meaning.specs.Checks.{AreExtentsApart, AreIdsThere, HasRoom, IsCoveredOnce}
use Rattle.key_meaning.specs.Forest.{counter_in, links_of, next_in, subs_of}
use Rattle.key_meaning.specs.TableLaws.{same_key}
use Rattle.key_meaning.specs.Tidy.{AreKeysDrawn, HasDrawn, IsCounterFrom, IsDrawn, IsKeyOf, id_counter}
use Rattle.key_meaning.specs.Visible.{own_value, snaps_of}
use Rattle.key_meaning.specs.VisibleLaws.{own_value-with_update}
use Rattle.extent_ops.specs.Content.{AreOfContent, IsNear, TakesBlocks}
use Rattle.extent_ops.proofs.Fitting.{all-of}
use Rattle.extent_ops.proofs.Fresh.{all-member}

-- What holds of what is put and of all entries before holds of all after it.
module _ (P : Pos × Value → Type 0) (pos : Pos) where
  all_without : (entries : Entries) → All P entries → All P (without pos_cmp pos entries)
  all_without [] all = all
  all_without (e ∷ es) all = by (is_at (pos_cmp pos) e.0) (all_without es (All-tail P e es all))
    where
      by : (b : Bool) → All P (without pos_cmp pos es) → All P (cond b es (e ∷ without pos_cmp pos es))
      by true later = All-tail P e es all
      by false later = All-cons P e (without pos_cmp pos es) (All-head P e es all) later

  all_with : (value : Value) (entries : Entries) → P (pos, value) → All P entries → All P (with_value pos_cmp pos value entries)
  all_with value [] put all = All-cons P (pos, value) [] put all
  all_with value (e ∷ es) put all = by (pos_cmp pos e.0) refl (all_with value es put (All-tail P e es all))
    where
      by : (r : Ordering) → pos_cmp pos e.0 ≡ r → All P (insert_entry pos_cmp es pos value) → All P (match_ordering r ((pos, value) ∷ e ∷ es) ((e.0, value) ∷ es) (e ∷ insert_entry pos_cmp es pos value))
      by Less is later = All-cons P (pos, value) (e ∷ es) put all
      by Equal is later = All-cons P (e.0, value) es (subst (λ (p : Pos). P (p, value)) (same_key pos_exact pos e.0 (ap is_eq is)) put) (All-tail P e es all)
      by Greater is later = All-cons P e (insert_entry pos_cmp es pos value) (All-head P e es all) later

  pub all_put : (value : Option Value) (entries : Entries) → IfSome value (λ v. P (pos, v)) → All P entries → All P (put_at pos_cmp pos value entries)
  all_put None entries put all = all_without entries all
  all_put (Some value) entries put all = all_with value entries put all

-- The update is of an extent or hole of the file in the id.
record IsOf (file id : ℕ) (update : Update) : Type 0 where
  btree : update.btree ≡ Extents
  level : update.level ≡ 0
  inode : update.pos.inode ≡ file
  snapshot : update.pos.snapshot ≡ id

is_of_extents : (file id : ℕ) (update : Update) → IsOf file id update → is_update_of Extents update ≡ true
is_of_extents file id update of = λ i. (of.level i == 0) && (btree_code (of.btree i) == btree_code Extents)

extents-put : (file id : ℕ) (update : Update) (keys : KeyMap) → IsOf file id update → (with_update update keys).extents ≡ put_at pos_cmp update.pos update.value keys.extents
extents-put file id update keys of = entries_of-with_update update keys Extents ∙ ap (λ b. cond b (put_at pos_cmp update.pos update.value keys.extents) keys.extents) (is_of_extents file id update of)

-- What holds of what each update puts and of all extents before holds of all after them.
all_after : (P : Pos × Value → Type 0) (file id : ℕ) (updates : List Update) (keys : KeyMap) → All (IsOf file id) updates → All (λ (update : Update). IfSome update.value (λ v. P (update.pos, v))) updates → All P keys.extents → All P (with_updates updates keys).extents
all_after P file id [] keys of put all = all
all_after P file id (update ∷ updates) keys of put all =
    all_after P file id updates (with_update update keys) (All-tail (IsOf file id) update updates of) (All-tail (λ (u : Update). IfSome u.value (λ v. P (u.pos, v))) update updates put)
    (subst (All P) (sym (extents-put file id update keys (All-head (IsOf file id) update updates of)))
    (all_put P update.pos update.value keys.extents (All-head (λ (u : Update). IfSome u.value (λ v. P (u.pos, v))) update updates put) all))

-- Other files and ids have the extents and holes of their own that they had.
own_value-elsewhere : (file id other another offset : ℕ) (updates : List Update) (keys : KeyMap) → IsKeyMap keys → All (IsOf file id) updates → (file == other && id == another) ≡ false
    → own_value (with_updates updates keys) Extents other offset another ≡ own_value keys Extents other offset another
own_value-elsewhere file id other another offset [] keys is of apart = refl
own_value-elsewhere file id other another offset (update ∷ updates) keys is of apart =
    own_value-elsewhere file id other another offset updates (with_update update keys) (IsKeyMap-with_update update keys is) (All-tail (IsOf file id) update updates of) apart
    ∙ here (All-head (IsOf file id) update updates of)
  where
    none : (a b c : Bool) → (a && c) ≡ false → ((a && b) && c) ≡ false
    none true true c is = is
    none true false c is = refl
    none false b c is = refl

    here : IsOf file id update → own_value (with_update update keys) Extents other offset another ≡ own_value keys Extents other offset another
    here of = own_value-with_update update keys is (λ i. (of.level i == 0) && (btree_code (of.btree i) == btree_code Snapshots)) Extents other offset another
        ∙ ap (λ b. cond b update.value (own_value keys Extents other offset another))
        ((λ i. (is_of_extents file id update of i && (of.inode i == other && update.pos.offset == offset)) && of.snapshot i == another) ∙ none (file == other) (update.pos.offset == offset) (id == another) apart)

-- What holds of each value holds of one that there may be.
if_some : (Q : Value → Type 0) (value : Option Value) → ((v : Value) → Q v) → IfSome value Q
if_some Q None each = tt
if_some Q (Some v) each = each v

module _ (old : KeyMap) (updates : List Update) (file id first last longest : ℕ) (cut : ℕ → Bool) (given : ℕ → Option (Option Block)) (is : IsKeyMap old) (takes : TakesBlocks old (with_updates updates old) file id cut given) (own : AreOfContent id updates) (near : All (IsNear file first last longest) updates) where
  abbrev new : KeyMap
  new = with_updates updates old

  of_each : All (IsOf file id) updates
  of_each = all-of (IsOf file id) updates (λ update has.
      let each = all-member (λ (u : Update). (u.btree ≡ Extents) × (u.level ≡ 0) × (u.pos.snapshot ≡ id)) update updates own.each has in
      let at = all-member (IsNear file first last longest) update updates near has in
      record { btree = each.0; level = each.1; inode = at.of_file; snapshot = each.2 })

  -- ids that are there still are
  ids_there : (entries before : Entries) → entries ≡ before → AreIdsThere old before → AreIdsThere new entries
  ids_there entries before same all = subst (λ (p : Snaps × Entries). All (λ (e : Pos × Value). IsSome (value_at nat_cmp e.0.snapshot p.0)) p.1) (λ i. (sym takes.only.snaps i, sym same i)) all

  -- The extents and holes of each file in each id don't overlap.
  pub stay_apart : AreExtentsApart old → IsSome (value_at nat_cmp id (snaps_of old)) → AreExtentsApart new
  stay_apart apart there = record {
    extents = subst (λ (s : Snaps). All (λ (e : Pos × Value). IsSome (value_at nat_cmp e.0.snapshot s)) new.extents) (sym takes.only.snaps)
        (all_after (λ (e : Pos × Value). IsSome (value_at nat_cmp e.0.snapshot (snaps_of old))) file id updates old of_each
        (all-of (λ (u : Update). IfSome u.value (λ v. IsSome (value_at nat_cmp u.pos.snapshot (snaps_of old)))) updates
        (λ update has. if_some (λ v. IsSome (value_at nat_cmp update.pos.snapshot (snaps_of old))) update.value (λ v. subst (λ (n : ℕ). IsSome (value_at nat_cmp n (snaps_of old))) (sym (all-member (IsOf file id) update updates of_each has).snapshot) there)))
        apart.extents);
    inodes = ids_there new.inodes old.inodes (takes.btrees Inodes (λ (same : Inodes ≡ Extents). cc)) apart.inodes;
    dirents = ids_there new.dirents old.dirents (takes.btrees Dirents (λ (same : Dirents ≡ Extents). cc)) apart.dirents;
    deleted = ids_there new.deleted old.deleted (takes.btrees Deleted (λ (same : Deleted ≡ Extents). cc)) apart.deleted;
    room = all_after HasRoom file id updates old of_each (all-of (λ (u : Update). IfSome u.value (λ v. HasRoom (u.pos, v))) updates (λ update has. (all-member (IsNear file first last longest) update updates near has).room)) apart.room;
    apart = λ other another. once other another (file == other && id == another) refl;
  }
    where
      once : (other another : ℕ) (b : Bool) → (file == other && id == another) ≡ b → IsCoveredOnce new other another
      once other another true both =
          let parts = and_parts (file == other) (id == another) both in
          subst (λ (n : ℕ). IsCoveredOnce new n another) (eqb-true file other parts.0) (subst (λ (n : ℕ). IsCoveredOnce new file n) (eqb-true id another parts.1) takes.once)
      once other another false elsewhere = record {
        once = λ block one_end other_end one second at at' over over'. (apart.apart other another).once block one_end other_end one second
            (sym (own_value-elsewhere file id other another one_end updates old is of_each elsewhere) ∙ at)
            (sym (own_value-elsewhere file id other another other_end updates old is of_each elsewhere) ∙ at') over over';
      }

  -- counters stand where they stood
  counter_same : (counter : ℕ) → counter_in new counter ≡ counter_in old counter
  counter_same counter = ap (λ (es : Entries). counter_in (record old { counters = es }) counter) (takes.btrees Counters (λ (same : Counters ≡ Extents). cc))

  next_same : (counter : ℕ) → next_in new counter ≡ next_in old counter
  next_same counter = ap (λ o. unwrap_or o 0) (counter_same counter)

  drawn_same : (number : ℕ) → IsDrawn old number → IsDrawn new number
  drawn_same number drawn = let same = subst (λ (es : Entries). IsDrawn (record old { counters = es }) number) (sym (takes.btrees Counters (λ (same : Counters ≡ Extents). cc))) drawn in record { client = same.client; count = same.count }

  has_drawn : (btree : Btree) (entry : Pos × Value) → HasDrawn old btree entry → HasDrawn new btree entry
  has_drawn Extents entry has = drawn_same entry.0.inode has
  has_drawn Inodes entry has = drawn_same entry.0.offset has
  has_drawn Dirents entry has = (drawn_same entry.0.inode has.0, All-weaker (λ (link : Link). IsDrawn old link.number) (λ (link : Link). IsDrawn new link.number) (λ link drawn. drawn_same link.number drawn) (links_of (Some entry.1)) has.1)
  has_drawn Subvols entry has = All-weaker (λ (sub : Sub). IsDrawn old sub.root) (λ (sub : Sub). IsDrawn new sub.root) (λ sub drawn. drawn_same sub.root drawn) (subs_of (Some entry.1)) has
  has_drawn Snapshots entry has = tt
  has_drawn Alloc entry has = tt
  has_drawn Backptrs entry has = λ extent at. drawn_same extent.inode (has extent at)
  has_drawn Deleted entry has = drawn_same entry.0.offset has
  has_drawn Counters entry has = tt

  key_same : (btree : Btree) (entry : Pos × Value) → IsKeyOf old btree entry → IsKeyOf new btree entry
  key_same btree entry key = record { stands = key.stands; in_range = key.in_range; place = key.place; id = key.id; numbers = has_drawn btree entry key.numbers }

  counter_from : (least most counter : ℕ) → IsCounterFrom old least most counter → IsCounterFrom new least most counter
  counter_from least most counter from = record { there = subst IsSome (sym (counter_same counter)) from.there; in_range = subst (λ (n : ℕ). IsInRange least most n) (sym (next_same counter)) from.in_range }

  -- Each key is one of its btree.
  pub stay_drawn : AreKeysDrawn old → IsDrawn old file → id < 2 ^ 32 → All IsUpdate updates → AreKeysDrawn new
  stay_drawn drawn of_file fits may = record {
    each = each;
    ids = subst (λ (p : ℕ × Entries). All (λ (e : Pos × Value). p.0 < e.0.offset) p.1) (λ i. (sym (next_same id_counter) i, sym (takes.btrees Snapshots (λ (same : Snapshots ≡ Extents). cc)) i)) drawn.ids;
    clients = λ client lt. counter_from _ _ client (drawn.clients client lt);
    id_counter_there = counter_from 0 4294967294 id_counter drawn.id_counter_there;
  }
    where
      put : (update : Update) → IsOf file id update → IsUpdate update → IfSome update.value (λ v. IsKeyOf new Extents (update.pos, v))
      put update of is = by update.value is.stands is.in_range
        where
          by : (value : Option Value) → Stands update.btree update.level value → IsKeyValue value → IfSome value (λ v. IsKeyOf new Extents (update.pos, v))
          by None stands range = tt
          by (Some v) stands range = record {
            stands = subst (λ (b : Btree). MayStand b 0 v) of.btree (subst (λ (n : ℕ). MayStand update.btree n v) of.level stands);
            in_range = range;
            place = tt;
            id = subst (λ (n : ℕ). n < 2 ^ 32) (sym of.snapshot) fits;
            numbers = drawn_same update.pos.inode (subst (IsDrawn old) (sym of.inode) of_file);
          }

      other : (btree : Btree) → btree ≢ Extents → All (IsKeyOf new btree) (entries_of new btree)
      other btree differ = subst (All (IsKeyOf new btree)) (sym (takes.btrees btree differ)) (All-weaker (IsKeyOf old btree) (IsKeyOf new btree) (key_same btree) (entries_of old btree) (drawn.each btree))

      each : (btree : Btree) → All (IsKeyOf new btree) (entries_of new btree)
      each Extents = all_after (IsKeyOf new Extents) file id updates old of_each
          (all-of (λ (u : Update). IfSome u.value (λ v. IsKeyOf new Extents (u.pos, v))) updates (λ update has. put update (all-member (IsOf file id) update updates of_each has) (all-member IsUpdate update updates may has)))
          (All-weaker (IsKeyOf old Extents) (IsKeyOf new Extents) (key_same Extents) old.extents (drawn.each Extents))
      each Inodes = other Inodes (λ (same : Inodes ≡ Extents). cc)
      each Dirents = other Dirents (λ (same : Dirents ≡ Extents). cc)
      each Subvols = other Subvols (λ (same : Subvols ≡ Extents). cc)
      each Snapshots = other Snapshots (λ (same : Snapshots ≡ Extents). cc)
      each Alloc = other Alloc (λ (same : Alloc ≡ Extents). cc)
      each Backptrs = other Backptrs (λ (same : Backptrs ≡ Extents). cc)
      each Deleted = other Deleted (λ (same : Deleted ≡ Extents). cc)
      each Counters = other Counters (λ (same : Counters ≡ Extents). cc)
