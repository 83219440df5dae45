-- A directory has no names by its entries where none shows under any slot, and where the forest has none.
use Rattle.std.proofs.Common.{◌≡◌, ℕ, ◌<◌, ◌^◌, Bool, true, false, cond, Option, Some, None, List, [], ◌∷◌, refl, sym, ap, ◌∙◌, arith, length}
use Rattle.std.specs.Prelude.{◌==◌, ◌&&◌, ◌||◌, ◌↔◌, nat_lt, not}
use Rattle.std.specs.BTreeMap.{is_at}
use Rattle.std.specs.List.{list_any}
use Rattle.std.specs.Option.{option_or}
use Rattle.std.proofs.lemmas.Bool.{eq-eqb, lt-ltb, ltb-true, ne_eqb, true≢false}
use Rattle.std.proofs.lemmas.Option.{none-some as none_some}
use Rattle.dirent_keys.specs.Slots.{IsBare}
use Rattle.key_meaning.specs.Forest.{links_in, links_of, names_in}
use Rattle.key_meaning.specs.TableLaws.{same_key}
use Rattle.key_meaning.specs.Visible.{first_value, own_value, shown, snaps_of}
use Rattle.name_plan.specs.Gone.{has_names, shows_names}
use Rattle.plain_forest.specs.Forest.{Names}
use Rattle.snap_tree.specs.Snaps.{chain_of}
use Rattle.vol_types.specs.KeyMaps.{Entries, KeyMap}
use Rattle.vol_types.specs.Maps.{value_at}
use Rattle.vol_types.specs.PositionLaws.{pos_exact}
use Rattle.vol_types.specs.Positions.{pos_cmp}
use Rattle.vol_types.specs.declared.positions.Btree.TheVariants.{Dirents}
use Rattle.vol_types.specs.declared.positions.Pos.{Pos}
use Rattle.vol_types.specs.declared.values.Link.{Link}
use Rattle.vol_types.specs.declared.values.Value.{Value}

-- what passes at a position passes among entries that have one there
passes_at : (test : Pos → Bool) (pos : Pos) (value : Value) (entries : Entries) → value_at pos_cmp pos entries ≡ Some value → test pos ≡ true → list_any (λ (entry : Pos × Value). test entry.0) entries ≡ true
passes_at test pos value [] found passes = absurd (none_some value found)
passes_at test pos value (e ∷ es) found passes = by (is_at (pos_cmp pos) e.0) refl found (λ later. passes_at test pos value es later passes)
  where
    or_true : (b : Bool) → (b || true) ≡ true
    or_true true = refl
    or_true false = refl

    by : (b : Bool) → is_at (pos_cmp pos) e.0 ≡ b → cond b (Some e.1) (value_at pos_cmp pos es) ≡ Some value → (value_at pos_cmp pos es ≡ Some value → list_any (λ (entry : Pos × Value). test entry.0) es ≡ true)
        → (test e.0 || list_any (λ (entry : Pos × Value). test entry.0) es) ≡ true
    by true at here later = ap (λ b. b || list_any (λ (entry : Pos × Value). test entry.0) es) (ap test (sym (same_key pos_exact pos e.0 at)) ∙ passes)
    by false at here later = ap (λ b. test e.0 || b) (later here) ∙ or_true (test e.0)

module _ (keys : KeyMap) (id directory : ℕ) where
  -- whether names show at a position
  abbrev test : Pos → Bool
  test pos = pos.inode == directory && nat_lt pos.offset (2 ^ 64) && not (length (links_in keys id directory pos.offset) == 0)

  -- what some ids have first, an entry has
  first_passes : (slot : ℕ) (value : Value) (ids : List ℕ) → first_value keys Dirents directory slot ids ≡ Some value → ((owner : ℕ) → test (record { inode = directory; offset = slot; snapshot = owner }) ≡ true) → has_names keys id directory ≡ true
  first_passes slot value [] found passes = absurd (none_some value found)
  first_passes slot value (owner ∷ ids) found passes = by (own_value keys Dirents directory slot owner) refl found (λ later. first_passes slot value ids later passes)
    where
      by : (own : Option Value) → own_value keys Dirents directory slot owner ≡ own → option_or own (first_value keys Dirents directory slot ids) ≡ Some value → (first_value keys Dirents directory slot ids ≡ Some value → has_names keys id directory ≡ true) → has_names keys id directory ≡ true
      by None is here later = later here
      by (Some x) is here later = passes_at test (record { inode = directory; offset = slot; snapshot = owner }) x keys.dirents is (passes owner)

  -- Names that show under a slot stand in an entry,
  shown_passes : (slot : ℕ) (link : Link) (links : List Link) → slot < 2 ^ 64 → links_in keys id directory slot ≡ link ∷ links → has_names keys id directory ≡ true
  shown_passes slot link links small shows = by (first_value keys Dirents directory slot (chain_of (snaps_of keys) id)) refl shows
    where
      here : (a b c : Bool) → a ≡ true → b ≡ true → c ≡ false → (a && b && not c) ≡ true
      here true true false a_is b_is c_is = refl
      here true true true a_is b_is c_is = absurd (true≢false c_is)
      here true false c a_is b_is c_is = absurd (true≢false (sym b_is))
      here false b c a_is b_is c_is = absurd (true≢false (sym a_is))

      by : (first : Option Value) → first_value keys Dirents directory slot (chain_of (snaps_of keys) id) ≡ first → links_of (shown first) ≡ link ∷ links → has_names keys id directory ≡ true
      by None is some = absurd (omega (arith, ap (λ (ls : List Link). length ls) some))
      by (Some value) is some = first_passes slot value (chain_of (snaps_of keys) id) is (λ owner.
          here (directory == directory) (nat_lt slot (2 ^ 64)) (length (links_in keys id directory slot) == 0) (eq-eqb directory directory refl) (lt-ltb slot (2 ^ 64) small)
          (ap (λ (ls : List Link). length ls == 0) shows ∙ ne_eqb (length (link ∷ links)) 0 (λ same. omega (arith, same))))

  -- so that where no entry has names none show,
  none_is_bare : has_names keys id directory ≡ false → IsBare keys id directory
  none_is_bare none slot small = by (links_in keys id directory slot) refl
    where
      by : (links : List Link) → links_in keys id directory slot ≡ links → links_in keys id directory slot ≡ []
      by [] shows = shows
      by (link ∷ links) shows = absurd (true≢false (sym (shown_passes slot link links small shows) ∙ none))

  -- and where none show no entry has names.
  bare_is_none : IsBare keys id directory → has_names keys id directory ≡ false
  bare_is_none bare = over keys.dirents
    where
      at : (a b c : Bool) → (b ≡ true → c ≡ true) → (a && b && not c) ≡ false
      at false b c empty = refl
      at true false c empty = refl
      at true true true empty = refl
      at true true false empty = absurd (true≢false (sym (empty refl)))

      here : (entry : Pos × Value) → shows_names keys id directory entry ≡ false
      here entry = at (entry.0.inode == directory) (nat_lt entry.0.offset (2 ^ 64)) (length (links_in keys id directory entry.0.offset) == 0)
          (λ small. ap (λ (ls : List Link). length ls == 0) (bare entry.0.offset (ltb-true entry.0.offset (2 ^ 64) small)) ∙ eq-eqb 0 0 refl)

      over : (entries : Entries) → list_any (shows_names keys id directory) entries ≡ false
      over [] = refl
      over (entry ∷ entries) = λ i. here entry i || over entries i

  -- A test whether a directory is bare is one whether it has names,
  pub bare_is : (bare : Bool) → (bare ≡ true) ↔ IsBare keys id directory → not bare ≡ has_names keys id directory
  bare_is true tells = sym (bare_is_none (tells.0 refl))
  bare_is false tells = by (has_names keys id directory) refl
    where
      by : (b : Bool) → has_names keys id directory ≡ b → true ≡ has_names keys id directory
      by true is = sym is
      by false is = absurd (true≢false (sym (tells.1 (none_is_bare is))))

  -- and it has none where the forest has none.
  pub no_names : IsBare keys id directory ↔ (names_in keys id directory ≡ []) → has_names keys id directory ≡ false → names_in keys id directory ≡ []
  no_names tells none = tells.0 (none_is_bare none)

  pub emptied : IsBare keys id directory ↔ (names_in keys id directory ≡ []) → not (length (names_in keys id directory) == 0) ≡ has_names keys id directory
  emptied tells = by (names_in keys id directory) (has_names keys id directory) refl refl
    where
      by : (names : Names) (b : Bool) → names_in keys id directory ≡ names → has_names keys id directory ≡ b → not (length names == 0) ≡ b
      by [] false is has = ap not (eq-eqb 0 0 refl)
      by [] true is has = absurd (true≢false (sym has ∙ bare_is_none (tells.1 is)))
      by (name ∷ names) true is has = ap not (ne_eqb (length (name ∷ names)) 0 (λ same. omega (arith, same)))
      by (name ∷ names) false is has = absurd (let none = ap length (sym is ∙ no_names tells has) in omega (arith, none))
