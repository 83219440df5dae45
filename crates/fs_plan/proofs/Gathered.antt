-- The slots of a directory one after the other: what shows at them, and the names that are gathered so.
use Rattle.std.proofs.Common.{◌≡◌, ℕ, suc, ◌<◌, ◌≤◌, Bool, true, false, cond, Option, Some, None, List, [], ◌∷◌, ◌++◌, refl, sym, ap, ◌∙◌, subst, arith}
use Rattle.std.specs.Prelude.{◌≢◌, nat_lt, All, option_map}
use Rattle.std.specs.Option.{option_or}
use Rattle.std.specs.Ordering.{is_eq}
use Rattle.std.proofs.lemmas.Bool.{ltb-true, ltb-false, lt-ltb, le-ltb}
use Rattle.std.proofs.lemmas.Cmp.{nat_list_cmp_total, eq_by_cmp_equiv}
use Rattle.std.proofs.lemmas.Map.Lookups.{exact_bytes}
use Rattle.dirent_keys.specs.Slots.{HasNoSlot}
use Rattle.fs_plan.specs.Listing.{with_links}
use Rattle.key_meaning.specs.Checks.{AreNamesJoined, IsLiveLeaf, IsNameJoined}
use Rattle.key_meaning.specs.Forest.{link_named, links_in, links_of}
use Rattle.key_meaning.specs.SoundLaws.{all_in, found_in}
use Rattle.key_meaning.specs.TableLaws.{same_key}
use Rattle.key_meaning.specs.Visible.{first_value, own_value, shown, snaps_of}
use Rattle.snap_tree.specs.Snaps.{chain_of}
use Rattle.vol_digest.specs.Digests.{slot_of}
use Rattle.vol_types.specs.KeyMaps.{KeyMap}
use Rattle.vol_types.specs.MapLaws.{value_at-with_value}
use Rattle.vol_types.specs.Maps.{value_at}
use Rattle.vol_types.specs.Ranges.{name_cmp}
use Rattle.vol_types.specs.Values.{file_kind_code}
use Rattle.vol_types.specs.declared.positions.Btree.TheVariants.{Dirents}
use Rattle.vol_types.specs.declared.values.Link.{Link}

-- Where no id has a key at a slot, nothing shows there.
pub no_links : (keys : KeyMap) (id directory slot : ℕ) → ((owner : ℕ) → own_value keys Dirents directory slot owner ≡ None) → links_in keys id directory slot ≡ []
no_links keys id directory slot none = ap (λ o. links_of (shown o)) (over (chain_of (snaps_of keys) id))
  where
    over : (ids : List ℕ) → first_value keys Dirents directory slot ids ≡ None
    over [] = refl
    over (owner ∷ ids) = ap (λ o. option_or o (first_value keys Dirents directory slot ids)) (none owner) ∙ over ids

-- what a name has as its flag
abbrev pub flag_among : List ℕ → List Link → Option ℕ
flag_among name links = option_map (λ (link : Link). file_kind_code link.kind) (link_named name links)

-- what is looked up after names were put
pub value_at-with_links : (name : List ℕ) (links : List Link) (entries : List (List ℕ × ℕ)) → value_at name_cmp name (with_links links entries) ≡ option_or (flag_among name links) (value_at name_cmp name entries)
value_at-with_links name [] entries = refl
value_at-with_links name (link ∷ links) entries =
    value_at-with_value nat_list_cmp_total link.name (file_kind_code link.kind) name (with_links links entries)
    ∙ ap (λ b. cond b (Some (file_kind_code link.kind)) (value_at name_cmp name (with_links links entries))) ((eq_by_cmp_equiv nat_list_cmp_total).symm link.name name)
    ∙ by (is_eq (name_cmp name link.name)) (value_at-with_links name links entries)
  where
    by : (b : Bool) → value_at name_cmp name (with_links links entries) ≡ option_or (flag_among name links) (value_at name_cmp name entries)
        → cond b (Some (file_kind_code link.kind)) (value_at name_cmp name (with_links links entries)) ≡ option_or (option_map (λ (l : Link). file_kind_code l.kind) (cond b (Some link) (link_named name links))) (value_at name_cmp name entries)
    by true later = refl
    by false later = later

-- names are put from the last one on
pub with_links-last : (links : List Link) (link : Link) (entries : List (List ℕ × ℕ)) → with_links (links ++ link ∷ []) entries ≡ with_links links (with_links (link ∷ []) entries)
with_links-last [] link entries = refl
with_links-last (other ∷ links) link entries = ap (λ es. with_links (other ∷ []) es) (with_links-last links link entries)

-- A name that doesn't have the slot of some names isn't among them.
pub other_slot : (keys : KeyMap) (id directory slot : ℕ) (name : List ℕ) (links : List Link) → All (IsNameJoined keys id directory slot) links → slot_of name ≢ slot → link_named name links ≡ None
other_slot keys id directory slot name links joined apart = by (link_named name links) refl
  where
    by : (o : Option Link) → link_named name links ≡ o → o ≡ None
    by None is = refl
    by (Some link) is =
        let found = found_in (λ (l : Link). is_eq (name_cmp name l.name)) link links is in
        let same : name ≡ link.name = same_key exact_bytes name link.name found.1 in
        absurd (apart (ap slot_of same ∙ (all_in (IsNameJoined keys id directory slot) link links joined found.0).under_slot))

module _ (keys : KeyMap) (id directory : ℕ) where
  -- what the directory shows under the name
  abbrev pub flag_in : List ℕ → Option ℕ
  flag_in name = flag_among name (links_in keys id directory (slot_of name))

  -- The names of all slots below a number are gathered, and no others.
  abbrev pub AreGathered : ℕ → List (List ℕ × ℕ) → Type 0
  AreGathered from entries = (name : List ℕ) → value_at name_cmp name entries ≡ cond (nat_lt (slot_of name) from) (flag_in name) None

  pub gathered_none : AreGathered 0 []
  gathered_none name = sym (ap (λ b. cond b (flag_in name) None) (le-ltb (slot_of name) 0 (omega arith)))

  -- nothing is flagged where nothing shows
  flag_none : (name : List ℕ) → links_in keys id directory (slot_of name) ≡ [] → flag_in name ≡ None
  flag_none name nothing = ap (flag_among name) nothing

  -- Where there is no further slot, all are gathered.
  pub gathered_all : (from : ℕ) (entries : List (List ℕ × ℕ)) → AreGathered from entries → HasNoSlot keys directory from None → (name : List ℕ) → value_at name_cmp name entries ≡ flag_in name
  gathered_all from entries gathered none name = gathered name ∙ by (nat_lt (slot_of name) from) refl
    where
      by : (b : Bool) → nat_lt (slot_of name) from ≡ b → cond b (flag_in name) None ≡ flag_in name
      by true below = refl
      by false above = sym (flag_none name (no_links keys id directory (slot_of name) (λ owner. none (slot_of name) owner (ltb-false (slot_of name) from above))))

  -- All are gathered too where no slot is as great as the number.
  pub gathered_to : (from : ℕ) (entries : List (List ℕ × ℕ)) → AreGathered from entries → (name : List ℕ) → slot_of name < from → value_at name_cmp name entries ≡ flag_in name
  gathered_to from entries gathered name below = gathered name ∙ ap (λ b. cond b (flag_in name) None) (lt-ltb (slot_of name) from below)

  module _ (joined : AreNamesJoined keys) (live : IsLiveLeaf keys id) where
    -- The names of the next slot are gathered besides.
    pub gathered_next : (from slot : ℕ) (entries : List (List ℕ × ℕ)) → AreGathered from entries → from ≤ slot → HasNoSlot keys directory from (Some slot)
        → (links : List Link) → links ≡ links_in keys id directory slot → (next : ℕ) → next ≡ suc slot → AreGathered next (with_links links entries)
    gathered_next from slot entries gathered le none links is next after name =
        value_at-with_links name links entries ∙ ap (option_or (flag_among name links)) (gathered name) ∙ by (nat_lt (slot_of name) slot) refl (nat_lt slot (slot_of name)) refl
      where
        result : Type 0
        result = option_or (flag_among name links) (cond (nat_lt (slot_of name) from) (flag_in name) None) ≡ cond (nat_lt (slot_of name) next) (flag_in name) None

        apart : slot_of name ≢ slot → flag_among name links ≡ None
        apart other = ap (option_map (λ (l : Link). file_kind_code l.kind)) (other_slot keys id directory slot name links (subst (All (IsNameJoined keys id directory slot)) (sym is) (joined.each id directory slot live)) other)

        lower : slot_of name < slot → result
        lower lt =
            ap (λ o. option_or o (cond (nat_lt (slot_of name) from) (flag_in name) None)) (apart (λ same. omega (arith, lt, same)))
            ∙ before (nat_lt (slot_of name) from) refl ∙ sym (ap (λ b. cond b (flag_in name) None) (lt-ltb (slot_of name) next (omega (arith, lt, after))))
          where
            before : (b : Bool) → nat_lt (slot_of name) from ≡ b → cond b (flag_in name) None ≡ flag_in name
            before true below = refl
            before false above = sym (flag_none name (no_links keys id directory (slot_of name) (λ owner. none (slot_of name) owner (ltb-false (slot_of name) from above) lt)))

        higher : slot < slot_of name → result
        higher lt =
            ap (λ o. option_or o (cond (nat_lt (slot_of name) from) (flag_in name) None)) (apart (λ same. omega (arith, lt, same)))
            ∙ ap (λ b. cond b (flag_in name) None) (le-ltb (slot_of name) from (omega (arith, le, lt)))
            ∙ sym (ap (λ b. cond b (flag_in name) None) (le-ltb (slot_of name) next (omega (arith, after, lt))))

        here : slot_of name ≡ slot → result
        here same =
            ap (λ o. option_or (flag_among name links) o) (ap (λ b. cond b (flag_in name) None) (le-ltb (slot_of name) from (omega (arith, le, same))))
            ∙ or_none (flag_among name links) ∙ ap (flag_among name) (is ∙ ap (links_in keys id directory) (sym same))
            ∙ sym (ap (λ b. cond b (flag_in name) None) (lt-ltb (slot_of name) next (omega (arith, after, same))))
          where
            or_none : (o : Option ℕ) → option_or o None ≡ o
            or_none None = refl
            or_none (Some n) = refl

        by : (b : Bool) → nat_lt (slot_of name) slot ≡ b → (c : Bool) → nat_lt slot (slot_of name) ≡ c → result
        by true low c up = lower (ltb-true (slot_of name) slot low)
        by false low true up = higher (ltb-true slot (slot_of name) up)
        by false low false up = let one = ltb-false (slot_of name) slot low in let two = ltb-false slot (slot_of name) up in here (omega (arith, one, two))
