-- Where no key of a file changes, and each id's chain is what it was or goes on with one that was there, what was kept is kept.
use Rattle.std.proofs.Common.{◌≡◌, ℕ, Bool, true, false, cond, None, Some, List, [], ◌∷◌, refl, sym, ap, ◌∙◌, subst, ⊎_elim, inl, inr}
use Rattle.std.specs.Prelude.{◌≢◌, ◌⊎◌, ◌==◌, ◌||◌, nat_eq, All, IsSome, is_some, option_map}
use Rattle.std.specs.List.{list_any, slice_index_or}
use Rattle.std.specs.Ordering.{nat_cmp}
use Rattle.std.proofs.lemmas.Bool.{eqb-true, true≢false}
use Rattle.std.proofs.lemmas.List.Elements.{All-weaker}
use Rattle.id_steps.specs.Changes.{KeepsFiles}
use Rattle.key_meaning.specs.Alike.{HasNoKeys, HaveSameFiles, ShowAlike}
use Rattle.key_meaning.specs.AlikeLaws.{directories_in-alike}
use Rattle.key_meaning.specs.Checks.{AreExtentsApart, AreIdsThere, AreTreesJoined, HasRoom, IsSpaceCounted}
use Rattle.key_meaning.specs.Forest.{inode_in, kind_in}
use Rattle.key_meaning.specs.KeptLaws.{blocks_stay_placed, space_stays_counted}
use Rattle.key_meaning.specs.SharedLaws.{alike_below, alike_by_chain}
use Rattle.key_meaning.specs.Tidy.{AreBlocksBelow, AreBlocksOwned, AreGone, AreKeysDrawn, AreNamesGood, HasOwner, IsNoted}
use Rattle.key_meaning.specs.Visible.{own_value, snaps_of}
use Rattle.key_steps.specs.Good.{IsGoodShown}
use Rattle.key_steps.specs.Kept.{DoIdsMatch, IsKept, IsLeafGood}
use Rattle.key_steps.specs.Shown.{Shown}
use Rattle.plain_forest.specs.Forest.{Names}
use Rattle.snap_tree.specs.MapLaws.{value_at-cons}
use Rattle.snap_tree.specs.Snaps.{Snaps, chain_of, is_ancestor_of}
use Rattle.vol_types.specs.KeyMaps.{Entries, IsKeyMap, KeyMap}
use Rattle.vol_types.specs.Maps.{value_at}
use Rattle.vol_types.specs.Positions.{pos_cmp}
use Rattle.vol_types.specs.declared.layout.Layout.{Layout}
use Rattle.vol_types.specs.declared.pointers.Place.{Place}
use Rattle.vol_types.specs.declared.positions.Btree.TheVariants.{Extents}
use Rattle.vol_types.specs.declared.positions.Pos.{Pos}
use Rattle.vol_types.specs.declared.values.FileKind.TheVariants.{File}
use Rattle.vol_types.specs.declared.values.Inode.{Inode}
use Rattle.vol_types.specs.declared.values.Sub.{Sub}
use Rattle.vol_types.specs.declared.values.Value.{Value}

-- The chain of the id is what it was; or the id is new, and its chain goes on with that of its origin.
abbrev pub GoesOn : KeyMap → KeyMap → ℕ → ℕ → Type 0
GoesOn keys new id origin = ((chain_of (snaps_of new) id ≡ chain_of (snaps_of keys) id) × (origin ≡ id)) ⊎ ((chain_of (snaps_of new) id ≡ id ∷ chain_of (snaps_of keys) origin) × (value_at nat_cmp id (snaps_of keys) ≡ None))

-- No key of a file changes, no id goes, and each id goes on with its origin, which was there.
pub record Grows (keys new : KeyMap) (origin : ℕ → ℕ) : Type 0 where
  pub files : HaveSameFiles new keys
  pub there : (id : ℕ) → IsSome (value_at nat_cmp id (snaps_of keys)) → IsSome (value_at nat_cmp id (snaps_of new))
  pub goes_on : (id : ℕ) → GoesOn keys new id (origin id)

or_split : (a b : Bool) → (a || b) ≡ true → (a ≡ true) ⊎ (b ≡ true)
or_split true b is = inl refl
or_split false b is = inr is

-- an id of a chain is there
chain_there : (snaps : Snaps) (a id : ℕ) → list_any (nat_eq a) (chain_of snaps id) ≡ true → IsSome (value_at nat_cmp a snaps)
chain_there [] a id among = absurd (true≢false (sym among))
chain_there (e ∷ greater) a id among = by (e.0 == id) refl among (chain_there greater a e.1.parent) (chain_there greater a id)
  where
    more : (b : Bool) → IsSome (value_at nat_cmp a greater) → IsSome (cond b (Some e.1) (value_at nat_cmp a greater))
    more true there = refl
    more false there = there

    later : IsSome (value_at nat_cmp a greater) → IsSome (value_at nat_cmp a (e ∷ greater))
    later there = subst IsSome (sym (value_at-cons e greater a)) (more (e.0 == a) there)

    first : (e.0 == a) ≡ true → IsSome (value_at nat_cmp a (e ∷ greater))
    first at = subst IsSome (sym (value_at-cons e greater a ∙ ap (λ b. cond b (Some e.1) (value_at nat_cmp a greater)) at)) refl

    by : (b : Bool) → (e.0 == id) ≡ b → list_any (nat_eq a) (cond b (id ∷ chain_of greater e.1.parent) (chain_of greater id)) ≡ true
        → (list_any (nat_eq a) (chain_of greater e.1.parent) ≡ true → IsSome (value_at nat_cmp a greater)) → (list_any (nat_eq a) (chain_of greater id) ≡ true → IsSome (value_at nat_cmp a greater)) → IsSome (value_at nat_cmp a (e ∷ greater))
    by true at is above rest = ⊎_elim (λ (same : (a == id) ≡ true). first (ap (λ n. e.0 == n) (eqb-true a id same) ∙ at)) (λ (up : list_any (nat_eq a) (chain_of greater e.1.parent) ≡ true). later (above up)) (or_split (a == id) (list_any (nat_eq a) (chain_of greater e.1.parent)) is)
    by false at is above rest = later (rest is)

-- what is there isn't none
some_is_not_none : (snaps : Snaps) (id : ℕ) → IsSome (value_at nat_cmp id snaps) → value_at nat_cmp id snaps ≡ None → ⊥
some_is_not_none snaps id there none = true≢false (sym there ∙ ap is_some none)

-- ids of keys aren't one that isn't there
no_key_of : (keys : KeyMap) (id : ℕ) (entries : Entries) → value_at nat_cmp id (snaps_of keys) ≡ None → AreIdsThere keys entries → All (λ (entry : Pos × Value). entry.0.snapshot ≢ id) entries
no_key_of keys id entries none there = All-weaker (λ (entry : Pos × Value). IsSome (value_at nat_cmp entry.0.snapshot (snaps_of keys))) (λ (entry : Pos × Value). entry.0.snapshot ≢ id)
    (λ (entry : Pos × Value) some same. some_is_not_none (snaps_of keys) entry.0.snapshot some (ap (λ n. value_at nat_cmp n (snaps_of keys)) same ∙ none)) entries there

-- An id that isn't there has no keys.
pub no_keys : (keys : KeyMap) (id : ℕ) → AreExtentsApart keys → value_at nat_cmp id (snaps_of keys) ≡ None → HasNoKeys keys id
no_keys keys id apart none = record { extents = no_key_of keys id keys.extents none apart.extents; inodes = no_key_of keys id keys.inodes none apart.inodes; dirents = no_key_of keys id keys.dirents none apart.dirents }

-- What is good in an id is good in one that shows the same, below the same root.
pub good_alike : (keys new : KeyMap) (was now : Sub) → ShowAlike new now.id keys was.id → now.root ≡ was.root → IsLeafGood keys was → IsLeafGood new now
good_alike keys new was now alike root good = subst (λ (p : ℕ × Shown × List (ℕ × Names)). IsGoodShown p.0 p.1 p.2)
    (λ i. (sym root i, record { inodes = λ number. sym (alike.inodes number) i; links = λ directory slot. sym (alike.names directory slot) i; blocks = λ file block. sym (alike.blocks file block) i }, sym (directories_in-alike new keys now.id was.id alike) i)) good

module _ (keys new : KeyMap) (origin : ℕ → ℕ) (grows : Grows keys new origin) (apart : AreExtentsApart keys) where
  new_has_none : (id : ℕ) → value_at nat_cmp id (snaps_of keys) ≡ None → HasNoKeys new id
  new_has_none id none = let old = no_keys keys id apart none in record {
    extents = subst (All (λ (entry : Pos × Value). entry.0.snapshot ≢ id)) (sym grows.files.extents) old.extents;
    inodes = subst (All (λ (entry : Pos × Value). entry.0.snapshot ≢ id)) (sym grows.files.inodes) old.inodes;
    dirents = subst (All (λ (entry : Pos × Value). entry.0.snapshot ≢ id)) (sym grows.files.dirents) old.dirents;
  }

  -- Each id shows what its origin showed.
  pub grown_alike : (id : ℕ) → ShowAlike new id keys (origin id)
  grown_alike id = ⊎_elim
      (λ (was : (chain_of (snaps_of new) id ≡ chain_of (snaps_of keys) id) × (origin id ≡ id)). alike_by_chain new keys grows.files id (origin id) (was.0 ∙ ap (chain_of (snaps_of keys)) (sym was.1)))
      (λ (fresh : (chain_of (snaps_of new) id ≡ id ∷ chain_of (snaps_of keys) (origin id)) × (value_at nat_cmp id (snaps_of keys) ≡ None)). alike_below new keys grows.files id (origin id) fresh.0 (new_has_none id fresh.1))
      (grows.goes_on id)

  -- an id that was there is its own origin, and its chain is what it was
  was_there : (id : ℕ) → IsSome (value_at nat_cmp id (snaps_of keys)) → (chain_of (snaps_of new) id ≡ chain_of (snaps_of keys) id) × (origin id ≡ id)
  was_there id there = ⊎_elim
      (λ (was : (chain_of (snaps_of new) id ≡ chain_of (snaps_of keys) id) × (origin id ≡ id)). was)
      (λ (fresh : (chain_of (snaps_of new) id ≡ id ∷ chain_of (snaps_of keys) (origin id)) × (value_at nat_cmp id (snaps_of keys) ≡ None)). absurd (some_is_not_none (snaps_of keys) id there fresh.1))
      (grows.goes_on id)

  -- An id that was there shows what it showed.
  pub old_alike : (id : ℕ) → IsSome (value_at nat_cmp id (snaps_of keys)) → ShowAlike new id keys id
  old_alike id there = subst (ShowAlike new id keys) (was_there id there).1 (grown_alike id)

  ids_there : (entries : Entries) → AreIdsThere keys entries → AreIdsThere new entries
  ids_there entries was = All-weaker (λ (entry : Pos × Value). IsSome (value_at nat_cmp entry.0.snapshot (snaps_of keys))) (λ (entry : Pos × Value). IsSome (value_at nat_cmp entry.0.snapshot (snaps_of new))) (λ (entry : Pos × Value) some. grows.there entry.0.snapshot some) entries was

  module _ (keeps : KeepsFiles keys new) where
    extents_apart : AreExtentsApart new
    extents_apart = record {
      extents = subst (AreIdsThere new) (sym grows.files.extents) (ids_there keys.extents apart.extents);
      inodes = subst (AreIdsThere new) (sym grows.files.inodes) (ids_there keys.inodes apart.inodes);
      dirents = subst (AreIdsThere new) (sym grows.files.dirents) (ids_there keys.dirents apart.dirents);
      deleted = subst (AreIdsThere new) (sym keeps.deleted) (ids_there keys.deleted apart.deleted);
      room = subst (All HasRoom) (sym grows.files.extents) apart.room;
      apart = λ file id. record { once = λ block first second one other at also. (apart.apart file id).once block first second one other (own file id first ∙ at) (own file id second ∙ also) };
    }
      where
        own : (file id offset : ℕ) → own_value keys Extents file offset id ≡ own_value new Extents file offset id
        own file id offset = ap (value_at pos_cmp (record { inode = file; offset = offset; snapshot = id })) (sym grows.files.extents)

    -- an id above another one was there, and above its origin
    above_origin : (id descendant : ℕ) → (id == descendant) ≡ false → is_ancestor_of (snaps_of new) id descendant ≡ true → is_ancestor_of (snaps_of keys) id (origin descendant) ≡ true
    above_origin id descendant differ is = ⊎_elim
        (λ (was : (chain_of (snaps_of new) descendant ≡ chain_of (snaps_of keys) descendant) × (origin descendant ≡ descendant)). ap (λ n. list_any (nat_eq id) (chain_of (snaps_of keys) n)) was.1 ∙ ap (list_any (nat_eq id)) (sym was.0) ∙ is)
        (λ (fresh : (chain_of (snaps_of new) descendant ≡ descendant ∷ chain_of (snaps_of keys) (origin descendant)) × (value_at nat_cmp descendant (snaps_of keys) ≡ None)).
        sym (ap (λ b. b || list_any (nat_eq id) (chain_of (snaps_of keys) (origin descendant))) differ) ∙ ap (list_any (nat_eq id)) (sym fresh.0) ∙ is)
        (grows.goes_on descendant)

    blocks_below : AreBlocksBelow keys → AreBlocksBelow new
    blocks_below was = record { each = λ id descendant number above none some. by id descendant number above none some (id == descendant) refl }
      where
        by : (id descendant number : ℕ) → is_ancestor_of (snaps_of new) id descendant ≡ true → inode_in new id number ≡ None → IsSome (inode_in new descendant number) → (b : Bool) → (id == descendant) ≡ b
            → All (λ (entry : Pos × Value). entry.0.inode ≡ number → is_ancestor_of (snaps_of new) entry.0.snapshot id ≡ false) new.extents
        by id descendant number above none some true same = absurd (true≢false (sym some ∙ ap (λ n. is_some (inode_in new n number)) (sym (eqb-true id descendant same)) ∙ ap is_some none))
        by id descendant number above none some false differ =
            let up = above_origin id descendant differ above in
            let there = was_there id (chain_there (snaps_of keys) id (origin descendant) up) in
            let old = was.each id (origin descendant) number up (ap (λ n. inode_in keys n number) (sym there.1) ∙ sym ((grown_alike id).inodes number) ∙ none) (subst IsSome ((grown_alike descendant).inodes number) some) in
            subst (All (λ (entry : Pos × Value). entry.0.inode ≡ number → is_ancestor_of (snaps_of new) entry.0.snapshot id ≡ false)) (sym grows.files.extents)
            (All-weaker (λ (entry : Pos × Value). entry.0.inode ≡ number → is_ancestor_of (snaps_of keys) entry.0.snapshot id ≡ false) (λ (entry : Pos × Value). entry.0.inode ≡ number → is_ancestor_of (snaps_of new) entry.0.snapshot id ≡ false)
            (λ (entry : Pos × Value) apart_from at. ap (list_any (nat_eq entry.0.snapshot)) there.0 ∙ apart_from at) keys.extents old)

    gone_still : AreGone keys → AreGone new
    gone_still was = record {
      each = subst (All (λ (entry : Pos × Value). inode_in new entry.0.snapshot entry.0.offset ≡ None)) (sym keeps.deleted)
          (λ k d lt. let entry = slice_index_or keys.deleted k d in (old_alike entry.0.snapshot (apart.deleted k d lt)).inodes entry.0.offset ∙ was.each k d lt);
    }

    owned_still : AreBlocksOwned keys → AreBlocksOwned new
    owned_still was = record {
      each = subst (All (HasOwner new)) (sym grows.files.extents) (λ k d lt. let entry = slice_index_or keys.extents k d in
          ⊎_elim
          (λ (file : kind_in keys entry.0.snapshot entry.0.inode ≡ Some File). inl (ap (option_map (λ (inode : Inode). inode.kind)) ((old_alike entry.0.snapshot (apart.extents k d lt)).inodes entry.0.inode) ∙ file))
          (λ (noted : IsNoted keys entry.0.snapshot entry.0.inode). inr (subst (λ (entries : Entries). IsSome (value_at pos_cmp (record { inode = 0; offset = entry.0.inode; snapshot = entry.0.snapshot }) entries)) (sym keeps.deleted) noted))
          (was.each k d lt));
    }

    -- So what was kept is kept, where ids are joined and match, and keys are drawn and named.
    pub grown_is_kept : (nodes : List Place) (layout : Layout) → IsKept keys nodes layout → IsKeyMap new → AreTreesJoined new → DoIdsMatch new → AreKeysDrawn new → AreNamesGood new → IsKept new nodes layout
    grown_is_kept nodes layout was is trees ids drawn named = record {
      is_map = is;
      trees = trees;
      ids = ids;
      extents = extents_apart;
      blocks = blocks_stay_placed keys new nodes layout grows.files.extents was.blocks;
      drawn = drawn;
      named = named;
      below = blocks_below was.below;
      gone = gone_still was.gone;
      owned = owned_still was.owned;
    }

    -- Space is counted as it was.
    pub grown_space : IsSpaceCounted keys → IsSpaceCounted new
    grown_space = space_stays_counted keys new grows.files.extents keeps.alloc keeps.backptrs
