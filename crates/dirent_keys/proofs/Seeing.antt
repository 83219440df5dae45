-- What an id sees under a name after the updates that add or remove it, and that these may be made.
use Rattle.std.proofs.Common.{◌≡◌, ℕ, ◌≤◌, Bool, true, false, cond, Option, Some, None, List, [], ◌∷◌, refl, sym, ap, ◌∙◌, subst, arith, length}
use Rattle.std.specs.Ordering.{nat_cmp}
use Rattle.std.specs.Prelude.{◌≢◌, ◌==◌, IfOk, IsSome, is_some, option_map}
use Rattle.std.specs.declared.result.Result.{Result}
use Rattle.std.specs.declared.result.Result.TheVariants.{Ok, Err}
use Rattle.std.proofs.lemmas.List.Elements.{All-nil}
use Rattle.dirent_keys.proofs.Listed.{found_itself, found_without, keeps_with, keeps_without, nothing}
use Rattle.dirent_keys.proofs.Ordered.{MayShare}
use Rattle.dirent_keys.specs.Links.{names_value, with_link, without_name}
use Rattle.dirent_keys.specs.Names.{SeesName, Target, target_of, updates_to_add, updates_to_remove}
use Rattle.key_meaning.specs.Changes.{KeepsOtherNames}
use Rattle.key_meaning.specs.Forest.{link_named, links_in, links_of}
use Rattle.key_meaning.specs.Visible.{own_value, shown, snaps_of}
use Rattle.key_view.specs.Changes.{SeesThere, needs_whiteout, own_update, updates_to_see}
use Rattle.snap_tree.specs.Snaps.{IsSnapTree}
use Rattle.vol_digest.specs.Digests.{slot_of}
use Rattle.vol_types.specs.Btrees.{btree_code}
use Rattle.vol_types.specs.KeyMapLaws.{entries_of-with_update}
use Rattle.vol_types.specs.KeyMaps.{KeyMap, IsKeyMap, entries_of, with_update, with_updates}
use Rattle.vol_types.specs.Maps.{put_at, value_at}
use Rattle.vol_types.specs.Positions.{pos_cmp}
use Rattle.vol_types.specs.Ranges.{AreLinks, IsKeyValue, IsName}
use Rattle.vol_types.specs.Standing.{IsUpdate}
use Rattle.vol_types.specs.declared.positions.Btree.{Btree}
use Rattle.vol_types.specs.declared.positions.Btree.TheVariants.{Extents, Inodes, Dirents, Subvols, Snapshots, Alloc, Backptrs, Deleted, Counters}
use Rattle.vol_types.specs.declared.values.Link.{Link}
use Rattle.vol_types.specs.declared.values.Value.{Value}
use Rattle.vol_types.specs.declared.values.Value.TheVariants as values

-- names are no snapshot ids
pub not_ids : Dirents ≢ Snapshots
not_ids same = absurd (omega (arith, ap btree_code same))

-- names shown as a value hide nothing
pub names_show : (links : List Link) → shown (names_value links) ≡ names_value links
names_show [] = refl
names_show (link ∷ links) = refl

-- the value of some names holds them
pub held : (links : List Link) → links_of (names_value links) ≡ links
held [] = refl
held (link ∷ links) = refl

-- another btree has another number
other_code : (b : Btree) → b ≢ Dirents → (2 == btree_code b) ≡ false
other_code Extents apart = refl
other_code Inodes apart = refl
other_code Dirents apart = absurd (apart refl)
other_code Subvols apart = refl
other_code Snapshots apart = refl
other_code Alloc apart = refl
other_code Backptrs apart = refl
other_code Deleted apart = refl
other_code Counters apart = refl

module _ (keys : KeyMap) (directory slot id : ℕ) (b : Btree) (apart : b ≢ Dirents) where
  -- an update of names leaves the other btrees,
  one_leaves : (value : Option Value) → entries_of (with_update (own_update Dirents directory slot id value) keys) b ≡ entries_of keys b
  one_leaves value =
      entries_of-with_update (own_update Dirents directory slot id value) keys b
      ∙ ap (λ t. cond t (put_at pos_cmp (record { inode = directory; offset = slot; snapshot = id }) value (entries_of keys b)) (entries_of keys b)) (other_code b apart)

  -- and so do those after which an id sees other names
  pub updates_leave : (value : Option Value) → entries_of (with_updates (updates_to_see keys Dirents directory slot id value) keys) b ≡ entries_of keys b
  updates_leave (Some value) = one_leaves (Some value)
  updates_leave None = by (needs_whiteout keys Dirents directory slot id) (is_some (own_value keys Dirents directory slot id))
    where
      by : (hides has : Bool) → entries_of (with_updates (cond hides (own_update Dirents directory slot id (Some values.White) ∷ []) (cond has (own_update Dirents directory slot id None ∷ []) [])) keys) b ≡ entries_of keys b
      by true has = one_leaves (Some values.White)
      by false true = one_leaves None
      by false false = refl

-- What the id sees under a name, where it sees these names under its slot.
pub sees_name : (old new : KeyMap) (id directory : ℕ) (name : List ℕ) (target : Option Target) (value : Option Value) → SeesThere old new Dirents directory (slot_of name) id value
    → ((b : Btree) → b ≢ Dirents → entries_of new b ≡ entries_of old b)
    → target_of name (links_of value) ≡ target → KeepsOtherNames (links_in old id directory (slot_of name)) (links_of value) name → SeesName old new id directory name target
sees_name old new id directory name target value sees btrees leads keeps = record {
  here = ap (λ (o : Option Value). target_of name (links_of o)) sees.here ∙ leads;
  names = subst (λ (o : Option Value). KeepsOtherNames (links_in old id directory (slot_of name)) (links_of o) name) (sym sees.here) keeps;
  elsewhere = sees.elsewhere;
  others = sees.others;
  btrees = btrees;
  ids = sees.ids;
}

-- Each change of names is seen, as `changes_are_seen` says.
abbrev pub AreSeen : Type 0
AreSeen = (keys : KeyMap) (btree : Btree) (inode offset id : ℕ) (value : Option Value) → IsKeyMap keys → IsSnapTree (snaps_of keys) → btree ≢ Snapshots → shown value ≡ value
    → IsSome (value_at nat_cmp id (snaps_of keys)) → SeesThere keys (with_updates (updates_to_see keys btree inode offset id value) keys) btree inode offset id value

module _ (seen : AreSeen) (keys : KeyMap) (id directory : ℕ) (is : IsKeyMap keys) (tree : IsSnapTree (snaps_of keys)) (there : IsSome (value_at nat_cmp id (snaps_of keys))) where
  -- After updates to show these names the id sees one of them lead where it does among them.
  pub shows_names : (name : List ℕ) (target : Option Target) (links : List Link) → target_of name links ≡ target → KeepsOtherNames (links_in keys id directory (slot_of name)) links name
      → SeesName keys (with_updates (updates_to_see keys Dirents directory (slot_of name) id (names_value links)) keys) id directory name target
  shows_names name target links leads keeps =
      let value : Option Value = names_value links in
      sees_name keys (with_updates (updates_to_see keys Dirents directory (slot_of name) id value) keys) id directory name target value (seen keys Dirents directory (slot_of name) id value is tree not_ids (names_show links) there)
      (λ b apart. updates_leave keys directory (slot_of name) id b apart value)
      (ap (target_of name) (held links) ∙ leads)
      (subst (λ (ls : List Link). KeepsOtherNames (links_in keys id directory (slot_of name)) ls name) (sym (held links)) keeps)

  -- After the updates that add a name the id sees it,
  pub added_sees : (link : Link) → is_some (link_named link.name (links_in keys id directory (slot_of link.name))) ≡ false
      → SeesName keys (with_updates (updates_to_add keys id directory link) keys) id directory link.name (Some (link.number, link.kind))
  added_sees link new =
      let links = links_in keys id directory (slot_of link.name) in
      shows_names link.name (Some (link.number, link.kind)) (with_link link links)
      (ap (option_map (λ (l : Link). (l.number, l.kind))) (found_itself link links (nothing (link_named link.name links) new))) (keeps_with link links)

  -- and after those that remove it the id doesn't.
  pub removed_sees : (name : List ℕ) → SeesName keys (with_updates (updates_to_remove keys id directory name) keys) id directory name None
  removed_sees name =
      let links = links_in keys id directory (slot_of name) in
      shows_names name None (without_name name links) (ap (option_map (λ (l : Link). (l.number, l.kind))) (found_without name links)) (keeps_without name links)

-- Names of a value that is in range may share a slot.
pub may_share : (value : Option Value) → IsKeyValue value → MayShare (links_of value)
may_share (Some (values.Names links)) fits = record { count = fits.count.1; each = fits.each; rise = fits.rise }
may_share None fits = record { count = omega arith; each = All-nil (λ (link : Link). IsName link.name); rise = tt }
may_share (Some other) fits = record { count = omega arith; each = All-nil (λ (link : Link). IsName link.name); rise = tt }

-- Names may be put under a slot,
pub names_fit : (directory slot id : ℕ) (links : List Link) → AreLinks links → IsUpdate (own_update Dirents directory slot id (Some (values.Names links)))
names_fit directory slot id links are = record { stands = record { in_leaf = λ leaf. refl; above = λ up. absurd (omega (arith, up)) }; in_range = are }

-- and so may those that are left, if any are,
pub rest_fits : (directory slot id : ℕ) (links : List Link) → (1 ≤ length links → AreLinks links) → IsUpdate (own_update Dirents directory slot id (names_value links))
rest_fits directory slot id [] are = record { stands = tt; in_range = tt }
rest_fits directory slot id (link ∷ links) are = names_fit directory slot id (link ∷ links) (are (omega arith))

-- and a whiteout.
pub whiteout_fits : (directory slot id : ℕ) → IsUpdate (own_update Dirents directory slot id (Some values.White))
whiteout_fits directory slot id = record { stands = record { in_leaf = λ leaf. refl; above = λ up. absurd (omega (arith, up)) }; in_range = tt }

-- what a result has to say of its value
pub carried : {X E : Type 0} (result : Result X E) (P Q : X → Type 0) → ((x : X) → P x → Q x) → IfOk result P → IfOk result Q
carried (Ok x) P Q step holds = step x holds
carried (Err e) P Q step holds = tt
