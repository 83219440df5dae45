-- Which step adding a name comes to, and which removing it, by the names that an id sees under its slot.
use Rattle.std.proofs.Common.{◌≡◌, ℕ, Bool, true, false, cond, Option, Some, None, List, sym, ap, ◌∙◌, subst, arith, length}
use Rattle.std.specs.Ordering.{nat_cmp}
use Rattle.std.specs.Prelude.{IsSome, is_some, nat_le}
use Rattle.std.specs.List.{list_any}
use Rattle.std.specs.Ordering.{is_eq}
use Rattle.std.proofs.lemmas.Bool.{leb-false}
use Rattle.dirent_keys.proofs.Counting.{mapped}
use Rattle.dirent_keys.proofs.Listed.{found_any, nothing}
use Rattle.dirent_keys.proofs.Ordered.{MayShare, are_links_with, are_links_without}
use Rattle.dirent_keys.proofs.Seeing.{AreSeen, added_sees, may_share, removed_sees, rest_fits}
use Rattle.dirent_keys.specs.Links.{names_value, with_link, without_name}
use Rattle.dirent_keys.specs.Names.{SeesName, has_name, is_full, removal_of, step_to_add, updates_to_add, updates_to_remove}
use Rattle.dirent_keys.specs.declared.step.NameStep.TheVariants.{Done, Exists, Crowded}
use Rattle.key_meaning.specs.Forest.{link_named, links_in}
use Rattle.key_meaning.specs.Visible.{snaps_of, visible}
use Rattle.key_view.specs.Changes.{own_update, updates_to_see}
use Rattle.plain_forest.specs.Steps.{names_per_slot}
use Rattle.snap_tree.specs.Snaps.{IsSnapTree}
use Rattle.vol_digest.specs.Digests.{slot_of}
use Rattle.vol_types.specs.KeyMaps.{IsKeyMap, KeyMap, with_updates}
use Rattle.vol_types.specs.Maps.{value_at}
use Rattle.vol_types.specs.Ranges.{IsKeyValue, IsName, name_cmp}
use Rattle.vol_types.specs.Standing.{IsUpdate}
use Rattle.vol_types.specs.declared.keys.Update.{Update}
use Rattle.vol_types.specs.declared.positions.Btree.TheVariants.{Dirents}
use Rattle.vol_types.specs.declared.positions.Pos.{Pos}
use Rattle.vol_types.specs.declared.values.Link.{Link}
use Rattle.vol_types.specs.declared.values.Value.{Value}

-- Whether a name is found among some, where it was asked for another way.
pub among_is : (asked name : List ℕ) (slice links : List Link) (result b : Bool) → asked ≡ name → slice ≡ links → result ≡ list_any (λ (link : Link). is_eq (name_cmp asked link.name)) slice → result ≡ b → is_some (link_named name links) ≡ b
among_is asked name slice links result b same are found is =
    sym (λ i. is_some (link_named (same i) (are i))) ∙ sym (found_any (λ (link : Link). is_eq (name_cmp asked link.name)) slice) ∙ sym found ∙ is

module _ (own : Pos) (id directory : ℕ) (name : List ℕ) (stands : own ≡ record { inode = directory; offset = slot_of name; snapshot = id }) where
  -- the names that are seen at the own key's place
  pub links_placed : (keys : KeyMap) (links : List Link) → links ≡ links_in keys own.snapshot own.inode own.offset → links ≡ links_in keys id directory (slot_of name)
  links_placed keys links are = are ∙ (λ i. links_in keys (stands i).snapshot (stands i).inode (stands i).offset)

  -- the updates after which others are
  pub updates_placed : (keys : KeyMap) (shown rest : List Link) (updates : List Update) → shown ≡ rest → updates ≡ updates_to_see keys Dirents own.inode own.offset own.snapshot (names_value shown)
      → updates ≡ updates_to_see keys Dirents directory (slot_of name) id (names_value rest)
  updates_placed keys shown rest updates same are = are ∙ (λ i. updates_to_see keys Dirents (stands i).inode (stands i).offset (stands i).snapshot (names_value (same i)))

  pub fits_placed : (value rest : Option Value) → value ≡ rest → IsUpdate (own_update Dirents directory (slot_of name) id rest) → IsUpdate (own_update Dirents own.inode own.offset own.snapshot value)
  fits_placed value rest same fits = subst IsUpdate (sym (λ i. own_update Dirents (stands i).inode (stands i).offset (stands i).snapshot (same i))) fits

module _ (keys : KeyMap) (id directory : ℕ) (name : List ℕ) (links : List Link) (are : links ≡ links_in keys id directory (slot_of name)) where
  -- whether the name shows
  pub shows : (b : Bool) → is_some (link_named name links) ≡ b → has_name keys id directory name ≡ b
  shows b found = mapped (λ (l : Link). (l.number, l.kind)) (link_named name (links_in keys id directory (slot_of name))) ∙ ap (λ (ls : List Link). is_some (link_named name ls)) (sym are) ∙ found

  full : (b : Bool) → nat_le names_per_slot (length links) ≡ b → is_full keys id directory (slot_of name) ≡ b
  full b many = ap (λ (ls : List Link). nat_le names_per_slot (length ls)) (sym are) ∙ many

  -- The removal is none where it doesn't,
  pub removes_nothing : is_some (link_named name links) ≡ false → None ≡ removal_of keys id directory name
  removes_nothing found = sym (ap (λ b. cond b (Some (updates_to_remove keys id directory name)) None) (shows false found))

  -- and else the updates that remove it.
  pub removes : is_some (link_named name links) ≡ true → (updates : List Update) → updates ≡ updates_to_see keys Dirents directory (slot_of name) id (names_value (without_name name links)) → Some updates ≡ removal_of keys id directory name
  removes found updates is =
      ap Some (is ∙ ap (λ (ls : List Link). updates_to_see keys Dirents directory (slot_of name) id (names_value (without_name name ls))) are)
      ∙ sym (ap (λ b. cond b (Some (updates_to_remove keys id directory name)) None) (shows true found))

  -- After them the id doesn't see the name.
  pub removal_seen : AreSeen → IsKeyMap keys → IsSnapTree (snaps_of keys) → IsSome (value_at nat_cmp id (snaps_of keys)) → (updates : List Update) → updates ≡ updates_to_see keys Dirents directory (slot_of name) id (names_value (without_name name links))
      → SeesName keys (with_updates updates keys) id directory name None
  removal_seen seen is tree there updates made =
      subst (λ us. SeesName keys (with_updates us keys) id directory name None) (sym (made ∙ ap (λ (ls : List Link). updates_to_see keys Dirents directory (slot_of name) id (names_value (without_name name ls))) are)) (removed_sees seen keys id directory is tree there name)

  -- The names that are left may be put.
  pub removal_fits : IsKeyValue (visible keys Dirents directory (slot_of name) id) → IsUpdate (own_update Dirents directory (slot_of name) id (names_value (without_name name links)))
  removal_fits fits = rest_fits directory (slot_of name) id (without_name name links) (λ some. are_links_without name links (subst MayShare (sym are) (may_share (visible keys Dirents directory (slot_of name) id) fits)) some)

module _ (keys : KeyMap) (id directory : ℕ) (link : Link) (links : List Link) (are : links ≡ links_in keys id directory (slot_of link.name)) where
  -- The name exists where it shows,
  pub exists : is_some (link_named link.name links) ≡ true → Exists ≡ step_to_add keys id directory link
  exists found = sym (ap (λ b. cond b Exists (cond (is_full keys id directory (slot_of link.name)) Crowded (Done (updates_to_add keys id directory link)))) (shows keys id directory link.name links are true found))

  -- is crowded out where it doesn't and its slot is full,
  pub crowded : is_some (link_named link.name links) ≡ false → nat_le names_per_slot (length links) ≡ true → Crowded ≡ step_to_add keys id directory link
  crowded found many = sym (λ i. cond (shows keys id directory link.name links are false found i) Exists (cond (full keys id directory link.name links are true many i) Crowded (Done (updates_to_add keys id directory link))))

  abbrev made_of : List Update → Type 0
  made_of updates = updates ≡ updates_to_see keys Dirents directory (slot_of link.name) id (names_value (with_link link links))

  made_is : (updates : List Update) → made_of updates → updates ≡ updates_to_add keys id directory link
  made_is updates made = made ∙ ap (λ (ls : List Link). updates_to_see keys Dirents directory (slot_of link.name) id (names_value (with_link link ls))) are

  -- and is added else.
  pub done : is_some (link_named link.name links) ≡ false → nat_le names_per_slot (length links) ≡ false → (updates : List Update) → made_of updates → Done updates ≡ step_to_add keys id directory link
  done found few updates made =
      ap Done (made_is updates made) ∙ sym (λ i. cond (shows keys id directory link.name links are false found i) Exists (cond (full keys id directory link.name links are false few i) Crowded (Done (updates_to_add keys id directory link))))

  -- Then the id sees it,
  pub addition_seen : AreSeen → IsKeyMap keys → IsSnapTree (snaps_of keys) → IsSome (value_at nat_cmp id (snaps_of keys)) → is_some (link_named link.name links) ≡ false → (updates : List Update) → made_of updates
      → SeesName keys (with_updates updates keys) id directory link.name (Some (link.number, link.kind))
  addition_seen seen is tree there found updates made =
      subst (λ us. SeesName keys (with_updates us keys) id directory link.name (Some (link.number, link.kind))) (sym (made_is updates made))
      (added_sees seen keys id directory is tree there link (ap (λ (ls : List Link). is_some (link_named link.name ls)) (sym are) ∙ found))

  -- and the names may be put.
  pub addition_fits : IsName link.name → is_some (link_named link.name links) ≡ false → nat_le names_per_slot (length links) ≡ false → IsKeyValue (visible keys Dirents directory (slot_of link.name) id)
      → IsUpdate (own_update Dirents directory (slot_of link.name) id (names_value (with_link link links)))
  addition_fits named found few fits =
      rest_fits directory (slot_of link.name) id (with_link link links)
      (λ some. are_links_with link links (subst MayShare (sym are) (may_share (visible keys Dirents directory (slot_of link.name) id) fits)) named (omega (arith, leb-false names_per_slot (length links) few)) (nothing (link_named link.name links) found))
