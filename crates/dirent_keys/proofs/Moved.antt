-- What an id sees after a name moved, and that the updates may be made.
use Rattle.std.proofs.Common.{◌≡◌, ℕ, Bool, true, false, cond, Option, Some, None, List, [], ◌∷◌, ◌++◌, refl, sym, ap, ◌∙◌, subst, arith, length, ⊎_elim}
use Rattle.std.specs.Ordering.{nat_cmp, is_eq, is_lt}
use Rattle.std.specs.Prelude.{◌≢◌, ◌==◌, ◌&&◌, All, IsSome, is_some, nat_le, option_map}
use Rattle.std.proofs.lemmas.Bool.{and_parts, eq-eqb, eqb-true, leb-false, true≢false}
use Rattle.std.proofs.lemmas.Option.{same_Some, none-some as none_some}
use Rattle.std.proofs.lemmas.List.Elements.{All-append, All-cons, All-nil}
use Rattle.dirent_keys.proofs.Counting.{mapped}
use Rattle.dirent_keys.proofs.Listed.{found_apart, found_itself, found_with, found_without, nothing, one_name, other_name, own_name}
use Rattle.dirent_keys.proofs.Ordered.{MayShare, all_without, are_links_with, are_links_without, count_without, rise_without}
use Rattle.dirent_keys.proofs.Seeing.{AreSeen, added_sees, held, may_share, names_show, not_ids, removed_sees, rest_fits, updates_leave, whiteout_fits}
use Rattle.dirent_keys.specs.Links.{names_value, with_link, without_name}
use Rattle.dirent_keys.specs.Moves.{IsMove, MovesName, links_left, share_slot, step_to_move, updates_to_move, with_room}
use Rattle.dirent_keys.specs.Names.{SeesName, Target, has_name, target_of, updates_to_add, updates_to_remove}
use Rattle.dirent_keys.specs.declared.step.NameStep.TheVariants.{Done, Exists, Crowded}
use Rattle.key_meaning.specs.Forest.{link_named, links_in, links_of}
use Rattle.key_meaning.specs.Visible.{own_value, snaps_of, visible}
use Rattle.key_view.specs.Changes.{SeesThere, needs_whiteout, own_update, updates_to_see}
use Rattle.plain_forest.specs.Steps.{names_per_slot}
use Rattle.snap_tree.specs.Snaps.{IsSnapTree, Snaps, is_ancestor_of}
use Rattle.vol_digest.specs.Digests.{slot_of}
use Rattle.vol_types.specs.KeyMapLaws.{IsKeyMap-with_updates, with_updates-append}
use Rattle.vol_types.specs.KeyMaps.{IsKeyMap, KeyMap, entries_of, with_updates}
use Rattle.vol_types.specs.Maps.{value_at}
use Rattle.vol_types.specs.Ranges.{IsKeyValue, IsName, name_cmp}
use Rattle.vol_types.specs.Standing.{IsUpdate}
use Rattle.vol_types.specs.declared.keys.Update.{Update}
use Rattle.vol_types.specs.declared.positions.Btree.{Btree}
use Rattle.vol_types.specs.declared.positions.Btree.TheVariants.{Dirents}
use Rattle.vol_types.specs.declared.positions.Pos.{Pos}
use Rattle.vol_types.specs.declared.values.Link.{Link}
use Rattle.vol_types.specs.declared.values.Value.{Value}
use Rattle.vol_types.specs.declared.values.Value.TheVariants as values

-- A test of two numbers each, as one of what they are.
pub shared : (from to slot other : ℕ) → (from == to && slot == other) ≡ true → (from ≡ to) × (slot ≡ other)
shared from to slot other is = let parts = and_parts (from == to) (slot == other) is in (eqb-true from to parts.0, eqb-true slot other parts.1)

pub unshared : (from to slot other : ℕ) → (from == to && slot == other) ≡ false → ¬ ((from ≡ to) × (slot ≡ other))
unshared from to slot other is same = true≢false (sym (λ i. eq-eqb from to same.0 i && eq-eqb slot other same.1 i) ∙ is)

-- Names with a further one show as a value, so which updates show them depends on no keys.
pub planned_apart : (one other : KeyMap) (directory slot id : ℕ) (link : Link) (links : List Link)
    → updates_to_see one Dirents directory slot id (names_value (with_link link links)) ≡ updates_to_see other Dirents directory slot id (names_value (with_link link links))
planned_apart one other directory slot id link [] = refl
planned_apart one other directory slot id link (first ∷ links) = by (is_lt (name_cmp link.name first.name))
  where
    by : (b : Bool) → updates_to_see one Dirents directory slot id (names_value (cond b (link ∷ first ∷ links) (first ∷ with_link link links)))
        ≡ updates_to_see other Dirents directory slot id (names_value (cond b (link ∷ first ∷ links) (first ∷ with_link link links)))
    by true = refl
    by false = refl

-- The old name and the new one are two where the new one doesn't show.
pub names_differ : (keys : KeyMap) (id from : ℕ) (name : List ℕ) (to : ℕ) (other : List ℕ) → has_name keys id to other ≡ false → IsMove keys id from name to other → ¬ ((from ≡ to) × (name ≡ other))
names_differ keys id from name to other free move same = ⊎_elim (λ apart. apart same) (λ shows. true≢false (sym shows ∙ (λ i. has_name keys id (same.0 i) (same.1 i)) ∙ free)) move

module _ (keys new : KeyMap) (id from to : ℕ) (name : List ℕ) (link : Link) (apart : ¬ ((from ≡ to) × (name ≡ link.name))) where
  -- where the new name leads
  abbrev pub target : Target
  target = (link.number, link.kind)

  abbrev links : List Link
  links = links_in keys id to (slot_of link.name)

  -- Where both names stand under one slot, what shows there is what was put.
  pub moved_within : (from ≡ to) × (slot_of name ≡ slot_of link.name) → is_some (link_named link.name links) ≡ false
      → SeesThere keys new Dirents to (slot_of link.name) id (names_value (with_link link (without_name name links))) → ((b : Btree) → b ≢ Dirents → entries_of new b ≡ entries_of keys b)
      → MovesName keys new id from name to link.name target
  moved_within same free sees btrees = record {
    gone = (λ i. target_of name (links_in new id (same.0 i) (same.1 i))) ∙ ap (target_of name) now ∙ ap (option_map leads) (found_with link name rest (other_name name link.name names_apart) ∙ found_without name links);
    here = ap (target_of link.name) now ∙ ap (option_map leads) (found_itself link rest (found_apart name link.name links (λ is. names_apart (sym is)) ∙ nothing (link_named link.name links) free));
    names = λ directory slot another one two. by directory slot another one two (directory == to && slot == slot_of link.name) refl;
    elsewhere = λ b i o one two. sees.elsewhere b i o two;
    others = sees.others;
    btrees = btrees;
    ids = sees.ids;
  }
    where
      leads : Link → Target
      leads l = (l.number, l.kind)

      rest : List Link
      rest = without_name name links

      now : links_in new id to (slot_of link.name) ≡ with_link link rest
      now = ap links_of sees.here ∙ held (with_link link rest)

      names_apart : name ≢ link.name
      names_apart is = apart (same.0, is)

      by : (directory slot : ℕ) (another : List ℕ) → ¬ ((directory ≡ from) × (another ≡ name)) → ¬ ((directory ≡ to) × (another ≡ link.name)) → (b : Bool) → (directory == to && slot == slot_of link.name) ≡ b
          → link_named another (links_in new id directory slot) ≡ link_named another (links_in keys id directory slot)
      by directory slot another one two true at =
          let place = shared directory to slot (slot_of link.name) at in
          (λ i. link_named another (links_in new id (place.0 i) (place.1 i)))
          ∙ ap (link_named another) now
          ∙ found_with link another rest (other_name another link.name (λ is. two (place.0, is)))
          ∙ found_apart name another links (λ is. one (place.0 ∙ sym same.0, is))
          ∙ sym (λ i. link_named another (links_in keys id (place.0 i) (place.1 i)))
      by directory slot another one two false at =
          ap (λ (o : Option Value). link_named another (links_of o)) (sees.elsewhere Dirents directory slot (λ is. unshared directory to slot (slot_of link.name) at (is.1, is.2)))

  -- Where they stand under two, the old name goes first and the new one comes then.
  pub moved_between : (middle : KeyMap) → ¬ ((from ≡ to) × (slot_of name ≡ slot_of link.name)) → SeesName keys middle id from name None → SeesName middle new id to link.name (Some target)
      → MovesName keys new id from name to link.name target
  moved_between middle two_slots one two = record {
    gone = ap (λ (o : Option Value). target_of name (links_of o)) (two.elsewhere Dirents from (slot_of name) (λ is. two_slots (is.1, is.2))) ∙ one.here;
    here = two.here;
    names = λ directory slot another old fresh. late directory slot another fresh (directory == to && slot == slot_of link.name) refl ∙ early directory slot another old (directory == from && slot == slot_of name) refl;
    elsewhere = λ b i o old fresh. two.elsewhere b i o fresh ∙ one.elsewhere b i o old;
    others = λ another below b i o. two.others another (ap (λ (s : Snaps). is_ancestor_of s id another) one.ids ∙ below) b i o ∙ one.others another below b i o;
    btrees = λ b other. two.btrees b other ∙ one.btrees b other;
    ids = two.ids ∙ one.ids;
  }
    where
      late : (directory slot : ℕ) (another : List ℕ) → ¬ ((directory ≡ to) × (another ≡ link.name)) → (b : Bool) → (directory == to && slot == slot_of link.name) ≡ b
          → link_named another (links_in new id directory slot) ≡ link_named another (links_in middle id directory slot)
      late directory slot another fresh true at =
          let place = shared directory to slot (slot_of link.name) at in
          (λ i. link_named another (links_in new id (place.0 i) (place.1 i)))
          ∙ two.names.others another (λ is. fresh (place.0, is))
          ∙ sym (λ i. link_named another (links_in middle id (place.0 i) (place.1 i)))
      late directory slot another fresh false at = ap (λ (o : Option Value). link_named another (links_of o)) (two.elsewhere Dirents directory slot (λ is. unshared directory to slot (slot_of link.name) at (is.1, is.2)))

      early : (directory slot : ℕ) (another : List ℕ) → ¬ ((directory ≡ from) × (another ≡ name)) → (b : Bool) → (directory == from && slot == slot_of name) ≡ b
          → link_named another (links_in middle id directory slot) ≡ link_named another (links_in keys id directory slot)
      early directory slot another old true at =
          let place = shared directory from slot (slot_of name) at in
          (λ i. link_named another (links_in middle id (place.0 i) (place.1 i)))
          ∙ one.names.others another (λ is. old (place.0, is))
          ∙ sym (λ i. link_named another (links_in keys id (place.0 i) (place.1 i)))
      early directory slot another old false at = ap (λ (o : Option Value). link_named another (links_of o)) (one.elsewhere Dirents directory slot (λ is. unshared directory from slot (slot_of name) at (is.1, is.2)))

module _ (seen : AreSeen) (keys : KeyMap) (id from : ℕ) (name : List ℕ) (to : ℕ) (link : Link) (is : IsKeyMap keys) (tree : IsSnapTree (snaps_of keys)) (there : IsSome (value_at nat_cmp id (snaps_of keys))) where
  -- the updates of the new slot
  abbrev pub added : Bool → List Update
  added b = updates_to_see keys Dirents to (slot_of link.name) id (names_value (with_link link (cond b (without_name name (links_in keys id to (slot_of link.name))) (links_in keys id to (slot_of link.name)))))

  moved_one : is_some (link_named link.name (links_in keys id to (slot_of link.name))) ≡ false → ¬ ((from ≡ to) × (name ≡ link.name)) → share_slot from name to link.name ≡ true
      → MovesName keys (with_updates (added true) keys) id from name to link.name (link.number, link.kind)
  moved_one free apart one =
      let all = with_link link (without_name name (links_in keys id to (slot_of link.name))) in
      moved_within keys (with_updates (added true) keys) id from to name link apart (shared from to (slot_of name) (slot_of link.name) one) free
      (seen keys Dirents to (slot_of link.name) id (names_value all) is tree not_ids (names_show all) there)
      (λ b other. updates_leave keys to (slot_of link.name) id b other (names_value all))

  moved_two : is_some (link_named link.name (links_in keys id to (slot_of link.name))) ≡ false → ¬ ((from ≡ to) × (name ≡ link.name)) → share_slot from name to link.name ≡ false
      → MovesName keys (with_updates (updates_to_remove keys id from name ++ added false) keys) id from name to link.name (link.number, link.kind)
  moved_two free apart two =
      subst (λ (new : KeyMap). MovesName keys new id from name to link.name (link.number, link.kind)) (sym (with_updates-append (updates_to_remove keys id from name) (added false) keys ∙ ap (λ us. with_updates us middle) (sym planned)))
      (moved_between keys (with_updates (updates_to_add middle id to link) middle) id from to name link apart middle two_slots first
      (added_sees seen middle id to (IsKeyMap-with_updates (updates_to_remove keys id from name) keys is) (subst IsSnapTree (sym first.ids) tree) (subst (λ (s : Snaps). IsSome (value_at nat_cmp id s)) (sym first.ids) there) link
      (ap (λ (ls : List Link). is_some (link_named link.name ls)) same ∙ free)))
    where
      middle : KeyMap
      middle = with_updates (updates_to_remove keys id from name) keys

      two_slots : ¬ ((from ≡ to) × (slot_of name ≡ slot_of link.name))
      two_slots = unshared from to (slot_of name) (slot_of link.name) two

      first : SeesName keys middle id from name None
      first = removed_sees seen keys id from is tree there name

      same : links_in middle id to (slot_of link.name) ≡ links_in keys id to (slot_of link.name)
      same = ap links_of (first.elsewhere Dirents to (slot_of link.name) (λ at. two_slots (sym at.1, sym at.2)))

      planned : updates_to_add middle id to link ≡ added false
      planned = ap (λ (ls : List Link). updates_to_see middle Dirents to (slot_of link.name) id (names_value (with_link link ls))) same ∙ planned_apart middle keys to (slot_of link.name) id link (links_in keys id to (slot_of link.name))

  -- After the updates that move a name the id doesn't see the old one, and sees the new one.
  pub moved_sees : has_name keys id to link.name ≡ false → IsMove keys id from name to link.name → MovesName keys (with_updates (updates_to_move keys id from name to link) keys) id from name to link.name (link.number, link.kind)
  moved_sees free move = by (share_slot from name to link.name) refl
    where
      apart : ¬ ((from ≡ to) × (name ≡ link.name))
      apart = names_differ keys id from name to link.name free move

      new : is_some (link_named link.name (links_in keys id to (slot_of link.name))) ≡ false
      new = sym (mapped (λ (l : Link). (l.number, l.kind)) (link_named link.name (links_in keys id to (slot_of link.name)))) ∙ free

      by : (b : Bool) → share_slot from name to link.name ≡ b → MovesName keys (with_updates (cond b [] (updates_to_remove keys id from name) ++ added b) keys) id from name to link.name (link.number, link.kind)
      by true one = moved_one new apart one
      by false two = moved_two new apart two

-- The updates after which names show may be made, where these may stand there.
to_see_fit : (keys : KeyMap) (directory slot id : ℕ) (value : Option Value) → IsUpdate (own_update Dirents directory slot id value) → All IsUpdate (updates_to_see keys Dirents directory slot id value)
to_see_fit keys directory slot id (Some value) may = All-cons IsUpdate (own_update Dirents directory slot id (Some value)) [] may (All-nil IsUpdate)
to_see_fit keys directory slot id None may = by (needs_whiteout keys Dirents directory slot id) (is_some (own_value keys Dirents directory slot id))
  where
    by : (hides has : Bool) → All IsUpdate (cond hides (own_update Dirents directory slot id (Some values.White) ∷ []) (cond has (own_update Dirents directory slot id None ∷ []) []))
    by true has = All-cons IsUpdate (own_update Dirents directory slot id (Some values.White)) [] (whiteout_fits directory slot id) (All-nil IsUpdate)
    by false true = All-cons IsUpdate (own_update Dirents directory slot id None) [] may (All-nil IsUpdate)
    by false false = All-nil IsUpdate

-- What isn't found among names isn't found without one of them.
pub found_less : (another name : List ℕ) (links : List Link) → link_named another links ≡ None → link_named another (without_name name links) ≡ None
found_less another name links none = by (is_eq (name_cmp another name)) refl
  where
    by : (b : Bool) → is_eq (name_cmp another name) ≡ b → link_named another (without_name name links) ≡ None
    by true is = ap (λ n. link_named n (without_name name links)) (one_name another name is) ∙ found_without name links
    by false is = found_apart name another links (λ same. true≢false (sym (own_name another) ∙ ap (λ n. is_eq (name_cmp another n)) same ∙ is)) ∙ none

-- Fewer names may share a slot too.
may_share_without : (name : List ℕ) (links : List Link) → MayShare links → MayShare (without_name name links)
may_share_without name links may = record {
  count = let fewer = count_without name links in let most = may.count in omega (arith, fewer, most);
  each = all_without (λ (l : Link). IsName l.name) name links may.each;
  rise = rise_without name links may.rise;
}

-- The names that are left under the old slot may be put,
pub left_may : (keys : KeyMap) (id from : ℕ) (name : List ℕ) → IsKeyValue (visible keys Dirents from (slot_of name) id)
    → IsUpdate (own_update Dirents from (slot_of name) id (names_value (without_name name (links_in keys id from (slot_of name)))))
left_may keys id from name fits =
    let old = links_in keys id from (slot_of name) in
    rest_fits from (slot_of name) id (without_name name old) (λ some. are_links_without name old (may_share (visible keys Dirents from (slot_of name) id) fits) some)

module _ (keys : KeyMap) (id from : ℕ) (name : List ℕ) (to : ℕ) (link : Link) (named : IsName link.name) where
  abbrev there : List Link
  there = links_in keys id to (slot_of link.name)

  -- the names with which the new one stands
  abbrev beside : Bool → List Link
  beside b = cond b (without_name name there) there

  may_share_beside : (b : Bool) → MayShare there → MayShare (beside b)
  may_share_beside true may = may_share_without name there may
  may_share_beside false may = may

  missing : (b : Bool) → has_name keys id to link.name ≡ false → link_named link.name (beside b) ≡ None
  missing b free = by b (nothing (link_named link.name there) (sym (mapped (λ (l : Link). (l.number, l.kind)) (link_named link.name there)) ∙ free))
    where
      by : (b : Bool) → link_named link.name there ≡ None → link_named link.name (beside b) ≡ None
      by true none = found_less link.name name there none
      by false none = none

  fits_beside : (b : Bool) → MayShare there → nat_le names_per_slot (length (beside b)) ≡ false → link_named link.name (beside b) ≡ None → IsUpdate (own_update Dirents to (slot_of link.name) id (names_value (with_link link (beside b))))
  fits_beside b may few unfound =
      rest_fits to (slot_of link.name) id (with_link link (beside b)) (λ some. are_links_with link (beside b) (may_share_beside b may) named (let below = leb-false names_per_slot (length (beside b)) few in omega (arith, below)) unfound)

  -- and so may the new one with those of its slot.
  pub new_may : has_name keys id to link.name ≡ false → nat_le names_per_slot (length (links_left keys id from name to link.name)) ≡ false → IsKeyValue (visible keys Dirents to (slot_of link.name) id)
      → (b : Bool) → share_slot from name to link.name ≡ b → IsUpdate (own_update Dirents to (slot_of link.name) id (names_value (with_link link (beside b))))
  new_may free few fits b is = fits_beside b (may_share (visible keys Dirents to (slot_of link.name) id) fits) (ap (λ t. nat_le names_per_slot (length (beside t))) (sym is) ∙ few) (missing b free)

  -- The updates that move a name may be made.
  pub moved_fits : has_name keys id to link.name ≡ false → nat_le names_per_slot (length (links_left keys id from name to link.name)) ≡ false
      → IsKeyValue (visible keys Dirents from (slot_of name) id) → IsKeyValue (visible keys Dirents to (slot_of link.name) id) → All IsUpdate (updates_to_move keys id from name to link)
  moved_fits free few old new = by (share_slot from name to link.name) refl
    where
      put : (b : Bool) → share_slot from name to link.name ≡ b → All IsUpdate (updates_to_see keys Dirents to (slot_of link.name) id (names_value (with_link link (beside b))))
      put b is = to_see_fit keys to (slot_of link.name) id (names_value (with_link link (beside b))) (new_may free few new b is)

      by : (b : Bool) → share_slot from name to link.name ≡ b
          → All IsUpdate (cond b [] (updates_to_remove keys id from name) ++ updates_to_see keys Dirents to (slot_of link.name) id (names_value (with_link link (beside b))))
      by true is = put true is
      by false is =
          All-append IsUpdate (updates_to_remove keys id from name) (updates_to_see keys Dirents to (slot_of link.name) id (names_value (with_link link there)))
          (to_see_fit keys from (slot_of name) id (names_value (without_name name (links_in keys id from (slot_of name)))) (left_may keys id from name old)) (put false is)

-- Names that have room are few,
pub has_room : (here left : List Link) (result : Option (List Link)) → result ≡ with_room here → result ≡ Some left → (left ≡ here) × (nat_le names_per_slot (length here) ≡ false)
has_room here left result is some = by (nat_le names_per_slot (length here)) refl (sym is ∙ some)
  where
    by : (b : Bool) → nat_le names_per_slot (length here) ≡ b → cond b None (Some here) ≡ Some left → (left ≡ here) × (nat_le names_per_slot (length here) ≡ false)
    by true many same = absurd (none_some left same)
    by false few same = (sym (same_Some here left same), few)

-- and those that have none are many.
pub has_no_room : (here : List Link) (result : Option (List Link)) → result ≡ with_room here → result ≡ None → nat_le names_per_slot (length here) ≡ true
has_no_room here result is none = by (nat_le names_per_slot (length here)) refl (sym is ∙ none)
  where
    by : (b : Bool) → nat_le names_per_slot (length here) ≡ b → cond b None (Some here) ≡ None → nat_le names_per_slot (length here) ≡ true
    by true many same = many
    by false few same = absurd (none_some here (sym same))

-- Where the keys of both places stand, what was left and put there is what the keys give.
module _ (keys : KeyMap) (id from : ℕ) (name : List ℕ) (to : ℕ) (link : Link) (old new : Pos) (olds : old ≡ record { inode = from; offset = slot_of name; snapshot = id }) (news : new ≡ record { inode = to; offset = slot_of link.name; snapshot = id }) where
  sharing : (old.inode == new.inode && old.offset == new.offset) ≡ share_slot from name to link.name
  sharing i = (olds i).inode == (news i).inode && (olds i).offset == (news i).offset

  pub left_placed : (asked : List ℕ) (here : List Link) → asked ≡ name → here ≡ links_in keys id to (slot_of link.name)
      → cond (old.inode == new.inode && old.offset == new.offset) (without_name asked here) here ≡ links_left keys id from name to link.name
  left_placed asked here same are i = cond (sharing i) (without_name (same i) (are i)) (are i)

  pub moved_placed : (asked : List ℕ) (left all : List Link) (updates : List Update) → asked ≡ name → left ≡ links_left keys id from name to link.name → all ≡ with_link link left
      → updates ≡ cond (old.inode == new.inode && old.offset == new.offset) [] (updates_to_see keys Dirents old.inode old.offset old.snapshot (names_value (without_name asked (links_in keys old.snapshot old.inode old.offset))))
      ++ updates_to_see keys Dirents new.inode new.offset new.snapshot (names_value all) → updates ≡ updates_to_move keys id from name to link
  moved_placed asked left all updates same left_is all_is is =
      is
      ∙ (λ i. cond (sharing i) [] (updates_to_see keys Dirents (olds i).inode (olds i).offset (olds i).snapshot (names_value (without_name (same i) (links_in keys (olds i).snapshot (olds i).inode (olds i).offset)))) ++ updates_to_see keys Dirents (news i).inode (news i).offset (news i).snapshot (names_value ((all_is ∙ ap (with_link link) left_is) i)))

module _ (keys : KeyMap) (id from : ℕ) (name : List ℕ) (to : ℕ) (link : Link) where
  -- The new name exists where it shows,
  pub move_exists : has_name keys id to link.name ≡ true → Exists ≡ step_to_move keys id from name to link
  move_exists shows = sym (ap (λ b. cond b Exists (cond (nat_le names_per_slot (length (links_left keys id from name to link.name))) Crowded (Done (updates_to_move keys id from name to link)))) shows)

  -- is crowded out where it doesn't and its slot is full without the old one,
  pub move_crowded : has_name keys id to link.name ≡ false → nat_le names_per_slot (length (links_left keys id from name to link.name)) ≡ true → Crowded ≡ step_to_move keys id from name to link
  move_crowded free many = sym (λ i. cond (free i) Exists (cond (many i) Crowded (Done (updates_to_move keys id from name to link))))

  -- and comes in its place else.
  pub move_done : has_name keys id to link.name ≡ false → nat_le names_per_slot (length (links_left keys id from name to link.name)) ≡ false → (updates : List Update) → updates ≡ updates_to_move keys id from name to link
      → Done updates ≡ step_to_move keys id from name to link
  move_done free few updates is = ap Done is ∙ sym (λ i. cond (free i) Exists (cond (few i) Crowded (Done (updates_to_move keys id from name to link))))
