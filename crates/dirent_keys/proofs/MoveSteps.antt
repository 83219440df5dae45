-- A name that moves as a name less and one more, and what may stand under its slots then.
use Rattle.std.proofs.Common.{◌≡◌, ℕ, Bool, true, false, cond, Option, Some, None, List, [], ◌++◌, refl, sym, ap, ◌∙◌, length, inl, inr}
use Rattle.std.specs.Ordering.{is_eq}
use Rattle.std.specs.Prelude.{◌==◌, ◌&&◌, ◌⊎◌, nat_le}
use Rattle.std.proofs.lemmas.Bool.{eq-eqb}
use Rattle.std.proofs.lemmas.List.Elements.{All-weaker}
use Rattle.std.proofs.lemmas.Option.{same_Some, none-some as none_some}
use Rattle.dirent_keys.proofs.Changed.{adds_name, all_in_it, takes_name}
use Rattle.dirent_keys.proofs.Counting.{mapped}
use Rattle.dirent_keys.proofs.Listed.{nothing, other_name}
use Rattle.dirent_keys.proofs.Moved.{found_less, names_differ, shared, unshared}
use Rattle.dirent_keys.proofs.Ordered.{all_with, all_without}
use Rattle.dirent_keys.specs.Links.{names_value, with_link, without_name}
use Rattle.dirent_keys.specs.Moves.{IsMove, links_left, share_slot, shown_moved, step_to_move, updates_to_move}
use Rattle.dirent_keys.specs.Names.{has_name, updates_to_add, updates_to_remove}
use Rattle.dirent_keys.specs.declared.step.NameStep.{NameStep}
use Rattle.dirent_keys.specs.declared.step.NameStep.TheVariants.{Done, Exists, Crowded}
use Rattle.key_meaning.specs.Blocks.{block_in}
use Rattle.key_meaning.specs.Forest.{inode_in, link_named, links_in}
use Rattle.key_meaning.specs.SoundLaws.{IsIn}
use Rattle.key_steps.specs.Names.{AddsName, TakesName}
use Rattle.key_steps.specs.Shown.{shown_in, with_links}
use Rattle.key_steps.specs.Steps.{IsNewLink, MayStandUnder}
use Rattle.key_view.specs.Changes.{updates_to_see}
use Rattle.plain_forest.specs.Steps.{names_per_slot}
use Rattle.vol_digest.specs.Digests.{slot_of}
use Rattle.vol_types.specs.KeyMaps.{KeyMap}
use Rattle.vol_types.specs.Ranges.{name_cmp}
use Rattle.vol_types.specs.declared.keys.Update.{Update}
use Rattle.vol_types.specs.declared.positions.Btree.TheVariants.{Dirents}
use Rattle.vol_types.specs.declared.values.Link.{Link}

module _ (keys : KeyMap) (id from : ℕ) (name : List ℕ) (to : ℕ) (link : Link) where
  abbrev pub there : List Link
  there = links_in keys id to (slot_of link.name)

  abbrev pub old : List Link
  old = links_in keys id from (slot_of name)

  -- A name that doesn't show isn't found under its slot.
  pub unfound : has_name keys id to link.name ≡ false → link_named link.name there ≡ None
  unfound free = nothing (link_named link.name there) (sym (mapped (λ (l : Link). (l.number, l.kind)) (link_named link.name there)) ∙ free)

  -- the updates of a move within one slot, or between two
  abbrev pub moved_by : Bool → List Update
  moved_by b = cond b [] (updates_to_remove keys id from name) ++ updates_to_see keys Dirents to (slot_of link.name) id (names_value (with_link link (cond b (without_name name there) there)))

  -- Under one slot the name is taken, and the new one is added to what is left.
  pub moved_together : share_slot from name to link.name ≡ true → has_name keys id to link.name ≡ false
      → (updates_to_move keys id from name to link ≡ updates_to_see keys Dirents to (slot_of link.name) id (names_value (with_link link (without_name name there)))) × TakesName name there (without_name name there) × AddsName link (without_name name there) (with_link link (without_name name there))
  moved_together one free = (ap moved_by one, takes_name name there, adds_name link (without_name name there) (found_less link.name name there (unfound free)))

  -- Under two slots each change is of its own.
  pub moved_apart : share_slot from name to link.name ≡ false → has_name keys id to link.name ≡ false
      → (updates_to_move keys id from name to link ≡ updates_to_remove keys id from name ++ updates_to_add keys id to link) × TakesName name old (without_name name old) × AddsName link there (with_link link there)
  moved_apart two free = (ap moved_by two, takes_name name old, adds_name link there (unfound free))

  -- the updates of a step that is done
  abbrev updates_of : NameStep → Option (List Update)
  updates_of (Done updates) = Some updates
  updates_of Exists = None
  updates_of Crowded = None

  -- The new name is free, its slot has room, and these are the updates of the move.
  pub record IsDone (updates : List Update) : Type 0 where
    pub free : has_name keys id to link.name ≡ false
    pub few : nat_le names_per_slot (length (links_left keys id from name to link.name)) ≡ false
    pub is : updates ≡ updates_to_move keys id from name to link

  -- So it is where the step is done.
  pub done_is : (updates : List Update) → step_to_move keys id from name to link ≡ Done updates → IsDone updates
  done_is updates done = by (has_name keys id to link.name) (nat_le names_per_slot (length (links_left keys id from name to link.name))) refl refl (ap updates_of done)
    where
      by : (there many : Bool) → has_name keys id to link.name ≡ there → nat_le names_per_slot (length (links_left keys id from name to link.name)) ≡ many
          → updates_of (cond there Exists (cond many Crowded (Done (updates_to_move keys id from name to link)))) ≡ Some updates → IsDone updates
      by true many free few same = absurd (none_some updates same)
      by false true free few same = absurd (none_some updates same)
      by false false free few same = record { free = free; few = few; is = sym (same_Some (updates_to_move keys id from name to link) updates same) }

-- Names that are left under a slot may stand there still,
pub left_stand : (keys : KeyMap) (id directory slot : ℕ) (name : List ℕ) → MayStandUnder keys id directory slot (without_name name (links_in keys id directory slot))
left_stand keys id directory slot name =
    all_without (λ (l : Link). IsIn l (links_in keys id directory slot) ⊎ IsNewLink keys l) name (links_in keys id directory slot)
    (All-weaker (λ (l : Link). IsIn l (links_in keys id directory slot)) (λ (l : Link). IsIn l (links_in keys id directory slot) ⊎ IsNewLink keys l) (λ (l : Link) (is : IsIn l (links_in keys id directory slot)). inl is) (links_in keys id directory slot) (all_in_it (links_in keys id directory slot)))

-- so may all of them,
pub all_stand : (keys : KeyMap) (id directory slot : ℕ) → MayStandUnder keys id directory slot (links_in keys id directory slot)
all_stand keys id directory slot =
    All-weaker (λ (l : Link). IsIn l (links_in keys id directory slot)) (λ (l : Link). IsIn l (links_in keys id directory slot) ⊎ IsNewLink keys l) (λ (l : Link) (is : IsIn l (links_in keys id directory slot)). inl is) (links_in keys id directory slot) (all_in_it (links_in keys id directory slot))

-- and a new one with them.
pub more_stand : (keys : KeyMap) (id directory slot : ℕ) (link : Link) (links : List Link) → IsNewLink keys link → MayStandUnder keys id directory slot links → MayStandUnder keys id directory slot (with_link link links)
more_stand keys id directory slot link links new stand = all_with (λ (l : Link). IsIn l (links_in keys id directory slot) ⊎ IsNewLink keys l) link links (inr new) stand

-- A place that is tested either way round.
turned : (one other slot place : ℕ) (b : Bool) → (one == other && slot == place) ≡ b → (other == one && place == slot) ≡ b
turned one other slot place true is = let same = shared one other slot place is in λ i. eq-eqb other one (sym same.0) i && eq-eqb place slot (sym same.1) i
turned one other slot place false is = by (other == one && place == slot) refl
  where
    by : (b : Bool) → (other == one && place == slot) ≡ b → b ≡ false
    by false back = refl
    by true back = let same = shared other one place slot back in absurd (unshared one other slot place is (sym same.0, sym same.1))

module _ (keys : KeyMap) (id from : ℕ) (name : List ℕ) (to : ℕ) (link : Link) where
  abbrev here : List Link
  here = links_in keys id to (slot_of link.name)

  abbrev gone : List Link
  gone = links_in keys id from (slot_of name)

  -- what shows in the end under a slot, by whether it is the old one, the new one, and both are one
  abbrev in_end : ℕ → ℕ → Bool → Bool → Bool → List Link
  in_end directory slot one old new = cond old (without_name name (cond one (with_link link here) gone)) (cond new (with_link link here) (links_in keys id directory slot))

  -- Under one slot the names are the same in either order.
  pub shown_together : share_slot from name to link.name ≡ true → without_name name (with_link link here) ≡ with_link link (without_name name here)
      → with_links to (slot_of link.name) (with_link link (without_name name here)) (shown_in keys id) ≡ shown_moved keys id from name to link
  shown_together one same i = record { inodes = inode_in keys id; links = λ directory slot. each directory slot i; blocks = block_in keys id }
    where
      place : (from ≡ to) × (slot_of name ≡ slot_of link.name)
      place = shared from to (slot_of name) (slot_of link.name) one

      by : (directory slot : ℕ) (b : Bool) → cond b (with_link link (without_name name here)) (links_in keys id directory slot) ≡ in_end directory slot true b b
      by directory slot true = sym same
      by directory slot false = refl

      each : (directory slot : ℕ) → cond (to == directory && slot_of link.name == slot) (with_link link (without_name name here)) (links_in keys id directory slot)
          ≡ in_end directory slot (to == from && slot_of link.name == slot_of name) (from == directory && slot_of name == slot) (to == directory && slot_of link.name == slot)
      each directory slot =
          by directory slot (to == directory && slot_of link.name == slot)
          ∙ (λ i. in_end directory slot (sym (turned from to (slot_of name) (slot_of link.name) true one) i) (sym place.0 i == directory && sym place.1 i == slot) (to == directory && slot_of link.name == slot))

  -- Under two slots each has its own.
  pub shown_apart : share_slot from name to link.name ≡ false
      → with_links to (slot_of link.name) (with_link link here) (with_links from (slot_of name) (without_name name gone) (shown_in keys id)) ≡ shown_moved keys id from name to link
  shown_apart two i = record { inodes = inode_in keys id; links = λ directory slot. each directory slot i; blocks = block_in keys id }
    where
      by : (directory slot : ℕ) (old new : Bool) → (from == directory && slot_of name == slot) ≡ old → (to == directory && slot_of link.name == slot) ≡ new
          → cond new (with_link link here) (cond old (without_name name gone) (links_in keys id directory slot)) ≡ in_end directory slot false old new
      by directory slot true true at_old at_new =
          let one = shared from directory (slot_of name) slot at_old in
          let other = shared to directory (slot_of link.name) slot at_new in
          absurd (unshared from to (slot_of name) (slot_of link.name) two (one.0 ∙ sym other.0, one.1 ∙ sym other.1))
      by directory slot true false at_old at_new = refl
      by directory slot false true at_old at_new = refl
      by directory slot false false at_old at_new = refl

      each : (directory slot : ℕ) → cond (to == directory && slot_of link.name == slot) (with_link link here) (cond (from == directory && slot_of name == slot) (without_name name gone) (links_in keys id directory slot))
          ≡ in_end directory slot (to == from && slot_of link.name == slot_of name) (from == directory && slot_of name == slot) (to == directory && slot_of link.name == slot)
      each directory slot =
          by directory slot (from == directory && slot_of name == slot) (to == directory && slot_of link.name == slot) refl refl
          ∙ (λ i. in_end directory slot (sym (turned from to (slot_of name) (slot_of link.name) false two) i) (from == directory && slot_of name == slot) (to == directory && slot_of link.name == slot))

  -- The old name isn't the new one, where they share a slot and the new one is free.
  pub names_two : share_slot from name to link.name ≡ true → has_name keys id to link.name ≡ false → IsMove keys id from name to link.name → is_eq (name_cmp name link.name) ≡ false
  names_two one free move = other_name name link.name (λ same. names_differ keys id from name to link.name free move ((shared from to (slot_of name) (slot_of link.name) one).0, same))
