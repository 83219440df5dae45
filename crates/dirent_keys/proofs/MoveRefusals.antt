-- A move is refused where the forest refuses it, and as the forest does.
use Rattle.std.proofs.Common.{◌≡◌, ℕ, Bool, true, false, cond, None, List, refl, sym, ap, ◌∙◌, length, map}
use Rattle.std.specs.Prelude.{◌==◌, ◌&&◌, All, is_some, nat_le, option_map}
use Rattle.std.specs.Ordering.{is_eq}
use Rattle.std.proofs.lemmas.Bool.{true≢false}
use Rattle.std.proofs.lemmas.Cmp.{nat_list_cmp_total}
use Rattle.dirent_keys.proofs.Counting.{chain, counted, counted_as, led_in_slot, mapped, none_of_slot}
use Rattle.dirent_keys.proofs.Listed.{found_apart, found_without, one_name, own_name}
use Rattle.dirent_keys.proofs.Ordered.{rise_without}
use Rattle.dirent_keys.proofs.Seeing.{may_share}
use Rattle.dirent_keys.proofs.Sounding.{shown_in_range, under_slot}
use Rattle.dirent_keys.specs.Links.{without_name}
use Rattle.dirent_keys.specs.Moves.{check_move, links_left, step_to_move, updates_to_move}
use Rattle.dirent_keys.specs.Names.{has_name, refusal_of}
use Rattle.dirent_keys.specs.declared.step.NameStep.TheVariants as steps
use Rattle.key_meaning.specs.Checks.{AreNamesJoined, IsLiveLeaf}
use Rattle.key_meaning.specs.Forest.{link_named, links_in, names_in}
use Rattle.key_meaning.specs.ForestLaws.{name_at, names_rise}
use Rattle.key_meaning.specs.TableLaws.{none_both}
use Rattle.key_meaning.specs.Tidy.{AreKeysDrawn}
use Rattle.key_meaning.specs.Visible.{visible}
use Rattle.plain_forest.specs.Forest.{Names}
use Rattle.plain_forest.specs.Steps.{count_in_slot, names_per_slot}
use Rattle.vol_digest.specs.Digests.{slot_of}
use Rattle.vol_types.specs.KeyMaps.{KeyMap}
use Rattle.vol_types.specs.MapLaws.{IsMap-without, value_at-without}
use Rattle.vol_types.specs.Maps.{value_at, without}
use Rattle.vol_types.specs.Ranges.{Rise, name_cmp}
use Rattle.vol_types.specs.declared.positions.Btree.TheVariants.{Dirents}
use Rattle.vol_types.specs.declared.values.Link.{Link}

module _ (keys : KeyMap) (id directory slot : ℕ) (name : List ℕ) (rise : Rise name_cmp (map (λ link. link.name) (links_in keys id directory slot))) (under : All (λ link. slot_of link.name ≡ slot) (links_in keys id directory slot)) where
  abbrev names : Names
  names = names_in keys id directory

  abbrev links : List Link
  links = links_in keys id directory slot

  -- the names under the slot without this one, if it has the slot
  abbrev pub less : Bool → List Link
  less here = cond here (without_name name links) links

  less_rise : (here : Bool) → Rise name_cmp (map (λ link. link.name) (less here))
  less_rise true = rise_without name links rise
  less_rise false = rise

  less_found : (here : Bool) → (slot_of name == slot) ≡ here → (other : List ℕ) (same : Bool) → is_eq (name_cmp name other) ≡ same
      → cond (slot_of other == slot) (cond same None (value_at name_cmp other names)) None ≡ option_map (λ (l : Link). l.number) (link_named other (less here))
  less_found true at other true is = none_both (slot_of other == slot) ∙ sym (ap (option_map (λ (l : Link). l.number)) (ap (λ n. link_named n (without_name name links)) (sym (one_name name other is)) ∙ found_without name links))
  less_found false at other true is =
      none_both (slot_of other == slot)
      ∙ sym (ap (option_map (λ (l : Link). l.number)) (ap (λ n. link_named n links) (sym (one_name name other is)) ∙ none_of_slot slot name links under at))
  less_found true at other false is =
      led_in_slot keys id directory slot under other
      ∙ sym (ap (option_map (λ (l : Link). l.number)) (found_apart name other links (λ same. true≢false (sym (own_name name) ∙ ap (λ n. is_eq (name_cmp name n)) (sym same) ∙ is))))
  less_found false at other false is = led_in_slot keys id directory slot under other

  -- Without one name a directory has as many under a slot as show there without it.
  pub counted_less : (here : Bool) → (slot_of name == slot) ≡ here → count_in_slot slot (without name_cmp name names) ≡ length (less here)
  counted_less here at =
      counted_as (without name_cmp name names) (less here) slot (IsMap-without nat_list_cmp_total name names (names_rise keys id directory)) (less_rise here)
      (λ other. ap (λ o. cond (slot_of other == slot) o None) (value_at-without nat_list_cmp_total name other names (names_rise keys id directory)) ∙ less_found here at other (is_eq (name_cmp name other)) refl)

  -- So it is where the name goes from this directory, or from another one.
  pub counted_left : (within here : Bool) → (slot_of name == slot) ≡ here → count_in_slot slot (cond within (without name_cmp name names) names) ≡ length (cond (within && here) (without_name name links) links)
  counted_left true here at = counted_less here at
  counted_left false here at = counted keys id directory slot rise under

-- So a move is refused as the forest refuses it.
pub move_refused : (keys : KeyMap) (id from : ℕ) (name : List ℕ) (to : ℕ) (link : Link) → AreKeysDrawn keys → AreNamesJoined keys → IsLiveLeaf keys id
    → check_move (from == to) name link.name (names_in keys id to) ≡ refusal_of (step_to_move keys id from name to link)
move_refused keys id from name to link drawn joined live =
    (λ i. chain (shown i) (nat_le names_per_slot (left i)))
    ∙ by (has_name keys id to link.name) (nat_le names_per_slot (length (links_left keys id from name to link.name)))
  where
    shown : is_some (value_at name_cmp link.name (names_in keys id to)) ≡ has_name keys id to link.name
    shown =
        ap is_some (name_at keys id to link.name)
        ∙ mapped (λ (l : Link). l.number) (link_named link.name (links_in keys id to (slot_of link.name)))
        ∙ sym (mapped (λ (l : Link). (l.number, l.kind)) (link_named link.name (links_in keys id to (slot_of link.name))))

    left : count_in_slot (slot_of link.name) (cond (from == to) (without name_cmp name (names_in keys id to)) (names_in keys id to)) ≡ length (links_left keys id from name to link.name)
    left =
        counted_left keys id to (slot_of link.name) name (may_share (visible keys Dirents to (slot_of link.name) id) (shown_in_range keys drawn Dirents to (slot_of link.name) id)).rise
        (under_slot keys id to (slot_of link.name) (links_in keys id to (slot_of link.name)) (joined.each id to (slot_of link.name) live)) (from == to) (slot_of name == slot_of link.name) refl

    by : (there many : Bool) → chain there many ≡ refusal_of (cond there steps.Exists (cond many steps.Crowded (steps.Done (updates_to_move keys id from name to link))))
    by true many = refl
    by false true = refl
    by false false = refl
