-- Other names under a slot of a directory in a live leaf, whatever they are: what shows then, and what stays.
use Rattle.std.proofs.Common.{◌≡◌, ℕ, Bool, true, false, cond, Option, Some, List, refl, sym, ap, ◌∙◌, subst, inl}
use Rattle.std.specs.Prelude.{◌==◌, ◌&&◌, All, is_some, option_map}
use Rattle.std.proofs.lemmas.Bool.{eq-eqb, eqb-true, false≢true, true≢false}
use Rattle.std.proofs.lemmas.List.Elements.{All-nil}
use Rattle.key_meaning.specs.Checks.{IsLiveLeaf}
use Rattle.key_meaning.specs.CounterLaws.{entries_other}
use Rattle.key_meaning.specs.Forest.{counter_in, inode_in, inode_of, links_in, links_of}
use Rattle.key_meaning.specs.Tidy.{HasGoodNames, IsDrawn, IsKeyOf}
use Rattle.key_meaning.specs.VisibleLaws.{visible-other}
use Rattle.key_steps.proofs.Staying.{IsKeptButOwners, IsOfFiles, LeavesElse, after_updates, below_where, but_owners, extents_stay, gone_where, leaf_is_small, leaves_all, made_step, noted_where, of_this_one, owned_where, snaps_stay, update_keeps, update_leaves, white_may}
use Rattle.key_steps.specs.Kept.{IsKept}
use Rattle.key_steps.specs.Shown.{shown_in, with_links}
use Rattle.key_steps.specs.Steps.{Steps}
use Rattle.key_view.specs.Changes.{SeesThere, own_update, updates_to_see}
use Rattle.plain_forest.specs.Names.{is_good_name}
use Rattle.vol_types.specs.KeyMaps.{KeyMap, is_update_of, with_update, with_updates}
use Rattle.vol_types.specs.Ranges.{IsKeyValue}
use Rattle.vol_types.specs.Standing.{IsUpdate, Stands}
use Rattle.vol_types.specs.declared.layout.Layout.{Layout}
use Rattle.vol_types.specs.declared.pointers.Place.{Place}
use Rattle.vol_types.specs.declared.positions.Btree.{Btree}
use Rattle.vol_types.specs.declared.positions.Btree.TheVariants.{Deleted, Dirents, Inodes}
use Rattle.vol_types.specs.declared.values.Inode.{Inode}
use Rattle.vol_types.specs.declared.values.Link.{Link}
use Rattle.vol_types.specs.declared.values.Value.{Value}
use Rattle.vol_types.specs.declared.values.Value.TheVariants as values

-- After updates of names in an id all is kept, but maybe that blocks have owners, and all inodes and notes are left.
pub record SetsNames (keys new : KeyMap) (nodes : List Place) (layout : Layout) (id : ℕ) : Type 0 where
  pub kept : IsKeptButOwners new nodes layout
  pub leaves : LeavesElse keys new id
  pub inodes : (other n : ℕ) → inode_in new other n ≡ inode_in keys other n
  pub deleted : new.deleted ≡ keys.deleted

module _ (keys : KeyMap) (nodes : List Place) (layout : Layout) (id directory slot : ℕ) (kept : IsKept keys nodes layout) (leaf : IsLiveLeaf keys id) (drawn : IsDrawn keys directory) where
  -- one update sets names
  one_sets : (value : Option Value) → IsUpdate (own_update Dirents directory slot id value) → All (λ (link : Link). IsDrawn keys link.number) (links_of value) → All (λ (link : Link). is_good_name link.name ≡ true) (links_of value)
      → SetsNames keys (with_update (own_update Dirents directory slot id value) keys) nodes layout id
  one_sets value may leads good = record {
    kept = update_keeps (own_update Dirents directory slot id value) keys kept.is_map files nodes layout (ap is_some leaf.found) keyed names_are_good
        (below_where keys (with_update (own_update Dirents directory slot id value) keys) (snaps_stay (own_update Dirents directory slot id value) keys kept.is_map files) (extents_stay (own_update Dirents directory slot id value) keys kept.is_map files) inodes kept.below)
        (gone_where (own_update Dirents directory slot id value) keys kept.is_map files (λ other n none. inodes other n ∙ none) (λ of. absurd (false≢true of)) kept.gone)
        (but_owners keys nodes layout kept);
    leaves = update_leaves (own_update Dirents directory slot id value) keys kept.is_map files;
    inodes = inodes;
    deleted = entries_other (own_update Dirents directory slot id value) keys Deleted refl;
  }
    where
      files : IsOfFiles (own_update Dirents directory slot id value)
      files = record { extents = refl; subvols = refl; snaps = refl; alloc = refl; backptrs = refl; counters = refl }

      inodes : (other n : ℕ) → inode_in (with_update (own_update Dirents directory slot id value) keys) other n ≡ inode_in keys other n
      inodes other n = ap inode_of (visible-other (own_update Dirents directory slot id value) keys kept.is_map refl Inodes 0 n other refl)

      keyed : (btree : Btree) → is_update_of btree (own_update Dirents directory slot id value) ≡ true → (put : Value) → value ≡ Some put → IsKeyOf keys btree ((own_update Dirents directory slot id value).pos, put)
      keyed btree of put at = of_this_one (λ b. IsKeyOf keys b ((own_update Dirents directory slot id value).pos, put)) Dirents btree directory slot id value
          (record {
            stands = subst (Stands Dirents 0) at may.stands;
            in_range = subst IsKeyValue at may.in_range;
            place = tt;
            id = leaf_is_small keys id kept.drawn leaf;
            numbers = (drawn, subst (λ (o : Option Value). All (λ (link : Link). IsDrawn keys link.number) (links_of o)) at leads);
          }) of

      names_are_good : is_update_of Dirents (own_update Dirents directory slot id value) ≡ true → (put : Value) → value ≡ Some put → HasGoodNames ((own_update Dirents directory slot id value).pos, put)
      names_are_good of put at = subst (λ (o : Option Value). All (λ (link : Link). is_good_name link.name ≡ true) (links_of o)) at good

  module _ (value : Option Value) (may : IsUpdate (own_update Dirents directory slot id value)) (leads : All (λ (link : Link). IsDrawn keys link.number) (links_of value)) (good : All (λ (link : Link). is_good_name link.name ≡ true) (links_of value)) where
    abbrev new : KeyMap
    new = with_updates (updates_to_see keys Dirents directory slot id value) keys

    sets : SetsNames keys new nodes layout id
    sets = after_updates (λ (changed : KeyMap). SetsNames keys changed nodes layout id) keys Dirents directory slot id value
        (record { kept = but_owners keys nodes layout kept; leaves = leaves_all keys id; inodes = λ other n. refl; deleted = refl })
        (one_sets value may leads good)
        (one_sets (Some values.White) (white_may Dirents directory slot id refl) (All-nil (λ (link : Link). IsDrawn keys link.number)) (All-nil (λ (link : Link). is_good_name link.name ≡ true)))

    -- the names that were set show under the slot, and elsewhere those that showed
    links_shown : SeesThere keys new Dirents directory slot id value → (other place : ℕ) → links_in new id other place ≡ cond (directory == other && slot == place) (links_of value) (links_in keys id other place)
    links_shown sees other place = by (directory == other) refl (slot == place) refl
      where
        elsewhere : ((other ≡ directory) × (place ≡ slot) → ⊥) → links_in new id other place ≡ links_in keys id other place
        elsewhere apart = ap links_of (sees.elsewhere Dirents other place (λ same. apart (same.1, same.2)))

        by : (b : Bool) → (directory == other) ≡ b → (c : Bool) → (slot == place) ≡ c → links_in new id other place ≡ cond (b && c) (links_of value) (links_in keys id other place)
        by true one true two = (λ i. links_in new id (sym (eqb-true directory other one) i) (sym (eqb-true slot place two) i)) ∙ ap links_of sees.here
        by true one false two = elsewhere (λ same. true≢false (sym (eq-eqb slot place (sym same.1)) ∙ two))
        by false one c two = elsewhere (λ same. true≢false (sym (eq-eqb directory other (sym same.0)) ∙ one))

    -- The updates to see other names are a step.
    pub names_are_step : SeesThere keys new Dirents directory slot id value → Steps keys new nodes layout id (with_links directory slot (links_of value) (shown_in keys id)) (counter_in keys)
    names_are_step sees = made_step keys new nodes layout id (inode_in keys id) (λ other place. cond (directory == other && slot == place) (links_of value) (links_in keys id other place)) sets.kept
        (owned_where keys new sets.leaves.extents (λ other n was. inl (ap (option_map (λ (i : Inode). i.kind)) (sets.inodes other n) ∙ was))
        (noted_where keys new sets.deleted) kept.owned)
        sets.leaves (sets.inodes id) (links_shown sees)
