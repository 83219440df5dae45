-- An inode that is put, changed or removed in a live leaf: what shows then, and what stays.
use Rattle.std.proofs.Common.{◌≡◌, ℕ, ◌<◌, Bool, true, false, cond, Option, Some, None, List, refl, sym, ap, ◌∙◌, subst, arith, ⊎_elim, inl, inr}
use Rattle.std.specs.Prelude.{◌≢◌, ◌⊎◌, ◌==◌, IfSome, IsSome, is_some, option_map}
use Rattle.std.proofs.lemmas.Bool.{eq-eqb, eqb-true, false≢true, true≢false}
use Rattle.std.proofs.lemmas.Option.{same_Some, none-some as none_some}
use Rattle.key_meaning.specs.Checks.{IsLiveLeaf}
use Rattle.key_meaning.specs.CounterLaws.{entries_other}
use Rattle.key_meaning.specs.Forest.{counter_in, inode_in, inode_of, kind_in, links_in, links_of}
use Rattle.key_meaning.specs.InodeLaws.{inode_keeps_below, inode_keeps_gone, this_or_same}
use Rattle.key_meaning.specs.NumberLaws.{unused_shows_nowhere}
use Rattle.key_meaning.specs.Numbers.{IsUnused, own_inode}
use Rattle.key_meaning.specs.Tidy.{IsDrawn, IsKeyOf}
use Rattle.key_meaning.specs.Visible.{shown}
use Rattle.key_meaning.specs.VisibleLaws.{visible-other}
use Rattle.key_steps.proofs.Staying.{IsKeptButOwners, IsOfFiles, LeavesElse, after_updates, but_owners, leaf_is_small, leaves_all, made_step, noted_where, of_this_one, owned_where, update_keeps, update_leaves, white_may}
use Rattle.key_steps.specs.Kept.{IsKept}
use Rattle.key_steps.specs.Shown.{shown_in, with_inode}
use Rattle.key_steps.specs.Steps.{MayChange, MaySet, Steps, inode_value}
use Rattle.key_view.specs.Changes.{SeesThere, own_update, updates_to_see}
use Rattle.vol_types.specs.KeyMaps.{KeyMap, is_update_of, with_update, with_updates}
use Rattle.vol_types.specs.Ranges.{IsInode, IsKeyValue}
use Rattle.vol_types.specs.Standing.{IsUpdate, Stands}
use Rattle.vol_types.specs.Values.{file_kind_code}
use Rattle.vol_types.specs.declared.layout.Layout.{Layout}
use Rattle.vol_types.specs.declared.pointers.Place.{Place}
use Rattle.vol_types.specs.declared.positions.Btree.{Btree}
use Rattle.vol_types.specs.declared.positions.Btree.TheVariants.{Deleted, Dirents, Extents, Inodes}
use Rattle.vol_types.specs.declared.values.FileKind.TheVariants.{Directory, File}
use Rattle.vol_types.specs.declared.values.Inode.{Inode}
use Rattle.vol_types.specs.declared.values.Value.{Value}
use Rattle.vol_types.specs.declared.values.Value.TheVariants as values

-- the update of an inode may be made
inode_may : (number id : ℕ) (inode : Option Inode) → IfSome inode IsInode → IsUpdate (own_update Inodes 0 number id (option_map inode_value inode))
inode_may number id None fits = record { stands = tt; in_range = tt }
inode_may number id (Some inode) fits = record { stands = record { in_leaf = λ leaf. refl; above = λ (up : 0 < 0). absurd (omega (arith, up)) }; in_range = fits }

-- the inode that an inode's value holds
held : (inode : Option Inode) → inode_of (option_map inode_value inode) ≡ inode
held None = refl
held (Some inode) = refl

-- a file is no directory
file_or_directory : File ≢ Directory
file_or_directory same = absurd (omega (arith, ap file_kind_code same))

-- After updates of an inode in an id all is kept but maybe that blocks have owners, and all else is left: other inodes, and names.
pub record SetsInode (keys new : KeyMap) (nodes : List Place) (layout : Layout) (id number : ℕ) : Type 0 where
  pub kept : IsKeptButOwners new nodes layout
  pub leaves : LeavesElse keys new id
  pub inodes : (other n : ℕ) → ((other ≡ id) × (n ≡ number)) ⊎ (inode_in new other n ≡ inode_in keys other n)
  pub links : (directory slot : ℕ) → links_in new id directory slot ≡ links_in keys id directory slot
  pub deleted : new.deleted ≡ keys.deleted

module _ (keys : KeyMap) (nodes : List Place) (layout : Layout) (id number : ℕ) (kept : IsKept keys nodes layout) (leaf : IsLiveLeaf keys id) (drawn : IsDrawn keys number) (free : IsUnused keys number ⊎ IsSome (inode_in keys id number)) where
  -- one update sets the inode
  one_sets : (value : Option Value) → IsUpdate (own_update Inodes 0 number id value) → SetsInode keys (with_update (own_update Inodes 0 number id value) keys) nodes layout id number
  one_sets value may = record {
    kept = update_keeps (own_inode id number value) keys kept.is_map files nodes layout (ap is_some leaf.found) keyed (λ of put at. absurd (false≢true of))
        (inode_keeps_below keys kept.is_map id number value kept.trees leaf (⊎_elim (λ (unused : IsUnused keys number). inr (unused.each Extents)) (λ (shows : IsSome (inode_in keys id number)). inl shows) free) kept.below)
        (inode_keeps_gone keys kept.is_map id number value kept.trees leaf (⊎_elim (λ (unused : IsUnused keys number). inr (unused.each Deleted)) (λ (shows : IsSome (inode_in keys id number)). inl shows) free) kept.gone)
        (but_owners keys nodes layout kept);
    leaves = update_leaves (own_inode id number value) keys kept.is_map files;
    inodes = this_or_same keys kept.is_map id number value kept.trees leaf;
    links = λ directory slot. ap links_of (visible-other (own_inode id number value) keys kept.is_map refl Dirents directory slot id refl);
    deleted = entries_other (own_inode id number value) keys Deleted refl;
  }
    where
      files : IsOfFiles (own_inode id number value)
      files = record { extents = refl; subvols = refl; snaps = refl; alloc = refl; backptrs = refl; counters = refl }

      keyed : (btree : Btree) → is_update_of btree (own_inode id number value) ≡ true → (put : Value) → value ≡ Some put → IsKeyOf keys btree ((own_inode id number value).pos, put)
      keyed btree of put at = of_this_one (λ b. IsKeyOf keys b ((own_inode id number value).pos, put)) Inodes btree 0 number id value
          (record { stands = subst (Stands Inodes 0) at may.stands; in_range = subst IsKeyValue at may.in_range; place = refl; id = leaf_is_small keys id kept.drawn leaf; numbers = drawn }) of

  -- The updates to see an inode, or none, set it.
  pub updates_set : (inode : Option Inode) → IfSome inode IsInode → SetsInode keys (with_updates (updates_to_see keys Inodes 0 number id (option_map inode_value inode)) keys) nodes layout id number
  updates_set inode fits = after_updates (λ (new : KeyMap). SetsInode keys new nodes layout id number) keys Inodes 0 number id (option_map inode_value inode)
      (record { kept = but_owners keys nodes layout kept; leaves = leaves_all keys id; inodes = λ other n. inr refl; links = λ directory slot. refl; deleted = refl })
      (one_sets (option_map inode_value inode) (inode_may number id inode fits))
      (one_sets (Some values.White) (white_may Inodes 0 number id refl))

-- An inode that is set in the id shows there, and each other number shows what it showed.
pub inodes_shown : (keys new : KeyMap) (nodes : List Place) (layout : Layout) (id number : ℕ) (inode : Option Inode) → SetsInode keys new nodes layout id number → inode_in new id number ≡ inode
    → (n : ℕ) → inode_in new id n ≡ cond (number == n) inode (inode_in keys id n)
inodes_shown keys new nodes layout id number inode sets here n = by (number == n) refl
  where
    by : (b : Bool) → (number == n) ≡ b → inode_in new id n ≡ cond b inode (inode_in keys id n)
    by true same = ap (inode_in new id) (sym (eqb-true number n same)) ∙ here
    by false apart = ⊎_elim (λ (this : (id ≡ id) × (n ≡ number)). absurd (true≢false (sym (eq-eqb number n (sym this.1)) ∙ apart))) (λ (same : inode_in new id n ≡ inode_in keys id n). same) (sets.inodes id n)

module _ (keys : KeyMap) (nodes : List Place) (layout : Layout) (id number : ℕ) (inode : Option Inode) (kept : IsKept keys nodes layout) (leaf : IsLiveLeaf keys id) (fits : IfSome inode IsInode) (drawn : IsDrawn keys number) (may : MaySet keys id number inode) where
  abbrev new : KeyMap
  new = with_updates (updates_to_see keys Inodes 0 number id (option_map inode_value inode)) keys

  free : IsUnused keys number ⊎ IsSome (inode_in keys id number)
  free = ⊎_elim (λ (unused : IsUnused keys number). inl unused) (λ (change : MayChange keys id number inode). inr (ap is_some change.shows)) may

  sets : SetsInode keys new nodes layout id number
  sets = updates_set keys nodes layout id number kept leaf drawn free inode fits

  -- an inode of a file becomes one of a file
  stays_file : (put : Option Inode) → MayChange keys id number put → inode_in new id number ≡ put → kind_in keys id number ≡ Some File → kind_in new id number ≡ Some File
  stays_file None change here was = absurd (file_or_directory (sym (same_Some change.old.kind File (sym (ap (option_map (λ (i : Inode). i.kind)) change.shows) ∙ was)) ∙ change.goes refl))
  stays_file (Some put) change here was = ap (option_map (λ (i : Inode). i.kind)) here ∙ ap Some change.stays ∙ sym (ap (option_map (λ (i : Inode). i.kind)) change.shows) ∙ was

  files_stay : inode_in new id number ≡ inode → (other n : ℕ) → kind_in keys other n ≡ Some File → kind_in new other n ≡ Some File
  files_stay here other n was = ⊎_elim
      (λ (this : (other ≡ id) × (n ≡ number)). (λ i. kind_in new (this.0 i) (this.1 i)) ∙ of_number ((λ i. kind_in keys (sym this.0 i) (sym this.1 i)) ∙ was))
      (λ (same : inode_in new other n ≡ inode_in keys other n). ap (option_map (λ (i : Inode). i.kind)) same ∙ was)
      (sets.inodes other n)
    where
      of_number : kind_in keys id number ≡ Some File → kind_in new id number ≡ Some File
      of_number is = ⊎_elim
          (λ (unused : IsUnused keys number). absurd (none_some File (sym (ap (option_map (λ (i : Inode). i.kind)) ((unused_shows_nowhere keys number unused).inodes id)) ∙ is)))
          (λ (change : MayChange keys id number inode). stays_file inode change here is)
          may

  -- The updates to see the inode are a step.
  pub inode_is_step : SeesThere keys new Inodes 0 number id (option_map inode_value inode) → Steps keys new nodes layout id (with_inode number inode (shown_in keys id)) (counter_in keys)
  inode_is_step sees =
      let here : inode_in new id number ≡ inode = ap inode_of sees.here ∙ held inode in
      made_step keys new nodes layout id (λ n. cond (number == n) inode (inode_in keys id n)) (links_in keys id) sets.kept
      (owned_where keys new sets.leaves.extents (λ other n was. inl (files_stay here other n was)) (noted_where keys new sets.deleted) kept.owned)
      sets.leaves (inodes_shown keys new nodes layout id number inode sets here) sets.links

-- An inode is no whiteout.
pub inode_shows : (inode : Option Inode) → shown (option_map inode_value inode) ≡ option_map inode_value inode
inode_shows None = refl
inode_shows (Some inode) = refl
