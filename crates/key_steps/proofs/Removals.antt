-- A file that goes from a live leaf, with the note that its number is gone there.
use Rattle.std.proofs.Common.{◌≡◌, ℕ, ◌<◌, Bool, true, false, cond, Option, Some, None, List, [], ◌∷◌, ◌++◌, refl, sym, ap, ◌∙◌, subst, arith, ⊎_elim, inl, inr}
use Rattle.std.specs.Prelude.{◌⊎◌, ◌==◌, IsSome, is_some, option_map}
use Rattle.std.specs.BTreeMap.{is_at}
use Rattle.std.specs.Ordering.{is_eq}
use Rattle.std.proofs.lemmas.Bool.{false≢true}
use Rattle.std.proofs.lemmas.Cmp.{tied_itself}
use Rattle.std.proofs.lemmas.Option.{same_Some, none-some as none_some}
use Rattle.key_meaning.specs.Checks.{IsLiveLeaf}
use Rattle.key_meaning.specs.Forest.{counter_in, inode_in, inode_of, kind_in, links_in, links_of}
use Rattle.key_meaning.specs.Tidy.{AreBlocksOwned, IsDrawn, IsKeyOf, IsNoted}
use Rattle.key_meaning.specs.SameLaws.{live_leaf_was}
use Rattle.key_meaning.specs.VisibleLaws.{visible-other}
use Rattle.key_steps.proofs.Inodes.{SetsInode, inodes_shown, updates_set}
use Rattle.key_steps.proofs.Showing.{shown_is_drawn}
use Rattle.key_steps.proofs.Staying.{IsKeptButOwners, IsOfFiles, LeavesElse, below_where, drawn_where, extents_stay, gone_where, leaf_is_small, leaves_then, made_step, noted_where, of_this_one, owned_where, snaps_stay, update_keeps, update_leaves}
use Rattle.key_steps.specs.Kept.{IsKept}
use Rattle.key_steps.specs.Shown.{shown_in, with_inode}
use Rattle.key_steps.specs.Steps.{Steps, note_gone}
use Rattle.key_view.specs.Changes.{SeesThere, updates_to_see}
use Rattle.vol_types.specs.KeyMapLaws.{value_in-with_update, with_updates-append}
use Rattle.vol_types.specs.KeyMaps.{KeyMap, is_update_of, value_in, with_update, with_updates}
use Rattle.vol_types.specs.PositionLaws.{pos_total}
use Rattle.vol_types.specs.Positions.{pos_cmp}
use Rattle.vol_types.specs.declared.layout.Layout.{Layout}
use Rattle.vol_types.specs.declared.pointers.Place.{Place}
use Rattle.vol_types.specs.declared.positions.Btree.{Btree}
use Rattle.vol_types.specs.declared.positions.Btree.TheVariants.{Deleted, Dirents, Inodes}
use Rattle.vol_types.specs.declared.values.FileKind.TheVariants.{File}
use Rattle.vol_types.specs.declared.values.Inode.{Inode}
use Rattle.vol_types.specs.declared.values.Value.{Value}
use Rattle.vol_types.specs.declared.values.Value.TheVariants as values

module _ (keys : KeyMap) (nodes : List Place) (layout : Layout) (id number : ℕ) (kept : IsKept keys nodes layout) (leaf : IsLiveLeaf keys id) (file : kind_in keys id number ≡ Some File) where
  -- an inode of the number shows
  shows : IsSome (inode_in keys id number)
  shows = by (inode_in keys id number) file
    where
      by : (inode : Option Inode) → option_map (λ (i : Inode). i.kind) inode ≡ Some File → IsSome inode
      by None none = absurd (none_some File none)
      by (Some inode) some = refl

  drawn : IsDrawn keys number
  drawn = shown_is_drawn keys id number File kept.drawn file

  -- the keys without the inode
  abbrev without : KeyMap
  without = with_updates (updates_to_see keys Inodes 0 number id None) keys

  -- and with the note
  abbrev noted : KeyMap
  noted = with_update (note_gone id number) without

  sets : SetsInode keys without nodes layout id number
  sets = updates_set keys nodes layout id number kept leaf drawn (inr shows) None tt

  is_of_files : IsOfFiles (note_gone id number)
  is_of_files = record { extents = refl; subvols = refl; snaps = refl; alloc = refl; backptrs = refl; counters = refl }

  -- the note changes no inode
  inodes_same : (other n : ℕ) → inode_in noted other n ≡ inode_in without other n
  inodes_same other n = ap inode_of (visible-other (note_gone id number) without sets.kept.is_map refl Inodes 0 n other refl)

  -- and notes the number besides what is noted
  noted_there : (other n : ℕ) → value_in noted Deleted (record { inode = 0; offset = n; snapshot = other }) ≡ cond (is_at (pos_cmp (note_gone id number).pos) (record { inode = 0; offset = n; snapshot = other })) (Some values.Gone) (value_in without Deleted (record { inode = 0; offset = n; snapshot = other }))
  noted_there other n = value_in-with_update (note_gone id number) without Deleted (record { inode = 0; offset = n; snapshot = other }) sets.kept.is_map

  notes_stay : (other n : ℕ) → IsNoted keys other n → IsNoted noted other n
  notes_stay other n was = subst IsSome (sym (noted_there other n)) (by (is_at (pos_cmp (note_gone id number).pos) (record { inode = 0; offset = n; snapshot = other })))
    where
      by : (b : Bool) → IsSome (cond b (Some values.Gone) (value_in without Deleted (record { inode = 0; offset = n; snapshot = other })))
      by true = refl
      by false = noted_where keys without sets.deleted other n was

  is_noted : IsNoted noted id number
  is_noted = subst IsSome (sym (noted_there id number ∙ ap (λ b. cond b (Some values.Gone) (value_in without Deleted (note_gone id number).pos)) (ap is_eq (tied_itself pos_total (note_gone id number).pos)))) refl

  -- A file shows still, or is noted.
  file_or_note : (other n : ℕ) → kind_in keys other n ≡ Some File → (kind_in noted other n ≡ Some File) ⊎ IsNoted noted other n
  file_or_note other n was = ⊎_elim
      (λ (this : (other ≡ id) × (n ≡ number)). inr (subst (λ a. IsNoted noted a n) (sym this.0) (subst (IsNoted noted id) (sym this.1) is_noted)))
      (λ (same : inode_in without other n ≡ inode_in keys other n). inl (ap (option_map (λ (i : Inode). i.kind)) (inodes_same other n ∙ same) ∙ was))
      (sets.inodes other n)

  keyed : (btree : Btree) → is_update_of btree (note_gone id number) ≡ true → (put : Value) → Some values.Gone ≡ Some put → IsKeyOf without btree ((note_gone id number).pos, put)
  keyed btree of put at = of_this_one (λ b. IsKeyOf without b ((note_gone id number).pos, put)) Deleted btree 0 number id (Some values.Gone)
      (subst (λ (v : Value). IsKeyOf without Deleted ((note_gone id number).pos, v)) (same_Some values.Gone put at)
      (record {
        stands = record { in_leaf = λ at_leaf. refl; above = λ (up : 0 < 0). absurd (omega (arith, up)) };
        in_range = tt;
        place = refl;
        id = leaf_is_small keys id kept.drawn leaf;
        numbers = drawn_where keys without sets.leaves.counts number drawn;
      })) of

  module _ (none : inode_in without id number ≡ None) where
    kept_then : IsKeptButOwners noted nodes layout
    kept_then = update_keeps (note_gone id number) without sets.kept.is_map is_of_files nodes layout (ap is_some (live_leaf_was without keys (sym sets.leaves.only.snaps) id leaf).found) keyed (λ of put at. absurd (false≢true of))
        (below_where without noted (snaps_stay (note_gone id number) without sets.kept.is_map is_of_files) (extents_stay (note_gone id number) without sets.kept.is_map is_of_files) inodes_same sets.kept.below)
        (gone_where (note_gone id number) without sets.kept.is_map is_of_files (λ other n was. inodes_same other n ∙ was) (λ of. inodes_same id number ∙ none) sets.kept.gone)
        sets.kept

    leaves_both : LeavesElse keys noted id
    leaves_both = leaves_then keys without noted id sets.leaves (update_leaves (note_gone id number) without sets.kept.is_map is_of_files)

    owned_then : AreBlocksOwned noted
    owned_then = owned_where keys noted leaves_both.extents file_or_note notes_stay kept.owned

    noted_is_step : Steps keys noted nodes layout id (with_inode number None (shown_in keys id)) (counter_in keys)
    noted_is_step = made_step keys noted nodes layout id (λ n. cond (number == n) None (inode_in keys id n)) (links_in keys id) kept_then owned_then leaves_both
        (λ n. inodes_same id n ∙ inodes_shown keys without nodes layout id number None sets none n)
        (λ directory slot. ap links_of (visible-other (note_gone id number) without sets.kept.is_map refl Dirents directory slot id refl) ∙ sets.links directory slot)

  -- A file that goes with its note is a step.
  pub removal_is_step : SeesThere keys without Inodes 0 number id None → Steps keys (with_updates (updates_to_see keys Inodes 0 number id None ++ note_gone id number ∷ []) keys) nodes layout id (with_inode number None (shown_in keys id)) (counter_in keys)
  removal_is_step sees = subst (λ (new : KeyMap). Steps keys new nodes layout id (with_inode number None (shown_in keys id)) (counter_in keys)) (sym (with_updates-append (updates_to_see keys Inodes 0 number id None) (note_gone id number ∷ []) keys)) (noted_is_step (ap inode_of sees.here))
