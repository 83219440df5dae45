-- A client's counter that is raised changes nothing but itself, and all stays kept.
use Rattle.std.proofs.Common.{◌≡◌, ℕ, false, Some, List, cond, refl, sym, ap, ◌∙◌, subst, inl}
use Rattle.std.specs.Prelude.{◌==◌, IsSome, All, option_map}
use Rattle.std.specs.Ordering.{nat_cmp}
use Rattle.key_meaning.specs.Checks.{AreIdsThere}
use Rattle.key_meaning.specs.CounterLaws.{counter_keeps_drawn, counter_shows_same, drawn_still, entries_other}
use Rattle.key_meaning.specs.Forest.{counter_in}
use Rattle.key_meaning.specs.KeptLaws.{blocks_stay_placed, space_stays_counted}
use Rattle.key_meaning.specs.Numbers.{MayCountTo, SetsCounter, ShowSame}
use Rattle.key_meaning.specs.SameLaws.{below-same, extents_apart-same, gone-same, trees_stay_joined}
use Rattle.key_meaning.specs.Tidy.{HasGoodNames, HasGoodSubvolumes}
use Rattle.key_meaning.specs.UpdateLaws.{counter_in-put, of_no_other}
use Rattle.key_steps.proofs.Staying.{ids_match_where, noted_where, owned_where}
use Rattle.key_steps.specs.Kept.{IsKept}
use Rattle.key_steps.specs.Shown.{shown_in}
use Rattle.key_steps.specs.Steps.{Steps}
use Rattle.snap_tree.specs.Snaps.{Snaps}
use Rattle.vol_types.specs.Btrees.{btree_code}
use Rattle.vol_types.specs.KeyMapLaws.{IsKeyMap-with_update}
use Rattle.vol_types.specs.KeyMaps.{Entries, KeyMap, entries_of, with_update}
use Rattle.vol_types.specs.Maps.{value_at}
use Rattle.vol_types.specs.declared.keys.Update.{Update}
use Rattle.vol_types.specs.declared.layout.Layout.{Layout}
use Rattle.vol_types.specs.declared.pointers.Place.{Place}
use Rattle.vol_types.specs.declared.positions.Btree.{Btree}
use Rattle.vol_types.specs.declared.positions.Btree.TheVariants.{Alloc, Backptrs, Counters, Deleted, Dirents, Extents, Inodes}
use Rattle.vol_types.specs.declared.positions.Pos.{Pos}
use Rattle.vol_types.specs.declared.values.Inode.{Inode}
use Rattle.vol_types.specs.declared.values.Value.{Value}

module _ (keys : KeyMap) (nodes : List Place) (layout : Layout) (id client next : ℕ) (update : Update) (kept : IsKept keys nodes layout) (sets : SetsCounter update client next) (may : MayCountTo keys client next) where
  abbrev new : KeyMap
  new = with_update update keys

  same : ShowSame keys new
  same = counter_shows_same update keys kept.is_map client next sets

  -- the other btrees are as they were
  stay : (btree : Btree) → (8 == btree_code btree) ≡ false → entries_of new btree ≡ entries_of keys btree
  stay btree apart = entries_other update keys btree (of_no_other update Counters btree sets.of_counters apart)

  extents_stay : new.extents ≡ keys.extents
  extents_stay = stay Extents refl

  deleted_stay : new.deleted ≡ keys.deleted
  deleted_stay = stay Deleted refl

  ids_stay : {entries was : Entries} → entries ≡ was → AreIdsThere keys was → AreIdsThere new entries
  ids_stay {entries} {was} is there = subst (AreIdsThere new) (sym is) (subst (λ (s : Snaps). All (λ (entry : Pos × Value). IsSome (value_at nat_cmp entry.0.snapshot s)) was) (sym same.snaps) there)

  kept_then : IsKept new nodes layout
  kept_then = record {
    is_map = IsKeyMap-with_update update keys kept.is_map;
    trees = trees_stay_joined keys new same.snaps kept.trees;
    ids = ids_match_where keys new same.snaps same.subvols kept.ids;
    extents = extents_apart-same keys new same.snaps extents_stay (ids_stay (stay Inodes refl) kept.extents.inodes) (ids_stay (stay Dirents refl) kept.extents.dirents) deleted_stay kept.extents;
    blocks = blocks_stay_placed keys new nodes layout extents_stay kept.blocks;
    drawn = counter_keeps_drawn update keys kept.is_map client next sets may kept.drawn;
    named = record {
      subvolumes = subst (All HasGoodSubvolumes) (sym same.subvols) kept.named.subvolumes;
      names = subst (All HasGoodNames) (sym (stay Dirents refl)) kept.named.names;
    };
    below = below-same keys new same extents_stay kept.below;
    gone = gone-same keys new same deleted_stay kept.gone;
    owned = owned_where keys new extents_stay (λ other n was. inl (ap (option_map (λ (i : Inode). i.kind)) ((same.each other).inodes n) ∙ was))
        (noted_where keys new deleted_stay) kept.owned;
  }

  -- A raised counter is a step.
  pub counter_is_step : Steps keys new nodes layout id (shown_in keys id) (λ counter. cond (client == counter) (Some next) (counter_in keys counter))
  counter_is_step = record {
    kept = kept_then;
    only = record { snaps = same.snaps; subvols = same.subvols; elsewhere = λ other apart. same.each other };
    shows = λ i. record { inodes = λ number. (same.each id).inodes number i; links = λ directory slot. (same.each id).names directory slot i; blocks = λ file block. (same.each id).blocks file block i };
    counts = λ i counter. counter_in-put update keys kept.is_map sets.of_counters client next sets.place sets.value counter i;
    drawn = drawn_still update keys kept.is_map client next sets may;
    space = space_stays_counted keys new extents_stay (stay Alloc refl) (stay Backptrs refl);
  }
