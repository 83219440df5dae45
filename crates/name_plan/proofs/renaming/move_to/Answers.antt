-- The updates may be made: what shows under both slots is in range, and so is the new name.
use Rattle.std.proofs.Common.{◌≡◌, true, sym}
use Rattle.std.specs.Prelude.{All}
use Rattle.key_meaning.specs.Tidy.{AreKeysDrawn}
use Rattle.key_meaning.specs.Visible.{visible}
use Rattle.key_view.specs.Seen.{IsSeen}
use Rattle.name_plan.proofs.GoodNames.{good_is_name, last_is_good}
use Rattle.name_plan.proofs.MovedKeys.{moved_has, moved_some}
use Rattle.plain_forest.specs.Names.{is_good_path}
use Rattle.vol_digest.specs.Digests.{slot_of}
use Rattle.vol_types.specs.KeyMaps.{KeyMap}
use Rattle.vol_types.specs.Ranges.{IsKeyValue}
use Rattle.vol_types.specs.Standing.{IsUpdate}
use Rattle.vol_types.specs.declared.positions.Btree.TheVariants.{Dirents}
use Rattle.name_plan.proofs.renaming.move_to.Goals as goal

pub returns-clause-fits : goal.returns-clause-fits
returns-clause-fits g c =
    let a = c.args in
    let name = c.in-Some.name.now in
    let other = c.in-Some-last.other.now in
    moved_has (is_good_path a.to.now ≡ true)
    (λ updates. (keys : KeyMap) → IsSeen keys (g.V.View.made c.move_name.new.view) a.tree.now → IsKeyValue (visible keys Dirents a.source.directory (slot_of name) a.id) → IsKeyValue (visible keys Dirents a.directory (slot_of other) a.id) → All IsUpdate updates)
    (λ updates. (keys : KeyMap) → IsSeen keys (g.V.View.made c.move_name.new.view) a.tree.now → AreKeysDrawn keys → All IsUpdate updates)
    c.in_ok-step.step c.moved_by.result c.moved_by.ensures
    (λ updates has keys seen drawn. has keys seen (c.sound_names_are_refused_alike.ensures.in_range keys drawn Dirents a.source.directory (slot_of name) a.id) (c.sound_names_are_refused_alike.ensures.in_range keys drawn Dirents a.directory (slot_of other) a.id))
    (λ good. c.in_ok-step.ensures.fits (good_is_name other (last_is_good a.to.now other good (sym c.in-Some-last.ensures))))

pub returns-clause-some : goal.returns-clause-some
returns-clause-some g c = moved_some c.in_ok-step.step c.moved_by.result c.moved_by.ensures
