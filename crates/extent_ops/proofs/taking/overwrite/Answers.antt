use Rattle.std.proofs.Common.{◌∙◌, ℕ, ◌+◌, ◌*◌, ◌≤◌, List, length, subst, sym, ap, map, slice_get, arith}
use Rattle.std.specs.Prelude.{All, is_some, option_map}
use Rattle.std.proofs.lemmas.List.Elements.{All-nil}
use Rattle.vol_types.specs.KeyMaps.{IsKeyMap, KeyMap, with_updates}
use Rattle.vol_types.specs.Standing.{IsUpdate}
use Rattle.vol_types.specs.declared.keys.Key.{Key}
use Rattle.vol_types.specs.declared.keys.Update.{Update}
use Rattle.key_meaning.specs.Checks.{AreBlocksPlaced, IsCoveredOnce}
use Rattle.extent_ops.specs.Bounds.{blocks_in_all}
use Rattle.extent_ops.specs.Cutting.{change_of, stretch_of}
use Rattle.extent_ops.specs.Content.{AreFreshWithin, AreLookedAt, AreOfContent, IsContent, IsNear, TakesBlocks, given_by}
use Rattle.extent_ops.specs.Looking.{IsUpTo}
use Rattle.extent_ops.proofs.Few.{fresh_few, fresh_few_blocks}
use Rattle.extent_ops.proofs.Owned.{own_none}
use Rattle.extent_ops.proofs.Fresh.{none_fresh, ok_then, taken_call}
use Rattle.extent_ops.proofs.Promising.{Makes, fresh_fit, fresh_near, fresh_updates}
use Rattle.extent_ops.proofs.Placing.{PlacesFresh, fresh_places}
use Rattle.extent_ops.proofs.taking.overwrite.Goals as goal

pub returns : goal.returns
returns c =
    let made = (fresh_updates c.args.id c.args.keys.now c.args.fresh.now c.as_slice-4.result.now c.as_slice-5.result.now c.in_ok-given.given c.in-Some.file c.updates_to_take.result
    (sym (c.in-Some.ensures ∙ ap (λ keys. option_map (λ (key : Key). key.pos.inode) (slice_get keys 0)) c.as_slice.ensures))
    c.as_slice-4.ensures
    (c.as_slice-5.ensures ∙ c.in_ok-stretches.ensures ∙ ap (map stretch_of) c.as_slice-2.ensures)
    (c.in_ok-given.ensures ∙ ap (map change_of) c.as_slice-3.ensures)
    c.updates_to_take.ensures.are) in
    record {
      taken = taken_call c.args.id c.args.keys.now c.args.fresh.now c.as_slice-4.result.now c.as_slice-5.result.now c.in_ok-given.given c.in-Some.file c.updates_to_take.result
          (sym (c.in-Some.ensures ∙ ap (λ keys. option_map (λ (key : Key). key.pos.inode) (slice_get keys 0)) c.as_slice.ensures))
          c.as_slice-4.ensures
          (c.as_slice-5.ensures ∙ c.in_ok-stretches.ensures ∙ ap (map stretch_of) c.as_slice-2.ensures)
          (c.in_ok-given.ensures ∙ ap (map change_of) c.as_slice-3.ensures)
          c.updates_to_take.ensures.are;
      own = c.updates_to_take.ensures.own;
      fits = ok_then (Makes c.args.id c.args.keys.now c.args.fresh.now) (λ (updates : List Update). (file first last : ℕ) → AreFreshWithin file c.args.id first last c.args.fresh.now → All (λ (key : Key). IsContent key.value) c.args.keys.now → All (λ (key : Key). IsContent key.value) c.args.fresh.now → All IsUpdate updates)
          c.updates_to_take.result made (λ updates is file first last are fit fit'. fresh_fit file c.args.id first last c.args.keys.now c.args.fresh.now updates (is file first last are) are fit fit');
      near = ok_then (Makes c.args.id c.args.keys.now c.args.fresh.now) (λ (updates : List Update). (file first last longest : ℕ) → AreFreshWithin file c.args.id first last c.args.fresh.now → All (λ (key : Key). IsUpTo longest key.value) c.args.keys.now → All (IsNear file first last longest) updates)
          c.updates_to_take.result made (λ updates is file first last longest are few. fresh_near file c.args.id first last longest c.args.keys.now c.args.fresh.now updates (is file first last are) are few);
      placed = ok_then (Makes c.args.id c.args.keys.now c.args.fresh.now) (PlacesFresh c.args.id c.args.keys.now c.args.fresh.now)
          c.updates_to_take.result made (λ updates is. fresh_places c.args.id c.args.keys.now c.args.fresh.now updates is);
      few = ok_then (Makes c.args.id c.args.keys.now c.args.fresh.now) (λ (updates : List Update). (file first last : ℕ) → AreFreshWithin file c.args.id first last c.args.fresh.now → length updates ≤ length c.args.keys.now + 2 * length c.args.fresh.now)
          c.updates_to_take.result made (λ updates is file first last are. fresh_few file c.args.id first last c.args.keys.now c.args.fresh.now updates (is file first last are) are);
      few_by_blocks = ok_then (Makes c.args.id c.args.keys.now c.args.fresh.now) (λ (updates : List Update). (keys_map : KeyMap) (file first last : ℕ) → IsKeyMap keys_map → IsCoveredOnce keys_map file c.args.id → AreFreshWithin file c.args.id first last c.args.fresh.now → AreLookedAt keys_map file first last c.args.keys.now
          → length updates ≤ blocks_in_all c.args.fresh.now + 2 * length c.args.fresh.now)
          c.updates_to_take.result made (λ updates made_are keys_map file first last is apart are looked. fresh_few_blocks keys_map is file c.args.id first last c.args.keys.now looked apart c.args.fresh.now updates (made_are file first last are) are);
    }

pub returns-in_default : goal.returns-in_default
returns-in_default c = record {
  taken = λ keys_map file first last is apart fit fresh looked. subst (λ updates. TakesBlocks keys_map (with_updates updates keys_map) file c.args.id (λ block. is_some (given_by c.args.fresh.now block)) (given_by c.args.fresh.now))
      (sym c.new.ensures)
      (none_fresh c.args.fresh.now (sym c.in_default.is ∙ c.file_of.ensures ∙ ap (λ keys. option_map (λ (key : Key). key.pos.inode) (slice_get keys 0)) c.as_slice.ensures) keys_map file c.args.id apart);
  own = subst (AreOfContent c.args.id) (sym c.new.ensures) (own_none c.args.id);
  fits = λ file first last are fit fit'. subst (All IsUpdate) (sym c.new.ensures) (All-nil IsUpdate);
  near = λ file first last longest are few. subst (All (IsNear file first last longest)) (sym c.new.ensures) (All-nil (IsNear file first last longest));
  placed = λ keys_map file first last nodes layout is fit fresh looked placed may. subst (λ (updates : List Update). AreBlocksPlaced (with_updates updates keys_map) nodes layout) (sym c.new.ensures) placed;
  few = λ file first last are. subst (λ (updates : List Update). length updates ≤ length c.args.keys.now + 2 * length c.args.fresh.now) (sym c.new.ensures) (omega arith);
  few_by_blocks = λ keys_map file first last is apart are looked. subst (λ (updates : List Update). length updates ≤ blocks_in_all c.args.fresh.now + 2 * length c.args.fresh.now) (sym c.new.ensures) (omega arith);
}
