use Rattle.std.proofs.Common.{◌≡◌, refl, ◌∙◌, ℕ, ◌+◌, ◌-◌, ◌^◌, ◌<◌, ◌≤◌, List, length, sym, ap, subst, slice_get, arith}
use Rattle.std.specs.Prelude.{◌&&◌, All, nat_le, option_map}
use Rattle.std.proofs.lemmas.List.Elements.{All-nil}
use Rattle.snap_tree.specs.Snaps.{parent_of}
use Rattle.vol_types.specs.Standing.{IsUpdate}
use Rattle.vol_types.specs.declared.keys.Key.{Key}
use Rattle.vol_types.specs.declared.keys.Update.{Update}
use Rattle.key_meaning.specs.Checks.{AreBlocksPlaced, IsCoveredOnce}
use Rattle.extent_ops.specs.Content.{AreLookedAt, AreOfContent, IsNear, TakesBlocks, hidden_if, is_covered_above}
use Rattle.extent_ops.specs.Looking.{IsUpTo}
use Rattle.extent_ops.specs.declared.stretches.Stretch.{Stretch}
use Rattle.extent_ops.proofs.Fresh.{ok_then}
use Rattle.extent_ops.proofs.Placing.{PlacesHoles, holes_places}
use Rattle.extent_ops.proofs.Promising.{first_file, holes_fit, holes_for, holes_near, holes_updates, looked_of_file}
use Rattle.vol_types.specs.KeyMaps.{IsKeyMap, KeyMap, with_updates}
use Rattle.extent_ops.proofs.Few.{holes_few, holes_few_blocks}
use Rattle.extent_ops.proofs.Owned.{own_none}
use Rattle.extent_ops.specs.Above.{holes_to_hide}
use Rattle.extent_ops.proofs.Punched.{Punches, punched_call, punched_none, taken_backwards}
use Rattle.extent_ops.proofs.taking.punch.Goals as goal

pub returns : goal.returns
returns c =
    let w : Stretch = record { first = c.args.first; end = c.saturating_add.result } in
    let forward : c.args.first ≤ c.saturating_add.result = omega (arith, c.if-last-first.false, c.saturating_add.ensures, c.ranges.last.fits) in
    let within : c.saturating_add.result ≤ c.args.last + 1 = omega (arith, c.saturating_add.ensures) in
    let of_file = sym (c.in-Some.ensures ∙ ap (λ keys. option_map (λ (key : Key). key.pos.inode) (slice_get keys 0)) c.as_slice.ensures) in
    let made = holes_updates c.args.tree.now c.args.id c.in-Some.file w c.args.keys.now c.as_slice-3.result.now _ c.in_ok-given.given c.updates_to_take.result forward c.as_slice-3.ensures refl
    (c.in_ok-given.ensures ∙ ap (holes_to_hide c.args.tree.now (parent_of c.args.tree.now c.args.id) w) c.as_slice-2.ensures) c.updates_to_take.ensures.are in
    record {
      taken = punched_call c.args.tree.now c.args.id c.args.first c.args.last c.in-Some.file c.saturating_add.result c.args.keys.now c.as_slice-3.result.now _ c.in_ok-given.given c.updates_to_take.result
          c.if-last-first.false
          (sym (c.in-Some.ensures ∙ ap (λ keys. option_map (λ (key : Key). key.pos.inode) (slice_get keys 0)) c.as_slice.ensures))
          c.as_slice-3.ensures
          (λ small. omega (arith, c.saturating_add.ensures, small))
          refl
          (c.in_ok-given.ensures ∙ ap (holes_to_hide c.args.tree.now (parent_of c.args.tree.now c.args.id) (record { first = c.args.first; end = c.saturating_add.result })) c.as_slice-2.ensures)
          c.updates_to_take.ensures.are;
      own = c.updates_to_take.ensures.own;
      fits = λ fit. ok_then (λ (updates : List Update). updates ≡ holes_for c.args.tree.now c.in-Some.file c.args.id w c.args.keys.now) (All IsUpdate) c.updates_to_take.result made
          (λ updates is. holes_fit c.args.tree.now c.in-Some.file c.args.id w c.args.keys.now updates is forward fit);
      near = ok_then (λ (updates : List Update). updates ≡ holes_for c.args.tree.now c.in-Some.file c.args.id w c.args.keys.now)
          (λ (updates : List Update). (file longest : ℕ) → All (λ (key : Key). key.pos.inode ≡ file) c.args.keys.now → All (λ (key : Key). IsUpTo longest key.value) c.args.keys.now → All (IsNear file c.args.first c.args.last longest) updates) c.updates_to_take.result made
          (λ updates is file longest all few. holes_near c.args.tree.now file c.args.id c.args.last longest w c.args.keys.now updates
          (is ∙ (λ i. holes_for c.args.tree.now (first_file file c.in-Some.file c.args.keys.now of_file all i) c.args.id w c.args.keys.now)) forward within few);
      placed = ok_then (λ (updates : List Update). updates ≡ holes_for c.args.tree.now c.in-Some.file c.args.id w c.args.keys.now) (PlacesHoles c.args.first c.args.last c.args.keys.now)
          c.updates_to_take.result made (λ updates is. holes_places c.args.tree.now c.in-Some.file c.args.id c.args.first c.args.last w c.args.keys.now updates is forward of_file);
      few = ok_then (λ (updates : List Update). updates ≡ holes_for c.args.tree.now c.in-Some.file c.args.id w c.args.keys.now) (λ (updates : List Update). length updates ≤ length c.args.keys.now + 1) c.updates_to_take.result made
          (λ updates is. holes_few c.args.tree.now c.ids_fit.ensures.trees c.in-Some.file c.args.id w c.args.keys.now updates is forward);
      few_by_blocks = ok_then (λ (updates : List Update). updates ≡ holes_for c.args.tree.now c.in-Some.file c.args.id w c.args.keys.now)
          (λ (updates : List Update). (keys_map : KeyMap) (file : ℕ) → IsKeyMap keys_map → IsCoveredOnce keys_map file c.args.id → c.args.last < 2 ^ 64 - 1 → AreLookedAt keys_map file c.args.first c.args.last c.args.keys.now → length updates ≤ (c.args.last + 1 - c.args.first) + 2) c.updates_to_take.result made
          (λ updates is keys_map file is_map apart small looked.
          let few = holes_few_blocks keys_map is_map file c.args.id c.args.first c.args.last c.args.keys.now looked apart c.args.tree.now w updates
          (is ∙ (λ i. holes_for c.args.tree.now (first_file file c.in-Some.file c.args.keys.now of_file (looked_of_file keys_map file c.args.first c.args.last c.args.keys.now looked) i) c.args.id w c.args.keys.now))
          (omega (arith, c.saturating_add.ensures, small, c.if-last-first.false)) in
          omega (arith, few, within));
    }

pub returns-in_default : goal.returns-in_default
returns-in_default c = record {
  taken = subst (Punches c.args.tree.now c.args.id c.args.first c.args.last c.args.keys.now) (sym c.new-in_default.ensures)
      (punched_none c.args.tree.now c.args.id c.args.first c.args.last c.args.keys.now c.if-last-first.false (sym c.in_default.is ∙ c.file_of.ensures ∙ ap (λ keys. option_map (λ (key : Key). key.pos.inode) (slice_get keys 0)) c.as_slice.ensures));
  own = subst (AreOfContent c.args.id) (sym c.new-in_default.ensures) (own_none c.args.id);
  fits = λ fit. subst (All IsUpdate) (sym c.new-in_default.ensures) (All-nil IsUpdate);
  near = λ file longest all few. subst (All (IsNear file c.args.first c.args.last longest)) (sym c.new-in_default.ensures) (All-nil (IsNear file c.args.first c.args.last longest));
  placed = λ keys_map file nodes layout is fit looked placed. subst (λ (updates : List Update). AreBlocksPlaced (with_updates updates keys_map) nodes layout) (sym c.new-in_default.ensures) placed;
  few = subst (λ (updates : List Update). length updates ≤ length c.args.keys.now + 1) (sym c.new-in_default.ensures) (omega arith);
  few_by_blocks = λ keys_map file is apart small looked. subst (λ (updates : List Update). length updates ≤ (c.args.last + 1 - c.args.first) + 2) (sym c.new-in_default.ensures) (omega arith);
}

pub returns-then-last-first : goal.returns-then-last-first
returns-then-last-first c = record {
  taken = λ map file is snaps apart fit small looked. subst (λ updates. TakesBlocks map (with_updates updates map) file c.args.id (λ block. nat_le c.args.first block && nat_le block c.args.last) (λ block. hidden_if (is_covered_above map c.args.id file block)))
      (sym c.new.ensures) (taken_backwards map file c.args.id c.args.first c.args.last (λ block. hidden_if (is_covered_above map c.args.id file block)) apart c.if-last-first.true);
  own = subst (AreOfContent c.args.id) (sym c.new.ensures) (own_none c.args.id);
  fits = λ fit. subst (All IsUpdate) (sym c.new.ensures) (All-nil IsUpdate);
  near = λ file longest all few. subst (All (IsNear file c.args.first c.args.last longest)) (sym c.new.ensures) (All-nil (IsNear file c.args.first c.args.last longest));
  placed = λ keys_map file nodes layout is fit looked placed. subst (λ (updates : List Update). AreBlocksPlaced (with_updates updates keys_map) nodes layout) (sym c.new.ensures) placed;
  few = subst (λ (updates : List Update). length updates ≤ length c.args.keys.now + 1) (sym c.new.ensures) (omega arith);
  few_by_blocks = λ keys_map file is apart small looked. subst (λ (updates : List Update). length updates ≤ (c.args.last + 1 - c.args.first) + 2) (sym c.new.ensures) (omega arith);
}
