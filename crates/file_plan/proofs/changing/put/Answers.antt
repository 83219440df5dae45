use Rattle.std.proofs.Common.{◌≡◌, ◌+◌, ◌≤◌, [], length, refl, sym, ap, ◌∙◌, subst, arith}
use Rattle.std.specs.Prelude.{All, is_some}
use Rattle.snap_tree.specs.Snaps.{IsSnapTree}
use Rattle.vol_types.specs.KeyMaps.{with_updates}
use Rattle.vol_types.specs.declared.keys.Key.{Key}
use Rattle.key_meaning.specs.Checks.{AreBlocksPlaced}
use Rattle.extent_ops.specs.Content.{AreFresh, AreFreshWithin, AreOfContent, given_by}
use Rattle.file_plan.proofs.Io.{looks_stay}
use Rattle.file_plan.proofs.Putting.{fresh_show, if_none, nothing_put, nothing_shows, put_blocks, put_bytes}
use Rattle.file_plan.proofs.Taking.{no_updates}
use Rattle.file_plan.proofs.changing.put.Goals as goal

pub returns-in_default-clause-changed : goal.returns-in_default-clause-changed
returns-in_default-clause-changed g c = λ keys read size seen had fresh.
    let empty : c.args.extents.now ≡ [] = sym c.as_slice.ensures ∙ if_none _ _ c.in_default.is c.last_block.ensures.none in
    put_bytes keys (with_updates c.new.result keys) read c.args.id c.args.number size c.args.extents.now
    (nothing_shows keys c.args.id c.args.number c.args.extents.now c.new.result empty c.new.ensures) had

pub returns-in_default-clause-takes : goal.returns-in_default-clause-takes
returns-in_default-clause-takes g c = λ keys size seen had fresh.
    let empty : c.args.extents.now ≡ [] = sym c.as_slice.ensures ∙ if_none _ _ c.in_default.is c.last_block.ensures.none in
    put_blocks keys (with_updates c.new.result keys) c.args.id c.args.number size c.args.extents.now
    (nothing_shows keys c.args.id c.args.number c.args.extents.now c.new.result empty c.new.ensures) had
    (nothing_put keys c.args.id c.args.number size c.args.extents.now c.new.result empty c.new.ensures had)

pub returns-in_default-clause-own : goal.returns-in_default-clause-own
returns-in_default-clause-own g c = subst (AreOfContent c.args.id) (sym c.new.ensures) (no_updates c.args.id)

pub returns-in_default-clause-placed : goal.returns-in_default-clause-placed
returns-in_default-clause-placed g c = λ keys nodes layout seen range fresh placed may.
    subst (λ updates. AreBlocksPlaced (with_updates updates keys) nodes layout) (sym c.new.ensures) placed

pub returns-clause-changed : goal.returns-clause-changed
returns-clause-changed g c = λ keys read size seen had fresh.
    let extents = c.args.extents.now in
    let last = c.in-Some.last in
    let new = with_updates c.in_ok-overwrite.field-0 keys in
    let within : AreFreshWithin c.args.number c.args.id c.args.first last extents = record {
      fresh = fresh;
      within = subst (All (λ (key : Key). key.pos.offset ≤ last + 1)) c.as_slice.ensures (c.in-Some.ensures.within c.args.number c.args.id c.args.first (subst (AreFresh c.args.number c.args.id c.args.first) (sym c.as_slice.ensures) fresh));
    } in
    let takes = c.in_ok-overwrite.ensures.taken keys c.args.number c.args.first last seen.is_seen.is_map had.once had.in_range.places within
    (c.in_ok-keys.ensures.found keys _ seen had.in_range) in
    let tree = subst IsSnapTree (sym seen.is_seen.ids) c.ids_fit.ensures.trees in
    put_bytes keys new read c.args.id c.args.number size extents
    (fresh_show keys new c.args.id c.args.number extents
    (λ block is. c.taken_blocks_show.ensures.taken keys new c.args.number c.args.id (λ b. is_some (given_by extents b)) (given_by extents) takes tree had.there block is)
    (λ block is. c.taken_blocks_show.ensures.stays keys new c.args.number c.args.id (λ b. is_some (given_by extents b)) (given_by extents) takes tree had.there block is))
    had

pub returns-clause-takes : goal.returns-clause-takes
returns-clause-takes g c = λ keys size seen had fresh.
    let extents = c.args.extents.now in
    let last = c.in-Some.last in
    let new = with_updates c.in_ok-overwrite.field-0 keys in
    let within : AreFreshWithin c.args.number c.args.id c.args.first last extents = record {
      fresh = fresh;
      within = subst (All (λ (key : Key). key.pos.offset ≤ last + 1)) c.as_slice.ensures (c.in-Some.ensures.within c.args.number c.args.id c.args.first (subst (AreFresh c.args.number c.args.id c.args.first) (sym c.as_slice.ensures) fresh));
    } in
    let takes = c.in_ok-overwrite.ensures.taken keys c.args.number c.args.first last seen.is_seen.is_map had.once had.in_range.places within
    (c.in_ok-keys.ensures.found keys _ seen had.in_range) in
    let tree = subst IsSnapTree (sym seen.is_seen.ids) c.ids_fit.ensures.trees in
    put_blocks keys new c.args.id c.args.number size extents
    (fresh_show keys new c.args.id c.args.number extents
    (λ block is. c.taken_blocks_show.ensures.taken keys new c.args.number c.args.id (λ b. is_some (given_by extents b)) (given_by extents) takes tree had.there block is)
    (λ block is. c.taken_blocks_show.ensures.stays keys new c.args.number c.args.id (λ b. is_some (given_by extents b)) (given_by extents) takes tree had.there block is))
    had takes

pub returns-clause-fits : goal.returns-clause-fits
returns-clause-fits g c = λ keys seen range kept fresh content.
    let last = c.in-Some.last in
    let within : AreFreshWithin c.args.number c.args.id c.args.first last c.args.extents.now = record {
      fresh = fresh;
      within = subst (All (λ (key : Key). key.pos.offset ≤ last + 1)) c.as_slice.ensures (c.in-Some.ensures.within c.args.number c.args.id c.args.first (subst (AreFresh c.args.number c.args.id c.args.first) (sym c.as_slice.ensures) fresh));
    } in
    c.in_ok-overwrite.ensures.fits c.args.number c.args.first last within
    (c.looked_at_keys_are_content.ensures.content keys c.args.number c.args.first last c.in_ok-keys.keys kept
    (c.in_ok-keys.ensures.found keys _ seen range))
    content

pub returns-clause-near : goal.returns-clause-near
returns-clause-near g c = λ keys size longest seen range up_to last within.
    c.in_ok-overwrite.ensures.near c.args.number c.args.first last longest within
    (c.looked_at_keys_are_content.ensures.up_to keys c.args.number c.args.first c.in-Some.last longest c.in_ok-keys.keys up_to
    (c.in_ok-keys.ensures.found keys _ seen range))

pub returns-clause-placed : goal.returns-clause-placed
returns-clause-placed g c = λ keys nodes layout seen range fresh placed may.
    let last = c.in-Some.last in
    let within : AreFreshWithin c.args.number c.args.id c.args.first last c.args.extents.now = record {
      fresh = fresh;
      within = subst (All (λ (key : Key). key.pos.offset ≤ last + 1)) c.as_slice.ensures (c.in-Some.ensures.within c.args.number c.args.id c.args.first (subst (AreFresh c.args.number c.args.id c.args.first) (sym c.as_slice.ensures) fresh));
    } in
    c.in_ok-overwrite.ensures.placed keys c.args.number c.args.first last nodes layout seen.is_seen.is_map range.places within
    (c.in_ok-keys.ensures.found keys _ seen range)
    placed may

pub returns-in_default-clause-looks : goal.returns-in_default-clause-looks
returns-in_default-clause-looks g c = looks_stay _ _ refl

pub returns-in_default-clause-few : goal.returns-in_default-clause-few
returns-in_default-clause-few g c = λ keys size seen had fresh. omega (arith, ap length c.new.ensures)

pub returns-clause-few : goal.returns-clause-few
returns-clause-few g c = λ keys size seen had fresh.
    let last = c.in-Some.last in
    let within : AreFreshWithin c.args.number c.args.id c.args.first last c.args.extents.now = record {
      fresh = fresh;
      within = subst (All (λ (key : Key). key.pos.offset ≤ last + 1)) c.as_slice.ensures (c.in-Some.ensures.within c.args.number c.args.id c.args.first (subst (AreFresh c.args.number c.args.id c.args.first) (sym c.as_slice.ensures) fresh));
    } in
    c.in_ok-overwrite.ensures.few_by_blocks keys c.args.number c.args.first last seen.is_seen.is_map had.once within
    (c.in_ok-keys.ensures.found keys _ seen had.in_range)

pub returns-in_default-clause-few_by_keys : goal.returns-in_default-clause-few_by_keys
returns-in_default-clause-few_by_keys g c = λ fresh. omega (arith, ap length c.new.ensures)

pub returns-clause-few_by_keys : goal.returns-clause-few_by_keys
returns-clause-few_by_keys g c = λ fresh.
    let last = c.in-Some.last in
    let within : AreFreshWithin c.args.number c.args.id c.args.first last c.args.extents.now = record {
      fresh = fresh;
      within = subst (All (λ (key : Key). key.pos.offset ≤ last + 1)) c.as_slice.ensures (c.in-Some.ensures.within c.args.number c.args.id c.args.first (subst (AreFresh c.args.number c.args.id c.args.first) (sym c.as_slice.ensures) fresh));
    } in
    let few = c.in_ok-overwrite.ensures.few c.args.number c.args.first last within in
    let seen = c.in_ok-keys.ensures.seen in
    omega (arith, few, seen)
