use Rattle.std.proofs.Common.{◌≡◌, ◌-◌, ◌≤◌, length, refl, sym, ap, ◌∙◌, subst, arith}
use Rattle.std.specs.Prelude.{◌&&◌, All, nat_le, nat_lt}
use Rattle.snap_tree.specs.Snaps.{IsSnapTree}
use Rattle.vol_types.specs.KeyMaps.{with_updates}
use Rattle.key_meaning.specs.Checks.{AreBlocksPlaced}
use Rattle.extent_ops.specs.Content.{AreOfContent, IsNear, TakesBlocks, hidden_if, is_covered_above}
use Rattle.file_plan.specs.Sizes.{blocks_up_to, cut_size}
use Rattle.file_plan.proofs.Io.{looks_stay}
use Rattle.file_plan.proofs.Losing.{cut_blocks, cut_bytes, nothing_less, nothing_lost}
use Rattle.file_plan.proofs.Taking.{no_updates, same_range}
use Rattle.file_plan.proofs.changing.cut.Goals as goal

pub returns-then-end-first-clause-changed : goal.returns-then-end-first-clause-changed
returns-then-end-first-clause-changed g c = λ keys read seen had.
    let size = c.args.size in
    let new_size = cut_size size c.args.new in
    let first : c.blocks_up_to-first.result ≡ blocks_up_to new_size = c.blocks_up_to-first.ensures.is ∙ ap blocks_up_to c.cut_size.ensures.is in
    let le : blocks_up_to size ≤ blocks_up_to new_size = (let holds = c.if-end-first.true in let end = c.blocks_up_to-end.ensures.is in omega (arith, holds, first, end)) in
    cut_bytes keys (with_updates c.new.result keys) read c.args.id c.args.number size new_size had
    (nothing_less keys c.args.id c.args.number size new_size c.new.result le c.new.ensures)

pub returns-then-end-first-clause-takes : goal.returns-then-end-first-clause-takes
returns-then-end-first-clause-takes g c = λ keys seen had.
    let size = c.args.size in
    let new_size = cut_size size c.args.new in
    let first : c.blocks_up_to-first.result ≡ blocks_up_to new_size = c.blocks_up_to-first.ensures.is ∙ ap blocks_up_to c.cut_size.ensures.is in
    let le : blocks_up_to size ≤ blocks_up_to new_size = (let holds = c.if-end-first.true in let end = c.blocks_up_to-end.ensures.is in omega (arith, holds, first, end)) in
    cut_blocks keys (with_updates c.new.result keys) c.args.id c.args.number size new_size had
    (nothing_less keys c.args.id c.args.number size new_size c.new.result le c.new.ensures)
    (nothing_lost keys c.args.id c.args.number size new_size c.new.result le c.new.ensures had)

pub returns-then-end-first-clause-own : goal.returns-then-end-first-clause-own
returns-then-end-first-clause-own g c = subst (AreOfContent c.args.id) (sym c.new.ensures) (no_updates c.args.id)

pub returns-then-end-first-clause-placed : goal.returns-then-end-first-clause-placed
returns-then-end-first-clause-placed g c = λ keys nodes layout seen range fresh placed may.
    subst (λ updates. AreBlocksPlaced (with_updates updates keys) nodes layout) (sym c.new.ensures) placed

pub returns-clause-changed : goal.returns-clause-changed
returns-clause-changed g c = λ keys read seen had.
    let size = c.args.size in
    let new_size = cut_size size c.args.new in
    let new = with_updates c.in_ok-punch.field-0 keys in
    let first = c.blocks_up_to-first.result in
    let end = c.blocks_up_to-end.result in
    let first_is : first ≡ blocks_up_to new_size = c.blocks_up_to-first.ensures.is ∙ ap blocks_up_to c.cut_size.ensures.is in
    let takes : TakesBlocks keys new c.args.number c.args.id (λ block. nat_le (blocks_up_to new_size) block && nat_lt block (blocks_up_to size)) (λ block. hidden_if (is_covered_above keys c.args.id c.args.number block)) =
    subst (λ cut. TakesBlocks keys new c.args.number c.args.id cut (λ block. hidden_if (is_covered_above keys c.args.id c.args.number block)))
    (λ i block. (same_range first end block (omega (arith, c.if-end-first.false)) ∙ (λ j. nat_le (first_is j) block && nat_lt block (c.blocks_up_to-end.ensures.is j))) i)
    (c.in_ok-punch.ensures.taken keys c.args.number seen.is_seen.is_map seen.is_seen.ids had.once had.in_range.places (let fits = c.ranges.size in omega (arith, c.if-end-first.false))
    (c.in_ok-keys.ensures.found keys _ seen had.in_range)) in
    let tree = subst IsSnapTree (sym seen.is_seen.ids) c.ids_fit.ensures.trees in
    cut_bytes keys new read c.args.id c.args.number size new_size had
    (record {
      hidden = λ block is. c.taken_blocks_show.ensures.hidden keys new c.args.number c.args.id (λ b. nat_le (blocks_up_to new_size) b && nat_lt b (blocks_up_to size)) takes tree had.there block is;
      stays = λ block is. c.taken_blocks_show.ensures.stays keys new c.args.number c.args.id (λ b. nat_le (blocks_up_to new_size) b && nat_lt b (blocks_up_to size)) (λ b. hidden_if (is_covered_above keys c.args.id c.args.number b)) takes tree had.there block is;
    })

pub returns-clause-takes : goal.returns-clause-takes
returns-clause-takes g c = λ keys seen had.
    let size = c.args.size in
    let new_size = cut_size size c.args.new in
    let new = with_updates c.in_ok-punch.field-0 keys in
    let first = c.blocks_up_to-first.result in
    let end = c.blocks_up_to-end.result in
    let first_is : first ≡ blocks_up_to new_size = c.blocks_up_to-first.ensures.is ∙ ap blocks_up_to c.cut_size.ensures.is in
    let takes : TakesBlocks keys new c.args.number c.args.id (λ block. nat_le (blocks_up_to new_size) block && nat_lt block (blocks_up_to size)) (λ block. hidden_if (is_covered_above keys c.args.id c.args.number block)) =
    subst (λ cut. TakesBlocks keys new c.args.number c.args.id cut (λ block. hidden_if (is_covered_above keys c.args.id c.args.number block)))
    (λ i block. (same_range first end block (omega (arith, c.if-end-first.false)) ∙ (λ j. nat_le (first_is j) block && nat_lt block (c.blocks_up_to-end.ensures.is j))) i)
    (c.in_ok-punch.ensures.taken keys c.args.number seen.is_seen.is_map seen.is_seen.ids had.once had.in_range.places (let fits = c.ranges.size in omega (arith, c.if-end-first.false))
    (c.in_ok-keys.ensures.found keys _ seen had.in_range)) in
    let tree = subst IsSnapTree (sym seen.is_seen.ids) c.ids_fit.ensures.trees in
    cut_blocks keys new c.args.id c.args.number size new_size had
    (record {
      hidden = λ block is. c.taken_blocks_show.ensures.hidden keys new c.args.number c.args.id (λ b. nat_le (blocks_up_to new_size) b && nat_lt b (blocks_up_to size)) takes tree had.there block is;
      stays = λ block is. c.taken_blocks_show.ensures.stays keys new c.args.number c.args.id (λ b. nat_le (blocks_up_to new_size) b && nat_lt b (blocks_up_to size)) (λ b. hidden_if (is_covered_above keys c.args.id c.args.number b)) takes tree had.there block is;
    })
    takes

pub returns-clause-fits : goal.returns-clause-fits
returns-clause-fits g c = λ keys seen range kept fresh content.
    let first = c.blocks_up_to-first.result in
    let end = c.blocks_up_to-end.result in
    c.in_ok-punch.ensures.fits
    (c.looked_at_keys_are_content.ensures.content keys c.args.number first (end - 1) c.in_ok-keys.keys kept
    (c.in_ok-keys.ensures.found keys _ seen range))

pub returns-clause-near : goal.returns-clause-near
returns-clause-near g c = λ keys longest seen range up_to.
    let first = c.blocks_up_to-first.result in
    let end = c.blocks_up_to-end.result in
    let first_is : first ≡ blocks_up_to (cut_size c.args.size c.args.new) = c.blocks_up_to-first.ensures.is ∙ ap blocks_up_to c.cut_size.ensures.is in
    let looked = c.in_ok-keys.ensures.found keys _ seen range in
    subst (λ n. All (IsNear c.args.number n (blocks_up_to c.args.size - 1) longest) c.in_ok-punch.field-0) first_is
    (subst (λ n. All (IsNear c.args.number first (n - 1) longest) c.in_ok-punch.field-0) c.blocks_up_to-end.ensures.is
    (c.in_ok-punch.ensures.near c.args.number longest
    (c.looked_at_keys_are_content.ensures.of_file keys c.args.number first (end - 1) c.in_ok-keys.keys looked)
    (c.looked_at_keys_are_content.ensures.up_to keys c.args.number first (end - 1) longest c.in_ok-keys.keys up_to looked)))

pub returns-clause-placed : goal.returns-clause-placed
returns-clause-placed g c = λ keys nodes layout seen range fresh placed may.
    let first = c.blocks_up_to-first.result in
    let end = c.blocks_up_to-end.result in
    c.in_ok-punch.ensures.placed keys c.args.number nodes layout seen.is_seen.is_map range.places
    (c.in_ok-keys.ensures.found keys _ seen range)
    placed

pub returns-then-end-first-clause-looks : goal.returns-then-end-first-clause-looks
returns-then-end-first-clause-looks g c = looks_stay _ _ refl

pub returns-then-end-first-clause-few : goal.returns-then-end-first-clause-few
returns-then-end-first-clause-few g c = λ keys seen had. omega (arith, ap length c.new.ensures)

pub returns-clause-few : goal.returns-clause-few
returns-clause-few g c = λ keys seen had.
    let first_is : c.blocks_up_to-first.result ≡ blocks_up_to (cut_size c.args.size c.args.new) = c.blocks_up_to-first.ensures.is ∙ ap blocks_up_to c.cut_size.ensures.is in
    let few = c.in_ok-punch.ensures.few_by_blocks keys c.args.number seen.is_seen.is_map had.once (let fits = c.ranges.size in omega (arith, c.if-end-first.false))
    (c.in_ok-keys.ensures.found keys _ seen had.in_range) in
    let end_is = c.blocks_up_to-end.ensures.is in
    omega (arith, few, first_is, end_is, c.if-end-first.false)

pub returns-then-end-first-clause-few_by_keys : goal.returns-then-end-first-clause-few_by_keys
returns-then-end-first-clause-few_by_keys g c = omega (arith, ap length c.new.ensures)

pub returns-clause-few_by_keys : goal.returns-clause-few_by_keys
returns-clause-few_by_keys g c =
    let few = c.in_ok-punch.ensures.few in
    let seen = c.in_ok-keys.ensures.seen in
    omega (arith, few, seen)
