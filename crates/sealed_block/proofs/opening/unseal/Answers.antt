use Rattle.std.proofs.Common.{◌≡◌, ◌<◌, ap, sym, subst, ◌∙◌}
use Rattle.std.proofs.lemmas.Bool.Decides.{not_from_Decides}
use Rattle.std.proofs.lemmas.List.Elements.{All-from_get_or}
use Rattle.sealed_block.specs.Blocks.{AreBytes, IsInRanges, Opens, encoding}
use Rattle.sealed_block.specs.Opening.{head_in, payload_in}
use Rattle.sealed_block.proofs.Opened.{length-block, opened-None, opened-block, opens_where, shut_where}
use Rattle.sealed_block.proofs.opening.unseal.Goals as goal

other_size : (c : goal.Then-block-ne-BLOCK_SIZE) → Opens c.args.block.now (head_in c.args.block.now) (payload_in c.args.block.now) → ⊥
other_size c o = c.if-block-ne-BLOCK_SIZE.true (length-block c.args.block.now _ _ o)

pub returns-then-block-ne-BLOCK_SIZE-clause-head :
    goal.returns-then-block-ne-BLOCK_SIZE-clause-head
returns-then-block-ne-BLOCK_SIZE-clause-head c = sym (opened-None c.args.block.now (other_size c))

pub returns-then-block-ne-BLOCK_SIZE-clause-shut :
    goal.returns-then-block-ne-BLOCK_SIZE-clause-shut
returns-then-block-ne-BLOCK_SIZE-clause-shut c = shut_where c.args.block.now (other_size c)

out_of_range : (c : goal.Then-not-is_in_ranges) → Opens c.args.block.now (head_in c.args.block.now) (payload_in c.args.block.now) → ⊥
out_of_range c o = not_from_Decides c.is_in_ranges.result c.is_in_ranges.ensures c.if-not-is_in_ranges.true (subst IsInRanges (sym c.head_of-head.ensures) o.ranges)

pub returns-then-not-is_in_ranges-clause-head : goal.returns-then-not-is_in_ranges-clause-head
returns-then-not-is_in_ranges-clause-head c = sym (opened-None c.args.block.now (out_of_range c))

pub returns-then-not-is_in_ranges-clause-shut : goal.returns-then-not-is_in_ranges-clause-shut
returns-then-not-is_in_ranges-clause-shut c = shut_where c.args.block.now (out_of_range c)

other_bytes : (c : goal.Then-not-is_encoding) → Opens c.args.block.now (head_in c.args.block.now) (payload_in c.args.block.now) → ⊥
other_bytes c o = not_from_Decides c.is_encoding.result c.is_encoding.ensures c.if-not-is_encoding.true (o.encoded ∙ ap (λ h. encoding h (payload_in c.args.block.now)) (sym c.head_of-head.ensures))

pub returns-then-not-is_encoding-clause-head : goal.returns-then-not-is_encoding-clause-head
returns-then-not-is_encoding-clause-head c = sym (opened-None c.args.block.now (other_bytes c))

pub returns-then-not-is_encoding-clause-shut : goal.returns-then-not-is_encoding-clause-shut
returns-then-not-is_encoding-clause-shut c = shut_where c.args.block.now (other_bytes c)

pub returns-clause-open : goal.returns-clause-open
returns-clause-open c =
    let block = c.args.block.now in
    let named = c.head_of-head.ensures in
    let are : AreBytes block = All-from_get_or (λ b. b < 256) block 0 (λ i within. (c.type_inv.block i).fits) in
    let ranges : IsInRanges (head_in block) = subst IsInRanges named (c.is_in_ranges.ensures.0 c.if-not-is_in_ranges.false) in
    let encoded : block ≡ encoding (head_in block) (payload_in block) = c.is_encoding.ensures.0 c.if-not-is_encoding.false ∙ ap (λ h. encoding h (payload_in block)) named in
    subst (λ h. Opens block h (payload_in block)) (sym named) (opens_where block c.if-block-ne-BLOCK_SIZE.false are ranges encoded)

pub returns-clause-head : goal.returns-clause-head
returns-clause-head c = sym (opened-block c.args.block.now _ _ (returns-clause-open c))
