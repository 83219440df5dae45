use Rattle.std.proofs.Common.{take, refl}
use Rattle.std.specs.Int.{w32, w64, to_le_bytes}
use Rattle.sealed_block.proofs.Pieces.{written}
use Rattle.sealed_block.proofs.sealing.put_numbers.Goals as goal

pub returns-clause-written : goal.returns-clause-written
returns-clause-written c =
    let h = c.args.head.now in
    let owner = written (take 32 c.args.into.now) (to_le_bytes w64 h.owner) _ _ _ 32 40 refl c.to_le_bytes.ensures c.put.ensures.written refl in
    let number = written _ (to_le_bytes w64 h.number) _ _ _ 40 48 owner c.to_le_bytes-2.ensures c.put-2.ensures.written refl in
    let sequence = written _ (to_le_bytes w64 h.sequence) _ _ _ 48 56 number c.to_le_bytes-3.ensures c.put-3.ensures.written refl in
    written _ (to_le_bytes w32 h.length) _ _ _ 56 60 sequence c.to_le_bytes-4.ensures c.put-4.ensures.written refl
