use Rattle.std.proofs.Common.{◌≢◌, IfErr, IfOk, subst}
use Rattle.sealed_block.specs.declared.records.JoinFault.TheVariants.{NoMemory}
use Rattle.sealed_block.specs.Records.{IsFirstFault, IsRecord, blocks_of}
use Rattle.sealed_block.proofs.Joining.{each_fault, each_record}
use Rattle.sealed_block.proofs.records.join_parts.Goals as goal

pub returns-clause-each_record : goal.returns-clause-each_record
returns-clause-each_record c =
    each_record (blocks_of c.args.blocks.now) c.join_blocks.result
    (subst (λ bs. IfOk c.join_blocks.result (IsRecord bs)) c.as_chunks.ensures.front c.join_blocks.ensures.joined)
    (subst (λ bs. IfErr c.join_blocks.result (λ fault. fault ≢ NoMemory → IsFirstFault bs fault)) c.as_chunks.ensures.front c.join_blocks.ensures.fault)

pub returns-clause-each_fault : goal.returns-clause-each_fault
returns-clause-each_fault c =
    each_fault (blocks_of c.args.blocks.now) c.join_blocks.result
    (subst (λ bs. IfOk c.join_blocks.result (IsRecord bs)) c.as_chunks.ensures.front c.join_blocks.ensures.joined)
    (subst (λ bs. IfErr c.join_blocks.result (λ fault. fault ≢ NoMemory → IsFirstFault bs fault)) c.as_chunks.ensures.front c.join_blocks.ensures.fault)
