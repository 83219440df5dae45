use Rattle.sealed_block.proofs.Opened.{AreBytes-block, length-block, opened-block, payload_in-block}
use Rattle.sealed_block.proofs.laws.sealed_blocks_open.Goals as goal

pub returns-clause-head : goal.returns-clause-head
returns-clause-head c = opened-block

pub returns-clause-payload : goal.returns-clause-payload
returns-clause-payload c = payload_in-block

pub returns-clause-size : goal.returns-clause-size
returns-clause-size c = length-block

pub returns-clause-bytes : goal.returns-clause-bytes
returns-clause-bytes c = AreBytes-block
