use Rattle.std.proofs.Common.{rules, ◌≤◌, ◌∙◌, length, sym}
use Rattle.std.proofs.lemmas.List.{take_all}
use Rattle.sealed_block.proofs.opening.encoded_head.Goals as goal

pub returns-clause-bytes : goal.returns-clause-bytes
returns-clause-bytes c =
    let room : length c.put_head.new.into ≤ 96 = search rules in
    sym (take_all 96 c.put_head.new.into room) ∙ c.put_head.ensures.written
