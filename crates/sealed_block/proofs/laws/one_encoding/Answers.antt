use Rattle.std.proofs.Common.{sym, ◌∙◌}
use Rattle.sealed_block.proofs.Opened.{head_in-block, payload_in-block}
use Rattle.sealed_block.proofs.laws.one_encoding.Goals as goal

pub returns : goal.returns
returns c block h g payload other o p =
    (sym (head_in-block block h payload o) ∙ head_in-block block g other p, sym (payload_in-block block h payload o) ∙ payload_in-block block g other p)
