use Rattle.std.proofs.Common.{◌≡◌, ◌*◌, List, ℕ, length, drop, ap, ◌∙◌, sym, arith}
use Rattle.std.proofs.lemmas.List.{take_all}
use Rattle.journal_ring.proofs.blocks.part_payload.Goals as goal

pub returns-then-rest-le-PAYLOAD_BYTES-clause-payload : goal.returns-then-rest-le-PAYLOAD_BYTES-clause-payload
returns-then-rest-le-PAYLOAD_BYTES-clause-payload c =
    let rest : List ℕ = drop (3968 * c.args.part) c.args.payload.now in
    let is : c.split_at.result.1.now ≡ rest = c.split_at.ensures.back ∙ ap (λ n. drop n c.args.payload.now) (let e : c.args.part * 3968 ≡ 3968 * c.args.part = omega arith in e) in
    is ∙ sym (take_all 3968 rest (omega (arith, ap length is, c.if-rest-le-PAYLOAD_BYTES.true)))
