use Rattle.std.proofs.Common.{◌*◌, ◌≤◌, ◌∙◌, length, drop, ap, sym, arith}
use Rattle.std.proofs.lemmas.List.{take_all}
use Rattle.node_store.proofs.planning.chunk.Goals as goal

pub returns-then-rest-le-PAYLOAD_BYTES-clause-chunk : goal.returns-then-rest-le-PAYLOAD_BYTES-clause-chunk
returns-then-rest-le-PAYLOAD_BYTES-clause-chunk c =
    let e = c.split_at.ensures.back in
    let short : length (drop (3968 * c.args.part) c.args.payload.now) ≤ 3968 = omega (arith, ap length e, c.if-rest-le-PAYLOAD_BYTES.true) in
    e ∙ sym (take_all 3968 (drop (3968 * c.args.part) c.args.payload.now) short)
