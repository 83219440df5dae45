use Rattle.std.proofs.Common.{rules, ◌≡◌, ◌+◌, ◌≤◌, length, sym, ap, arith, ◌∙◌}
use Rattle.std.proofs.lemmas.List.{take_all}
use Rattle.sha2.specs.Sha256.{sha256}
use Rattle.sha2.proofs.Facts256.{length-sha256}
use Rattle.sealed_block.specs.Blocks.{covered, encoding}
use Rattle.sealed_block.proofs.Pieces.{written}
use Rattle.sealed_block.proofs.sealing.seal.Goals as goal

pub returns-clause-encoded : goal.returns-clause-encoded
unfolding encoding
returns-clause-encoded c =
    let prefix = covered c.args.head.now c.args.payload.now in
    let digest : c.covered_digest-digest.result ≡ sha256 prefix = c.covered_digest-digest.ensures ∙ ap sha256 c.put_covered.ensures.written in
    let room : length c.put.new.into ≤ 4096 = search rules in
    let ends : 4064 + length (sha256 prefix) ≡ 4096 = omega (arith, length-sha256 prefix) in
    sym (take_all 4096 c.put.new.into room) ∙ written prefix (sha256 prefix) _ _ _ 4064 4096 c.put_covered.ensures.written digest c.put.ensures.written ends

pub returns-clause-opens : goal.returns-clause-opens
returns-clause-opens c = record {
  widths = c.put_covered.ensures.widths;
  ranges = c.requires.ranges;
  bytes = c.put_covered.ensures.bytes;
  fills = c.requires.fills;
  encoded = returns-clause-encoded c;
}
