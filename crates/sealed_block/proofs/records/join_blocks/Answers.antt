use Rattle.std.proofs.Common.{◌≡◌, ◌∙◌, Some, ap, sym}
use Rattle.std.proofs.lemmas.Bool.Decides.{not_from_Decides}
use Rattle.std.specs.List.{flat_map}
use Rattle.sha2.specs.Sha256.{sha256}
use Rattle.sealed_block.specs.Opening.{opened, payload_in}
use Rattle.sealed_block.specs.Records.{block_at}
use Rattle.sealed_block.proofs.Joining.{all_parts}
use Rattle.sealed_block.proofs.records.join_blocks.Goals as goal

pub returns-then-not-are_same-clause-fault : goal.returns-then-not-are_same-clause-fault
returns-then-not-are_same-clause-fault c =
    let parts = c.args.parts.now in
    let first = c.in-Some.first in
    let begins : opened (block_at parts 0) ≡ Some first = sym c.unseal.ensures.head ∙ c.in-Some.is in
    let all = all_parts parts first begins c.requires c.in_ok-joined.ensures.parts c.if-parts-first.false in
    let digest : c.digest.result ≡ sha256 (flat_map payload_in parts) = c.digest.ensures ∙ ap sha256 (c.as_slice.ensures ∙ c.in_ok-joined.ensures.joined) in
    λ _. record {
      first = first;
      parts = all;
      differs = λ same. not_from_Decides c.are_same.result c.are_same.ensures c.if-not-are_same.true (digest ∙ same);
    }

pub returns-clause-joined : goal.returns-clause-joined
returns-clause-joined c =
    let parts = c.args.parts.now in
    let first = c.in-Some.first in
    let begins : opened (block_at parts 0) ≡ Some first = sym c.unseal.ensures.head ∙ c.in-Some.is in
    record {
      first = first;
      parts = all_parts parts first begins c.requires c.in_ok-joined.ensures.parts c.if-parts-first.false;
      joined = c.in_ok-joined.ensures.joined;
      digest = ap sha256 (sym c.as_slice.ensures) ∙ sym c.digest.ensures ∙ c.are_same.ensures.0 c.if-not-are_same.false;
    }
