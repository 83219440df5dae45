use Rattle.std.proofs.Common.{◌≡◌, ◌∙◌, ap, sym, length, take, drop, replicate, List, ℕ}
use Rattle.std.proofs.lemmas.Bool.Decides.{not_from_Decides}
use Rattle.sha2.specs.Sha256.{sha256}
use Rattle.sealed_block.specs.declared.heads.Head.{Head}
use Rattle.sealed_block.specs.Blocks.{encoding}
use Rattle.sealed_block.specs.Opening.{head_in, payload_in}
use Rattle.sealed_block.proofs.Encoded.{HasPieces, payload_of, padding_of, pieces_from_encoding, encoding_from_pieces}
use Rattle.sealed_block.proofs.opening.is_encoding.Goals as goal

-- the payload that the block names, where it names this head
named : (block : List ℕ) (h : Head) → h ≡ head_in block → payload_in block ≡ payload_of block h.length
unfolding payload_in
named block h is = ap (λ g. payload_of block g.length) (sym is)

pub returns-then-not-are_same : goal.returns-then-not-are_same
returns-then-not-are_same c =
    let block = c.args.block.now in
    let h = c.args.head.now in (
      λ yes. cc,
      λ encoded.
          let pieces = pieces_from_encoding block h c.encoded_head.ensures.widths c.requires.size c.requires.fits (encoded ∙ ap (encoding h) (named block h c.requires.named)) in
          let same : c.encoded_head.result ≡ c.split_at-2.result.0.now = c.encoded_head.ensures.bytes ∙ pieces.prefix ∙ sym (c.split_at-2.ensures.front ∙ ap (take 96) c.split_at.ensures.front) in
          absurd (not_from_Decides c.are_same.result c.are_same.ensures c.if-not-are_same.true same),
    )

pub returns-then-not-are_zeros : goal.returns-then-not-are_zeros
returns-then-not-are_zeros c =
    let block = c.args.block.now in
    let h = c.args.head.now in
    let padding : c.split_at-3.result.1.now ≡ padding_of block h.length = c.split_at-3.ensures.back ∙ ap (drop h.length) (c.split_at-2.ensures.back ∙ ap (drop 96) c.split_at.ensures.front) in (
      λ yes. cc,
      λ encoded.
          let pieces = pieces_from_encoding block h c.encoded_head.ensures.widths c.requires.size c.requires.fits (encoded ∙ ap (encoding h) (named block h c.requires.named)) in
          let zeros : c.split_at-3.result.1.now ≡ replicate (length c.split_at-3.result.1.now) 0 = padding ∙ pieces.padding ∙ ap (λ xs. replicate (length xs) 0) (sym padding) in
          absurd (not_from_Decides c.are_zeros.result c.are_zeros.ensures c.if-not-are_zeros.true zeros),
    )

pub returns : goal.returns
returns c =
    let block = c.args.block.now in
    let h = c.args.head.now in
    let payload = named block h c.requires.named in
    let prefix : c.split_at-2.result.0.now ≡ take 96 (take 4064 block) = c.split_at-2.ensures.front ∙ ap (take 96) c.split_at.ensures.front in
    let padding : c.split_at-3.result.1.now ≡ padding_of block h.length = c.split_at-3.ensures.back ∙ ap (drop h.length) (c.split_at-2.ensures.back ∙ ap (drop 96) c.split_at.ensures.front) in
    let digest : c.digest.result ≡ sha256 (take 4064 block) = c.digest.ensures ∙ ap sha256 c.split_at.ensures.front in (
      λ yes.
          let pieces : HasPieces block h = record {
            prefix = sym c.encoded_head.ensures.bytes ∙ c.are_same.ensures.0 c.if-not-are_same.false ∙ prefix;
            padding = sym padding ∙ c.are_zeros.ensures.0 c.if-not-are_zeros.false ∙ ap (λ xs. replicate (length xs) 0) padding;
            digest = sym digest ∙ c.are_same-2.ensures.0 yes ∙ c.split_at.ensures.back;
          } in
          encoding_from_pieces block h c.requires.size c.requires.fits pieces ∙ ap (encoding h) (sym payload),
      λ encoded.
          let pieces = pieces_from_encoding block h c.encoded_head.ensures.widths c.requires.size c.requires.fits (encoded ∙ ap (encoding h) payload) in
          c.are_same-2.ensures.1 (digest ∙ pieces.digest ∙ sym c.split_at.ensures.back),
    )
