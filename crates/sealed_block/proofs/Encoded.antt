-- A block is the encoding of its head and payload where its pieces are.
use Rattle.std.proofs.Common.{◌≡◌, ℕ, ◌-◌, ◌≤◌, ◌++◌, List, length, take, drop, replicate, sym, ◌∙◌, ap, append_assoc, arith}
use Rattle.std.proofs.lemmas.List.{take_at, drop_at, take-take, drop-take, length-replicate, length-take-le, length-drop, take-append-drop}
use Rattle.sha2.specs.Sha256.{sha256}
use Rattle.sealed_block.specs.declared.heads.Head.{Head}
use Rattle.sealed_block.specs.Blocks.{HasWidths, covered, head_bytes, encoding}
use Rattle.sealed_block.proofs.Fields.{length-head_bytes}
use Rattle.sealed_block.proofs.Opened.{length-covered}

-- the payload of so many bytes
abbrev pub payload_of : List ℕ → ℕ → List ℕ
payload_of block n = take n (drop 96 block)

-- the bytes after the payload that the digest covers
abbrev pub padding_of : List ℕ → ℕ → List ℕ
padding_of block n = drop n (drop 96 (take 4064 block))

-- The head, the zeros and the digest stand in the block.
pub record HasPieces (block : List ℕ) (h : Head) : Type 0 where
  pub prefix : head_bytes h ≡ take 96 (take 4064 block)
  pub padding : padding_of block h.length ≡ replicate (length (padding_of block h.length)) 0
  pub digest : sha256 (take 4064 block) ≡ drop 4064 block

length-payload_of : (block : List ℕ) (n : ℕ) → length block ≡ 4096 → n ≤ 3968 → length (payload_of block n) ≡ n
length-payload_of block n size fits = length-take-le n (drop 96 block) (omega (arith, length-drop 96 block))

-- the payload, as it stands in the bytes that the digest covers
payload_covered : (block : List ℕ) (n : ℕ) → n ≤ 3968 → take n (drop 96 (take 4064 block)) ≡ payload_of block n
payload_covered block n fits = ap (take n) (drop-take 96 3968 block) ∙ take-take n 3968 (drop 96 block) fits

covered-take : (block : List ℕ) (h : Head) → length block ≡ 4096 → h.length ≤ 3968 → HasPieces block h → covered h (payload_of block h.length) ≡ take 4064 block
unfolding covered
covered-take block h size fits pieces =
    let n = h.length in
    let payload = payload_of block n in
    let whole = take 4064 block in
    let rest = drop 96 whole in
    let long : length whole ≡ 4064 = length-take-le 4064 block (omega arith) in
    let left : length (padding_of block n) ≡ 3968 - length payload = omega (arith, length-drop n rest, length-drop 96 whole, length-payload_of block n size fits) in
    let padding : replicate (3968 - length payload) 0 ≡ padding_of block n = ap (λ k. replicate k 0) (sym left) ∙ sym pieces.padding in
    append_assoc (head_bytes h) payload (replicate (3968 - length payload) 0)
    ∙ ap (λ xs. xs ++ (payload ++ replicate (3968 - length payload) 0)) pieces.prefix
    ∙ ap (λ xs. take 96 whole ++ (payload ++ xs)) padding
    ∙ ap (λ xs. take 96 whole ++ (xs ++ padding_of block n)) (sym (payload_covered block n fits))
    ∙ ap (λ xs. take 96 whole ++ xs) (take-append-drop n rest)
    ∙ take-append-drop 96 whole

-- A block with these pieces is encoded so.
pub encoding_from_pieces : (block : List ℕ) (h : Head) → length block ≡ 4096 → h.length ≤ 3968 → HasPieces block h → block ≡ encoding h (payload_of block h.length)
unfolding encoding
encoding_from_pieces block h size fits pieces =
    let prefix = covered-take block h size fits pieces in
    sym (ap (λ xs. xs ++ sha256 xs) prefix ∙ ap (λ xs. take 4064 block ++ xs) pieces.digest ∙ take-append-drop 4064 block)

-- A block that is encoded so has these pieces.
pub pieces_from_encoding : (block : List ℕ) (h : Head) → HasWidths h → length block ≡ 4096 → h.length ≤ 3968 → block ≡ encoding h (payload_of block h.length) → HasPieces block h
unfolding encoding covered
pieces_from_encoding block h widths size fits encoded =
    let n = h.length in
    let payload = payload_of block n in
    let zeros = replicate (3968 - length payload) 0 in
    let long : length payload ≡ n = length-payload_of block n size fits in
    let whole : take 4064 block ≡ covered h payload = ap (take 4064) encoded ∙ take_at (covered h payload) (sha256 (covered h payload)) 4064 (length-covered h payload widths (omega (arith, long))) in
    let end : drop 4064 block ≡ sha256 (covered h payload) = ap (drop 4064) encoded ∙ drop_at (covered h payload) (sha256 (covered h payload)) 4064 (length-covered h payload widths (omega (arith, long))) in
    let joined : covered h payload ≡ head_bytes h ++ (payload ++ zeros) = append_assoc (head_bytes h) payload zeros in
    let head_ends : length (head_bytes h) ≡ 96 = length-head_bytes h widths in
    let padding : padding_of block n ≡ zeros = ap (λ xs. drop n (drop 96 xs)) (whole ∙ joined) ∙ ap (drop n) (drop_at (head_bytes h) (payload ++ zeros) 96 head_ends) ∙ drop_at payload zeros n long in
    record {
      prefix = sym (ap (take 96) (whole ∙ joined) ∙ take_at (head_bytes h) (payload ++ zeros) 96 head_ends);
      padding = padding ∙ ap (λ k. replicate k 0) (sym (ap length padding ∙ length-replicate (3968 - length payload) 0));
      digest = ap sha256 whole ∙ sym end;
    }
