-- Bytes that are put over others, once these are long enough.
use Rattle.std.proofs.Common.{◌≡◌, ℕ, ◌+◌, ◌-◌, ◌<◌, ◌≤◌, List, ◌++◌, length, take, drop, replicate, ap, sym, ◌∙◌, arith, ⊎_elim}
use Rattle.std.proofs.lemmas.Bool.{cases_lt}
use Rattle.std.proofs.lemmas.List.{append-nil, take-append-le, take-replicate, take_all, drop-replicate}
use Rattle.std.proofs.Math.Seq.{take-append-add, drop-append-add}
use Rattle.std.proofs.Math.ListN.{drop_of_length-le}
use Rattle.forest_ops.specs.Content.{put_at, resized}

module _ (offset end : ℕ) (bytes : List ℕ) (fits : offset ≤ end) where
  front : take offset (bytes ++ replicate (end - length bytes) 0) ≡ resized offset bytes
  front = ⊎_elim
      (λ (below : offset < length bytes).
      let none : offset - length bytes ≡ 0 = omega (arith, below) in
      take-append-le offset bytes (replicate (end - length bytes) 0) (omega (arith, below))
      ∙ sym (append-nil (take offset bytes)) ∙ ap (λ n. take offset bytes ++ replicate n 0) (sym none))
      (λ (above : length bytes ≤ offset).
      let far : offset ≡ length bytes + (offset - length bytes) = omega (arith, above) in
      let room : offset - length bytes ≤ end - length bytes = omega (arith, fits) in
      ap (λ n. take n (bytes ++ replicate (end - length bytes) 0)) far
      ∙ take-append-add bytes (replicate (end - length bytes) 0) (offset - length bytes)
      ∙ ap (λ z. bytes ++ z) (take-replicate (offset - length bytes) (end - length bytes) 0 room)
      ∙ ap (λ b. b ++ replicate (offset - length bytes) 0) (sym (take_all offset bytes above)))
      (cases_lt offset (length bytes))

  back : drop end (bytes ++ replicate (end - length bytes) 0) ≡ drop end bytes
  back = ⊎_elim
      (λ (below : end < length bytes).
      let none : end - length bytes ≡ 0 = omega (arith, below) in
      ap (λ n. drop end (bytes ++ replicate n 0)) none ∙ ap (drop end) (append-nil bytes))
      (λ (above : length bytes ≤ end).
      let far : end ≡ length bytes + (end - length bytes) = omega (arith, above) in
      let all : (end - length bytes) - (end - length bytes) ≡ 0 = omega arith in
      ap (λ n. drop n (bytes ++ replicate (end - length bytes) 0)) far
      ∙ drop-append-add bytes (replicate (end - length bytes) 0) (end - length bytes)
      ∙ drop-replicate (end - length bytes) (end - length bytes) 0
      ∙ ap (λ n. replicate n 0) all
      ∙ sym (drop_of_length-le bytes above))
      (cases_lt end (length bytes))

-- what is put over the bytes, with zeros up to its end
pub put_over : (offset : ℕ) (put bytes : List ℕ) → take offset (bytes ++ replicate (offset + length put - length bytes) 0) ++ put ++ drop (offset + length put) (bytes ++ replicate (offset + length put - length bytes) 0) ≡ put_at offset put bytes
put_over offset put bytes =
    ap (λ f. f ++ put ++ drop (offset + length put) (bytes ++ replicate (offset + length put - length bytes) 0)) (front offset (offset + length put) bytes (omega arith))
    ∙ ap (λ b. resized offset bytes ++ put ++ b) (back offset (offset + length put) bytes (omega arith))
