-- Lists that are joined of pieces of 3,968 elements, the last one of which may be shorter: a piece is found where it stands.
use Rattle.std.proofs.Common.{◌≡◌, ℕ, zero, suc, ◌+◌, ◌*◌, ◌<◌, ◌≤◌, List, [], ◌∷◌, ◌++◌, length, take, drop, get_or, ap, ◌∙◌, sym, arith}
use Rattle.std.proofs.lemmas.List.{append-nil, length-append, take_all}
use Rattle.std.proofs.Math.Seq.{take-append_seam, drop-append-add}
use Rattle.std.specs.List.{flat_map}

module _ (g : List ℕ → List ℕ) where
  -- All pieces but the last one are full, and that is no longer.
  pub record AreFull (blocks : List (List ℕ)) : Type 0 where
    pub full : (p : ℕ) → p + 1 < length blocks → length (g (get_or blocks p [])) ≡ 3968
    pub no_longer : (p : ℕ) → p < length blocks → length (g (get_or blocks p [])) ≤ 3968

  full_tail : (block : List ℕ) (blocks : List (List ℕ)) → AreFull (block ∷ blocks) → AreFull blocks
  full_tail block blocks are = record {
    full = λ p lower. are.full (suc p) (omega (arith, lower));
    no_longer = λ p lower. are.no_longer (suc p) (omega (arith, lower));
  }

  -- Each piece is found at its place.
  pub piece_at : (blocks : List (List ℕ)) (p : ℕ) → p < length blocks → AreFull blocks → take 3968 (drop (3968 * p) (flat_map g blocks)) ≡ g (get_or blocks p [])
  piece_at [] p lower are = absurd (omega (arith, lower))
  piece_at (block ∷ []) zero lower are =
      ap (take 3968) (append-nil (g block))
      ∙ take_all 3968 (g block) (are.no_longer 0 lower)
  piece_at (block ∷ []) (suc p) lower are = absurd (omega (arith, lower))
  piece_at (block ∷ next ∷ blocks) zero lower are =
      let full : length (g block) ≡ 3968 = are.full 0 (omega arith) in
      ap (λ n. take n (g block ++ flat_map g (next ∷ blocks))) (sym full)
      ∙ take-append_seam (g block) (flat_map g (next ∷ blocks))
  piece_at (block ∷ next ∷ blocks) (suc p) lower are =
      let full : length (g block) ≡ 3968 = are.full 0 (omega arith) in
      let at : 3968 * suc p ≡ length (g block) + 3968 * p = omega (arith, full) in
      ap (λ n. take 3968 (drop n (g block ++ flat_map g (next ∷ blocks)))) at
      ∙ ap (take 3968) (drop-append-add (g block) (flat_map g (next ∷ blocks)) (3968 * p))
      ∙ piece_at (next ∷ blocks) p (omega (arith, lower)) (full_tail block (next ∷ blocks) are)

  -- How long all of them are, of which this is the last one.
  pub whole_length : (blocks : List (List ℕ)) (last : ℕ) → suc last ≡ length blocks → AreFull blocks → length (flat_map g blocks) ≡ 3968 * last + length (g (get_or blocks last []))
  whole_length [] last is are = absurd (omega (arith, is))
  whole_length (block ∷ []) zero is are = let one = ap length (append-nil (g block)) in omega (arith, one)
  whole_length (block ∷ []) (suc last) is are = absurd (omega (arith, is))
  whole_length (block ∷ next ∷ blocks) zero is are = absurd (omega (arith, is))
  whole_length (block ∷ next ∷ blocks) (suc last) is are =
      let full : length (g block) ≡ 3968 = are.full 0 (omega arith) in
      let rest = whole_length (next ∷ blocks) last (omega (arith, is)) (full_tail block (next ∷ blocks) are) in
      omega (arith, length-append (g block) (flat_map g (next ∷ blocks)), full, rest)
