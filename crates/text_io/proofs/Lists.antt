-- Lemmas on lists of which a prefix was moved.
use Rattle.std.proofs.Common.{ℕ, ◌≡◌, ◌+◌, ◌-◌, ◌≤◌, ◌<◌, List, [], ◌++◌, length, take, drop, sym, ◌∙◌, ap, arith}
use Rattle.std.proofs.Math.Seq.{drop-append_seam, take-add}
use Rattle.std.proofs.lemmas.List.{take-append-drop, take_at, take_rest, length-append, length-drop, length-take-le, append-nil, nil_from_length, drop-drop, append_assoc}
use Rattle.text_io.specs.Streams.{TakesUpTo, MovesOver}

-- what is left from a place on is the piece of it that was copied to the start of another list, and then the rest
pub prefix_and_rest : (at n : ℕ) (bytes piece later : List ℕ) → n ≤ length bytes - at → piece ≡ take n (take (length bytes - at) (drop at bytes)) → drop at bytes ≡ take n (piece ++ later) ++ drop (at + n) bytes
prefix_and_rest at n bytes piece later fits copied =
    let whole : piece ≡ take n (drop at bytes) = copied ∙ ap (λ list. take n list) (take_rest bytes at) in
    let size : length piece ≡ n = ap length whole ∙ length-take-le n (drop at bytes) (omega (arith, length-drop at bytes)) in
    sym (take-append-drop n (drop at bytes)) ∙ ap (λ prefix. prefix ++ drop n (drop at bytes)) (sym (take_at piece later n size ∙ whole)) ∙ ap (λ rest. take n (piece ++ later) ++ rest) (drop-drop n at bytes)

-- the list is the prefix and then the rest
pub record Splits (all prefix rest : List ℕ) : Type 0 where
  pub whole : all ≡ prefix ++ rest

-- it still is when the prefix grows by what the rest loses
pub splits_on : {all prefix rest new_prefix new_rest : List ℕ} → Splits all prefix rest → MovesOver prefix rest new_prefix new_rest → Splits all new_prefix new_rest
splits_on split moved = record { whole = split.whole ∙ moved.together }

-- the rest is all but the prefix
pub rest_is : {all prefix rest : List ℕ} → Splits all prefix rest → rest ≡ drop (length prefix) all
rest_is {all} {prefix} {rest} split = sym (drop-append_seam prefix rest) ∙ ap (λ list. drop (length prefix) list) (sym split.whole)

-- the rest of a list that is as long as this
pub rest_after : {all prefix rest : List ℕ} (n : ℕ) → Splits all prefix rest → length prefix ≡ n → rest ≡ drop n all
rest_after {all} n split size = rest_is split ∙ ap (λ (m : ℕ). drop m all) size

-- a list with more than `limit` members in its prefix is longer than that
pub longer : {all prefix rest : List ℕ} (limit : ℕ) → Splits all prefix rest → limit < length prefix → limit < length all
longer {all} {prefix} {rest} limit split more = omega (arith, length-append prefix rest, ap length split.whole)

-- at the end the prefix is all, and nothing is left
pub at_the_end : {all prefix rest new_prefix new_rest : List ℕ} → Splits all prefix rest → MovesOver prefix rest new_prefix new_rest → rest ≡ [] → length new_prefix ≡ length prefix + 0 → (new_prefix ≡ all) × (new_rest ≡ [])
at_the_end {all} {prefix} {rest} {new_prefix} {new_rest} split moved none same =
    let nothing : new_rest ≡ [] = nil_from_length new_rest (omega (arith, length-append prefix rest, length-append new_prefix new_rest, ap length moved.together, ap length none)) in
    (sym (append-nil new_prefix) ∙ ap (λ list. new_prefix ++ list) (sym nothing) ∙ sym moved.together ∙ sym split.whole, nothing)

-- the whole prefix was taken
pub takes_prefix : {all prefix rest : List ℕ} (most : ℕ) → Splits all prefix rest → length prefix ≤ most → TakesUpTo most all rest
takes_prefix {all} {prefix} most split fits = (length prefix, fits, rest_is split)

-- the prefix was taken, and then some more
pub takes_more : {all prefix rest : List ℕ} (most limit : ℕ) (new_rest : List ℕ) → Splits all prefix rest → TakesUpTo most rest new_rest → length prefix + most ≤ limit → TakesUpTo limit all new_rest
takes_more {all} {prefix} most limit new_rest split (n, fits, taken) room =
    (length prefix + n, omega arith, taken ∙ ap (λ list. drop n list) (rest_is split) ∙ drop-drop n (length prefix) all)

-- the prefix of the bytes grows by a prefix of what comes after it
pub prefix_grows : (old held new bytes : List ℕ) (given n : ℕ) → held ≡ old ++ take given bytes → new ≡ held ++ take n (take (length bytes - given) (drop given bytes)) → new ≡ old ++ take (given + n) bytes
prefix_grows old held new bytes given n so_far more =
    let next : List ℕ = take n (take (length bytes - given) (drop given bytes)) in
    more ∙ ap (λ list. list ++ next) so_far ∙ append_assoc old (take given bytes) next ∙ ap (λ list. old ++ (take given bytes ++ take n list)) (take_rest bytes given) ∙ ap (λ list. old ++ list) (sym (take-add given n bytes))

-- what is left where so many bytes were copied to the start of a piece
pub taken_to : (n most : ℕ) (piece old rest : List ℕ) → n ≤ length piece → n ≤ most → old ≡ take n piece ++ rest → TakesUpTo most old rest
taken_to n most piece old rest fits few is = (n, few, rest_after n (record { whole = is }) (length-take-le n piece fits))
