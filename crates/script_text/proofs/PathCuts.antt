-- Where a path is cut, and whom a line is for.
use Rattle.std.proofs.Common.{◌≡◌, ◌≢◌, ℕ, ◌<◌, false, List, [], ◌∷◌, ◌++◌, Option, Some, refl, sym, ap, ◌∙◌, arith}
use Rattle.std.proofs.lemmas.Bool.{false≢true}
use Rattle.std.proofs.lemmas.Bool.Decides.{nat_tests}
use Rattle.std.specs.Prelude.{codes}
use Rattle.std.specs.Fmt.{decimal}
use Rattle.script_text.specs.Grammar.{has_client, IsFor}
use Rattle.script_text.specs.Grammar.IsFor.{named, unnamed}
use Rattle.script_text.specs.Lines.{IsCut, words_in, words_of}
use Rattle.script_text.specs.Words.{IsPathCut}
use Rattle.script_text.proofs.OneWord.{colon_slash, one_cut}
use Rattle.script_text.proofs.TextCuts.{cut_words}

-- a word without `/` behind its first colon is no path
pub no_slash : (word before rest : List ℕ) → IsCut 58 word before (Some rest) → ((names : List ℕ) → rest ≢ 47 ∷ names) → (sub names : List ℕ) → ¬ IsPathCut word sub names
no_slash word before rest cut none sub names is =
    none names (one_cut before sub rest (47 ∷ names) cut.unbroken is.colonless (sym cut.parts ∙ is.text ∙ colon_slash sub names)).1

module _ (line first : List ℕ) (rest : Option (List ℕ)) (cut : IsCut 32 line first rest) where
  -- `@` and a client's number come first
  pub for_named : (number : List ℕ) → first ≡ 64 ∷ number → (client : ℕ) → client < 16 → number ≡ decimal client → IsFor (words_of line) client (words_in rest)
  for_named number is client below same =
      let word : first ≡ codes "@" ++ decimal client = is ∙ ap (λ n. 64 ∷ n) same in
      named below (cut_words line first rest cut ∙ ap (λ w. w ∷ words_in rest) word)

  -- `@` comes first, and no client's number
  pub for_none : (number : List ℕ) → first ≡ 64 ∷ number → ((client : ℕ) → client < 16 → number ≢ decimal client) → (client : ℕ) (later : List (List ℕ)) → ¬ IsFor (words_of line) client later
  for_none number is none client later (named below also) =
      let same : (64 ∷ number) ∷ words_in rest ≡ (64 ∷ decimal client) ∷ later = ap (λ w. w ∷ words_in rest) (sym is) ∙ sym (cut_words line first rest cut) ∙ also in
      let digits : number ≡ decimal client = cc in
      none client below digits
  for_none number is none client later (unnamed zero free also) =
      false≢true (sym free ∙ ap has_client (cut_words line first rest cut ∙ ap (λ w. w ∷ words_in rest) is))

  -- `@` doesn't come first
  pub for_first : ((number : List ℕ) → first ≢ 64 ∷ number) → IsFor (words_of line) 0 (words_of line)
  for_first none = unnamed refl (ap has_client (cut_words line first rest cut) ∙ by first none) refl
    where
      by : (first : List ℕ) → ((number : List ℕ) → first ≢ 64 ∷ number) → has_client (first ∷ words_in rest) ≡ false
      by [] none = refl
      by (byte ∷ word) none = let other : byte ≢ 64 = λ is. none word (ap (λ b. b ∷ word) is) in grind (arith, nat_tests, other)
