-- The faults of words behind a verb with one form.
use Rattle.std.proofs.Common.{◌≡◌, ◌≢◌, ℕ, Bool, true, false, cond, List, [], ◌∷◌, length, Option, Some, None, refl, sym, subst, ap, ◌∙◌, ◌+◌, arith}
use Rattle.std.proofs.lemmas.Bool.Decides.{nat_tests}
use Rattle.std.specs.Prelude.{◌==◌, IfNone, MatchOption, option_copied}
use Rattle.std.specs.Borrow.{Bor}
use Rattle.std.specs.List.{onto_first}
use Rattle.script_text.specs.Arguments.{Kind}
use Rattle.script_text.specs.Faults.{IsFaultBehind, IsFirstFault}
use Rattle.script_text.specs.Lines.{IsCut, words_in, words_of}
use Rattle.script_text.specs.declared.reading.LineFault.TheVariants.{BadArgs}
use Rattle.script_text.proofs.TextCuts.{cut_words}

-- words that are too few or too many
pub no_form : (kinds : List Kind) (words : List (List ℕ)) → length words ≢ length kinds → IsFaultBehind (kinds ∷ []) words BadArgs
no_form kinds words other =
    let test : (length kinds == length words) ≡ false = grind (arith, nat_tests) in
    subst (λ fits. MatchOption (cond fits (Some kinds) None) (BadArgs ≡ BadArgs) (λ form. IsFirstFault form words BadArgs)) (sym test) refl

-- a line has a word
pub some_word : (line : List ℕ) → words_of line ≢ []
some_word [] none = cc
some_word (byte ∷ line) none = by (byte == 32) (words_of line) none
  where
    by : (ends : Bool) (words : List (List ℕ)) → cond ends ([] ∷ words) (onto_first byte words) ≢ []
    by true words none = cc
    by false [] none = cc
    by false (word ∷ words) none = cc

empty_words : (words : List (List ℕ)) → length words ≡ 0 → words ≡ []
empty_words [] none = refl
empty_words (word ∷ words) none = absurd (omega (arith, none))

-- so there is one behind a verb and a space
pub never_none : (line : List ℕ) → IsFaultBehind ([] ∷ []) (words_of line) BadArgs
never_none line = no_form [] (words_of line) (λ none. some_word line (empty_words (words_of line) none))

-- the words behind a verb, cut at the first space
pub words_cut : (words : Option (Bor (List ℕ))) (text : Bor (List ℕ)) (word : List ℕ) (more : Option (List ℕ)) → words ≡ Some text → IsCut 32 text.now word more
    → words_in (option_copied words) ≡ word ∷ words_in more
words_cut words text word more is cut = ap (λ w. words_in (option_copied w)) is ∙ cut_words text.now word more cut

-- one word more than others
pub one_more : (words : List (List ℕ)) (word : List ℕ) (more : List (List ℕ)) (count : ℕ) → words ≡ word ∷ more → length more ≢ count → length words ≢ count + 1
one_more words word more count is other same =
    let long : length words ≡ length (word ∷ more) = ap length is in other (omega (arith, long, same))

pub if_none : {A P : Type 0} (r : Option A) → r ≡ None → P → IfNone r P
if_none {A} {P} r is p = subst (λ (o : Option A). IfNone o P) (sym is) p

pub if_none_then : {A P Q : Type 0} (r : Option A) → IfNone r P → (P → Q) → IfNone r Q
if_none_then None p follows = follows p
if_none_then (Some x) p follows = p

-- behind a space there are words
pub some_words : (words : Option (List ℕ)) (text : List ℕ) → words ≡ Some text → length (words_in words) ≢ 0
some_words words text is none = some_word text (empty_words (words_of text) (sym (ap (λ w. length (words_in w)) is) ∙ none))
