-- What a word of a kind stands for is one thing.
use Rattle.std.proofs.Common.{◌≡◌, ℕ, Bool, true, not, List, [], ◌∷◌, ◌++◌, refl, sym, subst, ap, ◌∙◌, append_assoc}
use Rattle.std.proofs.lemmas.Bool.{and_parts, false≢true}
use Rattle.std.proofs.lemmas.Fmt.{decimal_injective}
use Rattle.std.specs.Prelude.{◌==◌, codes}
use Rattle.std.specs.List.{list_all}
use Rattle.plain_forest.specs.declared.path.Path.{Path}
use Rattle.script_text.specs.Arguments.{Argument, Kind, Said, SaysAs}
use Rattle.script_text.specs.Arguments.Kind.{PathWord, NameWord, NumberWord, LengthWord, BytesWord, LockedWord}
use Rattle.script_text.specs.Words.{IsPathCut, SaysName, SaysNames, SaysPath, SaysNumber, SaysBytes}
use Rattle.script_text.proofs.OneName.{one_name, one_names}

-- no colon is among the bytes
abbrev pub is_colonless : List ℕ → Bool
is_colonless bytes = list_all (λ byte. not (byte == 58)) bytes

not_colonless : (byte : ℕ) (bytes : List ℕ) → byte ≡ 58 → is_colonless (byte ∷ bytes) ≡ true → ⊥
not_colonless byte bytes is none = false≢true (subst (λ b. not (b == 58) ≡ true) is (and_parts (not (byte == 58)) (is_colonless bytes) none).0)

-- what stands before the first colon, and behind it
pub one_cut : (a b x y : List ℕ) → is_colonless a ≡ true → is_colonless b ≡ true → a ++ 58 ∷ x ≡ b ++ 58 ∷ y → (a ≡ b) × (x ≡ y)
one_cut [] [] x y fine good same = (refl, cc)
one_cut [] (d ∷ b) x y fine good same = absurd (not_colonless d b (cc) good)
one_cut (c ∷ a) [] x y fine good same = absurd (not_colonless c a (cc) fine)
one_cut (c ∷ a) (d ∷ b) x y fine good same =
    let first : c ≡ d = cc in
    let later : a ++ 58 ∷ x ≡ b ++ 58 ∷ y = cc in
    let rest = one_cut a b x y (and_parts (not (c == 58)) (is_colonless a) fine).1 (and_parts (not (d == 58)) (is_colonless b) good).1 later in
    (ap (λ byte. byte ∷ a) first ∙ ap (λ bytes. d ∷ bytes) rest.0, rest.1)

pub colon_slash : (sub names : List ℕ) → sub ++ codes ":/" ++ names ≡ sub ++ 58 ∷ 47 ∷ names
colon_slash sub names = append_assoc sub (codes ":/") names

pub one_path_cut : (word sub names other others : List ℕ) → IsPathCut word sub names → IsPathCut word other others → (sub ≡ other) × (names ≡ others)
one_path_cut word sub names other others is also =
    let cut = one_cut sub other (47 ∷ names) (47 ∷ others) is.colonless also.colonless (sym (is.text ∙ colon_slash sub names) ∙ also.text ∙ colon_slash other others) in
    let behind : 47 ∷ names ≡ 47 ∷ others = cut.1 in
    (cut.0, cc)

pub one_path : (word : List ℕ) (a b : Path) → SaysPath word a → SaysPath word b → a ≡ b
one_path word a b is also =
    let same = one_path_cut word is.sub is.names also.sub also.names is.cut also.cut in
    let made : List ℕ → List (List ℕ) → Path = λ sub names. record { sub = sub; names = names } in
    ap (λ sub. made sub a.names) (one_name also.sub a.sub b.sub (subst (λ word. SaysName word a.sub) same.0 is.sub_said) also.sub_said)
    ∙ ap (λ names. made b.sub names) (one_names also.names a.names b.names (subst (λ text. SaysNames text a.names) same.1 is.names_said) also.names_said)

pub one_number : (word : List ℕ) (a b : ℕ) → SaysNumber word a → SaysNumber word b → a ≡ b
one_number word a b is also = decimal_injective a b is.fits also.fits (sym is.text ∙ also.text)

one_bytes : (word a b : List ℕ) → SaysBytes word a → SaysBytes word b → a ≡ b
one_bytes word a b is also = let same = sym is.said ∙ also.said in cc

pub one_said : (kind : Kind) (word : List ℕ) (a b : Said kind) → SaysAs kind word a → SaysAs kind word b → a ≡ b
one_said PathWord word a b is also = one_path word a b is also
one_said NameWord word a b is also = one_name word a b is also
one_said NumberWord word a b is also = one_number word a b is also
one_said LengthWord word a b is also = one_number word a b is.said also.said
one_said BytesWord word a b is also = one_bytes word a b is also
one_said LockedWord word a b is also = refl

-- the same, of two kinds that are one
pub one_argument : (word : List ℕ) (a b : Argument) → a.0 ≡ b.0 → SaysAs a.0 word a.1 → SaysAs b.0 word b.1 → a ≡ b
one_argument word a b kind is also =
    let pair : (k : Kind) → Said k → Argument = λ k s. (k, s) in
    subst (λ k. (y : Said k) → SaysAs k word y → a ≡ pair k y) kind (λ y says. ap (pair a.0) (one_said a.0 word a.1 y is says)) b.1 also
