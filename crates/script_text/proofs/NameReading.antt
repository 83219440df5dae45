-- Names, read from the left.
use Rattle.std.proofs.Common.{◌≡◌, ℕ, ◌<◌, Bool, true, false, List, [], ◌∷◌, ◌++◌, length, Option, Some, None, refl, sym, subst, ap, ◌∙◌, arith, append_assoc, append-nil, length-append}
use Rattle.std.proofs.lemmas.Bool.Decides.{nat_tests}
use Rattle.std.specs.Prelude.{◌==◌}
use Rattle.std.specs.List.{AllZip, slice_split}
use Rattle.script_text.specs.Lines.{IsCut}
use Rattle.script_text.specs.Arguments.Kind.{NameWord}
use Rattle.script_text.specs.Readings.{IsFaultOfNames, IsFaultOfWord}
use Rattle.script_text.specs.declared.reading.ReadFault.{ReadFault}
use Rattle.script_text.specs.declared.reading.ReadFault.TheVariants.{Faulty, OutOfMemory}
use Rattle.script_text.specs.Words.{BeginsWith, SaysName, SaysNames}
use Rattle.script_text.proofs.OneName.{none_first, one_first}
use Rattle.script_text.proofs.TextCuts.{cut_splits, parts_behind}

-- The word is read up to the rest, and begins with this name.
pub record IsNameTo (word rest name : List ℕ) : Type 0 where
  pub onward : (more : List ℕ) → SaysName rest more → SaysName word (name ++ more)
  pub back : (whole : List ℕ) → SaysName word whole → (more : List ℕ) × SaysName rest more

module _ (word rest name : List ℕ) (read : IsNameTo word rest name) where
  -- a byte more is read
  pub name_goes_on : (byte : ℕ) (later : List ℕ) → BeginsWith rest byte later → IsNameTo word later (name ++ byte ∷ [])
  name_goes_on byte later begins = record {
    onward = λ more says. subst (SaysName word) (sym (append_assoc name (byte ∷ []) more)) (read.onward (byte ∷ more) (later, begins, says));
    back = λ whole says. by (read.back whole says).0 (read.back whole says).1;
  }
    where
      by : (more : List ℕ) → SaysName rest more → (left : List ℕ) × SaysName later left
      by [] empty = absurd (none_first rest byte later empty begins)
      by (other ∷ more) says = (more, subst (λ text. SaysName text more) (one_first rest other byte says.0 later says.1 begins).1 says.2)

  -- nothing is left
  pub name_ends : rest ≡ [] → SaysName word name
  name_ends empty = subst (SaysName word) (append-nil name) (read.onward [] empty)

  -- what is left begins with no byte of a name
  pub name_breaks : 0 < length rest → ((byte : ℕ) (later : List ℕ) → ¬ BeginsWith rest byte later) → (whole : List ℕ) → ¬ SaysName word whole
  name_breaks some none whole says = by (read.back whole says).0 (read.back whole says).1
    where
      by : (more : List ℕ) → SaysName rest more → ⊥
      by [] empty = let none_left : 0 < length {A = ℕ} [] = subst (λ text. 0 < length text) empty some in omega (arith, none_left)
      by (byte ∷ more) says = none byte says.0 says.1

-- a text's parts at `/`
abbrev pub parts : List ℕ → List (List ℕ)
parts text = slice_split (λ b. b == 47) text

-- The text is read up to the rest, and begins with these names.
pub record AreNamesTo (text rest : List ℕ) (names : List (List ℕ)) : Type 0 where
  pub onward : (more : List (List ℕ)) → AllZip SaysName (parts rest) more → SaysNames text (names ++ more)
  pub back : (whole : List (List ℕ)) → SaysNames text whole → (more : List (List ℕ)) × AllZip SaysName (parts rest) more

pub names_begin : (text : List ℕ) → 0 < length text → AreNamesTo text text []
names_begin [] some = absurd (omega (arith, some))
names_begin (byte ∷ text) some = record { onward = λ more says. says; back = λ whole says. (whole, says) }

module _ (text rest : List ℕ) (names : List (List ℕ)) (read : AreNamesTo text rest names) (word : List ℕ) (later : Option (List ℕ)) (cut : IsCut 47 rest word later) where
  cut_parts : parts rest ≡ word ∷ parts_behind 47 later
  cut_parts = cut_splits 47 rest word later cut

  -- a name and those behind it are those of the rest
  with_name : (name : List ℕ) (more : List (List ℕ)) → SaysName word name → AllZip SaysName (parts_behind 47 later) more → SaysNames text (names ++ name ∷ more)
  with_name name more is says = read.onward (name ∷ more) (subst (λ words. AllZip SaysName words (name ∷ more)) (sym cut_parts) (is, says))

  -- what the rest says begins with a name
  first_name : (whole : List (List ℕ)) → SaysNames text whole → (name : List ℕ) × SaysName word name × (more : List (List ℕ)) × AllZip SaysName (parts_behind 47 later) more
  first_name whole says = by (read.back whole says).0 (subst (λ words. AllZip SaysName words (read.back whole says).0) cut_parts (read.back whole says).1)
    where
      by : (more : List (List ℕ)) → AllZip SaysName (word ∷ parts_behind 47 later) more → (name : List ℕ) × SaysName word name × (more : List (List ℕ)) × AllZip SaysName (parts_behind 47 later) more
      by [] are = absurd are
      by (name ∷ more) are = (name, are.0, more, are.1)

  -- a word that is no name breaks them
  pub names_break : ((name : List ℕ) → ¬ SaysName word name) → (whole : List (List ℕ)) → ¬ SaysNames text whole
  names_break none whole says = let first = first_name whole says in none first.0 first.1

pub names_go_on : (text rest : List ℕ) (names : List (List ℕ)) → AreNamesTo text rest names → (word later name : List ℕ) → IsCut 47 rest word (Some later) → SaysName word name
    → AreNamesTo text later (names ++ name ∷ [])
names_go_on text rest names read word later name cut is = record {
  onward = λ more says. subst (SaysNames text) (sym (append_assoc names (name ∷ []) more)) (with_name text rest names read word (Some later) cut name more is says);
  back = λ whole says. let first = first_name text rest names read word (Some later) cut whole says in (first.2, first.3);
}

pub names_end : (text rest : List ℕ) (names : List (List ℕ)) → AreNamesTo text rest names → (word name : List ℕ) → IsCut 47 rest word None → SaysName word name
    → SaysNames text (names ++ name ∷ [])
names_end text rest names read word name cut is = with_name text rest names read word None cut name [] is tt

-- a word that is no name is a fault of all names
pub names_fault : (text rest : List ℕ) (names : List (List ℕ)) → AreNamesTo text rest names → (word : List ℕ) (later : Option (List ℕ)) → IsCut 47 rest word later
    → (fault : ReadFault) → IsFaultOfWord NameWord word fault → IsFaultOfNames text fault
names_fault text rest names read word later cut (Faulty fault) is = (names_break text rest names read word later cut is.0, is.1)
names_fault text rest names read word later cut OutOfMemory is = tt

-- what is behind a byte is shorter
pub cut_shorter : (byte : ℕ) (text before rest : List ℕ) → IsCut byte text before (Some rest) → length rest < length text
cut_shorter byte text before rest cut =
    let long : length text ≡ length (before ++ byte ∷ rest) = ap length cut.parts in omega (arith, long, length-append before (byte ∷ rest))

-- a text that isn't empty has a byte
pub some_left : (text : List ℕ) (empty : Bool) → empty ≡ (length text == 0) → empty ≡ false → 0 < length text
some_left text empty is so = let none : (length text == 0) ≡ false = sym is ∙ so in grind (arith, nat_tests, none)

-- and one that is has none
pub none_left : (text : List ℕ) (empty : Bool) → empty ≡ (length text == 0) → empty ≡ true → text ≡ []
none_left [] empty is so = refl
none_left (byte ∷ text) empty is so = let none : (length (byte ∷ text) == 0) ≡ true = sym is ∙ so in absurd (grind (arith, nat_tests, none))
