-- A line says one thing at most, or has one fault.
use Rattle.std.proofs.Common.{◌≡◌, ℕ, false, List, ◌∷◌, Option, refl, sym, subst, ap, ◌∙◌, arith}
use Rattle.std.proofs.lemmas.Bool.{false≢true}
use Rattle.std.proofs.lemmas.Fmt.{decimal_injective}
use Rattle.std.specs.Fmt.{decimal}
use Rattle.std.specs.List.{AllZip}
use Rattle.forest_ops.specs.declared.operation.Op.{Op}
use Rattle.script_text.specs.Arguments.{SaysArgument}
use Rattle.script_text.specs.Faults.{IsFaultBehind}
use Rattle.script_text.specs.Grammar.{has_client, IsFor, HasVerb, Says, HasNoVerb, HasBadWords, HasFault}
use Rattle.script_text.specs.Grammar.IsFor.{named, unnamed}
use Rattle.script_text.specs.Lines.{words_of}
use Rattle.script_text.specs.Operations.{arguments_of, verb_of}
use Rattle.script_text.specs.Verbs.{forms, verb_word}
use Rattle.script_text.specs.declared.reading.LineFault.{LineFault}
use Rattle.script_text.specs.declared.reading.LineFault.TheVariants.{BadVerb, BadArgs, BadPath, BadClient}
use Rattle.script_text.specs.declared.verb.Verb.{Verb}
use Rattle.script_text.proofs.OneVerb.{no_fault_behind, one_behind, one_fault_behind, one_verb}

-- a number behind `@` is a client
both_clients : (words : List (List ℕ)) (number : List ℕ) (rest : List (List ℕ)) → words ≡ (64 ∷ number) ∷ rest → has_client words ≡ false → ⊥
both_clients words number rest is none = false≢true (sym none ∙ ap has_client is)

pub one_client : (words : List (List ℕ)) (a b : ℕ) (rest later : List (List ℕ)) → IsFor words a rest → IsFor words b later → (a ≡ b) × (rest ≡ later)
one_client words a b rest later (named below is) (named under also) =
    let same : (64 ∷ decimal a) ∷ rest ≡ (64 ∷ decimal b) ∷ later = sym is ∙ also in
    let number : decimal a ≡ decimal b = cc in
    (decimal_injective a b (omega (arith, below)) (omega (arith, under)) number, cc)
one_client words a b rest later (named below is) (unnamed zero none also) = absurd (both_clients words (decimal a) rest is none)
one_client words a b rest later (unnamed zero none is) (named below also) = absurd (both_clients words (decimal b) later also none)
one_client words a b rest later (unnamed zero none is) (unnamed null free also) = (zero ∙ sym null, sym is ∙ also)

-- the client, the verb and the words behind it
pub one_had : (line : List ℕ) (a b : ℕ) (verb other : Verb) (words others : List (List ℕ)) → HasVerb line a verb words → HasVerb line b other others → (a ≡ b) × (verb ≡ other) × (words ≡ others)
one_had line a b verb other words others is also =
    let same = one_client (words_of line) a b (verb_word verb ∷ words) (verb_word other ∷ others) is.for_client also.for_client in
    let behind : verb_word verb ∷ words ≡ verb_word other ∷ others = same.1 in
    let word : verb_word verb ≡ verb_word other = cc in
    (same.0, one_verb verb other word, cc)

pub one_says : (line : List ℕ) (c d : ℕ) (a b : Option Op) → Says line c a → Says line d b → (c ≡ d) × (a ≡ b)
one_says line c d a b is also =
    let same = one_had line c d (verb_of a) (verb_of b) is.words also.words is.has_verb also.has_verb in
    (same.0, one_behind also.words a b same.1 (subst (λ words. AllZip SaysArgument words (arguments_of a)) same.2 is.arguments) also.arguments)

-- a line with a verb doesn't lack one
verb_or_none : (line : List ℕ) (client : ℕ) (verb : Verb) (words : List (List ℕ)) → HasVerb line client verb words → HasNoVerb line → ⊥
verb_or_none line client verb words has none =
    let same = one_client (words_of line) client none.client (verb_word verb ∷ words) none.rest has.for_client none.for_client in
    none.verbless verb words (subst (λ c. HasVerb line c verb words) same.0 has)

good_or_bad : (line : List ℕ) (client : ℕ) (said : Option Op) (fault : LineFault) → Says line client said → HasBadWords line fault → ⊥
good_or_bad line client said fault says bad =
    let same = one_had line client bad.client (verb_of said) bad.verb says.words bad.words says.has_verb bad.has_verb in
    no_fault_behind says.words said fault says.arguments
    (subst (λ v. IsFaultBehind (forms v) says.words fault) (sym same.1) (subst (λ words. IsFaultBehind (forms bad.verb) words fault) (sym same.2) bad.bad))

-- a line that says something has no fault
pub no_fault : (line : List ℕ) (client : ℕ) (said : Option Op) (fault : LineFault) → Says line client said → HasFault line fault → ⊥
no_fault line client said BadClient says bad = bad client (verb_word (verb_of said) ∷ says.words) says.has_verb.for_client
no_fault line client said BadVerb says bad = verb_or_none line client (verb_of said) says.words says.has_verb bad
no_fault line client said BadArgs says bad = good_or_bad line client said BadArgs says bad
no_fault line client said BadPath says bad = good_or_bad line client said BadPath says bad

bad_once : (line : List ℕ) (a b : LineFault) → HasBadWords line a → HasBadWords line b → a ≡ b
bad_once line a b is also =
    let same = one_had line is.client also.client is.verb also.verb is.words also.words is.has_verb also.has_verb in
    one_fault_behind (forms also.verb) also.words a b
    (subst (λ v. IsFaultBehind (forms v) also.words a) same.1 (subst (λ words. IsFaultBehind (forms is.verb) words a) same.2 is.bad)) also.bad

verb_or_bad : (line : List ℕ) (fault : LineFault) → HasNoVerb line → HasBadWords line fault → ⊥
verb_or_bad line fault none bad = verb_or_none line bad.client bad.verb bad.words bad.has_verb none

pub one_line_fault : (line : List ℕ) (a b : LineFault) → HasFault line a → HasFault line b → a ≡ b
one_line_fault line BadClient BadClient is also = refl
one_line_fault line BadClient BadVerb is also = absurd (is also.client also.rest also.for_client)
one_line_fault line BadClient BadArgs is also = absurd (is also.client (verb_word also.verb ∷ also.words) also.has_verb.for_client)
one_line_fault line BadClient BadPath is also = absurd (is also.client (verb_word also.verb ∷ also.words) also.has_verb.for_client)
one_line_fault line BadVerb BadClient is also = absurd (also is.client is.rest is.for_client)
one_line_fault line BadVerb BadVerb is also = refl
one_line_fault line BadVerb BadArgs is also = absurd (verb_or_bad line BadArgs is also)
one_line_fault line BadVerb BadPath is also = absurd (verb_or_bad line BadPath is also)
one_line_fault line BadArgs BadClient is also = absurd (also is.client (verb_word is.verb ∷ is.words) is.has_verb.for_client)
one_line_fault line BadArgs BadVerb is also = absurd (verb_or_bad line BadArgs also is)
one_line_fault line BadArgs BadArgs is also = refl
one_line_fault line BadArgs BadPath is also = bad_once line BadArgs BadPath is also
one_line_fault line BadPath BadClient is also = absurd (also is.client (verb_word is.verb ∷ is.words) is.has_verb.for_client)
one_line_fault line BadPath BadVerb is also = absurd (verb_or_bad line BadPath also is)
one_line_fault line BadPath BadArgs is also = bad_once line BadPath BadArgs is also
one_line_fault line BadPath BadPath is also = refl
