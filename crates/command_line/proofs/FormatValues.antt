-- What the values of the options make, and what clap's answer says of the arguments.
use Rattle.std.proofs.Common.{◌≡◌, ◌∙◌, ◌↔◌, ℕ, Bool, true, false, true≢false, List, [], ◌∷◌, Option, Some, None, Result, Ok, Err, IfErr, IfOk, IsOk, inl, inr, refl, sym, ap, codes}
use Rattle.std.specs.Result.{IsErrAnd, result_ok}
use Rattle.std.proofs.lemmas.Option.{none-some}
use Rattle.clap.specs.Words.{HasKind, IsAmong, Kinds, Text, fault_of, first_of, first_value, is_simple_and_free, is_simple, kind_of, matches_of, rows_of}
use Rattle.clap.specs.declared.error.Error.{Error}
use Rattle.clap.specs.declared.error.kind.ErrorKind.TheVariants as kind
use Rattle.clap.specs.declared.parser.matches.Found.{Found}
use Rattle.clap.proofs.OnLiterals.{clap_on_literals}
use Rattle.clap.proofs.WalkLemmas.{first_value-rows}
use Rattle.uuid.specs.Text.{parsed}
use Rattle.std.specs.Prelude.{option_and_then}
use Rattle.command_line.specs.Command.{format_app}
use Rattle.command_line.specs.Options.{value_of}
use Rattle.command_line.specs.Requests.{format_of, format_with}
use Rattle.command_line.proofs.ClapCommand.{clap_is_format}
use Rattle.command_line.proofs.ClapWalk.{when_none}
use Rattle.command_line.proofs.ReadingLemmas.{stray_words}
use Rattle.std.specs.List.{list_any}
use Rattle.std.specs.Option.{ok_or}
use Rattle.command_line.specs.Words.{is_stray}
use Rattle.command_line.specs.declared.request.WordsFault.{WordsFault}
use Rattle.command_line.specs.declared.request.WordsFault.TheVariants.{NoMemory, Usage}

-- a text that is refused as an id parses to none
refused_parse : {T E : Type 0} (r : Result T E) (o : Option (List ℕ)) → (((u : List ℕ) × (o ≡ Some u)) → IsOk r) → None ≡ result_ok r → o ≡ None
refused_parse r None ok none = refl
refused_parse (Ok x) (Some u) ok none = absurd (none-some x none)
refused_parse (Err e) (Some u) ok none = absurd (true≢false (sym (ok (u, refl))))

pub refused_id : {T E : Type 0} (r : Result T E) (text : List ℕ) → IsOk r ↔ ((u : List ℕ) × (parsed text ≡ Some u)) → None ≡ result_ok r → parsed text ≡ None
refused_id r text ok none = refused_parse r (parsed text) ok.1 none

-- without an id there is no request
pub no_format : (value : Text → Option Text) (text : Text) → value (codes "id") ≡ Some text → parsed text ≡ None → None ≡ format_with value
no_format value text is none = sym (rw (is, none) refl)

-- the command is one whose matches and faults clap says
pub app_is_simple : is_simple_and_free format_app ≡ true
unfolding clap_on_literals
app_is_simple = refl

pub app_is_plain : is_simple format_app ≡ true
unfolding clap_on_literals
app_is_plain = refl

-- what clap found makes what the arguments ask for
pub found_format : (words : List Text) (f : Found) → list_any is_stray words ≡ false → fault_of format_app words ≡ [] → rows_of f ≡ matches_of format_app words
    → format_with (first_value f) ≡ format_of words
found_format words f plain none found =
    (λ i. format_with (λ name. first_value-rows f name i)) ∙ ap (λ rs. format_with (λ name. first_of name rs)) found
    ∙ ap (λ faults. when_none faults (format_with (λ name. first_of name (matches_of format_app words)))) (sym none) ∙ clap_is_format words plain

-- arguments of which one is stray ask for nothing
pub stray_format : (words : List Text) → list_any is_stray words ≡ true → format_of words ≡ None
stray_format words is = ap (option_and_then (λ given. format_with (λ name. value_of name given))) (stray_words words is [] None)

-- where there is a fault there is nothing
fault_is_none : {X : Type 0} (k : _) (kinds : Kinds) → IsAmong k kinds → (o : Option X) → when_none kinds o ≡ None
fault_is_none k [] h o = absurd h
fault_is_none k (x ∷ xs) h o = refl

-- an error other than of memory means that the arguments ask for nothing
pub refused_format : (words : List Text) (e : Error) → list_any is_stray words ≡ false → HasKind (fault_of format_app words) e → (kind_of e ≡ kind.OutOfMemory → ⊥) → format_of words ≡ None
refused_format words e plain (inl memory) other = absurd (other memory)
refused_format words e plain (inr among) other =
    sym (clap_is_format words plain) ∙ fault_is_none (kind_of e) (fault_of format_app words) among (format_with (λ name. first_of name (matches_of format_app words)))

-- whether the fault is of the arguments
abbrev is_usage : WordsFault → Bool
is_usage Usage = true
is_usage NoMemory = false

-- where memory ran out the arguments are not at fault
pub memory_is_no_usage : {T : Type 0} (r : Result T WordsFault) (X : Type 0) → IsErrAnd r (λ fault. fault ≡ NoMemory) → IfErr r (λ fault. fault ≡ Usage → X)
memory_is_no_usage (Ok x) X h = tt
memory_is_no_usage (Err fault) X h = λ usage. absurd (true≢false (ap is_usage (sym usage ∙ h)))

-- what is a request is the answer
pub answers : {T : Type 0} (o means : Option T) → o ≡ means → IfOk (ok_or o Usage) (λ x. means ≡ Some x)
answers None means is = tt
answers (Some x) means is = sym is

-- where there is no request the arguments are at fault
pub refuses : {T : Type 0} (o means : Option T) → o ≡ means → IfErr (ok_or o Usage) (λ fault. fault ≡ Usage → means ≡ None)
refuses None means is = λ _. sym is
refuses (Some x) means is = tt
