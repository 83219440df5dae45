-- What a line of a script says, and which fault it has.
use Rattle.std.specs.Prelude.{◌≡◌, ℕ, ◌<◌, ◌==◌, ◌++◌, Bool, false, IsTrue, List, ◌∷◌, codes, Option}
use Rattle.std.specs.Fmt.{decimal}
use Rattle.std.specs.List.{AllZip}
use Rattle.forest_ops.specs.declared.operation.Op.{Op}
use Rattle.script_text.specs.Arguments.{SaysArgument}
use Rattle.script_text.specs.Faults.{IsFaultBehind}
use Rattle.script_text.specs.Lines.{words_of}
use Rattle.script_text.specs.Operations.{arguments_of, verb_of}
use Rattle.script_text.specs.Verbs.{forms, is_supported, verb_word}
use Rattle.script_text.specs.declared.reading.LineFault.{LineFault}
use Rattle.script_text.specs.declared.reading.LineFault.TheVariants.{BadVerb, BadArgs, BadPath, BadClient}
use Rattle.script_text.specs.declared.verb.Verb.{Verb}

-- the first word begins with `@`
abbrev pub has_client : List (List ℕ) → Bool
has_client ((byte ∷ word) ∷ words) = byte == 64
has_client _ = false

-- The words are for a client, and the rest stands behind its number: `@` and the number come first, or it is client 0.
pub data IsFor (words : List (List ℕ)) (client : ℕ) (rest : List (List ℕ)) : Type 0 where
  named : client < 16 → words ≡ (codes "@" ++ decimal client) ∷ rest → IsFor words client rest
  unnamed : client ≡ 0 → has_client words ≡ false → words ≡ rest → IsFor words client rest

-- The line is for this client, and has these words behind this verb, which the program runs.
pub record HasVerb (line : List ℕ) (client : ℕ) (verb : Verb) (words : List (List ℕ)) : Type 0 where
  pub for_client : IsFor (words_of line) client (verb_word verb ∷ words)
  pub supported : IsTrue (is_supported verb)

-- The line says to the client to do the operation, or is a barrier where there is none.
pub record Says (line : List ℕ) (client : ℕ) (said : Option Op) : Type 0 where
  pub words : List (List ℕ)
  pub has_verb : HasVerb line client (verb_of said) words
  pub arguments : AllZip SaysArgument words (arguments_of said)

-- The line has a client, and no verb that the program runs.
pub record HasNoVerb (line : List ℕ) : Type 0 where
  pub client : ℕ
  pub rest : List (List ℕ)
  pub for_client : IsFor (words_of line) client rest
  pub verbless : (verb : Verb) (words : List (List ℕ)) → ¬ HasVerb line client verb words

-- The line has a client and a verb, and the words behind the verb have the fault.
pub record HasBadWords (line : List ℕ) (fault : LineFault) : Type 0 where
  pub client : ℕ
  pub verb : Verb
  pub words : List (List ℕ)
  pub has_verb : HasVerb line client verb words
  pub bad : IsFaultBehind (forms verb) words fault

-- the fault of a line: of its client, then of its verb, then of the words behind it
abbrev pub HasFault : List ℕ → LineFault → Type 0
HasFault line BadClient = (client : ℕ) (rest : List (List ℕ)) → ¬ IsFor (words_of line) client rest
HasFault line BadVerb = HasNoVerb line
HasFault line BadArgs = HasBadWords line BadArgs
HasFault line BadPath = HasBadWords line BadPath
