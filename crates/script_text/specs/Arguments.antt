-- The arguments of a verb.
use Rattle.std.specs.Prelude.{◌≡◌, ℕ, List, codes}
use Rattle.plain_forest.specs.declared.path.Path.{Path}
use Rattle.script_text.specs.Words.{SaysBytes, SaysLength, SaysName, SaysNumber, SaysPath}
use Rattle.script_text.specs.declared.reading.LineFault.{LineFault}
use Rattle.script_text.specs.declared.reading.LineFault.TheVariants.{BadArgs, BadPath}

-- What a word has to be where it stands.
pub data Kind : Type 0 where
  PathWord : Kind
  NameWord : Kind
  NumberWord : Kind
  LengthWord : Kind
  BytesWord : Kind
  LockedWord : Kind

-- what a word of the kind stands for
abbrev pub Said : Kind → Type 0
Said PathWord = Path
Said NameWord = List ℕ
Said NumberWord = ℕ
Said LengthWord = ℕ
Said BytesWord = List ℕ
Said LockedWord = Unit {0}

-- the word stands for this, as a word of the kind
abbrev pub SaysAs : (kind : Kind) → List ℕ → Said kind → Type 0
SaysAs PathWord word path = SaysPath word path
SaysAs NameWord word name = SaysName word name
SaysAs NumberWord word number = SaysNumber word number
SaysAs LengthWord word number = SaysLength word number
SaysAs BytesWord word bytes = SaysBytes word bytes
SaysAs LockedWord word _ = word ≡ codes "ro"

-- an argument: what kind of word it is, and what it stands for
abbrev pub Argument : Type 0
Argument = (kind : Kind) × Said kind

-- the word is the argument
abbrev pub SaysArgument : List ℕ → Argument → Type 0
SaysArgument word argument = SaysAs argument.0 word argument.1

-- the word stands for something of this kind
abbrev pub SaysSome : Kind → List ℕ → Type 0
SaysSome kind word = (said : Said kind) × SaysAs kind word said

-- the word stands for nothing of this kind
abbrev pub SaysNothing : Kind → List ℕ → Type 0
SaysNothing kind word = (said : Said kind) → ¬ SaysAs kind word said

-- the fault of a line where a word of this kind stands for nothing
abbrev pub fault_of : Kind → LineFault
fault_of PathWord = BadPath
fault_of NameWord = BadPath
fault_of NumberWord = BadArgs
fault_of LengthWord = BadArgs
fault_of BytesWord = BadArgs
fault_of LockedWord = BadArgs
