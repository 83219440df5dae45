-- What the parts of the reader say of a word, of the words behind a verb, and of a line.
use Rattle.std.specs.Prelude.{◌≡◌, ◌≢◌, ℕ, List, Option, Ok}
use Rattle.std.specs.List.{AllZip}
use Rattle.hex.specs.Hex.{decode_of}
use Rattle.forest_ops.specs.declared.operation.Op.{Op}
use Rattle.script_text.specs.Arguments.{Kind, SaysArgument, SaysNothing, fault_of}
use Rattle.script_text.specs.Faults.{IsFaultBehind}
use Rattle.script_text.specs.Grammar.{HasFault}
use Rattle.script_text.specs.Operations.{arguments_of, verb_of}
use Rattle.script_text.specs.Words.{SaysNames}
use Rattle.script_text.specs.declared.reading.LineFault.TheVariants.{BadArgs, BadPath}
use Rattle.script_text.specs.declared.reading.ReadFault.{ReadFault}
use Rattle.script_text.specs.declared.reading.ReadFault.TheVariants.{Faulty, OutOfMemory}
use Rattle.script_text.specs.declared.reading.ScriptFault.{ScriptFault}
use Rattle.script_text.specs.declared.reading.ScriptFault.TheVariants.{Bad, NoMemory}
use Rattle.script_text.specs.declared.verb.Verb.{Verb}

-- the word stands for nothing of this kind; out of memory says nothing of it
abbrev pub IsFaultOfWord : Kind → List ℕ → ReadFault → Type 0
IsFaultOfWord kind word (Faulty fault) = SaysNothing kind word × (fault ≡ fault_of kind)
IsFaultOfWord kind word OutOfMemory = Unit {0}

-- the text is no names; out of memory says nothing of it
abbrev pub IsFaultOfNames : List ℕ → ReadFault → Type 0
IsFaultOfNames text (Faulty fault) = ((names : List (List ℕ)) → ¬ SaysNames text names) × (fault ≡ BadPath)
IsFaultOfNames text OutOfMemory = Unit {0}

-- the word is no bytes; out of memory says nothing of it
abbrev pub IsFaultOfHex : List ℕ → ReadFault → Type 0
IsFaultOfHex word (Faulty fault) = ((bytes : List ℕ) → decode_of word ≢ Ok bytes) × (fault ≡ BadArgs)
IsFaultOfHex word OutOfMemory = Unit {0}

-- the words behind a verb with these forms have the fault; out of memory says nothing of them
abbrev pub IsFaultOfWords : List (List Kind) → List (List ℕ) → ReadFault → Type 0
IsFaultOfWords forms words (Faulty fault) = IsFaultBehind forms words fault
IsFaultOfWords forms words OutOfMemory = Unit {0}

-- the words behind the verb say what the operation needs
abbrev pub SaysBehind : Verb → List (List ℕ) → Option Op → Type 0
SaysBehind verb words said = (verb ≡ verb_of said) × AllZip SaysArgument words (arguments_of said)

-- the line has the fault; out of memory says nothing of it
abbrev pub IsFaultOfText : List ℕ → ReadFault → Type 0
IsFaultOfText line (Faulty fault) = HasFault line fault
IsFaultOfText line OutOfMemory = Unit {0}

-- the line of this number has the fault; out of memory says nothing of it
abbrev pub IsFaultOfLine : ℕ → List ℕ → ScriptFault → Type 0
IsFaultOfLine number text (Bad line cause) = (line ≡ number) × HasFault text cause
IsFaultOfLine number text NoMemory = Unit {0}
